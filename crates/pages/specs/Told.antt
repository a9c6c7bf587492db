-- What the code's refusals say.
use Rattle.std.specs.Prelude.{ℕ, List, [], ◌∷◌, Some, None, decimal, Option}
use Rattle.replays.specs.Lines.{line}
use Rattle.replays.specs.Refusals.{in_opening, in_key, in_roster, in_source, in_log}
use Rattle.replays.specs.Refusals.{Layer as ToldLayer, Refusal as ToldRefusal}
use Rattle.pages.specs.declared.refusal.Layer.{Layer}
use Rattle.pages.specs.declared.refusal.Layer.TheVariants.{Opening, Key, Roster, Source, Log}
use Rattle.pages.specs.declared.refusal.Refusal.{Refusal}

abbrev pub layer_told : Layer → ToldLayer
layer_told Opening = in_opening
layer_told Key = in_key
layer_told Roster = in_roster
layer_told Source = in_source
layer_told Log = in_log

abbrev pub refusal_told : Refusal → ToldRefusal
refusal_told r =
    record { number = r.number; byte = r.byte; layer = layer_told r.layer; tape_byte = r.tape_byte }

-- what stands after the layer, to the end of the line
abbrev pub tape_end : Option ℕ → List ℕ
tape_end None = 0x0A ∷ []
tape_end (Some byte) = 0x20 ∷ line (decimal byte) []
