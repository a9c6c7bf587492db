-- A reading as it is written. A roster's type does not say that its keys are lawful, and only a lawful key reads back from its byte form:
-- an unlawful one is taken for a hole.
use Rattle.std.specs.Prelude.{◌≡◌, ℕ, ◌+◌, Bool, true, false, List, [], ◌∷◌, ◌++◌, Some, None, Option, slice_index_or}
use Rattle.pile.specs.Answers.{Place}
use Rattle.pile.specs.Meaning.{Meaning}
use Rattle.pile.specs.declared.receipts.PlaceState.{PlaceState}
use Rattle.pile.specs.declared.receipts.PlaceState.TheVariants.{Held, Hole, NoSuchPlace}
use Rattle.calls.specs.Book.{KeyView, Book}
use Rattle.calls.specs.Steps.{key_on}
use Rattle.replays.specs.Happenings.{Reading}
use Rattle.replays.specs.Kinds.{Kind}
use Rattle.replays.specs.Lines.{place_line}

-- the byte form of a lawful key
abbrev pub form_if : (lawful : Bool) (form : List ℕ) → Option (List ℕ)
form_if true form = Some form
form_if false form = None

abbrev pub legible : Option KeyView → Option (List ℕ)
legible None = None
legible (Some key) = form_if key.lawful key.form

abbrev pub legible_on : List (Option KeyView) → List Place → List (Option (List ℕ))
legible_on slots [] = []
legible_on slots (place ∷ places) = legible (key_on slots place) ∷ legible_on slots places

abbrev pub legible_reading : Book → Meaning → Reading
legible_reading b m = record { live = m.live; unpaired = m.unpaired; places = legible_on b.slots m.places }

-- every live key is lawful
abbrev pub LiveLawful : Book → Type 0
LiveLawful b = (tag : ℕ) (key : KeyView) → slice_index_or b.slots tag None ≡ Some key → key.lawful ≡ true

-- the byte form of the key, if there is one
abbrev pub form_told : {K : Type 0} → (view : K → KeyView) → Option K → Option (List ℕ)
form_told view None = None
form_told view (Some key) = Some (view key).form

-- The lines by what the pile told of each place; there is none where there is no such place.
abbrev pub told_line : Kind → List (Option KeyView) → (i : ℕ) → PlaceState ℕ → List ℕ
told_line kind slots i (Held tag) = place_line kind i (legible (slice_index_or slots tag None))
told_line kind slots i Hole = place_line kind i None
told_line kind slots i NoSuchPlace = []

abbrev pub told_lines : Kind → List (Option KeyView) → (i : ℕ) → List (PlaceState ℕ) → List ℕ
told_lines kind slots i [] = []
told_lines kind slots i (state ∷ states) = told_line kind slots i state ++ told_lines kind slots (i + 1) states
