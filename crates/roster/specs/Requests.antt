-- What requests and their answers say, in the words of the rules.
use Rattle.std.specs.Prelude.{ℕ, Ok, Err, Result}
use Rattle.pile.specs.declared.faults.PileFault.{PileFault}
use Rattle.pile.specs.Answers.{pile_fault_number, place_told}
use Rattle.sources.specs.Answers.{source_refusal as refusal-of}
use Rattle.calls.specs.Book.{KeyView}
use Rattle.calls.specs.Calls.{admit, settle, withdraw, enter, leave, ask, what_place, what_counts, what_radix, is_live, how_many_live, what_entry, what_key}
use Rattle.calls.specs.Runs.{Request as Asked}
use Rattle.calls.specs.Steps.{Answer as Said, refusal, source_refusal, slip, entered, withdrawn, left, place_is, counts_are, radix_is, live_is, so_many, open_is, key_is}
use Rattle.roster.specs.Entering.{calling}
use Rattle.roster.specs.Numbers.{roster_fault_number}
use Rattle.roster.specs.Rosters.{open_told, key_told}
use Rattle.roster.specs.declared.request.Request.{Request}
use Rattle.roster.specs.declared.request.Request.TheVariants as call
use Rattle.roster.specs.declared.request.Answer.{Answer}
use Rattle.roster.specs.declared.request.Answer.TheVariants as answer

abbrev pub radix_told : Result ℕ PileFault → Said
radix_told (Ok radix) = radix_is radix
radix_told (Err fault) = refusal (pile_fault_number fault)

module _ {K : Type 0} (view : K → KeyView) where
  -- only a settle brings a draw
  abbrev pub asked : Request K → Asked
  asked (call.Admit key) = calling (admit (view key))
  asked (call.Settle tag class radix draw) = record { call = settle tag class radix; draw = draw }
  asked (call.Withdraw tag class radix) = calling (withdraw tag class radix)
  asked (call.Enter key) = calling (enter (view key))
  asked (call.Leave key) = calling (leave (view key))
  asked (call.Place i) = calling (ask (what_place i))
  asked call.Counts = calling (ask what_counts)
  asked (call.Radix class) = calling (ask (what_radix class))
  asked (call.IsLive key) = calling (ask (is_live (view key)))
  asked call.LiveCount = calling (ask how_many_live)
  asked call.OpenEntry = calling (ask what_entry)
  asked (call.KeyAt i) = calling (ask (what_key i))

  abbrev pub said : Answer K → Said
  said (answer.Refused fault) = refusal (roster_fault_number fault)
  said (answer.SourceRefused fault) = source_refusal (refusal-of fault).number (refusal-of fault).byte
  said (answer.Slip tag class radix) = slip tag class radix
  said (answer.Entered receipt) = entered receipt
  said answer.Withdrawn = withdrawn
  said (answer.Left receipt) = left receipt
  said (answer.Place state) = place_is (place_told state)
  said (answer.Counts live unpaired standing) = counts_are live unpaired standing
  said (answer.Radix radix) = radix_is radix
  said (answer.IsLive live) = live_is live
  said (answer.LiveCount live) = so_many live
  said (answer.OpenEntry entry) = open_is (open_told view entry)
  said (answer.KeyAt state) = key_is (key_told view state)
