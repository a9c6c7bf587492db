-- What each answer says: a refusal by its number, a place by what stands there.
-- Every contract of the crate speaks of answers through these definitions.
use Rattle.std.specs.Prelude.{ℕ, List, Some, None, Ok, Err, codes, Option, Result}
use Rattle.pile.specs.declared.faults.PileFault.{PileFault}
use Rattle.pile.specs.declared.faults.PileFault.TheVariants.{Full, DrawTooLarge, TakesNoLeaves, NoneLive}
use Rattle.pile.specs.declared.faults.OpeningFault.{OpeningFault}
use Rattle.pile.specs.declared.faults.OpeningFault.TheVariants.{Bound, ClassSet, FrontSize}
use Rattle.pile.specs.declared.receipts.PlaceState.{PlaceState}
use Rattle.pile.specs.declared.receipts.PlaceState.TheVariants.{Held, Hole, NoSuchPlace}

-- an answer in the subject's words: a refusal's number, or what was told
pub data Told (A : Type 0) : Type 0 where
  refused : ℕ → Told A
  told : A → Told A

-- what a call's answer says, where `number` gives each of its faults its number
abbrev pub told_by : {A E : Type 0} → (E → ℕ) → Result A E → Told A
told_by number (Ok a) = told a
told_by number (Err e) = refused (number e)

abbrev pub pile_fault_number : PileFault → ℕ
pile_fault_number Full = 10
pile_fault_number DrawTooLarge = 12
pile_fault_number TakesNoLeaves = 14
pile_fault_number NoneLive = 15

-- how a fault prints
abbrev pub pile_fault_text : PileFault → List ℕ
pile_fault_text Full = codes "10: 1024 counted keys are live, and no leave is unpaired"
pile_fault_text DrawTooLarge = codes "12: the draw is not below the radix"
pile_fault_text TakesNoLeaves = codes "14: the pile takes no leaves"
pile_fault_text NoneLive = codes "15: no counted key is live"

abbrev pub opening_fault_number : OpeningFault → ℕ
opening_fault_number Bound = 2
opening_fault_number ClassSet = 3
opening_fault_number FrontSize = 4

abbrev pub opening_fault_text : OpeningFault → List ℕ
opening_fault_text Bound = codes "2: the bound is not 1 to 64"
opening_fault_text ClassSet = codes "3: the class set is empty"
opening_fault_text FrontSize = codes "4: the front is not 1 to 64"

-- a place: the tag that it holds, or none where it is a hole
abbrev pub Place : Type 0
Place = Option ℕ

-- what a place tells: no such place, or the place, which holds something or is a hole
abbrev pub place_told : {A : Type 0} → PlaceState A → Option (Option A)
place_told (Held a) = Some (Some a)
place_told Hole = Some None
place_told NoSuchPlace = None
