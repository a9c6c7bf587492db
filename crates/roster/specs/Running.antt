-- A run of requests: what was carried out, what was answered, and the slip that is handed back.
use Rattle.std.specs.Prelude.{◌≡◌, ℕ, Bool, true, false, List, [], ◌∷◌, map, take, Some, None, Option}
use Rattle.calls.specs.Book.{KeyView, OpenEntry}
use Rattle.calls.specs.Steps.{Answer as Said, refusal, source_refusal, slip, entered, withdrawn, left, place_is, counts_are, radix_is, live_is, so_many, open_is, key_is}
use Rattle.calls.specs.Runs.{Request as Asked, World, run_answers, run_world}
use Rattle.calls.specs.Promise.{TookFromSource, enter_receipts}
use Rattle.roster.specs.Requests.{asked, said}
use Rattle.roster.specs.declared.request.Request.{Request}
use Rattle.roster.specs.declared.request.Answer.{Answer}
use Rattle.roster.specs.declared.slip.Slip.{Slip}

-- the first requests of a list, and the first answers
module _ {K : Type 0} (view : K → KeyView) where
  abbrev pub first_asked : (count : ℕ) → List (Request K) → List Asked
  first_asked count requests = map (asked view) (take count requests)

  abbrev pub first_said : (count : ℕ) → List (Answer K) → List Said
  first_said count answers = map (said view) (take count answers)

-- The requests were carried out from `start` on: these are their answers, `finish` is what roster, pile and source mean then, and the
-- enters took from the source exactly the draws that their receipts hold.
pub record Done (start finish : World) (requests : List Asked) (answers : List Said) : Type 0 where
  pub answers_are : answers ≡ run_answers start requests
  pub world_is : finish ≡ run_world start requests
  pub took_from_source : TookFromSource start.course finish.course (enter_receipts requests answers)

-- Whether the run itself left an entry open: it admitted, and neither settled nor withdrew since.
abbrev pub open_after : Bool → Said → Bool
open_after before (slip tag class radix) = true
open_after before (entered receipt) = false
open_after before withdrawn = false
open_after before (refusal number) = before
open_after before (source_refusal number byte) = before
open_after before (left receipt) = before
open_after before (place_is what) = before
open_after before (counts_are live unpaired standing) = before
open_after before (radix_is radix) = before
open_after before (live_is live) = before
open_after before (so_many live) = before
open_after before (open_is entry) = before
open_after before (key_is key) = before

abbrev pub left_open : (before : Bool) → List Said → Bool
left_open before [] = before
left_open before (answer ∷ answers) = left_open (open_after before answer) answers

-- the slip of the open entry, if the run opened it
pub record SlipNumbers : Type 0 where
  pub tag : ℕ
  pub class : ℕ
  pub radix : ℕ

abbrev pub slip_numbers : Option Slip → Option SlipNumbers
slip_numbers None = None
slip_numbers (Some s) = Some (record { tag = s.tag; class = s.class; radix = s.radix })

abbrev pub entry_numbers : Option OpenEntry → Option SlipNumbers
entry_numbers None = None
entry_numbers (Some entry) = Some (record { tag = entry.tag; class = entry.key.class; radix = entry.radix })

abbrev pub handed_back : (left : Bool) → Option OpenEntry → Option SlipNumbers
handed_back true entry = entry_numbers entry
handed_back false entry = None
