-- A run, one request after the other.
use Rattle.std.proofs.Common.{◌≡◌, ℕ, ◌+◌, ◌<◌, Bool, List, [], ◌∷◌, ◌++◌, map, length, get_or, take, drop, set, sym, refl, ap, ◌∙◌, subst, ap₂, arith}
use Rattle.std.proofs.lemmas.List.{take_more, take_more_set, map-append, drop-set-lt, drop-drop}
use Rattle.pile.specs.declared.receipts.EntryReceipt.{EntryReceipt}
use Rattle.calls.specs.Book.{KeyView}
use Rattle.calls.specs.Steps.{Answer as Said, receipt_in}
use Rattle.calls.specs.Runs.{Request as Asked, World, step_of, after, run_answers, run_world, course_after}
use Rattle.calls.specs.Promise.{TookFromSource, enter_receipt, enter_receipts, NewWorld, Promise}
use Rattle.calls.proofs.Joins.{receipts_then, took_join}
use Rattle.calls.proofs.Runs.{runs_join}
use Rattle.calls.proofs.Promised.{promise}
use Rattle.roster.specs.Entering.{Moved}
use Rattle.roster.specs.Requests.{asked, said}
use Rattle.roster.specs.Running.{first_asked, first_said, Done, open_after, left_open}
use Rattle.roster.specs.declared.request.Request.{Request}
use Rattle.roster.specs.declared.request.Answer.{Answer}

pub done_none : (w : World) → Done w w [] []
done_none w = record { answers_are = refl; world_is = refl; took_from_source = λ more. refl }

pub done_more :
    (start now next : World) (xs : List Asked) (ys : List Said) (x : Asked) (y : Said) → Done start now xs ys →
    y ≡ (step_of now x).answer → next.book ≡ (step_of now x).book → next.pile ≡ (step_of now x).pile →
    Moved x.call y now.course next.course → Done start next (xs ++ x ∷ []) (ys ++ y ∷ [])
done_more start now next xs ys x y done answered roster pile moved =
    let joined = runs_join start xs (x ∷ []) in
    let same : after now x ≡ run_world start (xs ++ x ∷ []) = ap (λ w. after w x) done.world_is ∙ sym joined.1 in
    let receipts : enter_receipts (xs ++ x ∷ []) (ys ++ y ∷ []) ≡ enter_receipts xs ys ++ enter_receipt x.call (receipt_in y) [] =
    ap (λ a. enter_receipts (xs ++ x ∷ []) (a ++ y ∷ [])) done.answers_are ∙ receipts_then start xs (x ∷ []) (y ∷ [])
    ∙ ap (λ a. enter_receipts xs a ++ enter_receipt x.call (receipt_in y) []) (sym done.answers_are) in
    record {
      answers_are =
          ap₂ (λ a b. a ++ b ∷ []) done.answers_are (answered ∙ ap (λ w. (step_of w x).answer) done.world_is)
          ∙ sym joined.0;
      world_is =
          ap (λ book. record { book = book; pile = next.pile; course = next.course }) roster
          ∙ ap (λ p. record { book = (step_of now x).book; pile = p; course = next.course }) pile
          ∙ ap (λ c. record { book = (step_of now x).book; pile = (step_of now x).pile; course = c }) moved.moves
          ∙ ap (λ a. record { book = (step_of now x).book; pile = (step_of now x).pile; course = course_after x.call a now.course }) answered
          ∙ same;
      took_from_source =
          subst (λ (rs : List EntryReceipt). TookFromSource start.course next.course rs) (sym receipts)
          (took_join start.course now.course next.course (enter_receipts xs ys) (enter_receipt x.call (receipt_in y) []) done.took_from_source moved.took);
    }

-- the first requests and answers of a list, one more
module _ {K : Type 0} (view : K → KeyView) where
  pub asked_more : (requests : List (Request K)) (i : ℕ) (request : Request K) → i < length requests → request ≡ get_or requests i request → first_asked view (i + 1) requests ≡ first_asked view i requests ++ asked view request ∷ []
  asked_more requests i request h e =
      ap (map (asked view)) (take_more requests i request h)
      ∙ map-append (asked view) (take i requests) (get_or requests i request ∷ [])
      ∙ ap (λ x. first_asked view i requests ++ asked view x ∷ []) (sym e)

  pub said_written : (answers : List (Answer K)) (i : ℕ) (answer : Answer K) → i < length answers → first_said view (i + 1) (set answers i answer) ≡ first_said view i answers ++ said view answer ∷ []
  said_written answers i answer h =
      ap (map (said view)) (take_more_set answers i answer h) ∙ map-append (said view) (take i answers) (answer ∷ [])

  pub said_more : (answers : List (Answer K)) (i : ℕ) (answer : Answer K) → i < length answers → answer ≡ get_or answers i answer → first_said view (i + 1) answers ≡ first_said view i answers ++ said view answer ∷ []
  said_more answers i answer h e =
      ap (map (said view)) (take_more answers i answer h)
      ∙ map-append (said view) (take i answers) (get_or answers i answer ∷ [])
      ∙ ap (λ x. first_said view i answers ++ said view x ∷ []) (sym e)

  -- an answer that was written leaves those after it
  pub rest_more : (answers before : List (Answer K)) (i : ℕ) (answer : Answer K) → drop i answers ≡ drop i before → drop (i + 1) (set answers i answer) ≡ drop (i + 1) before
  rest_more answers before i answer e =
      drop-set-lt (i + 1) answers i answer (omega arith) ∙ sym (drop-drop 1 i answers) ∙ ap (drop 1) e ∙ drop-drop 1 i before

pub left_open_more : (before : Bool) (ys : List Said) (y : Said) → left_open before (ys ++ y ∷ []) ≡ open_after (left_open before ys) y
left_open_more before [] y = refl
left_open_more before (z ∷ ys) y = left_open_more (open_after before z) ys y

-- the promise, for what was done on a roster and a pile that were new
pub promised : (start finish : World) (requests : List Asked) (answers : List Said) → Done start finish requests answers → NewWorld start → Promise start requests answers finish
promised start finish requests answers done new =
    let at_end : TookFromSource start.course (run_world start requests).course (enter_receipts requests (run_answers start requests)) =
    subst (λ (w : World). TookFromSource start.course w.course (enter_receipts requests (run_answers start requests))) done.world_is
    (subst (λ (a : List Said). TookFromSource start.course finish.course (enter_receipts requests a)) done.answers_are done.took_from_source) in
    subst (λ (w : World). Promise start requests answers w) (sym done.world_is)
    (subst (λ (a : List Said). Promise start requests a (run_world start requests)) (sym done.answers_are) (promise start requests new at_end))
