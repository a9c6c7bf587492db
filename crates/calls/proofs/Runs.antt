-- Runs of requests: one after another they are one run, and a run is the list of its calls under its own draws.
use Rattle.std.proofs.Common.{◌≡◌, ℕ, ◌<◌, Bool, true, false, ltb, List, [], ◌∷◌, ◌++◌, Some, None, Option, sym, refl, ap, ◌∙◌, subst}
use Rattle.std.proofs.lemmas.Bool.{ltb-true}
use Rattle.pile.specs.declared.receipts.EntryReceipt.{EntryReceipt}
use Rattle.pile.specs.declared.receipts.LeaveReceipt.{LeaveReceipt}
use Rattle.pile.specs.Answers.{Told, refused, told, Place}
use Rattle.pile.specs.Meaning.{Meaning}
use Rattle.pile.specs.Rules.{radix_rule, receipt, entry_rule, leave_rule}
use Rattle.evenness.specs.Events.{Tally, radices_after}
use Rattle.evenness.specs.Tapes.{Tape}
use Rattle.calls.specs.Book.{KeyView, OpenEntry, Book}
use Rattle.calls.specs.Calls.{Call, admit, settle, withdraw, enter, leave, ask, Verdict, refuses, opens, settles, withdraws, lets_go, tells, verdict, is_slip, calls_for, settle_when, settle_open}
use Rattle.calls.specs.Steps.{Answer, receipt_in, Supply, gives, fails, Step, settled, entry_answer, leave_answer, settle_drawn, carried_out}
use Rattle.calls.specs.Runs.{Request, World, supply, step_of, after, run_answers, run_world}
use Rattle.calls.specs.Lists.{Lot, next, Listed, lot_of, listed, next_draw, tape_after, listed_step, answers_under, book_under, pile_under, receipts_in, draws_in}
use Rattle.calls.specs.Past.{Deed, arrived, departed, events, told_pile, Ledger, noted, note}
use Rattle.calls.specs.Promise.{HoldsBrought, AllHoldBrought}
use Rattle.calls.specs.Laws.{MarkedFrom}
use Rattle.calls.proofs.Ledgers.{tally, tally_more, Kept, same_verdict, ledger_right, note_kept, then_deeds, deeds_from}
use Rattle.calls.proofs.Lots.{drawn_lot, lot_by, same_lot, own_step, request_marked}
use Rattle.calls.proofs.Piles.{shown, Says, entry_says, entry_told}
use Rattle.calls.proofs.Under.{with_draw, draws_with, told_no_receipt, settled_radix, settled_called, settled_pile, gone_pile, gone_told}
use Rattle.calls.proofs.Verdicts.{Settles, LetsGo, Right, TakesNone, admit_takes_none, withdraw_takes_none, leave_takes_none, verdict_radix}

-- one run after another
pub runs_join :
    (w : World) (xs ys : List Request) →
    (run_answers w (xs ++ ys) ≡ run_answers w xs ++ run_answers (run_world w xs) ys)
    × (run_world w (xs ++ ys) ≡ run_world (run_world w xs) ys)
runs_join w [] ys = (refl, refl)
runs_join w (x ∷ xs) ys =
    let later = runs_join (after w x) xs ys in (ap (λ answers. (step_of w x).answer ∷ answers) later.0, later.1)

-- a receipt of a settle holds the draw that was brought
module _ (tag class radix draw : ℕ) where
  abbrev Brought : Answer → Type 0
  Brought answer = HoldsBrought (settle tag class radix) draw (receipt_in answer)

  said_brought : (called : Told ℕ) (a : Told EntryReceipt) → Says called draw a → Brought (entry_answer a)
  said_brought called (refused number) says = tt
  said_brought called (told receipt) says = says.1

  settle_brought : (b : Book) (m : Meaning) (o : Option OpenEntry) → Brought (carried_out (settle_open o m tag class radix) (gives draw) b m).answer
  settle_brought b m None = tt
  settle_brought b m (Some entry) = by (is_slip entry tag class radix) (calls_for (radix_rule m class) radix)
    where
      drawn : (below : Bool) → Brought (settle_drawn below b m entry draw).answer
      drawn false = tt
      drawn true = said_brought _ _ (entry_says m entry.tag entry.key.class draw (radix_rule m entry.key.class))

      by : (slip called : Bool) → Brought (carried_out (settle_when slip called entry) (gives draw) b m).answer
      by false called = tt
      by true false = tt
      by true true = drawn (ltb draw entry.radix)

-- a call that takes no draw has no receipt
none_taken : (b : Book) (m : Meaning) (v : Verdict) (from : Supply) → TakesNone v → receipt_in (carried_out v from b m).answer ≡ None
none_taken b m (refuses number) from h = refl
none_taken b m (opens entry) from h = refl
none_taken b m (settles entry) from h = absurd h
none_taken b m withdraws from h = refl
none_taken b m (lets_go key tag) from h = by (leave_rule m tag key.class).answer
  where
    by : (a : Told LeaveReceipt) → receipt_in (leave_answer a) ≡ None
    by (refused number) = refl
    by (told receipt) = refl
none_taken b m (tells question) from h = told_no_receipt question b m

pub all_hold_brought : (w : World) (requests : List Request) → AllHoldBrought requests (run_answers w requests)
all_hold_brought w [] = tt
all_hold_brought w (request ∷ requests) = (by request.call, all_hold_brought (after w request) requests)
  where
    by :
        (call : Call) →
        HoldsBrought call request.draw
        (receipt_in (carried_out (verdict w.book w.pile call) (supply w request call) w.book w.pile).answer)
    by (admit key) =
        subst (HoldsBrought (admit key) request.draw)
        (sym (none_taken w.book w.pile (verdict w.book w.pile (admit key)) (gives 0) (admit_takes_none w.book w.pile key))) tt
    by (settle tag class radix) = settle_brought tag class radix request.draw w.book w.pile w.book.entry
    by (withdraw tag class radix) =
        subst (HoldsBrought (withdraw tag class radix) request.draw)
        (sym
        (none_taken w.book w.pile (verdict w.book w.pile (withdraw tag class radix)) (gives 0)
        (withdraw_takes_none tag class radix w.book.entry)))
        tt
    by (enter key) = tt
    by (leave key) =
        subst (HoldsBrought (leave key) request.draw)
        (sym (none_taken w.book w.pile (verdict w.book w.pile (leave key)) (gives 0) (leave_takes_none w.book w.pile key))) tt
    by (ask question) =
        subst (HoldsBrought (ask question) request.draw) (sym (told_no_receipt question w.book w.pile)) tt

-- a run, on any roster and pile, is the list of its calls under its own draws
pub record RunListed (w : World) (requests : List Request) : Type 0 where
  pub answers :
      answers_under w.book w.pile (listed requests (run_answers w requests)) (draws_in (run_answers w requests)) ≡ run_answers w requests
  pub book :
      book_under w.book w.pile (listed requests (run_answers w requests)) (draws_in (run_answers w requests)) ≡ (run_world w requests).book
  pub pile :
      pile_under w.book w.pile (listed requests (run_answers w requests)) (draws_in (run_answers w requests)) ≡ (run_world w requests).pile

taken_off : (o : Option EntryReceipt) (draws : List ℕ) → tape_after o (with_draw o draws) ≡ draws
taken_off None draws = refl
taken_off (Some receipt) draws = refl

pub run_listed : (w : World) (requests : List Request) → RunListed w requests
run_listed w [] = record { answers = refl; book = refl; pile = refl }
run_listed w (request ∷ requests) =
    let s = step_of w request in
    let item : Listed = record { call = request.call; lot = lot_of request s.answer } in
    let further = after w request in
    let items = listed requests (run_answers further requests) in
    let draws = draws_in (run_answers further requests) in
    let v = verdict w.book w.pile request.call in
    let from = supply w request request.call in
    let left = with_draw (receipt_in s.answer) draws in
    let same : listed_step w.book w.pile item left ≡ s =
    ap (λ lot. carried_out v (next_draw lot left) w.book w.pile) (same_lot w request)
    ∙ own_step w.book w.pile v from draws (verdict_radix w.book w.pile request.call) in
    let held : draws_in (run_answers w (request ∷ requests)) ≡ left = draws_with (receipt_in s.answer) (receipts_in (run_answers further requests)) in
    let off = taken_off (receipt_in s.answer) draws in
    let on = run_listed further requests in
    record {
      answers =
          ap (λ tape. answers_under w.book w.pile (item ∷ items) tape) held
          ∙ ap (λ s'. s'.answer ∷ answers_under s'.book s'.pile items (tape_after (receipt_in s'.answer) left)) same
          ∙ ap (λ tape. s.answer ∷ answers_under s.book s.pile items tape) off ∙ ap (λ later. s.answer ∷ later) on.answers;
      book =
          ap (λ tape. book_under w.book w.pile (item ∷ items) tape) held
          ∙ ap (λ s'. book_under s'.book s'.pile items (tape_after (receipt_in s'.answer) left)) same
          ∙ ap (λ tape. book_under s.book s.pile items tape) off ∙ on.book;
      pile =
          ap (λ tape. pile_under w.book w.pile (item ∷ items) tape) held
          ∙ ap (λ s'. pile_under s'.book s'.pile items (tape_after (receipt_in s'.answer) left)) same
          ∙ ap (λ tape. pile_under s.book s.pile items tape) off ∙ on.pile;
    }

-- and is rightly marked for every ledger
pub run_marked_from :
    (m : Meaning) (l : Ledger) (w : World) (requests : List Request) → MarkedFrom m l (listed requests (run_answers w requests))
run_marked_from m l w [] = tt
run_marked_from m l w (request ∷ requests) = (
  request_marked w request l.book (told_pile m l.past),
  run_marked_from m (note m l (record { call = request.call; lot = lot_of request (step_of w request).answer })) (after w request) requests,
)

-- One request that came to s, where the ledger judges it by v; `more` happens after it, with `draws`.
record Ran (m : Meaning) (l : Ledger) (v : Verdict) (lot : Lot) (more : List Deed) (draws : List ℕ) (s : Step) : Type 0 where
  book : s.book ≡ (noted v lot l).book
  pile : s.pile ≡ shown m (tally m (noted v lot l).past) s.pile.places
  tape :
      Tape (radices_after m (tally m (noted v lot l).past) (events more)) draws →
      Tape (radices_after m (tally m l.past) (events (then_deeds v lot more))) (with_draw (receipt_in s.answer) draws)

module _ (m : Meaning) (l : Ledger) (ps : List Place) (k : Kept m l) (more : List Deed) (draws : List ℕ) where
  abbrev pile_now : Meaning
  pile_now = shown m (tally m l.past) ps

  drawn_ran :
      (entry : OpenEntry) (draw : ℕ) (below : Bool) → Settles l.book (told_pile m l.past) entry →
      ltb draw entry.radix ≡ below →
      Ran m l (settles entry) (drawn_lot below draw) more draws
      (settle_drawn below l.book pile_now entry draw)
  drawn_ran entry draw false r e =
      record {
        book = refl;
        pile = refl;
        tape = λ h. h;
      }
  drawn_ran entry draw true r e =
      subst
      (λ (a : Told EntryReceipt).
      Ran m l (settles entry) next more draws
      (record { answer = entry_answer a; book = settled l.book entry; pile = after_it }))
      (sym taken.1)
      (record {
        book = refl;
        pile = settled_pile m l entry ps draw k r below;
        tape =
            λ h. (
              subst (λ (n : ℕ). draw < n) (settled_radix m l entry k r) below,
              subst (λ (t : Tally). Tape (radices_after m t (events more)) draws) (tally_more m l.past (arrived entry.key entry.tag)) h,
            );
      })
    where
      below : draw < entry.radix
      below = ltb-true draw entry.radix e

      after_it : Meaning
      after_it = (entry_rule pile_now entry.tag entry.key.class draw).after

      taken :
          (place : Option ℕ) × ((entry_rule pile_now entry.tag entry.key.class draw).answer ≡ told (receipt entry.radix draw place))
      taken = entry_told pile_now entry.tag entry.key.class draw entry.radix (settled_called m l entry ps k r) below

  gone_ran :
      (key : KeyView) (tag : ℕ) (from : Supply) → LetsGo l.book (told_pile m l.past) key tag →
      Ran m l (lets_go key tag) next more draws (carried_out (lets_go key tag) from l.book pile_now)
  gone_ran key tag from r =
      record {
        book = refl;
        pile = gone_pile m l key tag ps k r;
        tape =
            λ h.
            subst
            (λ (a : Told LeaveReceipt).
            Tape (radices_after m (tally m l.past) (events (departed key tag ∷ more))) (with_draw (receipt_in (leave_answer a)) draws))
            (sym (gone_told m l key tag ps k r).1)
            (subst (λ (t : Tally). Tape (radices_after m t (events more)) draws) (tally_more m l.past (departed key tag)) h);
      }

  ran :
      (v : Verdict) (from : Supply) → Right l.book (told_pile m l.past) v →
      Ran m l v (lot_by v from) more draws (carried_out v from l.book pile_now)
  ran (refuses number) from r = record { book = refl; pile = refl; tape = λ h. h }
  ran (opens entry) from r = record { book = refl; pile = refl; tape = λ h. h }
  ran (settles entry) (gives draw) r = drawn_ran entry draw (ltb draw entry.radix) r refl
  ran (settles entry) (fails number byte) r = record { book = refl; pile = refl; tape = λ h. h }
  ran withdraws from r = record { book = refl; pile = refl; tape = λ h. h }
  ran (lets_go key tag) from r = gone_ran key tag from r
  ran (tells question) from r =
      record {
        book = refl;
        pile = refl;
        tape =
            λ h.
            subst (λ (o : Option EntryReceipt). Tape (radices_after m (tally m l.past) (events more)) (with_draw o draws))
            (sym (told_no_receipt question l.book pile_now)) h;
      }

-- on a roster and a pile that are as the ledger tells
call_ran :
    (m : Meaning) (l : Ledger) (b : Book) (p : Meaning) (call : Call) (from : Supply) (more : List Deed) (draws : List ℕ) → Kept m l →
    b ≡ l.book → p ≡ shown m (tally m l.past) p.places →
    Ran m l (verdict l.book (told_pile m l.past) call) (lot_by (verdict b p call) from) more draws
    (carried_out (verdict b p call) from b p)
call_ran m l b p call from more draws k same-book same_pile =
    subst (λ (c : Book). Ran m l v (lot_by (verdict c p call) from) more draws (carried_out (verdict c p call) from c p))
    (sym same-book)
    (subst
    (λ (q : Meaning).
    Ran m l v (lot_by (verdict l.book q call) from) more draws
    (carried_out (verdict l.book q call) from l.book q))
    (sym same_pile)
    (subst
    (λ (u : Verdict).
    Ran m l v (lot_by u from) more draws
    (carried_out u from l.book (shown m (tally m l.past) p.places)))
    (sym (same_verdict m l k p.places call)) (ran m l p.places k more draws v from (ledger_right m l call k))))
  where
    v : Verdict
    v = verdict l.book (told_pile m l.past) call

-- the draws of a run are a tape with the radices of its list of calls
pub run_tape_from :
    (m : Meaning) (l : Ledger) (w : World) (requests : List Request) → Kept m l → w.book ≡ l.book →
    w.pile ≡ shown m (tally m l.past) w.pile.places →
    Tape (radices_after m (tally m l.past) (events (deeds_from m l (listed requests (run_answers w requests))))) (draws_in (run_answers w requests))
run_tape_from m l w [] k same-book same_pile = tt
run_tape_from m l w (request ∷ requests) k same-book same_pile =
    let s = step_of w request in
    let item : Listed = record { call = request.call; lot = lot_of request s.answer } in
    let further = after w request in
    let items = listed requests (run_answers further requests) in
    let draws = draws_in (run_answers further requests) in
    let v = verdict l.book (told_pile m l.past) request.call in
    let one =
    subst (λ (lot : Lot). Ran m l v lot (deeds_from m (note m l item) items) draws s) (sym (same_lot w request))
    (call_ran m l w.book w.pile request.call (supply w request request.call) (deeds_from m (note m l item) items) draws k
    same-book same_pile) in
    subst (λ (tape : List ℕ). Tape (radices_after m (tally m l.past) (events (deeds_from m l (item ∷ items)))) tape)
    (sym (draws_with (receipt_in s.answer) (receipts_in (run_answers further requests))))
    (one.tape (run_tape_from m (note m l item) further requests (note_kept m l item k) one.book one.pile))
