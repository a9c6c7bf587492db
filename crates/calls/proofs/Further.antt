-- A run that goes on where a list of calls under a tape has come to.
use Rattle.std.proofs.Common.{◌≡◌, ℕ, true, List, [], ◌∷◌, ◌++◌, sym, refl, ap, ◌∙◌, subst, ap₂}
use Rattle.pile.specs.Meaning.{Meaning, New}
use Rattle.evenness.specs.Events.{Event, came, went, Tally, nothing_yet, tally_next, tally_after, radices_after}
use Rattle.evenness.specs.Tapes.{Tape}
use Rattle.calls.specs.Book.{Book, new_book}
use Rattle.calls.specs.Runs.{Request, World, run_answers}
use Rattle.calls.specs.Lists.{Listed, listed, answers_under, book_under, pile_under, draws_in}
use Rattle.calls.specs.Past.{events, radices, Ledger, ledger}
use Rattle.calls.specs.Promise.{list_radices}
use Rattle.calls.specs.Laws.{RightlyMarked, GoesOn}
use Rattle.calls.proofs.Insertions.{note_all_append}
use Rattle.calls.proofs.Joins.{lists_join, marks_join}
use Rattle.calls.proofs.Ledgers.{events_append, tally, ledger_kept, deeds_from, past_grows}
use Rattle.calls.proofs.Listings.{from_new}
use Rattle.calls.proofs.Piles.{shown}
use Rattle.calls.proofs.Runs.{run_listed, run_marked_from, run_tape_from}

radices_append :
    (m : Meaning) (t : Tally) (es more : List Event) →
    radices_after m t (es ++ more) ≡ radices_after m t es ++ radices_after m (tally_after m t es) more
radices_append m t [] more = refl
radices_append m t (came tag class ∷ es) more =
    ap (λ rs. radices_after m t (came tag class ∷ []) ++ rs) (radices_append m (tally_next m t (came tag class)) es more)
radices_append m t (went tag class ∷ es) more = radices_append m (tally_next m t (went tag class)) es more

tape_append : (rs qs tape draws : List ℕ) → Tape rs tape → Tape qs draws → Tape (rs ++ qs) (tape ++ draws)
tape_append [] qs [] draws first second = second
tape_append [] qs (draw ∷ tape) draws first second = absurd first
tape_append (r ∷ rs) qs [] draws first second = absurd first
tape_append (r ∷ rs) qs (draw ∷ tape) draws first second = (first.0, tape_append rs qs tape draws first.1 second)

module _
    (m : Meaning) (b : Book) (new : New m) (fresh : new_book b ≡ true) (calls : List Listed) (tape : List ℕ) (marked : RightlyMarked m b calls)
    (draws : Tape (list_radices m b calls) tape) (w : World) (same-book : w.book ≡ book_under b m calls tape)
    (same_pile : w.pile ≡ pile_under b m calls tape) (requests : List Request) where
  abbrev half : Ledger
  half = ledger m b calls

  abbrev more : List Listed
  more = listed requests (run_answers w requests)

  more_tape : Tape (radices_after m (tally m half.past) (events (deeds_from m half more))) (draws_in (run_answers w requests))
  more_tape =
      let on = from_new m b new fresh calls marked tape draws in
      run_tape_from m half w requests (ledger_kept m b calls fresh) (same-book ∙ on.book)
      (same_pile ∙ on.counts ∙ ap (λ p. shown m (tally m half.past) p.places) (sym same_pile))

  more_radices :
      list_radices m b (calls ++ more) ≡ list_radices m b calls ++ radices_after m (tally m half.past) (events (deeds_from m half more))
  more_radices =
      ap (λ (l : Ledger). radices m l.past) (note_all_append m (record { book = b; past = [] }) calls more)
      ∙ ap (radices m) (past_grows m half more) ∙ ap (radices_after m nothing_yet) (events_append half.past (deeds_from m half more))
      ∙ radices_append m nothing_yet (events half.past) (events (deeds_from m half more))

  pub goes_on : GoesOn m b calls tape w requests
  goes_on =
      let own = (from_new m b new fresh calls marked tape draws).draws in
      let joined = lists_join b m calls more tape (draws_in (run_answers w requests)) own in
      let run = run_listed w requests in
      let t = draws_in (run_answers w requests) in
      record {
        marked = marks_join m (record { book = b; past = [] }) calls more marked (run_marked_from m half w requests);
        draws_are_a_tape =
            subst (λ (rs : List ℕ). Tape rs (tape ++ t)) (sym more_radices)
            (tape_append (list_radices m b calls) (radices_after m (tally m half.past) (events (deeds_from m half more))) tape t draws more_tape);
        own_answers =
            joined.answers
            ∙ ap (λ later. answers_under b m calls tape ++ later)
            (ap₂ (λ c p. answers_under c p more t) (sym same-book) (sym same_pile) ∙ run.answers);
        own_roster = joined.book ∙ ap₂ (λ c p. book_under c p more t) (sym same-book) (sym same_pile) ∙ run.book;
        own_pile = joined.pile ∙ ap₂ (λ c p. pile_under c p more t) (sym same-book) (sym same_pile) ∙ run.pile;
      }
