-- What holds of a list of calls under every tape, on a roster and a pile that were new.
use Rattle.std.proofs.Common.{◌≡◌, ℕ, true, List, [], length, sym, refl, ap, ◌∙◌, subst, ap₂}
use Rattle.pile.specs.Meaning.{Meaning, New}
use Rattle.evenness.specs.Events.{nothing_yet}
use Rattle.evenness.specs.Tapes.{Tape, under}
use Rattle.calls.specs.Book.{Book, new_book}
use Rattle.calls.specs.Lists.{Listed, pile_under}
use Rattle.calls.specs.Past.{Ledger, events, radices}
use Rattle.calls.specs.Promise.{sample, past_ledger, list_radices}
use Rattle.calls.specs.Laws.{RightlyMarked, ListUnder, SameAnswers}
use Rattle.calls.proofs.Ledgers.{new_kept, past_grows}
use Rattle.calls.proofs.Piles.{shown, new_full}
use Rattle.calls.proofs.Shares.{N_is, L_is, reached}
use Rattle.calls.proofs.Under.{UnderFrom, under_from}

pub new_shown : (m : Meaning) → New m → m ≡ shown m nothing_yet m.places
new_shown m new =
    λ i.
    record {
      bound = m.bound;
      counted = m.counted;
      leaves = m.leaves;
      live = new.none_live i;
      unpaired = new.none_unpaired i;
      places = m.places;
    }

module _ (m : Meaning) (b : Book) (new : New m) (fresh : new_book b ≡ true) (calls : List Listed) (marked : RightlyMarked m b calls) where
  abbrev first : Ledger
  first = record { book = b; past = [] }

  pub from_new : (tape : List ℕ) → Tape (list_radices m b calls) tape → UnderFrom m first b m calls tape
  from_new tape draws =
      under_from m first b m calls tape (new_kept m b fresh) refl (new_shown m new) (new_full m new) marked
      (subst (λ past. Tape (radices m past) tape) (past_grows m first calls) draws)

  pile_is : (tape : List ℕ) → Tape (list_radices m b calls) tape → pile_under b m calls tape ≡ under m (events (past_ledger m b calls).past) tape
  pile_is tape draws = (from_new tape draws).pile ∙ ap (λ past. under m (events past) tape) (sym (past_grows m first calls))

  pub list_under : (tape : List ℕ) → Tape (list_radices m b calls) tape → ListUnder m b calls tape
  list_under tape draws =
      let on = from_new tape draws in
      let pile = pile_is tape draws in
      let law = reached m b new fresh calls tape draws in
      record {
        same_radices = on.radices ∙ ap (radices m) (sym (past_grows m first calls));
        same_draws = on.draws;
        same_sample = ap₂ (λ c p. sample c p.places) on.book pile;
        same_roster = on.book;
        counts_live = ap (λ p. p.live) pile ∙ law.live ∙ sym (N_is m b new fresh calls);
        counts_unpaired = ap (λ p. p.unpaired) pile ∙ law.unpaired;
        as_many_places = ap (λ p. length p.places) pile ∙ law.as_many_places ∙ sym (L_is m b new fresh calls);
      }

  pub same_answers :
      (tape other : List ℕ) → Tape (list_radices m b calls) tape → Tape (list_radices m b calls) other → SameAnswers m b calls tape other
  same_answers tape other draws draws' = (from_new tape draws).answers ∙ sym (from_new other draws').answers
