-- Refused calls and questions make no difference, wherever they stand in a list.
use Rattle.std.specs.Prelude.{◌≡◌, ℕ, true, false, List, ◌∷◌, ◌++◌, length, take, drop, nat_lt}
use Rattle.pile.specs.Meaning.{Meaning, New}
use Rattle.evenness.specs.Tapes.{Tape}
use Rattle.calls.specs.Book.{Book, new_book}
use Rattle.calls.specs.Calls.{Verdict, refuses, opens, settles, withdraws, lets_go, tells, verdict}
use Rattle.calls.specs.Steps.{Answer, gives, fails}
use Rattle.calls.specs.Lists.{Lot, next, instead, Listed, answers_under, book_under, pile_under}
use Rattle.calls.specs.Past.{Ledger, told_pile}
use Rattle.calls.specs.Promise.{N, d, list_radices, sample_under, tapes_giving, live_forms}
use Rattle.calls.specs.Laws.{RightlyMarked}

-- the call is refused, or only asks
abbrev pub IdleBy : Verdict → Lot → Type 0
IdleBy (refuses number) lot = Unit {0}
IdleBy (tells question) lot = Unit {0}
IdleBy (settles entry) (instead (gives draw)) = nat_lt draw entry.radix ≡ false
IdleBy (settles entry) (instead (fails number byte)) = Unit {0}
IdleBy (settles entry) next = ⊥
IdleBy (opens entry) lot = ⊥
IdleBy withdraws lot = ⊥
IdleBy (lets_go key tag) lot = ⊥

abbrev pub IdleIn : Meaning → Ledger → Listed → Type 0
IdleIn m l item = IdleBy (verdict l.book (told_pile m l.past) item.call) item.lot

-- What such a call, put between the two halves of a list, does by the calls' own steps under a tape: nothing but answer.
pub record SameSteps (m : Meaning) (b : Book) (first : List Listed) (item : Listed) (others : List Listed) (tape : List ℕ) : Type 0 where
  pub same_roster : book_under b m (first ++ item ∷ others) tape ≡ book_under b m (first ++ others) tape
  pub same_pile : pile_under b m (first ++ item ∷ others) tape ≡ pile_under b m (first ++ others) tape
  -- one answer comes after those of the first half, and the others are the same
  pub one_answer_more :
      let answers = answers_under b m (first ++ others) tape in
      (answer : Answer) ×
      (answers_under b m (first ++ item ∷ others) tape ≡ take (length first) answers ++ answer ∷ drop (length first) answers)

-- what it leaves as it was
pub record NoMatter (m : Meaning) (b : Book) (first : List Listed) (item : Listed) (others : List Listed) : Type 0 where
  pub same_radices : list_radices m b (first ++ item ∷ others) ≡ list_radices m b (first ++ others)
  pub same_shares : (set : List (List ℕ)) → tapes_giving m b (first ++ item ∷ others) set ≡ tapes_giving m b (first ++ others) set
  pub same_sample : (tape : List ℕ) → sample_under m b (first ++ item ∷ others) tape ≡ sample_under m b (first ++ others) tape
  pub same_counts :
      (N m b (first ++ item ∷ others) ≡ N m b (first ++ others)) × (d m b (first ++ item ∷ others) ≡ d m b (first ++ others))
  pub same_live : live_forms m b (first ++ item ∷ others) ≡ live_forms m b (first ++ others)
  -- what was rightly marked is so still
  pub still_marked : RightlyMarked m b (first ++ others) → RightlyMarked m b (first ++ item ∷ others)
  -- on a roster and a pile that were new, under every tape with the list's radices
  pub same_steps :
      New m → new_book b ≡ true → RightlyMarked m b (first ++ others) → (tape : List ℕ) →
      Tape (list_radices m b (first ++ others)) tape → SameSteps m b first item others tape
