-- What follows for a list of calls alone, whatever source each enter had, on a roster and a pile that were new. At the end: runs that
-- go on from such a list, and steady sources.
use Rattle.std.specs.Prelude.{◌≡◌, ℕ, false, List, [], ◌∷◌, ◌++◌, map, length, take, nat_lt}
use Rattle.pile.specs.Meaning.{Meaning}
use Rattle.evenness.specs.Tapes.{Tape}
use Rattle.sources.specs.Courses.{Given}
use Rattle.calls.specs.Book.{Book}
use Rattle.calls.specs.Calls.{Verdict, refuses, opens, settles, withdraws, lets_go, tells, verdict}
use Rattle.calls.specs.Steps.{gives, fails}
use Rattle.calls.specs.Runs.{Request, World, run_answers, run_world}
use Rattle.calls.specs.Lists.{Lot, next, instead, Listed, listed, answers_under, book_under, pile_under, draws_in, radices_in}
use Rattle.calls.specs.Past.{Ledger, told_pile, note}
use Rattle.calls.specs.Promise.{sample, past_ledger, N, d, L, list_radices, sample_under, EqualShares, ChooseShares, NoOtherSet, bare}

-- Over all tapes: the shares.
pub record ListShares (m : Meaning) (b : Book) (calls : List Listed) : Type 0 where
  pub equal_shares : EqualShares m b calls
  pub shares : ChooseShares m b calls
  pub no_others : NoOtherSet m b calls

-- What a settle or an enter is listed to have had instead of the next draw was too large a draw, or a source's refusal.
abbrev pub MarkedBy : Verdict → Lot → Type 0
MarkedBy (settles entry) (instead (gives draw)) = nat_lt draw entry.radix ≡ false
MarkedBy (settles entry) (instead (fails number byte)) = Unit {0}
MarkedBy (settles entry) next = Unit {0}
MarkedBy (refuses number) lot = Unit {0}
MarkedBy (opens entry) lot = Unit {0}
MarkedBy withdraws lot = Unit {0}
MarkedBy (lets_go key tag) lot = Unit {0}
MarkedBy (tells question) lot = Unit {0}

abbrev pub MarkedFrom : Meaning → Ledger → List Listed → Type 0
MarkedFrom m l [] = Unit {0}
MarkedFrom m l (item ∷ items) =
    MarkedBy (verdict l.book (told_pile m l.past) item.call) item.lot × MarkedFrom m (note m l item) items

abbrev pub RightlyMarked : Meaning → Book → List Listed → Type 0
RightlyMarked m b calls = MarkedFrom m (record { book = b; past = [] }) calls

-- Under one tape: the calls happen by their own steps, and come to what the list alone tells.
pub record ListUnder (m : Meaning) (b : Book) (calls : List Listed) (tape : List ℕ) : Type 0 where
  -- the receipts hold the list's radices and the tape
  pub same_radices : radices_in (answers_under b m calls tape) ≡ list_radices m b calls
  pub same_draws : draws_in (answers_under b m calls tape) ≡ tape
  -- the sample is the one that is counted for the tape
  pub same_sample :
      sample (book_under b m calls tape) (pile_under b m calls tape).places ≡ sample_under m b calls tape
  pub same_roster : book_under b m calls tape ≡ (past_ledger m b calls).book
  -- the pile's counts answer N and d, and there are L places
  pub counts_live : (pile_under b m calls tape).live ≡ N m b calls
  pub counts_unpaired : (pile_under b m calls tape).unpaired ≡ d m b calls
  pub as_many_places : length (pile_under b m calls tape).places ≡ L m b calls

-- under two tapes the same slips, refusals and radices are answered
abbrev pub SameAnswers : Meaning → Book → List Listed → (tape other : List ℕ) → Type 0
SameAnswers m b calls tape other = map bare (answers_under b m calls tape) ≡ map bare (answers_under b m calls other)

-- A run that goes on where a list of calls under a tape has come to, whatever its source: all together is again a list under a tape.
module _ (m : Meaning) (b : Book) (calls : List Listed) (tape : List ℕ) (w : World) (requests : List Request) where
  abbrev pub more_calls : List Listed
  more_calls = calls ++ listed requests (run_answers w requests)

  abbrev pub more_draws : List ℕ
  more_draws = tape ++ draws_in (run_answers w requests)

  pub record GoesOn : Type 0 where
    pub marked : RightlyMarked m b more_calls
    pub draws_are_a_tape : Tape (list_radices m b more_calls) more_draws
    pub own_answers : answers_under b m more_calls more_draws ≡ answers_under b m calls tape ++ run_answers w requests
    pub own_roster : book_under b m more_calls more_draws ≡ (run_world w requests).book
    pub own_pile : pile_under b m more_calls more_draws ≡ (run_world w requests).pile

-- A steady source: what its course gives for a longer list of radices begins with what it gives for a shorter one.
abbrev pub Steady : (List ℕ → Given) → Type 0
Steady course = (first more : List ℕ) → take (length first) (course (first ++ more)).draws ≡ (course first).draws
