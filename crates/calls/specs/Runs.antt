-- A host's requests, carried out in order on a roster, a pile and a source.
use Rattle.std.specs.Prelude.{ℕ, Bool, true, false, List, [], ◌∷◌, Some, None, Option, nat_lt}
use Rattle.pile.specs.declared.receipts.EntryReceipt.{EntryReceipt}
use Rattle.pile.specs.Meaning.{Meaning}
use Rattle.sources.specs.Answers.{Refusal}
use Rattle.sources.specs.Courses.{Given}
pub use Rattle.sources.specs.Courses.{followed}
use Rattle.calls.specs.Book.{Book}
use Rattle.calls.specs.Calls.{Call, admit, settle, withdraw, enter, leave, ask, Verdict, refuses, opens, settles, withdraws, lets_go, tells, verdict}
use Rattle.calls.specs.Steps.{Answer, receipt_in, Supply, gives, fails, Step, step}

-- a call, and the draw that a settle brings; no other call looks at the draw
pub record Request : Type 0 where
  pub call : Call
  pub draw : ℕ

-- all that requests are carried out on: a source is meant by what it gives for each list of radices
pub record World : Type 0 where
  pub book : Book
  pub pile : Meaning
  pub course : List ℕ → Given

-- What a source says to one radix: its first draw, or its refusal. A draw that is not below the radix counts as no draw. (No source
-- gives one, by the contract of draw, and each gives a draw or a refusal: `fails 0 0` never comes.)
abbrev pub drawn_below : (below : Bool) (draw : ℕ) → Supply
drawn_below true draw = gives draw
drawn_below false draw = fails 0 0

abbrev pub supplied_by : (radix : ℕ) (draws : List ℕ) → Option Refusal → Supply
supplied_by radix (draw ∷ draws) fault = drawn_below (nat_lt draw radix) draw
supplied_by radix [] (Some fault) = fails fault.number fault.byte
supplied_by radix [] None = fails 0 0

abbrev pub supplied : (radix : ℕ) → Given → Supply
supplied radix given = supplied_by radix given.draws given.refusal

-- An enter asks its source once it is admitted. (`gives 0` stands for no draw: calls that take no draw do not look at it.)
abbrev pub enter_supply : Verdict → (List ℕ → Given) → Supply
enter_supply (settles entry) course = supplied entry.radix (course (entry.radix ∷ []))
enter_supply (refuses number) course = gives 0
enter_supply (opens entry) course = gives 0
enter_supply withdraws course = gives 0
enter_supply (lets_go key tag) course = gives 0
enter_supply (tells question) course = gives 0

-- what each call is supplied with; again, calls that take no draw do not look at it
abbrev pub supply : World → Request → Call → Supply
supply w request (enter key) = enter_supply (verdict w.book w.pile (enter key)) w.course
supply w request (settle tag class radix) = gives request.draw
supply w request (admit key) = gives 0
supply w request (withdraw tag class radix) = gives 0
supply w request (leave key) = gives 0
supply w request (ask question) = gives 0

-- only an enter that is settled moves its source on, to what followed the draw
abbrev pub course_moved : Option EntryReceipt → (List ℕ → Given) → List ℕ → Given
course_moved None course = course
course_moved (Some receipt) course = followed course receipt.radix

abbrev pub course_after : Call → Answer → (List ℕ → Given) → List ℕ → Given
course_after (enter key) answer course = course_moved (receipt_in answer) course
course_after (settle tag class radix) answer course = course
course_after (admit key) answer course = course
course_after (withdraw tag class radix) answer course = course
course_after (leave key) answer course = course
course_after (ask question) answer course = course

-- one request
abbrev pub step_of : World → Request → Step
step_of w request = step w.book w.pile request.call (supply w request request.call)

abbrev pub world_of : Step → Call → World → World
world_of s call w = record { book = s.book; pile = s.pile; course = course_after call s.answer w.course }

abbrev pub after : World → Request → World
after w request = world_of (step_of w request) request.call w

-- a list of requests, in order
abbrev pub run_answers : World → List Request → List Answer
run_answers w [] = []
run_answers w (request ∷ requests) = (step_of w request).answer ∷ run_answers (after w request) requests

abbrev pub run_world : World → List Request → World
run_world w [] = w
run_world w (request ∷ requests) = run_world (after w request) requests
