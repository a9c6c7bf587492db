-- An enter, and what a call does to its source.
use Rattle.std.specs.Prelude.{◌≡◌, ℕ, List, []}
use Rattle.pile.specs.Meaning.{Meaning}
use Rattle.sources.specs.Courses.{Given}
use Rattle.calls.specs.Book.{KeyView, Book}
use Rattle.calls.specs.Calls.{Call, enter}
use Rattle.calls.specs.Steps.{Answer, Step, receipt_in}
use Rattle.calls.specs.Runs.{Request, World, step_of, course_after}
use Rattle.calls.specs.Promise.{TookFromSource, enter_receipt}

-- a roster, a pile and a source, by what they mean
abbrev pub world : Book → Meaning → (course : List ℕ → Given) → World
world b m course = record { book = b; pile = m; course = course }

-- a request that brings no draw
abbrev pub calling : Call → Request
calling call = record { call = call; draw = 0 }

-- what an enter answers, and what roster and pile mean afterwards
abbrev pub enter_step : Book → Meaning → (course : List ℕ → Given) → KeyView → Step
enter_step b m course key = step_of (world b m course) (calling (enter key))

-- What a call does to the source: it goes on as the call's step says, and what was taken from it stands in the receipt.
pub record Moved (call : Call) (answer : Answer) (before after : List ℕ → Given) : Type 0 where
  pub moves : after ≡ course_after call answer before
  pub took : TookFromSource before after (enter_receipt call (receipt_in answer) [])
