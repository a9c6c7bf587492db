-- Two places; the numbers 1, 2 and 3 enter and 3 leaves. By the definitions that the contracts of the openings and of a run cite.
use Rattle.std.specs.Prelude.{ℕ, true, List, [], ◌∷◌}
use Rattle.bottoms.specs.Bottoms.{opened}
use Rattle.keys.specs.Numbers.{number_form, number_view}
use Rattle.keys.specs.declared.number.Number.{Number}
use Rattle.sources.specs.Tapes.{tape_course}
use Rattle.calls.specs.Book.{opened_book}
use Rattle.calls.specs.Lists.{listed}
use Rattle.calls.specs.Promise.{tapes_giving}
use Rattle.calls.specs.Runs.{Request as Asked, World, run_answers, run_world}
use Rattle.calls.specs.Steps.{Answer as Said}
use Rattle.roster.specs.Entering.{world}
use Rattle.roster.specs.Opening.{taken_capacity}
use Rattle.roster.specs.Running.{first_asked}
use Rattle.roster.specs.declared.request.Request.{Request}
use Rattle.roster.specs.declared.request.Request.TheVariants.{Enter, Leave}

-- a roster opened with capacity 4 over four records, a paired pile opened with bound 2, and a tape with the draws 0, 0 and 1
abbrev pub tape_bytes : List ℕ
tape_bytes = 68 ∷ 82 ∷ 0 ∷ 1 ∷ 0 ∷ 0 ∷ 68 ∷ 82 ∷ 0 ∷ 2 ∷ 0 ∷ 0 ∷ 68 ∷ 82 ∷ 0 ∷ 3 ∷ 0 ∷ 1 ∷ []

abbrev pub start : World
start = world (opened_book (taken_capacity 4 4)) (opened true 2) (tape_course tape_bytes 0).gives

-- the requests, of which a run with room for four answers carries out all
abbrev pub requests : List (Request Number)
requests = Enter 1 ∷ Enter 2 ∷ Enter 3 ∷ Leave 3 ∷ []

abbrev pub carried_out : List Asked
carried_out = first_asked number_view 4 requests

abbrev pub answers : List Said
answers = run_answers start carried_out

abbrev pub finish : World
finish = run_world start carried_out

-- under how many tapes the set of these numbers is the sample
abbrev pub forms : List ℕ → List (List ℕ)
forms [] = []
forms (n ∷ ns) = number_form n ∷ forms ns

abbrev pub tapes_for : (set : List ℕ) → ℕ
tapes_for set = tapes_giving start.pile start.book (listed carried_out answers) (forms set)
