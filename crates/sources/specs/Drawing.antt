-- Drawing for a list of radices into a list of draws.
use Rattle.std.specs.Prelude.{ℕ, List, ◌++◌, length, take, drop, Some, None, Option}
use Rattle.sources.specs.declared.faults.SourceFault.{SourceFault}
use Rattle.sources.specs.Answers.{Refusal, source_refusal}
use Rattle.sources.specs.Courses.{Course, Given}

-- the radices that are drawn for: as many as the list of draws has room for
abbrev pub asked_for : (radices room : List ℕ) → List ℕ
asked_for radices room = take (length room) radices

abbrev pub given_for : Course → (radices room : List ℕ) → Given
given_for course radices room = course.gives (asked_for radices room)

-- a list that begins with these draws, and goes on as it did
abbrev pub put_front : (draws room : List ℕ) → List ℕ
put_front draws room = draws ++ drop (length draws) room

abbrev pub told_refusal : Option SourceFault → Option Refusal
told_refusal None = None
told_refusal (Some fault) = Some (source_refusal fault)
