-- What a source means: its course.
use Rattle.std.specs.Prelude.{◌≡◌, ℕ, Bool, false, List, [], ◌∷◌, ◌++◌, drop, Some, None, Option, ◌==◌, refl}
use Rattle.sources.specs.Answers.{Refusal, Answer, drew, refused}

-- what is given for a list of radices: draws in order, and the refusal that ended them before the list did, if any
pub record Given : Type 0 where
  pub draws : List ℕ
  pub refusal : Option Refusal

abbrev pub nothing : Given
nothing = record { draws = []; refusal = None }

-- a course says for each list of radices what is given; for the empty list nothing is
pub record Course : Type 0 where
  pub gives : List ℕ → Given
  pub none : gives [] ≡ nothing

-- an answer, and then what is given for the radices after it; after a refusal nothing is
abbrev pub before : Answer → Given → Given
before (drew draw) later = record { draws = draw ∷ later.draws; refusal = later.refusal }
before (refused refusal) later = record { draws = []; refusal = Some refusal }

-- what is given where `answer` tells each answer from the state, and an accepted draw leads to the next one
abbrev pub gives_by : {X : Type 0} → (answer : X → ℕ → Answer) (next : X → X) → X → List ℕ → Given
gives_by answer next x [] = nothing
gives_by answer next x (radix ∷ radices) = before (answer x radix) (gives_by answer next (next x) radices)

abbrev pub course_by : {X : Type 0} → (answer : X → ℕ → Answer) (next : X → X) → X → Course
course_by answer next x = record { gives = gives_by answer next x; none = refl }

-- several draws, and then what is given after them
abbrev pub all_before : List ℕ → Given → Given
all_before draws later = record { draws = draws ++ later.draws; refusal = later.refusal }

-- Where a source stands, read off its course: the byte with which it would refuse the radix 0,
abbrev pub byte_in : Option Refusal → ℕ
byte_in None = 0
byte_in (Some refusal) = refusal.byte

abbrev pub stands_at : (List ℕ → Given) → ℕ
stands_at gives = byte_in (gives (0 ∷ [])).refusal

-- and whether nothing is left, so that a lawful radix is refused by 17
abbrev pub ended_by : (number : ℕ) → Option Refusal → Bool
ended_by number None = false
ended_by number (Some refusal) = refusal.number == number

abbrev pub used_up : (List ℕ → Given) → Bool
used_up gives = ended_by 17 (gives (1 ∷ [])).refusal

-- what followed the first draw, which was for this radix
abbrev pub followed : (List ℕ → Given) → (radix : ℕ) → List ℕ → Given
followed gives radix radices =
    record { draws = drop 1 (gives (radix ∷ radices)).draws; refusal = (gives (radix ∷ radices)).refusal }
