-- A worked example: bound 2, tags 0, 1 and 2 come, 2 goes.
use Rattle.std.specs.Prelude.{ℕ, true, List, [], ◌∷◌, nat_lt}
use Rattle.pile.specs.Meaning.{Meaning}
use Rattle.evenness.specs.Events.{Event, came, went}
use Rattle.evenness.specs.Tapes.{sample_count}

-- a new pile of two places that counts every class and takes leaves
abbrev pub two_places : Meaning
two_places =
    record { bound = 2; counted = λ class. nat_lt class 8; leaves = true; live = 0; unpaired = 0; places = [] }

abbrev pub three_come_one_goes : List Event
three_come_one_goes = came 0 0 ∷ came 1 0 ∷ came 2 0 ∷ went 2 0 ∷ []

-- under how many tapes the places hold the set
abbrev pub tapes_for : (set : List ℕ) → ℕ
tapes_for set = sample_count two_places three_come_one_goes set
