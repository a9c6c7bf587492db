-- Tapes of draws, the sample under a tape, and how many tapes give a sample.
use Rattle.std.specs.Prelude.{◌≡◌, ℕ, zero, suc, ◌<◌, Bool, true, false, ◌&&◌, List, [], ◌∷◌, map, length, Some, None, count_by, ◌==◌, ◌≢◌}
use Rattle.std.specs.List.{AllZip, flat_map, AllByRecursion}
use Rattle.pile.specs.Answers.{Place}
use Rattle.pile.specs.Meaning.{Meaning}
use Rattle.pile.specs.Rules.{entry_rule, leave_rule}
use Rattle.evenness.specs.Events.{Event, came, went, has, radices}

-- the numbers below n, from 0 on
abbrev pub below : ℕ → List ℕ
below zero = []
below (suc n) = 0 ∷ map suc (below n)

-- All tapes for a list of radices: each number below the first radix, before each tape for the others.
abbrev pub tapes : List ℕ → List (List ℕ)
tapes [] = [] ∷ []
tapes (radix ∷ rs) = flat_map (λ draw. map (λ tape. draw ∷ tape) (tapes rs)) (below radix)

-- one draw for each radix, in order, and below it
abbrev pub Tape : (radices tape : List ℕ) → Type 0
Tape rs tape = AllZip (λ radix draw. draw < radix) rs tape

-- What the pile means after the events, oldest first, by its own rules. Each entry takes the next draw of the tape.
abbrev pub under : Meaning → List Event → (tape : List ℕ) → Meaning
under m [] tape = m
under m (came tag class ∷ es) [] = m
under m (came tag class ∷ es) (draw ∷ tape) = under (entry_rule m tag class draw).after es tape
under m (went tag class ∷ es) tape = under (leave_rule m tag class).after es tape

-- the tags that stand on the places
abbrev pub sample : List Place → List ℕ
sample [] = []
sample (None ∷ ps) = sample ps
sample (Some tag ∷ ps) = tag ∷ sample ps

-- whether each tag of the second list is on the first
abbrev pub has_all : (ts others : List ℕ) → Bool
has_all ts [] = true
has_all ts (u ∷ us) = has ts u && has_all ts us

-- whether the places hold the tags of the set and no others
abbrev pub hold : List Place → (set : List ℕ) → Bool
hold ps set = has_all (sample ps) set && has_all set (sample ps)

-- a list without repetition
abbrev pub Distinct : List ℕ → Type 0
Distinct [] = Unit {0}
Distinct (t ∷ ts) = AllByRecursion (λ u. u ≢ t) ts × Distinct ts

-- a set of tags, all of which are on the list
pub record SetOf (ts set : List ℕ) : Type 0 where
  pub distinct : Distinct set
  pub among : has_all ts set ≡ true

-- how many tapes there are
abbrev pub tape_count : Meaning → List Event → ℕ
tape_count m es = length (tapes (radices m es))

-- under how many of them the places hold the set and nothing else
abbrev pub sample_count : Meaning → List Event → (set : List ℕ) → ℕ
sample_count m es set = count_by (λ tape. hold (under m es tape).places set) (tapes (radices m es))

-- whether two lists of draws are the same
abbrev pub same_draws : List ℕ → List ℕ → Bool
same_draws [] [] = true
same_draws [] (y ∷ ys) = false
same_draws (x ∷ xs) [] = false
same_draws (x ∷ xs) (y ∷ ys) = x == y && same_draws xs ys

-- how often a list of draws stands among the tapes
abbrev pub times_listed : (radices draws : List ℕ) → ℕ
times_listed rs draws = count_by (same_draws draws) (tapes rs)
