-- Words for the laws over lists of changes of a pile.
use Rattle.std.specs.Prelude.{◌≡◌, ℕ, ◌+◌, ◌≤◌, Bool, true, false, List, [], ◌∷◌, Some, None, Option}
use Rattle.pile.specs.Answers.{Place, Told, refused, told}
use Rattle.pile.specs.Meaning.{Meaning}
use Rattle.pile.specs.Rules.{entry_rule, leave_rule, holds_tag}

-- what a host may ask a pile to do
pub data Change : Type 0 where
  entry : (tag class draw : ℕ) → Change
  leave : (tag class : ℕ) → Change

-- what the pile means after a change, refused or not, and after all of a list
abbrev pub after_one : Meaning → Change → Meaning
after_one m (entry tag class draw) = (entry_rule m tag class draw).after
after_one m (leave tag class) = (leave_rule m tag class).after

abbrev pub after_all : Meaning → List Change → Meaning
after_all m [] = m
after_all m (c ∷ cs) = after_all (after_one m c) cs

-- the number by which an answer refuses, if it does
abbrev pub refusal_in : {A : Type 0} → Told A → Option ℕ
refusal_in (refused number) = Some number
refusal_in (told a) = None

abbrev pub refusal : Meaning → Change → Option ℕ
refusal m (entry tag class draw) = refusal_in (entry_rule m tag class draw).answer
refusal m (leave tag class) = refusal_in (leave_rule m tag class).answer

-- on how many places a tag stands
abbrev pub one_if : Bool → ℕ
one_if true = 1
one_if false = 0

abbrev pub times : (tag : ℕ) → List Place → ℕ
times tag [] = 0
times tag (p ∷ ps) = one_if (holds_tag p tag) + times tag ps

abbrev pub StandsOnce : Meaning → Type 0
StandsOnce m = (tag : ℕ) → times tag m.places ≤ 1

-- no tag enters that stands then
abbrev pub EntersAnew : Meaning → Change → Type 0
EntersAnew m (entry tag class draw) = times tag m.places ≡ 0
EntersAnew m (leave tag class) = Unit {0}

abbrev pub AllEnterAnew : Meaning → List Change → Type 0
AllEnterAnew m [] = Unit {0}
AllEnterAnew m (c ∷ cs) = EntersAnew m c × AllEnterAnew (after_one m c) cs

abbrev pub IsEntry : Change → Type 0
IsEntry (entry tag class draw) = Unit {0}
IsEntry (leave tag class) = ⊥

abbrev pub AllEntries : List Change → Type 0
AllEntries [] = Unit {0}
AllEntries (c ∷ cs) = IsEntry c × AllEntries cs
