-- The questions put before an opening, and what an opening takes where a setting did not pass.
use Rattle.std.specs.Prelude.{ℕ, Bool, true, false, not, ◌&&◌, ◌==◌, nat_le}
use Rattle.pile.specs.Answers.{Told, refused, told}

-- a setting that passes is told again, and one that does not gets the number
abbrev pub asked : (passes : Bool) (number setting : ℕ) → Told ℕ
asked true number setting = told setting
asked false number setting = refused number

abbrev pub one_to_64 : ℕ → Bool
one_to_64 n = nat_le 1 n && nat_le n 64

abbrev pub bound_rule : ℕ → Told ℕ
bound_rule bound = asked (one_to_64 bound) 2 bound

abbrev pub classes_rule : ℕ → Told ℕ
classes_rule classes = asked (not (classes == 0)) 3 classes

abbrev pub front_rule : ℕ → Told ℕ
front_rule size = asked (one_to_64 size) 4 size

-- a bound or a front that did not pass counts as 1
abbrev pub or_one : (passes : Bool) → ℕ → ℕ
or_one true n = n
or_one false n = 1

abbrev pub taken_size : ℕ → ℕ
taken_size n = or_one (one_to_64 n) n
