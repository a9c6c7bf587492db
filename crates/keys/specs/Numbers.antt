-- The numbers as keys: byte form, lawfulness, class, reading. A number is its value here.
use Rattle.std.specs.Prelude.{ℕ, ◌+◌, ◌*◌, ◌/◌, ◌%◌, Bool, true, false, ◌&&◌, List, [], ◌∷◌, decimal, nat_le, nat_lt}
use Rattle.keys.specs.Answers.{Reading, read_if, too_short}
use Rattle.keys.specs.Index.{index_of}
use Rattle.keys.specs.View.{KeyView}
use Rattle.keys.specs.declared.number.Number.{Number}

-- two bytes, the high one first
abbrev pub number_form : Number → List ℕ
number_form n = n / 256 ∷ n % 256 ∷ []

-- 1 to 65,535
abbrev pub lawful_number : Number → Bool
lawful_number n = nat_le 1 n && nat_le n 65535

-- 0 up to 127, 1 up to 10,239, 2 above
abbrev pub number_class_when : (small middle : Bool) → ℕ
number_class_when true middle = 0
number_class_when false true = 1
number_class_when false false = 2

abbrev pub number_class : Number → ℕ
number_class n = number_class_when (nat_le n 127) (nat_le n 10239)

abbrev pub number_view : Number → KeyView
number_view n =
    record {
      form = number_form n;
      class = number_class n;
      index = index_of (number_form n);
      lawful = lawful_number n;
    }

-- a number prints in decimal
abbrev pub number_printed : Number → List ℕ
number_printed n = decimal n

abbrev pub of_bytes : (high low : ℕ) → Number
of_bytes high low = high * 256 + low

-- two bytes that make a lawful number; a list can also hold what is no byte, and that makes none
abbrev pub number_reading : List ℕ → Reading Number
number_reading [] = too_short
number_reading (high ∷ []) = too_short
number_reading (high ∷ low ∷ rest) = read_if (nat_lt low 256 && lawful_number (of_bytes high low)) (of_bytes high low)
