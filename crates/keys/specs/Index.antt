-- The index number of a key: its byte form mixed into a number below 65,521, byte by byte.
use Rattle.std.specs.Prelude.{ℕ, ◌+◌, ◌*◌, ◌%◌, List}
use Rattle.std.specs.List.{fold}

-- one byte more; 65,521 is the largest prime of two bytes
abbrev pub mixed : (index byte : ℕ) → ℕ
mixed index byte = ((index + byte) * 10761) % 65521

abbrev pub mixed_all : ℕ → List ℕ → ℕ
mixed_all index bytes = fold mixed index bytes

abbrev pub index_of : (form : List ℕ) → ℕ
index_of form = mixed_all 0 form
