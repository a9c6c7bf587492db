-- Bytes, and what a buffer holds after some were put into it.
use Rattle.std.specs.Prelude.{ℕ, ◌+◌, ◌<◌, Bool, true, false, List, ◌++◌, length, take, drop, Some, None, Option, nat_le}
use Rattle.std.specs.List.{AllByRecursion}

-- each number of the list is a byte
abbrev pub Bytes : List ℕ → Type 0
Bytes bs = AllByRecursion (λ b. b < 256) bs

-- do the bytes fit into the buffer from the offset on?
abbrev pub fits : (bytes buffer : List ℕ) (at : ℕ) → Bool
fits bytes buffer at = nat_le (at + length bytes) (length buffer)

-- how many bytes were put, or none where they do not fit
abbrev pub count_if : Bool → ℕ → Option ℕ
count_if true n = Some n
count_if false n = None

abbrev pub put_count : (bytes buffer : List ℕ) (at : ℕ) → Option ℕ
put_count bytes buffer at = count_if (fits bytes buffer at) (length bytes)

-- the buffer afterwards: the bytes stand at the offset, and all else stays; where they do not fit, all stays
abbrev pub buffer_if : Bool → (bytes buffer : List ℕ) (at : ℕ) → List ℕ
buffer_if true bytes buffer at = take at buffer ++ (bytes ++ drop (at + length bytes) buffer)
buffer_if false bytes buffer at = buffer

abbrev pub put_buffer : (bytes buffer : List ℕ) (at : ℕ) → List ℕ
put_buffer bytes buffer at = buffer_if (fits bytes buffer at) bytes buffer at

-- what then stands from the offset on
abbrev pub put_from : (bytes buffer : List ℕ) (at : ℕ) → List ℕ
put_from bytes buffer at = drop at (put_buffer bytes buffer at)
