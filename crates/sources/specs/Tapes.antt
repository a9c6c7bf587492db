-- The tape: records of six bytes, and what a tape gives.
use Rattle.std.specs.Prelude.{ℕ, ◌+◌, ◌*◌, Bool, true, false, ◌&&◌, List, [], ◌∷◌, length, take, drop, Some, None, Option, ◌==◌, nat_le, nat_lt, slice_index}
use Rattle.std.specs.Str.{bytes_eq}
use Rattle.sources.specs.declared.records.Record.{Record}
use Rattle.sources.specs.Answers.{Answer, drew, refused, lawful_radix}
use Rattle.sources.specs.Courses.{Course, course_by}

-- the mark before each record: D and R
abbrev pub mark : List ℕ
mark = 68 ∷ 82 ∷ []

-- two bytes from index i on, high byte first
abbrev pub number_at : List ℕ → (i : ℕ) → ℕ
number_at bytes i = slice_index bytes i * 256 + slice_index bytes (i + 1)

-- a whole record, marked, with its own radix lawful and its draw below that
abbrev pub passes : List ℕ → Bool
passes left = nat_le 6 (length left) && (bytes_eq mark (take 2 left) && (lawful_radix (number_at left 2) && nat_lt (number_at left 4) (number_at left 2)))

abbrev pub read_when : Bool → List ℕ → Option Record
read_when true left = Some (record { radix = number_at left 2; draw = number_at left 4 })
read_when false left = None

-- the record that the bytes begin with
abbrev pub read_record : List ℕ → Option Record
read_record left = read_when (passes left) left

-- The questions put to a tape that stands at a byte, in this order.
abbrev pub same_radix : Bool → (byte draw : ℕ) → Answer
same_radix true byte draw = drew draw
same_radix false byte draw = refused (record { number = 19; byte = byte })

abbrev pub by_record : Option Record → (byte radix : ℕ) → Answer
by_record None byte radix = refused (record { number = 18; byte = byte })
by_record (Some r) byte radix = same_radix (r.radix == radix) byte r.draw

abbrev pub by_left : Bool → (left : List ℕ) (byte radix : ℕ) → Answer
by_left true left byte radix = by_record (read_record left) byte radix
by_left false left byte radix = refused (record { number = 17; byte = byte })

abbrev pub by_radix : Bool → (left : List ℕ) (byte radix : ℕ) → Answer
by_radix true left byte radix = by_left (nat_lt 0 (length left)) left byte radix
by_radix false left byte radix = refused (record { number = 16; byte = byte })

-- what a tape answers once this many of its draws are used
abbrev pub tape_answer : List ℕ → (draws radix : ℕ) → Answer
tape_answer bytes draws radix = by_radix (lawful_radix radix) (drop (6 * draws) bytes) (6 * draws) radix

abbrev pub tape_course : List ℕ → (draws : ℕ) → Course
tape_course bytes draws = course_by (tape_answer bytes) (λ k. k + 1) draws
