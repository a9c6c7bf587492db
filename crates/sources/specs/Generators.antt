-- The generator: a 64-bit state that steps by shifts, and what it gives.
use Rattle.std.specs.Prelude.{ℕ, ◌*◌, ◌/◌, ◌%◌, ◌^◌, Bool, true, false, ◌==◌, bit_xor}
use Rattle.pile.specs.Answers.{Told, refused as no, told}
use Rattle.sources.specs.Answers.{Answer, drew, refused, lawful_radix}
use Rattle.sources.specs.Courses.{Course, course_by}

-- x with itself shifted left by k bits, cut to 64, or shifted right
abbrev pub with_left : (k x : ℕ) → ℕ
with_left k x = bit_xor x ((x * 2 ^ k) % 2 ^ 64)

abbrev pub with_right : (k x : ℕ) → ℕ
with_right k x = bit_xor x (x / 2 ^ k)

abbrev pub step : ℕ → ℕ
step x = with_left 17 (with_right 7 (with_left 13 x))

-- the draw that a state gives: its upper 32 bits, times the radix, over 2^32
abbrev pub scaled : (state radix : ℕ) → ℕ
scaled state radix = ((state / 2 ^ 32) * radix) / 2 ^ 32

abbrev pub generator_when : Bool → (state radix : ℕ) → Answer
generator_when true state radix = drew (scaled (step state) radix)
generator_when false state radix = refused (record { number = 16; byte = 0 })

abbrev pub generator_answer : (state radix : ℕ) → Answer
generator_answer state radix = generator_when (lawful_radix radix) state radix

abbrev pub generator_course : (state : ℕ) → Course
generator_course state = course_by generator_answer step state

-- a seed other than 0 passes; an opening counts 0 as 1
abbrev pub seed_when : (zero : Bool) (seed : ℕ) → Told ℕ
seed_when true seed = no 5
seed_when false seed = told seed

abbrev pub seed_rule : (seed : ℕ) → Told ℕ
seed_rule seed = seed_when (seed == 0) seed

abbrev pub seed_or_one : (zero : Bool) (seed : ℕ) → ℕ
seed_or_one true seed = 1
seed_or_one false seed = seed

abbrev pub taken_seed : (seed : ℕ) → ℕ
taken_seed seed = seed_or_one (seed == 0) seed
