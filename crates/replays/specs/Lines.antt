-- The lines of the page: fields with one space between, numbers in decimal, and 0x0A at the end.
use Rattle.std.specs.Prelude.{ℕ, ◌+◌, List, [], ◌∷◌, ◌++◌, Some, None, codes, decimal, Option}
use Rattle.replays.specs.Happenings.{Reading, Happening, came_in, went_out, was_read, ended, was_refused}
use Rattle.replays.specs.Kinds.{Kind}
use Rattle.replays.specs.Refusals.{Refusal, layer_word}

-- a line of these fields
abbrev pub line : (first : List ℕ) (others : List (List ℕ)) → List ℕ
line first [] = first ++ 0x0A ∷ []
line first (second ∷ others) = first ++ 0x20 ∷ line second others

-- READ, N and d
abbrev pub read_line : (live unpaired : ℕ) → List ℕ
read_line live unpaired = line (codes "READ") (decimal live ∷ decimal unpaired ∷ [])

-- a place: its number and its key, or its number alone for a hole
abbrev pub place_line : Kind → (i : ℕ) → Option (List ℕ) → List ℕ
place_line kind i None = line (decimal i) []
place_line kind i (Some form) = line (decimal i) (kind.prints form ∷ [])

-- the places from number i on
abbrev pub place_lines : Kind → (i : ℕ) → List (Option (List ℕ)) → List ℕ
place_lines kind i [] = []
place_lines kind i (place ∷ places) = place_line kind i place ++ place_lines kind (i + 1) places

abbrev pub reading_lines : Kind → Reading → List ℕ
reading_lines kind reading = read_line reading.live reading.unpaired ++ place_lines kind 0 reading.places

-- END and the number of draws used
abbrev pub end_line : (draws : ℕ) → List ℕ
end_line draws = line (codes "END") (decimal draws ∷ [])

-- REFUSED, number, byte and layer, and for a source the byte of the tape
abbrev pub tape_field : Option ℕ → List (List ℕ)
tape_field None = []
tape_field (Some byte) = decimal byte ∷ []

abbrev pub refused_line : Refusal → List ℕ
refused_line refusal =
    line (codes "REFUSED")
    (decimal refusal.number ∷ decimal refusal.byte ∷ layer_word refusal.layer ∷ tape_field refusal.tape_byte)

-- what each happening writes
abbrev pub lines_of : Kind → Happening → List ℕ
lines_of kind (came_in key receipt) = []
lines_of kind (went_out key receipt) = []
lines_of kind (was_read reading) = reading_lines kind reading
lines_of kind (ended draws) = end_line draws
lines_of kind (was_refused refusal) = refused_line refusal

abbrev pub lines : Kind → List Happening → List ℕ
lines kind [] = []
lines kind (happening ∷ later) = lines_of kind happening ++ lines kind later
