-- A worked example, byte by byte: names, capacity 4, bound 2, all classes, front 0; a, b and c enter, c leaves, a reading, d enters,
-- a reading, the end; with the draws 0, 0, 1 and 0 of the radices 1, 2, 3 and 1.
use Rattle.std.specs.Prelude.{ℕ, List, [], ◌∷◌, ◌++◌, None, codes}
use Rattle.sources.specs.Records.{record_bytes}
use Rattle.replays.specs.Replays.{Outcome, Room}

abbrev pub example_log : List ℕ
example_log =
    codes "SLB" ++ (0 ∷ 4 ∷ 2 ∷ 0xFF ∷ 0 ∷ [])
    ++ (codes "EN" ++ (1 ∷ codes "a"))
    ++ (codes "EN" ++ (1 ∷ codes "b"))
    ++ (codes "EN" ++ (1 ∷ codes "c"))
    ++ (codes "LV" ++ (1 ∷ codes "c"))
    ++ codes "RD"
    ++ (codes "EN" ++ (1 ∷ codes "d"))
    ++ codes "RDZZ"

abbrev pub example_tape : List ℕ
example_tape = record_bytes 1 0 ++ record_bytes 2 0 ++ record_bytes 3 1 ++ record_bytes 1 0

abbrev pub example_page : List ℕ
example_page =
    (codes "READ 2 1" ++ (0x0A ∷ []))
    ++ (codes "0 b" ++ (0x0A ∷ []))
    ++ (codes "1" ++ (0x0A ∷ []))
    ++ (codes "READ 3 0" ++ (0x0A ∷ []))
    ++ (codes "0 b" ++ (0x0A ∷ []))
    ++ (codes "1 d" ++ (0x0A ∷ []))
    ++ (codes "END 4" ++ (0x0A ∷ []))

-- as much as a replay is lent
abbrev pub full_room : Room
full_room = record { page = 50000; number_records = 1024; name_records = 1024 }

abbrev pub example_outcome : Outcome
example_outcome = record { page = example_page; refused = None }
