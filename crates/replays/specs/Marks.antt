-- The marks of the log: two letters before each record.
use Rattle.std.specs.Prelude.{ℕ, Bool, List, take, codes}
use Rattle.std.specs.Str.{bytes_eq}

-- the settings, first and only first
abbrev pub mark_SL : List ℕ
mark_SL = codes "SL"

-- a key enters
abbrev pub mark_EN : List ℕ
mark_EN = codes "EN"

-- a key leaves
abbrev pub mark_LV : List ℕ
mark_LV = codes "LV"

-- a reading
abbrev pub mark_RD : List ℕ
mark_RD = codes "RD"

-- the end
abbrev pub mark_ZZ : List ℕ
mark_ZZ = codes "ZZ"

-- whether the bytes begin with the mark
abbrev pub marked : (mark bytes : List ℕ) → Bool
marked mark bytes = bytes_eq mark (take 2 bytes)
