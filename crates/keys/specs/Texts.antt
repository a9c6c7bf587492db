-- The text of a name: what is lawful, and how memory of eight bytes holds it.
use Rattle.std.specs.Prelude.{ℕ, ◌-◌, Bool, ◌&&◌, List, ◌++◌, length, replicate, nat_le}
use Rattle.std.specs.List.{list_all}

-- 1 to 8
abbrev pub lawful_length : ℕ → Bool
lawful_length n = nat_le 1 n && nat_le n 8

-- 0x21 to 0x7E
abbrev pub lawful_byte : ℕ → Bool
lawful_byte b = nat_le 0x21 b && nat_le b 0x7E

abbrev pub lawful_bytes : List ℕ → Bool
lawful_bytes bytes = list_all lawful_byte bytes

-- what is lawful: 1 to 8 bytes, each 0x21 to 0x7E
abbrev pub lawful_text : List ℕ → Bool
lawful_text text = lawful_length (length text) && lawful_bytes text

-- the text and then zeros, up to eight bytes
abbrev pub padded_text : List ℕ → List ℕ
padded_text text = text ++ replicate (8 - length text) 0
