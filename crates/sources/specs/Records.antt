-- Writing receipts of entries as tape records, and which receipts read back.
use Rattle.std.specs.Prelude.{◌≡◌, ℕ, ◌+◌, ◌/◌, ◌%◌, ◌<◌, Bool, true, false, List, [], ◌∷◌, ◌++◌, map, length, take, drop, nat_le}
use Rattle.pile.specs.Answers.{Told, refused, told}
use Rattle.pile.specs.declared.receipts.EntryReceipt.{EntryReceipt}
use Rattle.sources.specs.Answers.{lawful_radix}
use Rattle.sources.specs.Tapes.{mark}

-- a number in two bytes, high byte first
abbrev pub two_bytes : ℕ → List ℕ
two_bytes n = n / 256 % 256 ∷ n % 256 ∷ []

abbrev pub record_bytes : (radix draw : ℕ) → List ℕ
record_bytes radix draw = mark ++ (two_bytes radix ++ two_bytes draw)

-- six bytes are free at the offset
abbrev pub has_room : List ℕ → (offset : ℕ) → Bool
has_room tape offset = nat_le (offset + 6) (length tape)

-- the answer is the offset after the record
abbrev pub write_when : Bool → (offset : ℕ) → Told ℕ
write_when true offset = told (offset + 6)
write_when false offset = refused 20

abbrev pub write_rule : List ℕ → (offset : ℕ) → Told ℕ
write_rule tape offset = write_when (has_room tape offset) offset

-- what then stands in the buffer: the record at the offset, and the rest as it was
abbrev pub written_when : Bool → List ℕ → (offset : ℕ) → List ℕ → List ℕ
written_when true tape offset bytes = take offset tape ++ (bytes ++ drop (offset + 6) tape)
written_when false tape offset bytes = tape

abbrev pub written : List ℕ → (offset : ℕ) → EntryReceipt → List ℕ
written tape offset e = written_when (has_room tape offset) tape offset (record_bytes e.radix e.draw)

-- receipts written one after the other, from the offset on
abbrev pub written_all : List ℕ → (offset : ℕ) → List EntryReceipt → List ℕ
written_all tape offset [] = tape
written_all tape offset (e ∷ es) = written_all (written tape offset e) (offset + 6) es

-- a receipt that a tape can give back: the radix is 1 to 1,024, and the draw below it
pub record Lawful (e : EntryReceipt) : Type 0 where
  pub radix : lawful_radix e.radix ≡ true
  pub draw : e.draw < e.radix

abbrev pub AllLawful : List EntryReceipt → Type 0
AllLawful [] = Unit {0}
AllLawful (e ∷ es) = Lawful e × AllLawful es

-- the records of a list of receipts, one after the other
abbrev pub records_of : List EntryReceipt → List ℕ
records_of [] = []
records_of (e ∷ es) = record_bytes e.radix e.draw ++ records_of es

abbrev pub radices_of : List EntryReceipt → List ℕ
radices_of es = map (λ (e : EntryReceipt). e.radix) es

abbrev pub draws_of : List EntryReceipt → List ℕ
draws_of es = map (λ (e : EntryReceipt). e.draw) es
