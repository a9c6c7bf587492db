-- The records of the log after SL: what stands at a byte.
use Rattle.std.specs.Prelude.{ℕ, zero, suc, ◌+◌, Bool, true, false, List, [], ◌∷◌, length, drop, nat_le}
use Rattle.calls.specs.Book.{KeyView}
use Rattle.replays.specs.Kinds.{KeyRead, found, key_refused, cut_short, Kind}
use Rattle.replays.specs.Marks.{mark_EN, mark_LV, mark_RD, mark_ZZ, marked}
use Rattle.replays.specs.Refusals.{Layer, in_key, in_log}

pub data LogRecord : Type 0 where
  -- EN and a key's byte form
  enters : KeyView → LogRecord
  -- LV and a key's byte form
  leaves : KeyView → LogRecord
  -- RD
  reads : LogRecord
  -- ZZ
  ends : LogRecord
  -- no record, by this number of the log or of a key
  unread : Layer → (number : ℕ) → LogRecord

-- A record with a key. Are its bytes there? 23. Is it lawful? 6.
abbrev pub keyed : (KeyView → LogRecord) → KeyRead → LogRecord
keyed what (found key) = what key
keyed what (key_refused number) = unread in_key number
keyed what cut_short = unread in_log 23

-- by the mark: any other, a second SL too, is not known here: 24
abbrev pub by_mark : (is-EN is-LV is-RD is-ZZ : Bool) → Kind → (fields : List ℕ) → LogRecord
by_mark true is-LV is-RD is-ZZ kind fields = keyed enters (kind.reads fields)
by_mark false true is-RD is-ZZ kind fields = keyed leaves (kind.reads fields)
by_mark false false true is-ZZ kind fields = reads
by_mark false false false true kind fields = ends
by_mark false false false false kind fields = unread in_log 24

-- is the mark whole? 23
abbrev pub by_whole_mark : Bool → Kind → (left : List ℕ) → LogRecord
by_whole_mark false kind left = unread in_log 23
by_whole_mark true kind left =
    by_mark (marked mark_EN left) (marked mark_LV left) (marked mark_RD left) (marked mark_ZZ left) kind (drop 2 left)

-- the record that the bytes left of the log begin with
abbrev pub record_in : Kind → (left : List ℕ) → LogRecord
record_in kind left = by_whole_mark (nat_le 2 (length left)) kind left

-- how many bytes it takes
abbrev pub size : LogRecord → ℕ
size (enters key) = 2 + length key.form
size (leaves key) = 2 + length key.form
size reads = 2
size ends = 2
size (unread layer number) = 2

-- The records of the bytes that are left, in order, up to the end or to what is no record; as many as bytes are enough.
abbrev pub then_records : LogRecord → List LogRecord → List LogRecord
then_records (enters key) later = enters key ∷ later
then_records (leaves key) later = leaves key ∷ later
then_records reads later = reads ∷ later
then_records ends later = ends ∷ []
then_records (unread layer number) later = unread layer number ∷ []

abbrev pub records_in : Kind → (most : ℕ) (left : List ℕ) → List LogRecord
records_in kind zero left = []
records_in kind (suc most) left =
    let what = record_in kind left in then_records what (records_in kind most (drop (size what) left))

abbrev pub records_from : Kind → (left : List ℕ) → List LogRecord
records_from kind left = records_in kind (length left) left
