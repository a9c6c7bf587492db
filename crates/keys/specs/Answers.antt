-- What reading a key answers, and the number of each fault.
-- Every contract of the crate speaks of these answers through these definitions.
use Rattle.std.specs.Prelude.{ℕ, Bool, true, false, List, length, drop, Some, None, Ok, Err, codes, Option, Result}
use Rattle.keys.specs.View.{KeyView}
use Rattle.keys.specs.declared.faults.KeyFault.{KeyFault}
use Rattle.keys.specs.declared.faults.KeyFault.TheVariants.{Unlawful, Short}

-- an unlawful key is refused by 6; bytes that end too soon have no number of their own
abbrev pub key_fault_number : KeyFault → Option ℕ
key_fault_number Unlawful = Some 6
key_fault_number Short = None

-- how a fault prints
abbrev pub key_fault_text : KeyFault → List ℕ
key_fault_text Unlawful = codes "6: the key is not lawful"
key_fault_text Short = codes "the bytes end before the key does"

-- an answer in the subject's words: the key that was read, or why none was, by its number if it has one
pub data Reading (K : Type 0) : Type 0 where
  read : K → Reading K
  refused : Option ℕ → Reading K

-- what the answer of a call says
abbrev pub read_told : {K : Type 0} → Result K KeyFault → Reading K
read_told (Ok k) = read k
read_told (Err e) = refused (key_fault_number e)

-- a key that is lawful is read, and one that is not is refused
abbrev pub read_if : {K : Type 0} → (lawful : Bool) → K → Reading K
read_if true k = read k
read_if false k = refused (Some 6)

-- the bytes end before the key does
abbrev pub too_short : {K : Type 0} → Reading K
too_short = refused None

-- what is left after the key that was read: all of it where none was
abbrev pub left_after : {K : Type 0} → (view : K → KeyView) → Reading K → List ℕ → List ℕ
left_after view (read k) bytes = drop (length (view k).form) bytes
left_after view (refused number) bytes = bytes
