-- What the answers of the crate say. Every contract speaks of faults through these definitions.
use Rattle.std.specs.Prelude.{ℕ, Bool, false, ◌&&◌, List, ◌++◌, Ok, Err, codes, Result, ◌==◌, nat_le}
use Rattle.std.specs.Fmt.{decimal}
use Rattle.sources.specs.declared.faults.SourceFault.{SourceFault}
use Rattle.sources.specs.declared.faults.SourceFault.TheVariants.{Radix, NoneLeft, BadRecord, OtherRadix}
use Rattle.sources.specs.declared.faults.SeedFault.{SeedFault}
use Rattle.sources.specs.declared.faults.SeedFault.TheVariants.{Zero}
use Rattle.sources.specs.declared.faults.WriteFault.{WriteFault}
use Rattle.sources.specs.declared.faults.WriteFault.TheVariants.{NoRoom}

-- a refused draw: its number, and the byte at which the source stands
pub record Refusal : Type 0 where
  pub number : ℕ
  pub byte : ℕ

abbrev pub source_refusal : SourceFault → Refusal
source_refusal (Radix byte) = record { number = 16; byte = byte }
source_refusal (NoneLeft byte) = record { number = 17; byte = byte }
source_refusal (BadRecord byte) = record { number = 18; byte = byte }
source_refusal (OtherRadix byte) = record { number = 19; byte = byte }

abbrev pub seed_fault_number : SeedFault → ℕ
seed_fault_number Zero = 5

abbrev pub write_fault_number : WriteFault → ℕ
write_fault_number NoRoom = 20

-- how each fault prints; a refused draw also with its byte
abbrev pub source_fault_words : SourceFault → List ℕ
source_fault_words (Radix byte) = codes "16: the radix is not 1 to 1024"
source_fault_words (NoneLeft byte) = codes "17: the tape has no byte left"
source_fault_words (BadRecord byte) = codes "18: the next record of the tape is not a lawful one"
source_fault_words (OtherRadix byte) = codes "19: the next record of the tape has another radix"

abbrev pub source_fault_text : SourceFault → List ℕ
source_fault_text fault = source_fault_words fault ++ (codes " (byte " ++ (decimal (source_refusal fault).byte ++ codes ")"))

abbrev pub seed_fault_text : SeedFault → List ℕ
seed_fault_text Zero = codes "5: the seed is 0"

abbrev pub write_fault_text : WriteFault → List ℕ
write_fault_text NoRoom = codes "20: no six bytes are free for a record"

-- what a call for a draw answers
pub data Answer : Type 0 where
  drew : ℕ → Answer
  refused : Refusal → Answer

abbrev pub answered : Result ℕ SourceFault → Answer
answered (Ok draw) = drew draw
answered (Err fault) = refused (source_refusal fault)

-- whether it refuses by this number
abbrev pub refused_by : (number : ℕ) → Answer → Bool
refused_by number (drew draw) = false
refused_by number (refused refusal) = refusal.number == number

-- a radix is 1 to 1,024
abbrev pub lawful_radix : ℕ → Bool
lawful_radix radix = nat_le 1 radix && nat_le radix 1024
