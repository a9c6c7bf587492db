-- Each fault's refusal: its number, its layer, and for a source its byte of the tape; and how each fault prints.
use Rattle.std.specs.Prelude.{ℕ, ◌+◌, ◌-◌, ◌*◌, ◌&&◌, cond, List, [], ◌∷◌, ◌++◌, codes, decimal, nat_le, nat_lt}
use Rattle.pile.specs.Answers.{opening_fault_number, opening_fault_text}
use Rattle.keys.specs.Answers.{key_fault_text}
use Rattle.keys.specs.declared.faults.KeyFault.{KeyFault}
use Rattle.keys.specs.declared.faults.KeyFault.TheVariants.{Unlawful, Short}
use Rattle.sources.specs.Answers.{source_refusal, source_fault_text}
use Rattle.roster.specs.Numbers.{roster_fault_number, roster_fault_text, capacity_fault_number, capacity_fault_text}
use Rattle.roster.specs.declared.faults.EnterFault.{EnterFault}
use Rattle.roster.specs.declared.faults.EnterFault.TheVariants.{Roster as of_roster, Source as of_source}
use Rattle.replays.specs.Refusals.{in_opening, in_key, in_roster, in_log, Refusal, plain, by_source}
use Rattle.logs.specs.declared.faults.LogFault.{LogFault}
use Rattle.logs.specs.declared.faults.LogFault.TheVariants.{Room, TooLong, Cut, UnknownMark, TooManyReadings, BytesAfterEnd}
use Rattle.logs.specs.declared.faults.ReplayFault.{ReplayFault}
use Rattle.logs.specs.declared.faults.ReplayFault.TheVariants.{Log, Capacity, Opening, Key, Roster, Source, TapeLeft}

abbrev pub log_fault_number : LogFault → ℕ
log_fault_number Room = 21
log_fault_number TooLong = 22
log_fault_number Cut = 23
log_fault_number UnknownMark = 24
log_fault_number TooManyReadings = 25
log_fault_number BytesAfterEnd = 26

-- a key that is not whole is the log's fault
abbrev pub key_refusal : (byte : ℕ) → KeyFault → Refusal
key_refusal byte Unlawful = plain in_key 6 byte
key_refusal byte Short = plain in_log 23 byte

-- the refusal that a fault makes at a byte of the log
abbrev pub fault_refusal : (byte : ℕ) → ReplayFault → Refusal
fault_refusal byte (Log fault) = plain in_log (log_fault_number fault) byte
fault_refusal byte (Capacity fault) = plain in_opening (capacity_fault_number fault) byte
fault_refusal byte (Opening fault) = plain in_opening (opening_fault_number fault) byte
fault_refusal byte (Key fault) = key_refusal byte fault
fault_refusal byte (Roster fault) = plain in_roster (roster_fault_number fault) byte
fault_refusal byte (Source fault) = by_source (source_refusal fault).number byte (source_refusal fault).byte
fault_refusal byte (TapeLeft tape_byte) = by_source 27 byte tape_byte

-- an enter's fault is the roster's or the source's
abbrev pub from_entering : EnterFault → ReplayFault
from_entering (of_roster fault) = Roster fault
from_entering (of_source fault) = Source fault

-- how each fault prints
abbrev pub log_fault_text : LogFault → List ℕ
log_fault_text Room = codes "21: the page or the records are too short"
log_fault_text TooLong = codes "22: the log or the tape is too long"
log_fault_text Cut = codes "23: the log ends before a record is whole"
log_fault_text UnknownMark = codes "24: the mark or the kind of key is not known"
log_fault_text TooManyReadings = codes "25: the log has more than 64 readings"
log_fault_text BytesAfterEnd = codes "26: the log has bytes after its end"

-- a key that is cut prints as the log's fault, since its own words have no number
abbrev pub key_text : KeyFault → List ℕ
key_text Unlawful = key_fault_text Unlawful
key_text Short = log_fault_text Cut

abbrev pub replay_fault_text : ReplayFault → List ℕ
replay_fault_text (Log fault) = log_fault_text fault
replay_fault_text (Capacity fault) = capacity_fault_text fault
replay_fault_text (Opening fault) = opening_fault_text fault
replay_fault_text (Key fault) = key_text fault
replay_fault_text (Roster fault) = roster_fault_text fault
replay_fault_text (Source fault) = source_fault_text fault
replay_fault_text (TapeLeft byte) = codes "27: the tape has bytes left (byte " ++ (decimal byte ++ codes ")")

-- the number that a text begins with, in decimal
abbrev pub number_from : (so_far : ℕ) → List ℕ → ℕ
number_from so_far [] = so_far
number_from so_far (byte ∷ bytes) = cond (nat_le 48 byte && nat_lt byte 58) (number_from (so_far * 10 + (byte - 48)) bytes) so_far

abbrev pub number_first : List ℕ → ℕ
number_first text = number_from 0 text
