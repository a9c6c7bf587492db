-- The number of each fault, and how it prints.
use Rattle.std.specs.Prelude.{ℕ, List, codes}
use Rattle.pile.specs.Answers.{pile_fault_number, pile_fault_text}
use Rattle.roster.specs.declared.faults.RosterFault.{RosterFault}
use Rattle.roster.specs.declared.faults.RosterFault.TheVariants.{Unlawful, EntryOpen, AlreadyLive, NoRoom, OtherSlip, DrawTooLarge, NotLive, Pile}
use Rattle.sources.specs.Answers.{source_refusal, source_fault_text}
use Rattle.roster.specs.declared.faults.CapacityFault.{CapacityFault}
use Rattle.roster.specs.declared.faults.CapacityFault.TheVariants.{Capacity}
use Rattle.roster.specs.declared.faults.EnterFault.{EnterFault}
use Rattle.roster.specs.declared.faults.EnterFault.TheVariants.{Roster, Source}

abbrev pub roster_fault_number : RosterFault → ℕ
roster_fault_number Unlawful = 6
roster_fault_number EntryOpen = 7
roster_fault_number AlreadyLive = 8
roster_fault_number NoRoom = 9
roster_fault_number OtherSlip = 11
roster_fault_number DrawTooLarge = 12
roster_fault_number NotLive = 13
roster_fault_number (Pile fault) = pile_fault_number fault

abbrev pub capacity_fault_number : CapacityFault → ℕ
capacity_fault_number Capacity = 1

abbrev pub enter_fault_number : EnterFault → ℕ
enter_fault_number (Roster fault) = roster_fault_number fault
enter_fault_number (Source fault) = (source_refusal fault).number

abbrev pub roster_fault_text : RosterFault → List ℕ
roster_fault_text Unlawful = codes "6: the key is not lawful"
roster_fault_text EntryOpen = codes "7: an entry is open"
roster_fault_text AlreadyLive = codes "8: the key is live already"
roster_fault_text NoRoom = codes "9: the roster has no room"
roster_fault_text OtherSlip = codes "11: the slip is not the open entry's, or the pile calls for another radix"
roster_fault_text DrawTooLarge = codes "12: the draw is not below the radix"
roster_fault_text NotLive = codes "13: the key is not live"
roster_fault_text (Pile fault) = pile_fault_text fault

abbrev pub capacity_fault_text : CapacityFault → List ℕ
capacity_fault_text Capacity = codes "1: the capacity is not 1 to 1024, or there are fewer records"

abbrev pub enter_fault_text : EnterFault → List ℕ
enter_fault_text (Roster fault) = roster_fault_text fault
enter_fault_text (Source fault) = source_fault_text fault
