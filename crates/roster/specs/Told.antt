-- What the answers of the calls say, in the words of the rules.
use Rattle.std.specs.Prelude.{◌≡◌, Ok, Err, Result}
use Rattle.pile.specs.declared.receipts.EntryReceipt.{EntryReceipt}
use Rattle.pile.specs.declared.receipts.LeaveReceipt.{LeaveReceipt}
use Rattle.sources.specs.Answers.{source_refusal as refusal-of}
use Rattle.calls.specs.Calls.{Call, settle, withdraw}
use Rattle.calls.specs.Steps.{Answer, refusal, source_refusal, slip, entered, withdrawn, left}
use Rattle.roster.specs.Numbers.{roster_fault_number}
use Rattle.roster.specs.declared.faults.RosterFault.{RosterFault}
use Rattle.roster.specs.declared.faults.EnterFault.{EnterFault}
use Rattle.roster.specs.declared.faults.EnterFault.TheVariants.{Roster, Source}
use Rattle.roster.specs.declared.slip.Slip.{Slip}
use Rattle.roster.specs.declared.slip.Unsettled.{Unsettled}

-- the calls that spend a slip, by its numbers
abbrev pub settling : Slip → Call
settling s = settle s.tag s.class s.radix

abbrev pub withdrawing : Slip → Call
withdrawing s = withdraw s.tag s.class s.radix

abbrev pub admit_told : Result Slip RosterFault → Answer
admit_told (Ok s) = slip s.tag s.class s.radix
admit_told (Err fault) = refusal (roster_fault_number fault)

abbrev pub settle_told : Result EntryReceipt Unsettled → Answer
settle_told (Ok receipt) = entered receipt
settle_told (Err unsettled) = refusal (roster_fault_number unsettled.fault)

-- a withdraw answers 0, or its refusal's number
abbrev pub withdraw_told : Result (Unit {0}) RosterFault → Answer
withdraw_told (Ok u) = withdrawn
withdraw_told (Err fault) = refusal (roster_fault_number fault)

-- a source's fault comes back whole
abbrev pub enter_told : Result EntryReceipt EnterFault → Answer
enter_told (Ok receipt) = entered receipt
enter_told (Err (Roster fault)) = refusal (roster_fault_number fault)
enter_told (Err (Source fault)) = source_refusal (refusal-of fault).number (refusal-of fault).byte

abbrev pub leave_told : Result LeaveReceipt RosterFault → Answer
leave_told (Ok receipt) = left receipt
leave_told (Err fault) = refusal (roster_fault_number fault)

-- a refused settle hands its slip back
abbrev pub slip_back : Result EntryReceipt Unsettled → Slip → Type 0
slip_back (Ok receipt) s = Unit {0}
slip_back (Err unsettled) s = unsettled.slip ≡ s
