-- What the answers of the crate say, in the words of the crate `replays`, whose types are called Meant here.
use Rattle.std.specs.Prelude.{◌≡◌, ℕ, ◌≤◌, List, length, drop, Ok, Err, Result}
use Rattle.pile.specs.Answers.{Told, refused, told}
use Rattle.calls.specs.Book.{KeyView}
use Rattle.replays.specs.Kinds.{Kind as KindMeant, numbers, names}
use Rattle.replays.specs.Records.{LogRecord as RecordMeant, enters, leaves, reads, ends, unread, keyed, record_in}
use Rattle.replays.specs.Refusals.{in_log, Refusal, plain}
use Rattle.replays.specs.Settings.{Setting as SettingMeant, setting_rule, kind_in, Opened, opens_with, not_opened, opened_by, opened_kind, opening}
use Rattle.logs.specs.Faults.{log_fault_number, fault_refusal}
use Rattle.logs.specs.declared.faults.LogFault.{LogFault}
use Rattle.logs.specs.declared.faults.ReplayFault.{ReplayFault}
use Rattle.logs.specs.declared.marks.Mark.{Mark}
use Rattle.logs.specs.declared.marks.Mark.TheVariants.{Enter as enter_mark, Leave as leave_mark, Reading as reading_mark, End as end_mark}
use Rattle.logs.specs.declared.records.LogRecord.{LogRecord}
use Rattle.logs.specs.declared.records.LogRecord.TheVariants.{Enter, Leave, Reading, End}
use Rattle.logs.specs.declared.settings.Kind.{Kind}
use Rattle.logs.specs.declared.settings.Kind.TheVariants.{Numbers, Names}
use Rattle.logs.specs.declared.settings.Setting.{Setting}

-- The settings.
abbrev pub kind_told : Kind → KindMeant
kind_told Numbers = numbers
kind_told Names = names

abbrev pub setting_told : Setting → SettingMeant
setting_told s = record { capacity = s.capacity; bound = s.bound; classes = s.classes; front = s.front }

-- the opening's refusals have byte 0
abbrev pub opened_told : Result (Kind × Setting) ReplayFault → Opened
opened_told (Ok found) = opens_with (kind_told found.0) (setting_told found.1)
opened_told (Err fault) = not_opened (fault_refusal 0 fault)

-- no record, by layer and number of its refusal
abbrev pub unread_by : Refusal → RecordMeant
unread_by refusal = unread refusal.layer refusal.number

-- a record, by how the rules look at its key; a record has no byte, so 0 stands for it
abbrev pub record_told : {K : Type 0} → (view : K → KeyView) → Result (LogRecord K) ReplayFault → RecordMeant
record_told view (Ok (Enter key)) = enters (view key)
record_told view (Ok (Leave key)) = leaves (view key)
record_told view (Ok Reading) = reads
record_told view (Ok End) = ends
record_told view (Err fault) = unread_by (fault_refusal 0 fault)

-- What the steps of reading say. The record SL is there, and the questions go on with its kind; or the log is not opened.
abbrev pub AsksRecord : Result Unit LogFault → (log : List ℕ) → Type 0
AsksRecord (Ok found) log = (8 ≤ length log) × (opening log ≡ opened_kind (kind_in log) log)
AsksRecord (Err fault) log = opening log ≡ not_opened (plain in_log (log_fault_number fault) 0)

abbrev pub kind_answer : Result Kind LogFault → Told KindMeant
kind_answer (Ok kind) = told (kind_told kind)
kind_answer (Err fault) = refused (log_fault_number fault)

-- the settings pass, or why they do not, whatever the kind
abbrev pub asked_told : Result Setting ReplayFault → KindMeant → Opened
asked_told (Ok s) kind = opens_with kind (setting_told s)
asked_told (Err fault) kind = not_opened (fault_refusal 0 fault)

abbrev pub AsksSetting : Result Setting ReplayFault → SettingMeant → Type 0
AsksSetting r s = (kind : KindMeant) → asked_told r kind ≡ opened_by (setting_rule s) kind

-- the record after a mark, by the bytes after it
abbrev pub mark_told : Result Mark LogFault → KindMeant → (fields : List ℕ) → RecordMeant
mark_told (Ok enter_mark) kind fields = keyed enters (kind.reads fields)
mark_told (Ok leave_mark) kind fields = keyed leaves (kind.reads fields)
mark_told (Ok reading_mark) kind fields = reads
mark_told (Ok end_mark) kind fields = ends
mark_told (Err fault) kind fields = unread in_log (log_fault_number fault)

abbrev pub SaysMark : Result Mark LogFault → (left : List ℕ) → Type 0
SaysMark r left = (kind : KindMeant) → mark_told r kind (drop 2 left) ≡ record_in kind left
