-- The page is random pairing's: what the readings have to do with the log's events and the tape's draws. Keys are told by their byte
-- forms, and the rules are those that the evenness promise counts by, over any numbering of the keys.
use Rattle.std.specs.Prelude.{◌≡◌, ℕ, zero, suc, ◌+◌, ◌*◌, List, [], ◌∷◌, length, take, drop, Some, None, Option}
use Rattle.std.specs.List.{slice_get}
use Rattle.pile.specs.Answers.{told, Place}
use Rattle.pile.specs.Meaning.{Meaning}
use Rattle.pile.specs.Rules.{entry_rule, leave_rule}
use Rattle.pile.specs.declared.receipts.EntryReceipt.{EntryReceipt}
use Rattle.pile.specs.declared.receipts.LeaveReceipt.{LeaveReceipt}
use Rattle.evenness.specs.Events.{Event, came, went, Possible, live_count, unpaired_count, radices}
use Rattle.evenness.specs.Tapes.{Tape, under}
use Rattle.sources.specs.Tapes.{read_record}
use Rattle.sources.specs.declared.records.Record.{Record}
use Rattle.calls.specs.Book.{KeyView}
use Rattle.replays.specs.Happenings.{Reading, Happening, came_in, went_out, was_read, ended, was_refused, refusal_in, entry_receipts}
use Rattle.replays.specs.Records.{LogRecord, enters, leaves, reads, ends, unread, records_from}
use Rattle.replays.specs.Refusals.{Refusal}
use Rattle.replays.specs.Replays.{log_kind, history}
use Rattle.replays.specs.Settings.{setting_in, new_pile}

-- a numbering of keys: no two keys have one number
abbrev pub OneToOne : (number : List ℕ → ℕ) → Type 0
OneToOne number = (form other : List ℕ) → number form ≡ number other → form ≡ other

-- one numbering: a number in front of a form is so many doublings of an odd number
abbrev pub doubled : (times n : ℕ) → ℕ
doubled zero n = n
doubled (suc times) n = 2 * doubled times n

abbrev pub form_number : (form : List ℕ) → ℕ
form_number [] = 0
form_number (byte ∷ form) = doubled byte (2 * form_number form + 1)

-- the events of records: a key came, a key went
abbrev pub then_events : (number : List ℕ → ℕ) → LogRecord → List Event → List Event
then_events number (enters key) later = came (number key.form) key.class ∷ later
then_events number (leaves key) later = went (number key.form) key.class ∷ later
then_events number reads later = later
then_events number ends later = later
then_events number (unread layer n) later = later

abbrev pub events_of : (number : List ℕ → ℕ) → List LogRecord → List Event
events_of number [] = []
events_of number (what ∷ later) = then_events number what (events_of number later)

-- the records of a log after SL
abbrev pub log_records : (log : List ℕ) → List LogRecord
log_records log = records_from (log_kind log) (drop 8 log)

-- the draws of the records that a tape begins with
abbrev pub then_draws : Option Record → List ℕ → List ℕ
then_draws None later = []
then_draws (Some r) later = r.draw ∷ later

abbrev pub draws_in : (most : ℕ) (tape : List ℕ) → List ℕ
draws_in zero tape = []
draws_in (suc most) tape = then_draws (read_record tape) (draws_in most (drop 6 tape))

abbrev pub draws_on : (tape : List ℕ) → List ℕ
draws_on tape = draws_in (length tape) tape

-- the places of a reading, each with its key's number in the key's stead
abbrev pub numbered : (number : List ℕ → ℕ) → Option (List ℕ) → Place
numbered number None = None
numbered number (Some form) = Some (number form)

abbrev pub all_numbered : (number : List ℕ → ℕ) → List (Option (List ℕ)) → List Place
all_numbered number [] = []
all_numbered number (place ∷ places) = numbered number place ∷ all_numbered number places

-- A reading is the sample's after these events under these draws: N and d follow from the events, and the places are those that the
-- rules give under the draws. The events can happen in this order, and as many of the draws as there are entries are a tape with
-- their radices.
pub record PairedReading (number : List ℕ → ℕ) (m : Meaning) (events : List Event) (draws : List ℕ) (r : Reading) : Type 0 where
  pub live : r.live ≡ live_count m events
  pub unpaired : r.unpaired ≡ unpaired_count m events
  pub places : all_numbered number r.places ≡ (under m events draws).places
  pub possible : Possible m events
  pub taped : Tape (radices m events) (take (length (radices m events)) draws)

-- Each reading of a replay, refused later or not: it is the sample's after the events of the log's records before it.
abbrev pub RandomPairing : (number : List ℕ → ℕ) (log tape : List ℕ) → Type 0
RandomPairing number log tape =
    (i : ℕ) (r : Reading) → slice_get (history log tape) i ≡ Some (was_read r) →
    PairedReading number (new_pile (setting_in log)) (events_of number (take i (log_records log))) (draws_on tape) r

-- The receipt of each entry and of each leave is the one that the rules give, to the pile that the events before it have led to.
abbrev pub RightReceipt : (number : List ℕ → ℕ) → Meaning → Happening → Type 0
RightReceipt number m (came_in key receipt) =
    (entry_rule m (number key.form) key.class receipt.draw).answer ≡ told receipt
RightReceipt number m (went_out key receipt) = (leave_rule m (number key.form) key.class).answer ≡ told receipt
RightReceipt number m (was_read reading) = Unit {0}
RightReceipt number m (ended draws) = Unit {0}
RightReceipt number m (was_refused refusal) = Unit {0}

abbrev pub RightReceipts : (number : List ℕ → ℕ) (log tape : List ℕ) → Type 0
RightReceipts number log tape =
    (i : ℕ) (h : Happening) → slice_get (history log tape) i ≡ Some h →
    RightReceipt number (under (new_pile (setting_in log)) (events_of number (take i (log_records log))) (draws_on tape)) h

-- What happens goes over the log's records in order and leaves none out, up to the end or to a refusal.
pub data GoesOver : List LogRecord → List Happening → Type 0 where
  over_EN :
      {records : List LogRecord} {later : List Happening} → (key : KeyView) (receipt : EntryReceipt) → GoesOver records later →
      GoesOver (enters key ∷ records) (came_in key receipt ∷ later)
  over_LV :
      {records : List LogRecord} {later : List Happening} → (key : KeyView) (receipt : LeaveReceipt) → GoesOver records later →
      GoesOver (leaves key ∷ records) (went_out key receipt ∷ later)
  over_RD :
      {records : List LogRecord} {later : List Happening} → (reading : Reading) → GoesOver records later →
      GoesOver (reads ∷ records) (was_read reading ∷ later)
  over_ZZ : (draws : ℕ) → GoesOver (ends ∷ []) (ended draws ∷ [])
  over_none : {records : List LogRecord} → (refusal : Refusal) → GoesOver records (was_refused refusal ∷ [])

-- Radix and draw of each entry's receipt are those of the tape's records, one after the other.
abbrev pub OnTape : (tape : List ℕ) (draws : ℕ) → List EntryReceipt → Type 0
OnTape tape draws [] = Unit {0}
OnTape tape draws (receipt ∷ receipts) =
    (read_record (drop (6 * draws) tape) ≡ Some (record { radix = receipt.radix; draw = receipt.draw }))
    × OnTape tape (draws + 1) receipts

-- The receipts are on the tape; where nothing is refused they are all of it, and END counts them.
pub record UsesTape (log tape : List ℕ) : Type 0 where
  pub on_tape : OnTape tape 0 (entry_receipts (history log tape))
  pub all_of_it : refusal_in (history log tape) ≡ None → 6 * length (entry_receipts (history log tape)) ≡ length tape
  pub counted : (i draws : ℕ) → slice_get (history log tape) i ≡ Some (ended draws) → draws ≡ length (entry_receipts (history log tape))
