-- The replay: what each record does, what happens in a whole replay, and the outcome.
use Rattle.std.specs.Prelude.{ℕ, zero, suc, ◌+◌, ◌*◌, Bool, true, false, ◌&&◌, List, [], ◌∷◌, length, drop, Some, None, Option, ◌==◌, nat_le, nat_lt, slice_index}
use Rattle.pile.specs.Answers.{Place}
use Rattle.pile.specs.Meaning.{Meaning}
use Rattle.sources.specs.Tapes.{tape_course}
use Rattle.calls.specs.Book.{KeyView, Book}
use Rattle.calls.specs.Calls.{Call, enter, leave}
use Rattle.calls.specs.Runs.{World, step_of}
use Rattle.calls.specs.Steps.{Answer, refusal, source_refusal, slip, entered, withdrawn, left, place_is, counts_are, radix_is, live_is, so_many, open_is, key_is, Step, key_on}
use Rattle.replays.specs.Happenings.{Reading, Happening, came_in, went_out, was_read, ended, was_refused, refusal_in}
use Rattle.replays.specs.Kinds.{Kind, numbers, names}
use Rattle.replays.specs.Lines.{lines}
use Rattle.replays.specs.Records.{LogRecord, enters, leaves, reads, ends, unread, record_in, size}
use Rattle.replays.specs.Refusals.{in_roster, in_log, Refusal, plain, by_source}
use Rattle.replays.specs.Settings.{Setting, Opened, opens_with, not_opened, opening, new_roster, new_pile}

-- where a replay stands between two records
pub record State : Type 0 where
  pub book : Book
  pub pile : Meaning
  -- the draws used, and the readings taken
  pub draws : ℕ
  pub readings : ℕ

abbrev pub start : Setting → State
start s = record { book = new_roster s; pile = new_pile s; draws = 0; readings = 0 }

-- roster and pile meet the call, with the tape as the source
abbrev pub world : (tape : List ℕ) → State → World
world tape s = record { book = s.book; pile = s.pile; course = (tape_course tape s.draws).gives }

abbrev pub call_step : (tape : List ℕ) → State → Call → Step
call_step tape s call = step_of (world tape s) (record { call = call; draw = 0 })

-- what comes of a record at a byte, and where the replay then stands
pub record Turn : Type 0 where
  pub happened : Happening
  pub after : State

abbrev pub refused_turn : State → Refusal → Turn
refused_turn s r = record { happened = was_refused r; after = s }

-- An enter answers a receipt, a refusal of the roster, or one of the source. (No other answer comes of it; it would count as number 0.)
abbrev pub enter_turn : Answer → (key : KeyView) (byte : ℕ) → State → Step → Turn
enter_turn (entered receipt) key byte s st =
    record {
      happened = came_in key receipt;
      after = record { book = st.book; pile = st.pile; draws = s.draws + 1; readings = s.readings };
    }
enter_turn (refusal number) key byte s st = refused_turn s (plain in_roster number byte)
enter_turn (source_refusal number tape_byte) key byte s st = refused_turn s (by_source number byte tape_byte)
enter_turn (slip tag class radix) key byte s st = refused_turn s (plain in_roster 0 byte)
enter_turn withdrawn key byte s st = refused_turn s (plain in_roster 0 byte)
enter_turn (left receipt) key byte s st = refused_turn s (plain in_roster 0 byte)
enter_turn (place_is what) key byte s st = refused_turn s (plain in_roster 0 byte)
enter_turn (counts_are live unpaired standing) key byte s st = refused_turn s (plain in_roster 0 byte)
enter_turn (radix_is radix) key byte s st = refused_turn s (plain in_roster 0 byte)
enter_turn (live_is live) key byte s st = refused_turn s (plain in_roster 0 byte)
enter_turn (so_many live) key byte s st = refused_turn s (plain in_roster 0 byte)
enter_turn (open_is entry) key byte s st = refused_turn s (plain in_roster 0 byte)
enter_turn (key_is what) key byte s st = refused_turn s (plain in_roster 0 byte)

-- A leave answers a receipt, or a refusal of the roster.
abbrev pub leave_turn : Answer → (key : KeyView) (byte : ℕ) → State → Step → Turn
leave_turn (left receipt) key byte s st =
    record {
      happened = went_out key receipt;
      after = record { book = st.book; pile = st.pile; draws = s.draws; readings = s.readings };
    }
leave_turn (refusal number) key byte s st = refused_turn s (plain in_roster number byte)
leave_turn (source_refusal number tape_byte) key byte s st = refused_turn s (plain in_roster 0 byte)
leave_turn (entered receipt) key byte s st = refused_turn s (plain in_roster 0 byte)
leave_turn (slip tag class radix) key byte s st = refused_turn s (plain in_roster 0 byte)
leave_turn withdrawn key byte s st = refused_turn s (plain in_roster 0 byte)
leave_turn (place_is what) key byte s st = refused_turn s (plain in_roster 0 byte)
leave_turn (counts_are live unpaired standing) key byte s st = refused_turn s (plain in_roster 0 byte)
leave_turn (radix_is radix) key byte s st = refused_turn s (plain in_roster 0 byte)
leave_turn (live_is live) key byte s st = refused_turn s (plain in_roster 0 byte)
leave_turn (so_many live) key byte s st = refused_turn s (plain in_roster 0 byte)
leave_turn (open_is entry) key byte s st = refused_turn s (plain in_roster 0 byte)
leave_turn (key_is what) key byte s st = refused_turn s (plain in_roster 0 byte)

-- A reading: N, d, and the key on each place.
abbrev pub form_of : Option KeyView → Option (List ℕ)
form_of None = None
form_of (Some key) = Some key.form

abbrev pub forms_on : List (Option KeyView) → List Place → List (Option (List ℕ))
forms_on slots [] = []
forms_on slots (place ∷ places) = form_of (key_on slots place) ∷ forms_on slots places

abbrev pub reading : Book → Meaning → Reading
reading b m = record { live = m.live; unpaired = m.unpaired; places = forms_on b.slots m.places }

-- Is it at most the 64th? 25.
abbrev pub read_turn : (few : Bool) (byte : ℕ) → State → Turn
read_turn true byte s =
    record {
      happened = was_read (reading s.book s.pile);
      after = record { book = s.book; pile = s.pile; draws = s.draws; readings = s.readings + 1 };
    }
read_turn false byte s = refused_turn s (plain in_log 25 byte)

-- The end. Is the log at its end? 26, with the first byte after ZZ. Is the tape used up? 27, with the first byte that is not used.
abbrev pub end_turn : (log-ends tape_ends : Bool) (byte : ℕ) → State → Turn
end_turn true true byte s = record { happened = ended s.draws; after = s }
end_turn true false byte s = refused_turn s (by_source 27 byte (6 * s.draws))
end_turn false tape_ends byte s = refused_turn s (plain in_log 26 (byte + 2))

-- what a record at a byte does; `more` is how many bytes of the log it has from there on
abbrev pub turn : (tape : List ℕ) (byte more : ℕ) → State → LogRecord → Turn
turn tape byte more s (enters key) = let st = call_step tape s (enter key) in enter_turn st.answer key byte s st
turn tape byte more s (leaves key) = let st = call_step tape s (leave key) in leave_turn st.answer key byte s st
turn tape byte more s reads = read_turn (nat_lt s.readings 64) byte s
turn tape byte more s ends = end_turn (more == 2) (6 * s.draws == length tape) byte s
turn tape byte more s (unread layer number) = refused_turn s (plain layer number byte)

-- after the end and after a refusal nothing happens any more
abbrev pub then_on : Happening → List Happening → List Happening
then_on (came_in key receipt) later = came_in key receipt ∷ later
then_on (went_out key receipt) later = went_out key receipt ∷ later
then_on (was_read r) later = was_read r ∷ later
then_on (ended draws) later = ended draws ∷ []
then_on (was_refused r) later = was_refused r ∷ []

-- What happens from a byte on, with these bytes left of the log, in at most `most` records; where no byte is left no mark is whole.
abbrev pub happens_in : Kind → (tape : List ℕ) (most byte : ℕ) (more : List ℕ) → State → List Happening
happens_in kind tape zero byte more s = was_refused (plain in_log 23 byte) ∷ []
happens_in kind tape (suc most) byte more s =
    let what = record_in kind more in
    let t = turn tape byte (length more) s what in
    then_on t.happened (happens_in kind tape most (byte + size what) (drop (size what) more) t.after)

-- as many records as bytes are enough
abbrev pub happens_from : Kind → (tape : List ℕ) (byte : ℕ) (more : List ℕ) → State → List Happening
happens_from kind tape byte more s = happens_in kind tape (length more) byte more s

-- What happens in a whole replay.
abbrev pub happens_opened : Opened → (log tape : List ℕ) → List Happening
happens_opened (not_opened r) log tape = was_refused r ∷ []
happens_opened (opens_with kind s) log tape = happens_from kind tape 8 (drop 8 log) (start s)

abbrev pub history : (log tape : List ℕ) → List Happening
history log tape = happens_opened (opening log) log tape

-- the kind of the log's keys
abbrev pub kind_if : (is-N : Bool) → Kind
kind_if true = numbers
kind_if false = names

abbrev pub log_kind : (log : List ℕ) → Kind
log_kind log = kind_if (slice_index log 2 == 78)

-- The outcome: the bytes of the page, and the refusal, if any.
pub record Outcome : Type 0 where
  pub page : List ℕ
  pub refused : Option Refusal

-- what is lent: the page's bytes, and the roster records for each kind
pub record Room : Type 0 where
  pub page : ℕ
  pub number_records : ℕ
  pub name_records : ℕ

-- Beforehand. Are page and records long enough? 21. Is the log at most 32,768 bytes and the tape at most 49,152? 22. Both write nothing.
abbrev pub room_enough : Room → Bool
room_enough room = nat_le 50000 room.page && nat_le 1024 room.number_records && nat_le 1024 room.name_records

abbrev pub sizes_pass : (log tape : List ℕ) → Bool
sizes_pass log tape = nat_le (length log) 32768 && nat_le (length tape) 49152

abbrev pub outcome_when : (enough sizes : Bool) (log tape : List ℕ) → Outcome
outcome_when false sizes log tape = record { page = []; refused = Some (plain in_log 21 0) }
outcome_when true false log tape = record { page = []; refused = Some (plain in_log 22 0) }
outcome_when true true log tape =
    record { page = lines (log_kind log) (history log tape); refused = refusal_in (history log tape) }

abbrev pub outcome : Room → (log tape : List ℕ) → Outcome
outcome room log tape = outcome_when (room_enough room) (sizes_pass log tape) log tape
