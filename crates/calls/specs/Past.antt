-- What has happened, worked out from the list of calls alone: no draw and no place is looked at.
use Rattle.std.specs.Prelude.{ℕ, Bool, cond, List, [], ◌∷◌, ◌++◌, length}
use Rattle.std.specs.Str.{bytes_eq}
use Rattle.pile.specs.Meaning.{Meaning}
use Rattle.evenness.specs.Events.{Event, came, went, unpaired_count, radices as event_radices}
use Rattle.calls.specs.Book.{KeyView, OpenEntry, Book}
use Rattle.calls.specs.Calls.{Verdict, refuses, opens, settles, withdraws, lets_go, tells, verdict}
use Rattle.calls.specs.Steps.{opened, closed, settled, gone}
use Rattle.calls.specs.Lists.{Lot, next, instead, Listed}

-- a settled entry or an accepted leave
pub data Deed : Type 0 where
  arrived : KeyView → (tag : ℕ) → Deed
  departed : KeyView → (tag : ℕ) → Deed

-- A key is live from its settled entry to its leave. The live keys, the latest first:
abbrev pub without_key : List KeyView → (form : List ℕ) → List KeyView
without_key [] form = []
without_key (key ∷ keys) form = cond (bytes_eq key.form form) keys (key ∷ without_key keys form)

abbrev pub live_after : List KeyView → List Deed → List KeyView
live_after keys [] = keys
live_after keys (arrived key tag ∷ past) = live_after (key ∷ keys) past
live_after keys (departed key tag ∷ past) = live_after (without_key keys key.form) past

-- their byte forms
abbrev pub forms_of : List KeyView → List (List ℕ)
forms_of [] = []
forms_of (key ∷ keys) = key.form ∷ forms_of keys

-- the byte forms of those whose class is counted
abbrev pub counted_forms_of : (ℕ → Bool) → List KeyView → List (List ℕ)
counted_forms_of counted [] = []
counted_forms_of counted (key ∷ keys) =
    cond (counted key.class) (key.form ∷ counted_forms_of counted keys) (counted_forms_of counted keys)

abbrev pub counted_live : Meaning → List Deed → List (List ℕ)
counted_live m past = counted_forms_of m.counted (live_after [] past)

-- what the deeds are to the pile, which knows tags and classes
abbrev pub event : Deed → Event
event (arrived key tag) = came tag key.class
event (departed key tag) = went tag key.class

abbrev pub events : List Deed → List Event
events [] = []
events (deed ∷ past) = event deed ∷ events past

-- N: how many counted keys are live
abbrev pub number_live : Meaning → List Deed → ℕ
number_live m past = length (counted_live m past)

-- d: the counted leaves that no later counted entry has made up for
abbrev pub number_unpaired : Meaning → List Deed → ℕ
number_unpaired m past = unpaired_count m (events past)

-- the radices of the settled entries, in order
abbrev pub radices : Meaning → List Deed → List ℕ
radices m past = event_radices m (events past)

-- the pile as far as the past tells it: its settings, N and d
abbrev pub told_pile : Meaning → List Deed → Meaning
told_pile m past =
    record {
      bound = m.bound;
      counted = m.counted;
      leaves = m.leaves;
      live = number_live m past;
      unpaired = number_unpaired m past;
      places = [];
    }

-- The ledger: the roster, and what has happened.
pub record Ledger : Type 0 where
  pub book : Book
  pub past : List Deed

-- An entry is settled if its lot is the next draw of the tape, and not if it brought too large a one or its source refused.
abbrev pub note_settled : Lot → OpenEntry → Ledger → Ledger
note_settled next entry l =
    record { book = settled l.book entry; past = l.past ++ arrived entry.key entry.tag ∷ [] }
note_settled (instead s) entry l = l

abbrev pub noted : Verdict → Lot → Ledger → Ledger
noted (refuses number) lot l = l
noted (opens entry) lot l = record { book = opened l.book entry; past = l.past }
noted (settles entry) lot l = note_settled lot entry l
noted withdraws lot l = record { book = closed l.book; past = l.past }
noted (lets_go key tag) lot l = record { book = gone l.book tag; past = l.past ++ departed key tag ∷ [] }
noted (tells question) lot l = l

-- a call is judged by the same questions as ever, put to the ledger
abbrev pub note : Meaning → Ledger → Listed → Ledger
note m l item = noted (verdict l.book (told_pile m l.past) item.call) item.lot l

abbrev pub note_all : Meaning → Ledger → List Listed → Ledger
note_all m l [] = l
note_all m l (item ∷ items) = note_all m (note m l item) items

abbrev pub ledger : Meaning → Book → List Listed → Ledger
ledger m b items = note_all m (record { book = b; past = [] }) items
