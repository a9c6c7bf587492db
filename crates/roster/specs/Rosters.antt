-- What a roster over lent records means.
use Rattle.std.specs.Prelude.{List, map, take, Some, None, Option, slice_index_or}
use Rattle.pile.specs.declared.receipts.PlaceState.{PlaceState}
use Rattle.pile.specs.declared.receipts.PlaceState.TheVariants.{Held, Hole, NoSuchPlace}
use Rattle.calls.specs.Book.{KeyView, OpenEntry, Book}
use Rattle.roster.specs.declared.record.Record.{Record}
use Rattle.roster.specs.declared.record.Record.TheVariants.{Free, Waiting, Live}
use Rattle.roster.specs.declared.record.Pending.{Pending}
use Rattle.roster.specs.declared.roster.Opening.{Opening}
use Rattle.roster.specs.declared.roster.Roster.{Roster}

module _ {K : Type 0} (view : K → KeyView) where
  abbrev pub slot_of : Record K → Option KeyView
  slot_of Free = None
  slot_of (Waiting key) = None
  slot_of (Live key) = Some (view key)

  abbrev pub waiting : Record K → Opening → Option OpenEntry
  waiting Free o = None
  waiting (Waiting key) o = Some (record { key = view key; tag = o.tag; radix = o.radix })
  waiting (Live key) o = None

  abbrev pub entry_of : List (Record K) → Option Opening → Option OpenEntry
  entry_of records None = None
  entry_of records (Some o) = waiting (slice_index_or records o.tag Free) o

  -- what the question for the open entry answers
  abbrev pub pending_entry : Pending K → OpenEntry
  pending_entry p = record { key = view p.key; tag = p.tag; radix = p.radix }

  abbrev pub open_told : Option (Pending K) → Option OpenEntry
  open_told None = None
  open_told (Some p) = Some (pending_entry p)

  -- what the question for the key on a place answers: no such place, a hole, or the key
  abbrev pub key_told : PlaceState K → Option (Option KeyView)
  key_told (Held key) = Some (Some (view key))
  key_told Hole = Some None
  key_told NoSuchPlace = None

  abbrev pub book_of : Roster K → Book
  book_of r =
      let slots = take r.capacity r.records.now in
      record { slots = map slot_of slots; entry = entry_of slots r.opening }
