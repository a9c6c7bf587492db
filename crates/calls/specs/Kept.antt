-- What holds of every roster that the calls make.
use Rattle.std.specs.Prelude.{◌≡◌, ℕ, ◌<◌, false, List, length, get_or, Some, None, Option, slice_index_or}
use Rattle.calls.specs.Book.{KeyView, OpenEntry, Book, holds_form}

-- an entry is open only while its tag is a free slot and its key is not live
pub record Openable (slots : List (Option KeyView)) (entry : OpenEntry) : Type 0 where
  pub below : entry.tag < length slots
  pub free : get_or slots entry.tag None ≡ None
  pub not_live : (slot : ℕ) → holds_form entry.key.form (slice_index_or slots slot None) ≡ false

abbrev pub EntryFits : List (Option KeyView) → Option OpenEntry → Type 0
EntryFits slots None = Unit {0}
EntryFits slots (Some entry) = Openable slots entry

pub record WellKept (b : Book) : Type 0 where
  -- a key has one slot
  pub one_slot_each :
      (slot other : ℕ) (key same : KeyView) → slice_index_or b.slots slot None ≡ Some key → slice_index_or b.slots other None ≡ Some same →
      key.form ≡ same.form → slot ≡ other
  pub entry_fits : EntryFits b.slots b.entry
