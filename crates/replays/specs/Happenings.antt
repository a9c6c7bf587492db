-- What happens in a replay, record by record, and what is read off the list of it.
use Rattle.std.specs.Prelude.{ℕ, List, [], ◌∷◌, Some, None, Option}
use Rattle.pile.specs.declared.receipts.EntryReceipt.{EntryReceipt}
use Rattle.pile.specs.declared.receipts.LeaveReceipt.{LeaveReceipt}
use Rattle.calls.specs.Book.{KeyView}
use Rattle.replays.specs.Refusals.{Refusal}

-- a reading: N, d, and for each place in order the byte form of its key, or none where it is a hole
pub record Reading : Type 0 where
  pub live : ℕ
  pub unpaired : ℕ
  pub places : List (Option (List ℕ))

pub data Happening : Type 0 where
  -- the key came in; the receipt has radix, draw and place
  came_in : KeyView → EntryReceipt → Happening
  -- the key went; the receipt has its place
  went_out : KeyView → LeaveReceipt → Happening
  was_read : Reading → Happening
  -- the log came to its end, with this many draws used
  ended : (draws : ℕ) → Happening
  was_refused : Refusal → Happening

-- the refusal, if there is one
abbrev pub refusal_in : List Happening → Option Refusal
refusal_in [] = None
refusal_in (came_in key receipt ∷ later) = refusal_in later
refusal_in (went_out key receipt ∷ later) = refusal_in later
refusal_in (was_read reading ∷ later) = refusal_in later
refusal_in (ended draws ∷ later) = refusal_in later
refusal_in (was_refused refusal ∷ later) = Some refusal

-- the receipts of entries, in order
abbrev pub entry_receipts : List Happening → List EntryReceipt
entry_receipts [] = []
entry_receipts (came_in key receipt ∷ later) = receipt ∷ entry_receipts later
entry_receipts (went_out key receipt ∷ later) = entry_receipts later
entry_receipts (was_read reading ∷ later) = entry_receipts later
entry_receipts (ended draws ∷ later) = entry_receipts later
entry_receipts (was_refused refusal ∷ later) = entry_receipts later

-- the readings, in order
abbrev pub readings : List Happening → List Reading
readings [] = []
readings (came_in key receipt ∷ later) = readings later
readings (went_out key receipt ∷ later) = readings later
readings (was_read reading ∷ later) = reading ∷ readings later
readings (ended draws ∷ later) = readings later
readings (was_refused refusal ∷ later) = readings later
