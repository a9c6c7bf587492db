-- What holds wherever a replay stands between two records.
use Rattle.std.proofs.Common.{◌≡◌, ℕ, ◌*◌, ◌≤◌, true, List, length, get_or, Some, None}
use Rattle.pile.specs.Meaning.{Sound}
use Rattle.calls.specs.Book.{KeyView}
use Rattle.calls.specs.Kept.{WellKept}
use Rattle.replays.specs.Kinds.{Kind, found}
use Rattle.replays.specs.Replays.{State}
use Rattle.replays.proofs.Slots.{counted_slots}

-- the key was read
abbrev pub WasRead : Kind → KeyView → Type 0
WasRead kind key = (bytes : List ℕ) × (kind.reads bytes ≡ found key)

pub record Kept (kind : Kind) (tape : List ℕ) (s : State) : Type 0 where
  pub none_open : s.book.entry ≡ None
  pub well : WellKept s.book
  pub sound : Sound s.pile
  pub takes : s.pile.leaves ≡ true
  pub counts : s.pile.live ≡ counted_slots s.pile.counted s.book.slots
  pub few_slots : length s.book.slots ≤ 1024
  pub keys : (tag : ℕ) (key : KeyView) → get_or s.book.slots tag None ≡ Some key → WasRead kind key
  pub used : 6 * s.draws ≤ length tape
  pub few_readings : s.readings ≤ 64
