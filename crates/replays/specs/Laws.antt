-- What holds of every replay.
use Rattle.std.specs.Prelude.{◌≡◌, ℕ, ◌+◌, ◌*◌, ◌<◌, ◌≤◌, Bool, false, ◌||◌, ◌⊎◌, List, [], ◌∷◌, ◌++◌, length, drop, Some, None, ◌==◌}
use Rattle.replays.specs.Happenings.{Happening}
use Rattle.replays.specs.Kinds.{Kind}
use Rattle.replays.specs.Lines.{refused_line, end_line}
use Rattle.replays.specs.Records.{record_in, size}
use Rattle.replays.specs.Refusals.{in_opening, in_key, in_roster, in_log, Refusal, plain, by_source}
use Rattle.replays.specs.Replays.{State, turn, then_on, happens_from, Outcome}

-- The refusals that can come, each with its layer, its byte of the log, and for a source its byte of the tape.
pub data CanCome (log tape : List ℕ) : Refusal → Type 0 where
  -- the settings: capacity, bound, class set, front
  of_settings : (number : ℕ) → 1 ≤ number → number ≤ 4 → CanCome log tape (plain in_opening number 0)
  -- a key that is not lawful
  of_key : (byte : ℕ) → byte < length log → CanCome log tape (plain in_key 6 byte)
  -- the roster: the key is live, no room, the key is not live
  is_live : (byte : ℕ) → byte < length log → CanCome log tape (plain in_roster 8 byte)
  no_room : (byte : ℕ) → byte < length log → CanCome log tape (plain in_roster 9 byte)
  not_live : (byte : ℕ) → byte < length log → CanCome log tape (plain in_roster 13 byte)
  -- the tape, after a number of draws: no byte left, no record, another radix; and bytes left at the end of the log
  tape_ends : (byte : ℕ) → byte < length log → CanCome log tape (by_source 17 byte (length tape))
  no_record : (byte draws : ℕ) → byte < length log → 6 * draws < length tape → CanCome log tape (by_source 18 byte (6 * draws))
  other_radix : (byte draws : ℕ) → byte < length log → 6 * draws < length tape → CanCome log tape (by_source 19 byte (6 * draws))
  tape_left : (byte draws : ℕ) → byte < length log → 6 * draws < length tape → CanCome log tape (by_source 27 byte (6 * draws))
  -- beforehand: too little is lent, or log or tape is too long
  too_little : CanCome log tape (plain in_log 21 0)
  too_long : CanCome log tape (plain in_log 22 0)
  -- the log: a record is not whole, its mark or kind is not known, a 65th reading, bytes after the end
  not_whole : (byte : ℕ) → byte ≤ length log → CanCome log tape (plain in_log 23 byte)
  not_known : (byte : ℕ) → byte < length log → CanCome log tape (plain in_log 24 byte)
  too_many : (byte : ℕ) → byte < length log → CanCome log tape (plain in_log 25 byte)
  log_left : (byte : ℕ) → byte < length log → CanCome log tape (plain in_log 26 byte)

-- every refusal of the outcome is one of them
abbrev pub AllCanCome : (log tape : List ℕ) → Outcome → Type 0
AllCanCome log tape o = (r : Refusal) → o.refused ≡ Some r → CanCome log tape r

-- The numbers that never come in a replay.
abbrev pub among : List ℕ → ℕ → Bool
among [] n = false
among (m ∷ ms) n = m == n || among ms n

abbrev pub never_come : List ℕ
never_come = 5 ∷ 7 ∷ 10 ∷ 11 ∷ 12 ∷ 14 ∷ 15 ∷ 16 ∷ 20 ∷ []

abbrev pub NoneOfThese : Outcome → Type 0
NoneOfThese o = (r : Refusal) → o.refused ≡ Some r → among never_come r.number ≡ false

-- How a page ends: 21 and 22 leave it untouched; any other refusal is its last line; else the line END is.
pub data PageEnds : Outcome → Type 0 where
  untouched : (number : ℕ) → (number ≡ 21) ⊎ (number ≡ 22) → PageEnds (record { page = []; refused = Some (plain in_log number 0) })
  by_refusal : (earlier : List ℕ) (r : Refusal) → PageEnds (record { page = earlier ++ refused_line r; refused = Some r })
  by_end : (earlier : List ℕ) (draws : ℕ) → PageEnds (record { page = earlier ++ end_line draws; refused = None })

-- whether the replay is accepted, or refused
abbrev pub Accepted : Outcome → Type 0
Accepted o = o.refused ≡ None

abbrev pub IsRefused : Outcome → Type 0
IsRefused o = (r : Refusal) × (o.refused ≡ Some r)

-- The first record's turn, and then the replay of the bytes after it, from where that turn has led.
abbrev pub turn_by_turn : Kind → (tape : List ℕ) (byte : ℕ) (more : List ℕ) → State → List Happening
turn_by_turn kind tape byte more s =
    let what = record_in kind more in
    let t = turn tape byte (length more) s what in
    then_on t.happened (happens_from kind tape (byte + size what) (drop (size what) more) t.after)
