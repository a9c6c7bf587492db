-- The calls of a roster over a pile, what is asked of each, and what comes of it before any draw.
use Rattle.std.specs.Prelude.{ℕ, Bool, true, false, ◌&&◌, length, Some, None, Option, ◌==◌, nat_lt, slice_index_or}
use Rattle.pile.specs.Answers.{Told, refused, told}
use Rattle.pile.specs.Meaning.{Meaning}
use Rattle.pile.specs.Rules.{radix_rule}
use Rattle.calls.specs.Book.{KeyView, OpenEntry, Book, live_count, tag_of, free_tag}

-- What can be asked. A pile's bound, its counted classes and whether it takes leaves are settings, which no call changes: to ask for
-- them is no call of the list.
pub data Question : Type 0 where
  -- what the pile tells
  what_place : (i : ℕ) → Question
  what_counts : Question
  what_radix : (class : ℕ) → Question
  -- what the roster tells
  is_live : KeyView → Question
  how_many_live : Question
  what_entry : Question
  -- the key on a place, asked of both
  what_key : (i : ℕ) → Question

-- a call, without the draw that a settle brings or an enter's source gives
pub data Call : Type 0 where
  admit : KeyView → Call
  settle : (tag class radix : ℕ) → Call
  withdraw : (tag class radix : ℕ) → Call
  enter : KeyView → Call
  leave : KeyView → Call
  ask : Question → Call

-- what comes of a call as far as roster and pile can tell without a draw
pub data Verdict : Type 0 where
  refuses : (number : ℕ) → Verdict
  -- an entry is opened
  opens : OpenEntry → Verdict
  -- the entry is settled as soon as it has a draw below its radix
  settles : OpenEntry → Verdict
  -- the open entry is ended
  withdraws : Verdict
  -- the live key under the tag goes
  lets_go : KeyView → (tag : ℕ) → Verdict
  -- a question is answered
  tells : Question → Verdict

-- Admit. Lawful? 6. No entry open? 7. Not live? 8. Fewer than capacity live? 9. A radix for its class? 10, the pile's refusal.
abbrev pub admit_radix : Told ℕ → KeyView → (tag : ℕ) → Verdict
admit_radix (refused number) key tag = refuses number
admit_radix (told radix) key tag = opens (record { key = key; tag = tag; radix = radix })

abbrev pub admit_room : (room : Bool) (free : Option ℕ) → Told ℕ → KeyView → Verdict
admit_room false free called key = refuses 9
admit_room true None called key = refuses 9
admit_room true (Some tag) called key = admit_radix called key tag

abbrev pub admit_live : (live : Option ℕ) → Book → Told ℕ → KeyView → Verdict
admit_live (Some tag) b called key = refuses 8
admit_live None b called key =
    admit_room (nat_lt (live_count b.slots) (length b.slots)) (free_tag b.slots key) called key

abbrev pub admit_open : Option OpenEntry → Book → Told ℕ → KeyView → Verdict
admit_open (Some entry) b called key = refuses 7
admit_open None b called key = admit_live (tag_of b.slots key) b called key

abbrev pub admit_lawful : (lawful : Bool) → Book → Told ℕ → KeyView → Verdict
admit_lawful false b called key = refuses 6
admit_lawful true b called key = admit_open b.entry b called key

abbrev pub admit_verdict : Book → Meaning → KeyView → Verdict
admit_verdict b m key = admit_lawful key.lawful b (radix_rule m key.class) key

-- Settle and withdraw. Has the open entry the slip's tag, class and radix? 11. For settle also: does the pile call for that radix? 11.
abbrev pub is_slip : OpenEntry → (tag class radix : ℕ) → Bool
is_slip entry tag class radix = entry.tag == tag && entry.key.class == class && entry.radix == radix

abbrev pub calls_for : Told ℕ → (radix : ℕ) → Bool
calls_for (refused number) radix = false
calls_for (told called) radix = called == radix

abbrev pub settle_when : (slip called : Bool) → OpenEntry → Verdict
settle_when false called entry = refuses 11
settle_when true false entry = refuses 11
settle_when true true entry = settles entry

abbrev pub settle_open : Option OpenEntry → Meaning → (tag class radix : ℕ) → Verdict
settle_open None m tag class radix = refuses 11
settle_open (Some entry) m tag class radix =
    settle_when (is_slip entry tag class radix) (calls_for (radix_rule m class) radix) entry

abbrev pub withdraw_when : (slip : Bool) → Verdict
withdraw_when false = refuses 11
withdraw_when true = withdraws

abbrev pub withdraw_open : Option OpenEntry → (tag class radix : ℕ) → Verdict
withdraw_open None tag class radix = refuses 11
withdraw_open (Some entry) tag class radix = withdraw_when (is_slip entry tag class radix)

-- Enter is admit, and then a settle of the entry that was opened. (The last four never come of an admit.)
abbrev pub enter_verdict : Verdict → Verdict
enter_verdict (refuses number) = refuses number
enter_verdict (opens entry) = settles entry
enter_verdict (settles entry) = settles entry
enter_verdict withdraws = withdraws
enter_verdict (lets_go key tag) = lets_go key tag
enter_verdict (tells question) = tells question

-- Leave. Lawful? 6. No entry open? 7. Live? 13. Uncounted, or does the pile take leaves? 14. Uncounted, or is N above 0? 15.
abbrev pub leave_counted : (counted leaves some_live : Bool) → KeyView → (tag : ℕ) → Verdict
leave_counted false leaves some_live key tag = lets_go key tag
leave_counted true false some_live key tag = refuses 14
leave_counted true true false key tag = refuses 15
leave_counted true true true key tag = lets_go key tag

abbrev pub leave_slot : Option KeyView → (tag : ℕ) → Meaning → Verdict
leave_slot None tag m = refuses 13
leave_slot (Some key) tag m = leave_counted (m.counted key.class) m.leaves (nat_lt 0 m.live) key tag

abbrev pub leave_live : (live : Option ℕ) → Book → Meaning → Verdict
leave_live None b m = refuses 13
leave_live (Some tag) b m = leave_slot (slice_index_or b.slots tag None) tag m

abbrev pub leave_open : Option OpenEntry → Book → Meaning → KeyView → Verdict
leave_open (Some entry) b m key = refuses 7
leave_open None b m key = leave_live (tag_of b.slots key) b m

abbrev pub leave_lawful : (lawful : Bool) → Book → Meaning → KeyView → Verdict
leave_lawful false b m key = refuses 6
leave_lawful true b m key = leave_open b.entry b m key

abbrev pub verdict : Book → Meaning → Call → Verdict
verdict b m (admit key) = admit_verdict b m key
verdict b m (settle tag class radix) = settle_open b.entry m tag class radix
verdict b m (withdraw tag class radix) = withdraw_open b.entry tag class radix
verdict b m (enter key) = enter_verdict (admit_verdict b m key)
verdict b m (leave key) = leave_lawful key.lawful b m key
verdict b m (ask question) = tells question
