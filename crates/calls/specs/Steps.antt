-- What each call answers, and what roster and pile mean afterwards.
use Rattle.std.specs.Prelude.{ℕ, Bool, true, false, List, is_some, Some, None, Option, nat_lt, slice_index_or, slice_set}
use Rattle.pile.specs.declared.receipts.EntryReceipt.{EntryReceipt}
use Rattle.pile.specs.declared.receipts.LeaveReceipt.{LeaveReceipt}
use Rattle.pile.specs.Answers.{Told, refused, told, Place}
use Rattle.pile.specs.Meaning.{Meaning}
use Rattle.pile.specs.Rules.{radix_rule, entry_rule, leave_rule, place_rule, counts_rule}
use Rattle.calls.specs.Book.{KeyView, OpenEntry, Book, live_count, tag_of}
use Rattle.calls.specs.Calls.{Call, Question, what_place, what_counts, what_radix, is_live, how_many_live, what_entry, what_key, Verdict, refuses, opens, settles, withdraws, lets_go, tells, verdict}

pub data Answer : Type 0 where
  refusal : (number : ℕ) → Answer
  -- the source of an enter refused; its fault has a byte
  source_refusal : (number byte : ℕ) → Answer
  slip : (tag class radix : ℕ) → Answer
  entered : EntryReceipt → Answer
  withdrawn : Answer
  left : LeaveReceipt → Answer
  place_is : Option Place → Answer
  counts_are : (live unpaired standing : ℕ) → Answer
  radix_is : ℕ → Answer
  live_is : Bool → Answer
  so_many : ℕ → Answer
  open_is : Option OpenEntry → Answer
  -- no such place, a hole, or the key
  key_is : Option (Option KeyView) → Answer

-- the receipt of a settled entry, if the answer is one
abbrev pub receipt_in : Answer → Option EntryReceipt
receipt_in (entered receipt) = Some receipt
receipt_in (refusal number) = None
receipt_in (source_refusal number byte) = None
receipt_in (slip tag class radix) = None
receipt_in withdrawn = None
receipt_in (left receipt) = None
receipt_in (place_is what) = None
receipt_in (counts_are live unpaired standing) = None
receipt_in (radix_is radix) = None
receipt_in (live_is live) = None
receipt_in (so_many live) = None
receipt_in (open_is entry) = None
receipt_in (key_is key) = None

-- the draw that a settle brings, or what an enter's source says
pub data Supply : Type 0 where
  gives : (draw : ℕ) → Supply
  fails : (number byte : ℕ) → Supply

-- what a call answers, and what roster and pile mean afterwards
pub record Step : Type 0 where
  pub answer : Answer
  pub book : Book
  pub pile : Meaning

-- the roster after each change
abbrev pub opened : Book → OpenEntry → Book
opened b entry = record { slots = b.slots; entry = Some entry }

abbrev pub closed : Book → Book
closed b = record { slots = b.slots; entry = None }

abbrev pub settled : Book → OpenEntry → Book
settled b entry = record { slots = slice_set b.slots entry.tag (Some entry.key); entry = None }

abbrev pub gone : Book → (tag : ℕ) → Book
gone b tag = record { slots = slice_set b.slots tag None; entry = b.entry }

-- The pile takes the new tag with its draw. (It cannot refuse: it has called for this radix, and the draw is below it.)
abbrev pub entry_answer : Told EntryReceipt → Answer
entry_answer (refused number) = refusal number
entry_answer (told receipt) = entered receipt

abbrev pub leave_answer : Told LeaveReceipt → Answer
leave_answer (refused number) = refusal number
leave_answer (told receipt) = left receipt

abbrev pub settle_drawn : (below : Bool) → Book → Meaning → OpenEntry → (draw : ℕ) → Step
settle_drawn false b m entry draw = record { answer = refusal 12; book = b; pile = m }
settle_drawn true b m entry draw =
    let change = entry_rule m entry.tag entry.key.class draw in
    record { answer = entry_answer change.answer; book = settled b entry; pile = change.after }

abbrev pub settle_supplied : Supply → Book → Meaning → OpenEntry → Step
settle_supplied (gives draw) b m entry = settle_drawn (nat_lt draw entry.radix) b m entry draw
settle_supplied (fails number byte) b m entry = record { answer = source_refusal number byte; book = b; pile = m }

-- the key of a live tag; a tag that is not live reads as a hole
abbrev pub key_on : List (Option KeyView) → Place → Option KeyView
key_on slots None = None
key_on slots (Some tag) = slice_index_or slots tag None

abbrev pub key_on_place : List (Option KeyView) → Option Place → Option (Option KeyView)
key_on_place slots None = None
key_on_place slots (Some p) = Some (key_on slots p)

abbrev pub radix_answer : Told ℕ → Answer
radix_answer (refused number) = refusal number
radix_answer (told n) = radix_is n

abbrev pub told_to : Question → Book → Meaning → Answer
told_to (what_place i) b m = place_is (place_rule m i)
told_to what_counts b m = let all = counts_rule m in counts_are all.0 all.1 all.2
told_to (what_radix class) b m = radix_answer (radix_rule m class)
told_to (is_live key) b m = live_is (is_some (tag_of b.slots key))
told_to how_many_live b m = so_many (live_count b.slots)
told_to what_entry b m = open_is b.entry
told_to (what_key i) b m = key_is (key_on_place b.slots (place_rule m i))

-- the verdict carried out
abbrev pub carried_out : Verdict → Supply → Book → Meaning → Step
carried_out (refuses number) supply b m = record { answer = refusal number; book = b; pile = m }
carried_out (opens entry) supply b m =
    record { answer = slip entry.tag entry.key.class entry.radix; book = opened b entry; pile = m }
carried_out (settles entry) supply b m = settle_supplied supply b m entry
carried_out withdraws supply b m = record { answer = withdrawn; book = closed b; pile = m }
carried_out (lets_go key tag) supply b m =
    let change = leave_rule m tag key.class in
    record { answer = leave_answer change.answer; book = gone b tag; pile = change.after }
carried_out (tells question) supply b m = record { answer = told_to question b m; book = b; pile = m }

abbrev pub step : Book → Meaning → Call → Supply → Step
step b m call supply = carried_out (verdict b m call) supply b m
