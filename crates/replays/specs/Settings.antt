-- The record SL, which opens the log: its fields, the questions put to them in order, and what the opening gives.
-- After the mark come the kind (N for numbers, B for names), the capacity in two bytes, high byte first, the bound, the class set
-- (bit c for class c) and the front (0 means the bound), one byte each: eight bytes in all.
use Rattle.std.specs.Prelude.{ℕ, Bool, true, false, List, length, ◌==◌, nat_le, slice_index}
use Rattle.pile.specs.Answers.{Told, refused, told}
use Rattle.pile.specs.Meaning.{Meaning}
use Rattle.pile.specs.Opening.{bound_rule, classes_rule, front_rule}
use Rattle.bottoms.specs.Bottoms.{opened}
use Rattle.layers.specs.Layers.{filtered, fronted}
use Rattle.sources.specs.Tapes.{number_at}
use Rattle.calls.specs.Book.{Book, opened_book}
use Rattle.roster.specs.Opening.{capacity_rule}
use Rattle.replays.specs.Kinds.{Kind, numbers, names}
use Rattle.replays.specs.Marks.{mark_SL, marked}
use Rattle.replays.specs.Refusals.{in_opening, in_log, Refusal, plain}

pub record Setting : Type 0 where
  pub capacity : ℕ
  pub bound : ℕ
  pub classes : ℕ
  -- with the bound for a front of 0
  pub front : ℕ

abbrev pub front_or_bound : (zero : Bool) (front bound : ℕ) → ℕ
front_or_bound true front bound = bound
front_or_bound false front bound = front

-- the fields of a log that has them all
abbrev pub setting_in : (log : List ℕ) → Setting
setting_in log =
    record {
      capacity = number_at log 3;
      bound = slice_index log 5;
      classes = slice_index log 6;
      front = front_or_bound (slice_index log 7 == 0) (slice_index log 7) (slice_index log 5);
    }

-- N or B
abbrev pub kind_named : (is-N is-B : Bool) → Told Kind
kind_named true is-B = told numbers
kind_named false true = told names
kind_named false false = refused 24

abbrev pub kind_in : (log : List ℕ) → Told Kind
kind_in log = kind_named (slice_index log 2 == 78) (slice_index log 2 == 66)

-- The questions of opening. Is the capacity 1 to 1,024, and within the records, of which there are 1,024? 1. Is the bound 1 to 64? 2.
-- Is the class set not empty? 3. Is the front 1 to 64? 4.
abbrev pub front_asked : Told ℕ → Setting → Told Setting
front_asked (refused number) s = refused number
front_asked (told front) s = told s

abbrev pub classes_asked : Told ℕ → Setting → Told Setting
classes_asked (refused number) s = refused number
classes_asked (told classes) s = front_asked (front_rule s.front) s

abbrev pub bound_asked : Told ℕ → Setting → Told Setting
bound_asked (refused number) s = refused number
bound_asked (told bound) s = classes_asked (classes_rule s.classes) s

abbrev pub capacity_asked : Told ℕ → Setting → Told Setting
capacity_asked (refused number) s = refused number
capacity_asked (told capacity) s = bound_asked (bound_rule s.bound) s

abbrev pub setting_rule : Setting → Told Setting
setting_rule s = capacity_asked (capacity_rule s.capacity 1024) s

-- What the opening gives: a new roster, and a new pile, which is a front over a filter over a paired bottom.
abbrev pub new_roster : Setting → Book
new_roster s = opened_book s.capacity

abbrev pub new_pile : Setting → Meaning
new_pile s = fronted s.front (filtered s.classes (opened true s.bound))

-- What comes of the opening. Every refusal of SL has byte 0.
pub data Opened : Type 0 where
  opens_with : Kind → Setting → Opened
  not_opened : Refusal → Opened

abbrev pub opened_by : Told Setting → Kind → Opened
opened_by (refused number) kind = not_opened (plain in_opening number 0)
opened_by (told s) kind = opens_with kind s

abbrev pub opened_kind : Told Kind → (log : List ℕ) → Opened
opened_kind (refused number) log = not_opened (plain in_log number 0)
opened_kind (told kind) log = opened_by (setting_rule (setting_in log)) kind

-- Is the mark whole? 23. Is it SL? 24. Are the fields whole? 23. Is the kind byte N or B? 24. Then the questions of opening.
abbrev pub opened_when : (whole-mark is_SL whole : Bool) → (log : List ℕ) → Opened
opened_when false is_SL whole log = not_opened (plain in_log 23 0)
opened_when true false whole log = not_opened (plain in_log 24 0)
opened_when true true false log = not_opened (plain in_log 23 0)
opened_when true true true log = opened_kind (kind_in log) log

abbrev pub opening : (log : List ℕ) → Opened
opening log = opened_when (nat_le 2 (length log)) (marked mark_SL log) (nat_le 8 (length log)) log
