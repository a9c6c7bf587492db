-- The rules of the numbered places: what each call answers and what the pile means afterwards.
use Rattle.std.specs.Prelude.{ℕ, zero, suc, ◌+◌, ◌-◌, Bool, true, false, List, [], ◌∷◌, ◌++◌, Some, None, Option, ◌==◌, nat_lt, slice_index_or, slice_set}
use Rattle.std.specs.List.{slice_get}
use Rattle.pile.specs.declared.receipts.EntryReceipt.{EntryReceipt}
use Rattle.pile.specs.declared.receipts.LeaveReceipt.{LeaveReceipt}
use Rattle.pile.specs.Answers.{Told, refused, told, Place}
use Rattle.pile.specs.Meaning.{Meaning, standing}

-- what a change answers, and what the pile means after it
pub record Step (A : Type 0) : Type 0 where
  pub answer : Told A
  pub after : Meaning

-- Radix: 1 for a class that is not counted; N + 1 while no leave is unpaired, as long as N is below 1,024; else d.
abbrev pub radix_when : (counted paired room : Bool) → Meaning → Told ℕ
radix_when false paired room m = told 1
radix_when true true true m = told (m.live + 1)
radix_when true true false m = refused 10
radix_when true false room m = told m.unpaired

abbrev pub radix_rule : Meaning → (class : ℕ) → Told ℕ
radix_rule m class = radix_when (m.counted class) (m.unpaired == 0) (nat_lt m.live 1024) m

-- one place further on
abbrev pub further : Option ℕ → Option ℕ
further None = None
further (Some i) = Some (i + 1)

-- the place of hole r, the holes being counted from 0 in order of place
abbrev pub hole_place : List Place → (r : ℕ) → Option ℕ
hole_place [] r = None
hole_place (Some t ∷ ps) r = further (hole_place ps r)
hole_place (None ∷ ps) zero = Some 0
hole_place (None ∷ ps) (suc r) = further (hole_place ps r)

abbrev pub holds_tag : Place → (tag : ℕ) → Bool
holds_tag None tag = false
holds_tag (Some t) tag = t == tag

-- the lowest place that holds the tag
abbrev pub tag_place_when : Bool → Option ℕ → Option ℕ
tag_place_when true later = Some 0
tag_place_when false later = further later

abbrev pub tag_place : List Place → (tag : ℕ) → Option ℕ
tag_place [] tag = None
tag_place (p ∷ ps) tag = tag_place_when (holds_tag p tag) (tag_place ps tag)

-- the places with x on place i, or as they are where there is no i
abbrev pub put : List Place → Option ℕ → Place → List Place
put ps None x = ps
put ps (Some i) x = slice_set ps i x

-- The place that an entry takes while no leave is unpaired: that of its draw, below the bound.
abbrev pub drawn_place : (within : Bool) (draw : ℕ) → Option ℕ
drawn_place false draw = None
drawn_place true draw = Some draw

-- The places after it. A draw below N puts the tag on that place: what stood there moves to place N where that is below
-- the bound, and drops out otherwise. A draw of N appends the tag as place N. A draw at or past the bound leaves it outside.
abbrev pub drawn_places : (within among room : Bool) → List Place → (tag draw : ℕ) → List Place
drawn_places false among room ps tag draw = ps
drawn_places true true true ps tag draw = slice_set ps draw (Some tag) ++ slice_index_or ps draw None ∷ []
drawn_places true true false ps tag draw = slice_set ps draw (Some tag)
drawn_places true false room ps tag draw = ps ++ Some tag ∷ []

abbrev pub joined : Meaning → (tag draw : ℕ) → Meaning
joined m tag draw =
    record {
      bound = m.bound;
      counted = m.counted;
      leaves = m.leaves;
      live = m.live + 1;
      unpaired = m.unpaired;
      places = drawn_places (nat_lt draw m.bound) (nat_lt draw m.live) (nat_lt m.live m.bound) m.places tag draw;
    }

-- An entry that makes up for an unpaired leave takes the hole of its draw, or stays outside where there are fewer holes.
abbrev pub paired : Meaning → (tag draw : ℕ) → Meaning
paired m tag draw =
    record {
      bound = m.bound;
      counted = m.counted;
      leaves = m.leaves;
      live = m.live + 1;
      unpaired = m.unpaired - 1;
      places = put m.places (hole_place m.places draw) (Some tag);
    }

abbrev pub receipt : (radix draw : ℕ) → Option ℕ → EntryReceipt
receipt radix draw place = record { radix = radix; draw = draw; place = place }

-- Entry, once its radix is known: the draw has to be below it, and an uncounted class alters nothing.
abbrev pub entry_counted : (paired_up : Bool) → Meaning → (radix tag draw : ℕ) → Step EntryReceipt
entry_counted true m radix tag draw =
    record { answer = told (receipt radix draw (drawn_place (nat_lt draw m.bound) draw)); after = joined m tag draw }
entry_counted false m radix tag draw =
    record { answer = told (receipt radix draw (hole_place m.places draw)); after = paired m tag draw }

abbrev pub entry_drawn : (below counted : Bool) → Meaning → (radix tag draw : ℕ) → Step EntryReceipt
entry_drawn false counted m radix tag draw = record { answer = refused 12; after = m }
entry_drawn true false m radix tag draw = record { answer = told (receipt radix draw None); after = m }
entry_drawn true true m radix tag draw = entry_counted (m.unpaired == 0) m radix tag draw

abbrev pub entry_asked : Told ℕ → Meaning → (tag class draw : ℕ) → Step EntryReceipt
entry_asked (refused k) m tag class draw = record { answer = refused k; after = m }
entry_asked (told radix) m tag class draw = entry_drawn (nat_lt draw radix) (m.counted class) m radix tag draw

abbrev pub entry_rule : Meaning → (tag class draw : ℕ) → Step EntryReceipt
entry_rule m tag class draw = entry_asked (radix_rule m class) m tag class draw

-- Leave: the lowest place that holds the tag becomes a hole, N falls and d rises; an uncounted class alters nothing.
abbrev pub vacated : Meaning → (tag : ℕ) → Meaning
vacated m tag =
    record {
      bound = m.bound;
      counted = m.counted;
      leaves = m.leaves;
      live = m.live - 1;
      unpaired = m.unpaired + 1;
      places = put m.places (tag_place m.places tag) None;
    }

abbrev pub leave_when : (counted leaves some_live : Bool) → Meaning → (tag : ℕ) → Step LeaveReceipt
leave_when false leaves some_live m tag = record { answer = told (record { place = None }); after = m }
leave_when true false some_live m tag = record { answer = refused 14; after = m }
leave_when true true false m tag = record { answer = refused 15; after = m }
leave_when true true true m tag =
    record { answer = told (record { place = tag_place m.places tag }); after = vacated m tag }

abbrev pub leave_rule : Meaning → (tag class : ℕ) → Step LeaveReceipt
leave_rule m tag class = leave_when (m.counted class) m.leaves (nat_lt 0 m.live) m tag

-- The questions: what place i tells, and N, d and the number of keys standing together.
abbrev pub place_rule : Meaning → (i : ℕ) → Option Place
place_rule m i = slice_get m.places i

abbrev pub counts_rule : Meaning → ℕ × ℕ × ℕ
counts_rule m = (m.live, m.unpaired, standing m.places)
