-- The first places of a pile tell and change as the places of a pile with the lesser bound, and what stands on them can be
-- counted place by place.
use Rattle.std.specs.Prelude.{◌≡◌, ℕ, zero, suc, ◌+◌, ◌<◌, ◌≤◌, min, Bool, true, false, cond, map, List, [], ◌∷◌, length, take, Some, None, Option, ◌==◌, ◌≢◌, nat_lt, slice_set}
use Rattle.std.specs.List.{slice_get, filter, fold, sum_by, range_with_len}
use Rattle.std.proofs.Common.{refl, sym, ◌∙◌, arith, add-one, length-set, length-append, length-take, take_all}
use Rattle.std.proofs.Math.Seq.{take-set-lt, take-nil}
use Rattle.std.proofs.lemmas.Bool.Decides.{nat_tests}
use Rattle.std.proofs.lemmas.List.{take-set-le, take-append-le, get_or-take}
use Rattle.std.proofs.lemmas.List.Folds.{fold-map}
use Rattle.std.proofs.lemmas.List.FromFn.{length-range_with_len, sum_by-map-range_with_len_more}
use Rattle.std.proofs.lemmas.List.Sums.{length-filter}
use Rattle.std.proofs.lemmas.Option.{slice_get_past, slice_get-get_or}
use Rattle.pile.proofs.Counts.{one_more, counted}
use Rattle.pile.specs.declared.receipts.EntryReceipt.{EntryReceipt}
use Rattle.pile.specs.declared.receipts.LeaveReceipt.{LeaveReceipt}
use Rattle.pile.specs.declared.receipts.PlaceState.{PlaceState}
use Rattle.pile.specs.declared.receipts.PlaceState.TheVariants.{Held}
use Rattle.pile.specs.Answers.{Place, Told, told, refused, place_told}
use Rattle.pile.specs.Meaning.{Meaning, Sound, standing}
use Rattle.pile.specs.Rules.{Step, further, hole_place, tag_place, tag_place_when, put, drawn_place, drawn_places, receipt, radix_rule, radix_when, entry_rule, entry_counted, entry_drawn, leave_rule, leave_when}
use Rattle.layers.specs.Layers.{fronted, shown_place, shown_when}

-- an answer from below, as the front gives it
abbrev pub shown_entry : ℕ → Told EntryReceipt → Told EntryReceipt
shown_entry s (refused k) = refused k
shown_entry s (told e) = told (receipt e.radix e.draw (shown_place s e.place))

abbrev pub shown_leave : ℕ → Told LeaveReceipt → Told LeaveReceipt
shown_leave s (refused k) = refused k
shown_leave s (told l) = told (record { place = shown_place s l.place })

-- a place below, as the front shows it
shown_none : (o : Option ℕ) → shown_place 0 o ≡ None
shown_none o = grind (arith, nat_tests)

shown_suc : (s i : ℕ) (b : Bool) → nat_lt i s ≡ b → shown_when (nat_lt (i + 1) (suc s)) (i + 1) ≡ further (shown_when b i)
shown_suc s i b e = grind (arith, nat_tests)

shown_further : (s : ℕ) (o : Option ℕ) → shown_place (suc s) (further o) ≡ further (shown_place s o)
shown_further s o = grind (arith, nat_tests)

shown_first : (s : ℕ) → shown_place (suc s) (Some 0) ≡ Some 0
shown_first s = grind (arith, nat_tests)

-- the searches look at the first places alone
pub hole_front : (s : ℕ) (ps : List Place) (r : ℕ) → shown_place s (hole_place ps r) ≡ hole_place (take s ps) r
hole_front zero ps r = shown_none (hole_place ps r)
hole_front (suc s) [] r = refl
hole_front (suc s) (Some t ∷ ps) r = grind (arith, shown_further, hole_front s ps r)
hole_front (suc s) (None ∷ ps) zero = shown_first s
hole_front (suc s) (None ∷ ps) (suc r) = grind (arith, shown_further, hole_front s ps r)

tag_front_when : (s : ℕ) (b : Bool) (o q : Option ℕ) → shown_place s o ≡ q → shown_place (suc s) (tag_place_when b o) ≡ tag_place_when b q
tag_front_when s b o q e = grind (arith, nat_tests)

pub tag_front : (s : ℕ) (ps : List Place) (t : ℕ) → shown_place s (tag_place ps t) ≡ tag_place (take s ps) t
tag_front zero ps t = shown_none (tag_place ps t)
tag_front (suc s) [] t = refl
tag_front (suc s) (p ∷ ps) t = tag_front_when s _ _ _ (tag_front s ps t)

-- and so do the changes
put_when : (s i : ℕ) (ps : List Place) (x : Place) (b : Bool) → nat_lt i s ≡ b → take s (slice_set ps i x) ≡ put (take s ps) (shown_when b i) x
put_when s i ps x b e = grind (arith, nat_tests, take-set-lt, take-set-le)

put_front : (s : ℕ) (ps : List Place) (o : Option ℕ) (x : Place) → take s (put ps o x) ≡ put (take s ps) (shown_place s o) x
put_front s ps o x = grind (arith, nat_tests, take-set-lt, take-set-le)

-- an entry that takes the place of its draw
drawn_place_front : (s m r : ℕ) (b : Bool) → nat_lt r m ≡ b → shown_place s (drawn_place b r) ≡ drawn_place (nat_lt r (min s m)) r
drawn_place_front s m r b e = grind (arith, nat_tests)

module _ (s m n t r : ℕ) (ps : List Place) (le : r ≤ n) (len : length ps ≡ min m n) where
  abbrev Goal : (a b c : Bool) → Type 0
  Goal a b c = take s (drawn_places a b c ps t r) ≡ drawn_places (nat_lt r (min s m)) b (nat_lt n (min s m)) (take s ps) t r

  outside : (b c : Bool) → nat_lt r m ≡ false → Goal false b c
  outside b c e = grind (arith, nat_tests)

  -- past the front
  past : (b c : Bool) → nat_lt r m ≡ true → nat_lt r n ≡ b → nat_lt n m ≡ c → s ≤ r → take s (drawn_places true b c ps t r) ≡ take s ps
  past b c e f g k = grind (arith, nat_tests, take-set-le, take-append-le, length-set)

  -- within the front
  within : (b c : Bool) → nat_lt r m ≡ true → nat_lt r n ≡ b → nat_lt n m ≡ c → r < s → take s (drawn_places true b c ps t r) ≡ drawn_places true b (nat_lt n (min s m)) (take s ps) t r
  within b c e f g k = grind (arith, nat_tests, take-set-lt, take-append-le, take_all, length-set, length-append)

  -- on either side
  pub drawn_front : (a b c : Bool) → nat_lt r m ≡ a → nat_lt r n ≡ b → nat_lt n m ≡ c → Goal a b c
  drawn_front a b c e f g =
      grind (arith, nat_tests, take-set-lt, take-set-le, take-append-le, take_all, length-set, length-append)

-- what a front owes for a change: its own answer and its own meaning after
pub record Commutes {A : Type 0} (shown : Told A → Told A) (s : ℕ) (below front : Step A) : Type 0 where
  pub answers : shown below.answer ≡ front.answer
  pub afters : fronted s below.after ≡ front.after

-- each change keeps to that
radix_when_front : (s : ℕ) (m : Meaning) (k p n : Bool) → radix_when k p n m ≡ radix_when k p n (fronted s m)
radix_when_front s m k p n = grind arith

pub radix_front : (s : ℕ) (m : Meaning) (c : ℕ) → radix_rule m c ≡ radix_rule (fronted s m) c
radix_front s m c = grind arith

counted_front : (s : ℕ) (m : Meaning) → Sound m → (p : Bool) (n t r : ℕ) → (m.unpaired == 0) ≡ p → (m.unpaired ≡ 0 → n ≡ m.live + 1) → r < n → Commutes (shown_entry s) s (entry_counted p m n t r) (entry_counted p (fronted s m) n t r)
counted_front s m sound p n t r e radix l = grind (arith, nat_tests, hole_front, put_front, drawn_front)

drawn_entry_front : (s : ℕ) (m : Meaning) → Sound m → (b k : Bool) (n t r : ℕ) → nat_lt r n ≡ b → (k ≡ true → m.unpaired ≡ 0 → n ≡ m.live + 1) → Commutes (shown_entry s) s (entry_drawn b k m n t r) (entry_drawn b k (fronted s m) n t r)
drawn_entry_front s m sound b k n t r e radix = grind (arith, nat_tests, hole_front, put_front, drawn_front)

pub entry_front : (s : ℕ) (m : Meaning) → Sound m → (t c r : ℕ) → Commutes (shown_entry s) s (entry_rule m t c r) (entry_rule (fronted s m) t c r)
entry_front s m sound t c r = grind (arith, nat_tests, hole_front, put_front, drawn_front)

leave_when_front : (s : ℕ) (m : Meaning) (k l n : Bool) (t : ℕ) → Commutes (shown_leave s) s (leave_when k l n m t) (leave_when k l n (fronted s m) t)
leave_when_front s m k l n t = grind (arith, tag_front, put_front)

pub leave_front : (s : ℕ) (m : Meaning) (t c : ℕ) → Commutes (shown_leave s) s (leave_rule m t c) (leave_rule (fronted s m) t c)
leave_front s m t c = leave_when_front s m (m.counted c) m.leaves (nat_lt 0 m.live) t

-- what the first places tell
take_none : (s : ℕ) → take {A = Place} s [] ≡ []
take_none s = take-nil s

pub nth_front : (s : ℕ) (ps : List Place) (i : ℕ) → i < s → slice_get ps i ≡ slice_get (take s ps) i
nth_front s ps i h = grind (arith, length-take, slice_get_past, slice_get-get_or ps i None, slice_get-get_or (take s ps) i None, get_or-take s ps i None)

pub nth_past_front : (s : ℕ) (ps : List Place) (i : ℕ) → s ≤ i → None ≡ slice_get (take s ps) i
nth_past_front s ps i h = grind (arith, slice_get_past, length-take)

-- how many keys stand, one place further
abbrev pub held : Option Place → ℕ
held None = 0
held (Some None) = 0
held (Some (Some t)) = 1

standing_suc : (ps : List Place) (i : ℕ) → standing (take (suc i) ps) ≡ standing (take i ps) + held (slice_get ps i)
standing_suc [] i = grind (arith, take-nil)
standing_suc (p ∷ ps) zero = grind arith
standing_suc (p ∷ ps) (suc i) = grind (arith, standing_suc ps i)

pub standing_next : (ps : List Place) (i : ℕ) (o : Option Place) → o ≡ slice_get ps i → standing (take (i + 1) ps) ≡ standing (take i ps) + held o
standing_next ps i o e = rw (add-one, e) (standing_suc ps i)

pub held_none : (p : PlaceState ℕ) → ((t : ℕ) → p ≢ Held t) → held (place_told p) ≡ 0
held_none p n = grind arith

-- whether a place that was asked for holds a tag
abbrev pub stands : Option Place → Bool
stands None = false
stands (Some None) = false
stands (Some (Some t)) = true

pub filter_step : {X : Type 0} (p : X → Bool) (x : X) (xs : List X) → length (filter p (x ∷ xs)) ≡ cond (p x) (1 + length (filter p xs)) (length (filter p xs))
filter_step p x xs = by (p x)
  where
    by : (b : Bool) → length (cond b (x ∷ filter p xs) (filter p xs)) ≡ cond b (1 + length (filter p xs)) (length (filter p xs))
    by true = omega arith
    by false = refl

pub standing_counted : (ps : List Place) (s : ℕ) → length (filter (λ i. stands (slice_get ps i)) (range_with_len 0 s)) ≡ standing (take s ps)
standing_counted ps s = length-filter (λ i. stands (slice_get ps i)) (range_with_len 0 s) ∙ sym (fold-map _ (slice_get ps) 0 (range_with_len 0 s)) ∙ by s
  where
    by : (n : ℕ) → sum_by (λ o. cond (stands o) 1 0) (map (slice_get ps) (range_with_len 0 n)) ≡ standing (take n ps)
    by zero = refl
    by (suc n) =
        let more = simp add-one at (sum_by-map-range_with_len_more (λ o. cond (stands o) 1 0) (slice_get ps) 0 n n (omega arith)) in
        grind (arith, by n, standing_suc ps n, more)

-- whether place i holds a tag
abbrev pub stands_at : List Place → ℕ → Bool
stands_at ps i = stands (slice_get ps i)

-- what a fold over the numbers of the first places counts
pub standing_folded : (ps : List Place) (s n : ℕ) → n ≡ fold (one_more (stands_at ps)) 0 (range_with_len 0 s) → s ≤ 64 → (n ≡ standing (take s ps)) × (n ≤ 64)
standing_folded ps s n e few =
    let holds = stands_at ps in
    let numbers = range_with_len 0 s in
    let within : length numbers ≤ 64 = omega (arith, length-range_with_len 0 s, few) in
    let all = counted (λ is. length (filter holds is)) holds refl (filter_step holds) numbers n 64 e within (omega arith) in
    (all.0 ∙ standing_counted ps s, all.1)
