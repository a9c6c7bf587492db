-- A search goes round: it finds the first slot that passes, from its start on and then from the first slot.
use Rattle.std.proofs.Common.{◌≡◌, ℕ, zero, suc, ◌+◌, ◌-◌, ◌%◌, ◌<◌, ◌≤◌, Bool, true, false, cond, ltb, List, [], ◌∷◌, ◌++◌, map, length, get_or, take, drop, Some, None, Option, IfSome, sym, refl, ap, ◌∙◌, subst, arith, length-append, length-drop, get_or-take, mod-lt}
use Rattle.std.specs.Prelude.{position, option_map}
use Rattle.std.specs.List.{position_from}
use Rattle.std.proofs.lemmas.Iterator.Adapters.{position_from-zero}
use Rattle.std.proofs.lemmas.List.{length-map, length-take-le, get_or_append_left, get_or-append_right, get_or-drop, drop_more, drop_all, drop-map, take-map, map-append}
use Rattle.std.proofs.lemmas.Bool.{ltb-true, ltb-false, lt-ltb, le-ltb}
use Rattle.calls.specs.Book.{KeyView, turn, wrapped, found_or, seek, seek_all, free_tag, is_free}
use Rattle.roster.proofs.Slots.{free_slot}
use Rattle.roster.specs.Rosters.{slot_of}
use Rattle.roster.specs.declared.record.Record.{Record}

abbrev Slots : Type 0
Slots = List (Option KeyView)

-- the items from one on, and then those before it
abbrev pub around : {X : Type 0} → ℕ → List X → List X
around start xs = drop start xs ++ take start xs

module _ (test : Option KeyView → Bool) (slots : Slots) (start : ℕ) (h : start < length slots) where
  around_length : length (around start slots) ≡ length slots
  around_length =
      let front = length-take-le start slots (omega arith) in
      omega (arith, length-append (drop start slots) (take start slots), length-drop start slots, front)

  -- what a search looks at after i others
  at_turn : (i : ℕ) → i < length slots → get_or (around start slots) i None ≡ get_or slots (turn start (length slots) i) None
  at_turn i k = by (ltb (start + i) (length slots)) refl
    where
      by : (b : Bool) → ltb (start + i) (length slots) ≡ b → get_or (around start slots) i None ≡ get_or slots (wrapped b (start + i) (length slots)) None
      by true e =
          let near : start + i < length slots = ltb-true (start + i) (length slots) e in
          get_or_append_left (drop start slots) (take start slots) None i (omega (arith, length-drop start slots)) ∙ get_or-drop start slots i None
      by false e =
          let far = ltb-false (start + i) (length slots) e in
          get_or-append_right (drop start slots) (take start slots) (length slots - start) i None (length-drop start slots) (omega arith)
          ∙ get_or-take start slots (i - (length slots - start)) None (omega arith)
          ∙ ap (λ j. get_or slots j None) (omega arith)

  found_is : (f : ℕ → ℕ) (i : ℕ) (b : Bool) (later : Option ℕ) → found_or b (f i) (option_map f later) ≡ option_map f (cond b (Some i) later)
  found_is f i true later = refl
  found_is f i false later = refl

  seek_is : (left i : ℕ) → i + left ≡ length slots → seek test slots start left i ≡ option_map (turn start (length slots)) (position_from test i (drop i (around start slots)))
  seek_is zero i e =
      sym (ap (λ xs. option_map (turn start (length slots)) (position_from test i xs)) (drop_all i (around start slots) (omega (arith, around_length))))
  seek_is (suc left) i e =
      let k : i < length slots = omega arith in
      let here = get_or (around start slots) i None in
      let others = drop (i + 1) (around start slots) in
      ap (λ y. found_or (test y) (turn start (length slots) i) (seek test slots start left (i + 1))) (sym (at_turn i k))
      ∙ ap (found_or (test here) (turn start (length slots) i)) (seek_is left (i + 1) (omega arith))
      ∙ found_is (turn start (length slots)) i (test here) (position_from test (i + 1) others)
      ∙ sym (ap (λ xs. option_map (turn start (length slots)) (position_from test i xs)) (drop_more (around start slots) i None (omega (arith, around_length))))

  seek_round : (index : ℕ) → start ≡ index % length slots → seek_all test slots index ≡ option_map (turn start (length slots)) (position test (around start slots))
  seek_round index e =
      ap (λ s. seek test slots s (length slots) 0) (sym e)
      ∙ seek_is (length slots) 0 (omega arith)
      ∙ ap (option_map (turn start (length slots))) (sym (position_from-zero test (around start slots)))

position_from_map : {X : Type 0} (test : Option KeyView → Bool) (f : X → Option KeyView) (i : ℕ) (xs : List X) → position_from test i (map f xs) ≡ position_from (λ x. test (f x)) i xs
position_from_map test f i [] = refl
position_from_map test f i (x ∷ xs) = ap (cond (test (f x)) (Some i)) (position_from_map test f (i + 1) xs)

position_map : {X : Type 0} (test : Option KeyView → Bool) (f : X → Option KeyView) (xs : List X) → position test (map f xs) ≡ position (λ x. test (f x)) xs
position_map test f xs =
    position_from-zero test (map f xs) ∙ position_from_map test f 0 xs ∙ sym (position_from-zero (λ x. test (f x)) xs)

-- what a search over the records comes to, by how many turns it took
module _ {K : Type 0} (view : K → KeyView) (test : Option KeyView → Bool) (rs items : List (Record K)) (cap index from : ℕ) (turns : Option ℕ) (len : length rs ≡ cap) (some : 0 < cap) (read : items ≡ rs) (begins : from ≡ index % cap) (found : turns ≡ position (λ r. test (slot_of view r)) (around from items)) where
  abbrev start : ℕ
  start = index % cap

  around_map : around start (map (slot_of view) rs) ≡ map (slot_of view) (around start rs)
  around_map =
      ap (λ xs. xs ++ take start (map (slot_of view) rs)) (drop-map (slot_of view) start rs)
      ∙ ap (λ xs. map (slot_of view) (drop start rs) ++ xs) (take-map (slot_of view) start rs)
      ∙ sym (map-append (slot_of view) (drop start rs) (take start rs))

  turns_are : turns ≡ position test (around start (map (slot_of view) rs))
  turns_are =
      found
      ∙ ap (λ xs. position (λ r. test (slot_of view r)) (around from xs)) read
      ∙ ap (λ k. position (λ r. test (slot_of view r)) (around k rs)) begins
      ∙ sym (position_map test (slot_of view) (around start rs))
      ∙ ap (position test) (sym around_map)

  pub seek_records : option_map (turn start cap) turns ≡ seek_all test (map (slot_of view) rs) index
  seek_records =
      let count = length-map rs (slot_of view) ∙ len in
      let near : start < cap = mod-lt index some in
      ap (option_map (turn start cap)) turns_are
      ∙ ap (λ n. option_map (turn start n) (position test (around start (map (slot_of view) rs)))) (sym count)
      ∙ sym (seek_round test (map (slot_of view) rs) start (omega (arith, count)) index (ap (λ n. index % n) (sym count)))

-- the slot of a turn
pub turn_near : (start count i : ℕ) → start + i < count → turn start count i ≡ start + i
turn_near start count i h = ap (λ b. wrapped b (start + i) count) (lt-ltb (start + i) count h)

pub turn_far : (start count i : ℕ) → start < count → count - start ≤ i → turn start count i ≡ i - (count - start)
turn_far start count i h far = ap (λ b. wrapped b (start + i) count) (le-ltb (start + i) count (omega arith)) ∙ omega arith

-- what a search finds passes
abbrev Passes : (Option KeyView → Bool) → Slots → Option ℕ → Type 0
Passes test slots tag = IfSome tag (λ t. test (get_or slots t None) ≡ true)

passes_on : (test : Option KeyView → Bool) (slots : Slots) (b : Bool) (tag : ℕ) (later : Option ℕ) → test (get_or slots tag None) ≡ b → Passes test slots later → Passes test slots (found_or b tag later)
passes_on test slots true tag later e p = e
passes_on test slots false tag later e p = p

seek_passes : (test : Option KeyView → Bool) (slots : Slots) (from left i : ℕ) → Passes test slots (seek test slots from left i)
seek_passes test slots from zero i = tt
seek_passes test slots from (suc left) i = passes_on test slots _ _ _ refl (seek_passes test slots from left (i + 1))

pub found_free : (slots : Slots) (key : KeyView) (tag : Option ℕ) → tag ≡ free_tag slots key → IfSome tag (λ t. get_or slots t None ≡ None)
found_free slots key tag e = by tag (subst (λ o. IfSome o (λ t. is_free (get_or slots t None) ≡ true)) (sym e) (seek_passes is_free slots (key.index % length slots) (length slots) 0))
  where
    by : (o : Option ℕ) → IfSome o (λ t. is_free (get_or slots t None) ≡ true) → IfSome o (λ t. get_or slots t None ≡ None)
    by None p = tt
    by (Some t) p = free_slot (get_or slots t None) p
