-- What the searches of a book find, and how many slots are held.
use Rattle.std.proofs.Common.{◌≡◌, ℕ, zero, suc, ◌+◌, ◌-◌, ◌%◌, ◌<◌, ◌≤◌, Bool, true, false, ltb, List, [], ◌∷◌, length, get_or, set, is_some, Some, None, Option, sym, refl, ap, ◌∙◌, subst, ⊎_elim, mod-lt, arith, MatchOption}
use Rattle.std.proofs.lemmas.List.{get_or_past}
use Rattle.std.proofs.lemmas.Bool.{lt-ltb, le-ltb, ltb-true, ltb-false, false≢true, not-false, cases_eq, cases_lt}
use Rattle.calls.specs.Book.{KeyView, live_count, one_if_held, holds_form, wrapped, turn, found_or, seek, seek_all, tag_of, is_free, free_tag}

pub none_some : {A : Type 0} (a : A) → ◌≡◌ {A = Option A} None (Some a) → ⊥
none_some a e = let z : ◌≡◌ {A = ℕ} 0 1 = cc in omega arith

pub same_some : {A : Type 0} (a b : A) → ◌≡◌ {A = Option A} (Some a) (Some b) → a ≡ b
same_some a b e = cc

-- a turn is the number of a slot, and each slot has its turn
turn_below : (start count i : ℕ) → start < count → i < count → turn start count i < count
turn_below start count i l k = by (ltb (start + i) count) refl
  where
    by : (b : Bool) → ltb (start + i) count ≡ b → wrapped b (start + i) count < count
    by true e = ltb-true (start + i) count e
    by false e = let h = ltb-false (start + i) count e in omega arith

turn_of : (start count slot : ℕ) → start < count → slot < count → (i : ℕ) × (i < count) × (turn start count i ≡ slot)
turn_of start count slot l k = by (ltb slot start) refl
  where
    by : (b : Bool) → ltb slot start ≡ b → (i : ℕ) × (i < count) × (turn start count i ≡ slot)
    by true e =
        let h = ltb-true slot start e in
        let i = slot + count - start in
        let same : start + i ≡ slot + count = omega arith in (
          i,
          omega arith,
          ap (λ a. wrapped (ltb a count) a count) same ∙ ap (λ b. wrapped b (slot + count) count) (le-ltb (slot + count) count (omega arith))
              ∙ omega arith,
        )
    by false e =
        let h = ltb-false slot start e in
        let i = slot - start in
        let same : start + i ≡ slot = omega arith in
        (i, omega arith, ap (λ a. wrapped (ltb a count) a count) same ∙ ap (λ b. wrapped b slot count) (lt-ltb slot count k))

-- what a search finds is a slot that passes; where it finds none, no slot that it looked at does
module _ (test : Option KeyView → Bool) (slots : List (Option KeyView)) where
  abbrev pub Found : Option ℕ → Type 0 → Type 0
  Found found none = MatchOption found none (λ slot. (slot < length slots) × (test (get_or slots slot None) ≡ true))

  seek_more :
      (start left i slot : ℕ) (b : Bool) (later : Option ℕ) → turn start (length slots) i ≡ slot → slot < length slots →
      test (get_or slots slot None) ≡ b →
      Found later ((j : ℕ) → i + 1 ≤ j → j < i + 1 + left → test (get_or slots (turn start (length slots) j) None) ≡ false) →
      Found (found_or b slot later)
      ((j : ℕ) → i ≤ j → j < i + suc left → test (get_or slots (turn start (length slots) j) None) ≡ false)
  seek_more start left i slot true later at l e h = (l, e)
  seek_more start left i slot false (Some found) at l e h = h
  seek_more start left i slot false None at l e h =
      λ j from to.
      ⊎_elim
      (λ (q : i ≡ j). subst (λ (n : ℕ). test (get_or slots (turn start (length slots) n) None) ≡ false) q (ap (λ n. test (get_or slots n None)) at ∙ e))
      (λ (q : i ≡ j → ⊥). h j (omega arith) (omega arith)) (cases_eq i j)

  seek_finds :
      (start left i : ℕ) → start < length slots → i + left ≤ length slots →
      Found (seek test slots start left i)
      ((j : ℕ) → i ≤ j → j < i + left → test (get_or slots (turn start (length slots) j) None) ≡ false)
  seek_finds start zero i l k = λ j from to. let z : ⊥ = omega arith in absurd z
  seek_finds start (suc left) i l k =
      seek_more start left i _ _ (seek test slots start left (i + 1)) refl (turn_below start (length slots) i l (omega arith)) refl
      (seek_finds start left (i + 1) l (omega arith))

  none_passes :
      (start : ℕ) (found : Option ℕ) → start < length slots →
      Found found ((j : ℕ) → 0 ≤ j → j < 0 + length slots → test (get_or slots (turn start (length slots) j) None) ≡ false) →
      Found found ((slot : ℕ) → slot < length slots → test (get_or slots slot None) ≡ false)
  none_passes start (Some found) l h = h
  none_passes start None l h =
      λ slot below.
      let at = turn_of start (length slots) slot l below in
      ap (λ n. test (get_or slots n None)) (sym at.2) ∙ h at.0 (omega arith) (omega (arith, at.1))

  pub seek_all_finds :
      (index : ℕ) → Found (seek_all test slots index) ((slot : ℕ) → slot < length slots → test (get_or slots slot None) ≡ false)
  seek_all_finds index = by (length slots) refl
    where
      by :
          (n : ℕ) → length slots ≡ n →
          Found (seek test slots (index % n) n 0) ((slot : ℕ) → slot < length slots → test (get_or slots slot None) ≡ false)
      by zero e = λ slot below. let z : ⊥ = omega arith in absurd z
      by (suc n) e =
          let start = index % suc n in
          let l : start < length slots = rw e (mod-lt index (omega arith)) in
          none_passes start (seek test slots start (suc n) 0) l
          (subst (λ (k : ℕ). Found (seek test slots start k 0) ((j : ℕ) → 0 ≤ j → j < 0 + length slots → test (get_or slots (turn start (length slots) j) None) ≡ false)) e
          (seek_finds start (length slots) 0 l (omega arith)))

-- the tag of a key is the slot that holds it; where there is none, no slot does
pub tag_of_finds :
    (slots : List (Option KeyView)) (key : KeyView) →
    Found (holds_form key.form) slots (tag_of slots key) ((slot : ℕ) → holds_form key.form (get_or slots slot None) ≡ false)
tag_of_finds slots key = by (tag_of slots key) (seek_all_finds (holds_form key.form) slots key.index)
  where
    by :
        (found : Option ℕ) →
        Found (holds_form key.form) slots found ((slot : ℕ) → slot < length slots → holds_form key.form (get_or slots slot None) ≡ false) →
        Found (holds_form key.form) slots found ((slot : ℕ) → holds_form key.form (get_or slots slot None) ≡ false)
    by (Some tag) h = h
    by None h =
        λ slot. ⊎_elim (h slot) (λ past. ap (holds_form key.form) (get_or_past slots slot None past)) (cases_lt slot (length slots))

free_none : (slot : Option KeyView) → is_free slot ≡ true → slot ≡ None
free_none None e = refl
free_none (Some key) e = absurd (false≢true e)

-- the tag that a key gets is a free slot; where there is none, every slot is held
pub free_tag_finds :
    (slots : List (Option KeyView)) (key : KeyView) →
    MatchOption (free_tag slots key) ((slot : ℕ) → slot < length slots → is_some (get_or slots slot None) ≡ true)
    (λ tag. (tag < length slots) × (get_or slots tag None ≡ None))
free_tag_finds slots key = by (free_tag slots key) (seek_all_finds is_free slots key.index)
  where
    by :
        (found : Option ℕ) → Found is_free slots found ((slot : ℕ) → slot < length slots → is_free (get_or slots slot None) ≡ false) →
        MatchOption found ((slot : ℕ) → slot < length slots → is_some (get_or slots slot None) ≡ true)
        (λ tag. (tag < length slots) × (get_or slots tag None ≡ None))
    by (Some tag) h = (h.0, free_none (get_or slots tag None) h.1)
    by None h = λ slot l. not-false (is_some (get_or slots slot None)) (h slot l)

-- as many keys are live as slots are held
pub live_count_most : (slots : List (Option KeyView)) → live_count slots ≤ length slots
live_count_most [] = omega arith
live_count_most (None ∷ slots) = omega (arith, live_count_most slots)
live_count_most (Some key ∷ slots) = omega (arith, live_count_most slots)

pub all_held : (slots : List (Option KeyView)) → ((slot : ℕ) → slot < length slots → is_some (get_or slots slot None) ≡ true) → live_count slots ≡ length slots
all_held [] h = refl
all_held (None ∷ slots) h = absurd (false≢true (h 0 (omega arith)))
all_held (Some key ∷ slots) h = omega (arith, all_held slots (λ slot l. h (suc slot) (omega arith)))

-- so where fewer are live than there are slots, a free one is found
pub free_tag_found : (slots : List (Option KeyView)) (key : KeyView) → live_count slots < length slots → is_some (free_tag slots key) ≡ true
free_tag_found slots key few = by (free_tag slots key) (free_tag_finds slots key)
  where
    by :
        (found : Option ℕ) →
        MatchOption found ((slot : ℕ) → slot < length slots → is_some (get_or slots slot None) ≡ true) (λ tag. (tag < length slots) × (get_or slots tag None ≡ None)) →
        is_some found ≡ true
    by (Some tag) h = refl
    by None h = let z : ⊥ = omega (arith, all_held slots h) in absurd z

-- one more is live where a free slot is filled, and one fewer where a held one is freed
pub live_count_filled :
    (slots : List (Option KeyView)) (tag : ℕ) (key : KeyView) → tag < length slots → get_or slots tag None ≡ None →
    live_count (set slots tag (Some key)) ≡ live_count slots + 1
live_count_filled [] tag key l e = let z : ⊥ = omega arith in absurd z
live_count_filled (slot ∷ slots) zero key l e = omega (arith, ap one_if_held e)
live_count_filled (slot ∷ slots) (suc tag) key l e = omega (arith, live_count_filled slots tag key (omega arith) e)

pub live_count_freed :
    (slots : List (Option KeyView)) (tag : ℕ) (key : KeyView) → get_or slots tag None ≡ Some key →
    live_count (set slots tag None) + 1 ≡ live_count slots
live_count_freed [] tag key e = absurd (none_some key e)
live_count_freed (slot ∷ slots) zero key e = omega (arith, ap one_if_held e)
live_count_freed (slot ∷ slots) (suc tag) key e = omega (arith, live_count_freed slots tag key e)

-- a slot that holds a key is one of the slots
pub held_below : (slots : List (Option KeyView)) (tag : ℕ) (key : KeyView) → get_or slots tag None ≡ Some key → tag < length slots
held_below slots tag key e =
    ⊎_elim (λ l. l) (λ past. absurd (none_some key (sym (get_or_past slots tag None past) ∙ e))) (cases_lt tag (length slots))
