-- How many live keys are counted.
use Rattle.std.proofs.Common.{◌≡◌, ℕ, zero, suc, ◌+◌, ◌<◌, ◌≤◌, Bool, true, false, List, [], ◌∷◌, length, get_or, set, replicate, Some, None, Option, refl, ap, arith}
use Rattle.calls.specs.Book.{KeyView, live_count}
use Rattle.calls.proofs.Searches.{none_some}

abbrev pub one_if : Bool → ℕ
one_if true = 1
one_if false = 0

abbrev pub one_if_counted : (ℕ → Bool) → Option KeyView → ℕ
one_if_counted counted None = 0
one_if_counted counted (Some key) = one_if (counted key.class)

abbrev pub counted_slots : (ℕ → Bool) → List (Option KeyView) → ℕ
counted_slots counted [] = 0
counted_slots counted (slot ∷ slots) = one_if_counted counted slot + counted_slots counted slots

one_most : (b : Bool) → one_if b ≤ 1
one_most true = omega arith
one_most false = omega arith

module _ (counted : ℕ → Bool) where
  pub counted_most : (slots : List (Option KeyView)) → counted_slots counted slots ≤ live_count slots
  counted_most [] = omega arith
  counted_most (None ∷ slots) = omega (arith, counted_most slots)
  counted_most (Some key ∷ slots) = omega (arith, counted_most slots, one_most (counted key.class))

  pub counted_filled :
      (slots : List (Option KeyView)) (tag : ℕ) (key : KeyView) → tag < length slots → get_or slots tag None ≡ None →
      counted_slots counted (set slots tag (Some key)) ≡ one_if (counted key.class) + counted_slots counted slots
  counted_filled [] tag key l e = let z : ⊥ = omega arith in absurd z
  counted_filled (slot ∷ slots) zero key l e = omega (arith, ap (one_if_counted counted) e)
  counted_filled (slot ∷ slots) (suc tag) key l e = omega (arith, counted_filled slots tag key (omega arith) e)

  pub counted_freed :
      (slots : List (Option KeyView)) (tag : ℕ) (key : KeyView) → get_or slots tag None ≡ Some key →
      one_if (counted key.class) + counted_slots counted (set slots tag None) ≡ counted_slots counted slots
  counted_freed [] tag key e = absurd (none_some key e)
  counted_freed (slot ∷ slots) zero key e = omega (arith, ap (one_if_counted counted) e)
  counted_freed (slot ∷ slots) (suc tag) key e = omega (arith, counted_freed slots tag key e)

  pub counted_none : (n : ℕ) → counted_slots counted (replicate n None) ≡ 0
  counted_none zero = refl
  counted_none (suc n) = omega (arith, counted_none n)
