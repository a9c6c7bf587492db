-- Counting the items that pass one by one, where the count stays within its type.
use Rattle.std.proofs.Common.{◌≡◌, ℕ, ◌+◌, ◌<◌, ◌≤◌, ◌%◌, ◌^◌, Bool, true, false, cond, List, [], ◌∷◌, length, ap, ◌∙◌, arith}
use Rattle.std.specs.List.{fold}

-- one more where it passes
abbrev pub one_more : {X : Type 0} → (p : X → Bool) → ℕ → X → ℕ
one_more p k x = cond (p x) ((k + 1) % 2 ^ 64) k

-- where `F` counts what passes,
module _ {X : Type 0} (F : List X → ℕ) (p : X → Bool) (none : F [] ≡ 0) (step : (x : X) (xs : List X) → F (x ∷ xs) ≡ cond (p x) (1 + F xs) (F xs)) where
  -- the fold adds that to the number it began with;
  pub count_folded : (xs : List X) (n : ℕ) → n + length xs < 2 ^ 64 → fold (one_more p) n xs ≡ n + F xs
  count_folded [] n h = omega (arith, none)
  count_folded (x ∷ xs) n h =
      by (p x) (step x xs) (count_folded xs (n + 1) (omega (arith, h))) (count_folded xs n (omega (arith, h)))
    where
      by : (b : Bool) → F (x ∷ xs) ≡ cond b (1 + F xs) (F xs) → fold (one_more p) (n + 1) xs ≡ n + 1 + F xs → fold (one_more p) n xs ≡ n + F xs → fold (one_more p) (cond b ((n + 1) % 2 ^ 64) n) xs ≡ n + F (x ∷ xs)
      by true e passed left =
          let one : (n + 1) % 2 ^ 64 ≡ n + 1 = omega (arith, h) in
          ap (λ k. fold (one_more p) k xs) one ∙ passed ∙ omega (arith, e)
      by false e passed left = left ∙ omega (arith, e)

  -- no more pass than there are;
  count_few : (xs : List X) → F xs ≤ length xs
  count_few [] = omega (arith, none)
  count_few (x ∷ xs) = by (p x) (step x xs) (count_few xs)
    where
      by : (b : Bool) → F (x ∷ xs) ≡ cond b (1 + F xs) (F xs) → F xs ≤ length xs → F (x ∷ xs) ≤ length (x ∷ xs)
      by true e few = omega (arith, e, few)
      by false e few = omega (arith, e, few)

  -- so a fold that begins with 0 is that count, and no more than a bound on the items.
  pub counted : (xs : List X) (n most : ℕ) → n ≡ fold (one_more p) 0 xs → length xs ≤ most → most < 2 ^ 64 → (n ≡ F xs) × (n ≤ most)
  counted xs n most e few small =
      let is : n ≡ F xs = omega (arith, e, count_folded xs 0 (omega (arith, few, small))) in
      (is, omega (arith, is, count_few xs, few))
