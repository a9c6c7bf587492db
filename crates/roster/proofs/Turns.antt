-- A search of one list and then of another is a search of the two joined.
use Rattle.std.proofs.Common.{◌≡◌, ℕ, ◌+◌, Bool, true, false, cond, List, [], ◌∷◌, ◌++◌, length, Some, None, Option, option_map, refl, sym, ap, ◌∙◌, arith}
use Rattle.std.specs.List.{position, position_from}
use Rattle.std.proofs.lemmas.Iterator.Adapters.{position_from-zero}

abbrev first_or : Option ℕ → Option ℕ → Option ℕ
first_or (Some i) other = Some i
first_or None other = other

joined_from : {A : Type 0} (test : A → Bool) (n : ℕ) (xs ys : List A) → position_from test n (xs ++ ys) ≡ first_or (position_from test n xs) (position_from test (n + length xs) ys)
joined_from test n [] ys = ap (λ k. position_from test k ys) (omega arith)
joined_from test n (x ∷ xs) ys =
    by (test x) (joined_from test (n + 1) xs ys ∙ ap (λ k. first_or (position_from test (n + 1) xs) (position_from test k ys)) (omega arith))
  where
    by : (b : Bool) → position_from test (n + 1) (xs ++ ys) ≡ first_or (position_from test (n + 1) xs) (position_from test (n + length (x ∷ xs)) ys) → cond b (Some n) (position_from test (n + 1) (xs ++ ys)) ≡ first_or (cond b (Some n) (position_from test (n + 1) xs)) (position_from test (n + length (x ∷ xs)) ys)
    by true rest = refl
    by false rest = rest

moved : {A : Type 0} (test : A → Bool) (k n : ℕ) (xs : List A) → position_from test (k + n) xs ≡ option_map (λ i. k + i) (position_from test n xs)
moved test k n [] = refl
moved test k n (x ∷ xs) = by (test x) (ap (λ m. position_from test m xs) (omega arith) ∙ moved test k (n + 1) xs)
  where
    by : (b : Bool) → position_from test (k + n + 1) xs ≡ option_map (λ i. k + i) (position_from test (n + 1) xs) → cond b (Some (k + n)) (position_from test (k + n + 1) xs) ≡ option_map (λ i. k + i) (cond b (Some n) (position_from test (n + 1) xs))
    by true rest = refl
    by false rest = rest

-- what the first list answers, or else the second, that many places further on
pub joined : {A : Type 0} (test : A → Bool) (xs ys : List A) → position test (xs ++ ys) ≡ first_or (position test xs) (option_map (λ i. length xs + i) (position test ys))
joined test xs ys =
    let far : position_from test (0 + length xs) ys ≡ option_map (λ i. length xs + i) (position_from test 0 ys) =
    ap (λ k. position_from test k ys) (omega arith) ∙ moved test (length xs) 0 ys
    in
    position_from-zero test (xs ++ ys)
    ∙ joined_from test 0 xs ys
    ∙ ap (first_or (position_from test 0 xs)) far
    ∙ ap (λ o. first_or o (option_map (λ i. length xs + i) (position_from test 0 ys))) (sym (position_from-zero test xs))
    ∙ ap (λ o. first_or (position test xs) (option_map (λ i. length xs + i) o)) (sym (position_from-zero test ys))

pub in_first : {A : Type 0} (test : A → Bool) (xs ys : List A) (i : ℕ) → position test xs ≡ Some i → position test (xs ++ ys) ≡ Some i
in_first test xs ys i e = joined test xs ys ∙ ap (λ o. first_or o (option_map (λ i. length xs + i) (position test ys))) e

pub in_second : {A : Type 0} (test : A → Bool) (xs ys : List A) (o : Option ℕ) → position test xs ≡ None → position test ys ≡ o → position test (xs ++ ys) ≡ option_map (λ i. length xs + i) o
in_second test xs ys o e f =
    joined test xs ys
    ∙ ap (λ o. first_or o (option_map (λ i. length xs + i) (position test ys))) e
    ∙ ap (option_map (λ i. length xs + i)) f
