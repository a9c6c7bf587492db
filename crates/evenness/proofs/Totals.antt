-- Sums over lists, over the numbers below another, and over all tapes.
use Rattle.std.proofs.Common.{◌≡◌, ℕ, zero, suc, ◌+◌, ◌*◌, ◌<◌, Bool, true, false, cond, ◌&&◌, eqb, ltb, List, [], ◌∷◌, ◌++◌, map, length, sum_by, sym, refl, ap, ◌∙◌, subst, ap₂, add-zero, suc-mul, mul-zero, zero-add, zero-mul, mul-add, arith}
use mathlib.Core.Path.{fun_ext}
use lib.Dec.{eqb-zero-suc, eqb-suc-zero, eqb-suc-suc, leb-suc-zero, leb-suc-suc}
use Rattle.std.specs.List.{flat_map, AllByRecursion}
use Rattle.std.proofs.ByRecursion.{All-append, All-map, All-weaker}
use Rattle.std.proofs.lemmas.List.Sums.{sum_by-cons}
use Rattle.std.proofs.lemmas.Bool.{lt-ltb, ltb-true, cond_both}
use Rattle.evenness.specs.Counting.{product}
use Rattle.evenness.specs.Tapes.{below, tapes, Tape, same_draws, times_listed}

-- the sum of f over the numbers below n
abbrev pub sum_below : (n : ℕ) → (ℕ → ℕ) → ℕ
sum_below zero f = 0
sum_below (suc n) f = f 0 + sum_below n (λ r. f (suc r))

pub sum_below_same : (n : ℕ) (f g : ℕ → ℕ) → ((r : ℕ) → f r ≡ g r) → sum_below n f ≡ sum_below n g
sum_below_same n f g h = ap (sum_below n) (fun_ext h)

pub sum_below_add : (n : ℕ) (f g : ℕ → ℕ) → sum_below n (λ r. f r + g r) ≡ sum_below n f + sum_below n g
sum_below_add zero f g = refl
sum_below_add (suc n) f g = omega (arith, sum_below_add n (λ r. f (suc r)) (λ r. g (suc r)))

pub sum_below_const : (n c : ℕ) → sum_below n (λ r. c) ≡ n * c
sum_below_const zero c = sym (zero-mul c)
sum_below_const (suc n) c = simp suc-mul (omega (arith, sum_below_const n c))

pub sum_below_times : (n c : ℕ) (f : ℕ → ℕ) → sum_below n (λ r. c * f r) ≡ c * sum_below n f
sum_below_times zero c f = sym (mul-zero c)
sum_below_times (suc n) c f = simp mul-add (ap (λ x. c * f 0 + x) (sum_below_times n c (λ r. f (suc r))))

-- of the numbers below n, y is one, once, or none
sum_below_at : (n y c : ℕ) → sum_below n (λ r. cond (eqb y r) c 0) ≡ cond (ltb y n) c 0
sum_below_at zero y c = sym (ap (λ b. cond b c 0) (leb-suc-zero y))
sum_below_at (suc n) zero c =
    ap (λ k. c + k) (sum_below_same n _ _ (λ r. ap (λ b. cond b c 0) (eqb-zero-suc r)) ∙ sum_below_const n 0 ∙ mul-zero n)
    ∙ add-zero c ∙ sym (ap (λ b. cond b c 0) (lt-ltb 0 (suc n) (omega arith)))
sum_below_at (suc n) (suc y) c =
    ap₂ ◌+◌ (ap (λ b. cond b c 0) (eqb-suc-zero y)) (sum_below_same n _ _ (λ r. ap (λ b. cond b c 0) (eqb-suc-suc y r)) ∙ sum_below_at n y c)
    ∙ zero-add _ ∙ sym (ap (λ b. cond b c 0) (leb-suc-suc (suc y) n))

-- the sum of f over a list
abbrev pub total : {X : Type 0} → (X → ℕ) → List X → ℕ
total f [] = 0
total f (x ∷ xs) = f x + total f xs

pub sum_by_total : {X : Type 0} (f : X → ℕ) (xs : List X) → sum_by f xs ≡ total f xs
sum_by_total f [] = refl
sum_by_total f (x ∷ xs) = sum_by-cons f x xs ∙ ap (λ k. f x + k) (sum_by_total f xs)

pub length_total : {X : Type 0} (xs : List X) → length xs ≡ total (λ x. 1) xs
length_total [] = refl
length_total (x ∷ xs) = omega (arith, length_total xs)

pub total_same : {X : Type 0} (P : X → Type 0) (f g : X → ℕ) → ((x : X) → P x → f x ≡ g x) → (xs : List X) → AllByRecursion P xs → total f xs ≡ total g xs
total_same P f g h [] all = refl
total_same P f g h (x ∷ xs) all = ap₂ ◌+◌ (h x all.0) (total_same P f g h xs all.1)

pub total_zero : {X : Type 0} (xs : List X) → total (λ x. 0) xs ≡ 0
total_zero [] = refl
total_zero (x ∷ xs) = omega (arith, total_zero xs)

total_append : {X : Type 0} (f : X → ℕ) (xs ys : List X) → total f (xs ++ ys) ≡ total f xs + total f ys
total_append f [] ys = sym (zero-add _)
total_append f (x ∷ xs) ys = omega (arith, total_append f xs ys)

total_map : {X Y : Type 0} (f : Y → ℕ) (h : X → Y) (xs : List X) → total f (map h xs) ≡ total (λ x. f (h x)) xs
total_map f h [] = refl
total_map f h (x ∷ xs) = ap (λ k. f (h x) + k) (total_map f h xs)

joined_map : {X Y A : Type 0} (h : Y → List A) (k : X → Y) (xs : List X) → flat_map h (map k xs) ≡ flat_map (λ x. h (k x)) xs
joined_map h k [] = refl
joined_map h k (x ∷ xs) = ap (λ ys. h (k x) ++ ys) (joined_map h k xs)

total_joined_below : {X : Type 0} (f : X → ℕ) (n : ℕ) (h : ℕ → List X) → total f (flat_map h (below n)) ≡ sum_below n (λ r. total f (h r))
total_joined_below f zero h = refl
total_joined_below f (suc n) h =
    total_append f (h 0) (flat_map h (map suc (below n)))
    ∙ ap (λ xs. total f (h 0) + total f xs) (joined_map h suc (below n))
    ∙ ap (λ k. total f (h 0) + k) (total_joined_below f n (λ r. h (suc r)))

-- over all tapes: each draw below the first radix, and then all tapes for the others
pub total_tapes :
    (f : List ℕ → ℕ) (radix : ℕ) (rs : List ℕ) →
    total f (tapes (radix ∷ rs)) ≡ sum_below radix (λ draw. total (λ tape. f (draw ∷ tape)) (tapes rs))
total_tapes f radix rs =
    total_joined_below f radix (λ draw. map (λ tape. draw ∷ tape) (tapes rs))
    ∙ sum_below_same radix _ _ (λ draw. total_map f (λ tape. draw ∷ tape) (tapes rs))

all_joined_below :
    {X : Type 0} (P : X → Type 0) (n : ℕ) (h : ℕ → List X) → ((r : ℕ) → r < n → AllByRecursion P (h r)) → AllByRecursion P (flat_map h (below n))
all_joined_below P zero h each = tt
all_joined_below P (suc n) h each =
    All-append P (h 0) (flat_map h (map suc (below n))) (each 0 (omega arith))
    (subst (AllByRecursion P) (sym (joined_map h suc (below n))) (all_joined_below P n (λ r. h (suc r)) (λ r l. each (suc r) (omega arith))))

-- what is listed is a tape
pub all_tapes : (rs : List ℕ) → AllByRecursion (Tape rs) (tapes rs)
all_tapes [] = (tt, tt)
all_tapes (radix ∷ rs) =
    all_joined_below (Tape (radix ∷ rs)) radix (λ draw. map (λ tape. draw ∷ tape) (tapes rs))
    (λ draw l.
    All-map (Tape (radix ∷ rs)) (λ tape. draw ∷ tape) (tapes rs)
    (All-weaker (Tape rs) (λ tape. Tape (radix ∷ rs) (draw ∷ tape)) (λ tape h. (l, h)) (tapes rs) (all_tapes rs)))

-- as many tapes as the radices multiply to
pub length_tapes : (rs : List ℕ) → length (tapes rs) ≡ product rs
length_tapes [] = refl
length_tapes (radix ∷ rs) =
    length_total (tapes (radix ∷ rs)) ∙ total_tapes (λ tape. 1) radix rs
    ∙ sum_below_const radix (total (λ tape. 1) (tapes rs)) ∙ ap (λ k. radix * k) (sym (length_total (tapes rs)) ∙ length_tapes rs)

-- a list of draws stands among the tapes once if it is a tape, and else not at all
times_after :
    (radix : ℕ) (rs : List ℕ) (draw : ℕ) (draws : List ℕ) →
    times_listed (radix ∷ rs) (draw ∷ draws) ≡ cond (ltb draw radix) (times_listed rs draws) 0
times_after radix rs draw draws =
    sum_by_total (λ tape. cond (same_draws (draw ∷ draws) tape) 1 0) (tapes (radix ∷ rs))
    ∙ total_tapes (λ tape. cond (same_draws (draw ∷ draws) tape) 1 0) radix rs
    ∙ sum_below_same radix _ (λ r. cond (eqb draw r) (times_listed rs draws) 0) (λ r. go r (eqb draw r))
    ∙ sum_below_at radix draw (times_listed rs draws)
  where
    go : (r : ℕ) (b : Bool) → total (λ tape. cond (b && same_draws draws tape) 1 0) (tapes rs) ≡ cond b (times_listed rs draws) 0
    go r true = sym (sum_by_total (λ tape. cond (same_draws draws tape) 1 0) (tapes rs))
    go r false = total_zero (tapes rs)

none_empty : (radix : ℕ) (rs : List ℕ) → times_listed (radix ∷ rs) [] ≡ 0
none_empty radix rs =
    sum_by_total (λ tape. cond (same_draws [] tape) 1 0) (tapes (radix ∷ rs))
    ∙ total_tapes (λ tape. cond (same_draws [] tape) 1 0) radix rs
    ∙ sum_below_same radix _ (λ r. 0) (λ r. total_zero (tapes rs))
    ∙ sum_below_const radix 0 ∙ mul-zero radix

pub listed_once : (rs draws : List ℕ) → Tape rs draws → times_listed rs draws ≡ 1
listed_once [] [] h = refl
listed_once [] (draw ∷ draws) h = absurd h
listed_once (radix ∷ rs) [] h = absurd h
listed_once (radix ∷ rs) (draw ∷ draws) h =
    times_after radix rs draw draws ∙ ap (λ b. cond b (times_listed rs draws) 0) (lt-ltb draw radix h.0)
    ∙ listed_once rs draws h.1

pub not_listed : (rs draws : List ℕ) → (Tape rs draws → ⊥) → times_listed rs draws ≡ 0
not_listed [] [] h = absurd (h tt)
not_listed [] (draw ∷ draws) h = refl
not_listed (radix ∷ rs) [] h = none_empty radix rs
not_listed (radix ∷ rs) (draw ∷ draws) h =
    times_after radix rs draw draws
    ∙ cond_both (ltb draw radix) (times_listed rs draws) 0 (λ k. k ≡ 0)
    (λ e. not_listed rs draws (λ t. h (ltb-true draw radix e, t))) (λ _. refl)
