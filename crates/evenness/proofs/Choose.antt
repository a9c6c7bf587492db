-- Factorials, falling factorials and binomial numbers: the laws that link them.
use Rattle.std.proofs.Common.{◌≡◌, ℕ, zero, suc, pred, ◌+◌, ◌*◌, ◌<◌, ◌≤◌, refl, ap, ◌∙◌, mul_assoc, suc-mul, mul_comm, mul-pos, one-mul, mul-zero, zero-mul, mul-add, arith}
use native.Mathlib.Nat.{sub-zero, suc-sub-suc}
use lib.Dec.{leb-zero, leb-suc-zero, leb-suc-suc}
use Rattle.evenness.specs.Counting.{choose, choose_less, factorial, falling}

pub factorial_above_zero : (n : ℕ) → 0 < factorial n
factorial_above_zero zero = omega arith
factorial_above_zero (suc n) = mul-pos (omega arith) (factorial_above_zero n)

-- n + 1 things, one of them marked, of which k + 1 are chosen with the mark among them: counted in two ways
pub choose_marked : (n k : ℕ) → suc n * choose n k ≡ suc k * choose (suc n) (suc k)
choose_marked zero zero = refl
choose_marked zero (suc k) = simp (mul-zero)
choose_marked (suc n) zero = omega (arith, choose_marked n zero)
choose_marked (suc n) (suc k) =
    let one = choose_marked n k in
    let more = choose_marked n (suc k) in
    let here : suc (suc n) * choose (suc n) (suc k) ≡ suc n * choose n k + suc n * choose n (suc k) + choose (suc n) (suc k) = simp (suc-mul, mul-add) (omega arith) in
    let there : suc (suc k) * choose (suc (suc n)) (suc (suc k)) ≡ suc k * choose (suc n) (suc k) + choose (suc n) (suc k) + suc (suc k) * choose (suc n) (suc (suc k)) = simp (suc-mul, mul-add) (omega arith) in
    omega arith

pub choose_falling : (n k : ℕ) → choose n k * factorial k ≡ falling n k
choose_falling n zero = refl
choose_falling zero (suc k) = zero-mul _
choose_falling (suc n) (suc k) =
    simp (← (mul_assoc), mul_comm (choose (suc n) (suc k)) (suc k), ← (choose_marked n k)) (mul_assoc _ _ _ ∙ ap (λ x. suc n * x) (choose_falling n k))

pub falling_factorial : (n k rest : ℕ) → n ≡ k + rest → falling n k * factorial rest ≡ factorial n
falling_factorial n zero rest e = simp one-mul (ap factorial (omega (arith, e)))
falling_factorial zero (suc k) rest e = let z : ⊥ = omega (arith, e) in absurd z
falling_factorial (suc n) (suc k) rest e =
    mul_assoc (suc n) (falling n k) (factorial rest) ∙ ap (λ x. suc n * x) (falling_factorial n k rest (omega (arith, e)))

pub choose_above_zero : (n k : ℕ) → k ≤ n → 0 < choose n k
choose_above_zero n zero h = omega arith
choose_above_zero zero (suc k) h = let z : ⊥ = omega arith in absurd z
choose_above_zero (suc n) (suc k) h = omega (arith, choose_above_zero n k (omega arith))

-- choose_less by its steps
pub choose_less_zero : (d l : ℕ) → choose_less d l 0 ≡ choose d l
choose_less_zero d l = simp (leb-zero, sub-zero)

pub choose_less_none : (d a : ℕ) → choose_less d 0 (suc a) ≡ 0
choose_less_none d a = simp leb-suc-zero

pub choose_less_both : (d l a : ℕ) → choose_less d (suc l) (suc a) ≡ choose_less d l a
choose_less_both d l a = simp (leb-suc-suc, suc-sub-suc)

-- One more place: it is one of the d holes, or holds one of the a tags.
pub choose_less_more : (d l a : ℕ) → d * choose_less (pred d) l a + a * choose_less d l (pred a) ≡ suc l * choose_less d (suc l) a
choose_less_more zero l zero = simp (choose_less_zero, zero-mul, mul-zero)
choose_less_more (suc d) l zero = simp (choose_less_zero, zero-mul) (omega (arith, choose_marked d l))
choose_less_more d zero (suc zero) = simp mul-zero
choose_less_more d zero (suc (suc a)) = simp (choose_less_none, choose_less_both d 0 (suc a), mul-zero)
choose_less_more d (suc l) (suc zero) =
    let before = choose_less_more d l zero in
    simp (choose_less_both (pred d) l 0, choose_less_both d (suc l) 0, suc-mul)
    (omega (arith, simp (suc-mul, zero-mul) at before))
choose_less_more d (suc l) (suc (suc a)) =
    let before = choose_less_more d l (suc a) in
    simp (choose_less_both, suc-mul) (omega (arith, simp (choose_less_both, suc-mul) at before))
