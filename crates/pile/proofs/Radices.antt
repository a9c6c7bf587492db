-- What a radix that is told says of the pile.
use Rattle.std.proofs.Common.{◌≡◌, ℕ, ◌+◌, ◌<◌, Bool, true, false, eqb, ltb, refl, arith}
use Rattle.std.proofs.lemmas.Bool.{ltb-true, true≢false, false≢true, eq-eqb, ne_eqb}
use Rattle.pile.specs.Answers.{Told, told, refused}
use Rattle.pile.specs.Meaning.{Meaning}
use Rattle.pile.specs.Rules.{radix_rule, radix_when}

same_told : (a b : ℕ) → ◌≡◌ {A = Told ℕ} (told a) (told b) → a ≡ b
same_told a b e = cc

not_refused : (a k : ℕ) → ◌≡◌ {A = Told ℕ} (told a) (refused k) → ⊥
not_refused a k e = let z : ◌≡◌ {A = ℕ} 0 1 = cc in omega arith

-- while no leave is unpaired it is N + 1, and there is room
pub radix_joined : (m : Meaning) (class n : ℕ) → told n ≡ radix_rule m class → m.counted class ≡ true → m.unpaired ≡ 0 → (n ≡ m.live + 1) × (m.live < 1024)
radix_joined m class n e c z = by (m.counted class) (eqb m.unpaired 0) (ltb m.live 1024) refl e c (eq-eqb m.unpaired 0 z)
  where
    by : (k p r : Bool) → ltb m.live 1024 ≡ r → told n ≡ radix_when k p r m → k ≡ true → p ≡ true → (n ≡ m.live + 1) × (m.live < 1024)
    by false p r l e k q = absurd (false≢true k)
    by true false r l e k q = absurd (false≢true q)
    by true true true l e k q = (same_told n (m.live + 1) e, ltb-true m.live 1024 l)
    by true true false l e k q = absurd (not_refused n 10 e)

-- else it is d
pub radix_paired : (m : Meaning) (class n : ℕ) → told n ≡ radix_rule m class → m.counted class ≡ true → (m.unpaired ≡ 0 → ⊥) → n ≡ m.unpaired
radix_paired m class n e c z = by (m.counted class) (eqb m.unpaired 0) (ltb m.live 1024) e c (ne_eqb m.unpaired 0 z)
  where
    by : (k p r : Bool) → told n ≡ radix_when k p r m → k ≡ true → p ≡ false → n ≡ m.unpaired
    by false p r e k q = absurd (false≢true k)
    by true true r e k q = absurd (true≢false q)
    by true false r e k q = same_told n m.unpaired e
