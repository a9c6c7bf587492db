-- Sums over one tag out of a list, with the list without it.
use Rattle.std.proofs.Common.{◌≡◌, ℕ, suc, ◌+◌, ◌*◌, List, [], ◌∷◌, length, sym, refl, ap, ◌∙◌, ap₂, suc-mul, mul-zero, zero-mul, mul-add, arith}
use Rattle.std.specs.List.{AllByRecursion}

-- the sum of f over each tag of the list and the list without it
abbrev pub picks : List ℕ → (ℕ → List ℕ → ℕ) → ℕ
picks [] f = 0
picks (t ∷ ts) f = f t ts + picks ts (λ u rest. f u (t ∷ rest))

-- `rest` is `ts` with the tag x taken off
pub data Off (x : ℕ) : (ts rest : List ℕ) → Type 0 where
  here : {ts : List ℕ} → Off x (x ∷ ts) ts
  later : {t : ℕ} {ts rest : List ℕ} → Off x ts rest → Off x (t ∷ ts) (t ∷ rest)

pub off_length : {x : ℕ} {ts rest : List ℕ} → Off x ts rest → length ts ≡ suc (length rest)
off_length here = refl
off_length (later o) = ap suc (off_length o)

pub off_all : (P : ℕ → Type 0) {x : ℕ} {ts rest : List ℕ} → Off x ts rest → AllByRecursion P ts → P x × AllByRecursion P rest
off_all P here h = h
off_all P (later o) h = let k = off_all P o h.1 in (k.0, (h.0, k.1))

pub picks_same : (ts : List ℕ) (f g : ℕ → List ℕ → ℕ) → ((u : ℕ) (rest : List ℕ) → Off u ts rest → f u rest ≡ g u rest) → picks ts f ≡ picks ts g
picks_same [] f g h = refl
picks_same (t ∷ ts) f g h =
    ap₂ ◌+◌ (h t ts here)
    (picks_same ts (λ u rest. f u (t ∷ rest)) (λ u rest. g u (t ∷ rest)) (λ u rest o. h u (t ∷ rest) (later o)))

pub picks_add : (ts : List ℕ) (f g : ℕ → List ℕ → ℕ) → picks ts (λ u rest. f u rest + g u rest) ≡ picks ts f + picks ts g
picks_add [] f g = refl
picks_add (t ∷ ts) f g = omega (arith, picks_add ts (λ u rest. f u (t ∷ rest)) (λ u rest. g u (t ∷ rest)))

pub picks_zero : (ts : List ℕ) → picks ts (λ u rest. 0) ≡ 0
picks_zero [] = refl
picks_zero (t ∷ ts) = omega (arith, picks_zero ts)

pub picks_const : (ts : List ℕ) (c : ℕ) → picks ts (λ t rest. c) ≡ length ts * c
picks_const [] c = sym (zero-mul c)
picks_const (t ∷ ts) c = simp suc-mul (omega (arith, picks_const ts c))

pub picks_times : (ts : List ℕ) (c : ℕ) (f : ℕ → List ℕ → ℕ) → picks ts (λ u rest. c * f u rest) ≡ c * picks ts f
picks_times [] c f = sym (mul-zero c)
picks_times (t ∷ ts) c f = simp mul-add (ap (λ x. c * f t ts + x) (picks_times ts c (λ u rest. f u (t ∷ rest))))

-- picking two, in either order
pub picks_swap :
    (ts : List ℕ) (f : ℕ → ℕ → List ℕ → ℕ) →
    picks ts (λ u rest. picks rest (λ v others. f u v others)) ≡ picks ts (λ v rest. picks rest (λ u others. f u v others))
picks_swap [] f = refl
picks_swap (t ∷ ts) f =
    let one = picks_add ts (λ u rest. f u t rest) (λ u rest. picks rest (λ v others. f u v (t ∷ others))) in
    let two = picks_add ts (λ v rest. f t v rest) (λ v rest. picks rest (λ u others. f u v (t ∷ others))) in
    let both = picks_swap ts (λ u v others. f u v (t ∷ others)) in
    omega (arith, one, two, both)

-- a tag is as well picked from the front as from where it stands, if the rest of the sum does not depend on where it stands
pub picks_front :
    (x : ℕ) (f : ℕ → List ℕ → ℕ) {ts rest : List ℕ} → Off x ts rest →
    ((u : ℕ) (us left : List ℕ) → Off x us left → f u us ≡ f u (x ∷ left)) → picks ts f ≡ picks (x ∷ rest) f
picks_front x f here moves = refl
picks_front x f (later {t} {ts} {rest} o) moves =
    let front = picks_front x (λ u others. f u (t ∷ others)) o (λ u us left p. moves u (t ∷ us) (t ∷ left) (later p) ∙ sym (moves u (t ∷ x ∷ left) (t ∷ left) (later here))) in
    let first = moves t ts rest o in
    let others : picks rest (λ u left. f u (t ∷ x ∷ left)) ≡ picks rest (λ u left. f u (x ∷ t ∷ left)) =
    picks_same rest (λ u left. f u (t ∷ x ∷ left)) (λ u left. f u (x ∷ t ∷ left)) (λ u left _. moves u (t ∷ x ∷ left) (t ∷ left) (later here)) in
    omega (arith, front, first, others)
