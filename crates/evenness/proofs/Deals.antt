-- Deals: the sum of a function of the places over all ways to deal them from the live tags and d holes that are told apart.
use Rattle.std.proofs.Common.{◌≡◌, ℕ, zero, suc, pred, ◌+◌, ◌*◌, cond, List, [], ◌∷◌, ◌++◌, length, take, Some, None, sym, refl, ap, ◌∙◌, ap₂, mul_assoc, suc-mul, add-mul, add_comm, one-mul, mul-zero, zero-mul, mul-add, mul_left_comm, arith}
use Rattle.std.specs.List.{AllByRecursion}
use Rattle.std.proofs.lemmas.Bool.{eq-eqb, ne_eqb}
use Rattle.pile.specs.Answers.{Place}
use Rattle.evenness.specs.Counting.{factorial}
use Rattle.evenness.proofs.Arrangements.{fill, vacate, seat}
use Rattle.evenness.proofs.Totals.{sum_below, sum_below_same, sum_below_add, sum_below_const, sum_below_times}
use Rattle.evenness.proofs.Picks.{picks, Off, off_length, off_all, picks_same, picks_add, picks_const, picks_zero, picks_times, picks_swap, picks_front}

-- n places dealt from the tags and the holes: the first is a hole, any of the d, or holds one of the tags
abbrev pub deal : (n : ℕ) (ts : List ℕ) (d : ℕ) → (List Place → ℕ) → ℕ
deal zero ts d g = g []
deal (suc n) ts d g =
    d * deal n ts (pred d) (λ ps. g (None ∷ ps)) + picks ts (λ t rest. deal n rest d (λ ps. g (Some t ∷ ps)))

sum_below_picks :
    (n : ℕ) (ts : List ℕ) (f : ℕ → ℕ → List ℕ → ℕ) →
    sum_below n (λ r. picks ts (f r)) ≡ picks ts (λ t rest. sum_below n (λ r. f r t rest))
sum_below_picks zero ts f = sym (picks_zero ts)
sum_below_picks (suc n) ts f =
    ap (λ x. picks ts (f 0) + x) (sum_below_picks n ts (λ r. f (suc r)))
    ∙ sym (picks_add ts (f 0) (λ t rest. sum_below n (λ r. f (suc r) t rest)))

-- equal functions of the n places have equal deals
pub deal_same : (n : ℕ) (ts : List ℕ) (d : ℕ) (g h : List Place → ℕ) → ((ps : List Place) → length ps ≡ n → g ps ≡ h ps) → deal n ts d g ≡ deal n ts d h
deal_same zero ts d g h same = same [] refl
deal_same (suc n) ts d g h same =
    ap₂ (λ x y. d * x + y) (deal_same n ts (pred d) _ _ (λ ps e. same (None ∷ ps) (ap suc e)))
    (picks_same ts _ _ (λ t rest _. deal_same n rest d _ _ (λ ps e. same (Some t ∷ ps) (ap suc e))))

deal_add :
    (n : ℕ) (ts : List ℕ) (d : ℕ) (g h : List Place → ℕ) → deal n ts d (λ ps. g ps + h ps) ≡ deal n ts d g + deal n ts d h
deal_add zero ts d g h = refl
deal_add (suc n) ts d g h =
    ap₂ (λ x y. d * x + y) (deal_add n ts (pred d) (λ ps. g (None ∷ ps)) (λ ps. h (None ∷ ps)))
    (picks_same ts _ _ (λ t rest _. deal_add n rest d (λ ps. g (Some t ∷ ps)) (λ ps. h (Some t ∷ ps)))
    ∙ picks_add ts (λ t rest. deal n rest d (λ ps. g (Some t ∷ ps))) (λ t rest. deal n rest d (λ ps. h (Some t ∷ ps))))
    ∙ simp mul-add (omega arith)

pub deal_zero : (n : ℕ) (ts : List ℕ) (d : ℕ) → deal n ts d (λ ps. 0) ≡ 0
deal_zero zero ts d = refl
deal_zero (suc n) ts d =
    ap₂ (λ x y. d * x + y) (deal_zero n ts (pred d)) (picks_same ts _ (λ t rest. 0) (λ t rest _. deal_zero n rest d) ∙ picks_zero ts)
    ∙ simp mul-zero

-- it does not matter where in the list a tag stands
pub deal_front :
    (n : ℕ) (x : ℕ) (ts rest : List ℕ) (d : ℕ) (g : List Place → ℕ) → Off x ts rest → deal n ts d g ≡ deal n (x ∷ rest) d g
deal_front zero x ts rest d g o = refl
deal_front (suc n) x ts rest d g o =
    ap₂ (λ x y. d * x + y) (deal_front n x ts rest (pred d) (λ ps. g (None ∷ ps)) o)
    (picks_front x (λ t others. deal n others d (λ ps. g (Some t ∷ ps))) o (λ u us left p. deal_front n x us left d (λ ps. g (Some u ∷ ps)) p))

-- d times a number that counts only where d is one more than something
times_pred : (d : ℕ) (f g : ℕ → ℕ) → ((e : ℕ) → d ≡ suc e → f e ≡ g e) → d * f (pred d) ≡ d * g (pred d)
times_pred zero f g h = zero-mul _ ∙ sym (zero-mul _)
times_pred (suc d) f g h = ap (λ x. suc d * x) (h d refl)

regroup : (s y h z : ℕ) → s * y + s * h + s * z ≡ s * (h + (y + z))
regroup s y h z = simp mul-add (omega arith)

-- x into each of the holes in turn: x is one of the tags then, and one hole fewer is left
pub deal_fill :
    (n x : ℕ) (ts : List ℕ) (d : ℕ) (g : List Place → ℕ) →
    sum_below d (λ r. deal n ts d (λ ps. g (fill x ps r))) ≡ d * deal n (x ∷ ts) (pred d) g
deal_fill zero x ts d g = sum_below_const d (g [])
deal_fill (suc n) x ts zero g = sym (zero-mul _)
deal_fill (suc n) x ts (suc d) g =
    let parts =
    sum_below_add (suc d) (λ r. suc d * deal n ts d (λ ps. g (fill x (None ∷ ps) r)))
    (λ r. picks ts (λ t rest. deal n rest (suc d) (λ ps. g (Some t ∷ fill x ps r)))) in
    let holes =
    sum_below_times d (suc d) (λ r. deal n ts d (λ ps. g (None ∷ fill x ps r)))
    ∙ ap (λ y. suc d * y) (deal_fill n x ts d (λ ps. g (None ∷ ps))) in
    let held =
    sum_below_picks (suc d) ts (λ r t rest. deal n rest (suc d) (λ ps. g (Some t ∷ fill x ps r)))
    ∙ picks_same ts _ (λ t rest. suc d * deal n (x ∷ rest) d (λ ps. g (Some t ∷ ps)))
    (λ t rest _. deal_fill n x rest (suc d) (λ ps. g (Some t ∷ ps)))
    ∙ picks_times ts (suc d) (λ t rest. deal n (x ∷ rest) d (λ ps. g (Some t ∷ ps))) in
    parts ∙ ap₂ (λ h k. suc d * deal n ts d (λ ps. g (Some x ∷ ps)) + h + k) holes held ∙ regroup (suc d) _ _ _

-- x leaves a hole: it is a tag no more, and there is one hole more
pub deal_vacate :
    (n x : ℕ) (ts : List ℕ) (d : ℕ) (g : List Place → ℕ) → AllByRecursion (λ t. t ≡ x → ⊥) ts →
    deal n (x ∷ ts) d (λ ps. g (vacate x ps)) ≡ deal n ts (suc d) g
deal_vacate zero x ts d g off = refl
deal_vacate (suc n) x ts d g off =
    let holes =
    times_pred d (λ e. deal n (x ∷ ts) e (λ ps. g (None ∷ vacate x ps))) (λ e. deal n ts d (λ ps. g (None ∷ ps)))
    (λ e q. deal_vacate n x ts e (λ ps. g (None ∷ ps)) off ∙ ap (λ k. deal n ts k (λ ps. g (None ∷ ps))) (sym q)) in
    let own =
    ap (λ b. deal n ts d (λ ps. g (cond b (None ∷ ps) (Some x ∷ vacate x ps)))) (eq-eqb x x refl) in
    let others =
    picks_same ts (λ t rest. deal n (x ∷ rest) d (λ ps. g (vacate x (Some t ∷ ps))))
    (λ t rest. deal n rest (suc d) (λ ps. g (Some t ∷ ps)))
    (λ t rest o.
    let all = off_all (λ t. t ≡ x → ⊥) o off in
    ap (λ b. deal n (x ∷ rest) d (λ ps. g (cond b (None ∷ ps) (Some t ∷ vacate x ps)))) (ne_eqb t x all.0)
    ∙ deal_vacate n x rest d (λ ps. g (Some t ∷ ps)) all.1) in
    simp suc-mul (omega (arith, holes, own, others))

no_holes : (n : ℕ) (ts : List ℕ) (g : List Place → ℕ) → deal (suc n) ts 0 g ≡ picks ts (λ t rest. deal n rest 0 (λ ps. g (Some t ∷ ps)))
no_holes n ts g = omega arith

-- where there is no hole, the last place may as well be dealt first
deal_last :
    (n : ℕ) (ts : List ℕ) (g : List Place → ℕ) →
    deal (suc n) ts 0 g ≡ picks ts (λ t rest. deal n rest 0 (λ ps. g (ps ++ Some t ∷ [])))
deal_last zero ts g = no_holes zero ts g
deal_last (suc n) ts g =
    no_holes (suc n) ts g
    ∙ picks_same ts _ _ (λ t rest _. deal_last n rest (λ ps. g (Some t ∷ ps)))
    ∙ picks_swap ts (λ t u others. deal n others 0 (λ ps. g (Some t ∷ (ps ++ Some u ∷ []))))
    ∙ picks_same ts _ _ (λ u rest _. sym (no_holes n rest (λ ps. g (ps ++ Some u ∷ []))))

-- no hole, and x onto each place in turn and behind all: x is one of the tags then, and there is one place more
pub deal_seat :
    (n x : ℕ) (ts : List ℕ) (g : List Place → ℕ) → length ts ≡ n →
    sum_below (suc n) (λ r. deal n ts 0 (λ ps. g (seat x ps r))) ≡ deal (suc n) (x ∷ ts) 0 g
deal_seat zero x [] g e = omega arith
deal_seat zero x (t ∷ ts) g e = let z : ⊥ = omega arith in absurd z
deal_seat (suc n) x ts g e =
    let first = no_holes n ts (λ ps. g (seat x ps 0)) ∙ sym (deal_last n ts (λ ps. g (Some x ∷ ps))) in
    let others =
    sum_below_same (suc n) _ _ (λ r. no_holes n ts (λ ps. g (seat x ps (suc r))))
    ∙ sum_below_picks (suc n) ts (λ r t rest. deal n rest 0 (λ ps. g (Some t ∷ seat x ps r)))
    ∙ picks_same ts _ (λ t rest. deal (suc n) (x ∷ rest) 0 (λ ps. g (Some t ∷ ps)))
    (λ t rest o. deal_seat n x rest (λ ps. g (Some t ∷ ps)) (omega (arith, off_length o, e))) in
    ap₂ ◌+◌ first others ∙ sym (no_holes (suc n) (x ∷ ts) g)

-- as many ways to deal all the places as orders
deal_all : (n : ℕ) (ts : List ℕ) (d c : ℕ) → length ts + d ≡ n → deal n ts d (λ ps. c) ≡ factorial n * c
deal_all zero ts d c e = sym (one-mul c)
deal_all (suc n) ts d c e =
    let holes =
    times_pred d (λ k. deal n ts k (λ ps. c)) (λ k. factorial n * c) (λ k q. deal_all n ts k c (omega (arith, e, q))) in
    let held =
    picks_same ts (λ t rest. deal n rest d (λ ps. c)) (λ t rest. factorial n * c)
    (λ t rest o. deal_all n rest d c (omega (arith, e, off_length o)))
    ∙ picks_const ts (factorial n * c) in
    ap₂ ◌+◌ holes held ∙ sym (add-mul d (length ts) (factorial n * c)) ∙ ap (λ k. k * (factorial n * c)) (add_comm d (length ts) ∙ e)
    ∙ sym (mul_assoc (suc n) (factorial n) c)

-- All the places are dealt, and the first l looked at: what is not looked at stands in any order.
pub deal_front_places :
    (l n rest : ℕ) (ts : List ℕ) (d : ℕ) (g : List Place → ℕ) → n ≡ l + rest → length ts + d ≡ n →
    deal n ts d (λ ps. g (take l ps)) ≡ factorial rest * deal l ts d g
deal_front_places zero n rest ts d g e f = deal_all n ts d (g []) f ∙ ap (λ k. factorial k * g []) (omega (arith, e))
deal_front_places (suc l) zero rest ts d g e f = let z : ⊥ = omega (arith, e) in absurd z
deal_front_places (suc l) (suc n) rest ts d g e f =
    let holes =
    times_pred d (λ k. deal n ts k (λ ps. g (None ∷ take l ps))) (λ k. factorial rest * deal l ts k (λ ps. g (None ∷ ps)))
    (λ k q. deal_front_places l n rest ts k (λ ps. g (None ∷ ps)) (omega (arith, e)) (omega (arith, f, q))) in
    let held =
    picks_same ts (λ t others. deal n others d (λ ps. g (Some t ∷ take l ps)))
    (λ t others. factorial rest * deal l others d (λ ps. g (Some t ∷ ps)))
    (λ t others o. deal_front_places l n rest others d (λ ps. g (Some t ∷ ps)) (omega (arith, e)) (omega (arith, f, off_length o)))
    ∙ picks_times ts (factorial rest) (λ t others. deal l others d (λ ps. g (Some t ∷ ps))) in
    ap₂ ◌+◌ (holes ∙ mul_left_comm d (factorial rest) (deal l ts (pred d) (λ ps. g (None ∷ ps)))) held
    ∙ sym (mul-add (factorial rest) _ _)

-- the deal of a sum
pub deal_sum :
    (k n : ℕ) (ts : List ℕ) (d : ℕ) (g : ℕ → List Place → ℕ) →
    deal n ts d (λ ps. sum_below k (λ r. g r ps)) ≡ sum_below k (λ r. deal n ts d (g r))
deal_sum zero n ts d g = deal_zero n ts d
deal_sum (suc k) n ts d g =
    deal_add n ts d (g 0) (λ ps. sum_below k (λ r. g (suc r) ps)) ∙ ap (λ x. deal n ts d (g 0) + x) (deal_sum k n ts d (λ r. g (suc r)))
