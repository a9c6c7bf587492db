-- How many ways there are to deal places that hold exactly a given set.
use Rattle.std.proofs.Common.{◌≡◌, ℕ, zero, suc, pred, ◌+◌, ◌*◌, Bool, true, false, cond, ◌&&◌, List, [], ◌∷◌, length, sym, refl, ap, ◌∙◌, ap₂, mul_assoc, add-mul, one-mul, zero-mul, mul-add, mul_left_comm, arith}
use mathlib.Core.Path.{fun_ext}
use Rattle.std.specs.List.{AllByRecursion}
use Rattle.std.proofs.lemmas.Bool.{and_right}
use Rattle.pile.specs.Answers.{Place}
use Rattle.evenness.specs.Counting.{factorial, choose_less}
use Rattle.evenness.specs.Events.{has, without}
use Rattle.evenness.specs.Tapes.{sample, has_all, hold, Distinct}
use Rattle.evenness.proofs.Choose.{choose_less_none, choose_less_more}
use Rattle.evenness.proofs.Deals.{deal, deal_zero}
use Rattle.evenness.proofs.Picks.{picks, Off, off_length, off_all, picks_same}
use Rattle.evenness.proofs.Tags.{all_any, all_two, count, off_count, off_distinct, has_off, has_without, has_all_off, count_has}

picks_count : (ts : List ℕ) (p : ℕ → Bool) (c : ℕ) → picks ts (λ t rest. cond (p t) c 0) ≡ count p ts * c
picks_count [] p c = sym (zero-mul c)
picks_count (t ∷ ts) p c = go (p t) (picks_count ts p c)
  where
    go : (b : Bool) → picks ts (λ t rest. cond (p t) c 0) ≡ count p ts * c → cond b c 0 + picks ts (λ t rest. cond (p t) c 0) ≡ (cond b 1 0 + count p ts) * c
    go true h = ap₂ ◌+◌ (sym (one-mul c)) h ∙ sym (add-mul 1 (count p ts) c)
    go false h = ap₂ ◌+◌ (sym (zero-mul c)) h ∙ sym (add-mul 0 (count p ts) c)

-- whether the places hold all that is still to come, and nothing but tags of the set
abbrev still : (ps : List Place) (set to_come : List ℕ) → ℕ
still ps set to_come = cond (has_all (sample ps) to_come && has_all set (sample ps)) 1 0

gather : (f d x a y s z : ℕ) → d * x + a * y ≡ s * z → d * (f * x) + a * (f * y) ≡ s * f * z
gather f d x a y s z h =
    ap₂ ◌+◌ (mul_left_comm d f x) (mul_left_comm a f y) ∙ sym (mul-add f (d * x) (a * y)) ∙ ap (λ k. f * k) h
    ∙ mul_left_comm f s z ∙ sym (mul_assoc s f z)

deal_still :
    (n : ℕ) (ts : List ℕ) (d : ℕ) (set to_come : List ℕ) → Distinct ts → Distinct to_come →
    AllByRecursion (λ t. has set t ≡ true → has to_come t ≡ true) ts → count (has set) ts ≡ length to_come →
    deal n ts d (λ ps. still ps set to_come) ≡ factorial n * choose_less d n (length to_come)
deal_still zero ts d set [] dt dc all e = refl
deal_still zero ts d set (u ∷ us) dt dc all e = simp choose_less_none
deal_still (suc n) ts d set to_come dt dc all e =
    let fewer = factorial n * choose_less d n (pred (length to_come)) in
    let each =
    λ (t : ℕ) (rest : List ℕ) (o : Off t ts rest).
    let apart = off_distinct o dt in
    let left = off_all (λ u. has set u ≡ true → has to_come u ≡ true) o all in
    let go : (b : Bool) → has set t ≡ b → deal n rest d (λ ps. cond (has_all (t ∷ sample ps) to_come && (b && has_all set (sample ps))) 1 0) ≡ cond b fewer 0 =
    elim [
      | true ↦
          λ q.
          let off = has_off to_come t (left.0 q) in
          ap (deal n rest d)
          (fun_ext (λ ps. ap (λ b. cond (b && has_all set (sample ps)) 1 0) (has_all_off (sample ps) t off dc)))
          ∙ deal_still n rest d set (without to_come t) apart.1 (off_distinct off dc).1
          (all_two (λ u. u ≡ t → ⊥) (λ u. has set u ≡ true → has to_come u ≡ true) (λ u. has set u ≡ true → has (without to_come t) u ≡ true) (λ u ne h k. has_without to_come t u ne ∙ h k) rest apart.0 left.1)
          (omega (arith, off_count (has set) o ∙ ap (λ b. cond b 1 0 + count (has set) rest) q, e, off_length off))
          ∙ ap (λ k. factorial n * choose_less d n k) (omega (arith, off_length off))
      | false ↦
          λ q. ap (deal n rest d) (fun_ext (λ ps. ap (λ b. cond b 1 0) (and_right (has_all (t ∷ sample ps) to_come) false refl))) ∙ deal_zero n rest d
    ] in
    go (has set t) refl in
    let held =
    picks_same ts _ (λ t rest. cond (has set t) fewer 0) each ∙ picks_count ts (has set) fewer ∙ ap (λ k. k * fewer) e in
    ap₂ (λ x y. d * x + y) (deal_still n ts (pred d) set to_come dt dc all e) held
    ∙ gather (factorial n) d _ (length to_come) _ (suc n) _ (choose_less_more d n (length to_come))

pub deal_hold :
    (n : ℕ) (ts : List ℕ) (d : ℕ) (set : List ℕ) → Distinct ts → Distinct set → has_all ts set ≡ true →
    deal n ts d (λ ps. cond (hold ps set) 1 0) ≡ factorial n * choose_less d n (length set)
deal_hold n ts d set dt ds among =
    deal_still n ts d set set dt ds (all_any (λ t. has set t ≡ true → has set t ≡ true) (λ t h. h) ts) (count_has ts set dt ds among)
