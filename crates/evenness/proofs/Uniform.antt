-- The general identity: over all tapes, every function of the places has its mean over all ways to deal them.
use Rattle.std.proofs.Common.{◌≡◌, ℕ, zero, suc, ◌+◌, ◌-◌, ◌*◌, ◌<◌, min, Bool, true, false, List, [], ◌∷◌, length, take, sym, refl, ap, ◌∙◌, ap₂, add-zero, mul_assoc, mul_comm, one-mul, mul-one, mul_right_comm, mul_left_comm, arith}
use mathlib.Core.Path.{fun_ext}
use native.Mathlib.Nat.{zero-min, min-zero, suc-min-suc, eq_of_mul-eq-mul_right}
use Rattle.pile.specs.Answers.{Place}
use Rattle.pile.specs.Meaning.{Meaning, New}
use Rattle.evenness.specs.Counting.{factorial, falling, product}
use Rattle.evenness.specs.Events.{Event, came, went, has, without, Tally, nothing_yet, tally_came, tally_went, tally_after, radix_of, radices_after, PossibleAfter, Possible, live_tags, live_count, unpaired_count, place_count, radices}
use Rattle.evenness.specs.Tapes.{tapes, Tape, under, Distinct, tape_count}
use Rattle.evenness.proofs.Arrangements.{fill, vacate, seat}
use Rattle.evenness.proofs.Bridge.{came_places, went_places, arranged, under_new, next_distinct}
use Rattle.evenness.proofs.Choose.{factorial_above_zero, falling_factorial}
use Rattle.evenness.proofs.Deals.{deal, deal_same, deal_front, deal_fill, deal_vacate, deal_seat, deal_front_places, deal_sum}
use Rattle.evenness.proofs.Picks.{off_length}
use Rattle.evenness.proofs.Tags.{has_off, off_distinct}
use Rattle.evenness.proofs.Totals.{sum_below, total, total_same, total_tapes, all_tapes, length_tapes}

-- how many tags and holes there are to deal, and the deal of all of them
abbrev things : Tally → ℕ
things t = length t.tags + t.unpaired

abbrev whole : Tally → (List Place → ℕ) → ℕ
whole t h = deal (things t) t.tags t.unpaired h

abbrev with_tags : List ℕ → ℕ → Tally
with_tags ts d = record { tags = ts; unpaired = d }

-- one entry: all places dealt before it, with each of its draws, are all places dealt after it
deal_came :
    (c : Bool) (ts : List ℕ) (d tag : ℕ) (h : List Place → ℕ) →
    whole (with_tags ts d) (λ ps. sum_below (radix_of c d (length ts)) (λ draw. h (came_places c d tag ps draw)))
    * factorial (things (tally_came c (with_tags ts d) tag))
    ≡ radix_of c d (length ts) * factorial (things (with_tags ts d)) * whole (tally_came c (with_tags ts d) tag) h
deal_came false ts d tag h =
    ap (λ g. whole (with_tags ts d) g * factorial (length ts + d)) (fun_ext (λ ps. add-zero (h ps)))
    ∙ mul_comm _ _ ∙ ap (λ k. k * whole (with_tags ts d) h) (sym (one-mul (factorial (length ts + d))))
deal_came true ts zero tag h =
    let n = length ts + 0 in
    let draws : length ts + 1 ≡ suc n = omega arith in
    let more : suc n ≡ suc (length ts) + 0 = omega arith in
    let dealt =
    deal_sum (length ts + 1) n ts 0 (λ draw ps. h (seat tag ps draw))
    ∙ ap (λ k. sum_below k (λ draw. deal n ts 0 (λ ps. h (seat tag ps draw)))) draws
    ∙ deal_seat n tag ts h (omega arith)
    ∙ ap (λ k. deal k (tag ∷ ts) 0 h) more in
    let orders : factorial (suc (length ts) + 0) ≡ (length ts + 1) * factorial n =
    ap factorial (sym more) ∙ ap (λ k. k * factorial n) (sym draws) in
    ap₂ ◌*◌ dealt orders ∙ mul_comm _ _
deal_came true ts (suc d) tag h =
    let n = length ts + suc d in
    let same : n ≡ suc (length ts) + d = omega arith in
    let dealt =
    deal_sum (suc d) n ts (suc d) (λ draw ps. h (fill tag ps draw)) ∙ deal_fill n tag ts (suc d) h
    ∙ ap (λ k. suc d * deal k (tag ∷ ts) d h) same in
    ap₂ ◌*◌ dealt (ap factorial (sym same)) ∙ mul_right_comm _ _ _

-- one leave: all places dealt before it are all places dealt after it
went_things : (c : Bool) (ts : List ℕ) (d tag : ℕ) → (c ≡ true → has ts tag ≡ true) → things (with_tags ts d) ≡ things (tally_went c (with_tags ts d) tag)
went_things false ts d tag on = refl
went_things true ts d tag on = omega (arith, off_length (has_off ts tag (on refl)))

deal_went :
    (c : Bool) (ts : List ℕ) (d tag : ℕ) (h : List Place → ℕ) → (c ≡ true → has ts tag ≡ true) → Distinct ts →
    whole (with_tags ts d) (λ ps. h (went_places c tag ps)) ≡ whole (tally_went c (with_tags ts d) tag) h
deal_went false ts d tag h on apart = refl
deal_went true ts d tag h on apart =
    let off = has_off ts tag (on refl) in
    let n = length ts + d in
    deal_front n tag ts (without ts tag) d (λ ps. h (vacate tag ps)) off
    ∙ deal_vacate n tag (without ts tag) d h (off_distinct off apart).0
    ∙ ap (λ k. deal k (without ts tag) (suc d) h) (went_things true ts d tag on)

-- the sum of h, over all tapes, of the places after the events
abbrev over_tapes : Meaning → Tally → List Event → (List Place → ℕ) → List Place → ℕ
over_tapes m t es h ps = total (λ tape. h (arranged m t es ps tape)) (tapes (radices_after m t es))

chain : (a f f₁ f₂ r w p x : ℕ) → 0 < f₁ → a * f₁ ≡ r * f * w → w * f₂ ≡ p * f₁ * x → a * f₂ ≡ r * p * f * x
chain a f f₁ f₂ r w p x pos one two =
    eq_of_mul-eq-mul_right f₁ pos (a * f₂) (r * p * f * x)
    (mul_right_comm a f₂ f₁ ∙ ap (λ k. k * f₂) one ∙ mul_assoc (r * f) w f₂ ∙ ap (λ k. r * f * k) two
    ∙ simp (mul_assoc, mul_left_comm, mul_comm))

-- all places dealt, and then all tapes, are all places dealt after the events
uniform :
    (m : Meaning) (t : Tally) (es : List Event) (h : List Place → ℕ) → PossibleAfter m t es → Distinct t.tags →
    whole t (over_tapes m t es h) * factorial (things (tally_after m t es))
    ≡ product (radices_after m t es) * factorial (things t) * whole (tally_after m t es) h
uniform m t [] h may apart = deal_came false t.tags t.unpaired 0 h
uniform m t (came tag class ∷ es) h may apart =
    let c = m.counted class in
    let next = tally_came c t tag in
    let radix = radix_of c t.unpaired (length t.tags) in
    ap (λ g. whole t g * factorial (things (tally_after m next es)))
    (fun_ext
    (λ ps. total_tapes (λ tape. h (arranged m t (came tag class ∷ es) ps tape)) radix (radices_after m next es)))
    ∙ chain _ (factorial (things t)) (factorial (things next)) _ radix (whole next (over_tapes m next es h)) _ _
    (factorial_above_zero (things next))
    (deal_came c t.tags t.unpaired tag (over_tapes m next es h))
    (uniform m next es h may.1 (next_distinct m t (came tag class) may.0 apart))
uniform m t (went tag class ∷ es) h may apart =
    let c = m.counted class in
    let next = tally_went c t tag in
    let on = λ (q : c ≡ true). (may.0 q).0 in
    ap (λ k. k * factorial (things (tally_after m next es))) (deal_went c t.tags t.unpaired tag (over_tapes m next es h) on apart)
    ∙ uniform m next es h may.1 (next_distinct m t (went tag class) may.0 apart)
    ∙ ap (λ k. product (radices_after m next es) * factorial k * whole (tally_after m next es) h) (sym (went_things c t.tags t.unpaired tag on))

take_min : (k : ℕ) (ps : List Place) → take k ps ≡ take (min k (length ps)) ps
take_min zero ps = ap (λ k. take k ps) (sym (zero-min (length ps)))
take_min (suc k) [] = ap (λ k. take k []) (sym (min-zero (suc k)))
take_min (suc k) (p ∷ ps) =
    ap {B = List Place} (λ qs. p ∷ qs) (take_min k ps) ∙ ap (λ k. take k (p ∷ ps)) (sym (suc-min-suc k (length ps)))

-- a factor that both sides have
pub cancel : (s f r p x : ℕ) → 0 < r → s * (f * r) ≡ p * (r * x) → s * f ≡ p * x
cancel s f r p x pos e =
    eq_of_mul-eq-mul_right r pos (s * f) (p * x) (mul_assoc s f r ∙ e ∙ simp (mul_assoc, mul_left_comm, mul_comm))

-- Over all tapes, a function of the places sums to its share of all ways to deal them.
pub general :
    (m : Meaning) (es : List Event) (g : List Place → ℕ) → New m → Possible m es →
    total (λ tape. g (under m es tape).places) (tapes (radices m es))
    * falling (live_count m es + unpaired_count m es) (place_count m es)
    ≡ tape_count m es * deal (place_count m es) (live_tags m es) (unpaired_count m es) g
general m es g new may =
    let t = tally_after m nothing_yet es in
    let n = things t in
    let l = place_count m es in
    let rest = n - l in
    let split : n ≡ l + rest = omega arith in
    let h = λ (ps : List Place). g (take m.bound ps) in
    let seen-through =
    total_same (Tape (radices m es)) (λ tape. g (under m es tape).places) (λ tape. h (arranged m nothing_yet es [] tape))
    (λ tape draws. ap (λ m'. g m'.places) (under_new m es tape new may draws).1)
    (tapes (radices m es)) (all_tapes (radices m es)) in
    let front =
    deal_same n t.tags t.unpaired h (λ ps. g (take l ps))
    (λ ps e. ap g (take_min m.bound ps ∙ ap (λ k. take (min m.bound k) ps) e))
    ∙ deal_front_places l n rest t.tags t.unpaired g split refl in
    cancel _ (falling n l) (factorial rest) _ _ (factorial_above_zero rest)
    (ap₂ ◌*◌ seen-through (falling_factorial n l rest split) ∙ uniform m nothing_yet es h may tt
    ∙ ap₂ ◌*◌ (mul-one (product (radices m es)) ∙ sym (length_tapes (radices m es))) front)
