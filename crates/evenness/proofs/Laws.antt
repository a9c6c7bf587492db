-- The laws, from the general identity.
use Rattle.std.proofs.Common.{◌≡◌, ℕ, zero, suc, ◌+◌, ◌*◌, ◌<◌, ◌≤◌, min, Bool, true, false, cond, List, [], ◌∷◌, length, take, sym, refl, ap, ◌∙◌, subst, ap₂, ⊎_elim, mul-pos, arith, length-take}
use native.Mathlib.Nat.{eq_of_mul-eq-mul_right}
use Rattle.std.proofs.lemmas.Bool.{and_from, and_left, lt-ltb, both_ways, cases_Bool, eq-eqb}
use Rattle.pile.specs.Meaning.{Meaning, New}
use Rattle.evenness.specs.Counting.{choose, choose_less, factorial, product}
use Rattle.evenness.specs.Events.{Event, came, went, has, Tally, nothing_yet, tally_next, radix_of, radices_after, Possible, live_tags, live_count, unpaired_count, place_count, radices}
use Rattle.evenness.specs.Laws.{Shares, EqualShares, NoOthers, Reached}
use Rattle.evenness.specs.Tapes.{tapes, Tape, under, sample, has_all, hold, tape_count, sample_count}
use Rattle.evenness.proofs.Arrangements.{times_take}
use Rattle.evenness.proofs.Bridge.{arranged, under_new, after_distinct}
use Rattle.evenness.proofs.Choose.{factorial_above_zero, choose_falling, choose_above_zero}
use Rattle.evenness.proofs.Samples.{deal_hold}
use Rattle.evenness.proofs.Tags.{times_on, has_times, distinct_times, times_distinct, has_all_has}
use Rattle.evenness.proofs.Totals.{sum_by_total, total_same, total_zero, all_tapes, length_tapes}
use Rattle.evenness.proofs.Uniform.{cancel, general}

pub shares : (m : Meaning) (es : List Event) → New m → Possible m es → Shares m es
shares m es new may set of =
    let n = live_count m es + unpaired_count m es in
    let l = place_count m es in
    cancel _ (choose n l) (factorial l) _ _ (factorial_above_zero l)
    (ap₂ ◌*◌ (sum_by_total (λ tape. cond (hold (under m es tape).places set) 1 0) (tapes (radices m es))) (choose_falling n l)
    ∙ general m es (λ ps. cond (hold ps set) 1 0) new may
    ∙ ap (λ k. tape_count m es * k)
    (deal_hold l (live_tags m es) (unpaired_count m es) set (after_distinct m nothing_yet es may tt) of.distinct of.among))

pub some_choice : (m : Meaning) (es : List Event) → 0 < choose (live_count m es + unpaired_count m es) (place_count m es)
some_choice m es = choose_above_zero (live_count m es + unpaired_count m es) (place_count m es) (omega arith)

pub equal_shares : (m : Meaning) (es : List Event) → New m → Possible m es → EqualShares m es
equal_shares m es new may set other of of' same =
    eq_of_mul-eq-mul_right _ (some_choice m es) (sample_count m es set) (sample_count m es other)
    (shares m es new may set of
    ∙ ap (λ a. tape_count m es * choose_less (unpaired_count m es) (place_count m es) a) same
    ∙ sym (shares m es new may other of'))

radices_above_zero : (m : Meaning) (t : Tally) (es : List Event) → 0 < product (radices_after m t es)
radices_above_zero m t [] = omega arith
radices_above_zero m t (came tag class ∷ es) =
    mul-pos (one (m.counted class) t.unpaired (length t.tags)) (radices_above_zero m (tally_next m t (came tag class)) es)
  where
    one : (c : Bool) (d n : ℕ) → 0 < radix_of c d n
    one false d n = omega arith
    one true zero n = omega arith
    one true (suc d) n = omega arith
radices_above_zero m t (went tag class ∷ es) = radices_above_zero m (tally_next m t (went tag class)) es

pub some_tape : (m : Meaning) (es : List Event) → 0 < tape_count m es
some_tape m es = subst (λ (k : ℕ). 0 < k) (sym (length_tapes (radices m es))) (radices_above_zero m nothing_yet es)

-- tags that stand no more often than they are live are live, each standing once
among_live : (ts us : List ℕ) → ((u : ℕ) → times_on us u ≤ times_on ts u) → has_all ts us ≡ true
among_live ts [] h = refl
among_live ts (u ∷ us) h =
    let once : 0 < times_on (u ∷ us) u = omega (arith, ap (λ b. cond b 1 0 + times_on us u) (eq-eqb u u refl)) in
    and_from (has ts u) (has_all ts us) (has_times ts u ∙ lt-ltb 0 (times_on ts u) (omega (arith, once, h u)))
    (among_live ts us (λ v. omega (arith, h v)))

pub under_every_tape :
    (m : Meaning) (es : List Event) (tape : List ℕ) → New m → Possible m es → Tape (radices m es) tape →
    Reached m es (under m es tape)
under_every_tape m es tape new may draws =
    let on = under_new m es tape new may draws in
    let ps = arranged m nothing_yet es [] tape in
    let shown = sample (take m.bound ps) in
    let live = live_tags m es in
    let stands : (u : ℕ) → times_on shown u ≤ times_on live u = λ u. omega (arith, times_take m.bound ps u, on.0.times u) in
    let once = distinct_times live (after_distinct m nothing_yet es may tt) in
    subst (Reached m es) (sym on.1)
    (record {
      live = refl;
      unpaired = refl;
      as_many_places = length-take m.bound ps ∙ ap (min m.bound) on.0.size;
      standing =
          record {
            distinct = times_distinct shown (λ u. omega (arith, stands u, once u));
            among = among_live live shown stands;
          };
    })

pub no_others : (m : Meaning) (es : List Event) → New m → Possible m es → NoOthers m es
no_others m es new may set tag on off =
    sum_by_total (λ tape. cond (hold (under m es tape).places set) 1 0) (tapes (radices m es))
    ∙ total_same (Tape (radices m es)) (λ tape. cond (hold (under m es tape).places set) 1 0) (λ tape. 0)
    (λ tape draws. ap (λ b. cond b 1 0) (not_held tape draws))
    (tapes (radices m es)) (all_tapes (radices m es))
    ∙ total_zero (tapes (radices m es))
  where
    not_held : (tape : List ℕ) → Tape (radices m es) tape → hold (under m es tape).places set ≡ false
    not_held tape draws =
        let ps = (under m es tape).places in
        let live = (under_every_tape m es tape new may draws).standing.among in
        and_left (has_all (sample ps) set) (has_all set (sample ps))
        (⊎_elim
        (λ held. absurd (both_ways _ off (has_all_has (live_tags m es) (sample ps) tag live (has_all_has (sample ps) set tag held on))))
        (λ none. none) (cases_Bool (has_all (sample ps) set)))
