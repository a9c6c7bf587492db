-- The pile under a tape is the arrangement without a bound under that tape, seen through its first places.
use Rattle.std.proofs.Common.{◌≡◌, ℕ, zero, suc, ◌+◌, ◌<◌, ◌≤◌, Bool, true, false, ltb, ◌⊎◌, List, [], ◌∷◌, length, take, sym, refl, ap, ◌∙◌, ⊎_elim, add-one, arith}
use lib.Dec.{eqb-suc-zero}
use Rattle.std.proofs.lemmas.Bool.{lt-ltb}
use Rattle.std.proofs.lemmas.List.{take_all}
use Rattle.pile.specs.Answers.{Place}
use Rattle.pile.specs.Meaning.{Meaning, New}
use Rattle.pile.specs.Rules.{entry_rule, leave_when, leave_rule}
use Rattle.evenness.specs.Events.{Event, came, went, has, Tally, nothing_yet, tally_came, tally_went, tally_next, tally_after, radix_of, radices_after, May, PossibleAfter, Possible, radices}
use Rattle.evenness.specs.Tapes.{Tape, under, sample, Distinct}
use Rattle.evenness.proofs.Arrangements.{fill, vacate, seat, length_fill, length_vacate, length_seat, take_fill, take_vacate, put_in_hole, put_hole, drawn_seat, times_fill, times_seat, sample_vacate}
use Rattle.evenness.proofs.Picks.{off_length}
use Rattle.evenness.proofs.Tags.{times_on, times_without, has_off, not_on, off_distinct}

-- what a pile with the settings of m means, after a tally, if it sees the first of the places
abbrev pub seen : Meaning → Tally → List Place → Meaning
seen m t ps =
    record {
      bound = m.bound;
      counted = m.counted;
      leaves = m.leaves;
      live = length t.tags;
      unpaired = t.unpaired;
      places = take m.bound ps;
    }

abbrev with_counts : Meaning → (live unpaired : ℕ) → List Place → Meaning
with_counts m n d ps =
    record { bound = m.bound; counted = m.counted; leaves = m.leaves; live = n; unpaired = d; places = ps }

same_meaning :
    (m : Meaning) {n n' d d' : ℕ} {ps ps' : List Place} → n ≡ n' → d ≡ d' → ps ≡ ps' →
    with_counts m n d ps ≡ with_counts m n' d' ps'
same_meaning m p q r = λ i. with_counts m (p i) (q i) (r i)

-- the places, without a bound, after an entry and after a leave
abbrev pub came_places : (counted : Bool) (unpaired x : ℕ) → List Place → (draw : ℕ) → List Place
came_places false d x ps r = ps
came_places true zero x ps r = seat x ps r
came_places true (suc d) x ps r = fill x ps r

abbrev pub went_places : (counted : Bool) (x : ℕ) → List Place → List Place
went_places false x ps = ps
went_places true x ps = vacate x ps

entry_seen :
    (m : Meaning) (c : Bool) (ts : List ℕ) (d : ℕ) (ps : List Place) (tag class draw : ℕ) → m.counted class ≡ c →
    (c ≡ true → (0 < d) ⊎ (length ts < 1024)) → length ps ≡ length ts + d → draw < radix_of c d (length ts) →
    (entry_rule (seen m (record { tags = ts; unpaired = d }) ps) tag class draw).after
    ≡ seen m (tally_came c (record { tags = ts; unpaired = d }) tag) (came_places c d tag ps draw)
entry_seen m false ts d ps tag class draw q room e l = simp (q, lt-ltb draw 1 l)
entry_seen m true ts zero ps tag class draw q room e l =
    let few : length ts < 1024 = ⊎_elim (λ h. omega arith) (λ h. h) (room refl) in
    simp (q, lt-ltb (length ts) 1024 few, lt-ltb draw (length ts + 1) l)
    (same_meaning m (add-one (length ts)) refl (drawn_seat m.bound (length ts) tag ps draw (omega (arith, e)) (omega arith)))
entry_seen m true ts (suc d) ps tag class draw q room e l =
    simp (q, eqb-suc-zero d, lt-ltb draw (suc d) l)
    (same_meaning m (add-one (length ts)) (omega arith) (put_in_hole (take m.bound ps) draw tag ∙ sym (take_fill m.bound tag ps draw)))

leave_seen :
    (m : Meaning) (c : Bool) (ts : List ℕ) (d : ℕ) (ps : List Place) (tag class : ℕ) → m.counted class ≡ c →
    (c ≡ true → (has ts tag ≡ true) × (m.leaves ≡ true)) →
    (leave_rule (seen m (record { tags = ts; unpaired = d }) ps) tag class).after
    ≡ seen m (tally_went c (record { tags = ts; unpaired = d }) tag) (went_places c tag ps)
leave_seen m false ts d ps tag class q may = simp q
leave_seen m true ts d ps tag class q may =
    let fewer = off_length (has_off ts tag (may refl).0) in
    let before = seen m (record { tags = ts; unpaired = d }) ps in
    ap (λ b. (leave_when b m.leaves (ltb 0 (length ts)) before tag).after) q
    ∙ ap (λ b. (leave_when true b (ltb 0 (length ts)) before tag).after) (may refl).1
    ∙ ap (λ b. (leave_when true true b before tag).after) (lt-ltb 0 (length ts) (omega (arith, fewer)))
    ∙ (same_meaning m (omega (arith, fewer)) (add-one d) (put_hole (take m.bound ps) tag ∙ sym (take_vacate m.bound tag ps)))

-- the places are as many as the live tags and the unpaired leaves, and no tag stands more often than it is live
pub record Fits (t : Tally) (ps : List Place) : Type 0 where
  pub size : length ps ≡ length t.tags + t.unpaired
  pub times : (u : ℕ) → times_on (sample ps) u ≤ times_on t.tags u

fits_came :
    (c : Bool) (ts : List ℕ) (d tag draw : ℕ) (ps : List Place) → Fits (record { tags = ts; unpaired = d }) ps →
    Fits (tally_came c (record { tags = ts; unpaired = d }) tag) (came_places c d tag ps draw)
fits_came false ts d tag draw ps f = f
fits_came true ts zero tag draw ps f =
    record {
      size = omega (arith, length_seat tag ps draw, f.size);
      times = λ u. omega (arith, times_seat tag ps draw u, f.times u);
    }
fits_came true ts (suc d) tag draw ps f =
    record {
      size = omega (arith, length_fill tag ps draw, f.size);
      times = λ u. omega (arith, times_fill tag ps draw u, f.times u);
    }

fits_went :
    (c : Bool) (ts : List ℕ) (d tag : ℕ) (ps : List Place) → (c ≡ true → has ts tag ≡ true) →
    Fits (record { tags = ts; unpaired = d }) ps →
    Fits (tally_went c (record { tags = ts; unpaired = d }) tag) (went_places c tag ps)
fits_went false ts d tag ps on f = f
fits_went true ts d tag ps on f =
    record {
      size = omega (arith, length_vacate tag ps, f.size, off_length (has_off ts tag (on refl)));
      times =
          λ u.
          let stands = ap (λ us. times_on us u) (sample_vacate tag ps) ∙ times_without (sample ps) tag u in
          omega (arith, stands, times_without ts tag u, f.times u);
    }

-- the places, without a bound, after the events under a tape
abbrev pub arranged : Meaning → Tally → List Event → List Place → (tape : List ℕ) → List Place
arranged m t [] ps tape = ps
arranged m t (came tag class ∷ es) ps [] = ps
arranged m t (came tag class ∷ es) ps (draw ∷ tape) =
    arranged m (tally_next m t (came tag class)) es (came_places (m.counted class) t.unpaired tag ps draw) tape
arranged m t (went tag class ∷ es) ps tape =
    arranged m (tally_next m t (went tag class)) es (went_places (m.counted class) tag ps) tape

pub record Bridged (m : Meaning) (t : Tally) (es : List Event) (ps : List Place) (tape : List ℕ) : Type 0 where
  pub fits : Fits (tally_after m t es) (arranged m t es ps tape)
  pub same : under (seen m t ps) es tape ≡ seen m (tally_after m t es) (arranged m t es ps tape)

pub bridged :
    (m : Meaning) (t : Tally) (es : List Event) (ps : List Place) (tape : List ℕ) → PossibleAfter m t es → Fits t ps →
    Tape (radices_after m t es) tape → Bridged m t es ps tape
bridged m t [] ps tape may f draws = record { fits = f; same = refl }
bridged m t (came tag class ∷ es) ps [] may f draws = absurd draws
bridged m t (came tag class ∷ es) ps (draw ∷ tape) may f draws =
    let c = m.counted class in
    let on =
    bridged m (tally_came c t tag) es (came_places c t.unpaired tag ps draw) tape may.1
    (fits_came c t.tags t.unpaired tag draw ps f) draws.1 in
    record {
      fits = on.fits;
      same =
          ap (λ m'. under m' es tape)
          (entry_seen m c t.tags t.unpaired ps tag class draw refl (λ h. (may.0 h).1) f.size draws.0)
          ∙ on.same;
    }
bridged m t (went tag class ∷ es) ps tape may f draws =
    let c = m.counted class in
    let on =
    bridged m (tally_went c t tag) es (went_places c tag ps) tape may.1
    (fits_went c t.tags t.unpaired tag ps (λ h. (may.0 h).0) f) draws in
    record {
      fits = on.fits;
      same = ap (λ m'. under m' es tape) (leave_seen m c t.tags t.unpaired ps tag class refl may.0) ∙ on.same;
    }

-- a new pile has seen nothing
pub new_seen : (m : Meaning) → New m → m ≡ seen m nothing_yet []
new_seen m new = same_meaning m new.none_live new.none_unpaired (new.no_places ∙ sym (take_all m.bound [] (omega arith)))

pub under_new :
    (m : Meaning) (es : List Event) (tape : List ℕ) → New m → Possible m es → Tape (radices m es) tape →
    Fits (tally_after m nothing_yet es) (arranged m nothing_yet es [] tape)
    × (under m es tape ≡ seen m (tally_after m nothing_yet es) (arranged m nothing_yet es [] tape))
under_new m es tape new may draws =
    let on = bridged m nothing_yet es [] tape may (record { size = refl; times = λ u. omega arith }) draws in
    (on.fits, ap (λ m'. under m' es tape) (new_seen m new) ∙ on.same)

-- the live tags are distinct
pub next_distinct : (m : Meaning) (t : Tally) (e : Event) → May m t e → Distinct t.tags → Distinct (tally_next m t e).tags
next_distinct m t (came tag class) may d = go (m.counted class) (λ h. (may h).0)
  where
    go : (c : Bool) → (c ≡ true → has t.tags tag ≡ false) → Distinct (tally_came c t tag).tags
    go false off = d
    go true off = (not_on t.tags tag (off refl), d)
next_distinct m t (went tag class) may d = go (m.counted class) (λ h. (may h).0)
  where
    go : (c : Bool) → (c ≡ true → has t.tags tag ≡ true) → Distinct (tally_went c t tag).tags
    go false on = d
    go true on = (off_distinct (has_off t.tags tag (on refl)) d).1

pub after_distinct : (m : Meaning) (t : Tally) (es : List Event) → PossibleAfter m t es → Distinct t.tags → Distinct (tally_after m t es).tags
after_distinct m t [] may d = d
after_distinct m t (e ∷ es) may d = after_distinct m (tally_next m t e) es may.1 (next_distinct m t e may.0 d)
