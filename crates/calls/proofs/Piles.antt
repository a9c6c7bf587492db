-- What one entry and one leave answer, and what they do to the pile's counts, whatever stands on its places.
use Rattle.std.proofs.Common.{◌≡◌, ℕ, zero, suc, pred, ◌+◌, ◌-◌, ◌<◌, min, Bool, true, false, eqb, ltb, ◌⊎◌, List, [], ◌∷◌, length, get_or, set, Some, None, Option, sym, refl, ap, ◌∙◌, subst, inl, inr, add-one, arith, length-append, length-set}
use lib.Dec.{eqb-suc-zero}
use Rattle.std.proofs.lemmas.Bool.{lt-ltb, ltb-true, ltb-false, eqb-true, eqb-false, false≢true}
use Rattle.pile.specs.declared.receipts.EntryReceipt.{EntryReceipt}
use Rattle.pile.specs.Answers.{Told, refused, told, Place}
use Rattle.pile.specs.Meaning.{Meaning, New}
use Rattle.pile.specs.Rules.{radix_when, radix_rule, drawn_place, drawn_places, hole_place, tag_place, receipt, entry_counted, entry_drawn, entry_asked, entry_rule, leave_when, leave_rule}
use Rattle.pile.proofs.Soundness.{length_put}
use Rattle.evenness.specs.Events.{has, without, Tally, tally_came, tally_went, radix_of}
use Rattle.evenness.proofs.Picks.{off_length}
use Rattle.evenness.proofs.Tags.{has_off}

-- a pile with the settings of m, the counts of the tally, and these places
abbrev pub shown : Meaning → Tally → List Place → Meaning
shown m t ps =
    record {
      bound = m.bound;
      counted = m.counted;
      leaves = m.leaves;
      live = length t.tags;
      unpaired = t.unpaired;
      places = ps;
    }

pub same_told : {A : Type 0} (a b : A) → ◌≡◌ {A = Told A} (told a) (told b) → a ≡ b
same_told a b e = cc

pub not_refused : {A : Type 0} (a : A) (k : ℕ) → ◌≡◌ {A = Told A} (refused k) (told a) → ⊥
not_refused a k e = let z : ◌≡◌ {A = ℕ} 0 1 = cc in omega arith

-- a radix that is called for is the one of the rule; a counted entry finds an unpaired leave, or room
pub record Called (counted : Bool) (unpaired live radix : ℕ) : Type 0 where
  pub is : radix ≡ radix_of counted unpaired live
  pub room : counted ≡ true → (0 < unpaired) ⊎ (live < 1024)

pub radix_called :
    (m : Meaning) (class radix : ℕ) → radix_rule m class ≡ told radix → Called (m.counted class) m.unpaired m.live radix
radix_called m class radix e = by (m.counted class) m.unpaired (ltb m.live 1024) refl refl e
  where
    by :
        (k : Bool) (d : ℕ) (r : Bool) → m.unpaired ≡ d → ltb m.live 1024 ≡ r → radix_when k (eqb d 0) r m ≡ told radix →
        Called k d m.live radix
    by false d r q l e = record { is = same_told radix 1 (sym e); room = λ h. absurd (false≢true h) }
    by true zero true q l e =
        record { is = same_told radix (m.live + 1) (sym e); room = λ h. inr (ltb-true m.live 1024 l) }
    by true zero false q l e = absurd (not_refused radix 10 e)
    by true (suc d) r q l e =
        record {
          is = same_told radix (suc d) (sym e ∙ ap (λ p. radix_when true p r m) (eqb-suc-zero d) ∙ ap told q);
          room = λ h. inl (omega arith);
        }

-- what the receipt of an entry says, if there is one: the radix that was called for, and the draw
abbrev pub Says : (called : Told ℕ) (draw : ℕ) → Told EntryReceipt → Type 0
Says called draw (refused number) = Unit {0}
Says called draw (told receipt) = (called ≡ told receipt.radix) × (receipt.draw ≡ draw)

pub entry_says :
    (m : Meaning) (tag class draw : ℕ) (called : Told ℕ) → Says called draw (entry_asked called m tag class draw).answer
entry_says m tag class draw (refused number) = tt
entry_says m tag class draw (told radix) = by (ltb draw radix) (m.counted class)
  where
    counted_by : (paired : Bool) → Says (told radix) draw (entry_counted paired m radix tag draw).answer
    counted_by true = (refl, refl)
    counted_by false = (refl, refl)

    by : (below counted : Bool) → Says (told radix) draw (entry_drawn below counted m radix tag draw).answer
    by false counted = tt
    by true false = (refl, refl)
    by true true = counted_by (eqb m.unpaired 0)

-- an entry whose radix was called for, with a draw below it, is not refused
pub entry_told :
    (m : Meaning) (tag class draw radix : ℕ) → radix_rule m class ≡ told radix → draw < radix →
    (place : Option ℕ) × ((entry_rule m tag class draw).answer ≡ told (receipt radix draw place))
entry_told m tag class draw radix e l =
    let drawn = by (m.counted class) in (
      drawn.0,
      ap (λ called. (entry_asked called m tag class draw).answer) e
          ∙ ap (λ below. (entry_drawn below (m.counted class) m radix tag draw).answer) (lt-ltb draw radix l) ∙ drawn.1,
    )
  where
    counted_by : (paired : Bool) → (place : Option ℕ) × ((entry_counted paired m radix tag draw).answer ≡ told (receipt radix draw place))
    counted_by true = (drawn_place (ltb draw m.bound) draw, refl)
    counted_by false = (hole_place m.places draw, refl)

    by : (counted : Bool) → (place : Option ℕ) × ((entry_drawn true counted m radix tag draw).answer ≡ told (receipt radix draw place))
    by false = (None, refl)
    by true = counted_by (eqb m.unpaired 0)

-- a leave that the pile takes is not refused
pub leave_told :
    (m : Meaning) (tag class : ℕ) → (m.counted class ≡ true → (m.leaves ≡ true) × (0 < m.live)) →
    (place : Option ℕ) × ((leave_rule m tag class).answer ≡ told (record { place = place }))
leave_told m tag class takes = by (m.counted class) refl
  where
    by :
        (counted : Bool) → m.counted class ≡ counted →
        (place : Option ℕ) × ((leave_when counted m.leaves (ltb 0 m.live) m tag).answer ≡ told (record { place = place }))
    by false k = (None, refl)
    by true k = (
      tag_place m.places tag,
      ap (λ leaves. (leave_when true leaves (ltb 0 m.live) m tag).answer) (takes k).0
          ∙ ap (λ some. (leave_when true true some m tag).answer) (lt-ltb 0 m.live (takes k).1),
    )

-- the counts after an entry and after a leave
with_counts : Meaning → (live unpaired : ℕ) → List Place → Meaning
with_counts m n d ps =
    record { bound = m.bound; counted = m.counted; leaves = m.leaves; live = n; unpaired = d; places = ps }

same_counts : (m : Meaning) (ps : List Place) {n n' d d' : ℕ} → n ≡ n' → d ≡ d' → with_counts m n d ps ≡ with_counts m n' d' ps
same_counts m ps p q = λ i. with_counts m (p i) (q i) ps

module _ (m : Meaning) (t : Tally) (ps : List Place) (tag class : ℕ) where
  pub entry_after :
      (draw radix : ℕ) → radix_rule (shown m t ps) class ≡ told radix → draw < radix →
      (entry_rule (shown m t ps) tag class draw).after
      ≡ shown m (tally_came (m.counted class) t tag) (entry_rule (shown m t ps) tag class draw).after.places
  unfolding with_counts
  entry_after draw radix e l =
      subst (λ (called : Told ℕ). Came (m.counted class) (entry_asked called (shown m t ps) tag class draw).after) (sym e)
      (subst (λ (below : Bool). Came (m.counted class) (entry_drawn below (m.counted class) (shown m t ps) radix tag draw).after) (sym (lt-ltb draw radix l))
      (by (m.counted class)))
    where
      Came : Bool → Meaning → Type 0
      Came counted after = after ≡ shown m (tally_came counted t tag) after.places

      counted_by : (paired : Bool) → eqb t.unpaired 0 ≡ paired → Came true (entry_counted paired (shown m t ps) radix tag draw).after
      counted_by true q =
          let none = eqb-true t.unpaired 0 q in
          let counts : t.unpaired ≡ pred t.unpaired = omega arith in
          same_counts m _ (add-one (length t.tags)) counts
      counted_by false q =
          let counts : t.unpaired - 1 ≡ pred t.unpaired = omega arith in same_counts m _ (add-one (length t.tags)) counts

      by : (counted : Bool) → Came counted (entry_drawn true counted (shown m t ps) radix tag draw).after
      by false = refl
      by true = counted_by (eqb t.unpaired 0) refl

  pub leave_after :
      (m.counted class ≡ true → (has t.tags tag ≡ true) × (m.leaves ≡ true)) →
      (leave_rule (shown m t ps) tag class).after
      ≡ shown m (tally_went (m.counted class) t tag) (leave_rule (shown m t ps) tag class).after.places
  unfolding with_counts
  leave_after may = by (m.counted class) refl
    where
      Went : Bool → Meaning → Type 0
      Went counted after = after ≡ shown m (tally_went counted t tag) after.places

      by : (counted : Bool) → m.counted class ≡ counted → Went counted (leave_when counted m.leaves (ltb 0 (length t.tags)) (shown m t ps) tag).after
      by false k = refl
      by true k =
          let fewer = off_length (has_off t.tags tag (may k).0) in
          let counts : length t.tags - 1 ≡ length (without t.tags tag) = omega arith in
          subst (λ (l : Bool). Went true (leave_when true l (ltb 0 (length t.tags)) (shown m t ps) tag).after) (sym (may k).1)
          (subst (λ (n : Bool). Went true (leave_when true true n (shown m t ps) tag).after) (sym (lt-ltb 0 (length t.tags) (omega arith)))
          (same_counts m _ counts (add-one t.unpaired)))

-- There are L places, and every entry and every leave keeps it so.
abbrev pub Full : Meaning → Type 0
Full m = length m.places ≡ min m.bound (m.live + m.unpaired)

pub new_full : (m : Meaning) → New m → Full m
new_full m new = let none = ap length new.no_places in omega (arith, none, new.none_live, new.none_unpaired)

drawn_length :
    (within among room : Bool) (ps : List Place) (bound live tag draw : ℕ) → ltb draw bound ≡ within → ltb draw live ≡ among →
    ltb live bound ≡ room → draw < live + 1 → length ps ≡ min bound live → length (drawn_places within among room ps tag draw) ≡ min bound (live + 1)
drawn_length false among room ps bound live tag draw w a r l e = let h = ltb-false draw bound w in omega arith
drawn_length true true true ps bound live tag draw w a r l e =
    let h = ltb-true live bound r in
    omega (arith, length-append (set ps draw (Some tag)) (get_or ps draw None ∷ []), length-set ps draw (Some tag))
drawn_length true true false ps bound live tag draw w a r l e =
    let h = ltb-false live bound r in omega (arith, length-set ps draw (Some tag))
drawn_length true false room ps bound live tag draw w a r l e =
    let h = ltb-true draw bound w in
    let k = ltb-false draw live a in
    omega (arith, length-append ps (Some tag ∷ []))

pub entry_full : (m : Meaning) (tag class draw : ℕ) → Full m → Full (entry_rule m tag class draw).after
entry_full m tag class draw full = by_called (radix_rule m class) refl
  where
    counted_by :
        (radix : ℕ) (paired : Bool) → eqb m.unpaired 0 ≡ paired → radix ≡ radix_of true m.unpaired m.live → draw < radix →
        Full (entry_counted paired m radix tag draw).after
    counted_by radix true q is below =
        let none = eqb-true m.unpaired 0 q in
        let radix_is : radix ≡ m.live + 1 = is ∙ ap (λ d. radix_of true d m.live) none in
        let e : length m.places ≡ min m.bound m.live = omega (arith, full) in
        omega (
          arith,
          drawn_length (ltb draw m.bound) (ltb draw m.live) (ltb m.live m.bound) m.places m.bound m.live tag draw refl
              refl refl (omega arith) e,
        )
    counted_by radix false q is below =
        let some = eqb-false m.unpaired 0 q in
        let e : m.live + 1 + (m.unpaired - 1) ≡ m.live + m.unpaired = omega arith in
        length_put m.places (hole_place m.places draw) (Some tag) ∙ full ∙ ap (min m.bound) (sym e)

    by :
        (radix : ℕ) (below counted : Bool) → ltb draw radix ≡ below → m.counted class ≡ counted →
        radix ≡ radix_of (m.counted class) m.unpaired m.live → Full (entry_drawn below counted m radix tag draw).after
    by radix false counted l c is = full
    by radix true false l c is = full
    by radix true true l c is =
        counted_by radix (eqb m.unpaired 0) refl (is ∙ ap (λ k. radix_of k m.unpaired m.live) c) (ltb-true draw radix l)

    by_called : (called : Told ℕ) → radix_rule m class ≡ called → Full (entry_asked called m tag class draw).after
    by_called (refused number) e = full
    by_called (told radix) e = by radix (ltb draw radix) (m.counted class) refl refl (radix_called m class radix e).is

pub leave_full : (m : Meaning) (tag class : ℕ) → Full m → Full (leave_rule m tag class).after
leave_full m tag class full = by (m.counted class) m.leaves (ltb 0 m.live) refl
  where
    by : (counted leaves some_live : Bool) → ltb 0 m.live ≡ some_live → Full (leave_when counted leaves some_live m tag).after
    by false leaves some_live e = full
    by true false some_live e = full
    by true true false e = full
    by true true true e =
        let some = ltb-true 0 m.live e in
        let same : m.live - 1 + (m.unpaired + 1) ≡ m.live + m.unpaired = omega arith in
        length_put m.places (tag_place m.places tag) None ∙ full ∙ ap (min m.bound) (sym same)
