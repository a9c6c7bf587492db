-- Every change of a sound meaning leaves a sound one.
use Rattle.std.proofs.Common.{◌≡◌, ℕ, zero, suc, ◌+◌, ◌-◌, ◌<◌, ◌≤◌, min, Bool, true, false, ltb, List, [], ◌∷◌, ◌++◌, length, get_or, set, Some, None, Option, sym, refl, ap, ◌∙◌, subst, arith, length-append, length-set, MatchOption}
use Rattle.std.proofs.lemmas.Bool.{ltb-true, ltb-false}
use Rattle.pile.specs.Answers.{Place}
use Rattle.pile.specs.Meaning.{Meaning, Sound, holes}
use Rattle.pile.specs.Rules.{further, hole_place, tag_place, put, drawn_places, joined, paired, vacated}

-- how many holes a change leaves
pub holes_append : (ps qs : List Place) → holes (ps ++ qs) ≡ holes ps + holes qs
holes_append [] qs = omega arith
holes_append (None ∷ ps) qs = omega (arith, holes_append ps qs)
holes_append (Some t ∷ ps) qs = holes_append ps qs

pub holes_set_held : (ps : List Place) (i t : ℕ) → holes (set ps i (Some t)) ≤ holes ps
holes_set_held [] i t = omega arith
holes_set_held (None ∷ ps) zero t = omega arith
holes_set_held (Some u ∷ ps) zero t = omega arith
holes_set_held (None ∷ ps) (suc i) t = omega (arith, holes_set_held ps i t)
holes_set_held (Some u ∷ ps) (suc i) t = holes_set_held ps i t

pub holes_set_hole : (ps : List Place) (i : ℕ) → holes (set ps i None) ≤ holes ps + 1
holes_set_hole [] i = omega arith
holes_set_hole (None ∷ ps) zero = omega arith
holes_set_hole (Some u ∷ ps) zero = omega arith
holes_set_hole (None ∷ ps) (suc i) = omega (arith, holes_set_hole ps i)
holes_set_hole (Some u ∷ ps) (suc i) = holes_set_hole ps i

pub holes_at : (ps : List Place) (i : ℕ) → i < length ps → holes (get_or ps i None ∷ []) ≤ holes ps
holes_at [] i h = let z : ⊥ = omega arith in absurd z
holes_at (None ∷ ps) zero h = omega arith
holes_at (Some u ∷ ps) zero h = omega arith
holes_at (None ∷ ps) (suc i) h = let l : i < length ps = omega arith in omega (arith, holes_at ps i l)
holes_at (Some u ∷ ps) (suc i) h = let l : i < length ps = omega arith in holes_at ps i l

-- hole r is filled, or there are at most r holes
abbrev Filled : List Place → ℕ → ℕ → Option ℕ → Type 0
Filled ps r t o = MatchOption o (holes ps ≤ r) (λ i. holes (set ps i (Some t)) + 1 ≡ holes ps)

pub holes_filled : (ps : List Place) (r t : ℕ) → Filled ps r t (hole_place ps r)
holes_filled [] r t = omega arith
holes_filled (Some u ∷ ps) r t = later (hole_place ps r) (holes_filled ps r t)
  where
    later : (o : Option ℕ) → Filled ps r t o → Filled (Some u ∷ ps) r t (further o)
    later None h = h
    later (Some i) h = let s : suc i ≡ i + 1 = omega arith in subst (λ (k : ℕ). holes (set (Some u ∷ ps) k (Some t)) + 1 ≡ holes ps) s h
holes_filled (None ∷ ps) zero t = refl
holes_filled (None ∷ ps) (suc r) t = later (hole_place ps r) (holes_filled ps r t)
  where
    later : (o : Option ℕ) → Filled ps r t o → Filled (None ∷ ps) (suc r) t (further o)
    later None h = omega arith
    later (Some i) h =
        let s : suc i ≡ i + 1 = omega arith in
        subst (λ (k : ℕ). holes (set (None ∷ ps) k (Some t)) + 1 ≡ holes ps + 1) s (omega (arith, h))

pub length_put : (ps : List Place) (o : Option ℕ) (x : Place) → length (put ps o x) ≡ length ps
length_put ps None x = refl
length_put ps (Some i) x = length-set ps i x

-- the rows after each change: how long they are, and how many holes they have
drawn_length : (a b c : Bool) (ps : List Place) (m n t r : ℕ) → ltb r m ≡ a → ltb r n ≡ b → ltb n m ≡ c → r ≤ n → length ps ≡ min m n → length (drawn_places a b c ps t r) ≡ min m (n + 1)
drawn_length false b c ps m n t r p q s le e = let h = ltb-false r m p in omega arith
drawn_length true true true ps m n t r p q s le e =
    let h = ltb-true n m s in
    omega (arith, length-append (set ps r (Some t)) (get_or ps r None ∷ []), length-set ps r (Some t))
drawn_length true true false ps m n t r p q s le e = let h = ltb-false n m s in omega (arith, length-set ps r (Some t))
drawn_length true false c ps m n t r p q s le e =
    let h = ltb-true r m p in
    let k = ltb-false r n q in
    omega (arith, length-append ps (Some t ∷ []))

drawn_holes : (a b c : Bool) (ps : List Place) (m n t r : ℕ) → ltb r m ≡ a → ltb r n ≡ b → ltb n m ≡ c → length ps ≡ min m n → holes ps ≡ 0 → holes (drawn_places a b c ps t r) ≡ 0
drawn_holes false b c ps m n t r p q s e z = z
drawn_holes true true true ps m n t r p q s e z =
    let h = ltb-true r m p in
    let k = ltb-true r n q in
    let l : r < length ps = omega arith in
    omega (arith, holes_append (set ps r (Some t)) (get_or ps r None ∷ []), holes_set_held ps r t, holes_at ps r l)
drawn_holes true true false ps m n t r p q s e z = omega (arith, holes_set_held ps r t)
drawn_holes true false c ps m n t r p q s e z = omega (arith, holes_append ps (Some t ∷ []))

pub joined_sound : (m : Meaning) (t r : ℕ) → Sound m → m.unpaired ≡ 0 → m.live < 1024 → r ≤ m.live → Sound (joined m t r)
joined_sound m t r s z room le =
    record {
      some_place = s.some_place;
      few_places = s.few_places;
      classes = s.classes;
      as_many_places =
          let e : length m.places ≡ min m.bound m.live = omega (arith, s.as_many_places) in
          omega (arith, drawn_length _ _ _ m.places m.bound m.live t r refl refl refl le e);
      few_holes =
          let e : length m.places ≡ min m.bound m.live = omega (arith, s.as_many_places) in
          let h : holes m.places ≡ 0 = omega (arith, s.few_holes) in
          omega (arith, drawn_holes _ _ _ m.places m.bound m.live t r refl refl refl e h);
      few_keys = omega arith;
    }

filled_holes : (ps : List Place) (d r t : ℕ) (o : Option ℕ) → Filled ps r t o → holes ps ≤ d → r < d → holes (put ps o (Some t)) ≤ d - 1
filled_holes ps d r t None h k l = omega arith
filled_holes ps d r t (Some i) h k l = omega (arith, h)

pub paired_sound : (m : Meaning) (t r : ℕ) → Sound m → r < m.unpaired → Sound (paired m t r)
paired_sound m t r s l =
    record {
      some_place = s.some_place;
      few_places = s.few_places;
      classes = s.classes;
      as_many_places =
          let e : m.live + 1 + (m.unpaired - 1) ≡ m.live + m.unpaired = omega arith in
          length_put m.places (hole_place m.places r) (Some t) ∙ s.as_many_places ∙ ap (min m.bound) (sym e);
      few_holes = filled_holes m.places m.unpaired r t (hole_place m.places r) (holes_filled m.places r t) s.few_holes l;
      few_keys = omega (arith, s.few_keys);
    }

vacated_holes : (ps : List Place) (d : ℕ) (o : Option ℕ) → holes ps ≤ d → holes (put ps o None) ≤ d + 1
vacated_holes ps d None h = omega arith
vacated_holes ps d (Some i) h = omega (arith, holes_set_hole ps i)

pub vacated_sound : (m : Meaning) (t : ℕ) → Sound m → 0 < m.live → Sound (vacated m t)
vacated_sound m t s l =
    record {
      some_place = s.some_place;
      few_places = s.few_places;
      classes = s.classes;
      as_many_places =
          let e : m.live - 1 + (m.unpaired + 1) ≡ m.live + m.unpaired = omega arith in
          length_put m.places (tag_place m.places t) None ∙ s.as_many_places ∙ ap (min m.bound) (sym e);
      few_holes = vacated_holes m.places m.unpaired (tag_place m.places t) s.few_holes;
      few_keys = omega (arith, s.few_keys);
    }
