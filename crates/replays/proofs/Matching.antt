-- Places with tags beside places with numbers of keys: each tag belongs to the live key that has the number.
use Rattle.std.proofs.Common.{◌≡◌, ℕ, zero, suc, ◌<◌, ◌≤◌, Bool, true, false, cond, eqb, ltb, List, [], ◌∷◌, ◌++◌, get_or, set, Some, None, Option, sym, refl, ap, ◌∙◌, subst, ap₂, arith}
use Rattle.std.proofs.lemmas.List.{get_or-set_other}
use Rattle.std.proofs.lemmas.Bool.{eq-eqb, ne_eqb, lt-ltb, both_ways}
use Rattle.pile.specs.Answers.{Told, refused, told, Place}
use Rattle.pile.specs.Laws.{one_if, times}
use Rattle.pile.specs.Meaning.{Meaning}
use Rattle.pile.specs.Rules.{further, tag_place_when, drawn_places, put, hole_place, tag_place, receipt, radix_rule, entry_rule, entry_asked, entry_drawn, entry_counted, leave_rule, leave_when}
use Rattle.evenness.proofs.Arrangements.{fill, vacate, put_in_hole, put_hole}
use Rattle.calls.specs.Book.{KeyView}
use Rattle.calls.specs.Steps.{key_on}
use Rattle.calls.proofs.Searches.{none_some, same_some}
use Rattle.calls.proofs.Verdicts.{placed, radix_placed}
use Rattle.replays.specs.Pairing.{numbered, all_numbered}
use Rattle.replays.specs.Replays.{form_of, forms_on}

module _ (number : List ℕ → ℕ) (counted : ℕ → Bool) where
  abbrev pub Names : List (Option KeyView) → (tag n : ℕ) → Type 0
  Names slots tag n = (key : KeyView) × (get_or slots tag None ≡ Some key) × (n ≡ number key.form) × (counted key.class ≡ true)

  abbrev pub Matches : List (Option KeyView) → Place → Place → Type 0
  Matches slots None None = Unit {0}
  Matches slots None (Some n) = ⊥
  Matches slots (Some tag) None = ⊥
  Matches slots (Some tag) (Some n) = Names slots tag n

  abbrev pub AllMatch : List (Option KeyView) → List Place → List Place → Type 0
  AllMatch slots [] [] = Unit {0}
  AllMatch slots [] (q ∷ qs) = ⊥
  AllMatch slots (p ∷ ps) [] = ⊥
  AllMatch slots (p ∷ ps) (q ∷ qs) = Matches slots p q × AllMatch slots ps qs

  -- read through the slots, the places with tags are the others
  one_reads : (slots : List (Option KeyView)) (p q : Place) → Matches slots p q → numbered number (form_of (key_on slots p)) ≡ q
  one_reads slots None None h = refl
  one_reads slots None (Some n) h = absurd h
  one_reads slots (Some tag) None h = absurd h
  one_reads slots (Some tag) (Some n) h = ap (λ o. numbered number (form_of o)) h.1 ∙ ap Some (sym h.2)

  pub match_reads : (slots : List (Option KeyView)) (ps qs : List Place) → AllMatch slots ps qs → all_numbered number (forms_on slots ps) ≡ qs
  match_reads slots [] [] h = refl
  match_reads slots [] (q ∷ qs) h = absurd h
  match_reads slots (p ∷ ps) [] h = absurd h
  match_reads slots (p ∷ ps) (q ∷ qs) h = ap₂ ◌∷◌ (one_reads slots p q h.0) (match_reads slots ps qs h.1)

  -- the places after changes
  module _ (slots : List (Option KeyView)) where
    match_append : (ps qs ps' qs' : List Place) → AllMatch slots ps qs → AllMatch slots ps' qs' → AllMatch slots (ps ++ ps') (qs ++ qs')
    match_append [] [] ps' qs' h k = k
    match_append [] (q ∷ qs) ps' qs' h k = absurd h
    match_append (p ∷ ps) [] ps' qs' h k = absurd h
    match_append (p ∷ ps) (q ∷ qs) ps' qs' h k = (h.0, match_append ps qs ps' qs' h.1 k)

    match_set : (ps qs : List Place) (i : ℕ) (p q : Place) → AllMatch slots ps qs → Matches slots p q → AllMatch slots (set ps i p) (set qs i q)
    match_set [] [] i p q h k = tt
    match_set [] (y ∷ qs) i p q h k = absurd h
    match_set (x ∷ ps) [] i p q h k = absurd h
    match_set (x ∷ ps) (y ∷ qs) zero p q h k = (k, h.1)
    match_set (x ∷ ps) (y ∷ qs) (suc i) p q h k = (h.0, match_set ps qs i p q h.1 k)

    match_at : (ps qs : List Place) (i : ℕ) → AllMatch slots ps qs → Matches slots (get_or ps i None) (get_or qs i None)
    match_at [] [] i h = tt
    match_at [] (y ∷ qs) i h = absurd h
    match_at (x ∷ ps) [] i h = absurd h
    match_at (x ∷ ps) (y ∷ qs) zero h = h.0
    match_at (x ∷ ps) (y ∷ qs) (suc i) h = match_at ps qs i h.1

    match_drawn :
        (within among room : Bool) (ps qs : List Place) (tag n draw : ℕ) → AllMatch slots ps qs → Names slots tag n →
        AllMatch slots (drawn_places within among room ps tag draw) (drawn_places within among room qs n draw)
    match_drawn false among room ps qs tag n draw h k = h
    match_drawn true true true ps qs tag n draw h k =
        match_append (set ps draw (Some tag)) (set qs draw (Some n)) (get_or ps draw None ∷ []) (get_or qs draw None ∷ [])
        (match_set ps qs draw (Some tag) (Some n) h k) (match_at ps qs draw h, tt)
    match_drawn true true false ps qs tag n draw h k = match_set ps qs draw (Some tag) (Some n) h k
    match_drawn true false room ps qs tag n draw h k = match_append ps qs (Some tag ∷ []) (Some n ∷ []) h (k, tt)

    match_fill : (ps qs : List Place) (r tag n : ℕ) → AllMatch slots ps qs → Names slots tag n → AllMatch slots (fill tag ps r) (fill n qs r)
    match_fill [] [] r tag n h k = tt
    match_fill [] (y ∷ qs) r tag n h k = absurd h
    match_fill (x ∷ ps) [] r tag n h k = absurd h
    match_fill (None ∷ ps) (None ∷ qs) zero tag n h k = (k, h.1)
    match_fill (None ∷ ps) (None ∷ qs) (suc r) tag n h k = (tt, match_fill ps qs r tag n h.1 k)
    match_fill (None ∷ ps) (Some m ∷ qs) r tag n h k = absurd h.0
    match_fill (Some t ∷ ps) (None ∷ qs) r tag n h k = absurd h.0
    match_fill (Some t ∷ ps) (Some m ∷ qs) r tag n h k = (h.0, match_fill ps qs r tag n h.1 k)

    match_hole : (ps qs : List Place) (r : ℕ) → AllMatch slots ps qs → hole_place ps r ≡ hole_place qs r
    match_hole [] [] r h = refl
    match_hole [] (y ∷ qs) r h = absurd h
    match_hole (x ∷ ps) [] r h = absurd h
    match_hole (None ∷ ps) (None ∷ qs) zero h = refl
    match_hole (None ∷ ps) (None ∷ qs) (suc r) h = ap further (match_hole ps qs r h.1)
    match_hole (None ∷ ps) (Some m ∷ qs) r h = absurd h.0
    match_hole (Some t ∷ ps) (None ∷ qs) r h = absurd h.0
    match_hole (Some t ∷ ps) (Some m ∷ qs) r h = ap further (match_hole ps qs r h.1)

    match_tag :
        (tag n : ℕ) → ((t m : ℕ) → Names slots t m → eqb t tag ≡ eqb m n) → (ps qs : List Place) → AllMatch slots ps qs →
        tag_place ps tag ≡ tag_place qs n
    match_tag tag n same [] [] h = refl
    match_tag tag n same [] (y ∷ qs) h = absurd h
    match_tag tag n same (x ∷ ps) [] h = absurd h
    match_tag tag n same (None ∷ ps) (None ∷ qs) h = ap further (match_tag tag n same ps qs h.1)
    match_tag tag n same (None ∷ ps) (Some m ∷ qs) h = absurd h.0
    match_tag tag n same (Some t ∷ ps) (None ∷ qs) h = absurd h.0
    match_tag tag n same (Some t ∷ ps) (Some m ∷ qs) h = ap₂ tag_place_when (same t m h.0) (match_tag tag n same ps qs h.1)

    -- no two tags have one key, and no two keys one number
    match_vacate :
        (tag n : ℕ) → ((t m : ℕ) → Names slots t m → eqb t tag ≡ eqb m n) → (ps qs : List Place) → AllMatch slots ps qs →
        AllMatch slots (vacate tag ps) (vacate n qs)
    match_vacate tag n same [] [] h = tt
    match_vacate tag n same [] (y ∷ qs) h = absurd h
    match_vacate tag n same (x ∷ ps) [] h = absurd h
    match_vacate tag n same (None ∷ ps) (None ∷ qs) h = (tt, match_vacate tag n same ps qs h.1)
    match_vacate tag n same (None ∷ ps) (Some m ∷ qs) h = absurd h.0
    match_vacate tag n same (Some t ∷ ps) (None ∷ qs) h = absurd h.0
    match_vacate tag n same (Some t ∷ ps) (Some m ∷ qs) h =
        subst (λ (b : Bool). AllMatch slots (cond (eqb t tag) (None ∷ ps) (Some t ∷ vacate tag ps)) (cond b (None ∷ qs) (Some m ∷ vacate n qs)))
        (same t m h.0) (by (eqb t tag) (match_vacate tag n same ps qs h.1))
      where
        by :
            (b : Bool) → AllMatch slots (vacate tag ps) (vacate n qs) →
            AllMatch slots (cond b (None ∷ ps) (Some t ∷ vacate tag ps)) (cond b (None ∷ qs) (Some m ∷ vacate n qs))
        by true ih = (tt, h.1)
        by false ih = (h.0, ih)

    -- a free tag stands nowhere
    pub match_free : (tag : ℕ) → get_or slots tag None ≡ None → (ps qs : List Place) → AllMatch slots ps qs → times tag ps ≡ 0
    match_free tag free [] [] h = refl
    match_free tag free [] (y ∷ qs) h = absurd h
    match_free tag free (x ∷ ps) [] h = absurd h
    match_free tag free (None ∷ ps) (None ∷ qs) h = omega (arith, match_free tag free ps qs h.1)
    match_free tag free (None ∷ ps) (Some m ∷ qs) h = absurd h.0
    match_free tag free (Some t ∷ ps) (None ∷ qs) h = absurd h.0
    match_free tag free (Some t ∷ ps) (Some m ∷ qs) h =
        let other = ne_eqb t tag (λ e. none_some h.0.0 (sym free ∙ ap (λ u. get_or slots u None) (sym e) ∙ h.0.1)) in
        omega (arith, match_free tag free ps qs h.1, ap one_if other)

    -- nor does one of an uncounted key
    pub match_uncounted :
        (tag : ℕ) (held : KeyView) → get_or slots tag None ≡ Some held → counted held.class ≡ false → (ps qs : List Place) →
        AllMatch slots ps qs → times tag ps ≡ 0
    match_uncounted tag held at off [] [] h = refl
    match_uncounted tag held at off [] (y ∷ qs) h = absurd h
    match_uncounted tag held at off (x ∷ ps) [] h = absurd h
    match_uncounted tag held at off (None ∷ ps) (None ∷ qs) h = omega (arith, match_uncounted tag held at off ps qs h.1)
    match_uncounted tag held at off (None ∷ ps) (Some m ∷ qs) h = absurd h.0
    match_uncounted tag held at off (Some t ∷ ps) (None ∷ qs) h = absurd h.0
    match_uncounted tag held at off (Some t ∷ ps) (Some m ∷ qs) h =
        let other =
        ne_eqb t tag
        (λ e.
        let same = same_some h.0.0 held (sym h.0.1 ∙ ap (λ u. get_or slots u None) e ∙ at) in
        both_ways (counted held.class) off (ap (λ (v : KeyView). counted v.class) (sym same) ∙ h.0.3))
        in
        omega (arith, match_uncounted tag held at off ps qs h.1, ap one_if other)

    -- where a free slot is filled, and where the slot of a tag that stands nowhere is freed, all match as they did
    pub match_filled :
        (tag : ℕ) (key : KeyView) → get_or slots tag None ≡ None → (ps qs : List Place) → AllMatch slots ps qs →
        AllMatch (set slots tag (Some key)) ps qs
    match_filled tag key free [] [] h = tt
    match_filled tag key free [] (y ∷ qs) h = absurd h
    match_filled tag key free (x ∷ ps) [] h = absurd h
    match_filled tag key free (None ∷ ps) (None ∷ qs) h = (tt, match_filled tag key free ps qs h.1)
    match_filled tag key free (None ∷ ps) (Some m ∷ qs) h = absurd h.0
    match_filled tag key free (Some t ∷ ps) (None ∷ qs) h = absurd h.0
    match_filled tag key free (Some t ∷ ps) (Some m ∷ qs) h = (
      (
        h.0.0,
        get_or-set_other slots tag t (Some key) None (λ e. none_some h.0.0 (sym free ∙ ap (λ u. get_or slots u None) (sym e) ∙ h.0.1)) ∙ h.0.1,
        h.0.2,
        h.0.3,
      ),
      match_filled tag key free ps qs h.1,
    )

    pub match_freed : (tag : ℕ) (ps qs : List Place) → times tag ps ≡ 0 → AllMatch slots ps qs → AllMatch (set slots tag None) ps qs
    match_freed tag [] [] z h = tt
    match_freed tag [] (y ∷ qs) z h = absurd h
    match_freed tag (x ∷ ps) [] z h = absurd h
    match_freed tag (None ∷ ps) (None ∷ qs) z h = (tt, match_freed tag ps qs (omega arith) h.1)
    match_freed tag (None ∷ ps) (Some m ∷ qs) z h = absurd h.0
    match_freed tag (Some t ∷ ps) (None ∷ qs) z h = absurd h.0
    match_freed tag (Some t ∷ ps) (Some m ∷ qs) z h = (
      (h.0.0, get_or-set_other slots tag t None None (λ e. let w : ⊥ = omega (arith, ap one_if (eq-eqb t tag e)) in absurd w) ∙ h.0.1, h.0.2, h.0.3),
      match_freed tag ps qs (omega arith) h.1,
    )

  -- the tag that is vacated stands nowhere then
  pub vacate_gone : (tag : ℕ) (ps : List Place) → times tag ps ≤ 1 → times tag (vacate tag ps) ≡ 0
  vacate_gone tag [] once = refl
  vacate_gone tag (None ∷ ps) once = omega (arith, vacate_gone tag ps (omega arith))
  vacate_gone tag (Some t ∷ ps) once = by (eqb t tag) refl (vacate_gone tag ps (omega arith))
    where
      by : (b : Bool) → eqb t tag ≡ b → times tag (vacate tag ps) ≡ 0 → times tag (cond b (None ∷ ps) (Some t ∷ vacate tag ps)) ≡ 0
      by true e ih = omega (arith, ap one_if e)
      by false e ih = omega (arith, ap one_if e)

  -- an entry, on both
  abbrev pub Both : List (Option KeyView) → (tagged other : Meaning) → Type 0
  Both slots tagged other = (qs : List Place) × (other ≡ placed tagged qs) × AllMatch slots tagged.places qs

  pub entry_both :
      (slots : List (Option KeyView)) (m : Meaning) (qs : List Place) (tag n class draw radix : ℕ) → radix_rule m class ≡ told radix →
      draw < radix → AllMatch slots m.places qs → (m.counted class ≡ true → Names slots tag n) →
      Both slots (entry_rule m tag class draw).after (entry_rule (placed m qs) n class draw).after
  entry_both slots m qs tag n class draw radix e l h k =
      subst (λ (a : Told ℕ). Both slots (entry_rule m tag class draw).after (entry_asked a (placed m qs) n class draw).after)
      (sym (radix_placed m qs class ∙ e))
      (subst (λ (a : Told ℕ). Both slots (entry_asked a m tag class draw).after (entry_asked (told radix) (placed m qs) n class draw).after)
      (sym e)
      (subst (λ (b : Bool). Both slots (entry_drawn b (m.counted class) m radix tag draw).after (entry_drawn b (m.counted class) (placed m qs) radix n draw).after)
      (sym (lt-ltb draw radix l)) (by (m.counted class) refl)))
    where
      counted_by : m.counted class ≡ true → (p : Bool) → Both slots (entry_counted p m radix tag draw).after (entry_counted p (placed m qs) radix n draw).after
      counted_by c true = (
        drawn_places (ltb draw m.bound) (ltb draw m.live) (ltb m.live m.bound) qs n draw,
        refl,
        match_drawn slots (ltb draw m.bound) (ltb draw m.live) (ltb m.live m.bound) m.places qs tag n draw h (k c),
      )
      counted_by c false = (
        put qs (hole_place qs draw) (Some n),
        refl,
        subst (λ (ps : List Place). AllMatch slots ps (put qs (hole_place qs draw) (Some n))) (sym (put_in_hole m.places draw tag))
            (subst (λ (os : List Place). AllMatch slots (fill tag m.places draw) os) (sym (put_in_hole qs draw n))
            (match_fill slots m.places qs draw tag n h (k c))),
      )

      by : (c : Bool) → m.counted class ≡ c → Both slots (entry_drawn true c m radix tag draw).after (entry_drawn true c (placed m qs) radix n draw).after
      by false c = (qs, refl, h)
      by true c = counted_by c (eqb m.unpaired 0)

  -- a leave, on both
  pub leave_both :
      (slots : List (Option KeyView)) (m : Meaning) (qs : List Place) (tag n class : ℕ) →
      ((t u : ℕ) → Names slots t u → eqb t tag ≡ eqb u n) → AllMatch slots m.places qs →
      Both slots (leave_rule m tag class).after (leave_rule (placed m qs) n class).after
  leave_both slots m qs tag n class same h = by (m.counted class) m.leaves (ltb 0 m.live)
    where
      by : (c l s : Bool) → Both slots (leave_when c l s m tag).after (leave_when c l s (placed m qs) n).after
      by false l s = (qs, refl, h)
      by true false s = (qs, refl, h)
      by true true false = (qs, refl, h)
      by true true true = (
        put qs (tag_place qs n) None,
        refl,
        subst (λ (ps : List Place). AllMatch slots ps (put qs (tag_place qs n) None)) (sym (put_hole m.places tag))
            (subst (λ (os : List Place). AllMatch slots (vacate tag m.places) os) (sym (put_hole qs n))
            (match_vacate slots tag n same m.places qs h)),
      )

  -- after a leave the tag stands nowhere
  pub leave_gone :
      (m : Meaning) (tag class : ℕ) → m.leaves ≡ true → (m.counted class ≡ true → 0 < m.live) →
      (m.counted class ≡ false → times tag m.places ≡ 0) → times tag m.places ≤ 1 →
      times tag (leave_rule m tag class).after.places ≡ 0
  leave_gone m tag class takes some off once =
      subst (λ (b : Bool). times tag (leave_when (m.counted class) b (ltb 0 m.live) m tag).after.places ≡ 0) (sym takes)
      (by (m.counted class) refl)
    where
      by : (c : Bool) → m.counted class ≡ c → times tag (leave_when c true (ltb 0 m.live) m tag).after.places ≡ 0
      by false c = off c
      by true c =
          subst (λ (n : Bool). times tag (leave_when true true n m tag).after.places ≡ 0) (sym (lt-ltb 0 m.live (some c)))
          (ap (times tag) (put_hole m.places tag) ∙ vacate_gone tag m.places once)

  -- what an entry and a leave answer, on both
  pub entry_answers :
      (slots : List (Option KeyView)) (m : Meaning) (qs : List Place) (tag n class draw : ℕ) → AllMatch slots m.places qs →
      (entry_rule (placed m qs) n class draw).answer ≡ (entry_rule m tag class draw).answer
  entry_answers slots m qs tag n class draw h =
      ap (λ (a : Told ℕ). (entry_asked a (placed m qs) n class draw).answer) (radix_placed m qs class) ∙ by_called (radix_rule m class)
    where
      counted_by : (radix : ℕ) (p : Bool) → (entry_counted p (placed m qs) radix n draw).answer ≡ (entry_counted p m radix tag draw).answer
      counted_by radix true = refl
      counted_by radix false = ap (λ place. told (receipt radix draw place)) (sym (match_hole slots m.places qs draw h))

      by : (radix : ℕ) (below c : Bool) → (entry_drawn below c (placed m qs) radix n draw).answer ≡ (entry_drawn below c m radix tag draw).answer
      by radix false c = refl
      by radix true false = refl
      by radix true true = counted_by radix (eqb m.unpaired 0)

      by_called : (a : Told ℕ) → (entry_asked a (placed m qs) n class draw).answer ≡ (entry_asked a m tag class draw).answer
      by_called (refused number) = refl
      by_called (told radix) = by radix (ltb draw radix) (m.counted class)

  pub leave_answers :
      (slots : List (Option KeyView)) (m : Meaning) (qs : List Place) (tag n class : ℕ) →
      ((t u : ℕ) → Names slots t u → eqb t tag ≡ eqb u n) → AllMatch slots m.places qs →
      (leave_rule (placed m qs) n class).answer ≡ (leave_rule m tag class).answer
  leave_answers slots m qs tag n class same h = by (m.counted class) m.leaves (ltb 0 m.live)
    where
      by : (c l s : Bool) → (leave_when c l s (placed m qs) n).answer ≡ (leave_when c l s m tag).answer
      by false l s = refl
      by true false s = refl
      by true true false = refl
      by true true true = ap (λ place. told (record { place = place })) (sym (match_tag slots tag n same m.places qs h))
