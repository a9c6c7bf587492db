-- The laws over lists of changes, change by change.
use Rattle.std.proofs.Common.{◌≡◌, ℕ, zero, suc, ◌+◌, ◌<◌, ◌≤◌, Bool, true, false, eqb, ltb, List, [], ◌∷◌, ◌++◌, get_or, set, Some, None, Option, refl, subst, arith}
use Rattle.std.proofs.lemmas.Bool.{ltb-true, eqb-true, eqb-false}
use Rattle.pile.specs.Answers.{Place, Told, told, refused}
use Rattle.pile.specs.Laws.{Change, entry, leave, after_one, after_all, one_if, times, StandsOnce, EntersAnew, AllEnterAnew, AllEntries}
use Rattle.pile.specs.Meaning.{Meaning, Sound}
use Rattle.pile.specs.Rules.{holds_tag, put, hole_place, tag_place, drawn_places, radix_rule, entry_asked, entry_drawn, entry_counted, leave_when}
use Rattle.pile.proofs.Radices.{radix_joined, radix_paired}
use Rattle.pile.proofs.Soundness.{joined_sound, paired_sound, vacated_sound}

times_append : (t : ℕ) (ps qs : List Place) → times t (ps ++ qs) ≡ times t ps + times t qs
times_append t [] qs = omega arith
times_append t (p ∷ ps) qs = omega (arith, times_append t ps qs)

times_set : (t : ℕ) (ps : List Place) (i : ℕ) (x : Place) → times t (set ps i x) + one_if (holds_tag (get_or ps i None) t) ≤ times t ps + one_if (holds_tag x t)
times_set t [] i x = omega arith
times_set t (p ∷ ps) zero x = omega arith
times_set t (p ∷ ps) (suc i) x = omega (arith, times_set t ps i x)

-- an entry of u adds at most one place of u, and a leave adds none
drawn_times : (a b c : Bool) (ps : List Place) (u r t : ℕ) → times t (drawn_places a b c ps u r) ≤ times t ps + one_if (eqb u t)
drawn_times false b c ps u r t = omega arith
drawn_times true true true ps u r t =
    omega (arith, times_append t (set ps r (Some u)) (get_or ps r None ∷ []), times_set t ps r (Some u))
drawn_times true true false ps u r t = omega (arith, times_set t ps r (Some u))
drawn_times true false c ps u r t = omega (arith, times_append t ps (Some u ∷ []))

put_times : (ps : List Place) (o : Option ℕ) (x : Place) (t : ℕ) → times t (put ps o x) ≤ times t ps + one_if (holds_tag x t)
put_times ps None x t = omega arith
put_times ps (Some i) x t = omega (arith, times_set t ps i x)

counted_times : (p : Bool) (m : Meaning) (n u r t : ℕ) → times t (entry_counted p m n u r).after.places ≤ times t m.places + one_if (eqb u t)
counted_times true m n u r t = drawn_times (ltb r m.bound) (ltb r m.live) (ltb m.live m.bound) m.places u r t
counted_times false m n u r t = put_times m.places (hole_place m.places r) (Some u) t

drawn_entry_times : (b k : Bool) (m : Meaning) (n u r t : ℕ) → times t (entry_drawn b k m n u r).after.places ≤ times t m.places + one_if (eqb u t)
drawn_entry_times false k m n u r t = omega arith
drawn_entry_times true false m n u r t = omega arith
drawn_entry_times true true m n u r t = counted_times (eqb m.unpaired 0) m n u r t

asked_times : (a : Told ℕ) (m : Meaning) (u c r t : ℕ) → times t (entry_asked a m u c r).after.places ≤ times t m.places + one_if (eqb u t)
asked_times (refused k) m u c r t = omega arith
asked_times (told n) m u c r t = drawn_entry_times (ltb r n) (m.counted c) m n u r t

leave_times : (k l n : Bool) (m : Meaning) (u t : ℕ) → times t (leave_when k l n m u).after.places ≤ times t m.places
leave_times false l n m u t = omega arith
leave_times true false n m u t = omega arith
leave_times true true false m u t = omega arith
leave_times true true true m u t = omega (arith, put_times m.places (tag_place m.places u) None t)

once_by : (b : Bool) (u t a : ℕ) (ps : List Place) → eqb u t ≡ b → times u ps ≡ 0 → times t ps ≤ 1 → a ≤ times t ps + one_if b → a ≤ 1
once_by true u t a ps e new once le = omega (arith, subst (λ (v : ℕ). times v ps ≡ 0) (eqb-true u t e) new)
once_by false u t a ps e new once le = omega arith

pub once_one : (m : Meaning) (c : Change) → StandsOnce m → EntersAnew m c → StandsOnce (after_one m c)
once_one m (entry u c r) once new t = once_by (eqb u t) u t _ m.places refl new (once t) (asked_times (radix_rule m c) m u c r t)
once_one m (leave u c) once new t = omega (arith, leave_times (m.counted c) m.leaves (ltb 0 m.live) m u t, once t)

pub once_all : (m : Meaning) (cs : List Change) → StandsOnce m → AllEnterAnew m cs → StandsOnce (after_all m cs)
once_all m [] once new = once
once_all m (c ∷ cs) once new = once_all (after_one m c) cs (once_one m c once new.0) new.1

-- entries leave d as it is, or lower
drawn_unpaired : (b k : Bool) (m : Meaning) (n u r : ℕ) → (entry_drawn b k m n u r).after.unpaired ≤ m.unpaired
drawn_unpaired false k m n u r = omega arith
drawn_unpaired true false m n u r = omega arith
drawn_unpaired true true m n u r = by (eqb m.unpaired 0)
  where
    by : (p : Bool) → (entry_counted p m n u r).after.unpaired ≤ m.unpaired
    by true = omega arith
    by false = omega arith

asked_unpaired : (a : Told ℕ) (m : Meaning) (u c r : ℕ) → (entry_asked a m u c r).after.unpaired ≤ m.unpaired
asked_unpaired (refused k) m u c r = omega arith
asked_unpaired (told n) m u c r = drawn_unpaired (ltb r n) (m.counted c) m n u r

pub entries_unpaired : (m : Meaning) (cs : List Change) → AllEntries cs → m.unpaired ≡ 0 → (after_all m cs).unpaired ≡ 0
entries_unpaired m [] all z = z
entries_unpaired m (entry u c r ∷ cs) all z =
    entries_unpaired (after_one m (entry u c r)) cs all.1 (omega (arith, asked_unpaired (radix_rule m c) m u c r))
entries_unpaired m (leave u c ∷ cs) all z = absurd all.0

-- every change keeps a meaning sound
entry_sound : (m : Meaning) (u c r : ℕ) → Sound m → (a : Told ℕ) → a ≡ radix_rule m c → Sound (entry_asked a m u c r).after
entry_sound m u c r s (refused k) e = s
entry_sound m u c r s (told n) e = by (ltb r n) (m.counted c) refl refl
  where
    counted_by : (p : Bool) → r < n → m.counted c ≡ true → eqb m.unpaired 0 ≡ p → Sound (entry_counted p m n u r).after
    counted_by true l k q =
        let z = eqb-true m.unpaired 0 q in
        let radix = radix_joined m c n e k z in
        joined_sound m u r s z radix.1 (omega (arith, radix.0))
    counted_by false l k q =
        let radix = radix_paired m c n e k (eqb-false m.unpaired 0 q) in
        paired_sound m u r s (omega (arith, radix))

    by : (b k : Bool) → ltb r n ≡ b → m.counted c ≡ k → Sound (entry_drawn b k m n u r).after
    by false k l q = s
    by true false l q = s
    by true true l q = counted_by (eqb m.unpaired 0) (ltb-true r n l) q refl

leave_sound : (k l n : Bool) (m : Meaning) (u : ℕ) → Sound m → ltb 0 m.live ≡ n → Sound (leave_when k l n m u).after
leave_sound false l n m u s e = s
leave_sound true false n m u s e = s
leave_sound true true false m u s e = s
leave_sound true true true m u s e = vacated_sound m u s (ltb-true 0 m.live e)

pub sound_one : (m : Meaning) (c : Change) → Sound m → Sound (after_one m c)
sound_one m (entry u c r) s = entry_sound m u c r s (radix_rule m c) refl
sound_one m (leave u c) s = leave_sound (m.counted c) m.leaves (ltb 0 m.live) m u s refl

pub sound_all : (m : Meaning) (cs : List Change) → Sound m → Sound (after_all m cs)
sound_all m [] s = s
sound_all m (c ∷ cs) s = sound_all (after_one m c) cs (sound_one m c s)
