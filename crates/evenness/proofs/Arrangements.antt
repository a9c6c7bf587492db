-- Places without a bound: x into a hole, x out of its place, x onto a place. The pile's own rules are these, seen through the first places.
use Rattle.std.proofs.Common.{◌≡◌, ℕ, zero, suc, ◌+◌, ◌<◌, ◌≤◌, Bool, true, false, cond, eqb, ltb, List, [], ◌∷◌, ◌++◌, length, get_or, take, set, Some, None, Option, sym, refl, ap, ◌∙◌, le_refl, add-one, arith, length-set}
use Rattle.std.proofs.lemmas.List.{take_all, take-append-le, length_push}
use Rattle.std.proofs.lemmas.Bool.{ltb-true, ltb-false}
use Rattle.pile.specs.Answers.{Place}
use Rattle.pile.specs.Rules.{further, hole_place, tag_place_when, tag_place, put, drawn_places}
use Rattle.evenness.specs.Events.{without}
use Rattle.evenness.specs.Tapes.{sample}
use Rattle.evenness.proofs.Tags.{times_on}

-- x in hole r, the holes being counted from 0 in order of place
abbrev pub fill : (x : ℕ) → List Place → (r : ℕ) → List Place
fill x [] r = []
fill x (Some t ∷ ps) r = Some t ∷ fill x ps r
fill x (None ∷ ps) zero = Some x ∷ ps
fill x (None ∷ ps) (suc r) = None ∷ fill x ps r

-- a hole on the first place that held x
abbrev pub vacate : (x : ℕ) → List Place → List Place
vacate x [] = []
vacate x (None ∷ ps) = None ∷ vacate x ps
vacate x (Some t ∷ ps) = cond (eqb t x) (None ∷ ps) (Some t ∷ vacate x ps)

-- x on place r, and what stood there behind all the others; or x there, if there is no place r
abbrev pub seat : (x : ℕ) → List Place → (r : ℕ) → List Place
seat x [] r = Some x ∷ []
seat x (p ∷ ps) zero = Some x ∷ (ps ++ p ∷ [])
seat x (p ∷ ps) (suc r) = p ∷ seat x ps r

-- how many places there are then
pub length_fill : (x : ℕ) (ps : List Place) (r : ℕ) → length (fill x ps r) ≡ length ps
length_fill x [] r = refl
length_fill x (Some t ∷ ps) r = ap suc (length_fill x ps r)
length_fill x (None ∷ ps) zero = refl
length_fill x (None ∷ ps) (suc r) = ap suc (length_fill x ps r)

pub length_vacate : (x : ℕ) (ps : List Place) → length (vacate x ps) ≡ length ps
length_vacate x [] = refl
length_vacate x (None ∷ ps) = ap suc (length_vacate x ps)
length_vacate x (Some t ∷ ps) = go (eqb t x) (length_vacate x ps)
  where
    go : (b : Bool) → length (vacate x ps) ≡ length ps → length (cond b (None ∷ ps) (Some t ∷ vacate x ps)) ≡ suc (length ps)
    go true h = refl
    go false h = ap suc h

pub length_seat : (x : ℕ) (ps : List Place) (r : ℕ) → length (seat x ps r) ≡ suc (length ps)
length_seat x [] r = refl
length_seat x (p ∷ ps) zero = ap suc (length_push ps p ∙ add-one (length ps))
length_seat x (p ∷ ps) (suc r) = ap suc (length_seat x ps r)

-- the first k places after it come from the first k before it
pub take_fill : (k x : ℕ) (ps : List Place) (r : ℕ) → take k (fill x ps r) ≡ fill x (take k ps) r
take_fill zero x ps r = refl
take_fill (suc k) x [] r = refl
take_fill (suc k) x (Some t ∷ ps) r = ap {B = List Place} (λ qs. Some t ∷ qs) (take_fill k x ps r)
take_fill (suc k) x (None ∷ ps) zero = refl
take_fill (suc k) x (None ∷ ps) (suc r) = ap {B = List Place} (λ qs. None ∷ qs) (take_fill k x ps r)

pub take_vacate : (k x : ℕ) (ps : List Place) → take k (vacate x ps) ≡ vacate x (take k ps)
take_vacate zero x ps = refl
take_vacate (suc k) x [] = refl
take_vacate (suc k) x (None ∷ ps) = ap {B = List Place} (λ qs. None ∷ qs) (take_vacate k x ps)
take_vacate (suc k) x (Some t ∷ ps) = go (eqb t x) (take_vacate k x ps)
  where
    go :
        (b : Bool) → take k (vacate x ps) ≡ vacate x (take k ps) →
        take (suc k) (cond b (None ∷ ps) (Some t ∷ vacate x ps)) ≡ cond b (None ∷ take k ps) (Some t ∷ vacate x (take k ps))
    go true h = refl
    go false h = ap {B = List Place} (λ qs. Some t ∷ qs) h

-- the pile's entry to a hole, and its leave
put_further : (p : Place) (ps : List Place) (o : Option ℕ) (x : Place) → put (p ∷ ps) (further o) x ≡ p ∷ put ps o x
put_further p ps None x = refl
put_further p ps (Some i) x = ap (λ k. set (p ∷ ps) k x) (add-one i)

pub put_in_hole : (ps : List Place) (r x : ℕ) → put ps (hole_place ps r) (Some x) ≡ fill x ps r
put_in_hole [] r x = refl
put_in_hole (Some t ∷ ps) r x =
    put_further (Some t) ps (hole_place ps r) (Some x) ∙ ap {B = List Place} (λ qs. Some t ∷ qs) (put_in_hole ps r x)
put_in_hole (None ∷ ps) zero x = refl
put_in_hole (None ∷ ps) (suc r) x =
    put_further None ps (hole_place ps r) (Some x) ∙ ap {B = List Place} (λ qs. None ∷ qs) (put_in_hole ps r x)

pub put_hole : (ps : List Place) (x : ℕ) → put ps (tag_place ps x) None ≡ vacate x ps
put_hole [] x = refl
put_hole (None ∷ ps) x = put_further None ps (tag_place ps x) None ∙ ap {B = List Place} (λ qs. None ∷ qs) (put_hole ps x)
put_hole (Some t ∷ ps) x = go (eqb t x) (put_hole ps x)
  where
    go :
        (b : Bool) → put ps (tag_place ps x) None ≡ vacate x ps →
        put (Some t ∷ ps) (tag_place_when b (tag_place ps x)) None ≡ cond b (None ∷ ps) (Some t ∷ vacate x ps)
    go true h = refl
    go false h = put_further (Some t) ps (tag_place ps x) None ∙ ap {B = List Place} (λ qs. Some t ∷ qs) h

-- the pile's entry while no leave is unpaired
take_of_set : (k : ℕ) (ps : List Place) (r : ℕ) (x : Place) → take k (set ps r x) ≡ set (take k ps) r x
take_of_set zero ps r x = refl
take_of_set (suc k) [] r x = refl
take_of_set (suc k) (p ∷ ps) zero x = refl
take_of_set (suc k) (p ∷ ps) (suc r) x = ap {B = List Place} (λ qs. p ∷ qs) (take_of_set k ps r x)

seat_among : (x : ℕ) (ps : List Place) (r : ℕ) → r < length ps → seat x ps r ≡ set ps r (Some x) ++ get_or ps r None ∷ []
seat_among x [] r l = let z : ⊥ = omega arith in absurd z
seat_among x (p ∷ ps) zero l = refl
seat_among x (p ∷ ps) (suc r) l = ap {B = List Place} (λ qs. p ∷ qs) (seat_among x ps r (omega arith))

seat_end : (x : ℕ) (ps : List Place) (r : ℕ) → r ≡ length ps → seat x ps r ≡ ps ++ Some x ∷ []
seat_end x [] r e = refl
seat_end x (p ∷ ps) zero e = let z : ⊥ = omega (arith, e) in absurd z
seat_end x (p ∷ ps) (suc r) e = ap {B = List Place} (λ qs. p ∷ qs) (seat_end x ps r (omega (arith, e)))

seat_outside : (k x : ℕ) (ps : List Place) (r : ℕ) → k ≤ r → r ≤ length ps → take k (seat x ps r) ≡ take k ps
seat_outside zero x ps r l h = refl
seat_outside (suc k) x [] r l h = let z : ⊥ = omega arith in absurd z
seat_outside (suc k) x (p ∷ ps) zero l h = let z : ⊥ = omega arith in absurd z
seat_outside (suc k) x (p ∷ ps) (suc r) l h = ap {B = List Place} (λ qs. p ∷ qs) (seat_outside k x ps r (omega arith) (omega arith))

pub drawn_seat :
    (k n x : ℕ) (ps : List Place) (r : ℕ) → length ps ≡ n → r ≤ n →
    drawn_places (ltb r k) (ltb r n) (ltb n k) (take k ps) x r ≡ take k (seat x ps r)
drawn_seat k n x ps r e l = go (ltb r k) (ltb r n) (ltb n k) refl refl refl
  where
    go :
        (within among room : Bool) → ltb r k ≡ within → ltb r n ≡ among → ltb n k ≡ room →
        drawn_places within among room (take k ps) x r ≡ take k (seat x ps r)
    go false among room w a o = sym (seat_outside k x ps r (ltb-false r k w) (omega (arith, e)))
    go true true true w a o =
        ap (λ qs. set qs r (Some x) ++ get_or qs r None ∷ []) (take_all k ps (omega (arith, e, ltb-true n k o)))
        ∙ sym (seat_among x ps r (omega (arith, e, ltb-true r n a)))
        ∙ sym (take_all k (seat x ps r) (omega (arith, e, length_seat x ps r, ltb-true n k o)))
    go true true false w a o =
        sym (take_of_set k ps r (Some x))
        ∙ sym (take-append-le k (set ps r (Some x)) (get_or ps r None ∷ []) (omega (arith, e, length-set ps r (Some x), ltb-false n k o)))
        ∙ ap (take k) (sym (seat_among x ps r (omega (arith, e, ltb-true r n a))))
    go true false room w a o =
        ap (λ qs. qs ++ Some x ∷ []) (take_all k ps (omega (arith, e, ltb-true r k w, ltb-false r n a)))
        ∙ sym (seat_end x ps r (omega (arith, e, ltb-false r n a)))
        ∙ sym (take_all k (seat x ps r) (omega (arith, e, length_seat x ps r, ltb-true r k w, ltb-false r n a)))

-- how often a tag stands
pub times_fill : (x : ℕ) (ps : List Place) (r u : ℕ) → times_on (sample (fill x ps r)) u ≤ cond (eqb x u) 1 0 + times_on (sample ps) u
times_fill x [] r u = omega arith
times_fill x (Some t ∷ ps) r u = omega (arith, times_fill x ps r u)
times_fill x (None ∷ ps) zero u = le_refl _
times_fill x (None ∷ ps) (suc r) u = times_fill x ps r u

times_last : (ps : List Place) (p : Place) (u : ℕ) → times_on (sample (ps ++ p ∷ [])) u ≡ times_on (sample (p ∷ ps)) u
times_last [] p u = refl
times_last (None ∷ ps) None u = times_last ps None u
times_last (None ∷ ps) (Some t) u = times_last ps (Some t) u
times_last (Some v ∷ ps) None u = omega (arith, times_last ps None u)
times_last (Some v ∷ ps) (Some t) u = omega (arith, times_last ps (Some t) u)

pub times_seat : (x : ℕ) (ps : List Place) (r u : ℕ) → times_on (sample (seat x ps r)) u ≡ cond (eqb x u) 1 0 + times_on (sample ps) u
times_seat x [] r u = refl
times_seat x (None ∷ ps) zero u = ap (λ k. cond (eqb x u) 1 0 + k) (times_last ps None u)
times_seat x (Some t ∷ ps) zero u = ap (λ k. cond (eqb x u) 1 0 + k) (times_last ps (Some t) u)
times_seat x (None ∷ ps) (suc r) u = times_seat x ps r u
times_seat x (Some t ∷ ps) (suc r) u = omega (arith, times_seat x ps r u)

pub sample_vacate : (x : ℕ) (ps : List Place) → sample (vacate x ps) ≡ without (sample ps) x
sample_vacate x [] = refl
sample_vacate x (None ∷ ps) = sample_vacate x ps
sample_vacate x (Some t ∷ ps) = go (eqb t x) (sample_vacate x ps)
  where
    go :
        (b : Bool) → sample (vacate x ps) ≡ without (sample ps) x →
        sample (cond b (None ∷ ps) (Some t ∷ vacate x ps)) ≡ cond b (sample ps) (t ∷ without (sample ps) x)
    go true h = refl
    go false h = ap {B = List ℕ} (λ ts. t ∷ ts) h

pub times_take : (k : ℕ) (ps : List Place) (u : ℕ) → times_on (sample (take k ps)) u ≤ times_on (sample ps) u
times_take zero ps u = omega arith
times_take (suc k) [] u = omega arith
times_take (suc k) (None ∷ ps) u = times_take k ps u
times_take (suc k) (Some t ∷ ps) u = omega (arith, times_take k ps u)
