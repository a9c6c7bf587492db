-- Lists of tags: who is on them, how often, and what is left when one is taken off.
use Rattle.std.proofs.Common.{◌≡◌, ℕ, ◌+◌, ◌-◌, ◌≤◌, Bool, true, false, cond, ◌&&◌, ◌||◌, eqb, ltb, List, [], ◌∷◌, length, sym, refl, ap, ◌∙◌, subst, ap₂, ⊎_elim, zero-add, arith}
use Rattle.std.specs.List.{AllByRecursion}
use Rattle.std.proofs.lemmas.Bool.{eq-eqb, ne_eqb, eqb-true, eqb-false, both_ways, or_parts, or_left, or_cases, and_parts, lt-ltb, le-ltb, ltb-false}
use Rattle.std.proofs.lemmas.Bool.Decides.{nat_tests}
use Rattle.std.proofs.ByRecursion.{All-weaker}
use Rattle.evenness.specs.Events.{has, without}
use Rattle.evenness.specs.Tapes.{has_all, Distinct}
use Rattle.evenness.proofs.Picks.{Off, here, later, off_all}

pub all_any : (P : ℕ → Type 0) → ((t : ℕ) → P t) → (ts : List ℕ) → AllByRecursion P ts
all_any P f [] = tt
all_any P f (t ∷ ts) = (f t, all_any P f ts)

pub all_two :
    (P Q R : ℕ → Type 0) → ((t : ℕ) → P t → Q t → R t) → (ts : List ℕ) → AllByRecursion P ts → AllByRecursion Q ts → AllByRecursion R ts
all_two P Q R f [] p q = tt
all_two P Q R f (t ∷ ts) p q = (f t p.0 q.0, all_two P Q R f ts p.1 q.1)

-- how many of the tags pass the test
abbrev pub count : (ℕ → Bool) → List ℕ → ℕ
count p [] = 0
count p (t ∷ ts) = cond (p t) 1 0 + count p ts

pub count_same : (p q : ℕ → Bool) (ts : List ℕ) → AllByRecursion (λ t. p t ≡ q t) ts → count p ts ≡ count q ts
count_same p q [] h = refl
count_same p q (t ∷ ts) h = ap₂ ◌+◌ (ap (λ b. cond b 1 0) h.0) (count_same p q ts h.1)

pub off_count : (p : ℕ → Bool) {x : ℕ} {ts rest : List ℕ} → Off x ts rest → count p ts ≡ cond (p x) 1 0 + count p rest
off_count p here = refl
off_count p (later o) = omega (arith, off_count p o)

pub off_distinct : {x : ℕ} {ts rest : List ℕ} → Off x ts rest → Distinct ts → AllByRecursion (λ u. u ≡ x → ⊥) rest × Distinct rest
off_distinct here h = h
off_distinct {x} (later {t} o) h =
    let first = off_all (λ u. u ≡ t → ⊥) o h.0 in
    let rest = off_distinct o h.1 in
    ((λ e. first.0 (sym e), rest.0), (first.1, rest.1))

-- a tag that is on the list can be taken off it, and one that is not differs from all
pub has_off : (ts : List ℕ) (x : ℕ) → has ts x ≡ true → Off x ts (without ts x)
has_off [] x h = absurd (both_ways false refl h)
has_off (t ∷ ts) x h = go (eqb t x) refl h (has_off ts x)
  where
    go :
        (b : Bool) → eqb t x ≡ b → (b || has ts x) ≡ true → (has ts x ≡ true → Off x ts (without ts x)) →
        Off x (t ∷ ts) (cond b ts (t ∷ without ts x))
    go true e h further = subst (λ (y : ℕ). Off y (t ∷ ts) ts) (eqb-true t x e) here
    go false e h further = later (further h)

pub not_on : (ts : List ℕ) (x : ℕ) → has ts x ≡ false → AllByRecursion (λ u. u ≡ x → ⊥) ts
not_on [] x h = tt
not_on (t ∷ ts) x h =
    let parts = or_parts (eqb t x) (has ts x) h in
    (eqb-false t x parts.0, not_on ts x parts.1)

pub has_front : (ts : List ℕ) (x : ℕ) → has (x ∷ ts) x ≡ true
has_front ts x = or_left (eqb x x) (has ts x) (eq-eqb x x refl)

-- to take one tag off leaves the others
pub has_without : (ts : List ℕ) (x u : ℕ) → (u ≡ x → ⊥) → has (without ts x) u ≡ has ts u
has_without [] x u ne = refl
has_without (t ∷ ts) x u ne = go (eqb t x) refl (has_without ts x u ne)
  where
    go : (b : Bool) → eqb t x ≡ b → has (without ts x) u ≡ has ts u → has (cond b ts (t ∷ without ts x)) u ≡ (eqb t u || has ts u)
    go true e further = rw (ne_eqb t u (λ q. ne (sym q ∙ eqb-true t x e)))
    go false e further = ap (λ b. eqb t u || b) further

-- a list that needs x is met by x and the others exactly if the others meet what else it needs
pub has_all_not_on : (ts others : List ℕ) (x : ℕ) → AllByRecursion (λ u. u ≡ x → ⊥) others → has_all (x ∷ ts) others ≡ has_all ts others
has_all_not_on ts [] x off = refl
has_all_not_on ts (u ∷ us) x off =
    ap₂ ◌&&◌ (ap (λ b. b || has ts u) (ne_eqb x u (λ e. off.0 (sym e)))) (has_all_not_on ts us x off.1)

pub has_all_off :
    (ts : List ℕ) (x : ℕ) {others rest : List ℕ} → Off x others rest → Distinct others → has_all (x ∷ ts) others ≡ has_all ts rest
has_all_off ts x (here {ts = rest}) d = ap (λ b. b && has_all (x ∷ ts) rest) (has_front ts x) ∙ has_all_not_on ts rest x d.0
has_all_off ts x (later {t = u} o) d =
    ap₂ ◌&&◌ (ap (λ b. b || has ts u) (ne_eqb x u (off_all (λ v. v ≡ u → ⊥) o d.0).0)) (has_all_off ts x o d.1)

pub has_all_has : (ts others : List ℕ) (x : ℕ) → has_all ts others ≡ true → has others x ≡ true → has ts x ≡ true
has_all_has ts [] x all on = absurd (both_ways false refl on)
has_all_has ts (u ∷ us) x all on =
    let parts = and_parts (has ts u) (has_all ts us) all in
    ⊎_elim (λ e. subst (λ (y : ℕ). has ts y ≡ true) (eqb-true u x e) parts.0) (λ later. has_all_has ts us x parts.1 later)
    (or_cases (eqb u x) (has us x) on)

pub not_has : (ts : List ℕ) (x : ℕ) → AllByRecursion (λ u. u ≡ x → ⊥) ts → has ts x ≡ false
not_has [] x off = refl
not_has (t ∷ ts) x off = ap₂ ◌||◌ (ne_eqb t x off.0) (not_has ts x off.1)

-- every tag of a set that is among distinct tags is counted once among them
pub count_has : (ts set : List ℕ) → Distinct ts → Distinct set → has_all ts set ≡ true → count (has set) ts ≡ length set
count_has ts [] d e h = none ts
  where
    none : (ts : List ℕ) → count (λ t. false) ts ≡ 0
    none [] = refl
    none (t ∷ ts) = omega (arith, none ts)
count_has ts (s ∷ set) d e h =
    let on = and_parts (has ts s) (has_all ts set) h in
    let o = has_off ts s on.0 in
    let rest = without ts s in
    let first = off_count (has (s ∷ set)) o ∙ ap (λ b. cond b 1 0 + count (has (s ∷ set)) rest) (has_front set s) in
    let others =
    count_same (has (s ∷ set)) (has set) rest
    (All-weaker (λ u. u ≡ s → ⊥) (λ u. has (s ∷ set) u ≡ has set u) (λ u ne. ap (λ b. b || has set u) (ne_eqb s u (λ q. ne (sym q)))) rest (off_distinct o d).0) in
    let before = off_count (has set) o ∙ ap (λ b. cond b 1 0 + count (has set) rest) (not_has set s e.0) in
    omega (arith, first, others, before, count_has ts set d e.1 on.1)

-- how often a tag is on the list
abbrev pub times_on : (ts : List ℕ) (x : ℕ) → ℕ
times_on ts x = count (λ t. eqb t x) ts

pub times_without : (ts : List ℕ) (x u : ℕ) → times_on (without ts x) u ≡ times_on ts u - cond (eqb x u) 1 0
times_without [] x u = grind arith
times_without (t ∷ ts) x u = go (eqb t x) refl (times_without ts x u)
  where
    go :
        (b : Bool) → eqb t x ≡ b → times_on (without ts x) u ≡ times_on ts u - cond (eqb x u) 1 0 →
        times_on (cond b ts (t ∷ without ts x)) u ≡ cond (eqb t u) 1 0 + times_on ts u - cond (eqb x u) 1 0
    go true e h = let same : eqb t u ≡ eqb x u = ap (λ y. eqb y u) (eqb-true t x e) in grind arith
    go false e h = grind (arith, nat_tests)

pub has_times : (ts : List ℕ) (x : ℕ) → has ts x ≡ ltb 0 (times_on ts x)
has_times [] x = refl
has_times (t ∷ ts) x = go (eqb t x) (has_times ts x)
  where
    go : (b : Bool) → has ts x ≡ ltb 0 (times_on ts x) → (b || has ts x) ≡ ltb 0 (cond b 1 0 + times_on ts x)
    go true h = sym (lt-ltb 0 (1 + times_on ts x) (omega arith))
    go false h = h ∙ ap (ltb 0) (sym (zero-add (times_on ts x)))

pub distinct_times : (ts : List ℕ) → Distinct ts → (u : ℕ) → times_on ts u ≤ 1
distinct_times [] d u = omega arith
distinct_times (t ∷ ts) d u = go (eqb t u) refl (distinct_times ts d.1 u)
  where
    go : (b : Bool) → eqb t u ≡ b → times_on ts u ≤ 1 → cond b 1 0 + times_on ts u ≤ 1
    go true e h =
        let off = not_has ts u (subst (λ (x : ℕ). AllByRecursion (λ v. v ≡ x → ⊥) ts) (eqb-true t u e) d.0) in
        omega (arith, ltb-false 0 (times_on ts u) (sym (has_times ts u) ∙ off))
    go false e h = omega arith

pub times_distinct : (ts : List ℕ) → ((u : ℕ) → times_on ts u ≤ 1) → Distinct ts
times_distinct [] h = tt
times_distinct (t ∷ ts) h =
    let once : times_on ts t ≤ 0 = omega (arith, ap (λ b. cond b 1 0 + times_on ts t) (eq-eqb t t refl), h t) in
    (not_on ts t (has_times ts t ∙ le-ltb 0 (times_on ts t) once), times_distinct ts (λ u. omega (arith, h u)))
