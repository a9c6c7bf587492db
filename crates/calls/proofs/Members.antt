-- The live keys with their tags: who they are after an entry and after a leave, and that the slots hold just them.
use Rattle.std.proofs.Common.{◌≡◌, ℕ, suc, Bool, true, false, cond, ◌||◌, eqb, List, [], ◌∷◌, length, get_or, set, Some, None, Option, sym, refl, ap, ◌∙◌, subst, ap₂, ⊎_elim}
use Rattle.std.specs.List.{AllByRecursion}
use Rattle.std.specs.Str.{bytes_eq}
use Rattle.std.proofs.ByRecursion.{All-weaker}
use Rattle.std.proofs.lemmas.Slice.Eq.{bytes_eq-Decides}
use Rattle.std.proofs.lemmas.List.{get_or-set_same, get_or-set_other}
use Rattle.std.proofs.lemmas.Bool.{eq-eqb, ne_eqb, eqb-true, or_left, or_right, or_cases, cases_eq, cases_Bool, false≢true}
use Rattle.std.proofs.lemmas.Bool.Decides.{not_from_Decides}
use Rattle.evenness.specs.Events.{has, without}
use Rattle.calls.specs.Book.{KeyView, OpenEntry, holds_form}
use Rattle.calls.specs.Past.{without_key, forms_of, counted_forms_of}
use Rattle.calls.specs.Kept.{Openable}
use Rattle.calls.proofs.Searches.{none_some, same_some, held_below}

pub record Member : Type 0 where
  pub key : KeyView
  pub tag : ℕ

abbrev pub keys : List Member → List KeyView
keys [] = []
keys (x ∷ xs) = x.key ∷ keys xs

abbrev pub tags : List Member → List ℕ
tags [] = []
tags (x ∷ xs) = x.tag ∷ tags xs

abbrev pub forms : List Member → List (List ℕ)
forms [] = []
forms (x ∷ xs) = x.key.form ∷ forms xs

-- those whose class is counted
abbrev pub counted_among : (ℕ → Bool) → List Member → List Member
counted_among counted [] = []
counted_among counted (x ∷ xs) = cond (counted x.key.class) (x ∷ counted_among counted xs) (counted_among counted xs)

-- all but the one with the tag
abbrev pub all_but : List Member → (tag : ℕ) → List Member
all_but [] tag = []
all_but (x ∷ xs) tag = cond (eqb x.tag tag) xs (x ∷ all_but xs tag)

-- no two have one tag, and no two have one form
abbrev pub Differ : Member → Member → Type 0
Differ x y = (y.tag ≡ x.tag → ⊥) × (y.key.form ≡ x.key.form → ⊥)

abbrev pub Apart : List Member → Type 0
Apart [] = Unit {0}
Apart (x ∷ xs) = AllByRecursion (Differ x) xs × Apart xs

-- the slots hold the members, each under its tag, and no one else
pub record Seated (slots : List (Option KeyView)) (ms : List Member) : Type 0 where
  pub sits : AllByRecursion (λ x. get_or slots x.tag None ≡ Some x.key) ms
  pub apart : Apart ms
  pub no_other : (tag : ℕ) (key : KeyView) → get_or slots tag None ≡ Some key → has (tags ms) tag ≡ true

pub form_same : (f : List ℕ) → bytes_eq f f ≡ true
form_same f = (bytes_eq-Decides f f).1 refl

pub form_other : (f g : List ℕ) → (f ≡ g → ⊥) → bytes_eq f g ≡ false
form_other f g ne = ⊎_elim (λ same. absurd (ne ((bytes_eq-Decides f g).0 same))) (λ other. other) (cases_Bool (bytes_eq f g))

pub form_differs : (f g : List ℕ) → bytes_eq f g ≡ false → f ≡ g → ⊥
form_differs f g = not_from_Decides (bytes_eq f g) (bytes_eq-Decides f g)

-- an entry
abbrev pub newcomer : OpenEntry → Member
newcomer entry = record { key = entry.key; tag = entry.tag }

module _ (slots : List (Option KeyView)) (entry : OpenEntry) (fits : Openable slots entry) where
  unlike : (x : Member) → get_or slots x.tag None ≡ Some x.key → Differ (newcomer entry) x
  unlike x at = (
    λ e. none_some x.key (sym (ap (λ t. get_or slots t None) e ∙ fits.free) ∙ at),
    form_differs x.key.form entry.key.form (ap (holds_form entry.key.form) (sym at) ∙ fits.not_live x.tag),
  )

  pub seated_more : (ms : List Member) → Seated slots ms → Seated (set slots entry.tag (Some entry.key)) (newcomer entry ∷ ms)
  seated_more ms s =
      record {
        sits = (
          get_or-set_same slots entry.tag (Some entry.key) None fits.below,
          All-weaker (λ x. get_or slots x.tag None ≡ Some x.key)
              (λ x. get_or (set slots entry.tag (Some entry.key)) x.tag None ≡ Some x.key)
              (λ x at. get_or-set_other slots entry.tag x.tag (Some entry.key) None (unlike x at).0 ∙ at) ms s.sits,
        );
        apart = (All-weaker (λ x. get_or slots x.tag None ≡ Some x.key) (Differ (newcomer entry)) unlike ms s.sits, s.apart);
        no_other =
            λ tag key at.
            ⊎_elim (λ e. or_left (eqb entry.tag tag) (has (tags ms) tag) (eq-eqb entry.tag tag (sym e)))
            (λ ne.
            or_right (eqb entry.tag tag) (has (tags ms) tag)
            (s.no_other tag key (sym (get_or-set_other slots entry.tag tag (Some entry.key) None ne) ∙ at)))
            (cases_eq tag entry.tag);
      }

-- a leave: `rest` is the list without x
pub data Off (x : Member) : (ms rest : List Member) → Type 0 where
  here : {ms : List Member} → Off x (x ∷ ms) ms
  later : {y : Member} {ms rest : List Member} → Off x ms rest → Off x (y ∷ ms) (y ∷ rest)

pub off_all : (P : Member → Type 0) {x : Member} {ms rest : List Member} → Off x ms rest → AllByRecursion P ms → P x × AllByRecursion P rest
off_all P here h = h
off_all P (later o) h = let k = off_all P o h.1 in (k.0, (h.0, k.1))

differ_back : (x y : Member) → Differ x y → Differ y x
differ_back x y d = (λ e. d.0 (sym e), λ e. d.1 (sym e))

-- the one taken off differs from the rest
off_apart : {x : Member} {ms rest : List Member} → Off x ms rest → Apart ms → AllByRecursion (Differ x) rest × Apart rest
off_apart here h = h
off_apart {x} (later {y} o) h =
    let first = off_all (Differ y) o h.0 in
    let others = off_apart o h.1 in
    ((differ_back y x first.0, others.0), (first.1, others.1))

off_keys : {x : Member} {ms rest : List Member} → Off x ms rest → Apart ms → without_key (keys ms) x.key.form ≡ keys rest
off_keys {x} (here {ms}) h = ap (λ b. cond b (keys ms) (x.key ∷ without_key (keys ms) x.key.form)) (form_same x.key.form)
off_keys {x} (later {y} {ms} o) h =
    ap (λ b. cond b (keys ms) (y.key ∷ without_key (keys ms) x.key.form))
    (form_other y.key.form x.key.form (λ e. (off_all (Differ y) o h.0).0.1 (sym e)))
    ∙ ap (λ ks. y.key ∷ ks) (off_keys o h.1)

module _ (counted : ℕ → Bool) where
  off_uncounted : {x : Member} {ms rest : List Member} → Off x ms rest → counted x.key.class ≡ false → counted_among counted ms ≡ counted_among counted rest
  off_uncounted {x} (here {ms}) c = ap (λ b. cond b (x ∷ counted_among counted ms) (counted_among counted ms)) c
  off_uncounted {x} (later {y} {ms} {rest} o) c = ap (λ xs. cond (counted y.key.class) (y ∷ xs) xs) (off_uncounted o c)

  off_counted :
      {x : Member} {ms rest : List Member} → Off x ms rest → Apart ms → counted x.key.class ≡ true →
      without (tags (counted_among counted ms)) x.tag ≡ tags (counted_among counted rest)
  off_counted {x} (here {ms}) h c =
      ap (λ b. without (tags (cond b (x ∷ counted_among counted ms) (counted_among counted ms))) x.tag) c
      ∙ ap (λ b. cond b (tags (counted_among counted ms)) (x.tag ∷ without (tags (counted_among counted ms)) x.tag)) (eq-eqb x.tag x.tag refl)
  off_counted {x} (later {y} {ms} {rest} o) h c = by (counted y.key.class) (off_counted o h.1 c)
    where
      by :
          (b : Bool) → without (tags (counted_among counted ms)) x.tag ≡ tags (counted_among counted rest) →
          without (tags (cond b (y ∷ counted_among counted ms) (counted_among counted ms))) x.tag
          ≡ tags (cond b (y ∷ counted_among counted rest) (counted_among counted rest))
      by true ih =
          ap (λ b. cond b (tags (counted_among counted ms)) (y.tag ∷ without (tags (counted_among counted ms)) x.tag))
          (ne_eqb y.tag x.tag (λ e. (off_all (Differ y) o h.0).0.0 (sym e)))
          ∙ ap (λ ts. y.tag ∷ ts) ih
      by false ih = ih

  off_has :
      {x : Member} {ms rest : List Member} → Off x ms rest → counted x.key.class ≡ true →
      has (tags (counted_among counted ms)) x.tag ≡ true
  off_has {x} (here {ms}) c =
      ap (λ b. has (tags (cond b (x ∷ counted_among counted ms) (counted_among counted ms))) x.tag) c
      ∙ or_left (eqb x.tag x.tag) (has (tags (counted_among counted ms)) x.tag) (eq-eqb x.tag x.tag refl)
  off_has {x} (later {y} {ms} o) c = by (counted y.key.class) (off_has o c)
    where
      by :
          (b : Bool) → has (tags (counted_among counted ms)) x.tag ≡ true →
          has (tags (cond b (y ∷ counted_among counted ms) (counted_among counted ms))) x.tag ≡ true
      by true ih = or_right (eqb y.tag x.tag) (has (tags (counted_among counted ms)) x.tag) ih
      by false ih = ih

off_tags : {x : Member} {ms rest : List Member} → Off x ms rest → (tag : ℕ) → (tag ≡ x.tag → ⊥) → has (tags ms) tag ≡ true → has (tags rest) tag ≡ true
off_tags {x} (here {ms}) tag ne h =
    ⊎_elim (λ e. absurd (ne (sym (eqb-true x.tag tag e)))) (λ k. k) (or_cases (eqb x.tag tag) (has (tags ms) tag) h)
off_tags {x} (later {y} {ms} {rest} o) tag ne h =
    ⊎_elim (λ e. or_left (eqb y.tag tag) (has (tags rest) tag) e)
    (λ k. or_right (eqb y.tag tag) (has (tags rest) tag) (off_tags o tag ne k)) (or_cases (eqb y.tag tag) (has (tags ms) tag) h)

module _ (slots : List (Option KeyView)) (key : KeyView) (tag : ℕ) (held : get_or slots tag None ≡ Some key) where
  abbrev pub leaver : Member
  leaver = record { key = key; tag = tag }

  seated_off : (ms : List Member) → AllByRecursion (λ x. get_or slots x.tag None ≡ Some x.key) ms → has (tags ms) tag ≡ true → Off leaver ms (all_but ms tag)
  seated_off [] sits on = absurd (false≢true on)
  seated_off (x ∷ ms) sits on = by (eqb x.tag tag) refl on (seated_off ms sits.1)
    where
      by :
          (b : Bool) → eqb x.tag tag ≡ b → (b || has (tags ms) tag) ≡ true →
          (has (tags ms) tag ≡ true → Off leaver ms (all_but ms tag)) →
          Off leaver (x ∷ ms) (cond b ms (x ∷ all_but ms tag))
      by true e on further =
          let t = eqb-true x.tag tag e in
          let k = same_some x.key key (sym sits.0 ∙ ap (λ u. get_or slots u None) t ∙ held) in
          let same : leaver ≡ x = λ i. record { key = sym k i; tag = sym t i } in
          subst (λ (y : Member). Off leaver (y ∷ ms) ms) same here
      by false e on further = later (further on)

  pub leaver_off : (ms : List Member) → Seated slots ms → Off leaver ms (all_but ms tag)
  leaver_off ms s = seated_off ms s.sits (s.no_other tag key held)

  pub seated_fewer : (ms : List Member) → Seated slots ms → Seated (set slots tag None) (all_but ms tag)
  seated_fewer ms s =
      let o = leaver_off ms s in
      let others = off_apart o s.apart in
      let rest = all_but ms tag in
      let sits = (off_all (λ x. get_or slots x.tag None ≡ Some x.key) o s.sits).1 in
      record {
        sits = still rest others.0 sits;
        apart = others.1;
        no_other =
            λ t k at.
            ⊎_elim
            (λ e.
            absurd
            (none_some k
            (sym (ap (λ u. get_or (set slots tag None) u None) e ∙ get_or-set_same slots tag None None (held_below slots tag key held)) ∙ at)))
            (λ ne. off_tags o t ne (s.no_other t k (sym (get_or-set_other slots tag t None None ne) ∙ at))) (cases_eq t tag);
      }
    where
      still :
          (rest : List Member) → AllByRecursion (Differ leaver) rest →
          AllByRecursion (λ x. get_or slots x.tag None ≡ Some x.key) rest →
          AllByRecursion (λ x. get_or (set slots tag None) x.tag None ≡ Some x.key) rest
      still [] d at = tt
      still (x ∷ rest) d at = (get_or-set_other slots tag x.tag None None d.0.0 ∙ at.0, still rest d.1 at.1)

  pub keys_fewer : (ms : List Member) → Seated slots ms → without_key (keys ms) key.form ≡ keys (all_but ms tag)
  keys_fewer ms s = off_keys (leaver_off ms s) s.apart

  pub tags_fewer :
      (counted : ℕ → Bool) (ms : List Member) → Seated slots ms → counted key.class ≡ true →
      without (tags (counted_among counted ms)) tag ≡ tags (counted_among counted (all_but ms tag))
  tags_fewer counted ms s c = off_counted counted (leaver_off ms s) s.apart c

  pub tags_same :
      (counted : ℕ → Bool) (ms : List Member) → Seated slots ms → counted key.class ≡ false →
      tags (counted_among counted ms) ≡ tags (counted_among counted (all_but ms tag))
  tags_same counted ms s c = ap tags (off_uncounted counted (leaver_off ms s) c)

  pub tags_have :
      (counted : ℕ → Bool) (ms : List Member) → Seated slots ms → counted key.class ≡ true →
      has (tags (counted_among counted ms)) tag ≡ true
  tags_have counted ms s c = off_has counted (leaver_off ms s) c

pub forms_of_keys : (ms : List Member) → forms_of (keys ms) ≡ forms ms
forms_of_keys [] = refl
forms_of_keys (x ∷ ms) = ap (λ fs. x.key.form ∷ fs) (forms_of_keys ms)

-- the forms and the tags of the counted members
pub counted_forms : (counted : ℕ → Bool) (ms : List Member) → counted_forms_of counted (keys ms) ≡ forms (counted_among counted ms)
counted_forms counted [] = refl
counted_forms counted (x ∷ ms) = by (counted x.key.class) (counted_forms counted ms)
  where
    by :
        (b : Bool) → counted_forms_of counted (keys ms) ≡ forms (counted_among counted ms) →
        cond b (x.key.form ∷ counted_forms_of counted (keys ms)) (counted_forms_of counted (keys ms))
        ≡ forms (cond b (x ∷ counted_among counted ms) (counted_among counted ms))
    by true ih = ap (λ fs. x.key.form ∷ fs) ih
    by false ih = ih

pub length_forms : (ms : List Member) → length (forms ms) ≡ length (tags ms)
length_forms [] = refl
length_forms (x ∷ ms) = ap suc (length_forms ms)

pub all_counted : (P : Member → Type 0) (counted : ℕ → Bool) (ms : List Member) → AllByRecursion P ms → AllByRecursion P (counted_among counted ms)
all_counted P counted [] h = tt
all_counted P counted (x ∷ ms) h = by (counted x.key.class) (all_counted P counted ms h.1)
  where
    by : (b : Bool) → AllByRecursion P (counted_among counted ms) → AllByRecursion P (cond b (x ∷ counted_among counted ms) (counted_among counted ms))
    by true ih = (h.0, ih)
    by false ih = ih

pub apart_counted : (counted : ℕ → Bool) (ms : List Member) → Apart ms → Apart (counted_among counted ms)
apart_counted counted [] h = tt
apart_counted counted (x ∷ ms) h = by (counted x.key.class) (apart_counted counted ms h.1)
  where
    by : (b : Bool) → Apart (counted_among counted ms) → Apart (cond b (x ∷ counted_among counted ms) (counted_among counted ms))
    by true ih = (all_counted (Differ x) counted ms h.0, ih)
    by false ih = ih

-- the tag of a free slot is no member's
pub tags_lack :
    (slots : List (Option KeyView)) (tag : ℕ) → get_or slots tag None ≡ None → (ms : List Member) →
    AllByRecursion (λ x. get_or slots x.tag None ≡ Some x.key) ms → has (tags ms) tag ≡ false
tags_lack slots tag free [] sits = refl
tags_lack slots tag free (x ∷ ms) sits =
    ap₂ ◌||◌ (ne_eqb x.tag tag (λ e. none_some x.key (sym (ap (λ t. get_or slots t None) e ∙ free) ∙ sits.0)))
    (tags_lack slots tag free ms sits.1)
