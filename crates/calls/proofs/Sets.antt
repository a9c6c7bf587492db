-- Sets of keys, by form, against sets of tags: members have one tag and one form each, so the two are held alike.
use Rattle.std.proofs.Common.{◌≡◌, ℕ, suc, true, false, ◌&&◌, ◌||◌, eqb, ◌⊎◌, List, [], ◌∷◌, length, get_or, is_some, Some, None, Option, sym, refl, ap, ◌∙◌, subst, ap₂, inl, inr, ⊎_elim}
use Rattle.std.specs.List.{AllByRecursion}
use Rattle.std.specs.Str.{bytes_eq}
use Rattle.std.proofs.lemmas.Slice.Eq.{bytes_eq-Decides}
use Rattle.std.proofs.lemmas.Bool.{eqb-true, eq-eqb, and_parts, and_from, or_cases, or_left, or_right, false≢true}
use Rattle.std.proofs.lemmas.Bool.Decides.{same_from_decides, Decides-like, Decides-eqb}
use Rattle.pile.specs.Answers.{Place}
use Rattle.evenness.specs.Events.{has}
use Rattle.evenness.specs.Tapes.{sample as tags_on, has_all, Distinct}
use Rattle.calls.specs.Book.{KeyView, Book, holds_form, tag_of}
use Rattle.calls.specs.Promise.{with_form, sample, has_form, has_forms, same_set, NoRepeats}
use Rattle.calls.proofs.Members.{Member, tags, forms, Differ, Apart, Seated}
use Rattle.calls.proofs.Searches.{same_some, Found, tag_of_finds}

-- some member has this tag and this form
abbrev pub Someone : List Member → (tag : ℕ) (form : List ℕ) → Type 0
Someone [] tag form = ⊥
Someone (x ∷ xs) tag form = ((x.tag ≡ tag) × (x.key.form ≡ form)) ⊎ Someone xs tag form

-- the tags and the forms, one by one, of members
abbrev pub Matched : List Member → (ts : List ℕ) (fs : List (List ℕ)) → Type 0
Matched ms [] [] = Unit {0}
Matched ms [] (f ∷ fs) = ⊥
Matched ms (t ∷ ts) [] = ⊥
Matched ms (t ∷ ts) (f ∷ fs) = Someone ms t f × Matched ms ts fs

-- someone else has another tag and another form
someone_else : (x : Member) (ms : List Member) (t : ℕ) (f : List ℕ) → AllByRecursion (Differ x) ms → Someone ms t f → (t ≡ x.tag → ⊥) × (f ≡ x.key.form → ⊥)
someone_else x [] t f d i = absurd i
someone_else x (y ∷ ms) t f d (inl i) = (λ e. d.0.0 (i.0 ∙ e), λ e. d.0.1 (i.1 ∙ e))
someone_else x (y ∷ ms) t f d (inr i) = someone_else x ms t f d.1 i

module _ (t u : ℕ) (f g : List ℕ) where
  tag_form : (ms : List Member) → Apart ms → Someone ms t f → Someone ms u g → t ≡ u → f ≡ g
  tag_form [] d i j e = absurd i
  tag_form (x ∷ ms) d (inl i) (inl j) e = sym i.1 ∙ j.1
  tag_form (x ∷ ms) d (inl i) (inr j) e = absurd ((someone_else x ms u g d.0 j).0 (sym (i.0 ∙ e)))
  tag_form (x ∷ ms) d (inr i) (inl j) e = absurd ((someone_else x ms t f d.0 i).0 (e ∙ sym j.0))
  tag_form (x ∷ ms) d (inr i) (inr j) e = tag_form ms d.1 i j e

  form_tag : (ms : List Member) → Apart ms → Someone ms t f → Someone ms u g → f ≡ g → t ≡ u
  form_tag [] d i j e = absurd i
  form_tag (x ∷ ms) d (inl i) (inl j) e = sym i.0 ∙ j.0
  form_tag (x ∷ ms) d (inl i) (inr j) e = absurd ((someone_else x ms u g d.0 j).1 (sym (i.1 ∙ e)))
  form_tag (x ∷ ms) d (inr i) (inl j) e = absurd ((someone_else x ms t f d.0 i).1 (e ∙ sym j.1))
  form_tag (x ∷ ms) d (inr i) (inr j) e = form_tag ms d.1 i j e

  same_test : (ms : List Member) → Apart ms → Someone ms t f → Someone ms u g → bytes_eq f g ≡ eqb t u
  same_test ms d i j =
      same_from_decides (bytes_eq f g) (eqb t u) (bytes_eq-Decides f g)
      (Decides-like (eqb t u) (tag_form ms d i j) (form_tag ms d i j) (Decides-eqb t u))

module _ (ms : List Member) (d : Apart ms) where
  same_has : (ts : List ℕ) (fs : List (List ℕ)) (u : ℕ) (g : List ℕ) → Matched ms ts fs → Someone ms u g → has_form fs g ≡ has ts u
  same_has [] [] u g h j = refl
  same_has [] (f ∷ fs) u g h j = absurd h
  same_has (t ∷ ts) [] u g h j = absurd h
  same_has (t ∷ ts) (f ∷ fs) u g h j = ap₂ ◌||◌ (same_test t u f g ms d h.0 j) (same_has ts fs u g h.1 j)

  same_has_all :
      (ts us : List ℕ) (fs gs : List (List ℕ)) → Matched ms ts fs → Matched ms us gs → has_forms fs gs ≡ has_all ts us
  same_has_all ts [] fs [] h j = refl
  same_has_all ts [] fs (g ∷ gs) h j = absurd j
  same_has_all ts (u ∷ us) fs [] h j = absurd j
  same_has_all ts (u ∷ us) fs (g ∷ gs) h j = ap₂ ◌&&◌ (same_has ts fs u g h j.0) (same_has_all ts us fs gs h j.1)

  -- the sets are the same if the tags are
  pub same_sets :
      (ts us : List ℕ) (fs gs : List (List ℕ)) → Matched ms ts fs → Matched ms us gs →
      same_set fs gs ≡ (has_all ts us && has_all us ts)
  same_sets ts us fs gs h j = ap₂ ◌&&◌ (same_has_all ts us fs gs h j) (same_has_all us ts gs fs j h)

  others_differ :
      (t : ℕ) (f : List ℕ) (ts : List ℕ) (fs : List (List ℕ)) → Someone ms t f → Matched ms ts fs →
      AllByRecursion (λ g. g ≡ f → ⊥) fs → AllByRecursion (λ u. u ≡ t → ⊥) ts
  others_differ t f [] [] i h k = tt
  others_differ t f [] (g ∷ fs) i h k = absurd h
  others_differ t f (u ∷ ts) [] i h k = absurd h
  others_differ t f (u ∷ ts) (g ∷ fs) i h k =
      (λ e. k.0 (tag_form u t g f ms d h.0 i e), others_differ t f ts fs i h.1 k.1)

  -- without repetition in the forms there is none in the tags
  pub tags_distinct : (ts : List ℕ) (fs : List (List ℕ)) → Matched ms ts fs → NoRepeats fs → Distinct ts
  tags_distinct [] [] h k = tt
  tags_distinct [] (f ∷ fs) h k = absurd h
  tags_distinct (t ∷ ts) [] h k = absurd h
  tags_distinct (t ∷ ts) (f ∷ fs) h k = (others_differ t f ts fs h.0 h.1 k.0, tags_distinct ts fs h.1 k.1)

someone_tag : (ms : List Member) (t : ℕ) (f : List ℕ) → Someone ms t f → has (tags ms) t ≡ true
someone_tag [] t f i = absurd i
someone_tag (x ∷ ms) t f (inl i) = or_left (eqb x.tag t) (has (tags ms) t) (eq-eqb x.tag t i.0)
someone_tag (x ∷ ms) t f (inr i) = or_right (eqb x.tag t) (has (tags ms) t) (someone_tag ms t f i)

pub matched_among : (ms : List Member) (ts : List ℕ) (fs : List (List ℕ)) → Matched ms ts fs → has_all (tags ms) ts ≡ true
matched_among ms [] [] h = refl
matched_among ms [] (f ∷ fs) h = absurd h
matched_among ms (t ∷ ts) [] h = absurd h
matched_among ms (t ∷ ts) (f ∷ fs) h =
    and_from (has (tags ms) t) (has_all (tags ms) ts) (someone_tag ms t f h.0) (matched_among ms ts fs h.1)

someone_has : (ms : List Member) (t : ℕ) (f : List ℕ) → Someone ms t f → has_form (forms ms) f ≡ true
someone_has [] t f i = absurd i
someone_has (x ∷ ms) t f (inl i) =
    or_left (bytes_eq x.key.form f) (has_form (forms ms) f) ((bytes_eq-Decides x.key.form f).1 i.1)
someone_has (x ∷ ms) t f (inr i) = or_right (bytes_eq x.key.form f) (has_form (forms ms) f) (someone_has ms t f i)

pub matched_forms : (ms : List Member) (ts : List ℕ) (fs : List (List ℕ)) → Matched ms ts fs → has_forms (forms ms) fs ≡ true
matched_forms ms [] [] h = refl
matched_forms ms [] (f ∷ fs) h = absurd h
matched_forms ms (t ∷ ts) [] h = absurd h
matched_forms ms (t ∷ ts) (f ∷ fs) h =
    and_from (has_form (forms ms) f) (has_forms (forms ms) fs) (someone_has ms t f h.0) (matched_forms ms ts fs h.1)

-- of forms that have all of others, each of the others is one
pub forms_have : (fs gs : List (List ℕ)) (f : List ℕ) → has_forms fs gs ≡ true → has_form gs f ≡ true → has_form fs f ≡ true
forms_have fs [] f all on = absurd (false≢true on)
forms_have fs (g ∷ gs) f all on =
    let parts = and_parts (has_form fs g) (has_forms fs gs) all in
    ⊎_elim (λ e. subst (λ (h : List ℕ). has_form fs h ≡ true) ((bytes_eq-Decides g f).0 e) parts.0)
    (λ later. forms_have fs gs f parts.1 later) (or_cases (bytes_eq g f) (has_form gs f) on)

pub matched_length : (ms : List Member) (ts : List ℕ) (fs : List (List ℕ)) → Matched ms ts fs → length ts ≡ length fs
matched_length ms [] [] h = refl
matched_length ms [] (f ∷ fs) h = absurd h
matched_length ms (t ∷ ts) [] h = absurd h
matched_length ms (t ∷ ts) (f ∷ fs) h = ap suc (matched_length ms ts fs h.1)

someone_form : (ms : List Member) (f : List ℕ) → has_form (forms ms) f ≡ true → (t : ℕ) × Someone ms t f
someone_form [] f h = absurd (false≢true h)
someone_form (x ∷ ms) f h =
    ⊎_elim (λ e. (x.tag, inl (refl, (bytes_eq-Decides x.key.form f).0 e)))
    (λ k. let on = someone_form ms f k in (on.0, inr on.1)) (or_cases (bytes_eq x.key.form f) (has_form (forms ms) f) h)

-- forms of members have their tags
pub tags_for : (ms : List Member) (fs : List (List ℕ)) → has_forms (forms ms) fs ≡ true → (ts : List ℕ) × Matched ms ts fs
tags_for ms [] h = ([], tt)
tags_for ms (f ∷ fs) h =
    let parts = and_parts (has_form (forms ms) f) (has_forms (forms ms) fs) h in
    let first = someone_form ms f parts.0 in
    let others = tags_for ms fs parts.1 in
    (first.0 ∷ others.0, (first.1, others.1))

module _ (slots : List (Option KeyView)) where
  someone_on :
      (ms : List Member) (t : ℕ) → AllByRecursion (λ x. get_or slots x.tag None ≡ Some x.key) ms → has (tags ms) t ≡ true →
      (key : KeyView) × (get_or slots t None ≡ Some key) × Someone ms t key.form
  someone_on [] t sits h = absurd (false≢true h)
  someone_on (x ∷ ms) t sits h =
      ⊎_elim
      (λ e. let at = eqb-true x.tag t e in (x.key, ap (λ u. get_or slots u None) (sym at) ∙ sits.0, inl (at, refl)))
      (λ k. let on = someone_on ms t sits.1 k in (on.0, on.1, inr on.2)) (or_cases (eqb x.tag t) (has (tags ms) t) h)

  -- the keys that a search finds are the members
  no_one :
      (ms : List Member) (form : List ℕ) → AllByRecursion (λ x. get_or slots x.tag None ≡ Some x.key) ms →
      ((slot : ℕ) → holds_form form (get_or slots slot None) ≡ false) → has_form (forms ms) form ≡ false
  no_one [] form sits off = refl
  no_one (x ∷ ms) form sits off = ap₂ ◌||◌ (ap (holds_form form) (sym sits.0) ∙ off x.tag) (no_one ms form sits.1 off)

  pub found_member : (ms : List Member) → Seated slots ms → (key : KeyView) → is_some (tag_of slots key) ≡ has_form (forms ms) key.form
  found_member ms s key = by (tag_of slots key) (tag_of_finds slots key)
    where
      on : (tag : ℕ) (o : Option KeyView) → get_or slots tag None ≡ o → holds_form key.form o ≡ true → has_form (forms ms) key.form ≡ true
      on tag None at e = absurd (false≢true e)
      on tag (Some held) at e =
          let who = someone_on ms tag s.sits (s.no_other tag held at) in
          let same = ap (λ (k : KeyView). k.form) (same_some who.0 held (sym who.1 ∙ at)) ∙ (bytes_eq-Decides held.form key.form).0 e in
          someone_has ms tag key.form (subst (Someone ms tag) same who.2)

      by :
          (found : Option ℕ) →
          Found (holds_form key.form) slots found ((slot : ℕ) → holds_form key.form (get_or slots slot None) ≡ false) →
          is_some found ≡ has_form (forms ms) key.form
      by (Some tag) h = sym (on tag (get_or slots tag None) refl h.1)
      by None off = sym (no_one ms key.form s.sits off)

  -- the keys that stand are those of the tags that stand
  pub sample_matched :
      (ms : List Member) (b : Book) (ps : List Place) → b.slots ≡ slots →
      AllByRecursion (λ x. get_or slots x.tag None ≡ Some x.key) ms → has_all (tags ms) (tags_on ps) ≡ true →
      Matched ms (tags_on ps) (sample b ps)
  sample_matched ms b [] same sits h = tt
  sample_matched ms b (None ∷ ps) same sits h = sample_matched ms b ps same sits h
  sample_matched ms b (Some t ∷ ps) same sits h =
      let parts = and_parts (has (tags ms) t) (has_all (tags ms) (tags_on ps)) h in
      let on = someone_on ms t sits parts.0 in
      subst (λ (o : Option KeyView). Matched ms (t ∷ tags_on ps) (with_form o (sample b ps)))
      (sym (ap (λ ss. get_or ss t None) same ∙ on.1)) (on.2, sample_matched ms b ps same sits parts.1)
