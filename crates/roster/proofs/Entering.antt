-- An enter is its admit, its draw and its settle.
use Rattle.std.proofs.Common.{◌≡◌, ℕ, ◌<◌, Bool, true, false, ◌&&◌, eqb, ltb, ◌⊎◌, List, [], ◌∷◌, length, drop, Some, None, Option, sym, refl, ap, ◌∙◌, subst, inl, inr, arith}
use mathlib.Core.Path.{fun_ext}
use Rattle.std.proofs.lemmas.Bool.{lt-ltb, eq-eqb}
use Rattle.pile.specs.declared.receipts.EntryReceipt.{EntryReceipt}
use Rattle.pile.specs.Answers.{Told, told, refused}
use Rattle.pile.specs.Meaning.{Meaning}
use Rattle.pile.specs.Rules.{radix_rule, entry_rule}
use Rattle.sources.specs.Answers.{Refusal, drew, refused as refuses_draw}
use Rattle.sources.specs.Courses.{Given, before}
use Rattle.calls.specs.Book.{KeyView, OpenEntry, Book, live_count, tag_of, free_tag}
use Rattle.calls.specs.Calls.{Verdict, refuses, opens, admit, settle, withdraw, enter, withdraw_open, withdraw_when, is_slip, calls_for, admit_verdict, admit_lawful, admit_open, admit_live, admit_room, admit_radix, enter_verdict}
use Rattle.calls.specs.Steps.{Answer, refusal, source_refusal, slip, entered, Step, step, carried_out, gives, settle_supplied, settle_drawn, opened, settled, entry_answer}
use Rattle.calls.specs.Runs.{supplied, drawn_below, enter_supply}
use Rattle.calls.proofs.Piles.{entry_told}
use Rattle.roster.specs.Entering.{enter_step, Moved}
use Rattle.roster.proofs.Slips.{settled_step, withdraws_with}

-- What an admit comes to: a refusal, or an entry for the key with the radix that the pile calls for.
pub record Opens (b : Book) (m : Meaning) (key : KeyView) (v : Verdict) : Type 0 where
  pub tag : ℕ
  pub radix : ℕ
  pub verdict_is : v ≡ opens (record { key = key; tag = tag; radix = radix })
  pub called : radix_rule m key.class ≡ told radix
  pub closed_before : b.entry ≡ None

abbrev Refuses : Verdict → Type 0
Refuses v = (number : ℕ) × (v ≡ refuses number)

module _ (b : Book) (m : Meaning) (key : KeyView) where
  abbrev Came : Verdict → Type 0
  Came v = Refuses v ⊎ Opens b m key v

  by_radix : (called : Told ℕ) (tag : ℕ) → radix_rule m key.class ≡ called → b.entry ≡ None → Came (admit_radix called key tag)
  by_radix (refused number) tag e none = inl (number, refl)
  by_radix (told radix) tag e none = inr (record { tag = tag; radix = radix; verdict_is = refl; called = e; closed_before = none })

  by_room : (room : Bool) (free : Option ℕ) → b.entry ≡ None → Came (admit_room room free (radix_rule m key.class) key)
  by_room false free none = inl (9, refl)
  by_room true None none = inl (9, refl)
  by_room true (Some tag) none = by_radix (radix_rule m key.class) tag refl none

  by_live : (live : Option ℕ) → b.entry ≡ None → Came (admit_live live b (radix_rule m key.class) key)
  by_live (Some tag) none = inl (8, refl)
  by_live None none = by_room (ltb (live_count b.slots) (length b.slots)) (free_tag b.slots key) none

  by_open : (waits : Option OpenEntry) → b.entry ≡ waits → Came (admit_open waits b (radix_rule m key.class) key)
  by_open (Some entry) e = inl (7, refl)
  by_open None e = by_live (tag_of b.slots key) e

  by_lawful : (lawful : Bool) → Came (admit_lawful lawful b (radix_rule m key.class) key)
  by_lawful false = inl (6, refl)
  by_lawful true = by_open b.entry refl

  came : Came (admit_verdict b m key)
  came = by_lawful key.lawful

  abbrev admitted : Step
  admitted = step b m (admit key) (gives 0)

  -- an admit that is refused, and one that is not, by its answer
  pub admit_refused : (number : ℕ) → refusal number ≡ admitted.answer → admit_verdict b m key ≡ refuses number
  admit_refused number e = by came
    where
      by : Came (admit_verdict b m key) → admit_verdict b m key ≡ refuses number
      by (inl r) =
          let same : refusal number ≡ refusal r.0 = e ∙ ap (λ (v : Verdict). (carried_out v (gives 0) b m).answer) r.1 in
          let equal : number ≡ r.0 = cc in r.1 ∙ ap refuses (sym equal)
      by (inr o) =
          let other : refusal number ≡ slip o.tag key.class o.radix = e ∙ ap (λ (v : Verdict). (carried_out v (gives 0) b m).answer) o.verdict_is in
          let z : ◌≡◌ {A = ℕ} 0 1 = cc in let no_way : ⊥ = omega arith in absurd no_way

  module _ (tag class radix : ℕ) (e : slip tag class radix ≡ admitted.answer) where
    abbrev its_entry : OpenEntry
    its_entry = record { key = key; tag = tag; radix = radix }

    pub record Admitted : Type 0 where
      pub verdict_is : admit_verdict b m key ≡ opens its_entry
      pub class_is : class ≡ key.class
      pub called : radix_rule m class ≡ told radix
      pub closed_before : b.entry ≡ None

    pub admit_opened : Admitted
    admit_opened = by came
      where
        by : Came (admit_verdict b m key) → Admitted
        by (inl r) =
            let other : slip tag class radix ≡ refusal r.0 = e ∙ ap (λ (v : Verdict). (carried_out v (gives 0) b m).answer) r.1 in
            let z : ◌≡◌ {A = ℕ} 0 1 = cc in let no_way : ⊥ = omega arith in absurd no_way
        by (inr o) =
            let same : slip tag class radix ≡ slip o.tag key.class o.radix = e ∙ ap (λ (v : Verdict). (carried_out v (gives 0) b m).answer) o.verdict_is in
            let tags : tag ≡ o.tag = cc in
            let classes : class ≡ key.class = cc in
            let radices : radix ≡ o.radix = cc in
            record {
              verdict_is = o.verdict_is ∙ ap (λ t. opens (record { key = key; tag = t; radix = o.radix })) (sym tags) ∙ ap (λ n. opens (record { key = key; tag = tag; radix = n })) (sym radices);
              class_is = classes;
              called = ap (radix_rule m) classes ∙ o.called ∙ ap told (sym radices);
              closed_before = o.closed_before;
            }

  -- the roster that the admit left
  module _ (tag class radix : ℕ) (e : slip tag class radix ≡ admitted.answer) (waits : Book) (left : waits ≡ admitted.book) where
    o : Admitted tag class radix e
    o = admit_opened tag class radix e

    abbrev entry : OpenEntry
    entry = its_entry tag class radix e

    is_opened : waits ≡ opened b entry
    is_opened = left ∙ ap (λ (v : Verdict). (carried_out v (gives 0) b m).book) o.verdict_is

    fits : is_slip entry tag class radix ≡ true
    fits =
        ap (λ x. x && eqb key.class class && eqb radix radix) (eq-eqb tag tag refl)
        ∙ ap (λ x. x && eqb radix radix) (eq-eqb key.class class (sym o.class_is)) ∙ eq-eqb radix radix refl

    is_called : calls_for (radix_rule m class) radix ≡ true
    is_called = ap (λ c. calls_for c radix) o.called ∙ eq-eqb radix radix refl

    module _ (course : List ℕ → Given) where
      entering : enter_step b m course key ≡ settle_supplied (supplied radix (course (radix ∷ []))) b m entry
      entering = ap (λ (v : Verdict). carried_out (enter_verdict v) (enter_supply (enter_verdict v) course) b m) o.verdict_is

      -- with a draw of the source it is the settle
      pub enter_drawn : (draw : ℕ) (later : Given) → draw < radix → course (radix ∷ []) ≡ before (drew draw) later → step waits m (settle tag class radix) (gives draw) ≡ enter_step b m course key
      enter_drawn draw later below gave =
          ap (λ w. step w m (settle tag class radix) (gives draw)) is_opened
          ∙ settled_step (opened b entry) m entry tag class radix draw refl fits is_called below
          ∙ ap (λ k. record { answer = entry_answer (entry_rule m tag k draw).answer; book = settled b entry; pile = (entry_rule m tag k draw).after }) o.class_is
          ∙ sym (ap (λ x. settle_drawn x b m entry draw) (lt-ltb draw radix below))
          ∙ sym (ap (λ x. settle_supplied (drawn_below x draw) b m entry) (lt-ltb draw radix below))
          ∙ sym (ap (λ g. settle_supplied (supplied radix g) b m entry) gave)
          ∙ sym entering

      -- and where the source refuses, the roster is as before
      pub enter_undrawn : (r : Refusal) (later : Given) → course (radix ∷ []) ≡ before (refuses_draw r) later → enter_step b m course key ≡ record { answer = source_refusal r.number r.byte; book = b; pile = m }
      enter_undrawn r later gave = entering ∙ ap (λ g. settle_supplied (supplied radix g) b m entry) gave

    pub withdrawn_again : (step waits m (withdraw tag class radix) (gives 0)).book ≡ b
    withdrawn_again =
        ap (λ w. (step w m (withdraw tag class radix) (gives 0)).book) is_opened
        ∙ ap (λ (v : Verdict). (carried_out v (gives 0) (opened b entry) m).book) (withdraws_with (Some entry) entry tag class radix refl fits)
        ∙ ap (λ x. record { slots = b.slots; entry = x }) (sym o.closed_before)

    -- what the settle answers
    pub settle_enters : (draw : ℕ) → draw < radix → (place : Option ℕ) × ((step waits m (settle tag class radix) (gives draw)).answer ≡ entered (record { radix = radix; draw = draw; place = place }))
    settle_enters draw below =
        let t = entry_told m tag class draw radix o.called below in (
          t.0,
          ap (λ w. (step w m (settle tag class radix) (gives draw)).answer) is_opened
              ∙ ap (λ (s : Step). s.answer) (settled_step (opened b entry) m entry tag class radix draw refl fits is_called below)
              ∙ ap entry_answer t.1,
        )

  pub enter_refused : (course : List ℕ → Given) (number : ℕ) → refusal number ≡ admitted.answer → enter_step b m course key ≡ record { answer = refusal number; book = b; pile = m }
  enter_refused course number e =
      ap (λ (v : Verdict). carried_out (enter_verdict v) (enter_supply (enter_verdict v) course) b m) (admit_refused number e)

  pub refused_book : (number : ℕ) → refusal number ≡ admitted.answer → admitted.book ≡ b
  refused_book number e = ap (λ (v : Verdict). (carried_out v (gives 0) b m).book) (admit_refused number e)

  -- an admit and a withdraw leave the pile as it was
  pub admit_pile : admitted.pile ≡ m
  admit_pile = by came
    where
      by : Came (admit_verdict b m key) → admitted.pile ≡ m
      by (inl r) = ap (λ (v : Verdict). (carried_out v (gives 0) b m).pile) r.1
      by (inr o) = ap (λ (v : Verdict). (carried_out v (gives 0) b m).pile) o.verdict_is

pub withdraw_pile : (b : Book) (m : Meaning) (tag class radix : ℕ) → (step b m (withdraw tag class radix) (gives 0)).pile ≡ m
withdraw_pile b m tag class radix = by b.entry
  where
    by_slip : (fits : Bool) → (carried_out (withdraw_when fits) (gives 0) b m).pile ≡ m
    by_slip false = refl
    by_slip true = refl

    by : (waits : Option OpenEntry) → (carried_out (withdraw_open waits tag class radix) (gives 0) b m).pile ≡ m
    by None = refl
    by (Some entry) = by_slip (is_slip entry tag class radix)

-- a refused call leaves its source as it was, and has taken nothing
pub unmoved : (key : KeyView) (number : ℕ) (course after : List ℕ → Given) → after ≡ course → Moved (enter key) (refusal number) course after
unmoved key number course after e = record { moves = e; took = λ more. ap (λ f. f more) (sym e) }

pub unmoved_by_source : (key : KeyView) (number byte : ℕ) (course after : List ℕ → Given) → after ≡ course → Moved (enter key) (source_refusal number byte) course after
unmoved_by_source key number byte course after e = record { moves = e; took = λ more. ap (λ f. f more) (sym e) }

-- an accepted one has taken the draw that its receipt holds
pub moved :
    (key : KeyView) (receipt : EntryReceipt) (radix draw : ℕ) (place : Option ℕ) (course after : List ℕ → Given) →
    entered receipt ≡ entered (record { radix = radix; draw = draw; place = place }) →
    ((more : List ℕ) → course (radix ∷ more) ≡ before (drew draw) (after more)) →
    Moved (enter key) (entered receipt) course after
moved key receipt radix draw place course after e gave =
    subst (λ (a : Answer). Moved (enter key) a course after) (sym e) (record { moves = fun_ext (λ more. sym (ap (λ g. record { draws = drop 1 g.draws; refusal = g.refusal }) (gave more))); took = gave })
