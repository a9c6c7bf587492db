-- A slip and the open entry.
use Rattle.std.proofs.Common.{◌≡◌, ℕ, ◌<◌, true, ◌&&◌, eqb, Some, Option, ap, ◌∙◌, arith}
use Rattle.std.proofs.lemmas.Bool.{and_parts, eqb-true, lt-ltb}
use Rattle.pile.specs.Meaning.{Meaning}
use Rattle.pile.specs.Rules.{radix_rule, entry_rule}
use Rattle.calls.specs.Book.{OpenEntry, Book}
use Rattle.calls.specs.Steps.{Step, step, carried_out, gives, settle_drawn, settled, entry_answer}
use Rattle.calls.specs.Calls.{Verdict, is_slip, calls_for, settle, settles, settle_open, settle_when, withdraws, withdraw_open, withdraw_when}

-- a slip that fits the open entry has its numbers
pub record Fits (entry : OpenEntry) (tag class radix : ℕ) : Type 0 where
  pub tags : entry.tag ≡ tag
  pub classes : entry.key.class ≡ class
  pub radices : entry.radix ≡ radix

pub slip_fits : (entry : OpenEntry) (tag class radix : ℕ) → is_slip entry tag class radix ≡ true → Fits entry tag class radix
slip_fits entry tag class radix e =
    let last = and_parts (eqb entry.tag tag && eqb entry.key.class class) (eqb entry.radix radix) e in
    let first = and_parts (eqb entry.tag tag) (eqb entry.key.class class) last.0 in
    record {
      tags = eqb-true entry.tag tag first.0;
      classes = eqb-true entry.key.class class first.1;
      radices = eqb-true entry.radix radix last.1;
    }

pub withdraws_with : (waiting : Option OpenEntry) (entry : OpenEntry) (tag class radix : ℕ) → waiting ≡ Some entry → is_slip entry tag class radix ≡ true → withdraw_open waiting tag class radix ≡ withdraws
withdraws_with waiting entry tag class radix e f = ap (λ o. withdraw_open o tag class radix) e ∙ ap withdraw_when f

-- the step of a settle that nothing speaks against, by the slip's numbers
module _ (b : Book) (m : Meaning) (entry : OpenEntry) (tag class radix draw : ℕ) (waits : b.entry ≡ Some entry) (fits : is_slip entry tag class radix ≡ true) (called : calls_for (radix_rule m class) radix ≡ true) (below : draw < radix) where
  abbrev accepted : (tag class : ℕ) → Step
  accepted t k =
      record { answer = entry_answer (entry_rule m t k draw).answer; book = settled b entry; pile = (entry_rule m t k draw).after }

  pub settled_step : step b m (settle tag class radix) (gives draw) ≡ accepted tag class
  settled_step =
      let same = slip_fits entry tag class radix fits in
      let verdict_is : settle_open b.entry m tag class radix ≡ settles entry =
      ap (λ o. settle_open o m tag class radix) waits ∙ ap (λ x. settle_when x (calls_for (radix_rule m class) radix) entry) fits
      ∙ ap (λ x. settle_when true x entry) called in
      ap (λ (v : Verdict). carried_out v (gives draw) b m) verdict_is
      ∙ ap (λ x. settle_drawn x b m entry draw) (lt-ltb draw entry.radix (omega (arith, same.radices)))
      ∙ ap (λ t. accepted t entry.key.class) same.tags ∙ ap (accepted tag) same.classes
