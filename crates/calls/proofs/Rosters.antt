-- Every call keeps a roster well kept, whatever the pile.
use Rattle.std.proofs.Common.{◌≡◌, ℕ, zero, suc, Bool, true, false, ◌&&◌, ltb, List, get_or, set, replicate, Some, None, Option, sym, refl, ap, ◌∙◌, subst, ⊎_elim}
use Rattle.std.proofs.lemmas.List.{get_or-set_same, get_or-set_other}
use Rattle.std.proofs.lemmas.Bool.{cases_eq}
use Rattle.pile.specs.Meaning.{Meaning}
use Rattle.calls.specs.Book.{KeyView, OpenEntry, Book, all_free, new_book, opened_book, holds_form}
use Rattle.calls.specs.Calls.{Call, Verdict, refuses, opens, settles, withdraws, lets_go, tells, verdict}
use Rattle.calls.specs.Steps.{Supply, gives, fails, settled, gone, settle_drawn, carried_out, step}
use Rattle.calls.specs.Kept.{Openable, EntryFits, WellKept}
use Rattle.calls.proofs.Ledgers.{new_parts}
use Rattle.calls.proofs.Members.{form_differs}
use Rattle.calls.proofs.Searches.{none_some, same_some, held_below}
use Rattle.calls.proofs.Verdicts.{LetsGo, Right, verdict_right}

-- a roster as its opening leaves it is new
opened_free : (capacity : ℕ) → all_free (replicate capacity None) ≡ true
opened_free zero = refl
opened_free (suc capacity) = opened_free capacity

pub opened_is_new : (capacity : ℕ) → new_book (opened_book capacity) ≡ true
opened_is_new capacity = ap (λ free. free && true) (opened_free capacity)

pub new_well_kept : (b : Book) → new_book b ≡ true → WellKept b
new_well_kept b new =
    let parts = new_parts b new in
    record {
      one_slot_each = λ slot other key same at at' e. absurd (none_some key (sym (parts.0 slot) ∙ at));
      entry_fits = parts.1;
    }

-- a slot that holds a key after a change held it before, or is the one that was filled
module _ (b : Book) (well : WellKept b) where
  settled_well_kept : (entry : OpenEntry) → Openable b.slots entry → WellKept (settled b entry)
  settled_well_kept entry fits = record { one_slot_each = one; entry_fits = tt }
    where
      slots : List (Option KeyView)
      slots = b.slots

      filled : List (Option KeyView)
      filled = set b.slots entry.tag (Some entry.key)

      new_key : (slot : ℕ) (key : KeyView) → slot ≡ entry.tag → get_or filled slot None ≡ Some key → entry.key ≡ key
      new_key slot key e at =
          same_some entry.key key
          (sym (ap (λ s. get_or filled s None) e ∙ get_or-set_same slots entry.tag (Some entry.key) None fits.below) ∙ at)

      old_key : (slot : ℕ) (key : KeyView) → (slot ≡ entry.tag → ⊥) → get_or filled slot None ≡ Some key → get_or slots slot None ≡ Some key
      old_key slot key ne at = sym (get_or-set_other slots entry.tag slot (Some entry.key) None ne) ∙ at

      apart : (slot : ℕ) (key : KeyView) → get_or slots slot None ≡ Some key → key.form ≡ entry.key.form → ⊥
      apart slot key at = form_differs key.form entry.key.form (ap (holds_form entry.key.form) (sym at) ∙ fits.not_live slot)

      one :
          (slot other : ℕ) (key same : KeyView) → get_or filled slot None ≡ Some key → get_or filled other None ≡ Some same →
          key.form ≡ same.form → slot ≡ other
      one slot other key same at at' e =
          ⊎_elim
          (λ here.
          ⊎_elim (λ here'. here ∙ sym here')
          (λ ne'. absurd (apart other same (old_key other same ne' at') (sym (ap (λ k. k.form) (new_key slot key here at) ∙ e))))
          (cases_eq other entry.tag))
          (λ ne.
          ⊎_elim
          (λ here'. absurd (apart slot key (old_key slot key ne at) (e ∙ sym (ap (λ k. k.form) (new_key other same here' at')))))
          (λ ne'. well.one_slot_each slot other key same (old_key slot key ne at) (old_key other same ne' at') e)
          (cases_eq other entry.tag))
          (cases_eq slot entry.tag)

  gone_well_kept : (m : Meaning) (key : KeyView) (tag : ℕ) → LetsGo b m key tag → WellKept (gone b tag)
  gone_well_kept m key tag r =
      record {
        one_slot_each =
            λ slot other held same at at' e.
            well.one_slot_each slot other held same (still slot held at) (still other same at') e;
        entry_fits = subst (EntryFits (set b.slots tag None)) (sym r.none_open) tt;
      }
    where
      still : (slot : ℕ) (held : KeyView) → get_or (set b.slots tag None) slot None ≡ Some held → get_or b.slots slot None ≡ Some held
      still slot held at =
          ⊎_elim
          (λ here.
          absurd
          (none_some held
          (sym (ap (λ s. get_or (set b.slots tag None) s None) here
          ∙ get_or-set_same b.slots tag None None (held_below b.slots tag key r.held)) ∙ at)))
          (λ ne. sym (get_or-set_other b.slots tag slot None None ne) ∙ at) (cases_eq slot tag)

  carried_well_kept : (m : Meaning) (v : Verdict) (supply : Supply) → Right b m v → WellKept (carried_out v supply b m).book
  carried_well_kept m (refuses number) supply r = well
  carried_well_kept m (opens entry) supply r = record { one_slot_each = well.one_slot_each; entry_fits = r.openable }
  carried_well_kept m (settles entry) (gives draw) r = by (ltb draw entry.radix)
    where
      by : (below : Bool) → WellKept (settle_drawn below b m entry draw).book
      by false = well
      by true = settled_well_kept entry r.openable
  carried_well_kept m (settles entry) (fails number byte) r = well
  carried_well_kept m withdraws supply r = record { one_slot_each = well.one_slot_each; entry_fits = tt }
  carried_well_kept m (lets_go key tag) supply r = gone_well_kept m key tag r
  carried_well_kept m (tells question) supply r = well

pub step_well_kept : (b : Book) (m : Meaning) (call : Call) (supply : Supply) → WellKept b → WellKept (step b m call supply).book
step_well_kept b m call supply well =
    carried_well_kept b well m (verdict b m call) supply (verdict_right b m call well.entry_fits)
