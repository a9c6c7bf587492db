-- What holds between two records holds at the start, and again after each record that is not refused.
use Rattle.std.proofs.Common.{◌≡◌, ℕ, ◌+◌, ◌-◌, ◌<◌, Bool, true, false, eqb, ltb, List, length, get_or, set, Some, None, Option, sym, refl, ap, ◌∙◌, subst, ⊎_elim, arith}
use Rattle.std.proofs.lemmas.List.{get_or-set_same, get_or-set_other, length-set}
use Rattle.std.proofs.lemmas.Bool.{cases_eq, eqb-true, lt-ltb}
use Rattle.pile.specs.Answers.{Told, told}
use Rattle.pile.specs.Laws.{entry, leave}
use Rattle.pile.specs.Meaning.{Meaning}
use Rattle.pile.specs.Rules.{radix_rule, entry_rule, entry_asked, entry_drawn, entry_counted, leave_rule, leave_when}
use Rattle.pile.proofs.Changes.{sound_one}
use Rattle.calls.specs.Book.{KeyView, Book, holds_form}
use Rattle.calls.specs.Kept.{Openable, EntryFits, WellKept}
use Rattle.calls.specs.Steps.{settled, gone}
use Rattle.calls.proofs.Members.{form_differs}
use Rattle.calls.proofs.Searches.{none_some, same_some, held_below}
use Rattle.replays.specs.Kinds.{Kind}
use Rattle.replays.specs.Replays.{State}
use Rattle.replays.proofs.Entering.{CameIn, entry_of, in_turn}
use Rattle.replays.proofs.Kept.{WasRead, Kept}
use Rattle.replays.proofs.Leaving.{WentOut, out_turn}
use Rattle.replays.proofs.Slots.{one_if, counted_slots, counted_filled, counted_freed}

-- what an entry leaves of the settings, and N
pub record EntryKeeps (m : Meaning) (class : ℕ) (after : Meaning) : Type 0 where
  pub same_leaves : after.leaves ≡ m.leaves
  pub same_counted : after.counted ≡ m.counted
  pub live_more : after.live ≡ one_if (m.counted class) + m.live
  pub unpaired_less : after.unpaired ≡ m.unpaired - one_if (m.counted class)

pub entry_keeps : (m : Meaning) (tag class draw radix : ℕ) → radix_rule m class ≡ told radix → draw < radix → EntryKeeps m class (entry_rule m tag class draw).after
entry_keeps m tag class draw radix e l =
    subst (λ (a : Told ℕ). EntryKeeps m class (entry_asked a m tag class draw).after) (sym e)
    (subst (λ (b : Bool). EntryKeeps m class (entry_drawn b (m.counted class) m radix tag draw).after) (sym (lt-ltb draw radix l))
    (by (m.counted class) refl))
  where
    counted_by : (p : Bool) → eqb m.unpaired 0 ≡ p → m.counted class ≡ true → EntryKeeps m class (entry_counted p m radix tag draw).after
    counted_by true q c =
        record {
          same_leaves = refl;
          same_counted = refl;
          live_more = omega (arith, ap one_if c);
          unpaired_less = omega (arith, ap one_if c, eqb-true m.unpaired 0 q);
        }
    counted_by false q c =
        record {
          same_leaves = refl;
          same_counted = refl;
          live_more = omega (arith, ap one_if c);
          unpaired_less = omega (arith, ap one_if c);
        }

    by : (c : Bool) → m.counted class ≡ c → EntryKeeps m class (entry_drawn true c m radix tag draw).after
    by false c =
        record {
          same_leaves = refl;
          same_counted = refl;
          live_more = omega (arith, ap one_if c);
          unpaired_less = omega (arith, ap one_if c);
        }
    by true c = counted_by (eqb m.unpaired 0) refl c

pub record LeaveKeeps (m : Meaning) (class : ℕ) (after : Meaning) : Type 0 where
  pub same_leaves : after.leaves ≡ m.leaves
  pub same_counted : after.counted ≡ m.counted
  pub live_fewer : one_if (m.counted class) + after.live ≡ m.live
  pub unpaired_more : after.unpaired ≡ m.unpaired + one_if (m.counted class)

pub leave_keeps : (m : Meaning) (tag class : ℕ) → m.leaves ≡ true → (m.counted class ≡ true → 0 < m.live) → LeaveKeeps m class (leave_rule m tag class).after
leave_keeps m tag class takes some =
    subst (λ (b : Bool). LeaveKeeps m class (leave_when (m.counted class) b (ltb 0 m.live) m tag).after) (sym takes)
    (by (m.counted class) refl)
  where
    by : (c : Bool) → m.counted class ≡ c → LeaveKeeps m class (leave_when c true (ltb 0 m.live) m tag).after
    by false c = record { same_leaves = refl; same_counted = refl; live_fewer = omega (arith, ap one_if c); unpaired_more = omega (arith, ap one_if c) }
    by true c =
        let l = some c in
        subst (λ (n : Bool). LeaveKeeps m class (leave_when true true n m tag).after) (sym (lt-ltb 0 m.live l))
        (record { same_leaves = refl; same_counted = refl; live_fewer = omega (arith, ap one_if c); unpaired_more = omega (arith, ap one_if c) })

-- the roster after an entry and after a leave
pub settled_well : (b : Book) (key : KeyView) (tag radix : ℕ) → WellKept b → Openable b.slots (entry_of key tag radix) → WellKept (settled b (entry_of key tag radix))
settled_well b key tag radix well fits = record { one_slot_each = one; entry_fits = tt }
  where
    slots : List (Option KeyView)
    slots = b.slots

    filled : List (Option KeyView)
    filled = set b.slots tag (Some key)

    new_key : (slot : ℕ) (k : KeyView) → slot ≡ tag → get_or filled slot None ≡ Some k → key ≡ k
    new_key slot k e at = same_some key k (sym (ap (λ s. get_or filled s None) e ∙ get_or-set_same slots tag (Some key) None fits.below) ∙ at)

    old_key : (slot : ℕ) (k : KeyView) → (slot ≡ tag → ⊥) → get_or filled slot None ≡ Some k → get_or slots slot None ≡ Some k
    old_key slot k ne at = sym (get_or-set_other slots tag slot (Some key) None ne) ∙ at

    apart : (slot : ℕ) (k : KeyView) → get_or slots slot None ≡ Some k → k.form ≡ key.form → ⊥
    apart slot k at = form_differs k.form key.form (ap (holds_form key.form) (sym at) ∙ fits.not_live slot)

    one :
        (slot other : ℕ) (k same : KeyView) → get_or filled slot None ≡ Some k → get_or filled other None ≡ Some same →
        k.form ≡ same.form → slot ≡ other
    one slot other k same at at' e =
        ⊎_elim
        (λ here.
        ⊎_elim (λ here'. here ∙ sym here')
        (λ ne'. absurd (apart other same (old_key other same ne' at') (sym (ap (λ (v : KeyView). v.form) (new_key slot k here at) ∙ e))))
        (cases_eq other tag))
        (λ ne.
        ⊎_elim
        (λ here'. absurd (apart slot k (old_key slot k ne at) (e ∙ sym (ap (λ (v : KeyView). v.form) (new_key other same here' at')))))
        (λ ne'. well.one_slot_each slot other k same (old_key slot k ne at) (old_key other same ne' at') e)
        (cases_eq other tag))
        (cases_eq slot tag)

pub still_held : (slots : List (Option KeyView)) (tag : ℕ) (held : KeyView) → get_or slots tag None ≡ Some held → (slot : ℕ) (k : KeyView) → get_or (set slots tag None) slot None ≡ Some k → get_or slots slot None ≡ Some k
still_held slots tag held sits slot k at =
    ⊎_elim
    (λ here.
    absurd (none_some k (sym (ap (λ s. get_or (set slots tag None) s None) here ∙ get_or-set_same slots tag None None (held_below slots tag held sits)) ∙ at)))
    (λ ne. sym (get_or-set_other slots tag slot None None ne) ∙ at) (cases_eq slot tag)

gone_well : (b : Book) (tag : ℕ) (held : KeyView) → WellKept b → b.entry ≡ None → get_or b.slots tag None ≡ Some held → WellKept (gone b tag)
gone_well b tag held well none sits =
    record {
      one_slot_each =
          λ slot other k same at at' e.
          well.one_slot_each slot other k same (still_held b.slots tag held sits slot k at) (still_held b.slots tag held sits other same at') e;
      entry_fits = subst (EntryFits (set b.slots tag None)) (sym none) tt;
    }

-- the keys after an entry
filled_keys :
    (kind : Kind) (slots : List (Option KeyView)) (tag : ℕ) (key : KeyView) → tag < length slots → WasRead kind key →
    ((slot : ℕ) (k : KeyView) → get_or slots slot None ≡ Some k → WasRead kind k) →
    (slot : ℕ) (k : KeyView) → get_or (set slots tag (Some key)) slot None ≡ Some k → WasRead kind k
filled_keys kind slots tag key l read old slot k at =
    ⊎_elim
    (λ here. subst (WasRead kind) (same_some key k (sym (ap (λ s. get_or (set slots tag (Some key)) s None) here ∙ get_or-set_same slots tag (Some key) None l) ∙ at)) read)
    (λ ne. old slot k (sym (get_or-set_other slots tag slot (Some key) None ne) ∙ at)) (cases_eq slot tag)

module _ (kind : Kind) (tape : List ℕ) (s : State) (k : Kept kind tape s) where
  pub kept_in :
      (key : KeyView) (tag radix draw : ℕ) (place : Option ℕ) → WasRead kind key → CameIn tape s key tag radix draw place →
      Kept kind tape (in_turn s key tag radix draw place).after
  kept_in key tag radix draw place read c =
      let keeps = entry_keeps s.pile tag key.class draw radix c.called c.below in
      let filled = counted_filled s.pile.counted s.book.slots tag key c.openable.below c.openable.free in
      record {
        none_open = refl;
        well = settled_well s.book key tag radix k.well c.openable;
        sound = sound_one s.pile (entry tag key.class draw) k.sound;
        takes = keeps.same_leaves ∙ k.takes;
        counts =
            keeps.live_more ∙ ap (λ n. one_if (s.pile.counted key.class) + n) k.counts ∙ sym filled
            ∙ ap (λ f. counted_slots f (set s.book.slots tag (Some key))) (sym keeps.same_counted);
        few_slots = omega (arith, k.few_slots, length-set s.book.slots tag (Some key));
        keys = filled_keys kind s.book.slots tag key c.openable.below read k.keys;
        used = omega (arith, c.whole);
        few_readings = k.few_readings;
      }

  pub kept_out :
      (key held : KeyView) (tag : ℕ) (place : Option ℕ) → WentOut s key held tag place → Kept kind tape (out_turn s key held tag place).after
  kept_out key held tag place w =
      let keeps = leave_keeps s.pile tag held.class k.takes w.some_live in
      let freed = counted_freed s.pile.counted s.book.slots tag held w.sits in
      record {
        none_open = k.none_open;
        well = gone_well s.book tag held k.well k.none_open w.sits;
        sound = sound_one s.pile (leave tag held.class) k.sound;
        takes = keeps.same_leaves ∙ k.takes;
        counts =
            let same : (leave_rule s.pile tag held.class).after.live ≡ counted_slots s.pile.counted (set s.book.slots tag None) =
            omega (arith, keeps.live_fewer, freed, k.counts) in
            same ∙ ap (λ f. counted_slots f (set s.book.slots tag None)) (sym keeps.same_counted);
        few_slots = omega (arith, k.few_slots, length-set s.book.slots tag None);
        keys = λ slot v at. k.keys slot v (still_held s.book.slots tag held w.sits slot v at);
        used = k.used;
        few_readings = k.few_readings;
      }

  pub kept_read : s.readings < 64 → Kept kind tape (record { book = s.book; pile = s.pile; draws = s.draws; readings = s.readings + 1 })
  kept_read few =
      record {
        none_open = k.none_open;
        well = k.well;
        sound = k.sound;
        takes = k.takes;
        counts = k.counts;
        few_slots = k.few_slots;
        keys = k.keys;
        used = k.used;
        few_readings = omega arith;
      }
