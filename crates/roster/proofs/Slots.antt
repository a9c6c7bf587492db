-- The slots that lent records stand for, and the searches over them, step by step.
use Rattle.std.proofs.Common.{Bool, not, cond, ◌∷◌, ◌≡◌, ℕ, ◌+◌, ◌<◌, ◌≤◌, true, List, map, length, get_or, take, IfSome, Some, None, Option, zero-add, sym, refl, ap, ◌∙◌, subst, arith}
use Rattle.std.proofs.lemmas.List.{length-map, length-take-le, get_or-map}
use Rattle.std.proofs.lemmas.Bool.{false≢true}
use Rattle.std.specs.List.{fold}
use Rattle.pile.proofs.Counts.{one_more, counted}
use Rattle.calls.specs.Book.{KeyView, OpenEntry, live_count, is_free}
use Rattle.roster.specs.Rosters.{slot_of, open_told, waiting}
use Rattle.roster.specs.declared.record.Pending.{Pending}
use Rattle.roster.specs.declared.roster.Opening.{Opening}
use Rattle.roster.specs.declared.roster.Roster.{Roster}
use Rattle.roster.specs.declared.record.Record.{Record}
use Rattle.roster.specs.declared.record.Record.TheVariants.{Free, Waiting, Live}

abbrev pub Slots : Type 0
Slots = List (Option KeyView)

pub slots_length : {K : Type 0} (view : K → KeyView) (records : List (Record K)) (cap : ℕ) → cap ≤ length records → length (map (slot_of view) (take cap records)) ≡ cap
slots_length view records cap within = length-map (take cap records) (slot_of view) ∙ length-take-le cap records within

-- a record that was read, as a slot
pub slot_read : {K : Type 0} (view : K → KeyView) (rs : List (Record K)) (i : ℕ) (z : Record K) → i < length rs → z ≡ get_or rs i z → slot_of view z ≡ get_or (map (slot_of view) rs) i None
slot_read view rs i z h e = sym (get_or-map (slot_of view) rs i z None h ∙ ap (slot_of view) (sym e))

-- one record more, as a count of the live ones
pub live_step : {K : Type 0} (view : K → KeyView) (r : Record K) (rs : List (Record K)) → live_count (map (slot_of view) (r ∷ rs)) ≡ cond (not (is_free (slot_of view r))) (1 + live_count (map (slot_of view) rs)) (live_count (map (slot_of view) rs))
live_step view Free rs = zero-add _
live_step view (Waiting key) rs = zero-add _
live_step view (Live key) rs = refl

-- a record that is live
abbrev pub is_live : {K : Type 0} → (view : K → KeyView) → Record K → Bool
is_live view r = not (is_free (slot_of view r))

-- what a fold over the records counts
pub live_folded : {K : Type 0} (view : K → KeyView) (rs : List (Record K)) (n : ℕ) → n ≡ fold (one_more (is_live view)) 0 rs → length rs ≤ 1024 → (n ≡ live_count (map (slot_of view) rs)) × (n ≤ 1024)
live_folded view rs n e few = counted (λ xs. live_count (map (slot_of view) xs)) (is_live view) refl (live_step view) rs n 1024 e few (omega arith)

pub free_slot : (slot : Option KeyView) → is_free slot ≡ true → slot ≡ None
free_slot None e = refl
free_slot (Some key) e = absurd (false≢true e)

abbrev entry_tag : Option OpenEntry → ℕ
entry_tag None = 0
entry_tag (Some entry) = entry.tag

-- the key of an open entry waits in a record of no live key
module _ {K : Type 0} (view : K → KeyView) (r : Roster K) (o : Opening) where
  abbrev Waits : Option (Pending K) → Type 0
  Waits pending =
      IfSome pending (λ p. (p.tag < r.capacity) × (get_or (map (slot_of view) (take r.capacity r.records.now)) p.tag None ≡ None))

  pub pending_slot : (z : Record K) (pending : Option (Pending K)) → o.tag < r.capacity → slot_of view z ≡ get_or (map (slot_of view) (take r.capacity r.records.now)) o.tag None → open_told view pending ≡ waiting view z o → Waits pending
  pending_slot z None h e f = tt
  pending_slot Free (Some p) h e f = let z : ◌≡◌ {A = ℕ} 0 1 = cc in let no_way : ⊥ = omega arith in absurd no_way
  pending_slot (Live key) (Some p) h e f = let z : ◌≡◌ {A = ℕ} 0 1 = cc in let no_way : ⊥ = omega arith in absurd no_way
  pending_slot (Waiting key) (Some p) h e f =
      let same : p.tag ≡ o.tag = ap entry_tag f in
      (subst (λ (t : ℕ). t < r.capacity) (sym same) h, ap (λ t. get_or (map (slot_of view) (take r.capacity r.records.now)) t None) same ∙ sym e)
