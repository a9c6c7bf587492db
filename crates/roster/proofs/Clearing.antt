-- Clearing lent records, one after the other, and what a new roster means.
use Rattle.std.proofs.Common.{◌≡◌, ℕ, zero, suc, ◌+◌, ◌<◌, ◌≤◌, Bool, true, false, ◌&&◌, leb, List, [], ◌∷◌, ◌++◌, map, length, take, drop, set, replicate, None, sym, refl, ap, ◌∙◌, arith}
use lib.ListN.{length-replicate}
use Rattle.std.proofs.lemmas.List.{drop_more, set_at, replicate_more, append_assoc, take_at}
use Rattle.std.proofs.lemmas.Bool.{and_parts, leb-true}
use Rattle.calls.specs.Book.{KeyView}
use Rattle.roster.specs.Opening.{cleared, or_none, capacity_passes, taken_capacity}
use Rattle.roster.specs.Rosters.{slot_of}
use Rattle.roster.specs.declared.record.Record.{Record}
use Rattle.roster.specs.declared.record.Record.TheVariants.{Free}

pub cleared_more : {K : Type 0} (records : List (Record K)) (i : ℕ) → i < length records → set (cleared records i) i Free ≡ cleared records (i + 1)
cleared_more records i h =
    ap (λ rest. set (replicate i Free ++ rest) i Free) (drop_more records i Free h)
    ∙ set_at (replicate i Free) _ (drop (i + 1) records) Free i (length-replicate i Free)
    ∙ sym (append_assoc (replicate i Free) (Free ∷ []) (drop (i + 1) records))
    ∙ ap (λ first. first ++ drop (i + 1) records) (replicate_more i Free)

-- free records are free slots
pub free_slots : {K : Type 0} (view : K → KeyView) (n : ℕ) → map (slot_of view) (replicate n Free) ≡ replicate n None
free_slots view zero = refl
free_slots view (suc n) = ap (λ s. None ∷ s) (free_slots view n)

pub cleared_slots : {K : Type 0} (view : K → KeyView) (records : List (Record K)) (n : ℕ) → map (slot_of view) (take n (cleared records n)) ≡ replicate n None
cleared_slots view records n =
    ap (map (slot_of view)) (take_at (replicate n Free) (drop n records) n (length-replicate n Free)) ∙ free_slots view n

-- what is taken of a capacity fits the records and is at most 1,024
pub taken_fits : (capacity records : ℕ) → (taken_capacity capacity records ≤ records) × (taken_capacity capacity records ≤ 1024)
taken_fits capacity records = by (capacity_passes capacity records) refl
  where
    by : (b : Bool) → capacity_passes capacity records ≡ b → (or_none b capacity ≤ records) × (or_none b capacity ≤ 1024)
    by false e = (omega arith, omega arith)
    by true e =
        let last = and_parts (leb 1 capacity && leb capacity 1024) (leb capacity records) e in
        let first = and_parts (leb 1 capacity) (leb capacity 1024) last.0 in
        (leb-true capacity records last.1, leb-true capacity 1024 first.1)
