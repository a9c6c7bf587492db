-- What a roster means after one of its records was written.
use Rattle.std.proofs.Common.{◌≡◌, ℕ, ◌<◌, ◌≤◌, List, map, length, get_or, take, set, Some, None, Option, sym, refl, ap, ◌∙◌, arith, get_or-take, get_or-set_same}
use lib.Seq.{take-set-lt}
use Rattle.std.proofs.lemmas.List.{map-set, set-get_or}
use Rattle.calls.specs.Book.{KeyView, OpenEntry, Book}
use Rattle.calls.specs.Steps.{opened, closed, settled, gone}
use Rattle.roster.specs.Rosters.{slot_of, waiting, entry_of}
use Rattle.roster.specs.declared.record.Record.{Record}
use Rattle.roster.specs.declared.record.Record.TheVariants.{Free, Waiting, Live}
use Rattle.roster.specs.declared.roster.Opening.{Opening}

module _ {K : Type 0} (view : K → KeyView) where
  -- the book of a roster, by its parts
  abbrev pub book_with : (records : List (Record K)) (capacity : ℕ) → Option Opening → Book
  book_with records capacity opening =
      record { slots = map (slot_of view) (take capacity records); entry = entry_of view (take capacity records) opening }

  abbrev slots : List (Record K) → ℕ → List (Option KeyView)
  slots records capacity = map (slot_of view) (take capacity records)

  abbrev pub numbers : (tag radix : ℕ) → Opening
  numbers tag radix = record { tag = tag; radix = radix }

  module _ (records : List (Record K)) (capacity tag : ℕ) (within : tag < capacity) where
    -- the slots after a write
    pub written : (x : Record K) → slots (set records tag x) capacity ≡ set (slots records capacity) tag (slot_of view x)
    written x =
        ap (map (slot_of view)) (take-set-lt capacity records tag x within) ∙ map-set (slot_of view) (take capacity records) tag x

    -- a free slot that no key is written to stays as it was
    unwritten : (x : Record K) → slot_of view x ≡ None → get_or (slots records capacity) tag None ≡ None → slots (set records tag x) capacity ≡ slots records capacity
    unwritten x e f =
        written x ∙ ap (set (slots records capacity) tag) (e ∙ sym f) ∙ set-get_or (slots records capacity) tag None

    module _ (fits : capacity ≤ length records) where
      -- the record that was written
      read_back : (x : Record K) → get_or (take capacity (set records tag x)) tag Free ≡ x
      read_back x =
          get_or-take capacity (set records tag x) tag Free within ∙ get_or-set_same records tag x Free (omega arith)

      pub book_opened : (key : K) (radix : ℕ) (opening : Option Opening) → get_or (slots records capacity) tag None ≡ None → book_with (set records tag (Waiting key)) capacity (Some (numbers tag radix)) ≡ opened (book_with records capacity opening) (record { key = view key; tag = tag; radix = radix })
      book_opened key radix opening free =
          ap (λ s. record { slots = s; entry = waiting view (get_or (take capacity (set records tag (Waiting key))) tag Free) (numbers tag radix) }) (unwritten (Waiting key) refl free)
          ∙ ap (λ x. record { slots = slots records capacity; entry = waiting view x (numbers tag radix) }) (read_back (Waiting key))

    pub book_settled : (key : K) (radix : ℕ) (opening : Option Opening) → book_with (set records tag (Live key)) capacity None ≡ settled (book_with records capacity opening) (record { key = view key; tag = tag; radix = radix })
    book_settled key radix opening = ap (λ s. record { slots = s; entry = None }) (written (Live key))

    pub book_closed : (opening : Option Opening) → get_or (slots records capacity) tag None ≡ None → book_with (set records tag Free) capacity None ≡ closed (book_with records capacity opening)
    book_closed opening free = ap (λ s. record { slots = s; entry = None }) (unwritten Free refl free)

    pub book_gone : (opening : Option Opening) → entry_of view (take capacity records) opening ≡ None → book_with (set records tag Free) capacity None ≡ gone (book_with records capacity opening) tag
    book_gone opening none =
        ap (λ s. record { slots = s; entry = None }) (written Free)
        ∙ ap (λ e. record { slots = set (slots records capacity) tag None; entry = e }) (sym none)

    -- a record that waits is no live key's
    pub waiting_is_free : (x : Record K) (o : Opening) (entry : OpenEntry) → waiting view x o ≡ Some entry → slot_of view x ≡ None
    waiting_is_free Free o entry e = refl
    waiting_is_free (Waiting key) o entry e = refl
    waiting_is_free (Live key) o entry e = let z : ◌≡◌ {A = ℕ} 0 1 = cc in let no_way : ⊥ = omega arith in absurd no_way
