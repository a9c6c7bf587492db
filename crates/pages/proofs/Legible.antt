-- The lines of a reading by what the pile told of each place, and readings of lawful keys.
use Rattle.std.proofs.Common.{◌≡◌, ℕ, suc, ◌+◌, ◌<◌, ◌≤◌, Bool, List, [], ◌∷◌, ◌++◌, length, get_or, take, Some, None, Option, sym, refl, ap, ◌∙◌, append_assoc, append-nil, arith}
use Rattle.std.specs.List.{slice_get}
use Rattle.std.proofs.lemmas.List.{length-take-le, take_more}
use Rattle.pile.specs.Answers.{Place, place_told}
use Rattle.pile.specs.Meaning.{Meaning}
use Rattle.pile.specs.declared.receipts.PlaceState.{PlaceState}
use Rattle.pile.specs.declared.receipts.PlaceState.TheVariants.{Held, Hole, NoSuchPlace}
use Rattle.calls.specs.Book.{KeyView, Book}
use Rattle.calls.specs.Steps.{key_on}
use Rattle.replays.specs.Happenings.{Reading}
use Rattle.replays.specs.Kinds.{Kind}
use Rattle.replays.specs.Lines.{place_line, place_lines}
use Rattle.replays.specs.Replays.{form_of, forms_on, reading}
use Rattle.pages.specs.Readings.{form_if, legible, legible_on, legible_reading, LiveLawful, told_line, told_lines}

module _ (kind : Kind) (slots : List (Option KeyView)) where
  told_push :
      (i : ℕ) (states : List (PlaceState ℕ)) (state : PlaceState ℕ) →
      told_lines kind slots i (states ++ state ∷ []) ≡ told_lines kind slots i states ++ told_line kind slots (i + length states) state
  told_push i [] state =
      append-nil (told_line kind slots i state) ∙ ap (λ (k : ℕ). told_line kind slots k state) (omega arith)
  told_push i (first ∷ states) state =
      ap (λ (l : List ℕ). told_line kind slots i first ++ l)
      (told_push (i + 1) states state
      ∙ ap (λ (k : ℕ). told_lines kind slots (i + 1) states ++ told_line kind slots k state) (omega arith))
      ∙ sym (append_assoc (told_line kind slots i first) (told_lines kind slots (i + 1) states) (told_line kind slots (i + length (first ∷ states)) state))

  -- one place more
  pub told_more :
      (states : List (PlaceState ℕ)) (i : ℕ) (d : PlaceState ℕ) → i < length states →
      told_lines kind slots 0 (take i states) ++ told_line kind slots i (get_or states i d) ≡ told_lines kind slots 0 (take (i + 1) states)
  told_more states i d h =
      let here : i ≡ 0 + length (take i states) = omega (arith, length-take-le i states (omega arith)) in
      ap (λ (k : ℕ). told_lines kind slots 0 (take i states) ++ told_line kind slots k (get_or states i d)) here
      ∙ sym (told_push 0 (take i states) (get_or states i d))
      ∙ ap (told_lines kind slots 0) (sym (take_more states i d h))

  not_told : (p : Place) → ◌≡◌ {A = Option Place} None (Some p) → ⊥
  not_told p e = let z : ◌≡◌ {A = ℕ} 0 1 = cc in omega arith

  told_place : (i : ℕ) (state : PlaceState ℕ) (p : Place) → place_told state ≡ Some p → told_line kind slots i state ≡ place_line kind i (legible (key_on slots p))
  told_place i (Held tag) p e = let same : Some tag ≡ p = cc in ap (λ (q : Place). place_line kind i (legible (key_on slots q))) same
  told_place i Hole p e = let same : None ≡ p = cc in ap (λ (q : Place). place_line kind i (legible (key_on slots q))) same
  told_place i NoSuchPlace p e = absurd (not_told p e)

  told_none : (i : ℕ) (state : PlaceState ℕ) → place_told state ≡ None → told_line kind slots i state ≡ []
  told_none i (Held tag) e = absurd (not_told (Some tag) (sym e))
  told_none i Hole e = absurd (not_told None (sym e))
  told_none i NoSuchPlace e = refl

  -- The lines of the places, where as many were asked for as there are, or more.
  pub told_all :
      (i : ℕ) (states : List (PlaceState ℕ)) (ps : List Place) → length ps ≤ length states →
      ((k : ℕ) → k < length states → place_told (get_or states k NoSuchPlace) ≡ slice_get ps k) →
      told_lines kind slots i states ≡ place_lines kind i (legible_on slots ps)
  told_all i [] [] few told = refl
  told_all i [] (p ∷ ps) few told = let z : ⊥ = omega arith in absurd z
  told_all i (state ∷ states) [] few told =
      ap (λ (l : List ℕ). l ++ told_lines kind slots (i + 1) states) (told_none i state (told 0 (omega arith)))
      ∙ told_all (i + 1) states [] (omega arith) (λ k h. told (suc k) (omega arith))
  told_all i (state ∷ states) (p ∷ ps) few told =
      ap (λ (l : List ℕ). l ++ told_lines kind slots (i + 1) states) (told_place i state p (told 0 (omega arith)))
      ∙ ap (λ (l : List ℕ). place_line kind i (legible (key_on slots p)) ++ l)
      (told_all (i + 1) states ps (omega arith) (λ k h. told (suc k) (omega arith)))

-- readings of lawful keys
module _ (b : Book) (m : Meaning) (lawful : LiveLawful b) where
  legible_slot : (tag : ℕ) (slot : Option KeyView) → get_or b.slots tag None ≡ slot → legible slot ≡ form_of slot
  legible_slot tag None e = refl
  legible_slot tag (Some key) e = ap (λ (t : Bool). form_if t key.form) (lawful tag key e)

  legible_place : (p : Place) → legible (key_on b.slots p) ≡ form_of (key_on b.slots p)
  legible_place None = refl
  legible_place (Some tag) = legible_slot tag (get_or b.slots tag None) refl

  legible_places : (ps : List Place) → legible_on b.slots ps ≡ forms_on b.slots ps
  legible_places [] = refl
  legible_places (p ∷ ps) =
      ap (λ (f : Option (List ℕ)). f ∷ legible_on b.slots ps) (legible_place p)
      ∙ ap (λ (fs : List (Option (List ℕ))). form_of (key_on b.slots p) ∷ fs) (legible_places ps)

  pub legible_is : legible_reading b m ≡ reading b m
  legible_is = ap read_off (legible_places m.places)
    where
      read_off : List (Option (List ℕ)) → Reading
      read_off places = record { live = m.live; unpaired = m.unpaired; places = places }
