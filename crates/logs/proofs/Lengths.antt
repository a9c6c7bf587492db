-- How many bytes a record takes.
use Rattle.std.proofs.Common.{◌≡◌, ℕ, ◌+◌, ◌⊎◌, List, length, drop, Some, None, Ok, sym, refl, ap, ◌∙◌, subst, ⊎_elim}
use Rattle.std.proofs.lemmas.List.{drop-drop}
use Rattle.keys.specs.Answers.{Reading, read, refused, left_after}
use Rattle.calls.specs.Book.{KeyView}
use Rattle.replays.specs.Kinds.{Kind, read_view, kind_by}
use Rattle.replays.specs.Records.{LogRecord, enters, leaves, keyed, record_in, size}
use Rattle.logs.specs.Told.{mark_told}
use Rattle.logs.specs.declared.marks.Mark.{Mark}
use Rattle.logs.specs.declared.marks.Mark.TheVariants.{Enter, Leave}

-- what is left after the key is what is left after the record, of whichever mark
module _
    {K : Type 0} (view : K → KeyView) (reading : List ℕ → Reading K) (printed : K → List ℕ) (left : List ℕ) where
  after_keyed :
      (what : KeyView → LogRecord) → ((key : KeyView) → size (what key) ≡ 2 + length key.form) → (key : Reading K) →
      left_after view key (drop 2 left) ≡ drop (size (keyed what (read_view view reading printed key))) left
  after_keyed what long (read key) = rw (long (view key)) (drop-drop (length (view key).form) 2 left)
  after_keyed what long (refused (Some number)) = refl
  after_keyed what long (refused None) = refl

  abbrev After : Mark → Type 0
  After mark =
      left_after view (reading (drop 2 left)) (drop 2 left)
      ≡ drop (size (mark_told (Ok mark) (kind_by view reading printed) (drop 2 left))) left

  after_key : (mark : Mark) → (mark ≡ Enter) ⊎ (mark ≡ Leave) → After mark
  after_key mark =
      ⊎_elim
      (λ e. subst After (sym e) (after_keyed enters (λ key. refl) (reading (drop 2 left))))
      (λ e. subst After (sym e) (after_keyed leaves (λ key. refl) (reading (drop 2 left))))

  -- `rest` is what is left after the key, `fields` what is left after the mark
  pub after_rest :
      (rest fields : List ℕ) → rest ≡ left_after view (reading fields) fields → fields ≡ drop 2 left →
      (mark : Mark) → (mark ≡ Enter) ⊎ (mark ≡ Leave) →
      mark_told (Ok mark) (kind_by view reading printed) (drop 2 left) ≡ record_in (kind_by view reading printed) left →
      rest ≡ drop (size (record_in (kind_by view reading printed) left)) left
  after_rest rest fields rests begins mark has_key_lem what =
      rests
      ∙ ap (λ bytes. left_after view (reading bytes) bytes) begins
      ∙ after_key mark has_key_lem
      ∙ ap (λ (r : LogRecord). drop (size r) left) what
