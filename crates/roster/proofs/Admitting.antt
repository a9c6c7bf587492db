-- The questions of admit, one after the other.
use Rattle.std.proofs.Common.{◌≡◌, ℕ, true, false, ltb, length, is_some, Some, None, Option, refl, ap, ◌∙◌}
use Rattle.std.proofs.lemmas.Bool.{true≢false}
use Rattle.pile.specs.Answers.{Told}
use Rattle.calls.specs.Book.{KeyView, Book, live_count, tag_of, free_tag}
use Rattle.calls.specs.Calls.{refuses, admit_lawful, admit_open, admit_live, admit_room, admit_radix}
use Rattle.roster.specs.Rosters.{open_told}
use Rattle.roster.specs.declared.record.Pending.{Pending}

pub not_some : {A : Type 0} (o : Option A) → is_some o ≡ false → o ≡ None
not_some None e = refl
not_some (Some x) e = absurd (true≢false e)

pub none_open : {K : Type 0} (view : K → KeyView) (o : Option (Pending K)) → is_some o ≡ false → open_told view o ≡ None
none_open view o e = ap (open_told view) (not_some o e)

module _ (b : Book) (key : KeyView) (called : Told ℕ) (lawful : key.lawful ≡ true) (closed : b.entry ≡ None) (new : tag_of b.slots key ≡ None) where
  asked : admit_lawful key.lawful b called key ≡ admit_room (ltb (live_count b.slots) (length b.slots)) (free_tag b.slots key) called key
  asked =
      ap (λ x. admit_lawful x b called key) lawful ∙ ap (λ x. admit_open x b called key) closed ∙ ap (λ x. admit_live x b called key) new

  pub full : ltb (live_count b.slots) (length b.slots) ≡ false → admit_lawful key.lawful b called key ≡ refuses 9
  full e = asked ∙ ap (λ x. admit_room x (free_tag b.slots key) called key) e

  pub room_but_none : ltb (live_count b.slots) (length b.slots) ≡ true → free_tag b.slots key ≡ None → admit_lawful key.lawful b called key ≡ refuses 9
  room_but_none e f = asked ∙ ap (λ x. admit_room x (free_tag b.slots key) called key) e ∙ ap (λ x. admit_room true x called key) f

  pub room : (tag : ℕ) → ltb (live_count b.slots) (length b.slots) ≡ true → free_tag b.slots key ≡ Some tag → admit_lawful key.lawful b called key ≡ admit_radix called key tag
  room tag e f = asked ∙ ap (λ x. admit_room x (free_tag b.slots key) called key) e ∙ ap (λ x. admit_room true x called key) f
