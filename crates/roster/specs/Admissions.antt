-- What the questions of admit before the pile's come to.
use Rattle.std.specs.Prelude.{◌≡◌, ℕ, ◌<◌, None, slice_index_or}
use Rattle.pile.specs.Answers.{Told}
use Rattle.calls.specs.Book.{KeyView}
use Rattle.calls.specs.Calls.{refuses, admit_lawful, admit_radix}
use Rattle.roster.specs.Rosters.{book_of}
use Rattle.roster.specs.declared.roster.Roster.{Roster}

module _ {K : Type 0} (view : K → KeyView) (r : Roster K) (key : K) where
  -- the key gets this tag, whatever radix is called for, if one is
  pub record Admissible (tag : ℕ) : Type 0 where
    pub admits : (called : Told ℕ) → admit_lawful (view key).lawful (book_of view r) called (view key) ≡ admit_radix called (view key) tag
    pub within : tag < r.capacity
    pub free : slice_index_or (book_of view r).slots tag None ≡ None

  -- the key is refused before the pile is asked
  abbrev pub Refused : (number : ℕ) → Type 0
  Refused number = (called : Told ℕ) → admit_lawful (view key).lawful (book_of view r) called (view key) ≡ refuses number
