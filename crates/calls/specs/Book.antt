-- What a roster means: who is live, under which tag, and the entry that is open. No draw is in it.
use Rattle.std.specs.Prelude.{ℕ, zero, suc, ◌+◌, ◌-◌, ◌%◌, Bool, true, false, not, ◌&&◌, List, [], ◌∷◌, length, replicate, is_some, Some, None, Option, nat_lt, slice_index_or}
use Rattle.std.specs.Str.{bytes_eq}
pub use Rattle.keys.specs.View.{KeyView}

-- an entry that was admitted and waits to be settled or withdrawn; its class is the key's
pub record OpenEntry : Type 0 where
  pub key : KeyView
  pub tag : ℕ
  pub radix : ℕ

pub record Book : Type 0 where
  -- slot t holds the live key whose tag is t; there are as many slots as the roster has room for
  pub slots : List (Option KeyView)
  pub entry : Option OpenEntry

-- slots without a live key
abbrev pub is_free : Option KeyView → Bool
is_free slot = not (is_some slot)

abbrev pub all_free : List (Option KeyView) → Bool
all_free [] = true
all_free (slot ∷ slots) = is_free slot && all_free slots

-- a new roster: no live key, and no open entry
abbrev pub new_book : Book → Bool
new_book b = all_free b.slots && not (is_some b.entry)

-- a roster as its opening leaves it
abbrev pub opened_book : (capacity : ℕ) → Book
opened_book capacity = record { slots = replicate capacity None; entry = None }

-- how many keys are live
abbrev pub one_if_held : Option KeyView → ℕ
one_if_held None = 0
one_if_held (Some key) = 1

abbrev pub live_count : List (Option KeyView) → ℕ
live_count [] = 0
live_count (slot ∷ slots) = one_if_held slot + live_count slots

-- whether a slot holds the key with this byte form
abbrev pub holds_form : (form : List ℕ) → Option KeyView → Bool
holds_form form None = false
holds_form form (Some key) = bytes_eq key.form form

-- A search begins at the key's index number, cut to the number of slots. It goes upwards and looks at every slot once: after the last
-- slot comes slot 0. The slot that it looks at after i others:
abbrev pub wrapped : (within : Bool) (at count : ℕ) → ℕ
wrapped true at count = at
wrapped false at count = at - count

abbrev pub turn : (start count i : ℕ) → ℕ
turn start count i = wrapped (nat_lt (start + i) count) (start + i) count

abbrev pub found_or : Bool → ℕ → Option ℕ → Option ℕ
found_or true slot later = Some slot
found_or false slot later = later

-- the first slot that passes the test, among the `left` ones from the i-th on
abbrev pub seek : (Option KeyView → Bool) → List (Option KeyView) → (start left i : ℕ) → Option ℕ
seek test slots start zero i = None
seek test slots start (suc left) i =
    let slot = turn start (length slots) i in
    found_or (test (slice_index_or slots slot None)) slot (seek test slots start left (i + 1))

abbrev pub seek_all : (Option KeyView → Bool) → List (Option KeyView) → (index : ℕ) → Option ℕ
seek_all test slots index = seek test slots (index % length slots) (length slots) 0

-- the tag of a live key
abbrev pub tag_of : List (Option KeyView) → KeyView → Option ℕ
tag_of slots key = seek_all (holds_form key.form) slots key.index

-- the tag that a key gets: the first free slot
abbrev pub free_tag : List (Option KeyView) → KeyView → Option ℕ
free_tag slots key = seek_all is_free slots key.index
