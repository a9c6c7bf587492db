-- What the replay needs of a kind of key: what reading a key answers, and how a key prints.
use Rattle.std.specs.Prelude.{◌≡◌, ℕ, ◌<◌, ◌≤◌, true, List, [], ◌++◌, length, drop, Some, None}
use Rattle.keys.specs.Answers.{Reading, read, refused}
use Rattle.keys.specs.Names.{name_form, lawful_name, name_view, name_reading, name_printed}
use Rattle.keys.specs.Numbers.{number_form, lawful_number, number_view, number_reading, number_printed}
use Rattle.keys.specs.declared.name.Name.{Name}
use Rattle.keys.specs.declared.number.Number.{Number}
use Rattle.calls.specs.Book.{KeyView}

-- what reading a key off bytes answers
pub data KeyRead : Type 0 where
  -- the key, as the rules look at it; it takes as many bytes as its byte form has
  found : KeyView → KeyRead
  -- the key is refused by its own number
  key_refused : (number : ℕ) → KeyRead
  -- the bytes end before the key does
  cut_short : KeyRead

pub record Kind : Type 0 where
  -- what reading the key that the bytes begin with answers
  pub reads : (bytes : List ℕ) → KeyRead
  -- how the key with this byte form prints
  pub prints : (form : List ℕ) → List ℕ

-- A kind of key by what it says of its keys: how the rules look at a key, what reading answers, how a key prints.
module _ {K : Type 0} (view : K → KeyView) (reading : List ℕ → Reading K) (printed : K → List ℕ) where
  abbrev pub read_view : Reading K → KeyRead
  read_view (read key) = found (view key)
  read_view (refused (Some number)) = key_refused number
  read_view (refused None) = cut_short

  abbrev pub read_print : Reading K → List ℕ
  read_print (read key) = printed key
  read_print (refused number) = []

  -- a byte form is read back to be printed
  abbrev pub kind_by : Kind
  kind_by = record { reads = λ bytes. read_view (reading bytes); prints = λ form. read_print (reading form) }

-- The numbers, which print in decimal,
abbrev pub numbers : Kind
numbers = kind_by number_view number_reading number_printed

-- and the names, which print as their text.
abbrev pub names : Kind
names = kind_by name_view name_reading name_printed

-- What a kind owes, so that a log can be read and a page written.
pub record LawfulKind (kind : Kind) : Type 0 where
  -- a key that is read is lawful, and its class is 0 to 7
  pub lawful : (bytes : List ℕ) (key : KeyView) → kind.reads bytes ≡ found key → key.lawful ≡ true
  pub classes : (bytes : List ℕ) (key : KeyView) → kind.reads bytes ≡ found key → key.class < 8
  -- its byte form is what the bytes begin with, and reads back, whatever follows it
  pub begins :
      (bytes : List ℕ) (key : KeyView) → kind.reads bytes ≡ found key → bytes ≡ key.form ++ drop (length key.form) bytes
  pub back : (bytes : List ℕ) (key : KeyView) (rest : List ℕ) → kind.reads bytes ≡ found key → kind.reads (key.form ++ rest) ≡ found key
  -- it prints as 1 to 8 bytes
  pub brief :
      (bytes : List ℕ) (key : KeyView) → kind.reads bytes ≡ found key →
      (1 ≤ length (kind.prints key.form)) × (length (kind.prints key.form) ≤ 8)
  -- a key is refused by 6 only
  pub by_six : (bytes : List ℕ) (number : ℕ) → kind.reads bytes ≡ key_refused number → number ≡ 6

-- what prints is the key itself, for every lawful key
pub record PrintsKeys : Type 0 where
  pub of_numbers : (n : Number) → lawful_number n ≡ true → numbers.prints (number_form n) ≡ number_printed n
  pub of_names : (n : Name) → lawful_name n ≡ true → names.prints (name_form n) ≡ name_printed n
