-- A refusal: its number, the byte of the log, the layer that it comes from, and for a source the byte of the tape.
use Rattle.std.specs.Prelude.{ℕ, List, Some, None, codes, Option}

pub data Layer : Type 0 where
  in_opening : Layer
  in_key : Layer
  in_roster : Layer
  in_source : Layer
  in_log : Layer

-- the word for each on the page
abbrev pub layer_word : Layer → List ℕ
layer_word in_opening = codes "opening"
layer_word in_key = codes "key"
layer_word in_roster = codes "roster"
layer_word in_source = codes "source"
layer_word in_log = codes "log"

pub record Refusal : Type 0 where
  pub number : ℕ
  -- the byte of the log: where the record's mark begins, or the log's length where none does; for 26 the first byte after ZZ, and for
  -- 21 and 22 it is 0
  pub byte : ℕ
  pub layer : Layer
  -- the first byte of the tape that is not used, where the source refused
  pub tape_byte : Option ℕ

-- a refusal that no source made
abbrev pub plain : Layer → (number byte : ℕ) → Refusal
plain layer number byte = record { number = number; byte = byte; layer = layer; tape_byte = None }

-- and one that a source made
abbrev pub by_source : (number byte tape_byte : ℕ) → Refusal
by_source number byte tape_byte = record { number = number; byte = byte; layer = in_source; tape_byte = Some tape_byte }
