-- The names as keys: byte form, class, reading.
use Rattle.std.specs.Prelude.{◌≡◌, ℕ, Bool, true, false, ◌&&◌, List, [], ◌∷◌, length, take, Some, nat_le, slice_index, refl}
use Rattle.std.proofs.Common.{sym, ap, ◌∙◌}
use Rattle.std.proofs.lemmas.List.{take_at}
use Rattle.keys.specs.Answers.{Reading, read, refused, too_short}
use Rattle.keys.specs.Index.{index_of}
use Rattle.keys.specs.Texts.{lawful_length, lawful_text, padded_text}
use Rattle.keys.specs.View.{KeyView}
use Rattle.keys.specs.declared.name.Name.{Name}

-- what the memory of a name holds; that it is lawful is a ghost field of the name
abbrev pub name_text : Name → List ℕ
name_text n = take n.len n.bytes

-- one length byte and then the text
abbrev pub name_form : Name → List ℕ
name_form n = n.len ∷ name_text n

abbrev pub lawful_name : Name → Bool
lawful_name n = lawful_text (name_text n)

-- by the first byte: 3 for A to Z, 4 for a to z, 5 for 0 to 9, 6 for any other
abbrev pub name_class_when : (upper lower digit : Bool) → ℕ
name_class_when true lower digit = 3
name_class_when false true digit = 4
name_class_when false false true = 5
name_class_when false false false = 6

abbrev pub class_by : (first : ℕ) → ℕ
class_by b = name_class_when (nat_le 65 b && nat_le b 90) (nat_le 97 b && nat_le b 122) (nat_le 48 b && nat_le b 57)

abbrev pub name_class : Name → ℕ
name_class n = class_by (slice_index (name_text n) 0)

abbrev pub name_view : Name → KeyView
name_view n =
    record {
      form = name_form n;
      class = name_class n;
      index = index_of (name_form n);
      lawful = lawful_name n;
    }

-- a name prints as its text
abbrev pub name_printed : Name → List ℕ
name_printed n = name_text n

-- the memory holds the text
pub text_of_padded : (text : List ℕ) → take (length text) (padded_text text) ≡ text
text_of_padded text = take_at text _ (length text) refl

-- the name of a lawful text
abbrev pub name_of : (text : List ℕ) → lawful_text text ≡ true → Name
name_of text e =
    record {
      bytes = padded_text text;
      len = length text;
      counted = ap length (sym (text_of_padded text));
      padded = ap padded_text (sym (text_of_padded text));
      lawful = ap lawful_text (text_of_padded text) ∙ e;
    }

-- a text that is lawful is a name, and one that is not is refused
abbrev pub named_if : (text : List ℕ) (lawful : Bool) → lawful_text text ≡ lawful → Reading Name
named_if text true e = read (name_of text e)
named_if text false e = refused (Some 6)

abbrev pub named : List ℕ → Reading Name
named text = named_if text (lawful_text text) refl

-- the length is judged first, then whether the text is there, then the text
abbrev pub name_reading_when : (lawful enough : Bool) (len : ℕ) (rest : List ℕ) → Reading Name
name_reading_when false enough len rest = refused (Some 6)
name_reading_when true false len rest = too_short
name_reading_when true true len rest = named (take len rest)

abbrev pub name_reading : List ℕ → Reading Name
name_reading [] = too_short
name_reading (len ∷ rest) = name_reading_when (lawful_length len) (nat_le len (length rest)) len rest
