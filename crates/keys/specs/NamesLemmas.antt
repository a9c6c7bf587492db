-- What the laws of names stand on: a lawful text is ASCII, its padded form and its length tell it from every other text, equal memory is
-- the same name, and a byte form reads back.
use Rattle.std.specs.Prelude.{◌≡◌, ℕ, ◌<◌, ◌≤◌, Bool, true, false, List, [], ◌∷◌, ◌++◌, length, take, IsUtf8, nat_le, refl}
use Rattle.std.proofs.Common.{sym, ap, ◌∙◌, arith, rules}
use Rattle.std.proofs.Math.Bool.{Bool-set}
use mathlib.Core.HLevel.{is_prop→PathP}
use mathlib.Core.List.{is_set}
use Rattle.std.proofs.Math.Nat.{ℕ_set}
use Rattle.std.proofs.lemmas.Bool.{and_parts, leb-true, le-leb}
use Rattle.std.proofs.lemmas.Grind.{common_steps}
use Rattle.std.proofs.lemmas.List.{take_at, length-append}
use Rattle.std.proofs.lemmas.Str.{IsUtf8-from_ascii}
use Rattle.std.proofs.ByRecursion.{IsAscii-from_all, All-weaker}
use Rattle.std.specs.List.{AllByRecursion}
use Rattle.keys.specs.Answers.{read}
use Rattle.keys.specs.Bytes.{Bytes}
use Rattle.keys.specs.Names.{name_text, name_form, lawful_name, name_of, named_if, named, name_reading, name_reading_when}
use Rattle.keys.specs.Texts.{lawful_length, lawful_bytes, lawful_text, padded_text}
use Rattle.keys.specs.declared.name.Name.{Name}

all_ascii : (text : List ℕ) → lawful_bytes text ≡ true → AllByRecursion (λ b. b < 128) text
all_ascii [] l = tt
all_ascii (b ∷ bs) l = search (rules, common_steps, all_ascii bs)

text_ascii : (text : List ℕ) → lawful_text text ≡ true → AllByRecursion (λ b. b < 128) text
text_ascii text l = all_ascii text (and_parts (lawful_length (length text)) (lawful_bytes text) l).1

pub text_bytes : (text : List ℕ) → lawful_text text ≡ true → Bytes text
text_bytes text l = All-weaker (λ b. b < 128) (λ b. b < 256) (λ b h. omega arith) text (text_ascii text l)

pub text_utf8 : (text : List ℕ) → lawful_text text ≡ true → IsUtf8 text
text_utf8 text l = search (rules, IsUtf8-from_ascii, IsAscii-from_all, text_ascii)

pub text_from_padded : (a b : List ℕ) → padded_text a ≡ padded_text b → length a ≡ length b → a ≡ b
text_from_padded a b padded size =
    let cut = ap (take (length a)) padded in
    search (rules, common_steps)

-- equal memory is the same name
pub same_name : (a b : Name) → a.bytes ≡ b.bytes → a.len ≡ b.len → a ≡ b
same_name a b p q = λ j.
    record {
      bytes = p j;
      len = q j;
      counted = is_prop→PathP (λ k. q k ≡ length (take (q k) (p k))) (λ k. ℕ_set _ _) a.counted b.counted j;
      padded = is_prop→PathP (λ k. p k ≡ padded_text (take (q k) (p k))) (λ k. is_set ℕ_set _ _) a.padded b.padded j;
      lawful = is_prop→PathP (λ k. lawful_text (take (q k) (p k)) ≡ true) (λ k. Bool-set _ _) a.lawful b.lawful j;
    }

-- a lawful text is a name
pub named_lawful : (text : List ℕ) (e : lawful_text text ≡ true) → named text ≡ read (name_of text e)
named_lawful text e = go (lawful_text text) refl
  where
    go : (b : Bool) (h : lawful_text text ≡ b) → named_if text b h ≡ read (name_of text e)
    go true h = ap (λ x. read (name_of text x)) (Bool-set _ _ h e)
    go false h = search rules

-- and a name is that of its text
pub named_text : (n : Name) → named (name_text n) ≡ read n
named_text n = named_lawful (name_text n) n.lawful ∙ ap read (same_name _ n (sym n.padded) (sym n.counted))

-- so a name with this text is what the text is read as
pub named_by : (text : List ℕ) (n : Name) → name_text n ≡ text → read n ≡ named text
named_by text n e = sym (named_text n) ∙ ap named e

pub name_len : (n : Name) → (1 ≤ n.len) × (n.len ≤ 8)
name_len n =
    let size = length (name_text n) in
    let t = (and_parts (lawful_length size) (lawful_bytes (name_text n)) n.lawful).0 in
    let p = and_parts (nat_le 1 size) (nat_le size 8) t in
    let low : 1 ≤ size = leb-true 1 size p.0 in
    let high : size ≤ 8 = leb-true size 8 p.1 in
    (omega (arith, n.counted), omega (arith, n.counted))

pub utf8_text : (n : Name) → IsUtf8 (name_text n)
utf8_text n = text_utf8 (name_text n) n.lawful

pub name_bytes : (n : Name) → Bytes (name_form n)
name_bytes n = (omega (arith, (name_len n).1), text_bytes (name_text n) n.lawful)

-- a byte form reads back, whatever follows it,
pub name_back : (n : Name) (rest : List ℕ) → lawful_name n ≡ true → name_reading (name_form n ++ rest) ≡ read n
name_back n rest l =
    let text = name_text n in
    let size : lawful_length n.len ≡ true = ap lawful_length n.counted ∙ (and_parts _ _ l).0 in
    let here : nat_le n.len (length (text ++ rest)) ≡ true =
    le-leb n.len (length (text ++ rest)) (omega (arith, n.counted, length-append text rest))
    in
    ap (λ b. name_reading_when b (nat_le n.len (length (text ++ rest))) n.len (text ++ rest)) size
    ∙ ap (λ b. name_reading_when true b n.len (text ++ rest)) here
    ∙ ap named (take_at text rest n.len (sym n.counted))
    ∙ named_text n

-- so equal byte forms are those of one name
pub name_equal : (a b : Name) → name_form a ≡ name_form b → a ≡ b
name_equal a b e =
    let back : read a ≡ read b = sym (name_back a [] a.lawful) ∙ ap (λ f. name_reading (f ++ [])) e ∙ name_back b [] b.lawful in
    cc
