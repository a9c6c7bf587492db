-- More of names: what memory that holds a text has, and what follows where a text or bytes are read as a name.
use Rattle.std.specs.Prelude.{◌≡◌, ℕ, ◌-◌, ◌≤◌, Bool, true, false, List, [], ◌∷◌, ◌++◌, length, take, drop, replicate, Decides, nat_le, slice_index, refl}
use Rattle.std.proofs.Common.{sym, ap, ◌∙◌, rules}
use Rattle.std.proofs.Math.Nat.{sub-zero}
use Rattle.std.proofs.lemmas.Grind.{common_steps}
use Rattle.std.proofs.lemmas.List.{drop-replicate}
use Rattle.std.specs.Str.{bytes_eq}
use Rattle.keys.specs.Answers.{Reading, read}
use Rattle.keys.specs.Names.{name_text, name_form, text_of_padded, name_of, named_if, named, name_reading, name_reading_when}
use Rattle.keys.specs.Texts.{lawful_length, lawful_text, padded_text}
use Rattle.keys.specs.declared.name.Name.{Name}

-- what the memory of a name owes
pub text_fits : (text bytes : List ℕ) → bytes ≡ padded_text text → lawful_text text ≡ true → (length text ≡ length (take (length text) bytes)) × (bytes ≡ padded_text (take (length text) bytes)) × (lawful_text (take (length text) bytes) ≡ true)
text_fits text bytes e l = search (rules, common_steps)

pub padded_is : (text part : List ℕ) → part ≡ text → part ++ drop (length text - 0) (replicate 8 0) ≡ padded_text text
padded_is text part e = simp (e, sub-zero, drop-replicate)

-- a text that is a name is the text of that name
pub named_form : (text : List ℕ) (n : Name) → named text ≡ read n → name_form n ≡ length text ∷ text
named_form text n e = go (lawful_text text) refl e
  where
    go : (b : Bool) (h : lawful_text text ≡ b) → named_if text b h ≡ read n → name_form n ≡ length text ∷ text
    go true h k =
        let same : name_of text h ≡ n = cc in
        ap name_form (sym same) ∙ ap (λ t. length text ∷ t) (text_of_padded text)
    go false h k = search rules

-- a name that was read had its whole text there
read_whole : (size enough : Bool) (len : ℕ) (rest : List ℕ) (n : Name) → nat_le len (length rest) ≡ enough → name_reading_when size enough len rest ≡ read n → (len ≤ length rest) × (named (take len rest) ≡ read n)
read_whole size enough len rest n t e = search rules

-- a lawful length, and the text there
pub reading_at : (bytes : List ℕ) (len : ℕ) → len ≡ slice_index bytes 0 → lawful_length len ≡ true → len ≤ length (take (length bytes - 1) (drop 1 bytes)) → named (take (len - 0) (take (length bytes - 1) (drop 1 bytes))) ≡ name_reading bytes
reading_at [] len e lawful there = search (rules, common_steps)
reading_at (b ∷ bs) len e lawful there =
    let all : take (len - 0) (take (length (b ∷ bs) - 1) bs) ≡ take b bs = search (rules, common_steps) in
    let size : lawful_length b ≡ true = search rules in
    let here : nat_le b (length bs) ≡ true = search (rules, common_steps) in
    ap named all
    ∙ ap (λ t. name_reading_when true t b bs) (sym here)
    ∙ ap (λ t. name_reading_when t (nat_le b (length bs)) b bs) (sym size)

-- so what was read from there is what the bytes are read as
pub reads_at : (bytes : List ℕ) (len : ℕ) (r : Reading Name) → r ≡ named (take len (take (length bytes - 1) (drop 1 bytes))) → len ≡ slice_index bytes 0 → lawful_length len ≡ true → len ≤ length (take (length bytes - 1) (drop 1 bytes)) → r ≡ name_reading bytes
reads_at bytes len r is e lawful there =
    is
    ∙ ap (λ k. named (take k (take (length bytes - 1) (drop 1 bytes)))) (sym (sub-zero len))
    ∙ reading_at bytes len e lawful there

pub same_texts : (a b : Name) (r : Bool) → Decides r (name_text a ≡ name_text b) → r ≡ bytes_eq (name_form a) (name_form b)
same_texts a b r d = search (rules, common_steps)
