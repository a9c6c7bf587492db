-- Both kinds of key keep the laws that the replay asks of a kind.
use Rattle.std.proofs.Common.{◌≡◌, ℕ, ◌^◌, ◌<◌, ◌≤◌, true, leb, List, [], ◌++◌, length, drop, Some, None, sym, refl, ap, ◌∙◌, subst, append-nil, arith, rules}
use Rattle.std.proofs.lemmas.Fmt.{length-decimal-le, decimal_nonempty}
use Rattle.std.proofs.lemmas.Bool.{and_parts, leb-true}
use Rattle.std.proofs.lemmas.Grind.{common_steps}
use Rattle.keys.specs.Answers.{Reading, read, refused}
use Rattle.keys.specs.Names.{name_form, lawful_name, name_class, name_view, name_reading, name_printed}
use Rattle.keys.specs.Numbers.{number_form, lawful_number, number_view, number_reading, number_printed}
use Rattle.keys.specs.NamesLemmas.{name_back}
use Rattle.keys.specs.declared.name.Name.{Name}
use Rattle.keys.specs.declared.number.Number.{Number}
use Rattle.keys.proofs.NumbersLemmas.{number_class_below}
use Rattle.calls.specs.Book.{KeyView}
use Rattle.replays.specs.Kinds.{found, key_refused, cut_short, read_view, read_print, kind_by, numbers, names, LawfulKind, PrintsKeys}

same_found : (a b : KeyView) → found a ≡ found b → a ≡ b
same_found a b e = cc

not_found : (number : ℕ) (b : KeyView) → key_refused number ≡ found b → ⊥
not_found number b e = let z : ◌≡◌ {A = ℕ} 0 1 = cc in omega arith

not_cut : (b : KeyView) → cut_short ≡ found b → ⊥
not_cut b e = let z : ◌≡◌ {A = ℕ} 0 1 = cc in omega arith

module _ {K : Type 0} (view : K → KeyView) (reading : List ℕ → Reading K) (printed : K → List ℕ) where
  read_key :
      (r : Reading K) (key : KeyView) → read_view view reading printed r ≡ found key →
      (k : K) × (r ≡ read k) × (view k ≡ key)
  read_key (read k) key e = (k, refl, same_found _ key e)
  read_key (refused (Some number)) key e = absurd (not_found number key e)
  read_key (refused None) key e = absurd (not_cut key e)

  module _ (back : (k : K) (rest : List ℕ) → (view k).lawful ≡ true → reading ((view k).form ++ rest) ≡ read k) (is_lawful : (k : K) (bytes : List ℕ) → reading bytes ≡ read k → (view k).lawful ≡ true) (begins : (k : K) (bytes : List ℕ) → reading bytes ≡ read k → bytes ≡ (view k).form ++ drop (length (view k).form) bytes) (classes : (k : K) → (view k).class < 8) (brief : (k : K) → (view k).lawful ≡ true → (1 ≤ length (printed k)) × (length (printed k) ≤ 8)) (by_six : (bytes : List ℕ) (number : ℕ) → reading bytes ≡ refused (Some number) → number ≡ 6) where
    pub prints_key : (k : K) → (view k).lawful ≡ true → read_print view reading printed (reading (view k).form) ≡ printed k
    prints_key k l = ap (read_print view reading printed) (ap reading (sym (append-nil (view k).form)) ∙ back k [] l)

    six : (r : Reading K) (bytes : List ℕ) (number : ℕ) → reading bytes ≡ r → read_view view reading printed r ≡ key_refused number → number ≡ 6
    six (read k) bytes number q e = let z : ◌≡◌ {A = ℕ} 0 1 = cc in omega arith
    six (refused (Some n)) bytes number q e = let same : n ≡ number = cc in by_six bytes number (q ∙ ap (λ k. refused (Some k)) same)
    six (refused None) bytes number q e = let z : ◌≡◌ {A = ℕ} 0 1 = cc in omega arith

    pub lawful_kind_by : LawfulKind (kind_by view reading printed)
    lawful_kind_by =
        record {
          lawful = λ bytes key e.
              let k = read_key (reading bytes) key e in
              ap (λ (v : KeyView). v.lawful) (sym k.2) ∙ is_lawful k.0 bytes k.1;
          classes = λ bytes key e.
              let k = read_key (reading bytes) key e in subst (λ (v : KeyView). v.class < 8) k.2 (classes k.0);
          begins = λ bytes key e.
              let k = read_key (reading bytes) key e in
              subst (λ (v : KeyView). bytes ≡ v.form ++ drop (length v.form) bytes) k.2 (begins k.0 bytes k.1);
          back = λ bytes key rest e.
              let k = read_key (reading bytes) key e in
              subst (λ (v : KeyView). read_view view reading printed (reading (v.form ++ rest)) ≡ found v) k.2
              (ap (read_view view reading printed) (back k.0 rest (is_lawful k.0 bytes k.1)));
          brief = λ bytes key e.
              let k = read_key (reading bytes) key e in
              let l = is_lawful k.0 bytes k.1 in
              subst (λ (v : KeyView). let size = length (read_print view reading printed (reading v.form)) in (1 ≤ size) × (size ≤ 8)) k.2
              (subst (λ (p : List ℕ). (1 ≤ length p) × (length p ≤ 8)) (sym (prints_key k.0 l)) (brief k.0 l));
          by_six = λ bytes number e. six (reading bytes) bytes number refl e;
        }

-- numbers
number_back : (n : Number) (rest : List ℕ) → lawful_number n ≡ true → number_reading (number_form n ++ rest) ≡ read n
number_back n rest l = search rules

number_found : (n : Number) (bytes : List ℕ) → number_reading bytes ≡ read n → lawful_number n ≡ true
number_found n bytes e = search rules

number_begins : (n : Number) (bytes : List ℕ) → number_reading bytes ≡ read n → bytes ≡ number_form n ++ drop (length (number_form n)) bytes
number_begins n bytes e = search rules

number_brief : (n : Number) → lawful_number n ≡ true → (1 ≤ length (number_printed n)) × (length (number_printed n) ≤ 8)
number_brief n l =
    let high : n ≤ 65535 = leb-true n 65535 (and_parts (leb 1 n) (leb n 65535) l).1 in
    let small : n < 2 ^ 64 = omega arith in
    let some = decimal_nonempty n small in
    let most = length-decimal-le 5 n (omega arith) (omega arith) small in
    (omega arith, omega arith)

number_six : (bytes : List ℕ) (number : ℕ) → number_reading bytes ≡ refused (Some number) → number ≡ 6
number_six bytes number e = search rules

pub numbers_lawful : LawfulKind numbers
numbers_lawful =
    lawful_kind_by number_view number_reading number_printed number_back number_found number_begins number_class_below number_brief
    number_six

-- names
name_found : (n : Name) (bytes : List ℕ) → name_reading bytes ≡ read n → lawful_name n ≡ true
name_found n bytes e = search rules

name_begins : (n : Name) (bytes : List ℕ) → name_reading bytes ≡ read n → bytes ≡ name_form n ++ drop (length (name_form n)) bytes
name_begins n bytes e = search (rules, common_steps)

name_class_below : (n : Name) → name_class n < 8
name_class_below n = search rules

name_brief : (n : Name) → lawful_name n ≡ true → (1 ≤ length (name_printed n)) × (length (name_printed n) ≤ 8)
name_brief n l = search rules

name_six : (bytes : List ℕ) (number : ℕ) → name_reading bytes ≡ refused (Some number) → number ≡ 6
name_six bytes number e = search rules

pub names_lawful : LawfulKind names
names_lawful =
    lawful_kind_by name_view name_reading name_printed name_back name_found name_begins name_class_below name_brief name_six

pub prints_keys : PrintsKeys
prints_keys =
    record {
      of_numbers =
          prints_key number_view number_reading number_printed number_back number_found number_begins number_class_below number_brief
          number_six;
      of_names =
          prints_key name_view name_reading name_printed name_back name_found name_begins name_class_below name_brief name_six;
    }
