-- Lines, part by part, and how long their parts are.
use Rattle.std.proofs.Common.{◌≡◌, ℕ, ◌+◌, ◌-◌, ◌*◌, ◌^◌, ◌<◌, ◌≤◌, List, [], ◌∷◌, ◌++◌, length, Some, None, codes, decimal, Option, refl, ap, ◌∙◌, ⊎_elim, append_assoc, arith}
use Rattle.std.proofs.lemmas.Fmt.{length-decimal-le}
use Rattle.std.proofs.lemmas.List.{length-append, length_push}
use Rattle.std.proofs.lemmas.Bool.{cases_lt}
use Rattle.replays.specs.Lines.{line, read_line, tape_field, refused_line}
use Rattle.replays.specs.Refusals.{layer_word, Refusal}
use Rattle.pages.specs.Told.{tape_end}

-- a field and the space after it
pub field : (first second : List ℕ) → (first ++ 0x20 ∷ []) ++ second ≡ first ++ 0x20 ∷ second
field first second = append_assoc first (0x20 ∷ []) second

pub three_digits : (n : ℕ) → n < 256 → length (decimal n) ≤ 3
three_digits n small = length-decimal-le 3 n (omega arith) (omega arith) (omega arith)

pub five_digits : (n : ℕ) → n < 65536 → length (decimal n) ≤ 5
five_digits n small = length-decimal-le 5 n (omega arith) (omega arith) (omega arith)

-- READ, N and d, which are 1,024 together at most
pub read_is : (live unpaired : ℕ) → codes "READ " ++ ((decimal live ++ 0x20 ∷ []) ++ (decimal unpaired ++ 0x0A ∷ [])) ≡ read_line live unpaired
read_is live unpaired = ap (λ (l : List ℕ). codes "READ " ++ l) (field (decimal live) (decimal unpaired ++ 0x0A ∷ []))

pub read_most : (live unpaired : ℕ) → live + unpaired ≤ 1024 → length (read_line live unpaired) ≤ 13
read_most n d few =
    omega (
      arith,
      length-append (decimal n) (0x20 ∷ (decimal d ++ 0x0A ∷ [])),
      length_push (decimal d) 0x0A,
      digits,
    )
  where
    most : (k m : ℕ) → 0 < k → m < 10 ^ k → m < 65536 → length (decimal m) ≤ k
    most k m some small fits = length-decimal-le k m some small (omega arith)

    digits : length (decimal n) + length (decimal d) ≤ 6
    digits =
        ⊎_elim
        (λ (small : n < 1000).
        ⊎_elim (λ (small' : d < 1000). omega (arith, most 3 n (omega arith) (omega arith) (omega arith), most 3 d (omega arith) (omega arith) (omega arith)))
        (λ (large' : 1000 ≤ d). omega (arith, most 2 n (omega arith) (omega arith) (omega arith), most 4 d (omega arith) (omega arith) (omega arith))) (cases_lt d 1000))
        (λ (large : 1000 ≤ n). omega (arith, most 4 n (omega arith) (omega arith) (omega arith), most 2 d (omega arith) (omega arith) (omega arith))) (cases_lt n 1000)

-- the number of a place
pub place_digits : (i : ℕ) → i < 64 → length (decimal i) + 10 + (12 * (64 - (i + 1)) - (10 - (i + 1))) ≤ 12 * (64 - i) - (10 - i)
place_digits i few =
    ⊎_elim (λ (small : i < 10). omega (arith, length-decimal-le 1 i (omega arith) (omega arith) (omega arith)))
    (λ (large : 10 ≤ i). omega (arith, length-decimal-le 2 i (omega arith) (omega arith) (omega arith))) (cases_lt i 10)

-- the line of a refusal
last_fields : (word : List ℕ) (t : Option ℕ) → word ++ tape_end t ≡ line word (tape_field t)
last_fields word None = refl
last_fields word (Some byte) = refl

pub refused_is :
    (r : Refusal) →
    codes "REFUSED " ++ ((decimal r.number ++ 0x20 ∷ []) ++ ((decimal r.byte ++ 0x20 ∷ []) ++ (layer_word r.layer ++ tape_end r.tape_byte)))
    ≡ refused_line r
refused_is r =
    let number = decimal r.number in
    let byte = decimal r.byte in
    let word = layer_word r.layer in
    ap (λ (l : List ℕ). codes "REFUSED " ++ l)
    (field number ((byte ++ 0x20 ∷ []) ++ (word ++ tape_end r.tape_byte))
    ∙ ap (λ (l : List ℕ). number ++ 0x20 ∷ l) (field byte (word ++ tape_end r.tape_byte) ∙ ap (λ (l : List ℕ). byte ++ 0x20 ∷ l) (last_fields word r.tape_byte)))
