use Rattle.std.proofs.Common.{◌≡◌, ℕ, List, [], ◌∷◌, ◌++◌, None, codes, decimal, arith}
use Rattle.std.proofs.lemmas.Fmt.{decimal_digit}
use Rattle.replays.specs.Lines.{line}
use Rattle.replays.proofs.worked_example.Goals as goal

zero_is : decimal 0 ≡ 48 ∷ []
zero_is = decimal_digit 0 (omega arith)

one_is : decimal 1 ≡ 49 ∷ []
one_is = decimal_digit 1 (omega arith)

two_is : decimal 2 ≡ 50 ∷ []
two_is = decimal_digit 2 (omega arith)

three_is : decimal 3 ≡ 51 ∷ []
three_is = decimal_digit 3 (omega arith)

four_is : decimal 4 ≡ 52 ∷ []
four_is = decimal_digit 4 (omega arith)

-- the page, with these digits for 0 to 4
page_with : (zero one two three four : List ℕ) → List ℕ
page_with zero one two three four =
    (line (codes "READ") (two ∷ one ∷ []) ++ (line zero (codes "b" ∷ []) ++ (line one [] ++ [])))
    ++ ((line (codes "READ") (three ∷ zero ∷ []) ++ (line zero (codes "b" ∷ []) ++ (line one (codes "d" ∷ []) ++ [])))
    ++ (line (codes "END") (four ∷ []) ++ []))

pub returns : goal.returns
unfolding page_with
returns c = λ i. record { page = page_with (zero_is i) (one_is i) (two_is i) (three_is i) (four_is i); refused = None }
