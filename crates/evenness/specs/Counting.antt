-- Factorials, falling factorials and binomial numbers.
use Rattle.std.specs.Prelude.{ℕ, zero, suc, ◌+◌, ◌-◌, ◌*◌, cond, List, [], ◌∷◌, nat_le}

-- in how many ways k things are chosen from n: Pascal's rule
abbrev pub choose : (n k : ℕ) → ℕ
choose n zero = 1
choose zero (suc k) = 0
choose (suc n) (suc k) = choose n k + choose n (suc k)

-- choose d (l - a), and 0 where a is above l
abbrev pub choose_less : (d l a : ℕ) → ℕ
choose_less d l a = cond (nat_le a l) (choose d (l - a)) 0

-- in how many orders n things can stand
abbrev pub factorial : (n : ℕ) → ℕ
factorial zero = 1
factorial (suc n) = suc n * factorial n

-- in how many ways k places in a row can be dealt from n things
abbrev pub falling : (n k : ℕ) → ℕ
falling n zero = 1
falling zero (suc k) = 0
falling (suc n) (suc k) = suc n * falling n k

-- all the numbers of a list, multiplied
abbrev pub product : List ℕ → ℕ
product [] = 1
product (n ∷ ns) = n * product ns
