-- What follows for every kind once its byte forms read back.
use Rattle.std.specs.Prelude.{◌≡◌, ℕ, Bool, true, List, [], ◌++◌, Option, ◌≢◌}
use Rattle.std.proofs.Common.{rules}
use Rattle.std.proofs.lemmas.Grind.{common_steps}
use Rattle.std.proofs.lemmas.List.{append_cancel_left}
use Rattle.keys.specs.Answers.{Reading, read, refused, read_if}

pub same_read : {K : Type 0} (a b : K) → read a ≡ read b → a ≡ b
same_read a b e = cc

pub not_read : {K : Type 0} (number : Option ℕ) (k : K) → refused number ≢ read k
not_read number k e = search rules

-- a key that comes of a test passed it
pub passed : {K : Type 0} (test : Bool) (made k : K) → read_if test made ≡ read k → (test ≡ true) × (made ≡ k)
passed test made k e = search rules

module _ {K : Type 0} (form : K → List ℕ) (lawful : K → Bool) (reading : List ℕ → Reading K) (back : (k : K) (rest : List ℕ) → lawful k ≡ true → reading (form k ++ rest) ≡ read k) where
  pub equal_from_back : (a b : K) → lawful a ≡ true → lawful b ≡ true → form a ≡ form b → a ≡ b
  equal_from_back a b la lb e = let one = back a [] la in let two = back b [] lb in search (rules, common_steps)

  pub apart_from_back : (a b : K) (more : List ℕ) → lawful a ≡ true → lawful b ≡ true → form b ≡ form a ++ more → more ≡ []
  apart_from_back a b more la lb e =
      let one = back a more la in
      let two = back b [] lb in
      append_cancel_left (form a) more [] (search (rules, common_steps))
