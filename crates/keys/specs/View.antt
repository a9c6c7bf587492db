-- What the rules see of a key.
use Rattle.std.specs.Prelude.{ℕ, Bool, List}

-- a key, as the rules look at it
pub record KeyView : Type 0 where
  -- its byte form, which tells it from every other key
  pub form : List ℕ
  pub class : ℕ
  -- where a search for it begins
  pub index : ℕ
  pub lawful : Bool
