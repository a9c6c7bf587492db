-- What a pile means, when that is sound, and when it is new.
use Rattle.std.specs.Prelude.{◌≡◌, ℕ, ◌+◌, ◌<◌, ◌≤◌, min, Bool, true, List, [], ◌∷◌, length, Some, None}
use Rattle.pile.specs.Answers.{Place}

pub record Meaning : Type 0 where
  -- M: how many places there can be
  pub bound : ℕ
  -- the classes whose keys it counts
  pub counted : ℕ → Bool
  -- whether it takes leaves of counted classes
  pub leaves : Bool
  -- N: how many counted keys are live
  pub live : ℕ
  -- d: the counted leaves that no later counted entry has made up for
  pub unpaired : ℕ
  -- the numbered places, from place 0 on
  pub places : List Place

-- how many of the places are holes
abbrev pub holes : List Place → ℕ
holes [] = 0
holes (None ∷ ps) = holes ps + 1
holes (Some t ∷ ps) = holes ps

-- how many of the places hold a tag
abbrev pub standing : List Place → ℕ
standing [] = 0
standing (None ∷ ps) = standing ps
standing (Some t ∷ ps) = standing ps + 1

-- what holds of every pile's meaning
pub record Sound (m : Meaning) : Type 0 where
  pub some_place : 1 ≤ m.bound
  pub few_places : m.bound ≤ 64
  pub classes : (c : ℕ) → m.counted c ≡ true → c < 8
  pub as_many_places : length m.places ≡ min m.bound (m.live + m.unpaired)
  pub few_holes : holes m.places ≤ m.unpaired
  pub few_keys : m.live + m.unpaired ≤ 1024

-- a pile to which nothing has happened
pub record New (m : Meaning) : Type 0 where
  pub none_live : m.live ≡ 0
  pub none_unpaired : m.unpaired ≡ 0
  pub no_places : m.places ≡ []
