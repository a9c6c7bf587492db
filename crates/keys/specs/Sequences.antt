-- Keys one after another.
use Rattle.std.specs.Prelude.{ℕ, zero, suc, List, [], ◌∷◌, length, drop}
use Rattle.keys.specs.Answers.{Reading, read, refused}
use Rattle.keys.specs.View.{KeyView}

module _ {K : Type 0} (view : K → KeyView) where
  -- the key that was read, and the keys after it; none where none was read
  abbrev pub keys_after : Reading K → (bytes : List ℕ) → (more : List ℕ → List K) → List K
  keys_after (read k) bytes more = k ∷ more (drop (length (view k).form) bytes)
  keys_after (refused number) bytes more = []

  -- the keys that the bytes begin with, one after another, up to a number of them
  abbrev pub keys_in : (reading : List ℕ → Reading K) (most : ℕ) (bytes : List ℕ) → List K
  keys_in reading zero bytes = []
  keys_in reading (suc most) bytes = keys_after (reading bytes) bytes (keys_in reading most)
