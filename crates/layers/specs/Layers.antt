-- What a layer means, over the meaning of the pile below it.
use Rattle.std.specs.Prelude.{ℕ, ◌/◌, ◌%◌, ◌^◌, min, Bool, true, false, ◌&&◌, take, Some, None, Option, ◌==◌, nat_lt}
use Rattle.pile.specs.Meaning.{Meaning}

-- bit c of the set stands for class c, 0 to 7
abbrev pub in_set : (classes class : ℕ) → Bool
in_set classes class = nat_lt class 8 && (classes / 2 ^ class) % 2 == 1

-- a filter counts a class exactly if its own set and the pile below both count it
abbrev pub filtered : (classes : ℕ) → Meaning → Meaning
filtered classes m =
    record {
      bound = m.bound;
      counted = λ class. in_set classes class && m.counted class;
      leaves = m.leaves;
      live = m.live;
      unpaired = m.unpaired;
      places = m.places;
    }

-- a front shows the first places only, so its bound is the lesser of its size and the bound below
abbrev pub fronted : (size : ℕ) → Meaning → Meaning
fronted size m =
    record {
      bound = min size m.bound;
      counted = m.counted;
      leaves = m.leaves;
      live = m.live;
      unpaired = m.unpaired;
      places = take size m.places;
    }

-- a place below, as the front shows it: none past its size
abbrev pub shown_when : Bool → ℕ → Option ℕ
shown_when true i = Some i
shown_when false i = None

abbrev pub shown_place : (size : ℕ) → Option ℕ → Option ℕ
shown_place size None = None
shown_place size (Some i) = shown_when (nat_lt i size) i
