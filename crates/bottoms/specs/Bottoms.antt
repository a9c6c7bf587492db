-- What the two bottoms mean, and what their openings give.
use Rattle.std.specs.Prelude.{ℕ, Bool, List, [], nat_lt}
use Rattle.pile.specs.Answers.{Place}
use Rattle.pile.specs.Meaning.{Meaning}
use Rattle.pile.specs.Opening.{taken_size}
use Rattle.bottoms.specs.declared.bottom.Bottom.{Bottom}
use Rattle.bottoms.specs.declared.bottom.Leaves.{Ghosts}

-- a bottom counts every class, and a class is 0 to 7
abbrev pub all_classes : ℕ → Bool
all_classes class = nat_lt class 8

abbrev pub bottom : (leaves : Bool) (bound live unpaired : ℕ) → List Place → Meaning
bottom leaves bound live unpaired places =
    record {
      bound = bound;
      counted = all_classes;
      leaves = leaves;
      live = live;
      unpaired = unpaired;
      places = places;
    }

-- what a bottom means, whose kind tells whether it takes leaves
abbrev pub bottom_meaning : {L : Type 0} {kind : Ghosts L} → Bottom L kind → Meaning
bottom_meaning {L} {kind} p = bottom kind.TAKEN p.bound p.live p.unpaired p.places

-- a bottom as it is opened
abbrev pub opened : (leaves : Bool) (bound : ℕ) → Meaning
opened leaves bound = bottom leaves (taken_size bound) 0 0 []
