-- What a front means is sound, and new over a new pile.
use Rattle.std.specs.Prelude.{ℕ, zero, suc, ◌≤◌, List, [], ◌∷◌, take}
use Rattle.std.proofs.Common.{arith, length-take}
use Rattle.pile.specs.Answers.{Place}
use Rattle.pile.specs.Meaning.{Meaning, New, Sound, holes}
use Rattle.layers.specs.Layers.{fronted}

-- the first places have no more holes
holes_take : (s : ℕ) (ps : List Place) → holes (take s ps) ≤ holes ps
holes_take zero ps = omega arith
holes_take (suc s) [] = omega arith
holes_take (suc s) (p ∷ ps) = grind (arith, holes_take s ps)

pub fronted_sound : (s : ℕ) (m : Meaning) → 1 ≤ s → s ≤ 64 → Sound m → Sound (fronted s m)
fronted_sound s m low high sound =
    record {
      some_place = omega (arith, sound.some_place);
      few_places = omega (arith, sound.few_places);
      classes = sound.classes;
      as_many_places = omega (arith, length-take s m.places, sound.as_many_places);
      few_holes = omega (arith, holes_take s m.places, sound.few_holes);
      few_keys = sound.few_keys;
    }

pub fronted_new : (s : ℕ) (m : Meaning) → New m → New (fronted s m)
fronted_new s m new =
    record {
      none_live = new.none_live;
      none_unpaired = new.none_unpaired;
      no_places = grind (arith, length-take s m.places);
    }
