use Rattle.std.proofs.Common.{◌≡◌, ℕ, ◌<◌, length, get_or}
use Rattle.pile.specs.Answers.{place_told}
use Rattle.pile.specs.Rules.{place_rule}
use Rattle.pile.specs.declared.receipts.PlaceState.TheVariants.{NoSuchPlace}
use Rattle.pages.proofs.readings.places_of.Given as goal

abbrev pub invariant-loop-i : goal.invariant-loop-i
invariant-loop-i g l =
    (length l.place-items ≡ 64)
    × ((k : ℕ) → k < l.i → place_told (get_or l.place-items k NoSuchPlace) ≡ place_rule (g.P.Pile.meaning l.pile) k)
