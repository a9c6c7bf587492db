-- What an opening of a bottom gives.
use Rattle.std.proofs.Common.{ℕ, Bool, rules}
use Rattle.pile.specs.Meaning.{Sound}
use Rattle.bottoms.specs.Bottoms.{opened}

-- it is sound
pub opened_sound : (leaves : Bool) (bound : ℕ) → Sound (opened leaves bound)
opened_sound leaves bound = search rules
