use Rattle.pile.proofs.Changes.{sound_all}
use Rattle.pile.proofs.laws.changes_stay_sound.Goals as goal

pub returns : goal.returns
returns c = sound_all
