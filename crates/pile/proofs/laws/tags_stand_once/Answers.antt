use Rattle.pile.proofs.Changes.{once_all}
use Rattle.pile.proofs.laws.tags_stand_once.Goals as goal

pub returns : goal.returns
returns c = once_all
