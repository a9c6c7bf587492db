use Rattle.pile.proofs.Changes.{entries_unpaired}
use Rattle.pile.proofs.laws.entries_alone_pair_all.Goals as goal

pub returns : goal.returns
returns c = entries_unpaired
