use Rattle.evenness.proofs.Laws.{shares}
use Rattle.evenness.proofs.shares.Goals as goal

pub returns : goal.returns
returns c = shares
