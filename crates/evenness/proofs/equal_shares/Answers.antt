use Rattle.evenness.proofs.Laws.{equal_shares}
use Rattle.evenness.proofs.equal_shares.Goals as goal

pub returns : goal.returns
returns c = equal_shares
