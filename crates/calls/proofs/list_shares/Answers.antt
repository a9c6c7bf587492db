use Rattle.calls.proofs.Shares.{list_shares}
use Rattle.calls.proofs.list_shares.Goals as goal

pub returns : goal.returns
returns c = list_shares
