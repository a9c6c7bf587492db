use Rattle.calls.proofs.Listings.{list_under}
use Rattle.calls.proofs.under_every_tape.Goals as goal

pub returns : goal.returns
returns c = list_under
