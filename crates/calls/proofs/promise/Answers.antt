use Rattle.calls.proofs.Promised.{promise}
use Rattle.calls.proofs.promise.Goals as goal

pub returns : goal.returns
returns c = promise
