use Rattle.calls.proofs.Further.{goes_on}
use Rattle.calls.proofs.runs_go_on.Goals as goal

pub returns : goal.returns
returns c = goes_on
