use Rattle.calls.proofs.Sources.{took}
use Rattle.calls.proofs.steady_sources.Goals as goal

pub returns : goal.returns
returns c = took
