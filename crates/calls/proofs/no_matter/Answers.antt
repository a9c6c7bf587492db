use Rattle.calls.proofs.Insertions.{no_matter}
use Rattle.calls.proofs.no_matter.Goals as goal

pub returns : goal.returns
returns c = no_matter
