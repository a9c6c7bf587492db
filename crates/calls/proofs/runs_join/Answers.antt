use Rattle.calls.proofs.Joins.{sources_join}
use Rattle.calls.proofs.Runs.{runs_join}
use Rattle.calls.proofs.runs_join.Goals as goal

pub returns : goal.returns
returns c = record { answers = λ w xs ys. (runs_join w xs ys).0; worlds = λ w xs ys. (runs_join w xs ys).1; sources = sources_join }
