use Rattle.calls.proofs.Joins.{marks_join}
use Rattle.calls.proofs.Runs.{run_marked_from}
use Rattle.calls.proofs.runs_are_marked.Goals as goal

pub returns : goal.returns
returns c = record { runs = run_marked_from; joined = marks_join }
