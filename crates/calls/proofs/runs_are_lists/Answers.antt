use Rattle.calls.proofs.Runs.{run_listed}
use Rattle.calls.proofs.runs_are_lists.Goals as goal

pub returns : goal.returns
returns c =
    record {
      answers = λ w requests. (run_listed w requests).answers;
      rosters = λ w requests. (run_listed w requests).book;
      piles = λ w requests. (run_listed w requests).pile;
    }
