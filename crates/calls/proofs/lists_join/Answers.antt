use Rattle.calls.proofs.Joins.{lists_join}
use Rattle.calls.proofs.lists_join.Goals as goal

pub returns : goal.returns
returns c =
    record {
      answers = λ b m xs ys s t own. (lists_join b m xs ys s t own).answers;
      rosters = λ b m xs ys s t own. (lists_join b m xs ys s t own).book;
      piles = λ b m xs ys s t own. (lists_join b m xs ys s t own).pile;
    }
