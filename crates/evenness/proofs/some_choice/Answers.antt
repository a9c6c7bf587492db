use Rattle.evenness.proofs.Laws.{some_choice}
use Rattle.evenness.proofs.some_choice.Goals as goal

pub returns : goal.returns
returns c = some_choice
