use Rattle.evenness.proofs.Laws.{no_others}
use Rattle.evenness.proofs.no_others.Goals as goal

pub returns : goal.returns
returns c = no_others
