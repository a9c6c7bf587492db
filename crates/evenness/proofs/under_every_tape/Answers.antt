use Rattle.evenness.proofs.Laws.{under_every_tape}
use Rattle.evenness.proofs.under_every_tape.Goals as goal

pub returns : goal.returns
returns c = under_every_tape
