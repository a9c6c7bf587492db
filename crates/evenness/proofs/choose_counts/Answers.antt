use Rattle.evenness.proofs.Choose.{choose_falling, falling_factorial}
use Rattle.evenness.proofs.choose_counts.Goals as goal

pub returns : goal.returns
returns c = record { in_order = choose_falling; others = falling_factorial }
