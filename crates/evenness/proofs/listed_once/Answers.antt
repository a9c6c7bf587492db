use Rattle.evenness.proofs.Totals.{listed_once, not_listed}
use Rattle.evenness.proofs.listed_once.Goals as goal

pub returns : goal.returns
returns c = record { once = listed_once; no_other = not_listed }
