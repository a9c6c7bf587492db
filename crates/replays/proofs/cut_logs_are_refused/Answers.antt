use Rattle.replays.proofs.Prefixes.{cut_is_refused}
use Rattle.replays.proofs.cut_logs_are_refused.Goals as goal

pub returns : goal.returns
returns c = cut_is_refused
