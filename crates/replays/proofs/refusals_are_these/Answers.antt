use Rattle.replays.proofs.Refused.{can_come, none_of_these, page_ends}
use Rattle.replays.proofs.refusals_are_these.Goals as goal

pub returns : goal.returns
returns c = record { these = can_come; never = none_of_these; line = page_ends }
