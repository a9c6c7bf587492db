use Rattle.replays.proofs.Pairing.{right_receipts}
use Rattle.replays.proofs.receipts_are_random_pairings.Goals as goal

pub returns : goal.returns
returns c = right_receipts
