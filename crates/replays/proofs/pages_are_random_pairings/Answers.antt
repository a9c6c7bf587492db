use Rattle.replays.proofs.Pairing.{random_pairing, form_numbers}
use Rattle.replays.proofs.pages_are_random_pairings.Goals as goal

pub returns : goal.returns
returns c = record { readings = random_pairing; numbering = form_numbers }
