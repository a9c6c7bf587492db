use Rattle.sources.proofs.ReadBack.{written_in_turn}
use Rattle.sources.proofs.laws.records_stand_in_turn.Goals as goal

pub returns : goal.returns
returns c = written_in_turn
