use Rattle.sources.proofs.ReadBack.{tapes_back, tapes_end}
use Rattle.sources.proofs.laws.tapes_read_back.Goals as goal

pub returns : goal.returns
returns c = record { course = tapes_back; end = tapes_end }
