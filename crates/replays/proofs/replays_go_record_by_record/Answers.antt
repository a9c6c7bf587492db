use Rattle.replays.proofs.Records.{record_by_record}
use Rattle.replays.proofs.replays_go_record_by_record.Goals as goal

pub returns : goal.returns
returns c = record_by_record
