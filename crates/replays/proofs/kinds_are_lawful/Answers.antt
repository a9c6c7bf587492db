use Rattle.replays.proofs.KindLaws.{numbers_lawful, names_lawful, prints_keys}
use Rattle.replays.proofs.kinds_are_lawful.Goals as goal

pub returns : goal.returns
returns c = record { numbers = numbers_lawful; names = names_lawful; printed = prints_keys }
