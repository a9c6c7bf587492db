use Rattle.pages.proofs.Legible.{legible_is}
use Rattle.pages.proofs.readings.lawful_readings_are_whole.Goals as goal

pub returns : goal.returns
returns c = legible_is
