use Rattle.evenness.specs.Events.{radices}
use Rattle.evenness.proofs.Laws.{some_tape}
use Rattle.evenness.proofs.Totals.{length_tapes}
use Rattle.evenness.proofs.all_tapes.Goals as goal

pub returns : goal.returns
returns c = record { as_many = λ m es. length_tapes (radices m es); some = some_tape }
