use Rattle.replays.proofs.Orders.{goes_over, uses_tape}
use Rattle.replays.proofs.nothing_is_left_out.Goals as goal

pub returns : goal.returns
returns c = record { records = goes_over; tape = uses_tape }
