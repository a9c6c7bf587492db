use Rattle.std.proofs.Common.{length}
use Rattle.keys.specs.Sequences.{keys_in}
use Rattle.keys.proofs.Runs.{Come}
use Rattle.keys.proofs.sequences.read_keys.Given as goal

abbrev pub invariant-loop-count : goal.invariant-loop-count
invariant-loop-count g l =
    let view = g.K.Key.view in
    let reading = g.K.Key.reading in
    Come view reading (keys_in view reading (length l.initial.into) l.initial.left) l.initial.into l.into l.count l.left
