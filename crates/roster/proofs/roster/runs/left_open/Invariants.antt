use Rattle.std.proofs.Common.{◌≡◌, false}
use Rattle.roster.specs.Running.{first_said, left_open}
use Rattle.roster.proofs.roster.runs.left_open.Given as goal

abbrev pub invariant-loop-i : goal.invariant-loop-i
invariant-loop-i g l =
    l.opened ≡ left_open false (first_said g.K.Key.view l.i l.answers)
