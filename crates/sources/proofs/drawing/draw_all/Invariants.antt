use Rattle.sources.proofs.Lists.{SoFar}
use Rattle.sources.proofs.drawing.draw_all.Given as goal

abbrev pub invariant-loop-i : goal.invariant-loop-i
invariant-loop-i g l = SoFar (g.S.Source.course l.initial.source).gives (g.S.Source.course l.source).gives l.radices l.initial.draws l.draws l.i
