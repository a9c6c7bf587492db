use Rattle.std.proofs.Common.{◌≡◌, length, drop}
use Rattle.roster.specs.Entering.{world}
use Rattle.roster.specs.Rosters.{book_of}
use Rattle.roster.specs.Running.{first_asked, first_said, Done}
use Rattle.roster.proofs.roster.Roster.carry_out_all.Given as goal

abbrev pub invariant-loop-i : goal.invariant-loop-i
invariant-loop-i g l =
    let view = g.K.Key.view in
    (length l.answers ≡ length l.initial.answers)
    × (drop l.i l.answers ≡ drop l.i l.initial.answers)
    × Done (world (book_of view l.initial.self) (g.P.Pile.meaning l.initial.pile) (g.S.Source.course l.initial.source).gives) (world (book_of view l.self) (g.P.Pile.meaning l.pile) (g.S.Source.course l.source).gives) (first_asked view l.i l.requests) (first_said view l.i l.answers)
