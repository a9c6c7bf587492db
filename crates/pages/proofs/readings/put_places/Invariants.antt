use Rattle.std.proofs.Common.{◌+◌, ◌-◌, ◌*◌, ◌≤◌, length, take}
use Rattle.roster.specs.Rosters.{book_of}
use Rattle.replays.specs.Kinds.{kind_by}
use Rattle.pages.specs.Readings.{told_lines}
use Rattle.pages.specs.Writing.{Wrote}
use Rattle.pages.proofs.readings.put_places.Given as goal

abbrev pub invariant-loop-i : goal.invariant-loop-i
invariant-loop-i g l =
    let view = g.K.Key.view in
    let kind = kind_by view g.K.Key.reading g.K.Printed.printed in
    Wrote (told_lines kind (book_of view l.roster).slots 0 (take l.i l.places)) l.initial.page l.initial.next l.page l.next
    × (l.next + (12 * (64 - l.i) - (10 - l.i)) ≤ length l.page)
