use Rattle.std.proofs.Common.{ap, arith}
use Rattle.std.proofs.lemmas.List.{take_all}
use Rattle.pile.specs.declared.receipts.PlaceState.TheVariants.{Held}
use Rattle.roster.specs.Rosters.{book_of}
use Rattle.replays.specs.Kinds.{kind_by}
use Rattle.pages.specs.Readings.{told_lines}
use Rattle.pages.proofs.Fields.{place_digits}
use Rattle.pages.proofs.Legible.{told_more}
use Rattle.pages.proofs.Writing.{wrote_as, wrote_more, wrote_none}
use Rattle.pages.proofs.readings.put_places.Goals as goal

pub loop-i-init : goal.loop-i-init
loop-i-init g c = (wrote_none c.args.page.now c.args.at (omega arith), c.requires.room)

pub put_place-next-requires : goal.put_place-next-requires
put_place-next-requires g c = omega (arith, place_digits c.loop-i.i (omega arith), c.loop-i.invariant.1)

pub loop-i-preserved : goal.loop-i-preserved
loop-i-preserved g c =
    let view = g.K.Key.view in
    let kind = kind_by view g.K.Key.reading g.K.Printed.printed in
    let slots = (book_of view c.args.roster.now).slots in (
      wrote_as (told_more kind slots c.args.places.now c.loop-i.i (Held 0) c.loop-i-test.true)
          (wrote_more c.loop-i.invariant.0 c.put_place-next.ensures.wrote),
      omega (arith, place_digits c.loop-i.i (omega arith), c.loop-i.invariant.1, c.put_place-next.ensures.brief),
    )

pub returns : goal.returns
returns g c =
    let view = g.K.Key.view in
    let kind = kind_by view g.K.Key.reading g.K.Printed.printed in
    let slots = (book_of view c.args.roster.now).slots in
    wrote_as (ap (told_lines kind slots 0) (take_all c.loop-i.i c.args.places.now (omega arith))) c.loop-i.invariant.0
