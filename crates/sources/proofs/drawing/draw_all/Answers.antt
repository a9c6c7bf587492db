use Rattle.std.proofs.Common.{◌<◌, rules, arith}
use Rattle.std.proofs.lemmas.List.{get_or-take, length-take}
use Rattle.sources.specs.Answers.{source_refusal}
use Rattle.sources.proofs.Lists.{put, stopped, finished}
use Rattle.sources.proofs.drawing.draw_all.Goals as goal

pub returns-in-Err : goal.returns-in-Err
returns-in-Err g c =
    let first = (g.S.Source.course c.args.source.now).gives in
    let now = (g.S.Source.course c.loop-i.source).gives in
    let radices = c.args.radices.now in
    let room = c.args.draws.now in
    let draws = c.loop-i.draws in
    let i = c.loop-i.i in
    let n = c.min-count.result in
    let so = c.loop-i.invariant in
    let some : i < n = omega (arith, length-take n radices) in
    let e = stopped first now radices room draws i _ so (omega arith) (omega arith) (get_or-take n radices i 0 some) (source_refusal c.in-Err.fault) c.in-Err.ensures.answer in
    let p = put draws room i (omega (arith, so.as_long)) so.rest in
    record {
      count = search (rules, e);
      refusal = search (rules, e);
      draws = search (rules, e, p);
      below = search rules;
      after = search rules;
    }

pub returns-clause-draws : goal.returns-clause-draws
returns-clause-draws g c =
    let now = g.S.Source.course c.loop-i.source in
    let radices = c.args.radices.now in
    let room = c.args.draws.now in
    let draws = c.loop-i.draws in
    let i = c.loop-i.i in
    let so = c.loop-i.invariant in
    let end = length-take c.min-count.result radices in
    let e = finished _ now.gives radices room draws i so (omega (arith, end)) now.none in
    search (rules, e, put draws room i (omega (arith, end, so.as_long)) so.rest)
