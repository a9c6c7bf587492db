use Rattle.replays.specs.Kinds.{kind_by}
use Rattle.logs.proofs.Lengths.{after_rest}
use Rattle.logs.proofs.records.after_record.Goals as goal

pub returns-in-Enter : goal.returns-in-Enter
returns-in-Enter g c printed =
    let key = g.K.Key in
    after_rest key.view key.reading printed c.args.left.now c.rest.result.now c.after_mark-fields.result.now
    c.rest.ensures c.after_mark-fields.ensures c.in-Ok.mark c.in-Enter.is
    (c.in-Ok.ensures (kind_by key.view key.reading printed))
