use Rattle.std.proofs.Common.{◌∙◌, arith}
use Rattle.std.proofs.lemmas.List.{set-get_or}
use Rattle.keys.proofs.Runs.{come_more, come_full, come_refused, filled_back}
use Rattle.keys.proofs.sequences.read_keys.Goals as goal

pub returns-in_default : goal.returns-in_default
returns-in_default g c =
    let ended = come_refused c.loop-count.invariant c.in_default.ensures in
    let after = set-get_or c.loop-count.into c.loop-count.count c.index-into-count.result ∙ ended.now_is in
    record {
      count = ended.count_is;
      after = after;
      back = filled_back g.K.Key.view g.K.Key.reading g.met.K.Key.back c.args.bytes.now c.args.into.now ended.count_is after;
    }

pub loop-count-preserved : goal.loop-count-preserved
loop-count-preserved g c = come_more c.loop-count.invariant (omega arith) c.in-Ok.ensures c.rest-left.ensures

pub returns-clause-back : goal.returns-clause-back
returns-clause-back g c =
    let ended = come_full c.loop-count.invariant (omega arith) in
    filled_back g.K.Key.view g.K.Key.reading g.met.K.Key.back c.args.bytes.now c.args.into.now ended.count_is ended.now_is
