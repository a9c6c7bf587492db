use Rattle.std.proofs.Common.{rules, tests, ◌≡◌, take, arith}
use Rattle.std.specs.List.{fold}
use Rattle.std.proofs.lemmas.Iterator.{YieldsList-from_slice}
use Rattle.std.proofs.lemmas.Iterator.Consumers.{fold_from_yields_List}
use Rattle.pile.proofs.Counts.{one_more}
use Rattle.roster.proofs.Slots.{is_live, live_folded}
use Rattle.roster.proofs.roster.Roster.live_count.Goals as goal

pub overflow_cast-result : goal.overflow_cast-result
overflow_cast-result g c =
    let view = g.K.Key.view in
    let rs = take c.args.self.now.capacity c.args.self.now.records.now in
    let ran : c.fold.result ≡ fold (one_more (is_live view)) 0 rs =
    fold_from_yields_List _ (one_more (is_live view)) 0 c.fold.result c.fold.ensures.ran (YieldsList-from_slice rs (cc)) (λ a x b q k. search (rules, tests))
    in
    omega (arith, (live_folded view rs c.fold.result ran (search rules)).1)

pub returns : goal.returns
returns g c =
    let view = g.K.Key.view in
    let rs = take c.args.self.now.capacity c.args.self.now.records.now in
    let ran : c.fold.result ≡ fold (one_more (is_live view)) 0 rs =
    fold_from_yields_List _ (one_more (is_live view)) 0 c.fold.result c.fold.ensures.ran (YieldsList-from_slice rs (cc)) (λ a x b q k. search (rules, tests))
    in
    omega (arith, (live_folded view rs c.fold.result ran (search rules)).0)
