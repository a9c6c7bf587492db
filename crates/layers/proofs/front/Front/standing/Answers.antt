use Rattle.std.proofs.Common.{rules, tests, ◌≡◌, refl, arith}
use Rattle.std.specs.List.{fold, range_with_len}
use Rattle.std.proofs.lemmas.Iterator.{YieldsList-from_range}
use Rattle.std.proofs.lemmas.Iterator.Consumers.{fold_from_yields_List}
use Rattle.pile.proofs.Counts.{one_more}
use Rattle.layers.proofs.Fronts.{stands_at, standing_folded}
use Rattle.layers.proofs.front.Front.standing.Goals as goal

pub overflow_cast-result : goal.overflow_cast-result
overflow_cast-result g c =
    let size = c.args.self.now.size in
    let ps = (g.P.Pile.meaning c.args.self.now.below).places in
    let ran : c.fold.result ≡ fold (one_more (stands_at ps)) 0 (range_with_len 0 size) =
    fold_from_yields_List _ (one_more (stands_at ps)) 0 c.fold.result c.fold.ensures.ran (YieldsList-from_range 0 size size refl (omega arith)) (λ a x b q k. search (rules, tests))
    in
    omega (arith, (standing_folded ps size c.fold.result ran (search rules)).1)

pub returns : goal.returns
returns g c =
    let size = c.args.self.now.size in
    let ps = (g.P.Pile.meaning c.args.self.now.below).places in
    let ran : c.fold.result ≡ fold (one_more (stands_at ps)) 0 (range_with_len 0 size) =
    fold_from_yields_List _ (one_more (stands_at ps)) 0 c.fold.result c.fold.ensures.ran (YieldsList-from_range 0 size size refl (omega arith)) (λ a x b q k. search (rules, tests))
    in
    omega (arith, (standing_folded ps size c.fold.result ran (search rules)).0)
