use Rattle.std.proofs.Common.{rules, arith}
use Rattle.bottoms.proofs.Searches.{standing_folded}
use Rattle.bottoms.proofs.places.Places.standing.Goals as goal

pub overflow_cast-result : goal.overflow_cast-result
overflow_cast-result c = omega (arith, (standing_folded c.args.self.now c.fold.result (search rules) (search rules)).1)

pub returns : goal.returns
returns c = omega (arith, (standing_folded c.args.self.now c.fold.result (search rules) (search rules)).0)
