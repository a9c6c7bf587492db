use Rattle.std.proofs.Common.{arith}
use Rattle.layers.proofs.Fronts.{leave_front}
use Rattle.layers.proofs.front.FrontPile.leave.Goals as goal

pub returns : goal.returns
returns g c =
    let m = g.P.Pile.meaning c.args.self.now.below in
    grind (arith, leave_front c.args.self.now.size m c.args.tag c.args.class)
