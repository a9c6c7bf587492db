use Rattle.std.proofs.Common.{arith}
use Rattle.layers.proofs.Fronts.{entry_front}
use Rattle.layers.proofs.front.FrontPile.entry.Goals as goal

pub returns : goal.returns
returns g c =
    let m = g.P.Pile.meaning c.args.self.now.below in
    grind (arith, entry_front c.args.self.now.size m (g.met.P.Pile.sound _) c.args.tag c.args.class c.args.draw)
