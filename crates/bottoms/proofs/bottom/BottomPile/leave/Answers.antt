use Rattle.std.proofs.Common.{rules, arith, ap, length}
use Rattle.pile.specs.Meaning.{holes}
use Rattle.pile.proofs.Soundness.{vacated_sound}
use Rattle.bottoms.specs.Bottoms.{bottom_meaning}
use Rattle.bottoms.proofs.bottom.BottomPile.leave.Goals as goal

pub invariant_of-self : goal.invariant_of-self
invariant_of-self g c =
    let m = bottom_meaning c.args.self.now in
    let places = c.vacate-place.ensures.after in
    search (rules, vacated_sound m c.args.tag (search rules) (omega arith), ap length places, ap holes places)
