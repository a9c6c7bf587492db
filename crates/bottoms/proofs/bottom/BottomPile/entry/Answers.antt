use Rattle.std.proofs.Common.{◌≡◌, rules, arith, ap, length}
use Rattle.std.proofs.lemmas.Bool.{lt-ltb}
use Rattle.pile.specs.Meaning.{holes}
use Rattle.pile.specs.Rules.{joined}
use Rattle.pile.proofs.Radices.{radix_joined, radix_paired}
use Rattle.pile.proofs.Soundness.{joined_sound, paired_sound}
use Rattle.bottoms.specs.Bottoms.{bottom_meaning}
use Rattle.bottoms.proofs.bottom.BottomPile.entry.Goals as goal

pub invariant_of-self : goal.invariant_of-self
invariant_of-self g c =
    let m = bottom_meaning c.args.self.now in
    let none = c.if-self-eq0.true in
    let radix = radix_joined m c.args.class c.in_ok-radix.radix c.in_ok-radix.ensures (lt-ltb c.args.class 8 c.if-class-ge8.false) none in
    let places : c.take_drawn-place.new.self ≡ (joined m c.args.tag c.args.draw).places = search (rules, c.take_drawn-place.ensures.after) in
    search (rules, joined_sound m c.args.tag c.args.draw (search rules) none radix.1 (omega (arith, radix.0)), ap length places, ap holes places)

pub invariant_of-self-2 : goal.invariant_of-self-2
invariant_of-self-2 g c =
    let m = bottom_meaning c.args.self.now in
    let some = c.if-self-eq0.false in
    let radix = radix_paired m c.args.class c.in_ok-radix.radix c.in_ok-radix.ensures (lt-ltb c.args.class 8 c.if-class-ge8.false) some in
    let places = c.fill-place.ensures.after in
    search (rules, paired_sound m c.args.tag c.args.draw (search rules) (omega (arith, radix)), ap length places, ap holes places)
