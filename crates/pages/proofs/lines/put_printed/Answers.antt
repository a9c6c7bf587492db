use Rattle.std.proofs.Common.{◌≡◌, ℕ, length, ◌∙◌, arith}
use Rattle.pages.proofs.Writing.{put_is, count_is}
use Rattle.pages.proofs.lines.put_printed.Goals as goal

pub unreachable-requires : goal.unreachable-requires
unreachable-requires g c =
    let printed = g.K.Printed.printed c.args.key.now in
    let told = count_is printed c.args.page.now c.args.at c.requires in
    let counted = c.print.ensures.count in
    let z : ◌≡◌ {A = ℕ} 0 1 = cc in
    omega arith

pub returns : goal.returns
returns g c =
    let printed = g.K.Printed.printed c.args.key.now in
    let told = count_is printed c.args.page.now c.args.at c.requires in
    let counted = c.print.ensures.count in
    let count : c.in-Some.count ≡ length printed = cc in
    record {
      stands = c.print.ensures.after ∙ put_is printed c.args.page.now c.args.at c.requires;
      ends = omega arith;
      within = omega arith;
    }
