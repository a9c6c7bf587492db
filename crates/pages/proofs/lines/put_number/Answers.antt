use Rattle.std.proofs.Common.{arith}
use Rattle.pages.proofs.Fields.{five_digits}
use Rattle.pages.proofs.Writing.{wrote_more}
use Rattle.pages.proofs.lines.put_number.Goals as goal

pub put_digits-mark_at-requires : goal.put_digits-mark_at-requires
put_digits-mark_at-requires c = omega (arith, five_digits c.args.n (omega arith))

pub put_text-requires : goal.put_text-requires
put_text-requires c = omega (arith, five_digits c.args.n (omega arith), c.put_digits-mark_at.ensures.ends)

pub returns : goal.returns
returns c =
    record {
      wrote = wrote_more c.put_digits-mark_at.ensures c.put_text.ensures;
      brief = omega (arith, c.put_digits-mark_at.ensures.ends, c.put_text.ensures.ends, five_digits c.args.n (omega arith));
    }
