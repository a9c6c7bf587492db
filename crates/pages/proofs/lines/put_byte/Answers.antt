use Rattle.std.proofs.Common.{ℕ, length, decimal, ap, arith}
use Rattle.pages.proofs.Fields.{three_digits}
use Rattle.pages.proofs.Writing.{wrote_as, wrote_more}
use Rattle.pages.proofs.lines.put_byte.Goals as goal

pub put_digits-mark_at-requires : goal.put_digits-mark_at-requires
put_digits-mark_at-requires c =
    omega (arith, ap (λ (n : ℕ). length (decimal n)) c.from.ensures, three_digits c.args.n (omega arith))

pub put_text-requires : goal.put_text-requires
put_text-requires c =
    omega (
      arith,
      ap (λ (n : ℕ). length (decimal n)) c.from.ensures,
      three_digits c.args.n (omega arith),
      c.put_digits-mark_at.ensures.ends,
    )

pub returns : goal.returns
returns c =
    record {
      wrote = wrote_more (wrote_as (ap decimal c.from.ensures) c.put_digits-mark_at.ensures) c.put_text.ensures;
      brief =
          omega (
            arith,
            ap (λ (n : ℕ). length (decimal n)) c.from.ensures,
            three_digits c.args.n (omega arith),
            c.put_digits-mark_at.ensures.ends,
            c.put_text.ensures.ends,
          );
    }
