use Rattle.std.proofs.Common.{sym, ap}
use Rattle.pages.specs.Told.{tape_end}
use Rattle.pages.proofs.Writing.{wrote_more, wrote_as}
use Rattle.pages.proofs.endings.put_tape_byte.Goals as goal

pub returns-in-Some : goal.returns-in-Some
returns-in-Some c =
    wrote_as (ap tape_end (sym c.in-Some.is)) (wrote_more c.put_text-number_at.ensures c.put_number.ensures.wrote)
