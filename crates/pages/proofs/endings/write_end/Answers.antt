use Rattle.std.proofs.Common.{sym, ◌∙◌}
use Rattle.pages.proofs.Writing.{wrote_more, all_written}
use Rattle.pages.proofs.endings.write_end.Goals as goal

pub returns : goal.returns
returns c =
    let all = wrote_more c.put_text-number_at.ensures c.put_number.ensures.wrote in
    let w = all_written 10 (sym c.has_room.ensures ∙ c.if-not-has_room.false) all in
    record { next = w.0; page = w.1 }
