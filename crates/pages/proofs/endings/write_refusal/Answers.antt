use Rattle.std.proofs.Common.{sym, ◌∙◌}
use Rattle.pages.specs.Told.{refusal_told}
use Rattle.pages.proofs.Fields.{refused_is}
use Rattle.pages.proofs.Writing.{wrote_more, wrote_as, all_written}
use Rattle.pages.proofs.endings.write_refusal.Goals as goal

pub returns : goal.returns
returns c =
    let parts =
    wrote_more c.put_text-number_at.ensures
    (wrote_more c.put_byte-byte_at.ensures.wrote
    (wrote_more c.put_number-layer_at.ensures.wrote
    (wrote_more (wrote_as c.word.ensures.word c.put_text-end_at.ensures) c.put_tape_byte.ensures)))
    in
    let all = wrote_as (refused_is (refusal_told c.args.refusal)) parts in
    let w = all_written 32 (sym c.has_room.ensures ∙ c.if-not-has_room.false) all in
    record { next = w.0; page = w.1 }
