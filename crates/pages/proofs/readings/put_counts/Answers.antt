use Rattle.pages.proofs.Fields.{read_is}
use Rattle.pages.proofs.Writing.{wrote_as, wrote_more}
use Rattle.pages.proofs.readings.put_counts.Goals as goal

pub returns : goal.returns
returns c =
    wrote_as (read_is c.args.live c.args.unpaired)
    (wrote_more c.put_text-live_at.ensures (wrote_more c.put_number-unpaired_at.ensures.wrote c.put_number.ensures.wrote))
