use Rattle.std.proofs.lemmas.List.{take_rest}
use Rattle.logs.proofs.marks.after_mark.Goals as goal

pub returns-else-left-lt2 : goal.returns-else-left-lt2
returns-else-left-lt2 c = take_rest c.args.left.now 2
