use Rattle.std.proofs.Common.{rules}
use Rattle.keys.proofs.NamesLemmas.{reads_at}
use Rattle.keys.proofs.name.calls.NameKey.read.Goals as goal

pub returns : goal.returns
returns c = reads_at c.args.bytes.now c.from-len.result _ (search rules) (search rules) (search rules) (search rules)
