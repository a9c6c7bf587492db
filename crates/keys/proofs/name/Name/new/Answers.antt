use Rattle.std.proofs.Common.{rules}
use Rattle.std.proofs.lemmas.Grind.{common_steps}
use Rattle.keys.specs.NamesLemmas.{named_by}
use Rattle.keys.proofs.name.Name.new.Goals as goal

pub returns : goal.returns
returns c = named_by c.args.text.now _ (search (rules, common_steps))
