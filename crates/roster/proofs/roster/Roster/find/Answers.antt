use Rattle.std.proofs.Common.{rules}
use Rattle.calls.specs.Book.{holds_form}
use Rattle.roster.proofs.roster.Roster.find.Goals as goal

pub returns-clause-value : goal.returns-clause-value
returns-clause-value g c = c.search.ensures.first (holds_form (g.K.Key.view c.args.key.now).form) (λ x b post. search rules)
