use Rattle.std.proofs.Common.{rules}
use Rattle.calls.specs.Book.{is_free}
use Rattle.roster.specs.Rosters.{book_of}
use Rattle.roster.proofs.Rounds.{found_free}
use Rattle.roster.proofs.roster.Roster.free.Goals as goal

pub returns-clause-value : goal.returns-clause-value
returns-clause-value g c = c.search.ensures.first is_free (λ x b post. search rules)

pub returns-clause-free : goal.returns-clause-free
returns-clause-free g c =
    found_free (book_of g.K.Key.view c.args.self.now).slots (g.K.Key.view c.args.key.now) c.search.result (c.search.ensures.first is_free (λ x b post. search rules))
