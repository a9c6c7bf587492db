use Rattle.std.proofs.Common.{sym, rules}
use Rattle.std.proofs.lemmas.Grind.{common_steps}
use Rattle.keys.proofs.key.Key.rest.Goals as goal

pub slice_bounds-result-count : goal.slice_bounds-result-count
slice_bounds-result-count g c = let begins = g.met.Self.Key.begins c.in-Ok.key c.args.bytes.now (sym c.in-Ok.ensures) in search (rules, common_steps)

pub slice_bounds-result-start : goal.slice_bounds-result-start
slice_bounds-result-start g c = let begins = g.met.Self.Key.begins c.in-Ok.key c.args.bytes.now (sym c.in-Ok.ensures) in search (rules, common_steps)
