use Rattle.std.proofs.Common.{rules, ◌≡◌, Some, None, take, drop, sym, ◌∙◌}
use Rattle.std.specs.List.{position}
use Rattle.std.proofs.lemmas.Iterator.Search.{position_from_yields_List}
use Rattle.std.proofs.lemmas.Iterator.{YieldsList-from_slice}
use Rattle.roster.proofs.Turns.{in_first, in_second}
use Rattle.roster.proofs.roster.searches.turns.Goals as goal

pub returns-in-Some-clause-first : goal.returns-in-Some-clause-first
returns-in-Some-clause-first g c = λ test computes.
    let after = drop c.args.start c.args.items.now in
    let found : c.position.result ≡ position test after =
    position_from_yields_List {v = λ y. y.now} test _ _ c.position.result c.position.ensures.ran (YieldsList-from_slice after (cc)) (λ x b q k. search (rules, computes))
    in
    sym (in_first test after (take c.args.start c.args.items.now) c.in-Some.i (sym found ∙ search rules))

pub returns-in_err-i-clause-first : goal.returns-in_err-i-clause-first
returns-in_err-i-clause-first g c = λ test computes.
    let after = drop c.args.start c.args.items.now in
    let before = take c.args.start c.args.items.now in
    let none : c.position.result ≡ position test after =
    position_from_yields_List {v = λ y. y.now} test _ _ c.position.result c.position.ensures.ran (YieldsList-from_slice after (cc)) (λ x b q k. search (rules, computes))
    in
    let none_either : c.position-2.result ≡ position test before =
    position_from_yields_List {v = λ y. y.now} test _ _ c.position-2.result c.position-2.ensures.ran (YieldsList-from_slice before (search rules)) (λ x b q k. search (rules, computes))
    in
    search (rules, in_second test after before None (sym none ∙ search rules) (sym none_either ∙ search rules))

pub returns-clause-first : goal.returns-clause-first
returns-clause-first g c = λ test computes.
    let after = drop c.args.start c.args.items.now in
    let before = take c.args.start c.args.items.now in
    let none : c.position.result ≡ position test after =
    position_from_yields_List {v = λ y. y.now} test _ _ c.position.result c.position.ensures.ran (YieldsList-from_slice after (cc)) (λ x b q k. search (rules, computes))
    in
    let found : c.position-2.result ≡ position test before =
    position_from_yields_List {v = λ y. y.now} test _ _ c.position-2.result c.position-2.ensures.ran (YieldsList-from_slice before (search rules)) (λ x b q k. search (rules, computes))
    in
    search (rules, in_second test after before (Some c.in_ok-i.i) (sym none ∙ search rules) (sym found ∙ search rules))
