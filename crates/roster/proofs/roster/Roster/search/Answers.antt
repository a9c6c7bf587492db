use Rattle.std.proofs.Common.{◌<◌, ◌%◌, take, Some, sym, ap, ◌∙◌, mod-lt, arith}
use Rattle.std.specs.Prelude.{option_map}
use Rattle.std.proofs.lemmas.List.{length-take-le}
use Rattle.calls.specs.Book.{turn, seek_all}
use Rattle.roster.specs.Rosters.{slot_of}
use Rattle.roster.proofs.Rounds.{seek_records, turn_near, turn_far}
use Rattle.roster.proofs.roster.Roster.search.Goals as goal

pub returns-in_err-i-clause-first : goal.returns-in_err-i-clause-first
returns-in_err-i-clause-first g c = λ test computes.
    let p = c.args.self.now in
    let some : 0 < p.capacity = omega arith in
    let tag = seek_records g.K.Key.view test (take p.capacity p.records.now) _ p.capacity c.index.result _ _ (length-take-le _ _ p.within) some c.slots.ensures.records c.from.ensures (c.turns.ensures.first (λ r. test (slot_of g.K.Key.view r)) computes) in
    c.from_residual.ensures ∙ ap (option_map (turn (c.index.result % p.capacity) p.capacity)) (sym c.in_err-i.was) ∙ tag ∙ ap (seek_all test _) c.index.ensures

pub returns-then-i-to_the_end-clause-first : goal.returns-then-i-to_the_end-clause-first
returns-then-i-to_the_end-clause-first g c = λ test computes.
    let p = c.args.self.now in
    let some : 0 < p.capacity = omega arith in
    let tag = seek_records g.K.Key.view test (take p.capacity p.records.now) _ p.capacity c.index.result _ _ (length-take-le _ _ p.within) some c.slots.ensures.records c.from.ensures (c.turns.ensures.first (λ r. test (slot_of g.K.Key.view r)) computes) in
    ap Some (sym (turn_near (c.index.result % p.capacity) p.capacity c.in_ok-i.field-0 (omega arith)))
    ∙ ap (option_map (turn (c.index.result % p.capacity) p.capacity)) (sym c.in_ok-i.was) ∙ tag ∙ ap (seek_all test _) c.index.ensures

pub returns-else-i-to_the_end-clause-first : goal.returns-else-i-to_the_end-clause-first
returns-else-i-to_the_end-clause-first g c = λ test computes.
    let p = c.args.self.now in
    let some : 0 < p.capacity = omega arith in
    let tag = seek_records g.K.Key.view test (take p.capacity p.records.now) _ p.capacity c.index.result _ _ (length-take-le _ _ p.within) some c.slots.ensures.records c.from.ensures (c.turns.ensures.first (λ r. test (slot_of g.K.Key.view r)) computes) in
    ap Some (sym (turn_far (c.index.result % p.capacity) p.capacity c.in_ok-i.field-0 (mod-lt _ some) (omega arith)))
    ∙ ap (option_map (turn (c.index.result % p.capacity) p.capacity)) (sym c.in_ok-i.was) ∙ tag ∙ ap (seek_all test _) c.index.ensures
