use Rattle.std.proofs.Common.{rules, arith, length, ℕ, set, take, None, sym, ap, ◌∙◌}
use Rattle.std.specs.Option.{option_map}
use Rattle.pile.specs.Rules.{leave_rule}
use Rattle.calls.specs.Steps.{Step}
use Rattle.roster.specs.Rosters.{book_of}
use Rattle.roster.specs.declared.record.Record.TheVariants.{Free}
use Rattle.roster.proofs.Admitting.{none_open}
use Rattle.roster.proofs.Slots.{slot_read}
use Rattle.roster.proofs.Books.{book_with, book_gone}
use Rattle.roster.proofs.Leaving.{gone_step}
use Rattle.roster.proofs.roster.Roster.leave.Goals as goal

pub returns : goal.returns
returns g c =
    let view = g.K.Key.view in
    let p = c.args.self.now in
    let b = book_of view p in
    let m = g.P.Pile.meaning c.args.pile.now in
    let tag = c.in-Some.tag in
    let live = c.in-Some-live_key.live in
    let closed = sym c.open_entry.ensures.value ∙ none_open view c.open_entry.result (sym c.if-is_some.ensures) in
    let len = c.slots.ensures.len in
    let held = sym (slot_read view (take p.capacity p.records.now) tag c.index-slots-from.result (omega (arith, ap length c.slots.ensures.records, len, c.in-Some.ensures.within)) (search rules)) ∙ sym c.live_key.ensures ∙ ap (option_map view) c.in-Some-live_key.is in
    let accepted = c.in_ok-receipt.ensures.answer ∙ ap (λ (k : ℕ). (leave_rule m tag k).answer) c.class.ensures in
    let done = gone_step b m (view c.args.key) (view live) tag c.in_ok-receipt.receipt (sym c.is_lawful.ensures ∙ c.if-not-is_lawful.false) closed (sym c.in-Some.ensures.value) held accepted in
    record {
      answer = sym (ap (λ (x : Step). x.answer) done);
      roster =
          ap (λ rs. book_with view rs c.put.new.self.capacity None) c.put.ensures.records
          ∙ ap (λ (n : ℕ). book_with view (set p.records.now tag Free) n None) c.put.ensures.capacity
          ∙ book_gone view p.records.now p.capacity tag c.in-Some.ensures.within p.opening closed
          ∙ sym (ap (λ (x : Step). x.book) done);
      pile =
          c.leave.ensures.after ∙ ap (λ (k : ℕ). (leave_rule m tag k).after) c.class.ensures
          ∙ sym (ap (λ (x : Step). x.pile) done);
    }
