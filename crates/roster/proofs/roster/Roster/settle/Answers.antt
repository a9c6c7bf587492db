use Rattle.std.proofs.Common.{ℕ, set, Some, None, sym, ap, ◌∙◌, arith}
use Rattle.std.proofs.lemmas.Option.{MatchOption-at_some}
use Rattle.calls.specs.Steps.{Step, entry_answer}
use Rattle.roster.specs.Rosters.{book_of, open_told, pending_entry}
use Rattle.roster.specs.declared.record.Record.TheVariants.{Live}
use Rattle.roster.proofs.Books.{book_with, book_settled}
use Rattle.roster.proofs.Slips.{slip_fits, settled_step}
use Rattle.roster.proofs.roster.Roster.settle.Goals as goal

pub returns-in-Ok : goal.returns-in-Ok
returns-in-Ok g c =
    let view = g.K.Key.view in
    let p = c.args.self.now in
    let b = book_of view p in
    let m = g.P.Pile.meaning c.args.pile.now in
    let s = c.args.slip in
    let key = c.in-Some.pending.key in
    let entry = pending_entry view c.in-Some.pending in
    let fits = sym c.is_of.ensures ∙ c.if-not-is_of.false in
    let waits = sym c.open_entry.ensures.value ∙ ap (open_told view) c.in-Some.is in
    let called = sym c.calls_for.ensures ∙ c.if-not-calls_for.false in
    let done = settled_step b m entry s.tag s.class s.radix c.args.draw waits fits called c.if-draw-slip.false in
    let slot = MatchOption-at_some _ _ c.in-Some.pending c.in-Some.is c.open_entry.ensures.slot in
    let same = (slip_fits entry s.tag s.class s.radix fits).tags in
    record {
      answer = ap entry_answer c.in-Ok.ensures.answer ∙ sym (ap (λ (x : Step). x.answer) done);
      back = tt;
      roster =
          ap (λ rs. book_with view rs c.put.new.self.capacity None) c.put.ensures.records
          ∙ ap (λ (n : ℕ). book_with view (set p.records.now s.tag (Live key)) n None) c.put.ensures.capacity
          ∙ book_settled view p.records.now p.capacity s.tag (omega (arith, same, slot.0)) key 0 p.opening
          ∙ ap (λ (t : ℕ). record { slots = set b.slots t (Some (view key)); entry = None }) (sym same)
          ∙ sym (ap (λ (x : Step). x.book) done);
      pile = c.entry.ensures.after ∙ sym (ap (λ (x : Step). x.pile) done);
    }
