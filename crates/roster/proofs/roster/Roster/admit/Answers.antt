use Rattle.std.proofs.Common.{◌≡◌, ℕ, set, Some, Err, sym, ap, ◌∙◌}
use Rattle.roster.specs.declared.record.Record.TheVariants.{Waiting}
use Rattle.std.proofs.lemmas.Result.{err_from_is_err_and}
use Rattle.pile.specs.Rules.{radix_rule}
use Rattle.pile.specs.Answers.{told}
use Rattle.calls.specs.Calls.{Verdict, admit_radix}
use Rattle.calls.specs.Steps.{carried_out, gives, slip}
use Rattle.roster.specs.Rosters.{book_of}
use Rattle.roster.specs.Told.{admit_told}
use Rattle.roster.proofs.Books.{book_with, book_opened, numbers}
use Rattle.roster.proofs.roster.Roster.admit.Goals as goal

pub returns-in_err-tag : goal.returns-in_err-tag
returns-in_err-tag g c =
    let view = g.K.Key.view in
    let b = book_of view c.args.self.now in
    let m = g.P.Pile.meaning c.args.pile.now in
    let came = err_from_is_err_and c.from_residual.result c.from_residual.ensures.1 in
    let refused = c.in_err-tag.ensures (radix_rule m (view c.args.key).class) in
    record {
      answer = ap admit_told came.1 ∙ ap (λ f. admit_told (Err f)) came.2 ∙ sym (ap (λ (v : Verdict). (carried_out v (gives 0) b m).answer) refused);
      roster = sym (ap (λ (v : Verdict). (carried_out v (gives 0) b m).book) refused);
    }

pub returns : goal.returns
returns g c =
    let view = g.K.Key.view in
    let p = c.args.self.now in
    let b = book_of view p in
    let m = g.P.Pile.meaning c.args.pile.now in
    let key = c.args.key in
    let tag = c.in_ok-tag.tag in
    let can = c.in_ok-tag.ensures in
    let called : told c.in_ok-radix.radix ≡ radix_rule m (view key).class =
    c.in_ok-radix.ensures ∙ ap (radix_rule m) c.class-class.ensures in
    let opens = can.admits (radix_rule m (view key).class) ∙ ap (λ t. admit_radix t (view key) tag) (sym called) in
    record {
      answer = ap (λ k. slip tag k c.in_ok-radix.radix) c.class-class.ensures ∙ sym (ap (λ (v : Verdict). (carried_out v (gives 0) b m).answer) opens);
      roster =
          ap (λ rs. book_with view rs c.put.new.self.capacity (Some (numbers view tag c.in_ok-radix.radix))) c.put.ensures.records
          ∙ ap (λ (n : ℕ). book_with view (set p.records.now tag (Waiting key)) n (Some (numbers view tag c.in_ok-radix.radix))) c.put.ensures.capacity
          ∙ book_opened view p.records.now p.capacity tag can.within p.within key c.in_ok-radix.radix p.opening can.free
          ∙ sym (ap (λ (v : Verdict). (carried_out v (gives 0) b m).book) opens);
    }
