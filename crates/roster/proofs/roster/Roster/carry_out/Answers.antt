use Rattle.std.proofs.Common.{sym, refl, ap, ◌∙◌, subst}
use Rattle.calls.specs.Runs.{step_of}
use Rattle.roster.specs.Entering.{world, Moved}
use Rattle.roster.specs.Requests.{asked, said}
use Rattle.roster.specs.Rosters.{book_of}
use Rattle.roster.specs.declared.request.Request.{Request}
use Rattle.roster.proofs.Entering.{admit_pile, withdraw_pile}
use Rattle.roster.proofs.roster.Roster.carry_out.Goals as goal

-- an admit and a withdraw are told nothing of the pile, and leave it as it was
pub returns-in-Admit : goal.returns-in-Admit
returns-in-Admit g c =
    let view = g.K.Key.view in
    let b = book_of view c.args.self.now in
    let m = g.P.Pile.meaning c.args.pile.now in
    let before = (g.S.Source.course c.args.source.now).gives in
    let is = sym c.in-Admit.is in
    record {
      answer = c.of_admit.ensures ∙ c.admit.ensures.answer ∙ ap (λ (q : Request _). (step_of (world b m before) (asked view q)).answer) is;
      roster = c.admit.ensures.roster ∙ ap (λ (q : Request _). (step_of (world b m before) (asked view q)).book) is;
      pile = sym (admit_pile b m (view c.in-Admit.key)) ∙ ap (λ (q : Request _). (step_of (world b m before) (asked view q)).pile) is;
      source = subst (λ (q : Request _). Moved (asked view q).call (said view c.of_admit.result) before before) is (record { moves = refl; took = λ more. refl });
    }

pub returns-in-Withdraw : goal.returns-in-Withdraw
returns-in-Withdraw g c =
    let view = g.K.Key.view in
    let b = book_of view c.args.self.now in
    let m = g.P.Pile.meaning c.args.pile.now in
    let before = (g.S.Source.course c.args.source.now).gives in
    let is = sym c.in-Withdraw.is in
    record {
      answer = c.of_withdraw.ensures ∙ c.withdraw.ensures.answer m ∙ ap (λ (q : Request _). (step_of (world b m before) (asked view q)).answer) is;
      roster = c.withdraw.ensures.roster m ∙ ap (λ (q : Request _). (step_of (world b m before) (asked view q)).book) is;
      pile = sym (withdraw_pile b m c.in-Withdraw.tag c.in-Withdraw.class c.in-Withdraw.radix) ∙ ap (λ (q : Request _). (step_of (world b m before) (asked view q)).pile) is;
      source = subst (λ (q : Request _). Moved (asked view q).call (said view c.of_withdraw.result) before before) is (record { moves = refl; took = λ more. refl });
    }
