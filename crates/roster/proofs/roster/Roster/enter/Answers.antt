use Rattle.std.proofs.Common.{◌≡◌, ℕ, [], Err, sym, refl, ap, ◌∙◌, subst, arith}
use Rattle.std.proofs.lemmas.Result.{err_from_is_err_and}
use Rattle.sources.specs.Answers.{source_refusal as refusal-of}
use Rattle.calls.specs.Book.{Book}
use Rattle.calls.specs.Calls.{enter, settle}
use Rattle.calls.specs.Steps.{Answer, refusal, source_refusal, entered, Step, step, gives}
use Rattle.roster.specs.Entering.{Moved}
use Rattle.roster.specs.Numbers.{roster_fault_number}
use Rattle.roster.specs.Rosters.{book_of}
use Rattle.roster.specs.Told.{enter_told}
use Rattle.roster.specs.declared.slip.Slip.{Slip}
use Rattle.roster.proofs.Entering.{enter_refused, refused_book, enter_undrawn, withdrawn_again, enter_drawn, settle_enters, unmoved, unmoved_by_source, moved}
use Rattle.roster.proofs.roster.Roster.enter.Goals as goal

pub returns-in_err-slip : goal.returns-in_err-slip
returns-in_err-slip g c =
    let view = g.K.Key.view in
    let b = book_of view c.args.self.now in
    let m = g.P.Pile.meaning c.args.pile.now in
    let key = view c.args.key in
    let before = (g.S.Source.course c.args.source.now).gives in
    let came = err_from_is_err_and c.from_residual.result c.from_residual.ensures.1 in
    let number = roster_fault_number c.in_err-slip.field-0.0 in
    let told : enter_told c.from_residual.result ≡ refusal number = ap enter_told came.1 ∙ ap (λ f. enter_told (Err f)) came.2 in
    let done = enter_refused b m key before number c.in_err-slip.ensures.answer in
    record {
      answer = told ∙ sym (ap (λ (s : Step). s.answer) done);
      roster = c.in_err-slip.ensures.roster ∙ refused_book b m key number c.in_err-slip.ensures.answer ∙ sym (ap (λ (s : Step). s.book) done);
      pile = sym (ap (λ (s : Step). s.pile) done);
      source = subst (λ (a : Answer). Moved (enter key) a before before) (sym told) (unmoved key number before before refl);
    }

pub returns-in_err-slip-2 : goal.returns-in_err-slip-2
returns-in_err-slip-2 g c =
    let view = g.K.Key.view in
    let b = book_of view c.args.self.now in
    let m = g.P.Pile.meaning c.args.pile.now in
    let key = view c.args.key in
    let s = c.in_ok-slip.slip in
    let admitted = c.in_ok-slip.ensures in
    let waits = book_of view c.admit.new.self in
    let before = (g.S.Source.course c.args.source.now).gives in
    let after = (g.S.Source.course c.draw_or_withdraw.new.source).gives in
    let undrawn = c.in_err-slip-2.ensures.drawn in
    let fault = refusal-of c.in_err-slip-2.field-0.0 in
    let came = err_from_is_err_and c.from_residual-in_err-slip-2.result c.from_residual-in_err-slip-2.ensures.1 in
    let told : enter_told c.from_residual-in_err-slip-2.result ≡ source_refusal fault.number fault.byte =
    ap enter_told came.1 ∙ ap (λ f. enter_told (Err f)) came.2 in
    let done = enter_undrawn b m key s.tag s.class s.radix admitted.answer waits admitted.roster before fault (after []) (undrawn.1 []) in
    record {
      answer = told ∙ sym (ap (λ (s : Step). s.answer) done);
      roster = undrawn.0 m ∙ withdrawn_again b m key s.tag s.class s.radix admitted.answer waits admitted.roster ∙ sym (ap (λ (s : Step). s.book) done);
      pile = sym (ap (λ (s : Step). s.pile) done);
      source = subst (λ (a : Answer). Moved (enter key) a before after) (sym told) (unmoved_by_source key fault.number fault.byte before after undrawn.2);
    }

pub returns-in-Ok : goal.returns-in-Ok
returns-in-Ok g c =
    let view = g.K.Key.view in
    let b = book_of view c.args.self.now in
    let m = g.P.Pile.meaning c.args.pile.now in
    let key = view c.args.key in
    let s = c.in_ok-slip.slip in
    let draw = c.in_ok-slip-2.draw in
    let admitted = c.in_ok-slip.ensures in
    let waits = book_of view c.admit.new.self in
    let before = (g.S.Source.course c.args.source.now).gives in
    let after = (g.S.Source.course c.draw_or_withdraw.new.source).gives in
    let drawn = c.in_ok-slip-2.ensures.drawn in
    let settled = c.in-Ok.ensures in
    let here : step (book_of view c.draw_or_withdraw.new.self) m (settle c.in_ok-slip-2.slip.tag c.in_ok-slip-2.slip.class c.in_ok-slip-2.slip.radix) (gives draw) ≡ step waits m (settle s.tag s.class s.radix) (gives draw) =
    ap (λ (w : Book). step w m (settle c.in_ok-slip-2.slip.tag c.in_ok-slip-2.slip.class c.in_ok-slip-2.slip.radix) (gives draw)) drawn.2
    ∙ ap (λ (x : Slip). step waits m (settle x.tag x.class x.radix) (gives draw)) drawn.0 in
    let done = here ∙ enter_drawn b m key s.tag s.class s.radix admitted.answer waits admitted.roster before draw (after []) drawn.1 (drawn.3 []) in
    let enters = settle_enters b m key s.tag s.class s.radix admitted.answer waits admitted.roster draw drawn.1 in
    record {
      answer = settled.answer ∙ ap (λ (s : Step). s.answer) done;
      roster = settled.roster ∙ ap (λ (s : Step). s.book) done;
      pile = settled.pile ∙ ap (λ (s : Step). s.pile) done;
      source = moved key c.in-Ok.receipt s.radix draw enters.0 before after (settled.answer ∙ ap (λ (s : Step). s.answer) here ∙ enters.1) drawn.3;
    }

-- it does not come to a refusal
pub returns-in-Err : goal.returns-in-Err
returns-in-Err g c =
    let view = g.K.Key.view in
    let b = book_of view c.args.self.now in
    let m = g.P.Pile.meaning c.args.pile.now in
    let key = view c.args.key in
    let s = c.in_ok-slip.slip in
    let draw = c.in_ok-slip-2.draw in
    let admitted = c.in_ok-slip.ensures in
    let waits = book_of view c.admit.new.self in
    let drawn = c.in_ok-slip-2.ensures.drawn in
    let enters = settle_enters b m key s.tag s.class s.radix admitted.answer waits admitted.roster draw drawn.1 in
    let other : refusal (roster_fault_number c.in-Err.field-0.fault) ≡ entered (record { radix = s.radix; draw = draw; place = enters.0 }) =
    c.in-Err.ensures.answer
    ∙ ap (λ (w : Book). (step w m (settle c.in_ok-slip-2.slip.tag c.in_ok-slip-2.slip.class c.in_ok-slip-2.slip.radix) (gives draw)).answer) drawn.2
    ∙ ap (λ (x : Slip). (step waits m (settle x.tag x.class x.radix) (gives draw)).answer) drawn.0 ∙ enters.1 in
    let z : ◌≡◌ {A = ℕ} 0 1 = cc in
    let no_way : ⊥ = omega arith in
    absurd no_way
