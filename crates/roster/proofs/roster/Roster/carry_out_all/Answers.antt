use Rattle.std.proofs.Common.{◌≡◌, ℕ, ◌+◌, ◌<◌, List, [], ◌∷◌, ◌++◌, length, drop, sym, ap, ◌∙◌, subst, arith}
use Rattle.std.proofs.lemmas.List.{length-set}
use Rattle.calls.specs.Runs.{Request as Asked}
use Rattle.calls.specs.Steps.{Answer as Said}
use Rattle.roster.specs.Entering.{world}
use Rattle.roster.specs.Requests.{asked, said}
use Rattle.roster.specs.Rosters.{book_of}
use Rattle.roster.specs.Running.{first_asked, first_said, Done}
use Rattle.roster.proofs.Runs.{done_more, asked_more, said_written, rest_more}
use Rattle.roster.proofs.roster.Roster.carry_out_all.Goals as goal

pub loop-i-preserved : goal.loop-i-preserved
loop-i-preserved g c =
    let view = g.K.Key.view in
    let start = world (book_of view c.args.self.now) (g.P.Pile.meaning c.args.pile.now) (g.S.Source.course c.args.source.now).gives in
    let now = world (book_of view c.loop-i.self) (g.P.Pile.meaning c.loop-i.pile) (g.S.Source.course c.loop-i.source).gives in
    let next = world (book_of view c.carry_out-answer.new.self) (g.P.Pile.meaning c.carry_out-answer.new.pile) (g.S.Source.course c.carry_out-answer.new.source).gives in
    let requests = c.args.requests.now in
    let answers = c.loop-i.answers in
    let i = c.loop-i.i in
    let request = c.request_at.result in
    let answer = c.carry_out-answer.result in
    let so = c.loop-i.invariant in
    let some : i < length requests = omega arith in
    let room : i < length answers = omega (arith, so.0) in
    let did = c.carry_out-answer.ensures in
    let more = done_more start now next (first_asked view i requests) (first_said view i answers) (asked view request) (said view answer) so.2 did.answer did.roster did.pile did.source in
    let wrote = c.write_answer.ensures in (
      ap length wrote ∙ length-set answers i answer ∙ so.0,
      ap (drop (i + 1)) wrote ∙ rest_more view answers c.args.answers.now i answer so.1,
      subst (λ (ys : List Said). Done start next (first_asked view (i + 1) requests) ys) (sym (ap (first_said view (i + 1)) wrote ∙ said_written view answers i answer room))
          (subst (λ (xs : List Asked). Done start next xs (first_said view i answers ++ said view answer ∷ [])) (sym (asked_more view requests i request some c.request_at.ensures)) more),
    )

pub returns : goal.returns
returns g c =
    let view = g.K.Key.view in
    let start = world (book_of view c.args.self.now) (g.P.Pile.meaning c.args.pile.now) (g.S.Source.course c.args.source.now).gives in
    let now = world (book_of view c.loop-i.self) (g.P.Pile.meaning c.loop-i.pile) (g.S.Source.course c.loop-i.source).gives in
    let n = c.min-count.result in
    let so = c.loop-i.invariant in
    let same : c.loop-i.i ≡ n = omega arith in
    record {
      count = omega arith;
      done = subst (λ (k : ℕ). Done start now (first_asked view k c.args.requests.now) (first_said view k c.loop-i.answers)) same so.2;
      rest = subst (λ (k : ℕ). drop k c.loop-i.answers ≡ drop k c.args.answers.now) same so.1;
      length = so.0;
    }
