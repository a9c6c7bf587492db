use Rattle.std.proofs.Common.{◌≡◌, ℕ, false, sym, ap, ◌∙◌, arith}
use Rattle.roster.specs.Requests.{said}
use Rattle.roster.specs.Running.{first_said, left_open, open_after}
use Rattle.roster.proofs.Runs.{said_more, left_open_more}
use Rattle.roster.proofs.roster.runs.left_open.Goals as goal

pub loop-i-preserved : goal.loop-i-preserved
loop-i-preserved g c =
    let view = g.K.Key.view in
    let answers = c.args.answers.now in
    let i = c.loop-i.i in
    let answer = c.answer_at.result in
    c.open_after-opened.ensures
    ∙ ap (λ b. open_after b (said view answer)) c.loop-i.invariant
    ∙ sym (left_open_more false (first_said view i answers) (said view answer))
    ∙ ap (left_open false) (sym (said_more view answers i answer (omega arith) c.answer_at.ensures))

pub returns : goal.returns
returns g c =
    let view = g.K.Key.view in
    let same : c.loop-i.i ≡ c.args.count = omega arith in
    c.loop-i.invariant ∙ ap (λ (n : ℕ). left_open false (first_said view n c.args.answers.now)) same
