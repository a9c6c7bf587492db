use Rattle.std.proofs.Common.{Bool, sym, ap, ◌∙◌}
use Rattle.roster.specs.Entering.{world}
use Rattle.roster.specs.Rosters.{book_of}
use Rattle.roster.specs.Running.{first_asked, first_said, handed_back}
use Rattle.roster.proofs.Runs.{promised}
use Rattle.roster.proofs.roster.runs.run.Goals as goal

pub returns-in-true : goal.returns-in-true
returns-in-true g c =
    let view = g.K.Key.view in
    let start = world (book_of view c.args.roster.now) (g.P.Pile.meaning c.args.pile.now) (g.S.Source.course c.args.source.now).gives in
    let ran = c.carry_out_all-count.ensures in
    let finish = world (book_of view c.carry_out_all-count.new.self) (g.P.Pile.meaning c.carry_out_all-count.new.pile) (g.S.Source.course c.carry_out_all-count.new.source).gives in
    let n = c.carry_out_all-count.result in
    let answers = c.carry_out_all-count.new.answers in
    record {
      count = ran.count;
      done = ran.done;
      rest = ran.rest;
      slip = c.slip_of_entry-slip.ensures ∙ ap (λ (b : Bool). handed_back b finish.book.entry) (sym c.in-true.is ∙ c.left_open.ensures);
      promise = promised start finish (first_asked view n c.args.requests.now) (first_said view n answers) ran.done;
    }

pub returns-in-false : goal.returns-in-false
returns-in-false g c =
    let view = g.K.Key.view in
    let start = world (book_of view c.args.roster.now) (g.P.Pile.meaning c.args.pile.now) (g.S.Source.course c.args.source.now).gives in
    let ran = c.carry_out_all-count.ensures in
    let finish = world (book_of view c.carry_out_all-count.new.self) (g.P.Pile.meaning c.carry_out_all-count.new.pile) (g.S.Source.course c.carry_out_all-count.new.source).gives in
    let n = c.carry_out_all-count.result in
    let answers = c.carry_out_all-count.new.answers in
    record {
      count = ran.count;
      done = ran.done;
      rest = ran.rest;
      slip = ap (λ (b : Bool). handed_back b finish.book.entry) (sym c.in-false.is ∙ c.left_open.ensures);
      promise = promised start finish (first_asked view n c.args.requests.now) (first_said view n answers) ran.done;
    }
