use Rattle.std.proofs.Common.{ℕ, sym, ap, ◌∙◌, arith}
use Rattle.pile.specs.declared.receipts.PlaceState.{PlaceState}
use Rattle.roster.specs.Rosters.{book_of}
use Rattle.replays.specs.Kinds.{kind_by}
use Rattle.replays.specs.Lines.{place_line}
use Rattle.pages.specs.Readings.{form_told, told_line}
use Rattle.pages.proofs.Writing.{wrote_as, wrote_none}
use Rattle.pages.proofs.readings.put_place.Goals as goal

pub returns-in-Some : goal.returns-in-Some
returns-in-Some g c =
    let view = g.K.Key.view in
    let kind = kind_by view g.K.Key.reading g.K.Printed.printed in
    let slots = (book_of view c.args.roster.now).slots in
    let form = ap (form_told g.K.Key.view) (sym c.in-Some.is) ∙ c.legible_key.ensures.form in
    record {
      wrote =
          wrote_as
          (ap (place_line kind c.args.i) form ∙ ap (λ (p : PlaceState ℕ). told_line kind slots c.args.i p) (sym c.in-Held.is))
          c.put_key.ensures.wrote;
      brief = c.put_key.ensures.brief;
    }

pub returns-in-NoSuchPlace : goal.returns-in-NoSuchPlace
returns-in-NoSuchPlace g c =
    let view = g.K.Key.view in
    let kind = kind_by view g.K.Key.reading g.K.Printed.printed in
    let slots = (book_of view c.args.roster.now).slots in
    record {
      wrote =
          wrote_as (ap (λ (p : PlaceState ℕ). told_line kind slots c.args.i p) (sym c.in-NoSuchPlace.is))
          (wrote_none c.args.page.now c.args.at (omega arith));
      brief = omega arith;
    }
