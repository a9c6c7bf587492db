use Rattle.std.proofs.Common.{length, None, ap, ◌∙◌}
use Rattle.calls.specs.Book.{new_book}
use Rattle.calls.specs.Book.{opened_book}
use Rattle.calls.proofs.Rosters.{opened_is_new}
use Rattle.roster.specs.Opening.{cleared, taken_capacity}
use Rattle.roster.proofs.Books.{book_with}
use Rattle.roster.proofs.Clearing.{cleared_slots}
use Rattle.roster.proofs.roster.Roster.new.Goals as goal

pub returns : goal.returns
returns g c =
    let view = g.K.Key.view in
    let rs = c.args.records.now in
    let n = c.capacity_or_none-capacity.result in
    let taken = c.capacity_or_none-capacity.ensures in
    let clears = c.clear.ensures ∙ ap (cleared rs) c.from.ensures in
    let meaning =
    ap (λ x. book_with view x n None) clears
    ∙ ap (λ s. record { slots = s; entry = None }) (cleared_slots view rs n)
    ∙ ap opened_book taken in
    record {
      meaning = meaning;
      new = ap new_book meaning ∙ opened_is_new (taken_capacity c.args.capacity (length rs));
      records = clears ∙ ap (cleared rs) taken;
    }
