use Rattle.std.proofs.Common.{rules, ◌≡◌, ℕ, ◌<◌, true, get_or, set, IfSome, Some, None, Option, sym, ap, ◌∙◌, subst, arith}
use Rattle.std.specs.Option.{MatchOption}
use Rattle.pile.specs.Meaning.{Meaning}
use Rattle.calls.specs.Book.{KeyView}
use Rattle.calls.specs.Calls.{Verdict, is_slip, withdraw}
use Rattle.calls.specs.Steps.{step, carried_out, gives}
use Rattle.roster.specs.Rosters.{book_of, open_told, pending_entry}
use Rattle.roster.specs.declared.record.Pending.{Pending}
use Rattle.roster.specs.declared.record.Record.TheVariants.{Free}
use Rattle.roster.specs.declared.roster.Roster.{Roster}
use Rattle.roster.proofs.Books.{book_with, book_closed}
use Rattle.roster.proofs.Slips.{slip_fits, withdraws_with}
use Rattle.roster.proofs.roster.Roster.withdraw.Goals as goal

-- the book of a roster whose open entry the slip fits, before and after
withdrawn :
    {K : Type 0} (view : K → KeyView) (r : Roster K) (o : Option (Pending K)) (tag class radix : ℕ) →
    open_told view o ≡ (book_of view r).entry →
    IfSome o (λ p. (p.tag < r.capacity) × (get_or (book_of view r).slots p.tag None ≡ None)) →
    MatchOption o ⊥ (λ p. is_slip (pending_entry view p) tag class radix ≡ true) →
    (m : Meaning) → book_with view (set r.records.now tag Free) r.capacity None ≡ (step (book_of view r) m (withdraw tag class radix) (gives 0)).book
withdrawn view r None tag class radix waits slot none m = absurd none
withdrawn view r (Some p) tag class radix waits slot fits m =
    let same = (slip_fits (pending_entry view p) tag class radix fits).tags in
    let ends = withdraws_with (book_of view r).entry (pending_entry view p) tag class radix (sym waits) fits in
    book_closed view r.records.now r.capacity tag (omega (arith, same, slot.0)) r.opening (subst (λ (t : ℕ). get_or (book_of view r).slots t None ≡ None) same slot.1)
    ∙ sym (ap (λ (v : Verdict). (carried_out v (gives 0) (book_of view r) m).book) ends)

pub returns-clause-roster : goal.returns-clause-roster
returns-clause-roster g c = λ m.
    let view = g.K.Key.view in
    let r = c.args.self.now in
    let s = c.args.slip in
    let mine : MatchOption c.open_entry-entry.result ⊥ (λ p. is_slip (pending_entry view p) s.tag s.class s.radix ≡ true) = search rules in
    ap (λ rs. book_with view rs c.put.new.self.capacity None) c.put.ensures.records
    ∙ ap (λ (n : ℕ). book_with view (set r.records.now s.tag Free) n None) c.put.ensures.capacity
    ∙ withdrawn view r c.open_entry-entry.result s.tag s.class s.radix c.open_entry-entry.ensures.value c.open_entry-entry.ensures.slot mine m
