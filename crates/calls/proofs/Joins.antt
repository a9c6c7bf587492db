-- Lists of calls one after another, the sources of runs one after another, and marks one after another.
use Rattle.std.proofs.Common.{◌≡◌, ℕ, List, [], ◌∷◌, ◌++◌, drop, Some, None, Option, sym, refl, ap, ◌∙◌, subst, arith}
use Rattle.std.proofs.lemmas.List.{append_assoc, map-append}
use Rattle.std.proofs.lemmas.Bool.{ltb-true}
use Rattle.pile.specs.declared.receipts.EntryReceipt.{EntryReceipt}
use Rattle.pile.specs.Meaning.{Meaning}
use Rattle.pile.specs.Rules.{receipt}
use Rattle.sources.specs.Courses.{Given, all_before}
use Rattle.sources.specs.Records.{radices_of, draws_of}
use Rattle.calls.specs.Book.{Book}
use Rattle.calls.specs.Calls.{Call, admit, settle, withdraw, enter, leave, ask, Verdict, refuses, opens, settles, withdraws, lets_go, tells, verdict}
use Rattle.calls.specs.Steps.{Answer, receipt_in, Supply, gives, entry_answer, settle_drawn, carried_out}
use Rattle.calls.specs.Runs.{Request, World, step_of, after, run_answers, run_world}
use Rattle.calls.specs.Lists.{Lot, next, instead, Listed, next_draw, tape_after, listed_step, answers_under, book_under, pile_under, receipts_in, draws_in}
use Rattle.calls.specs.Past.{Ledger, note, note_all}
use Rattle.calls.specs.Promise.{enter_receipt, enter_receipts, TookFromSource}
use Rattle.calls.specs.Laws.{MarkedFrom}
use Rattle.calls.proofs.Lots.{some_radix}
use Rattle.calls.proofs.Piles.{entry_told}
use Rattle.calls.proofs.Runs.{runs_join}
use Rattle.calls.proofs.Searches.{none_some}
use Rattle.calls.proofs.Under.{with_draw, draws_with}
use Rattle.calls.proofs.Verdicts.{RightRadix, verdict_radix}

-- a call that takes no draw does not look at what it is given
untaken :
    (b : Book) (m : Meaning) (v : Verdict) (from : Supply) → RightRadix m v → receipt_in (carried_out v (gives 0) b m).answer ≡ None →
    carried_out v from b m ≡ carried_out v (gives 0) b m
untaken b m (refuses number) from called none = refl
untaken b m (opens entry) from called none = refl
untaken b m (settles entry) from called none =
    let some = some_radix m entry called in
    let taken = entry_told m entry.tag entry.key.class 0 entry.radix called (ltb-true 0 entry.radix some) in
    absurd
    (none_some (receipt entry.radix 0 taken.0)
    (sym none ∙ ap (λ below. receipt_in (settle_drawn below b m entry 0).answer) some ∙ ap (λ a. receipt_in (entry_answer a)) taken.1))
untaken b m withdraws from called none = refl
untaken b m (lets_go key tag) from called none = refl
untaken b m (tells question) from called none = refl

no_receipt : (o : Option EntryReceipt) (draws : List ℕ) → with_draw o draws ≡ [] → o ≡ None
no_receipt None draws e = refl
no_receipt (Some receipt) draws e = let z : ◌≡◌ {A = ℕ} 0 1 = cc in let no' : ⊥ = omega arith in absurd no'

rest_own : (o : Option EntryReceipt) (draws tape : List ℕ) → with_draw o draws ≡ tape → draws ≡ tape_after o tape
rest_own None draws tape e = e
rest_own (Some receipt) draws tape e = ap (drop 1) e

-- what is left of two tapes
rest_join :
    (o : Option EntryReceipt) (draws s t : List ℕ) → with_draw o draws ≡ s → tape_after o (s ++ t) ≡ tape_after o s ++ t
rest_join None draws s t e = refl
rest_join (Some receipt) draws [] t e = absurd (none_some receipt (sym (no_receipt (Some receipt) draws e)))
rest_join (Some receipt) draws (draw ∷ s) t e = refl

-- under its own draws and then others a call does the same
step_join :
    (b : Book) (m : Meaning) (item : Listed) (draws s t : List ℕ) →
    with_draw (receipt_in (listed_step b m item s).answer) draws ≡ s → listed_step b m item (s ++ t) ≡ listed_step b m item s
step_join b m item draws s t own = by item.lot s own
  where
    v : Verdict
    v = verdict b m item.call

    by :
        (lot : Lot) (s : List ℕ) → with_draw (receipt_in (carried_out v (next_draw lot s) b m).answer) draws ≡ s →
        carried_out v (next_draw lot (s ++ t)) b m ≡ carried_out v (next_draw lot s) b m
    by (instead supply) s own = refl
    by next (draw ∷ s) own = refl
    by next [] own =
        untaken b m v (next_draw next t) (verdict_radix b m item.call)
        (no_receipt (receipt_in (carried_out v (gives 0) b m).answer) draws own)

pub record ListsJoin (b : Book) (m : Meaning) (xs ys : List Listed) (s t : List ℕ) : Type 0 where
  pub answers :
      answers_under b m (xs ++ ys) (s ++ t) ≡ answers_under b m xs s ++ answers_under (book_under b m xs s) (pile_under b m xs s) ys t
  pub book : book_under b m (xs ++ ys) (s ++ t) ≡ book_under (book_under b m xs s) (pile_under b m xs s) ys t
  pub pile : pile_under b m (xs ++ ys) (s ++ t) ≡ pile_under (book_under b m xs s) (pile_under b m xs s) ys t

pub lists_join :
    (b : Book) (m : Meaning) (xs ys : List Listed) (s t : List ℕ) → draws_in (answers_under b m xs s) ≡ s → ListsJoin b m xs ys s t
lists_join b m [] ys [] t own = record { answers = refl; book = refl; pile = refl }
lists_join b m [] ys (draw ∷ s) t own = let z : ◌≡◌ {A = ℕ} 0 1 = cc in let no' : ⊥ = omega arith in absurd no'
lists_join b m (x ∷ xs) ys s t own =
    let one = listed_step b m x s in
    let o = receipt_in one.answer in
    let left = tape_after o s in
    let later = answers_under one.book one.pile xs left in
    let own' : with_draw o (draws_in later) ≡ s = sym (draws_with o (receipts_in later)) ∙ own in
    let same = step_join b m x (draws_in later) s t own' in
    let rest = rest_join o (draws_in later) s t own' in
    let on = lists_join one.book one.pile xs ys left t (rest_own o (draws_in later) s own') in
    record {
      answers =
          ap (λ s'. s'.answer ∷ answers_under s'.book s'.pile (xs ++ ys) (tape_after (receipt_in s'.answer) (s ++ t))) same
          ∙ ap (λ tape. one.answer ∷ answers_under one.book one.pile (xs ++ ys) tape) rest ∙ ap (λ others. one.answer ∷ others) on.answers;
      book =
          ap (λ s'. book_under s'.book s'.pile (xs ++ ys) (tape_after (receipt_in s'.answer) (s ++ t))) same
          ∙ ap (λ tape. book_under one.book one.pile (xs ++ ys) tape) rest ∙ on.book;
      pile =
          ap (λ s'. pile_under s'.book s'.pile (xs ++ ys) (tape_after (receipt_in s'.answer) (s ++ t))) same
          ∙ ap (λ tape. pile_under one.book one.pile (xs ++ ys) tape) rest ∙ on.pile;
    }

-- marks one after another
pub marks_join :
    (m : Meaning) (l : Ledger) (xs ys : List Listed) → MarkedFrom m l xs → MarkedFrom m (note_all m l xs) ys → MarkedFrom m l (xs ++ ys)
marks_join m l [] ys first second = second
marks_join m l (x ∷ xs) ys first second = (first.0, marks_join m (note m l x) xs ys first.1 second)

-- the receipts of enters, of one run and then another
receipt_then : (call : Call) (r : Option EntryReceipt) (rs qs : List EntryReceipt) → enter_receipt call r (rs ++ qs) ≡ enter_receipt call r rs ++ qs
receipt_then (enter key) None rs qs = refl
receipt_then (enter key) (Some r) rs qs = refl
receipt_then (settle tag class radix) r rs qs = refl
receipt_then (admit key) r rs qs = refl
receipt_then (withdraw tag class radix) r rs qs = refl
receipt_then (leave key) r rs qs = refl
receipt_then (ask question) r rs qs = refl

pub receipts_then :
    (w : World) (xs ys : List Request) (answers : List Answer) →
    enter_receipts (xs ++ ys) (run_answers w xs ++ answers) ≡ enter_receipts xs (run_answers w xs) ++ enter_receipts ys answers
receipts_then w [] ys answers = refl
receipts_then w (x ∷ xs) ys answers =
    let r = receipt_in (step_of w x).answer in
    ap (enter_receipt x.call r) (receipts_then (after w x) xs ys answers)
    ∙ receipt_then x.call r (enter_receipts xs (run_answers (after w x) xs)) (enter_receipts ys answers)

-- what was taken from a source, and then from what it went on with
pub took_join :
    (first second third : List ℕ → Given) (rs qs : List EntryReceipt) → TookFromSource first second rs → TookFromSource second third qs →
    TookFromSource first third (rs ++ qs)
took_join first second third rs qs p q more =
    ap (λ radices. first (radices ++ more)) (map-append (λ (e : EntryReceipt). e.radix) rs qs)
    ∙ ap first (append_assoc (radices_of rs) (radices_of qs) more) ∙ p (radices_of qs ++ more)
    ∙ ap (all_before (draws_of rs)) (q more)
    ∙ ap (λ draws. record { draws = draws; refusal = (third more).refusal })
    (sym (append_assoc (draws_of rs) (draws_of qs) (third more).draws)
    ∙ ap (λ draws. draws ++ (third more).draws) (sym (map-append (λ (e : EntryReceipt). e.draw) rs qs)))

pub sources_join :
    (w : World) (xs ys : List Request) →
    let half = run_world w xs in
    let full = run_world w (xs ++ ys) in
    TookFromSource w.course half.course (enter_receipts xs (run_answers w xs)) →
    TookFromSource half.course full.course (enter_receipts ys (run_answers half ys)) →
    TookFromSource w.course full.course (enter_receipts (xs ++ ys) (run_answers w (xs ++ ys)))
sources_join w xs ys first second =
    let half = run_world w xs in
    let full = run_world w (xs ++ ys) in
    let same : enter_receipts (xs ++ ys) (run_answers w (xs ++ ys)) ≡ enter_receipts xs (run_answers w xs) ++ enter_receipts ys (run_answers half ys) =
    ap (enter_receipts (xs ++ ys)) (runs_join w xs ys).0 ∙ receipts_then w xs ys (run_answers half ys) in
    subst (λ (rs : List EntryReceipt). TookFromSource w.course full.course rs) (sym same)
    (took_join w.course half.course full.course (enter_receipts xs (run_answers w xs)) (enter_receipts ys (run_answers half ys)) first second)
