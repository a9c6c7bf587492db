-- The enters of a run take from a steady source exactly the draws that their receipts hold.
use Rattle.std.proofs.Common.{◌≡◌, ℕ, zero, suc, Bool, true, false, ltb, List, [], ◌∷◌, ◌++◌, length, take, drop, Some, None, Option, sym, refl, ap, ◌∙◌, subst, arith, MatchOption}
use Rattle.pile.specs.declared.receipts.EntryReceipt.{EntryReceipt}
use Rattle.pile.specs.declared.receipts.LeaveReceipt.{LeaveReceipt}
use Rattle.pile.specs.Answers.{Told, refused, told}
use Rattle.pile.specs.Meaning.{Meaning}
use Rattle.pile.specs.Rules.{radix_rule, entry_rule, leave_rule}
use Rattle.sources.specs.Answers.{Refusal, Answer as SourceAnswer, drew, refused as source_refused}
use Rattle.sources.specs.Courses.{Given, before, gives_by, all_before}
use Rattle.sources.specs.Records.{radices_of}
use Rattle.calls.specs.Book.{OpenEntry, Book}
use Rattle.calls.specs.Calls.{Call, admit, settle, withdraw, enter, leave, ask, Verdict, refuses, opens, settles, withdraws, lets_go, tells, verdict, admit_verdict}
use Rattle.calls.specs.Steps.{Answer, receipt_in, entry_answer, leave_answer, settle_drawn, settle_supplied, carried_out}
use Rattle.calls.specs.Runs.{Request, World, drawn_below, supplied_by, supplied, enter_supply, supply, followed, course_moved, course_after, step_of, after, run_answers, run_world}
use Rattle.calls.specs.Promise.{enter_receipt, enter_receipts, TookFromSource}
use Rattle.calls.specs.Laws.{Steady}
use Rattle.calls.proofs.Piles.{same_told, Says, entry_says}
use Rattle.calls.proofs.Under.{told_no_receipt}
use Rattle.calls.proofs.Verdicts.{Right, admit_right, enter_right}

-- a course that tells each answer from a state is steady
pub steady_by : {X : Type 0} (answer : X → ℕ → SourceAnswer) (next : X → X) (x : X) → Steady (gives_by answer next x)
steady_by answer next x [] more = refl
steady_by answer next x (radix ∷ radices) more = by (answer x radix) (steady_by answer next (next x) radices more)
  where
    by :
        (a : SourceAnswer) →
        take (length radices) (gives_by answer next (next x) (radices ++ more)).draws ≡ (gives_by answer next (next x) radices).draws →
        take (suc (length radices)) (before a (gives_by answer next (next x) (radices ++ more))).draws
        ≡ (before a (gives_by answer next (next x) radices)).draws
    by (drew draw) ih = ap (λ draws. draw ∷ draws) ih
    by (source_refused refusal) ih = refl

rest_take : (n : ℕ) (xs : List ℕ) → drop 1 (take (suc n) xs) ≡ take n (drop 1 xs)
rest_take zero [] = refl
rest_take (suc n) [] = refl
rest_take zero (x ∷ xs) = refl
rest_take (suc n) (x ∷ xs) = refl

-- and so is what follows in it
steady_followed : (course : List ℕ → Given) (radix : ℕ) → Steady course → Steady (followed course radix)
steady_followed course radix s first more =
    sym (rest_take (length first) (course (radix ∷ (first ++ more))).draws) ∙ ap (drop 1) (s (radix ∷ first) more)

-- a draw that was taken is the first that is given, and the course goes on behind it
abbrev TookOne : (List ℕ → Given) → Option EntryReceipt → Type 0
TookOne course o =
    MatchOption o (Unit {0})
    (λ receipt. (more : List ℕ) → course (receipt.radix ∷ more) ≡ all_before (receipt.draw ∷ []) (followed course receipt.radix more))

first_draw : (draws : List ℕ) (draw : ℕ) (others : List ℕ) → take 1 draws ≡ draw ∷ others → draws ≡ draw ∷ drop 1 draws
first_draw [] draw others e = let z : ◌≡◌ {A = ℕ} 0 1 = cc in let no' : ⊥ = omega arith in absurd no'
first_draw (x ∷ draws) draw others e = let same : x ≡ draw = cc in ap (λ y. y ∷ draws) same

said_took :
    (course : List ℕ → Given) (radix draw : ℕ) (others : List ℕ) (a : Told EntryReceipt) → Steady course →
    (course (radix ∷ [])).draws ≡ draw ∷ others → Says (told radix) draw a → TookOne course (receipt_in (entry_answer a))
said_took course radix draw others (refused number) steady e says = tt
said_took course radix draw others (told receipt) steady e says =
    λ more.
    let given = course (receipt.radix ∷ more) in
    let begins : take 1 (course (receipt.radix ∷ more)).draws ≡ receipt.draw ∷ others =
    subst (λ (r : ℕ). take 1 (course (r ∷ more)).draws ≡ receipt.draw ∷ others) (same_told radix receipt.radix says.0)
    (steady (radix ∷ []) more ∙ e ∙ ap (λ d. d ∷ others) (sym says.1)) in
    λ i. record { draws = first_draw given.draws receipt.draw others begins i; refusal = given.refusal }

settle_took :
    (b : Book) (m : Meaning) (entry : OpenEntry) (course : List ℕ → Given) → Steady course →
    radix_rule m entry.key.class ≡ told entry.radix →
    TookOne course (receipt_in (settle_supplied (supplied entry.radix (course (entry.radix ∷ []))) b m entry).answer)
settle_took b m entry course steady called = by (course (entry.radix ∷ [])).draws (course (entry.radix ∷ [])).refusal refl
  where
    drawn :
        (draw : ℕ) (others : List ℕ) (below : Bool) → (course (entry.radix ∷ [])).draws ≡ draw ∷ others →
        TookOne course (receipt_in (settle_drawn below b m entry draw).answer)
    drawn draw others false e = tt
    drawn draw others true e =
        said_took course entry.radix draw others _ steady e
        (subst (λ (c : Told ℕ). Says c draw (entry_rule m entry.tag entry.key.class draw).answer) called
        (entry_says m entry.tag entry.key.class draw (radix_rule m entry.key.class)))

    given :
        (draw : ℕ) (others : List ℕ) (below : Bool) → (course (entry.radix ∷ [])).draws ≡ draw ∷ others →
        TookOne course (receipt_in (settle_supplied (drawn_below below draw) b m entry).answer)
    given draw others false e = tt
    given draw others true e = drawn draw others (ltb draw entry.radix) e

    by :
        (draws : List ℕ) (fault : Option Refusal) → (course (entry.radix ∷ [])).draws ≡ draws →
        TookOne course (receipt_in (settle_supplied (supplied_by entry.radix draws fault) b m entry).answer)
    by (draw ∷ others) fault e = given draw others (ltb draw entry.radix) e
    by [] (Some fault) e = tt
    by [] None e = tt

-- one request
abbrev TookBy : Call → (List ℕ → Given) → Answer → Type 0
TookBy (enter key) course answer = TookOne course (receipt_in answer)
TookBy (admit key) course answer = Unit {0}
TookBy (settle tag class radix) course answer = Unit {0}
TookBy (withdraw tag class radix) course answer = Unit {0}
TookBy (leave key) course answer = Unit {0}
TookBy (ask question) course answer = Unit {0}

enter_took :
    (b : Book) (m : Meaning) (course : List ℕ → Given) (v : Verdict) → Steady course → Right b m v →
    TookOne course (receipt_in (carried_out v (enter_supply v course) b m).answer)
enter_took b m course (settles entry) steady r = settle_took b m entry course steady r.called
enter_took b m course (refuses number) steady r = tt
enter_took b m course (opens entry) steady r = tt
enter_took b m course withdraws steady r = tt
enter_took b m course (lets_go key tag) steady r = by (leave_rule m tag key.class).answer
  where
    by : (a : Told LeaveReceipt) → TookOne course (receipt_in (leave_answer a))
    by (refused number) = tt
    by (told receipt) = tt
enter_took b m course (tells question) steady r =
    subst (λ (o : Option EntryReceipt). TookOne course o) (sym (told_no_receipt question b m)) tt

request_took : (w : World) (request : Request) → Steady w.course → TookBy request.call w.course (step_of w request).answer
request_took w request steady = by request.call
  where
    by :
        (call : Call) →
        TookBy call w.course (carried_out (verdict w.book w.pile call) (supply w request call) w.book w.pile).answer
    by (admit key) = tt
    by (settle tag class radix) = tt
    by (withdraw tag class radix) = tt
    by (enter key) =
        enter_took w.book w.pile w.course (verdict w.book w.pile (enter key)) steady
        (enter_right w.book w.pile (admit_verdict w.book w.pile key) (admit_right w.book w.pile key))
    by (leave key) = tt
    by (ask question) = tt

moved_steady : (call : Call) (answer : Answer) (course : List ℕ → Given) → Steady course → Steady (course_after call answer course)
moved_steady (enter key) answer course steady = by (receipt_in answer)
  where
    by : (o : Option EntryReceipt) → Steady (course_moved o course)
    by None = steady
    by (Some receipt) = steady_followed course receipt.radix steady
moved_steady (admit key) answer course steady = steady
moved_steady (settle tag class radix) answer course steady = steady
moved_steady (withdraw tag class radix) answer course steady = steady
moved_steady (leave key) answer course steady = steady
moved_steady (ask question) answer course steady = steady

took_more :
    (call : Call) (answer : Answer) (course final : List ℕ → Given) (receipts : List EntryReceipt) → TookBy call course answer →
    TookFromSource (course_after call answer course) final receipts →
    TookFromSource course final (enter_receipt call (receipt_in answer) receipts)
took_more (enter key) answer course final receipts one others = by (receipt_in answer) one others
  where
    by :
        (o : Option EntryReceipt) → TookOne course o → TookFromSource (course_moved o course) final receipts →
        TookFromSource course final (enter_receipt (enter key) o receipts)
    by None one others = others
    by (Some receipt) one others =
        λ more. one (radices_of receipts ++ more) ∙ ap (all_before (receipt.draw ∷ [])) (others more)
took_more (admit key) answer course final receipts one others = others
took_more (settle tag class radix) answer course final receipts one others = others
took_more (withdraw tag class radix) answer course final receipts one others = others
took_more (leave key) answer course final receipts one others = others
took_more (ask question) answer course final receipts one others = others

pub took :
    (w : World) (requests : List Request) → Steady w.course →
    TookFromSource w.course (run_world w requests).course (enter_receipts requests (run_answers w requests))
took w [] steady = λ more. refl
took w (request ∷ requests) steady =
    took_more request.call (step_of w request).answer w.course (run_world (after w request) requests).course
    (enter_receipts requests (run_answers (after w request) requests)) (request_took w request steady)
    (took (after w request) requests (moved_steady request.call (step_of w request).answer w.course steady))
