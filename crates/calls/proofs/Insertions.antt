-- Refused calls and questions leave the ledger as it was, and so make no difference.
use Rattle.std.proofs.Common.{◌≡◌, ℕ, Bool, List, [], ◌∷◌, ◌++◌, None, count_by, sym, refl, ap, ◌∙◌, subst}
use Rattle.pile.specs.Meaning.{Meaning}
use Rattle.evenness.specs.Events.{radices_after}
use Rattle.evenness.specs.Tapes.{tapes, Tape, under}
use Rattle.calls.specs.Book.{Book}
use Rattle.calls.specs.Calls.{Verdict, refuses, opens, settles, withdraws, lets_go, tells, verdict}
use Rattle.calls.specs.Steps.{receipt_in, gives, fails, Step, settle_drawn, carried_out}
use Rattle.calls.specs.Lists.{Lot, next, instead, Listed, next_draw, tape_after, listed_step, answers_under, book_under, pile_under}
use Rattle.calls.specs.Past.{Deed, Ledger, counted_live, events, number_live, number_unpaired, radices, told_pile, noted, note, note_all, ledger}
use Rattle.calls.specs.Promise.{sample, same_set}
use Rattle.calls.specs.Laws.{MarkedBy, MarkedFrom}
use Rattle.calls.specs.Insertions.{IdleBy, IdleIn, SameSteps, NoMatter}
use Rattle.calls.proofs.Ledgers.{tally, Kept, same_verdict, new_kept, note_kept, deeds_from, past_grows}
use Rattle.calls.proofs.Listings.{new_shown}
use Rattle.calls.proofs.Piles.{shown, Full, new_full}
use Rattle.calls.proofs.Under.{told_no_receipt, call_stepped}

pub note_all_append : (m : Meaning) (l : Ledger) (xs ys : List Listed) → note_all m l (xs ++ ys) ≡ note_all m (note_all m l xs) ys
note_all_append m l [] ys = refl
note_all_append m l (x ∷ xs) ys = note_all_append m (note m l x) xs ys

idle_noted : (v : Verdict) (lot : Lot) (l : Ledger) → IdleBy v lot → noted v lot l ≡ l
idle_noted (refuses number) lot l idle = refl
idle_noted (opens entry) lot l idle = absurd idle
idle_noted (settles entry) next l idle = absurd idle
idle_noted (settles entry) (instead (gives draw)) l idle = refl
idle_noted (settles entry) (instead (fails number byte)) l idle = refl
idle_noted withdraws lot l idle = absurd idle
idle_noted (lets_go key tag) lot l idle = absurd idle
idle_noted (tells question) lot l idle = refl

same_ledger :
    (m : Meaning) (b : Book) (first : List Listed) (item : Listed) (others : List Listed) → IdleIn m (ledger m b first) item →
    ledger m b (first ++ item ∷ others) ≡ ledger m b (first ++ others)
same_ledger m b first item others idle =
    let start : Ledger = record { book = b; past = [] } in
    note_all_append m start first (item ∷ others)
    ∙ ap (λ l. note_all m l others)
    (idle_noted (verdict (ledger m b first).book (told_pile m (ledger m b first).past) item.call) item.lot (ledger m b first) idle)
    ∙ sym (note_all_append m start first others)

-- what comes after it stays rightly marked, and it is rightly marked itself
idle_marked : (v : Verdict) (lot : Lot) → IdleBy v lot → MarkedBy v lot
idle_marked (refuses number) lot idle = tt
idle_marked (opens entry) lot idle = absurd idle
idle_marked (settles entry) next idle = absurd idle
idle_marked (settles entry) (instead (gives draw)) idle = idle
idle_marked (settles entry) (instead (fails number byte)) idle = tt
idle_marked withdraws lot idle = absurd idle
idle_marked (lets_go key tag) lot idle = absurd idle
idle_marked (tells question) lot idle = tt

still_marked :
    (m : Meaning) (l : Ledger) (first : List Listed) (item : Listed) (others : List Listed) → IdleIn m (note_all m l first) item →
    MarkedFrom m l (first ++ others) → MarkedFrom m l (first ++ item ∷ others)
still_marked m l [] item others idle mark =
    let v = verdict l.book (told_pile m l.past) item.call in (
      idle_marked v item.lot idle,
      subst (λ (k : Ledger). MarkedFrom m k others) (sym (idle_noted v item.lot l idle)) mark,
    )
still_marked m l (x ∷ first) item others idle mark = (mark.0, still_marked m (note m l x) first item others idle mark.1)

-- by its own step such a call leaves roster and pile, and takes no draw
record IdleStep (b : Book) (p : Meaning) (s : Step) : Type 0 where
  book : s.book ≡ b
  pile : s.pile ≡ p
  none : receipt_in s.answer ≡ None

idle_step :
    (v : Verdict) (lot : Lot) (tape : List ℕ) (b : Book) (p : Meaning) → IdleBy v lot →
    IdleStep b p (carried_out v (next_draw lot tape) b p)
idle_step (refuses number) lot tape b p idle = record { book = refl; pile = refl; none = refl }
idle_step (opens entry) lot tape b p idle = absurd idle
idle_step (settles entry) next tape b p idle = absurd idle
idle_step (settles entry) (instead (gives draw)) tape b p idle =
    subst (λ (below : Bool). IdleStep b p (settle_drawn below b p entry draw)) (sym idle) (record { book = refl; pile = refl; none = refl })
idle_step (settles entry) (instead (fails number byte)) tape b p idle = record { book = refl; pile = refl; none = refl }
idle_step withdraws lot tape b p idle = absurd idle
idle_step (lets_go key tag) lot tape b p idle = absurd idle
idle_step (tells question) lot tape b p idle = record { book = refl; pile = refl; none = told_no_receipt question b p }

inserted :
    (m : Meaning) (l : Ledger) (b : Book) (p : Meaning) (first : List Listed) (item : Listed) (others : List Listed) (tape : List ℕ) →
    Kept m l → b ≡ l.book → p ≡ shown m (tally m l.past) p.places → Full p → IdleIn m (note_all m l first) item →
    MarkedFrom m l (first ++ others) →
    Tape (radices_after m (tally m l.past) (events (deeds_from m l (first ++ others)))) tape → SameSteps p b first item others tape
inserted m l b p [] item others tape k same-book same_pile full idle mark h =
    let v = verdict l.book (told_pile m l.past) item.call in
    let same : verdict b p item.call ≡ v =
    ap (λ c. verdict c p item.call) same-book ∙ ap (λ q. verdict l.book q item.call) same_pile
    ∙ same_verdict m l k p.places item.call in
    let s = listed_step b p item tape in
    let is : IdleStep b p (listed_step b p item tape) =
    subst (λ (u : Verdict). IdleStep b p (carried_out u (next_draw item.lot tape) b p)) (sym same) (idle_step v item.lot tape b p idle) in
    record {
      same_roster = λ i. book_under (is.book i) (is.pile i) others (tape_after (is.none i) tape);
      same_pile = λ i. pile_under (is.book i) (is.pile i) others (tape_after (is.none i) tape);
      one_answer_more =
          (s.answer, λ i. s.answer ∷ answers_under (is.book i) (is.pile i) others (tape_after (is.none i) tape));
    }
inserted m l b p (x ∷ first) item others tape k same-book same_pile full idle mark h =
    let st = call_stepped m l b p x (deeds_from m (note m l x) (first ++ others)) tape k same-book same_pile full mark.0 h in
    let s = listed_step b p x tape in
    let on =
    inserted m (note m l x) s.book s.pile first item others (tape_after (receipt_in s.answer) tape) (note_kept m l x k) st.book
    st.pile st.full idle mark.1 st.rest in
    record {
      same_roster = on.same_roster;
      same_pile = on.same_pile;
      one_answer_more = (on.one_answer_more.0, ap (λ answers. s.answer ∷ answers) on.one_answer_more.1);
    }

pub no_matter :
    (m : Meaning) (b : Book) (first : List Listed) (item : Listed) (others : List Listed) → IdleIn m (ledger m b first) item →
    NoMatter m b first item others
no_matter m b first item others idle =
    let same = same_ledger m b first item others idle in
    record {
      same_radices = ap (λ l. radices m l.past) same;
      same_shares =
          λ set.
          ap
          (λ l.
          count_by (λ tape. same_set (sample l.book (under m (events l.past) tape).places) set) (tapes (radices m l.past))) same;
      same_sample = λ tape. ap (λ l. sample l.book (under m (events l.past) tape).places) same;
      same_counts = (ap (λ l. number_live m l.past) same, ap (λ l. number_unpaired m l.past) same);
      same_live = ap (λ l. counted_live m l.past) same;
      still_marked = still_marked m (record { book = b; past = [] }) first item others idle;
      same_steps =
          λ new fresh marked tape draws.
          let start : Ledger = record { book = b; past = [] } in
          inserted m start b m first item others tape (new_kept m b fresh) refl (new_shown m new) (new_full m new) idle marked
          (subst (λ (past : List Deed). Tape (radices m past) tape) (past_grows m start (first ++ others)) draws);
    }
