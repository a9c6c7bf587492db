-- A list of calls under a tape, by the calls' own steps: it goes as the ledger tells, and its pile is the one under the tape.
use Rattle.std.proofs.Common.{◌≡◌, ℕ, zero, suc, ◌+◌, ◌<◌, min, Bool, true, false, ltb, List, [], ◌∷◌, ◌++◌, map, length, replicate, is_some, Some, None, Option, sym, refl, ap, ◌∙◌, subst, ap₂, arith}
use lib.ListN.{length-replicate}
use Rattle.std.specs.List.{slice_get}
use Rattle.std.proofs.lemmas.Bool.{lt-ltb}
use Rattle.pile.specs.declared.receipts.EntryReceipt.{EntryReceipt}
use Rattle.pile.specs.declared.receipts.LeaveReceipt.{LeaveReceipt}
use Rattle.pile.specs.Answers.{Told, refused, told, Place}
use Rattle.pile.specs.Meaning.{Meaning}
use Rattle.pile.specs.Rules.{radix_rule, entry_rule, leave_rule}
use Rattle.evenness.specs.Events.{Tally, radix_of, radices_after}
use Rattle.evenness.specs.Tapes.{Tape, under}
use Rattle.sources.specs.Records.{radices_of, draws_of}
use Rattle.calls.specs.Book.{KeyView, OpenEntry, Book}
use Rattle.calls.specs.Calls.{Question, what_place, what_counts, what_radix, is_live, how_many_live, what_entry, what_key, Verdict, refuses, opens, settles, withdraws, lets_go, tells, verdict}
use Rattle.calls.specs.Steps.{Answer, refusal, source_refusal, slip, entered, withdrawn, left, place_is, key_is, receipt_in, gives, fails, Step, settled, gone, entry_answer, leave_answer, settle_drawn, key_on_place, radix_answer, told_to, carried_out}
use Rattle.calls.specs.Lists.{Lot, next, instead, Listed, next_draw, tape_after, listed_step, answers_under, book_under, pile_under, with_receipt, draws_in, radices_in}
use Rattle.calls.specs.Past.{arrived, departed, Deed, events, told_pile, Ledger, noted, note, note_all}
use Rattle.calls.specs.Promise.{only_there, bare}
use Rattle.calls.specs.Laws.{MarkedBy, MarkedFrom}
use Rattle.calls.proofs.Ledgers.{tally, tally_more, Kept, same_number, told_shown, same_verdict, gone_may, ledger_right, note_kept, then_deeds, deeds_from}
use Rattle.calls.proofs.Piles.{shown, radix_called, entry_told, leave_told, entry_after, leave_after, Full, entry_full, leave_full}
use Rattle.calls.proofs.Verdicts.{placed, radix_placed, Settles, LetsGo, Right}

-- what one receipt adds to the draws and to the radices
abbrev pub with_draw : Option EntryReceipt → List ℕ → List ℕ
with_draw None draws = draws
with_draw (Some receipt) draws = receipt.draw ∷ draws

abbrev pub with_radix : Option EntryReceipt → List ℕ → List ℕ
with_radix None radices = radices
with_radix (Some receipt) radices = receipt.radix ∷ radices

pub draws_with : (o : Option EntryReceipt) (rs : List EntryReceipt) → draws_of (with_receipt o rs) ≡ with_draw o (draws_of rs)
draws_with None rs = refl
draws_with (Some receipt) rs = refl

radices_with : (o : Option EntryReceipt) (rs : List EntryReceipt) → radices_of (with_receipt o rs) ≡ with_radix o (radices_of rs)
radices_with None rs = refl
radices_with (Some receipt) rs = refl

-- what a call answers, without what draws decide, as the ledger tells it
abbrev pub expected : Verdict → Lot → Book → Meaning → Answer
expected (refuses number) lot b m = refusal number
expected (opens entry) lot b m = slip entry.tag entry.key.class entry.radix
expected (settles entry) next b m = entered (record { radix = entry.radix; draw = 0; place = None })
expected (settles entry) (instead (gives draw)) b m = refusal 12
expected (settles entry) (instead (fails number byte)) b m = source_refusal number byte
expected withdraws lot b m = withdrawn
expected (lets_go key tag) lot b m = left (record { place = None })
expected (tells question) lot b m = bare (told_to question b (placed m (replicate (min m.bound (m.live + m.unpaired)) None)))

abbrev pub expected_from : Meaning → Ledger → List Listed → List Answer
expected_from m l [] = []
expected_from m l (item ∷ items) =
    expected (verdict l.book (told_pile m l.past) item.call) item.lot l.book (told_pile m l.past)
    ∷ expected_from m (note m l item) items

-- a question that is asked of two piles with equally many places
same_there : (ps qs : List Place) (i : ℕ) → length ps ≡ length qs → is_some (slice_get ps i) ≡ is_some (slice_get qs i)
same_there [] [] i e = refl
same_there [] (q ∷ qs) i e = let z : ⊥ = omega arith in absurd z
same_there (p ∷ ps) [] i e = let z : ⊥ = omega arith in absurd z
same_there (p ∷ ps) (q ∷ qs) zero e = refl
same_there (p ∷ ps) (q ∷ qs) (suc i) e = let fewer : length ps ≡ length qs = omega arith in same_there ps qs i fewer

abbrev there_if : {A : Type 0} → Bool → Option (Option A)
there_if false = None
there_if true = Some None

place_there : (o : Option Place) → only_there o ≡ there_if (is_some o)
place_there None = refl
place_there (Some what) = refl

key_there : (slots : List (Option KeyView)) (o : Option Place) → only_there (key_on_place slots o) ≡ there_if (is_some o)
key_there slots None = refl
key_there slots (Some what) = refl

question_placed :
    (question : Question) (b : Book) (m : Meaning) (ps qs : List Place) → length ps ≡ length qs →
    bare (told_to question b (placed m ps)) ≡ bare (told_to question b (placed m qs))
question_placed (what_place i) b m ps qs e =
    ap place_is (place_there (slice_get ps i) ∙ ap there_if (same_there ps qs i e) ∙ sym (place_there (slice_get qs i)))
question_placed what_counts b m ps qs e = refl
question_placed (what_radix class) b m ps qs e =
    ap (λ called. bare (radix_answer called)) (radix_placed m ps class ∙ sym (radix_placed m qs class))
question_placed (is_live key) b m ps qs e = refl
question_placed how_many_live b m ps qs e = refl
question_placed what_entry b m ps qs e = refl
question_placed (what_key i) b m ps qs e =
    ap key_is (key_there b.slots (slice_get ps i) ∙ ap there_if (same_there ps qs i e) ∙ sym (key_there b.slots (slice_get qs i)))

pub told_no_receipt : (question : Question) (b : Book) (m : Meaning) → receipt_in (told_to question b m) ≡ None
told_no_receipt (what_place i) b m = refl
told_no_receipt what_counts b m = refl
told_no_receipt (what_radix class) b m = by (radix_rule m class)
  where
    by : (called : Told ℕ) → receipt_in (radix_answer called) ≡ None
    by (refused number) = refl
    by (told radix) = refl
told_no_receipt (is_live key) b m = refl
told_no_receipt how_many_live b m = refl
told_no_receipt what_entry b m = refl
told_no_receipt (what_key i) b m = refl

-- the radix of an entry that is settled is the next one of the list
pub settled_radix :
    (m : Meaning) (l : Ledger) (entry : OpenEntry) → Kept m l → Settles l.book (told_pile m l.past) entry →
    entry.radix ≡ radix_of (m.counted entry.key.class) (tally m l.past).unpaired (length (tally m l.past).tags)
settled_radix m l entry k r =
    (radix_called (told_pile m l.past) entry.key.class entry.radix r.called).is
    ∙ ap (radix_of (m.counted entry.key.class) (tally m l.past).unpaired) (same_number m l k)

pub settled_called :
    (m : Meaning) (l : Ledger) (entry : OpenEntry) (ps : List Place) → Kept m l → Settles l.book (told_pile m l.past) entry →
    radix_rule (shown m (tally m l.past) ps) entry.key.class ≡ told entry.radix
settled_called m l entry ps k r =
    ap (λ p. radix_rule p entry.key.class) (told_shown m l k ps)
    ∙ radix_placed (told_pile m l.past) ps entry.key.class ∙ r.called

-- what the pile is after it, and after a leave
pub settled_pile :
    (m : Meaning) (l : Ledger) (entry : OpenEntry) (ps : List Place) (draw : ℕ) → Kept m l →
    Settles l.book (told_pile m l.past) entry → draw < entry.radix →
    let after = (entry_rule (shown m (tally m l.past) ps) entry.tag entry.key.class draw).after in
    after ≡ shown m (tally m (l.past ++ arrived entry.key entry.tag ∷ [])) after.places
settled_pile m l entry ps draw k r below =
    entry_after m (tally m l.past) ps entry.tag entry.key.class draw entry.radix (settled_called m l entry ps k r) below
    ∙ ap (λ t. shown m t (entry_rule (shown m (tally m l.past) ps) entry.tag entry.key.class draw).after.places)
    (sym (tally_more m l.past (arrived entry.key entry.tag)))

pub gone_pile :
    (m : Meaning) (l : Ledger) (key : KeyView) (tag : ℕ) (ps : List Place) → Kept m l →
    LetsGo l.book (told_pile m l.past) key tag →
    let after = (leave_rule (shown m (tally m l.past) ps) tag key.class).after in
    after ≡ shown m (tally m (l.past ++ departed key tag ∷ [])) after.places
gone_pile m l key tag ps k r =
    leave_after m (tally m l.past) ps tag key.class (gone_may m l key tag k r)
    ∙ ap (λ t. shown m t (leave_rule (shown m (tally m l.past) ps) tag key.class).after.places)
    (sym (tally_more m l.past (departed key tag)))

pub gone_told :
    (m : Meaning) (l : Ledger) (key : KeyView) (tag : ℕ) (ps : List Place) → Kept m l →
    LetsGo l.book (told_pile m l.past) key tag →
    (place : Option ℕ) × ((leave_rule (shown m (tally m l.past) ps) tag key.class).answer ≡ told (record { place = place }))
gone_told m l key tag ps k r =
    leave_told (shown m (tally m l.past) ps) tag key.class
    (λ c. ((r.takes c).0, subst (λ (n : ℕ). 0 < n) (same_number m l k) (r.takes c).1))

-- one call under a tape, where `more` happens after it
pub record Stepped (m : Meaning) (l : Ledger) (p : Meaning) (v : Verdict) (lot : Lot) (more : List Deed) (tape : List ℕ) (s : Step) : Type 0 where
  pub book : s.book ≡ (noted v lot l).book
  pub pile : s.pile ≡ shown m (tally m (noted v lot l).past) s.pile.places
  pub answer : bare s.answer ≡ expected v lot l.book (told_pile m l.past)
  pub held : with_draw (receipt_in s.answer) (tape_after (receipt_in s.answer) tape) ≡ tape
  pub radix :
      with_radix (receipt_in s.answer) (radices_after m (tally m (noted v lot l).past) (events more))
      ≡ radices_after m (tally m l.past) (events (then_deeds v lot more))
  pub rest : Tape (radices_after m (tally m (noted v lot l).past) (events more)) (tape_after (receipt_in s.answer) tape)
  pub full : Full s.pile
  pub goes :
      under p (events (then_deeds v lot more)) tape ≡ under s.pile (events more) (tape_after (receipt_in s.answer) tape)

module _ (m : Meaning) (l : Ledger) (ps : List Place) (k : Kept m l) (full : Full (shown m (tally m l.past) ps)) (more : List Deed) where
  abbrev pile_now : Meaning
  pile_now = shown m (tally m l.past) ps

  settled_stepped :
      (entry : OpenEntry) (draw : ℕ) (tape : List ℕ) → Settles l.book (told_pile m l.past) entry →
      Tape (radices_after m (tally m l.past) (events (arrived entry.key entry.tag ∷ more))) (draw ∷ tape) →
      Stepped m l pile_now (settles entry) next more (draw ∷ tape) (settle_drawn (ltb draw entry.radix) l.book pile_now entry draw)
  settled_stepped entry draw tape r h =
      let below : draw < entry.radix = subst (λ (n : ℕ). draw < n) (sym (settled_radix m l entry k r)) h.0 in
      let change = entry_rule pile_now entry.tag entry.key.class draw in
      let taken = entry_told pile_now entry.tag entry.key.class draw entry.radix (settled_called m l entry ps k r) below in
      subst
      (λ (b : Bool). Stepped m l pile_now (settles entry) next more (draw ∷ tape) (settle_drawn b l.book pile_now entry draw))
      (sym (lt-ltb draw entry.radix below))
      (subst
      (λ (a : Told EntryReceipt).
      Stepped m l pile_now (settles entry) next more (draw ∷ tape)
      (record { answer = entry_answer a; book = settled l.book entry; pile = change.after }))
      (sym taken.1)
      (record {
        book = refl;
        pile = settled_pile m l entry ps draw k r below;
        answer = refl;
        held = refl;
        radix =
            ap₂ ◌∷◌ (settled_radix m l entry k r)
            (ap (λ t. radices_after m t (events more)) (tally_more m l.past (arrived entry.key entry.tag)));
        rest =
            subst (λ (u : Tally). Tape (radices_after m u (events more)) tape)
            (sym (tally_more m l.past (arrived entry.key entry.tag))) h.1;
        full = entry_full pile_now entry.tag entry.key.class draw full;
        goes = refl;
      }))

  gone_stepped :
      (key : KeyView) (tag : ℕ) (lot : Lot) (tape : List ℕ) → LetsGo l.book (told_pile m l.past) key tag →
      Tape (radices_after m (tally m l.past) (events (departed key tag ∷ more))) tape →
      Stepped m l pile_now (lets_go key tag) lot more tape (carried_out (lets_go key tag) (next_draw lot tape) l.book pile_now)
  gone_stepped key tag lot tape r h =
      let change = leave_rule pile_now tag key.class in
      subst
      (λ (a : Told LeaveReceipt).
      Stepped m l pile_now (lets_go key tag) lot more tape
      (record { answer = leave_answer a; book = gone l.book tag; pile = change.after }))
      (sym (gone_told m l key tag ps k r).1)
      (record {
        book = refl;
        pile = gone_pile m l key tag ps k r;
        answer = refl;
        held = refl;
        radix = ap (λ t. radices_after m t (events more)) (tally_more m l.past (departed key tag));
        rest =
            subst (λ (u : Tally). Tape (radices_after m u (events more)) tape) (sym (tally_more m l.past (departed key tag))) h;
        full = leave_full pile_now tag key.class full;
        goes = refl;
      })

  stepped :
      (v : Verdict) (lot : Lot) (tape : List ℕ) → Right l.book (told_pile m l.past) v → MarkedBy v lot →
      Tape (radices_after m (tally m l.past) (events (then_deeds v lot more))) tape →
      Stepped m l pile_now v lot more tape (carried_out v (next_draw lot tape) l.book pile_now)
  stepped (refuses number) lot tape r mark h = record { book = refl; pile = refl; answer = refl; held = refl; radix = refl; rest = h; full = full; goes = refl }
  stepped (opens entry) lot tape r mark h = record { book = refl; pile = refl; answer = refl; held = refl; radix = refl; rest = h; full = full; goes = refl }
  stepped (settles entry) next [] r mark h = absurd h
  stepped (settles entry) next (draw ∷ tape) r mark h = settled_stepped entry draw tape r h
  stepped (settles entry) (instead (gives draw)) tape r mark h =
      subst
      (λ (b : Bool).
      Stepped m l pile_now (settles entry) (instead (gives draw)) more tape (settle_drawn b l.book pile_now entry draw))
      (sym mark) (record { book = refl; pile = refl; answer = refl; held = refl; radix = refl; rest = h; full = full; goes = refl })
  stepped (settles entry) (instead (fails number byte)) tape r mark h =
      record { book = refl; pile = refl; answer = refl; held = refl; radix = refl; rest = h; full = full; goes = refl }
  stepped withdraws lot tape r mark h = record { book = refl; pile = refl; answer = refl; held = refl; radix = refl; rest = h; full = full; goes = refl }
  stepped (lets_go key tag) lot tape r mark h = gone_stepped key tag lot tape r h
  stepped (tells question) lot tape r mark h =
      record {
        book = refl;
        pile = refl;
        answer =
            ap (λ p. bare (told_to question l.book p)) (told_shown m l k ps)
            ∙ question_placed question l.book (told_pile m l.past) ps _
            (subst Full (told_shown m l k ps) full ∙ sym (length-replicate _ None));
        held = ap (λ o. with_draw o (tape_after o tape)) none;
        radix = ap (λ o. with_radix o (radices_after m (tally m l.past) (events more))) none;
        rest = subst (λ (o : Option EntryReceipt). Tape (radices_after m (tally m l.past) (events more)) (tape_after o tape)) (sym none) h;
        full = full;
        goes = ap (λ o. under pile_now (events more) (tape_after o tape)) (sym none);
      }
    where
      none : receipt_in (told_to question l.book pile_now) ≡ None
      none = told_no_receipt question l.book pile_now

-- a list of calls under a tape
pub record UnderFrom (m : Meaning) (l : Ledger) (b : Book) (p : Meaning) (items : List Listed) (tape : List ℕ) : Type 0 where
  pub draws : draws_in (answers_under b p items tape) ≡ tape
  pub radices : radices_in (answers_under b p items tape) ≡ radices_after m (tally m l.past) (events (deeds_from m l items))
  pub answers : map bare (answers_under b p items tape) ≡ expected_from m l items
  pub book : book_under b p items tape ≡ (note_all m l items).book
  pub pile : pile_under b p items tape ≡ under p (events (deeds_from m l items)) tape
  pub counts : pile_under b p items tape ≡ shown m (tally m (note_all m l items).past) (pile_under b p items tape).places

no_radix : (tape : List ℕ) → Tape [] tape → [] ≡ tape
no_radix [] h = refl
no_radix (draw ∷ tape) h = absurd h

-- one call, on a roster and a pile that are as the ledger tells
pub call_stepped :
    (m : Meaning) (l : Ledger) (b : Book) (p : Meaning) (item : Listed) (more : List Deed) (tape : List ℕ) → Kept m l → b ≡ l.book →
    p ≡ shown m (tally m l.past) p.places → Full p →
    MarkedBy (verdict l.book (told_pile m l.past) item.call) item.lot →
    Tape
    (radices_after m (tally m l.past)
    (events (then_deeds (verdict l.book (told_pile m l.past) item.call) item.lot more)))
    tape →
    Stepped m l p (verdict l.book (told_pile m l.past) item.call) item.lot more tape (listed_step b p item tape)
call_stepped m l b p item more tape k same-book same_pile full mark h =
    subst (λ (c : Book). Stepped m l p v item.lot more tape (listed_step c p item tape)) (sym same-book)
    (subst (λ (q : Meaning). Stepped m l q v item.lot more tape (listed_step l.book q item tape)) (sym same_pile)
    (subst
    (λ (u : Verdict).
    Stepped m l (shown m (tally m l.past) p.places) v item.lot more tape
    (carried_out u (next_draw item.lot tape) l.book (shown m (tally m l.past) p.places)))
    (sym (same_verdict m l k p.places item.call))
    (stepped m l p.places k (subst Full same_pile full) more v item.lot tape (ledger_right m l item.call k) mark h)))
  where
    v : Verdict
    v = verdict l.book (told_pile m l.past) item.call

pub under_from :
    (m : Meaning) (l : Ledger) (b : Book) (p : Meaning) (items : List Listed) (tape : List ℕ) → Kept m l → b ≡ l.book →
    p ≡ shown m (tally m l.past) p.places → Full p → MarkedFrom m l items →
    Tape (radices_after m (tally m l.past) (events (deeds_from m l items))) tape → UnderFrom m l b p items tape
under_from m l b p [] tape k same-book same_pile full mark h =
    record { draws = no_radix tape h; radices = refl; answers = refl; book = same-book; pile = refl; counts = same_pile }
under_from m l b p (item ∷ items) tape k same-book same_pile full mark h =
    let st = call_stepped m l b p item (deeds_from m (note m l item) items) tape k same-book same_pile full mark.0 h in
    let s = listed_step b p item tape in
    let on =
    under_from m (note m l item) s.book s.pile items (tape_after (receipt_in s.answer) tape) (note_kept m l item k) st.book
    st.pile st.full mark.1 st.rest in
    record {
      draws = draws_with (receipt_in s.answer) _ ∙ ap (with_draw (receipt_in s.answer)) on.draws ∙ st.held;
      radices = radices_with (receipt_in s.answer) _ ∙ ap (with_radix (receipt_in s.answer)) on.radices ∙ st.radix;
      answers = ap₂ ◌∷◌ st.answer on.answers;
      book = on.book;
      pile = on.pile ∙ sym st.goes;
      counts = on.counts;
    }
