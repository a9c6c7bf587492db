-- Which refusals can come, and how a page ends.
use Rattle.std.proofs.Common.{◌≡◌, ℕ, Bool, true, false, eqb, ◌⊎◌, List, [], ◌∷◌, ◌++◌, Some, None, Option, sym, refl, ap, ◌∙◌, subst, inl, inr, append_assoc, append-nil, arith}
use Rattle.std.proofs.lemmas.Bool.{ne_eqb, or_from}
use Rattle.replays.specs.Happenings.{Happening, came_in, went_out, was_read, refusal_in}
use Rattle.replays.specs.Kinds.{Kind}
use Rattle.replays.specs.Laws.{CanCome, of_settings, of_key, is_live, no_room, not_live, tape_ends, no_record, other_radix, tape_left, too_little, too_long, not_whole, not_known, too_many, log_left, AllCanCome, among, never_come, NoneOfThese, PageEnds, untouched, by_refusal, by_end}
use Rattle.replays.specs.Lines.{lines, lines_of, refused_line, end_line}
use Rattle.replays.specs.Records.{LogRecord}
use Rattle.replays.specs.Refusals.{in_log, Refusal, plain}
use Rattle.pile.specs.Rules.{receipt}
use Rattle.replays.specs.Replays.{State, reading, log_kind, history, Outcome, Room, room_enough, sizes_pass, outcome_when, outcome}
use Rattle.calls.proofs.Searches.{none_some, same_some}
use Rattle.replays.proofs.Run.{Run, run_stops, run_ends, run_reads, run_in, run_out}
use Rattle.replays.proofs.Whole.{Whole, whole_refused, whole_run, whole}

run_refused :
    {kind : Kind} {log tape : List ℕ} {s : State} {records : List LogRecord} {h : List Happening} → Run kind log tape s records h →
    (r : Refusal) → refusal_in h ≡ Some r → CanCome log tape r
run_refused {kind} {log} {tape} (run_stops q can) r e = subst (CanCome log tape) (same_some q r e) can
run_refused (run_ends k u) r e = absurd (none_some r e)
run_refused (run_reads k few next) r e = run_refused next r e
run_refused (run_in k key tag radix draw place read c next) r e = run_refused next r e
run_refused (run_out k key held tag place read w next) r e = run_refused next r e

whole_can_come : {log tape : List ℕ} {h : List Happening} → Whole log tape h → (r : Refusal) → refusal_in h ≡ Some r → CanCome log tape r
whole_can_come {log} {tape} (whole_refused q can) r e = subst (CanCome log tape) (same_some q r e) can
whole_can_come (whole_run kind lawful is passed run) r e = run_refused run r e

pub can_come : (room : Room) (log tape : List ℕ) → AllCanCome log tape (outcome room log tape)
can_come room log tape = by (room_enough room) (sizes_pass log tape)
  where
    by : (enough sizes : Bool) → AllCanCome log tape (outcome_when enough sizes log tape)
    by false sizes r e = subst (CanCome log tape) (same_some (plain in_log 21 0) r e) too_little
    by true false r e = subst (CanCome log tape) (same_some (plain in_log 22 0) r e) too_long
    by true true r e = whole_can_come (whole log tape) r e

-- the numbers that never come
not_among : (log tape : List ℕ) (r : Refusal) → CanCome log tape r → among never_come r.number ≡ false
not_among log tape _ (of_settings number some few) =
    or_from (eqb 5 number) _ (ne_eqb 5 number (λ e. omega arith))
    (or_from (eqb 7 number) _ (ne_eqb 7 number (λ e. omega arith))
    (or_from (eqb 10 number) _ (ne_eqb 10 number (λ e. omega arith))
    (or_from (eqb 11 number) _ (ne_eqb 11 number (λ e. omega arith))
    (or_from (eqb 12 number) _ (ne_eqb 12 number (λ e. omega arith))
    (or_from (eqb 14 number) _ (ne_eqb 14 number (λ e. omega arith))
    (or_from (eqb 15 number) _ (ne_eqb 15 number (λ e. omega arith))
    (or_from (eqb 16 number) _ (ne_eqb 16 number (λ e. omega arith))
    (or_from (eqb 20 number) false (ne_eqb 20 number (λ e. omega arith)) refl))))))))
not_among log tape _ (of_key byte l) = refl
not_among log tape _ (is_live byte l) = refl
not_among log tape _ (no_room byte l) = refl
not_among log tape _ (not_live byte l) = refl
not_among log tape _ (tape_ends byte l) = refl
not_among log tape _ (no_record byte draws l m) = refl
not_among log tape _ (other_radix byte draws l m) = refl
not_among log tape _ (tape_left byte draws l m) = refl
not_among log tape _ too_little = refl
not_among log tape _ too_long = refl
not_among log tape _ (not_whole byte l) = refl
not_among log tape _ (not_known byte l) = refl
not_among log tape _ (too_many byte l) = refl
not_among log tape _ (log_left byte l) = refl

pub none_of_these : (room : Room) (log tape : List ℕ) → NoneOfThese (outcome room log tape)
none_of_these room log tape r e = not_among log tape r (can_come room log tape r e)

-- how a page ends
abbrev Last : Kind → List Happening → Type 0
Last kind h =
    ((earlier : List ℕ) × (r : Refusal) × (lines kind h ≡ earlier ++ refused_line r) × (refusal_in h ≡ Some r))
    ⊎ ((earlier : List ℕ) × (draws : ℕ) × (lines kind h ≡ earlier ++ end_line draws) × (refusal_in h ≡ None))

last_on : (kind : Kind) (first : Happening) (later : List Happening) → refusal_in (first ∷ later) ≡ refusal_in later → Last kind later → Last kind (first ∷ later)
last_on kind first later same (inl l) =
    inl (lines_of kind first ++ l.0, l.1, ap (λ page. lines_of kind first ++ page) l.2 ∙ sym (append_assoc (lines_of kind first) l.0 (refused_line l.1)), same ∙ l.3)
last_on kind first later same (inr l) =
    inr (lines_of kind first ++ l.0, l.1, ap (λ page. lines_of kind first ++ page) l.2 ∙ sym (append_assoc (lines_of kind first) l.0 (end_line l.1)), same ∙ l.3)

run_last :
    {kind : Kind} {log tape : List ℕ} {s : State} {records : List LogRecord} {h : List Happening} → Run kind log tape s records h → Last kind h
run_last (run_stops r can) = inl ([], r, append-nil (refused_line r), refl)
run_last {s = s} (run_ends k u) = inr ([], s.draws, append-nil (end_line s.draws), refl)
run_last {kind} (run_reads {s} {records} {later} k few next) = last_on kind (was_read (reading s.book s.pile)) later refl (run_last next)
run_last {kind} (run_in {s} {records} {later} k key tag radix draw place read c next) =
    last_on kind (came_in key (receipt radix draw place)) later refl (run_last next)
run_last {kind} (run_out {s} {records} {later} k key held tag place read w next) =
    last_on kind (went_out key (record { place = place })) later refl (run_last next)

whole_last : {log tape : List ℕ} {h : List Happening} → Whole log tape h → Last (log_kind log) h
whole_last (whole_refused r can) = inl ([], r, append-nil (refused_line r), refl)
whole_last {h = h} (whole_run kind lawful is passed run) = subst (λ (k : Kind). Last k h) (sym is) (run_last run)

made : List ℕ → Option Refusal → Outcome
made page refusal = record { page = page; refused = refusal }

last_ends : (kind : Kind) (h : List Happening) → Last kind h → PageEnds (record { page = lines kind h; refused = refusal_in h })
unfolding made
last_ends kind h (inl l) =
    let same : made (l.0 ++ refused_line l.1) (Some l.1) ≡ made (lines kind h) (refusal_in h) = λ i. made (sym l.2 i) (sym l.3 i) in
    subst PageEnds same (by_refusal l.0 l.1)
last_ends kind h (inr l) =
    let same : made (l.0 ++ end_line l.1) None ≡ made (lines kind h) (refusal_in h) = λ i. made (sym l.2 i) (sym l.3 i) in
    subst PageEnds same (by_end l.0 l.1)

pub page_ends : (room : Room) (log tape : List ℕ) → PageEnds (outcome room log tape)
page_ends room log tape = by (room_enough room) (sizes_pass log tape)
  where
    by : (enough sizes : Bool) → PageEnds (outcome_when enough sizes log tape)
    by false sizes = untouched 21 (inl refl)
    by true false = untouched 22 (inr refl)
    by true true = last_ends (log_kind log) (history log tape) (whole_last (whole log tape))
