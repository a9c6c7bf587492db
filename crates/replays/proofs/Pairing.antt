-- Each reading of a replay is the sample's after the log's events under the tape's draws, and each receipt is the one that the rules give.
use Rattle.std.proofs.Common.{◌≡◌, ℕ, zero, suc, pred, ◌+◌, ◌-◌, ◌*◌, ◌<◌, ◌≤◌, Bool, true, false, eqb, List, [], ◌∷◌, ◌++◌, length, get_or, take, drop, set, Some, None, Option, sym, refl, ap, ◌∙◌, subst, ap₂, inl, inr, ⊎_elim, arith}
use Rattle.std.specs.List.{slice_get}
use Rattle.std.specs.Str.{bytes_eq}
use Rattle.std.proofs.lemmas.List.{get_or-set_same, get_or-set_other, length-drop, drop-drop}
use Rattle.std.proofs.lemmas.Bool.{eq-eqb, ne_eqb, eqb-true, or_left, or_right, or_cases, cases_eq, cases_Bool, both_ways}
use Rattle.pile.specs.Answers.{Place}
use Rattle.pile.specs.Laws.{entry, leave, times, StandsOnce}
use Rattle.pile.specs.Meaning.{Meaning}
use Rattle.pile.specs.Rules.{entry_rule, leave_rule, receipt}
use Rattle.pile.proofs.Changes.{once_one}
use Rattle.evenness.specs.Events.{Event, came, went, has, without, Tally, nothing_yet, tally_came, tally_went, tally_next, tally_after, radix_of, radices_after, May, PossibleAfter}
use Rattle.evenness.specs.Tapes.{Tape, under, Distinct}
use Rattle.evenness.proofs.Bridge.{next_distinct}
use Rattle.evenness.proofs.Picks.{off_length}
use Rattle.evenness.proofs.Tags.{has_off, off_distinct, not_has, has_without}
use Rattle.sources.specs.Tapes.{read_record}
use Rattle.calls.specs.Book.{KeyView, holds_form}
use Rattle.calls.proofs.Members.{form_same}
use Rattle.calls.proofs.Piles.{radix_called}
use Rattle.calls.proofs.Searches.{none_some, same_some, held_below}
use Rattle.calls.proofs.Verdicts.{placed}
use Rattle.replays.specs.Happenings.{Reading, Happening, came_in, went_out, was_read, ended, was_refused}
use Rattle.replays.specs.Kinds.{Kind, found, LawfulKind}
use Rattle.replays.specs.Pairing.{OneToOne, events_of, then_draws, draws_in, draws_on, all_numbered, PairedReading, RandomPairing, log_records, RightReceipt, RightReceipts, doubled, form_number}
use Rattle.replays.specs.Records.{LogRecord, records_from}
use Rattle.replays.specs.Replays.{State, start, reading}
use Rattle.replays.specs.Settings.{setting_in, new_pile}
use Rattle.replays.proofs.Entering.{CameIn, in_turn}
use Rattle.replays.proofs.Keeping.{entry_keeps, leave_keeps, still_held}
use Rattle.replays.proofs.Kept.{WasRead, Kept}
use Rattle.replays.proofs.Leaving.{WentOut, out_turn}
use Rattle.replays.proofs.Matching.{Names, AllMatch, match_reads, match_free, match_filled, match_freed, match_uncounted, entry_both, leave_both, leave_gone, entry_answers, leave_answers}
use Rattle.replays.proofs.Opening.{new_is_new, free_slots}
use Rattle.replays.proofs.Run.{Run, run_stops, run_ends, run_reads, run_in, run_out}
use Rattle.replays.proofs.Slots.{one_if}
use Rattle.replays.proofs.Whole.{Whole, whole_refused, whole_run, whole}

-- keys with one byte form are one key
same_key : (kind : Kind) → LawfulKind kind → (a b : KeyView) → WasRead kind a → WasRead kind b → a.form ≡ b.form → a ≡ b
same_key kind lawful a b ra rb e =
    let back : found a ≡ found b =
    sym (lawful.back ra.0 a [] ra.1) ∙ ap (λ f. kind.reads (f ++ [])) e ∙ lawful.back rb.0 b [] rb.1 in
    cc

-- the draws on a tape, one after the other
draws_enough : (most most' : ℕ) (tape : List ℕ) → length tape ≤ most → length tape ≤ most' → draws_in most tape ≡ draws_in most' tape
draws_enough zero zero tape l l' = refl
draws_enough zero (suc most') [] l l' = refl
draws_enough zero (suc most') (b ∷ tape) l l' = let z : ⊥ = omega arith in absurd z
draws_enough (suc most) zero [] l l' = refl
draws_enough (suc most) zero (b ∷ tape) l l' = let z : ⊥ = omega arith in absurd z
draws_enough (suc most) (suc most') tape l l' =
    ap (then_draws (read_record tape))
    (draws_enough most most' (drop 6 tape) (omega (arith, length-drop 6 tape)) (omega (arith, length-drop 6 tape)))

next_draw : (left : List ℕ) (radix draw : ℕ) → 6 ≤ length left → read_record left ≡ Some (record { radix = radix; draw = draw }) → draws_on left ≡ draw ∷ draws_on (drop 6 left)
next_draw left radix draw six e = by (length left) refl
  where
    by : (n : ℕ) → length left ≡ n → draws_in n left ≡ draw ∷ draws_on (drop 6 left)
    by zero q = let z : ⊥ = omega arith in absurd z
    by (suc n) q =
        ap (λ o. then_draws o (draws_in n (drop 6 left))) e
        ∙ ap (λ ds. draw ∷ ds)
        (draws_enough n (length (drop 6 left)) (drop 6 left) (omega (arith, length-drop 6 left)) (omega arith))

tape_next : (tape : List ℕ) (draws radix draw : ℕ) → 6 * draws + 6 ≤ length tape → read_record (drop (6 * draws) tape) ≡ Some (record { radix = radix; draw = draw }) → draws_on (drop (6 * draws) tape) ≡ draw ∷ draws_on (drop (6 * (draws + 1)) tape)
tape_next tape draws radix draw whole e =
    let at : 6 * draws + 6 ≡ 6 * (draws + 1) = omega arith in
    next_draw (drop (6 * draws) tape) radix draw (omega (arith, length-drop (6 * draws) tape)) e
    ∙ ap (λ l. draw ∷ draws_on l) (drop-drop 6 (6 * draws) tape)
    ∙ ap (λ k. draw ∷ draws_on (drop k tape)) at

module _ (kind : Kind) (lawful : LawfulKind kind) (log tape : List ℕ) (number : List ℕ → ℕ) (one : OneToOne number) (m : Meaning) (takes : m.leaves ≡ true) where
  -- where a replay stands, beside the same pile with numbers of keys on its places, and what the events so far come to
  pub record Follows (s : State) (qs : List Place) (t : Tally) : Type 0 where
    pub same_counted : s.pile.counted ≡ m.counted
    pub match : AllMatch number m.counted s.book.slots s.pile.places qs
    pub once : StandsOnce s.pile
    pub tally_live : length t.tags ≡ s.pile.live
    pub tally_unpaired : t.unpaired ≡ s.pile.unpaired
    pub live_has :
        (slot : ℕ) (key : KeyView) → get_or s.book.slots slot None ≡ Some key → m.counted key.class ≡ true →
        has t.tags (number key.form) ≡ true
    pub has_live : (u : ℕ) → has t.tags u ≡ true → (slot : ℕ) × Names number m.counted s.book.slots slot u
    pub distinct : Distinct t.tags

  -- what is to be shown of a reading
  pub record PairedFrom (p : Meaning) (t : Tally) (events : List Event) (draws : List ℕ) (r : Reading) : Type 0 where
    pub live : r.live ≡ length (tally_after m t events).tags
    pub unpaired : r.unpaired ≡ (tally_after m t events).unpaired
    pub places : all_numbered number r.places ≡ (under p events draws).places
    pub possible : PossibleAfter m t events
    pub taped : Tape (radices_after m t events) (take (length (radices_after m t events)) draws)

  -- an entry
  module _ (s : State) (qs : List Place) (t : Tally) (f : Follows s qs t) (key : KeyView) (tag radix draw : ℕ) (place : Option ℕ) (c : CameIn tape s key tag radix draw place) where
    class_same : s.pile.counted key.class ≡ m.counted key.class
    class_same = ap (λ g. g key.class) f.same_counted

    is_new : has t.tags (number key.form) ≡ false
    is_new =
        ⊎_elim
        (λ on.
        let at = f.has_live (number key.form) on in
        let same = one key.form at.1.0.form at.1.2 in
        let holds : holds_form key.form (get_or s.book.slots at.0 None) ≡ true =
        ap (holds_form key.form) at.1.1 ∙ ap (λ g. bytes_eq g key.form) (sym same) ∙ form_same key.form in
        absurd (both_ways _ (c.openable.not_live at.0) holds))
        (λ off. off) (cases_Bool (has t.tags (number key.form)))

    may_come : May m t (came (number key.form) key.class)
    may_come counted =
        let called = radix_called s.pile key.class radix c.called in (
          is_new,
          ⊎_elim (λ some. inl (omega (arith, f.tally_unpaired))) (λ few. inr (omega (arith, f.tally_live))) (called.room (class_same ∙ counted)),
        )

    below_radix : draw < radix_of (m.counted key.class) t.unpaired (length t.tags)
    below_radix =
        let called = radix_called s.pile key.class radix c.called in
        let same : radix ≡ radix_of (m.counted key.class) t.unpaired (length t.tags) =
        called.is ∙ ap (λ b. radix_of b s.pile.unpaired s.pile.live) class_same
        ∙ ap (λ d. radix_of (m.counted key.class) d s.pile.live) (sym f.tally_unpaired)
        ∙ ap (λ k. radix_of (m.counted key.class) t.unpaired k) (sym f.tally_live) in
        omega (arith, c.below)

    named : m.counted key.class ≡ true → Names number m.counted (set s.book.slots tag (Some key)) tag (number key.form)
    named counted = (key, get_or-set_same s.book.slots tag (Some key) None c.openable.below, refl, counted)

    after_in : Meaning
    after_in = (entry_rule s.pile tag key.class draw).after

    other_slot : (slot : ℕ) (k : KeyView) → get_or s.book.slots slot None ≡ Some k → get_or (set s.book.slots tag (Some key)) slot None ≡ Some k
    other_slot slot k at =
        get_or-set_other s.book.slots tag slot (Some key) None
        (λ e. none_some k (sym c.openable.free ∙ ap (λ u. get_or s.book.slots u None) (sym e) ∙ at)) ∙ at

    counts_in :
        (b : Bool) → m.counted key.class ≡ b →
        (length (tally_came b t (number key.form)).tags ≡ after_in.live) × ((tally_came b t (number key.form)).unpaired ≡ after_in.unpaired)
    unfolding after_in
    counts_in b q =
        let keeps = entry_keeps s.pile tag key.class draw radix c.called c.below in
        by b (ap one_if (class_same ∙ q)) keeps.live_more keeps.unpaired_less
      where
        by :
            (b : Bool) → one_if (s.pile.counted key.class) ≡ one_if b →
            (entry_rule s.pile tag key.class draw).after.live ≡ one_if (s.pile.counted key.class) + s.pile.live →
            (entry_rule s.pile tag key.class draw).after.unpaired ≡ s.pile.unpaired - one_if (s.pile.counted key.class) →
            (length (tally_came b t (number key.form)).tags ≡ (entry_rule s.pile tag key.class draw).after.live)
            × ((tally_came b t (number key.form)).unpaired ≡ (entry_rule s.pile tag key.class draw).after.unpaired)
        by false q l u = (omega (arith, f.tally_live), omega (arith, f.tally_unpaired))
        by true q l u =
            let fewer : pred t.unpaired ≡ (entry_rule s.pile tag key.class draw).after.unpaired = omega (arith, f.tally_unpaired) in
            (omega (arith, f.tally_live), fewer)

    has_in :
        (b : Bool) → m.counted key.class ≡ b → (slot : ℕ) (k : KeyView) →
        get_or (set s.book.slots tag (Some key)) slot None ≡ Some k → m.counted k.class ≡ true →
        has (tally_came b t (number key.form)).tags (number k.form) ≡ true
    has_in b q slot k at counted =
        ⊎_elim
        (λ here.
        let same =
        same_some key k
        (sym (ap (λ u. get_or (set s.book.slots tag (Some key)) u None) here ∙ get_or-set_same s.book.slots tag (Some key) None c.openable.below) ∙ at) in
        new b q (ap (λ (v : KeyView). v.form) same) (ap (λ (v : KeyView). m.counted v.class) same ∙ counted))
        (λ ne. old b (f.live_has slot k (sym (get_or-set_other s.book.slots tag slot (Some key) None ne) ∙ at) counted)) (cases_eq slot tag)
      where
        new :
            (b : Bool) → m.counted key.class ≡ b → key.form ≡ k.form → m.counted key.class ≡ true →
            has (tally_came b t (number key.form)).tags (number k.form) ≡ true
        new false q same counted = absurd (both_ways (m.counted key.class) q counted)
        new true q same counted = or_left (eqb (number key.form) (number k.form)) (has t.tags (number k.form)) (eq-eqb _ _ (ap number same))

        old : (b : Bool) → has t.tags (number k.form) ≡ true → has (tally_came b t (number key.form)).tags (number k.form) ≡ true
        old false h = h
        old true h = or_right (eqb (number key.form) (number k.form)) (has t.tags (number k.form)) h

    live_in :
        (b : Bool) → m.counted key.class ≡ b → (u : ℕ) → has (tally_came b t (number key.form)).tags u ≡ true →
        (slot : ℕ) × Names number m.counted (set s.book.slots tag (Some key)) slot u
    live_in b q u on = by b q on
      where
        old : has t.tags u ≡ true → (slot : ℕ) × Names number m.counted (set s.book.slots tag (Some key)) slot u
        old h = let at = f.has_live u h in (at.0, (at.1.0, other_slot at.0 at.1.0 at.1.1, at.1.2, at.1.3))

        by :
            (b : Bool) → m.counted key.class ≡ b → has (tally_came b t (number key.form)).tags u ≡ true →
            (slot : ℕ) × Names number m.counted (set s.book.slots tag (Some key)) slot u
        by false q h = old h
        by true q h =
            ⊎_elim
            (λ e.
            (tag, (key, get_or-set_same s.book.slots tag (Some key) None c.openable.below, sym (eqb-true (number key.form) u e), q)))
            old (or_cases (eqb (number key.form) u) (has t.tags u) h)

    pub both_in : (qs' : List Place) × ((entry_rule (placed s.pile qs) (number key.form) key.class draw).after ≡ placed (in_turn s key tag radix draw place).after.pile qs') × AllMatch number m.counted (set s.book.slots tag (Some key)) (in_turn s key tag radix draw place).after.pile.places qs'
    both_in =
        entry_both number m.counted (set s.book.slots tag (Some key)) s.pile qs tag (number key.form) key.class draw radix c.called c.below
        (match_filled number m.counted s.book.slots tag key c.openable.free s.pile.places qs f.match)
        (λ counted. named (sym class_same ∙ counted))

    pub follows_in : Follows (in_turn s key tag radix draw place).after both_in.0 (tally_next m t (came (number key.form) key.class))
    unfolding after_in
    follows_in =
        let keeps = entry_keeps s.pile tag key.class draw radix c.called c.below in
        record {
          same_counted = keeps.same_counted ∙ f.same_counted;
          match = both_in.2;
          once =
              once_one s.pile (entry tag key.class draw) f.once
              (match_free number m.counted s.book.slots tag c.openable.free s.pile.places qs f.match);
          tally_live = (counts_in (m.counted key.class) refl).0;
          tally_unpaired = (counts_in (m.counted key.class) refl).1;
          live_has = has_in (m.counted key.class) refl;
          has_live = live_in (m.counted key.class) refl;
          distinct = next_distinct m t (came (number key.form) key.class) may_come f.distinct;
        }

    pub paired_in :
        (events : List Event) (r : Reading) →
        PairedFrom (placed (in_turn s key tag radix draw place).after.pile both_in.0) (tally_next m t (came (number key.form) key.class)) events
        (draws_on (drop (6 * (s.draws + 1)) tape)) r →
        PairedFrom (placed s.pile qs) t (came (number key.form) key.class ∷ events) (draws_on (drop (6 * s.draws) tape)) r
    paired_in events r h =
        let rest = draws_on (drop (6 * (s.draws + 1)) tape) in
        subst (λ (ds : List ℕ). PairedFrom (placed s.pile qs) t (came (number key.form) key.class ∷ events) ds r)
        (sym (tape_next tape s.draws radix draw c.whole c.taped))
        (record {
          live = h.live;
          unpaired = h.unpaired;
          places = h.places ∙ ap (λ (p : Meaning). (under p events rest).places) (sym both_in.1);
          possible = (may_come, h.possible);
          taped = (below_radix, h.taped);
        })

  -- a leave
  module _ (s : State) (k : Kept kind tape s) (qs : List Place) (t : Tally) (f : Follows s qs t) (key held : KeyView) (tag : ℕ) (place : Option ℕ) (same : held ≡ key) (w : WentOut s key held tag place) where
    at_tag : get_or s.book.slots tag None ≡ Some key
    at_tag = w.sits ∙ ap Some same

    class_out : s.pile.counted key.class ≡ m.counted key.class
    class_out = ap (λ g. g key.class) f.same_counted

    some_out : s.pile.counted key.class ≡ true → 0 < s.pile.live
    some_out counted = w.some_live (ap (λ (v : KeyView). s.pile.counted v.class) same ∙ counted)

    on_tally : m.counted key.class ≡ true → has t.tags (number key.form) ≡ true
    on_tally counted = f.live_has tag key at_tag counted

    may_go : May m t (went (number key.form) key.class)
    may_go counted = (on_tally counted, takes)

    -- the tag and the number are of one key
    apart : (slot : ℕ) (v : KeyView) → get_or s.book.slots slot None ≡ Some v → number v.form ≡ number key.form → slot ≡ tag
    apart slot v at e = k.well.one_slot_each slot tag v key at at_tag (one v.form key.form e)

    same_tests : (u n : ℕ) → Names number m.counted s.book.slots u n → eqb u tag ≡ eqb n (number key.form)
    same_tests u n name =
        ⊎_elim
        (λ (here : u ≡ tag).
        let v : name.0 ≡ key = same_some name.0 key (sym name.1 ∙ ap (λ x. get_or s.book.slots x None) here ∙ at_tag) in
        eq-eqb u tag here ∙ sym (eq-eqb n (number key.form) (name.2 ∙ ap (λ (x : KeyView). number x.form) v)))
        (λ (ne : u ≡ tag → ⊥).
        ne_eqb u tag ne ∙ sym (ne_eqb n (number key.form) (λ e. ne (apart u name.0 name.1 (sym name.2 ∙ e)))))
        (cases_eq u tag)

    gone_out : times tag (leave_rule s.pile tag key.class).after.places ≡ 0
    gone_out =
        leave_gone number m.counted s.pile tag key.class k.takes some_out
        (λ off.
        match_uncounted number m.counted s.book.slots tag key at_tag (sym class_out ∙ off) s.pile.places qs f.match)
        (f.once tag)

    pub both_old : (qs' : List Place) × ((leave_rule (placed s.pile qs) (number key.form) key.class).after ≡ placed (leave_rule s.pile tag key.class).after qs') × AllMatch number m.counted s.book.slots (leave_rule s.pile tag key.class).after.places qs'
    both_old = leave_both number m.counted s.book.slots s.pile qs tag (number key.form) key.class same_tests f.match

    counts_out :
        (b : Bool) → m.counted key.class ≡ b →
        (length (tally_went b t (number key.form)).tags ≡ (leave_rule s.pile tag key.class).after.live)
        × ((tally_went b t (number key.form)).unpaired ≡ (leave_rule s.pile tag key.class).after.unpaired)
    counts_out b q =
        let keeps = leave_keeps s.pile tag key.class k.takes some_out in
        by b q (ap one_if (class_out ∙ q)) keeps.live_fewer keeps.unpaired_more
      where
        by :
            (b : Bool) → m.counted key.class ≡ b → one_if (s.pile.counted key.class) ≡ one_if b →
            one_if (s.pile.counted key.class) + (leave_rule s.pile tag key.class).after.live ≡ s.pile.live →
            (leave_rule s.pile tag key.class).after.unpaired ≡ s.pile.unpaired + one_if (s.pile.counted key.class) →
            (length (tally_went b t (number key.form)).tags ≡ (leave_rule s.pile tag key.class).after.live)
            × ((tally_went b t (number key.form)).unpaired ≡ (leave_rule s.pile tag key.class).after.unpaired)
        by false c q l u = (omega (arith, f.tally_live), omega (arith, f.tally_unpaired))
        by true c q l u =
            (omega (arith, f.tally_live, off_length (has_off t.tags (number key.form) (on_tally c))), omega (arith, f.tally_unpaired))

    has_out :
        (b : Bool) (slot : ℕ) (v : KeyView) → get_or (set s.book.slots tag None) slot None ≡ Some v → m.counted v.class ≡ true →
        has (tally_went b t (number key.form)).tags (number v.form) ≡ true
    has_out b slot v at counted =
        let old = still_held s.book.slots tag held w.sits slot v at in
        by b (f.live_has slot v old counted)
        (λ e.
        none_some v
        (sym (ap (λ u. get_or (set s.book.slots tag None) u None) (apart slot v old e) ∙ get_or-set_same s.book.slots tag None None (held_below s.book.slots tag held w.sits)) ∙ at))
      where
        by :
            (b : Bool) → has t.tags (number v.form) ≡ true → (number v.form ≡ number key.form → ⊥) →
            has (tally_went b t (number key.form)).tags (number v.form) ≡ true
        by false h ne = h
        by true h ne = has_without t.tags (number key.form) (number v.form) ne ∙ h

    live_out :
        (b : Bool) → m.counted key.class ≡ b → (u : ℕ) → has (tally_went b t (number key.form)).tags u ≡ true →
        (slot : ℕ) × Names number m.counted (set s.book.slots tag None) slot u
    live_out b q u on = by b q on
      where
        old :
            has t.tags u ≡ true → ((v : KeyView) → v ≡ key → u ≡ number v.form → m.counted v.class ≡ true → ⊥) →
            (slot : ℕ) × Names number m.counted (set s.book.slots tag None) slot u
        old h not_key =
            let at = f.has_live u h in (
              at.0,
              (
                at.1.0,
                get_or-set_other s.book.slots tag at.0 None None
                    (λ e. not_key at.1.0 (same_some at.1.0 key (sym at.1.1 ∙ ap (λ x. get_or s.book.slots x None) e ∙ at_tag)) at.1.2 at.1.3)
                    ∙ at.1.1,
                at.1.2,
                at.1.3,
              ),
            )

        by :
            (b : Bool) → m.counted key.class ≡ b → has (tally_went b t (number key.form)).tags u ≡ true →
            (slot : ℕ) × Names number m.counted (set s.book.slots tag None) slot u
        by false q h = old h (λ v e num counted. both_ways (m.counted key.class) q (ap (λ (x : KeyView). m.counted x.class) (sym e) ∙ counted))
        by true q h =
            let off : has (without t.tags (number key.form)) (number key.form) ≡ false =
            not_has (without t.tags (number key.form)) (number key.form) (off_distinct (has_off t.tags (number key.form) (on_tally q)) f.distinct).0 in
            let ne : u ≡ number key.form → ⊥ =
            λ e. both_ways _ off (ap (has (without t.tags (number key.form))) (sym e) ∙ h) in
            old (sym (has_without t.tags (number key.form) u ne) ∙ h) (λ v e num counted. ne (num ∙ ap (λ (x : KeyView). number x.form) e))

    after_same : (leave_rule s.pile tag held.class).after ≡ (leave_rule s.pile tag key.class).after
    after_same = ap (λ (v : KeyView). (leave_rule s.pile tag v.class).after) same

    out_state : State
    out_state = record { book = record { slots = set s.book.slots tag None; entry = s.book.entry }; pile = (leave_rule s.pile tag key.class).after; draws = s.draws; readings = s.readings }

    follows_key : Follows out_state both_old.0 (tally_next m t (went (number key.form) key.class))
    unfolding out_state
    follows_key =
        let keeps = leave_keeps s.pile tag key.class k.takes some_out in
        record {
          same_counted = keeps.same_counted ∙ f.same_counted;
          match = match_freed number m.counted s.book.slots tag (leave_rule s.pile tag key.class).after.places both_old.0 gone_out both_old.2;
          once = once_one s.pile (leave tag key.class) f.once tt;
          tally_live = (counts_out (m.counted key.class) refl).0;
          tally_unpaired = (counts_out (m.counted key.class) refl).1;
          live_has = has_out (m.counted key.class);
          has_live = live_out (m.counted key.class) refl;
          distinct = next_distinct m t (went (number key.form) key.class) may_go f.distinct;
        }

    pub follows_out : Follows (out_turn s key held tag place).after both_old.0 (tally_next m t (went (number key.form) key.class))
    unfolding out_state
    follows_out =
        subst
        (λ (p : Meaning).
        Follows (record { book = record { slots = set s.book.slots tag None; entry = s.book.entry }; pile = p; draws = s.draws; readings = s.readings })
        both_old.0 (tally_next m t (went (number key.form) key.class)))
        (sym after_same) follows_key

    pub paired_out :
        (events : List Event) (r : Reading) →
        PairedFrom (placed (out_turn s key held tag place).after.pile both_old.0) (tally_next m t (went (number key.form) key.class)) events
        (draws_on (drop (6 * s.draws) tape)) r →
        PairedFrom (placed s.pile qs) t (went (number key.form) key.class ∷ events) (draws_on (drop (6 * s.draws) tape)) r
    paired_out events r h =
        let ds = draws_on (drop (6 * s.draws) tape) in
        record {
          live = h.live;
          unpaired = h.unpaired;
          places =
              h.places ∙ ap (λ (p : Meaning). (under (placed p both_old.0) events ds).places) after_same
              ∙ ap (λ (p : Meaning). (under p events ds).places) (sym both_old.1);
          possible = (may_go, h.possible);
          taped = h.taped;
        }

  -- a reading changes nothing
  follows_read : (s : State) (qs : List Place) (t : Tally) → Follows s qs t → Follows (record { book = s.book; pile = s.pile; draws = s.draws; readings = s.readings + 1 }) qs t
  follows_read s qs t f =
      record {
        same_counted = f.same_counted;
        match = f.match;
        once = f.once;
        tally_live = f.tally_live;
        tally_unpaired = f.tally_unpaired;
        live_has = f.live_has;
        has_live = f.has_live;
        distinct = f.distinct;
      }

  paired_run :
      {s : State} {records : List LogRecord} {h : List Happening} → Run kind log tape s records h → (qs : List Place) (t : Tally) →
      Follows s qs t → (i : ℕ) (r : Reading) → slice_get h i ≡ Some (was_read r) →
      PairedFrom (placed s.pile qs) t (events_of number (take i records)) (draws_on (drop (6 * s.draws) tape)) r
  paired_run (run_stops q can) qs t f zero r e = let z : ◌≡◌ {A = ℕ} 0 1 = cc in let w : ⊥ = omega arith in absurd w
  paired_run (run_stops q can) qs t f (suc i) r e = absurd (none_some (was_read r) e)
  paired_run (run_ends k u) qs t f zero r e = let z : ◌≡◌ {A = ℕ} 0 1 = cc in let w : ⊥ = omega arith in absurd w
  paired_run (run_ends k u) qs t f (suc i) r e = absurd (none_some (was_read r) e)
  paired_run {s} (run_reads k few next) qs t f zero r e =
      let same : reading s.book s.pile ≡ r = cc in
      subst (λ (x : Reading). PairedFrom (placed s.pile qs) t [] (draws_on (drop (6 * s.draws) tape)) x) same
      (record {
        live = sym f.tally_live;
        unpaired = sym f.tally_unpaired;
        places = match_reads number m.counted s.book.slots s.pile.places qs f.match;
        possible = tt;
        taped = tt;
      })
  paired_run {s} (run_reads k few next) qs t f (suc i) r e =
      paired_run next qs t (follows_read s qs t f) i r e
  paired_run (run_in k key tag radix draw place read c next) qs t f zero r e =
      let z : ◌≡◌ {A = ℕ} 0 1 = cc in let w : ⊥ = omega arith in absurd w
  paired_run {s} (run_in {records = records} k key tag radix draw place read c next) qs t f (suc i) r e =
      paired_in s qs t f key tag radix draw place c (events_of number (take i records)) r
      (paired_run next (both_in s qs t f key tag radix draw place c).0 (tally_next m t (came (number key.form) key.class))
      (follows_in s qs t f key tag radix draw place c) i r e)
  paired_run (run_out k key held tag place read w next) qs t f zero r e =
      let z : ◌≡◌ {A = ℕ} 0 1 = cc in let w : ⊥ = omega arith in absurd w
  paired_run {s} (run_out {records = records} k key held tag place read w next) qs t f (suc i) r e =
      let same = same_key kind lawful held key (k.keys tag held w.sits) read w.same_form in
      paired_out s k qs t f key held tag place same w (events_of number (take i records)) r
      (paired_run next (both_old s k qs t f key held tag place same w).0 (tally_next m t (went (number key.form) key.class))
      (follows_out s k qs t f key held tag place same w) i r e)

  -- the receipts
  receipt_run :
      {s : State} {records : List LogRecord} {h : List Happening} → Run kind log tape s records h → (qs : List Place) (t : Tally) →
      Follows s qs t → (i : ℕ) (x : Happening) → slice_get h i ≡ Some x →
      RightReceipt number (under (placed s.pile qs) (events_of number (take i records)) (draws_on (drop (6 * s.draws) tape))) x
  receipt_run {s} (run_stops q can) qs t f zero x e = subst (RightReceipt number (placed s.pile qs)) (same_some (was_refused q) x e) tt
  receipt_run (run_stops q can) qs t f (suc i) x e = absurd (none_some x e)
  receipt_run {s} (run_ends k u) qs t f zero x e = subst (RightReceipt number (placed s.pile qs)) (same_some (ended s.draws) x e) tt
  receipt_run (run_ends k u) qs t f (suc i) x e = absurd (none_some x e)
  receipt_run {s} (run_reads k few next) qs t f zero x e =
      subst (RightReceipt number (placed s.pile qs)) (same_some (was_read (reading s.book s.pile)) x e) tt
  receipt_run {s} (run_reads k few next) qs t f (suc i) x e = receipt_run next qs t (follows_read s qs t f) i x e
  receipt_run {s} (run_in {records = records} k key tag radix draw place read c next) qs t f zero x e =
      subst (RightReceipt number (placed s.pile qs)) (same_some (came_in key (receipt radix draw place)) x e)
      (entry_answers number m.counted s.book.slots s.pile qs tag (number key.form) key.class draw f.match ∙ c.answer)
  receipt_run {s} (run_in {records = records} k key tag radix draw place read c next) qs t f (suc i) x e =
      let events = events_of number (take i records) in
      let rest = draws_on (drop (6 * (s.draws + 1)) tape) in
      let b = both_in s qs t f key tag radix draw place c in
      subst (λ (ds : List ℕ). RightReceipt number (under (placed s.pile qs) (came (number key.form) key.class ∷ events) ds) x)
      (sym (tape_next tape s.draws radix draw c.whole c.taped))
      (subst (λ (p : Meaning). RightReceipt number (under p events rest) x) (sym b.1)
      (receipt_run next b.0 (tally_next m t (came (number key.form) key.class)) (follows_in s qs t f key tag radix draw place c) i x e))
  receipt_run {s} (run_out {records = records} k key held tag place read w next) qs t f zero x e =
      let same = same_key kind lawful held key (k.keys tag held w.sits) read w.same_form in
      subst (RightReceipt number (placed s.pile qs)) (same_some (went_out key (record { place = place })) x e)
      (leave_answers number m.counted s.book.slots s.pile qs tag (number key.form) key.class
      (same_tests s k qs t f key held tag place same w) f.match
      ∙ ap (λ (v : KeyView). (leave_rule s.pile tag v.class).answer) (sym same) ∙ w.answer)
  receipt_run {s} (run_out {records = records} k key held tag place read w next) qs t f (suc i) x e =
      let events = events_of number (take i records) in
      let ds = draws_on (drop (6 * s.draws) tape) in
      let same = same_key kind lawful held key (k.keys tag held w.sits) read w.same_form in
      let b = both_old s k qs t f key held tag place same w in
      let after = after_same s k qs t f key held tag place same w in
      subst (λ (p : Meaning). RightReceipt number (under p events ds) x) (ap (λ (p : Meaning). placed p b.0) after ∙ sym b.1)
      (receipt_run next b.0 (tally_next m t (went (number key.form) key.class)) (follows_out s k qs t f key held tag place same w) i x e)

-- a whole replay
start_follows :
    (kind : Kind) (lawful : LawfulKind kind) (log tape : List ℕ) (number : List ℕ → ℕ) (one : OneToOne number) →
    Follows kind lawful log tape number one (new_pile (setting_in log)) refl (start (setting_in log)) (new_pile (setting_in log)).places nothing_yet
start_follows kind lawful log tape number one =
    let m = new_pile (setting_in log) in
    let slots = (start (setting_in log)).book.slots in
    let none = (new_is_new (setting_in log)).no_places in
    record {
      same_counted = refl;
      match = subst (λ (ps : List Place). AllMatch number m.counted slots ps ps) (sym none) tt;
      once = λ tag. omega (arith, ap (times tag) none);
      tally_live = refl;
      tally_unpaired = refl;
      live_has = λ slot key at counted. absurd (none_some key (sym (free_slots (setting_in log).capacity slot) ∙ at));
      has_live = λ u on. absurd (both_ways false refl on);
      distinct = tt;
    }

whole_paired :
    {log tape : List ℕ} {h : List Happening} → Whole log tape h → (number : List ℕ → ℕ) → OneToOne number → (i : ℕ) (r : Reading) →
    slice_get h i ≡ Some (was_read r) →
    PairedReading number (new_pile (setting_in log)) (events_of number (take i (log_records log))) (draws_on tape) r
whole_paired (whole_refused q can) number one zero r e = let z : ◌≡◌ {A = ℕ} 0 1 = cc in let w : ⊥ = omega arith in absurd w
whole_paired (whole_refused q can) number one (suc i) r e = absurd (none_some (was_read r) e)
whole_paired {log} {tape} (whole_run kind lawful is passed run) number one i r e =
    let h =
    paired_run kind lawful log tape number one (new_pile (setting_in log)) refl run (new_pile (setting_in log)).places nothing_yet
    (start_follows kind lawful log tape number one) i r e in
    subst
    (λ (k : Kind). PairedReading number (new_pile (setting_in log)) (events_of number (take i (records_from k (drop 8 log)))) (draws_on tape) r)
    (sym is)
    (record { live = h.live; unpaired = h.unpaired; places = h.places; possible = h.possible; taped = h.taped })

pub random_pairing : (number : List ℕ → ℕ) → OneToOne number → (log tape : List ℕ) → RandomPairing number log tape
random_pairing number one log tape i r e = whole_paired (whole log tape) number one i r e

whole_receipts :
    {log tape : List ℕ} {h : List Happening} → Whole log tape h → (number : List ℕ → ℕ) → OneToOne number → (i : ℕ) (x : Happening) →
    slice_get h i ≡ Some x → RightReceipt number (under (new_pile (setting_in log)) (events_of number (take i (log_records log))) (draws_on tape)) x
whole_receipts {log} (whole_refused q can) number one zero x e =
    subst (RightReceipt number (new_pile (setting_in log))) (same_some (was_refused q) x e) tt
whole_receipts (whole_refused q can) number one (suc i) x e = absurd (none_some x e)
whole_receipts {log} {tape} (whole_run kind lawful is passed run) number one i x e =
    subst
    (λ (k : Kind).
    RightReceipt number (under (new_pile (setting_in log)) (events_of number (take i (records_from k (drop 8 log)))) (draws_on tape)) x)
    (sym is)
    (receipt_run kind lawful log tape number one (new_pile (setting_in log)) refl run (new_pile (setting_in log)).places nothing_yet
    (start_follows kind lawful log tape number one) i x e)

pub right_receipts : (number : List ℕ → ℕ) → OneToOne number → (log tape : List ℕ) → RightReceipts number log tape
right_receipts number one log tape i x e = whole_receipts (whole log tape) number one i x e

-- the numbering
doubled_same : (b c m n : ℕ) → doubled b (2 * m + 1) ≡ doubled c (2 * n + 1) → (b ≡ c) × (m ≡ n)
doubled_same zero zero m n e = (refl, omega arith)
doubled_same zero (suc c) m n e = let z : ⊥ = omega arith in absurd z
doubled_same (suc b) zero m n e = let z : ⊥ = omega arith in absurd z
doubled_same (suc b) (suc c) m n e = let h = doubled_same b c m n (omega arith) in (ap suc h.0, h.1)

doubled_some : (b m : ℕ) → 0 < doubled b (2 * m + 1)
doubled_some zero m = omega arith
doubled_some (suc b) m = omega (arith, doubled_some b m)

pub form_numbers : OneToOne form_number
form_numbers [] [] e = refl
form_numbers [] (b ∷ other) e = let z : ⊥ = omega (arith, doubled_some b (form_number other)) in absurd z
form_numbers (b ∷ form) [] e = let z : ⊥ = omega (arith, doubled_some b (form_number form)) in absurd z
form_numbers (b ∷ form) (c ∷ other) e =
    let h = doubled_same b c (form_number form) (form_number other) e in ap₂ ◌∷◌ h.0 (form_numbers form other h.1)
