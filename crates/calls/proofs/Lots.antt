-- What the answer to a request tells of its draw.
use Rattle.std.proofs.Common.{◌≡◌, ℕ, zero, suc, ◌<◌, Bool, true, false, ltb, List, [], ◌∷◌, Some, None, Option, sym, refl, ap, ◌∙◌, subst, arith}
use Rattle.std.proofs.lemmas.Bool.{ltb-true, lt-ltb}
use Rattle.pile.specs.declared.receipts.LeaveReceipt.{LeaveReceipt}
use Rattle.pile.specs.Answers.{Told, refused, told}
use Rattle.pile.specs.Meaning.{Meaning}
use Rattle.pile.specs.Rules.{radix_rule, leave_rule}
use Rattle.evenness.specs.Events.{radix_of}
use Rattle.sources.specs.Answers.{Refusal}
use Rattle.sources.specs.Courses.{Given}
use Rattle.calls.specs.Book.{OpenEntry, Book}
use Rattle.calls.specs.Calls.{Call, admit, settle, withdraw, enter, leave, ask, Question, what_place, what_counts, what_radix, is_live, how_many_live, what_entry, what_key, Verdict, refuses, opens, settles, withdraws, lets_go, tells, verdict, is_slip, calls_for, settle_when, settle_open}
use Rattle.calls.specs.Steps.{Answer, refusal, source_refusal, slip, entered, withdrawn, left, place_is, counts_are, radix_is, live_is, so_many, open_is, key_is, receipt_in, Supply, gives, fails, entry_answer, leave_answer, settle_drawn, settle_supplied, radix_answer, told_to, carried_out}
use Rattle.calls.specs.Runs.{Request, World, drawn_below, supplied_by, enter_supply, supply, step_of}
use Rattle.calls.specs.Lists.{Lot, next, instead, too_large, refused_lot, lot_of, next_draw}
use Rattle.calls.specs.Laws.{MarkedBy}
use Rattle.calls.proofs.Piles.{radix_called, entry_told}
use Rattle.calls.proofs.Under.{with_draw}
use Rattle.calls.proofs.Verdicts.{RightRadix, slip_parts, settle_radix, verdict_radix}

-- What the answer to a request tells of its draw is what verdict and supply tell.
abbrev pub drawn_lot : (below : Bool) (draw : ℕ) → Lot
drawn_lot true draw = next
drawn_lot false draw = instead (gives draw)

abbrev pub settle_lot : Supply → (radix : ℕ) → Lot
settle_lot (gives draw) radix = drawn_lot (ltb draw radix) draw
settle_lot (fails number byte) radix = instead (fails number byte)

abbrev pub lot_by : Verdict → Supply → Lot
lot_by (settles entry) s = settle_lot s entry.radix
lot_by (refuses number) s = next
lot_by (opens entry) s = next
lot_by withdraws s = next
lot_by (lets_go key tag) s = next
lot_by (tells question) s = next

radix_some : (counted : Bool) (unpaired live : ℕ) → 0 < radix_of counted unpaired live
radix_some false unpaired live = omega arith
radix_some true zero live = omega arith
radix_some true (suc unpaired) live = omega arith

pub some_radix :
    (m : Meaning) (entry : OpenEntry) → radix_rule m entry.key.class ≡ told entry.radix → ltb 0 entry.radix ≡ true
some_radix m entry called =
    let is = (radix_called m entry.key.class entry.radix called).is in
    lt-ltb 0 entry.radix (subst (λ (n : ℕ). 0 < n) (sym is) (radix_some (m.counted entry.key.class) m.unpaired m.live))

module _ (b : Book) (m : Meaning) (request : Request) where
  -- a settled entry
  module _ (entry : OpenEntry) (called : radix_rule m entry.key.class ≡ told entry.radix) where
    settled_next : (draw : ℕ) → draw < entry.radix → lot_of request (settle_drawn true b m entry draw).answer ≡ next
    settled_next draw below =
        ap (λ a. lot_of request (entry_answer a)) (entry_told m entry.tag entry.key.class draw entry.radix called below).1

    drawn_next :
        (draw : ℕ) → ltb draw entry.radix ≡ true →
        lot_of request (settle_drawn (ltb draw entry.radix) b m entry draw).answer ≡ drawn_lot (ltb draw entry.radix) draw
    drawn_next draw e =
        ap (λ below. lot_of request (settle_drawn below b m entry draw).answer) e
        ∙ settled_next draw (ltb-true draw entry.radix e) ∙ ap (λ below. drawn_lot below draw) (sym e)

    -- an enter's source gave a draw, or none
    source_lot :
        (draws : List ℕ) (fault : Option Refusal) →
        let s = supplied_by entry.radix draws fault in
        lot_of request (settle_supplied s b m entry).answer ≡ settle_lot s entry.radix
    source_lot [] (Some fault) = refl
    source_lot [] None = refl
    source_lot (draw ∷ draws) fault = by (ltb draw entry.radix) refl
      where
        by :
            (below : Bool) → ltb draw entry.radix ≡ below →
            lot_of request (settle_supplied (drawn_below below draw) b m entry).answer ≡ settle_lot (drawn_below below draw) entry.radix
        by true e = drawn_next draw e
        by false e = refl

  -- a call other than settle
  module _ (other : (number : ℕ) → too_large request.call number ≡ false) where
    refused_next : (number : ℕ) → lot_of request (refusal number) ≡ next
    refused_next number = ap (λ t. refused_lot t request.draw) (other number)

    left_next : (a : Told LeaveReceipt) → lot_of request (leave_answer a) ≡ next
    left_next (refused number) = refused_next number
    left_next (told receipt) = refl

    told_next : (question : Question) → lot_of request (told_to question b m) ≡ next
    told_next (what_place i) = refl
    told_next what_counts = refl
    told_next (what_radix class) = by (radix_rule m class)
      where
        by : (called : Told ℕ) → lot_of request (radix_answer called) ≡ next
        by (refused number) = refused_next number
        by (told radix) = refl
    told_next (is_live key) = refl
    told_next how_many_live = refl
    told_next what_entry = refl
    told_next (what_key i) = refl

    other_lot :
        (v : Verdict) → RightRadix m v → lot_of request (carried_out v (gives 0) b m).answer ≡ lot_by v (gives 0)
    other_lot (refuses number) r = refused_next number
    other_lot (opens entry) r = refl
    other_lot (settles entry) r = drawn_next entry r 0 (some_radix m entry r)
    other_lot withdraws r = refl
    other_lot (lets_go key tag) r = left_next (leave_rule m tag key.class).answer
    other_lot (tells question) r = told_next question

    enter_lot :
        (v : Verdict) (course : List ℕ → Given) → RightRadix m v →
        lot_of request (carried_out v (enter_supply v course) b m).answer ≡ lot_by v (enter_supply v course)
    enter_lot (settles entry) course r =
        let given = course (entry.radix ∷ []) in source_lot entry r given.draws given.refusal
    enter_lot (refuses number) course r = refused_next number
    enter_lot (opens entry) course r = refl
    enter_lot withdraws course r = refl
    enter_lot (lets_go key tag) course r = left_next (leave_rule m tag key.class).answer
    enter_lot (tells question) course r = told_next question

settle_lots :
    (b : Book) (m : Meaning) (tag class radix draw : ℕ) (o : Option OpenEntry) →
    let request : Request = record { call = settle tag class radix; draw = draw } in
    let v = settle_open o m tag class radix in
    RightRadix m v → lot_of request (carried_out v (gives draw) b m).answer ≡ lot_by v (gives draw)
settle_lots b m tag class radix draw None r = refl
settle_lots b m tag class radix draw (Some entry) r = by (is_slip entry tag class radix) (calls_for (radix_rule m class) radix) r
  where
    request : Request
    request = record { call = settle tag class radix; draw = draw }

    drawn :
        (below : Bool) → ltb draw entry.radix ≡ below → radix_rule m entry.key.class ≡ told entry.radix →
        lot_of request (settle_drawn below b m entry draw).answer ≡ drawn_lot below draw
    drawn false e called = refl
    drawn true e called = settled_next b m request entry called draw (ltb-true draw entry.radix e)

    by :
        (slip called : Bool) → RightRadix m (settle_when slip called entry) →
        lot_of request (carried_out (settle_when slip called entry) (gives draw) b m).answer
        ≡ lot_by (settle_when slip called entry) (gives draw)
    by false called r = refl
    by true false r = refl
    by true true r = drawn (ltb draw entry.radix) refl r

pub same_lot :
    (w : World) (request : Request) →
    lot_of request (step_of w request).answer
    ≡ lot_by (verdict w.book w.pile request.call) (supply w request request.call)
same_lot w request = by request.call request.draw
  where
    by :
        (call : Call) (draw : ℕ) →
        let asked : Request = record { call = call; draw = draw } in
        lot_of asked (step_of w asked).answer ≡ lot_by (verdict w.book w.pile call) (supply w asked call)
    by (settle tag class radix) draw =
        settle_lots w.book w.pile tag class radix draw w.book.entry (settle_radix w.pile tag class radix w.book.entry)
    by (enter key) draw =
        enter_lot w.book w.pile (record { call = enter key; draw = draw }) (λ number. refl)
        (verdict w.book w.pile (enter key)) w.course (verdict_radix w.book w.pile (enter key))
    by (admit key) draw =
        other_lot w.book w.pile (record { call = admit key; draw = draw }) (λ number. refl) (verdict w.book w.pile (admit key))
        (verdict_radix w.book w.pile (admit key))
    by (withdraw tag class radix) draw =
        other_lot w.book w.pile (record { call = withdraw tag class radix; draw = draw }) (λ number. refl)
        (verdict w.book w.pile (withdraw tag class radix)) (verdict_radix w.book w.pile (withdraw tag class radix))
    by (leave key) draw =
        other_lot w.book w.pile (record { call = leave key; draw = draw }) (λ number. refl) (verdict w.book w.pile (leave key))
        (verdict_radix w.book w.pile (leave key))
    by (ask question) draw =
        other_lot w.book w.pile (record { call = ask question; draw = draw }) (λ number. refl) (verdict w.book w.pile (ask question)) tt

-- A request carried out once more, under its own draw, comes to the same.
pub own_step :
    (b : Book) (m : Meaning) (v : Verdict) (from : Supply) (draws : List ℕ) → RightRadix m v →
    carried_out v (next_draw (lot_by v from) (with_draw (receipt_in (carried_out v from b m).answer) draws)) b m ≡ carried_out v from b m
own_step b m (refuses number) from draws called = refl
own_step b m (opens entry) from draws called = refl
own_step b m (settles entry) (gives draw) draws called = by (ltb draw entry.radix) refl
  where
    by :
        (below : Bool) → ltb draw entry.radix ≡ below →
        settle_supplied (next_draw (drawn_lot below draw) (with_draw (receipt_in (settle_drawn below b m entry draw).answer) draws)) b m entry
        ≡ settle_drawn below b m entry draw
    by false e = ap (λ below. settle_drawn below b m entry draw) e
    by true e =
        ap (λ a. settle_supplied (next_draw next (with_draw (receipt_in (entry_answer a)) draws)) b m entry)
        (entry_told m entry.tag entry.key.class draw entry.radix called (ltb-true draw entry.radix e)).1
        ∙ ap (λ below. settle_drawn below b m entry draw) e
own_step b m (settles entry) (fails number byte) draws called = refl
own_step b m withdraws from draws called = refl
own_step b m (lets_go key tag) from draws called = refl
own_step b m (tells question) from draws called = refl

-- What a request's answer tells of its draw is right for every ledger. Of a call other than settle it never tells a draw:
abbrev NoDraw : Lot → Type 0
NoDraw next = Unit {0}
NoDraw (instead (gives draw)) = ⊥
NoDraw (instead (fails number byte)) = Unit {0}

other_no_draw : (request : Request) (answer : Answer) → ((number : ℕ) → too_large request.call number ≡ false) → NoDraw (lot_of request answer)
other_no_draw request (refusal number) other =
    subst (λ (large : Bool). NoDraw (refused_lot large request.draw)) (sym (other number)) tt
other_no_draw request (source_refusal number byte) other = tt
other_no_draw request (slip tag class radix) other = tt
other_no_draw request (entered receipt) other = tt
other_no_draw request withdrawn other = tt
other_no_draw request (left receipt) other = tt
other_no_draw request (place_is what) other = tt
other_no_draw request (counts_are live unpaired standing) other = tt
other_no_draw request (radix_is radix) other = tt
other_no_draw request (live_is live) other = tt
other_no_draw request (so_many live) other = tt
other_no_draw request (open_is entry) other = tt
other_no_draw request (key_is key) other = tt

no_draw_marked : (v : Verdict) (lot : Lot) → NoDraw lot → MarkedBy v lot
no_draw_marked (refuses number) lot h = tt
no_draw_marked (opens entry) lot h = tt
no_draw_marked (settles entry) next h = tt
no_draw_marked (settles entry) (instead (gives draw)) h = absurd h
no_draw_marked (settles entry) (instead (fails number byte)) h = tt
no_draw_marked withdraws lot h = tt
no_draw_marked (lets_go key tag) lot h = tt
no_draw_marked (tells question) lot h = tt

-- a settle's draw was too large for its slip's radix, which is the one of the entry that the ledger settles
settle_marked :
    (m q : Meaning) (tag class radix draw : ℕ) (o o' : Option OpenEntry) →
    MarkedBy (settle_open o q tag class radix) (lot_by (settle_open o' m tag class radix) (gives draw))
settle_marked m q tag class radix draw None o' = tt
settle_marked m q tag class radix draw (Some entry) None =
    no_draw_marked (settle_open (Some entry) q tag class radix) next tt
settle_marked m q tag class radix draw (Some entry) (Some other) =
    by (is_slip entry tag class radix) (calls_for (radix_rule q class) radix) refl
  where
    drawn :
        (below : Bool) → entry.radix ≡ radix → other.radix ≡ radix → ltb draw other.radix ≡ below →
        MarkedBy (settles entry) (drawn_lot below draw)
    drawn true same same' e = tt
    drawn false same same' e = ap (ltb draw) (same ∙ sym same') ∙ e

    by_other :
        (slip called : Bool) → entry.radix ≡ radix → is_slip other tag class radix ≡ slip →
        MarkedBy (settles entry) (lot_by (settle_when slip called other) (gives draw))
    by_other false called same s = tt
    by_other true false same s = tt
    by_other true true same s = drawn (ltb draw other.radix) same (slip_parts other tag class radix s).2 refl

    by :
        (slip called : Bool) → is_slip entry tag class radix ≡ slip →
        MarkedBy (settle_when slip called entry) (lot_by (settle_open (Some other) m tag class radix) (gives draw))
    by false called s = tt
    by true false s = tt
    by true true s =
        by_other (is_slip other tag class radix) (calls_for (radix_rule m class) radix) (slip_parts entry tag class radix s).2 refl

pub request_marked :
    (w : World) (request : Request) (b : Book) (m : Meaning) →
    MarkedBy (verdict b m request.call) (lot_of request (step_of w request).answer)
request_marked w request b m = by request.call request.draw
  where
    other :
        (call : Call) (draw : ℕ) → ((number : ℕ) → too_large call number ≡ false) →
        let asked : Request = record { call = call; draw = draw } in
        MarkedBy (verdict b m call) (lot_of asked (step_of w asked).answer)
    other call draw no-settle =
        let asked : Request = record { call = call; draw = draw } in
        no_draw_marked (verdict b m call) (lot_of asked (step_of w asked).answer) (other_no_draw asked (step_of w asked).answer no-settle)

    by :
        (call : Call) (draw : ℕ) →
        let asked : Request = record { call = call; draw = draw } in
        MarkedBy (verdict b m call) (lot_of asked (step_of w asked).answer)
    by (settle tag class radix) draw =
        subst (λ (lot : Lot). MarkedBy (settle_open b.entry m tag class radix) lot)
        (sym (same_lot w (record { call = settle tag class radix; draw = draw })))
        (settle_marked w.pile m tag class radix draw b.entry w.book.entry)
    by (admit key) draw = other (admit key) draw (λ number. refl)
    by (withdraw tag class radix) draw = other (withdraw tag class radix) draw (λ number. refl)
    by (enter key) draw = other (enter key) draw (λ number. refl)
    by (leave key) draw = other (leave key) draw (λ number. refl)
    by (ask question) draw = other (ask question) draw (λ number. refl)
