-- What a verdict looks at, and what it tells of the book and of the pile's counts.
use Rattle.std.proofs.Common.{◌≡◌, ℕ, ◌<◌, Bool, true, false, ◌&&◌, eqb, ltb, List, length, get_or, is_some, Some, None, Option, sym, refl, ap, ◌∙◌, MatchOption}
use Rattle.std.proofs.lemmas.Bool.{ltb-true, eqb-true, and_parts, false≢true}
use Rattle.pile.specs.Answers.{Told, refused, told, Place}
use Rattle.pile.specs.Meaning.{Meaning}
use Rattle.pile.specs.Rules.{radix_when, radix_rule}
use Rattle.calls.specs.Book.{KeyView, OpenEntry, Book, live_count, holds_form, tag_of, free_tag}
use Rattle.calls.specs.Calls.{Call, admit, settle, withdraw, enter, leave, ask, Verdict, refuses, opens, settles, withdraws, lets_go, tells, verdict, admit_radix, admit_room, admit_live, admit_open, admit_lawful, admit_verdict, is_slip, calls_for, settle_when, settle_open, withdraw_when, withdraw_open, enter_verdict, leave_counted, leave_slot, leave_live, leave_open, leave_lawful}
use Rattle.calls.specs.Kept.{Openable, EntryFits}
use Rattle.calls.proofs.Searches.{Found, tag_of_finds, free_tag_finds}

-- the same pile with other places
abbrev pub placed : Meaning → List Place → Meaning
placed m ps =
    record { bound = m.bound; counted = m.counted; leaves = m.leaves; live = m.live; unpaired = m.unpaired; places = ps }

-- a radix and a verdict do not depend on the places
pub radix_placed : (m : Meaning) (ps : List Place) (class : ℕ) → radix_rule (placed m ps) class ≡ radix_rule m class
radix_placed m ps class = by (m.counted class) (eqb m.unpaired 0) (ltb m.live 1024)
  where
    by : (k p r : Bool) → radix_when k p r (placed m ps) ≡ radix_when k p r m
    by false p r = refl
    by true true true = refl
    by true true false = refl
    by true false r = refl

pub verdict_placed : (b : Book) (m : Meaning) (ps : List Place) (call : Call) → verdict b (placed m ps) call ≡ verdict b m call
verdict_placed b m ps (admit key) = ap (λ called. admit_lawful key.lawful b called key) (radix_placed m ps key.class)
verdict_placed b m ps (settle tag class radix) = by b.entry
  where
    by : (o : Option OpenEntry) → settle_open o (placed m ps) tag class radix ≡ settle_open o m tag class radix
    by None = refl
    by (Some entry) = ap (λ called. settle_when (is_slip entry tag class radix) (calls_for called radix) entry) (radix_placed m ps class)
verdict_placed b m ps (withdraw tag class radix) = refl
verdict_placed b m ps (enter key) =
    ap (λ called. enter_verdict (admit_lawful key.lawful b called key)) (radix_placed m ps key.class)
verdict_placed b m ps (leave key) = by key.lawful
  where
    slot : (o : Option KeyView) (tag : ℕ) → leave_slot o tag (placed m ps) ≡ leave_slot o tag m
    slot None tag = refl
    slot (Some held) tag = refl

    live : (f : Option ℕ) → leave_live f b (placed m ps) ≡ leave_live f b m
    live None = refl
    live (Some tag) = slot (get_or b.slots tag None) tag

    open' : (o : Option OpenEntry) → leave_open o b (placed m ps) key ≡ leave_open o b m key
    open' (Some entry) = refl
    open' None = live (tag_of b.slots key)

    by : (lawful : Bool) → leave_lawful lawful b (placed m ps) key ≡ leave_lawful lawful b m key
    by false = refl
    by true = open' b.entry
verdict_placed b m ps (ask question) = refl

-- what each verdict tells
pub record Opens (b : Book) (m : Meaning) (entry : OpenEntry) : Type 0 where
  pub none_open : b.entry ≡ None
  pub openable : Openable b.slots entry
  pub called : radix_rule m entry.key.class ≡ told entry.radix

pub record Settles (b : Book) (m : Meaning) (entry : OpenEntry) : Type 0 where
  pub openable : Openable b.slots entry
  pub called : radix_rule m entry.key.class ≡ told entry.radix

pub record LetsGo (b : Book) (m : Meaning) (key : KeyView) (tag : ℕ) : Type 0 where
  pub none_open : b.entry ≡ None
  pub held : get_or b.slots tag None ≡ Some key
  pub takes : m.counted key.class ≡ true → (m.leaves ≡ true) × (0 < m.live)

abbrev pub Right : Book → Meaning → Verdict → Type 0
Right b m (refuses number) = Unit {0}
Right b m (opens entry) = Opens b m entry
Right b m (settles entry) = Settles b m entry
Right b m withdraws = Unit {0}
Right b m (lets_go key tag) = LetsGo b m key tag
Right b m (tells question) = Unit {0}

-- an entry that is settled has the radix that the pile calls for, on every book
abbrev pub RightRadix : Meaning → Verdict → Type 0
RightRadix m (refuses number) = Unit {0}
RightRadix m (opens entry) = Unit {0}
RightRadix m (settles entry) = radix_rule m entry.key.class ≡ told entry.radix
RightRadix m withdraws = Unit {0}
RightRadix m (lets_go key tag) = Unit {0}
RightRadix m (tells question) = Unit {0}

right_called : (b : Book) (m : Meaning) (v : Verdict) → Right b m v → RightRadix m v
right_called b m (refuses number) r = tt
right_called b m (opens entry) r = tt
right_called b m (settles entry) r = r.called
right_called b m withdraws r = tt
right_called b m (lets_go key tag) r = tt
right_called b m (tells question) r = tt

pub admit_right : (b : Book) (m : Meaning) (key : KeyView) → Right b m (admit_verdict b m key)
admit_right b m key = by key.lawful
  where
    by_radix :
        (called : Told ℕ) (tag : ℕ) → radix_rule m key.class ≡ called → b.entry ≡ None →
        ((slot : ℕ) → holds_form key.form (get_or b.slots slot None) ≡ false) → tag < length b.slots →
        get_or b.slots tag None ≡ None → Right b m (admit_radix called key tag)
    by_radix (refused number) tag e none off l free = tt
    by_radix (told radix) tag e none off l free =
        record { none_open = none; openable = record { below = l; free = free; not_live = off }; called = e }

    by_room :
        (room : Bool) (found : Option ℕ) → b.entry ≡ None →
        ((slot : ℕ) → holds_form key.form (get_or b.slots slot None) ≡ false) →
        MatchOption found ((slot : ℕ) → slot < length b.slots → is_some (get_or b.slots slot None) ≡ true)
        (λ tag. (tag < length b.slots) × (get_or b.slots tag None ≡ None)) →
        Right b m (admit_room room found (radix_rule m key.class) key)
    by_room false found none off free = tt
    by_room true None none off free = tt
    by_room true (Some tag) none off free = by_radix (radix_rule m key.class) tag refl none off free.0 free.1

    by_live :
        (live : Option ℕ) → b.entry ≡ None →
        Found (holds_form key.form) b.slots live ((slot : ℕ) → holds_form key.form (get_or b.slots slot None) ≡ false) →
        Right b m (admit_live live b (radix_rule m key.class) key)
    by_live (Some tag) none off = tt
    by_live None none off =
        by_room (ltb (live_count b.slots) (length b.slots)) (free_tag b.slots key) none off (free_tag_finds b.slots key)

    by_open : (o : Option OpenEntry) → b.entry ≡ o → Right b m (admit_open o b (radix_rule m key.class) key)
    by_open (Some entry) e = tt
    by_open None e = by_live (tag_of b.slots key) e (tag_of_finds b.slots key)

    by : (lawful : Bool) → Right b m (admit_lawful lawful b (radix_rule m key.class) key)
    by false = tt
    by true = by_open b.entry refl

-- only settles and enters can take a draw
abbrev pub TakesNone : Verdict → Type 0
TakesNone (refuses number) = Unit {0}
TakesNone (opens entry) = Unit {0}
TakesNone (settles entry) = ⊥
TakesNone withdraws = Unit {0}
TakesNone (lets_go key tag) = Unit {0}
TakesNone (tells question) = Unit {0}

pub admit_takes_none : (b : Book) (m : Meaning) (key : KeyView) → TakesNone (admit_verdict b m key)
admit_takes_none b m key = by key.lawful
  where
    by_radix : (called : Told ℕ) (tag : ℕ) → TakesNone (admit_radix called key tag)
    by_radix (refused number) tag = tt
    by_radix (told radix) tag = tt

    by_room : (room : Bool) (free : Option ℕ) → TakesNone (admit_room room free (radix_rule m key.class) key)
    by_room false free = tt
    by_room true None = tt
    by_room true (Some tag) = by_radix (radix_rule m key.class) tag

    by_live : (live : Option ℕ) → TakesNone (admit_live live b (radix_rule m key.class) key)
    by_live (Some tag) = tt
    by_live None = by_room (ltb (live_count b.slots) (length b.slots)) (free_tag b.slots key)

    by_open : (o : Option OpenEntry) → TakesNone (admit_open o b (radix_rule m key.class) key)
    by_open (Some entry) = tt
    by_open None = by_live (tag_of b.slots key)

    by : (lawful : Bool) → TakesNone (admit_lawful lawful b (radix_rule m key.class) key)
    by false = tt
    by true = by_open b.entry

pub withdraw_takes_none : (tag class radix : ℕ) (o : Option OpenEntry) → TakesNone (withdraw_open o tag class radix)
withdraw_takes_none tag class radix None = tt
withdraw_takes_none tag class radix (Some entry) = by (is_slip entry tag class radix)
  where
    by : (slip : Bool) → TakesNone (withdraw_when slip)
    by false = tt
    by true = tt

pub leave_takes_none : (b : Book) (m : Meaning) (key : KeyView) → TakesNone (leave_lawful key.lawful b m key)
leave_takes_none b m key = by key.lawful
  where
    by_counted : (held : KeyView) (tag : ℕ) (counted leaves some_live : Bool) → TakesNone (leave_counted counted leaves some_live held tag)
    by_counted held tag false leaves some_live = tt
    by_counted held tag true false some_live = tt
    by_counted held tag true true false = tt
    by_counted held tag true true true = tt

    by_slot : (slot : Option KeyView) (tag : ℕ) → TakesNone (leave_slot slot tag m)
    by_slot None tag = tt
    by_slot (Some held) tag = by_counted held tag (m.counted held.class) m.leaves (ltb 0 m.live)

    by_live : (live : Option ℕ) → TakesNone (leave_live live b m)
    by_live None = tt
    by_live (Some tag) = by_slot (get_or b.slots tag None) tag

    by_open : (o : Option OpenEntry) → TakesNone (leave_open o b m key)
    by_open (Some entry) = tt
    by_open None = by_live (tag_of b.slots key)

    by : (lawful : Bool) → TakesNone (leave_lawful lawful b m key)
    by false = tt
    by true = by_open b.entry

pub enter_right : (b : Book) (m : Meaning) (v : Verdict) → Right b m v → Right b m (enter_verdict v)
enter_right b m (refuses number) h = tt
enter_right b m (opens entry) h = record { openable = h.openable; called = h.called }
enter_right b m (settles entry) h = h
enter_right b m withdraws h = tt
enter_right b m (lets_go key tag) h = h
enter_right b m (tells question) h = tt

calls_told : (called : Told ℕ) (radix : ℕ) → calls_for called radix ≡ true → called ≡ told radix
calls_told (refused number) radix e = absurd (false≢true e)
calls_told (told n) radix e = ap told (eqb-true n radix e)

-- a slip of the entry has its tag, class and radix
pub slip_parts :
    (entry : OpenEntry) (tag class radix : ℕ) → is_slip entry tag class radix ≡ true →
    (entry.tag ≡ tag) × (entry.key.class ≡ class) × (entry.radix ≡ radix)
slip_parts entry tag class radix e =
    let parts = and_parts (eqb entry.tag tag && eqb entry.key.class class) (eqb entry.radix radix) e in
    let more = and_parts (eqb entry.tag tag) (eqb entry.key.class class) parts.0 in (
      eqb-true entry.tag tag more.0,
      eqb-true entry.key.class class more.1,
      eqb-true entry.radix radix parts.1,
    )

pub settle_radix : (m : Meaning) (tag class radix : ℕ) (o : Option OpenEntry) → RightRadix m (settle_open o m tag class radix)
settle_radix m tag class radix None = tt
settle_radix m tag class radix (Some entry) =
    by (is_slip entry tag class radix) (calls_for (radix_rule m class) radix) refl refl
  where
    by :
        (slip called : Bool) → is_slip entry tag class radix ≡ slip → calls_for (radix_rule m class) radix ≡ called →
        RightRadix m (settle_when slip called entry)
    by false called s c = tt
    by true false s c = tt
    by true true s c =
        let parts = slip_parts entry tag class radix s in
        ap (radix_rule m) parts.1 ∙ calls_told (radix_rule m class) radix c ∙ ap told (sym parts.2)

settle_right :
    (b : Book) (m : Meaning) (tag class radix : ℕ) (o : Option OpenEntry) → EntryFits b.slots o →
    Right b m (settle_open o m tag class radix)
settle_right b m tag class radix None fits = tt
settle_right b m tag class radix (Some entry) fits =
    by (is_slip entry tag class radix) (calls_for (radix_rule m class) radix) (settle_radix m tag class radix (Some entry))
  where
    by : (slip called : Bool) → RightRadix m (settle_when slip called entry) → Right b m (settle_when slip called entry)
    by false called r = tt
    by true false r = tt
    by true true r = record { openable = fits; called = r }

withdraw_right : (b : Book) (m : Meaning) (tag class radix : ℕ) (o : Option OpenEntry) → Right b m (withdraw_open o tag class radix)
withdraw_right b m tag class radix None = tt
withdraw_right b m tag class radix (Some entry) = by (is_slip entry tag class radix)
  where
    by : (slip : Bool) → Right b m (withdraw_when slip)
    by false = tt
    by true = tt

leave_right : (b : Book) (m : Meaning) (key : KeyView) → Right b m (leave_lawful key.lawful b m key)
leave_right b m key = by key.lawful
  where
    by_counted :
        (held : KeyView) (tag : ℕ) (counted leaves some_live : Bool) → b.entry ≡ None → get_or b.slots tag None ≡ Some held →
        m.counted held.class ≡ counted → m.leaves ≡ leaves → ltb 0 m.live ≡ some_live →
        Right b m (leave_counted counted leaves some_live held tag)
    by_counted held tag false leaves some_live none at c l n =
        record { none_open = none; held = at; takes = λ yes'. absurd (false≢true (sym c ∙ yes')) }
    by_counted held tag true false some_live none at c l n = tt
    by_counted held tag true true false none at c l n = tt
    by_counted held tag true true true none at c l n =
        record { none_open = none; held = at; takes = λ yes'. (l, ltb-true 0 m.live n) }

    by_slot :
        (slot : Option KeyView) (tag : ℕ) → b.entry ≡ None → get_or b.slots tag None ≡ slot → Right b m (leave_slot slot tag m)
    by_slot None tag none at = tt
    by_slot (Some held) tag none at = by_counted held tag (m.counted held.class) m.leaves (ltb 0 m.live) none at refl refl refl

    by_live : (live : Option ℕ) → b.entry ≡ None → Right b m (leave_live live b m)
    by_live None none = tt
    by_live (Some tag) none = by_slot (get_or b.slots tag None) tag none refl

    by_open : (o : Option OpenEntry) → b.entry ≡ o → Right b m (leave_open o b m key)
    by_open (Some entry) e = tt
    by_open None e = by_live (tag_of b.slots key) e

    by : (lawful : Bool) → Right b m (leave_lawful lawful b m key)
    by false = tt
    by true = by_open b.entry refl

-- every verdict tells what it should, on a book whose open entry fits
pub verdict_right : (b : Book) (m : Meaning) (call : Call) → EntryFits b.slots b.entry → Right b m (verdict b m call)
verdict_right b m (admit key) fits = admit_right b m key
verdict_right b m (settle tag class radix) fits = settle_right b m tag class radix b.entry fits
verdict_right b m (withdraw tag class radix) fits = withdraw_right b m tag class radix b.entry
verdict_right b m (enter key) fits = enter_right b m (admit_verdict b m key) (admit_right b m key)
verdict_right b m (leave key) fits = leave_right b m key
verdict_right b m (ask question) fits = tt

pub verdict_radix : (b : Book) (m : Meaning) (call : Call) → RightRadix m (verdict b m call)
verdict_radix b m (admit key) = right_called b m (admit_verdict b m key) (admit_right b m key)
verdict_radix b m (settle tag class radix) = settle_radix m tag class radix b.entry
verdict_radix b m (withdraw tag class radix) = right_called b m (withdraw_open b.entry tag class radix) (withdraw_right b m tag class radix b.entry)
verdict_radix b m (enter key) =
    right_called b m (enter_verdict (admit_verdict b m key)) (enter_right b m (admit_verdict b m key) (admit_right b m key))
verdict_radix b m (leave key) = right_called b m (leave_lawful key.lawful b m key) (leave_right b m key)
verdict_radix b m (ask question) = tt
