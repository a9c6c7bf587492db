-- A log that is cut short is never accepted.
use Rattle.std.proofs.Common.{◌≡◌, ℕ, zero, suc, ◌+◌, ◌*◌, ◌<◌, ◌≤◌, Bool, true, false, eqb, ltb, leb, ◌⊎◌, List, ◌++◌, length, get_or, take, drop, Some, None, sym, refl, ap, ◌∙◌, subst, inl, inr, ⊎_elim, append_assoc, arith}
use Rattle.std.specs.Str.{bytes_eq}
use Rattle.std.proofs.lemmas.List.{length-append, take-append-le, drop-append-le, get_or_append_left}
use Rattle.std.proofs.lemmas.Bool.{leb-true, le-leb, eqb-true}
use Rattle.calls.specs.Book.{KeyView}
use Rattle.calls.specs.Calls.{enter, leave}
use Rattle.calls.specs.Steps.{Answer, refusal, source_refusal, slip, entered, withdrawn, left, place_is, counts_are, radix_is, live_is, so_many, open_is, key_is, Step}
use Rattle.calls.proofs.Searches.{none_some}
use Rattle.replays.specs.Happenings.{Happening, was_refused, refusal_in}
use Rattle.replays.specs.Kinds.{KeyRead, found, key_refused, cut_short, Kind, LawfulKind}
use Rattle.replays.specs.Laws.{Accepted, IsRefused}
use Rattle.replays.specs.Marks.{mark_EN, mark_LV, mark_RD, mark_ZZ, marked}
use Rattle.replays.specs.Records.{LogRecord, enters, leaves, reads, ends, unread, keyed, by_mark, by_whole_mark, record_in, size}
use Rattle.replays.specs.Refusals.{Layer, in_key, in_log, Refusal, plain}
use Rattle.replays.specs.Replays.{State, start, enter_turn, leave_turn, read_turn, end_turn, call_step, turn, then_on, happens_in, happens_from, happens_opened, log_kind, kind_if, history, Room, room_enough, sizes_pass, outcome_when, outcome}
use Rattle.replays.specs.Settings.{Opened, opening, setting_in}
use Rattle.replays.proofs.Opening.{OpeningComes, opening_refused, opening_cut, opening_unknown, opening_passed, opening_comes}
use Rattle.replays.proofs.Reading.{Stands, stands_EN, stands_LV, stands_RD, stands_ZZ, stands_6, stands_23, stands_24, stands}

-- what a turn can be: a refusal, or something after which the replay goes on
abbrev Refuses : Happening → Type 0
Refuses h = (r : Refusal) × (h ≡ was_refused r)

abbrev GoesOn : Happening → Type 0
GoesOn h = (later : List Happening) → refusal_in (then_on h later) ≡ refusal_in later

enter_either : (a : Answer) (key : KeyView) (byte : ℕ) (s : State) (st : Step) → Refuses (enter_turn a key byte s st).happened ⊎ GoesOn (enter_turn a key byte s st).happened
enter_either (entered receipt) key byte s st = inr (λ later. refl)
enter_either (refusal number) key byte s st = inl (_, refl)
enter_either (source_refusal number tape_byte) key byte s st = inl (_, refl)
enter_either (slip tag class radix) key byte s st = inl (_, refl)
enter_either withdrawn key byte s st = inl (_, refl)
enter_either (left receipt) key byte s st = inl (_, refl)
enter_either (place_is what) key byte s st = inl (_, refl)
enter_either (counts_are live unpaired standing) key byte s st = inl (_, refl)
enter_either (radix_is radix) key byte s st = inl (_, refl)
enter_either (live_is live) key byte s st = inl (_, refl)
enter_either (so_many live) key byte s st = inl (_, refl)
enter_either (open_is entry) key byte s st = inl (_, refl)
enter_either (key_is what) key byte s st = inl (_, refl)

leave_either : (a : Answer) (key : KeyView) (byte : ℕ) (s : State) (st : Step) → Refuses (leave_turn a key byte s st).happened ⊎ GoesOn (leave_turn a key byte s st).happened
leave_either (left receipt) key byte s st = inr (λ later. refl)
leave_either (refusal number) key byte s st = inl (_, refl)
leave_either (source_refusal number tape_byte) key byte s st = inl (_, refl)
leave_either (entered receipt) key byte s st = inl (_, refl)
leave_either (slip tag class radix) key byte s st = inl (_, refl)
leave_either withdrawn key byte s st = inl (_, refl)
leave_either (place_is what) key byte s st = inl (_, refl)
leave_either (counts_are live unpaired standing) key byte s st = inl (_, refl)
leave_either (radix_is radix) key byte s st = inl (_, refl)
leave_either (live_is live) key byte s st = inl (_, refl)
leave_either (so_many live) key byte s st = inl (_, refl)
leave_either (open_is entry) key byte s st = inl (_, refl)
leave_either (key_is what) key byte s st = inl (_, refl)

read_either : (b : Bool) (byte : ℕ) (s : State) → Refuses (read_turn b byte s).happened ⊎ GoesOn (read_turn b byte s).happened
read_either true byte s = inr (λ later. refl)
read_either false byte s = inl (_, refl)

-- a record that neither ends the log nor fails to be one
abbrev Changes : LogRecord → Type 0
Changes (enters key) = Unit {0}
Changes (leaves key) = Unit {0}
Changes reads = Unit {0}
Changes ends = ⊥
Changes (unread layer number) = ⊥

turn_either : (tape : List ℕ) (byte more : ℕ) (s : State) (what : LogRecord) → Changes what → Refuses (turn tape byte more s what).happened ⊎ GoesOn (turn tape byte more s what).happened
turn_either tape byte more s (enters key) c = enter_either (call_step tape s (enter key)).answer key byte s (call_step tape s (enter key))
turn_either tape byte more s (leaves key) c = leave_either (call_step tape s (leave key)).answer key byte s (call_step tape s (leave key))
turn_either tape byte more s reads c = read_either (ltb s.readings 64) byte s
turn_either tape byte more s ends c = absurd c
turn_either tape byte more s (unread layer number) c = absurd c

-- the record that a front of the bytes begins with: none, or the same
abbrev Unread : LogRecord → Type 0
Unread what = (layer : Layer) × (number : ℕ) × (what ≡ unread layer number)

module _ (kind : Kind) (lawful : LawfulKind kind) where
  stays : (bytes rest : List ℕ) (key : KeyView) → kind.reads bytes ≡ found key → kind.reads (bytes ++ rest) ≡ found key
  stays bytes rest key e =
      ap (λ b. kind.reads (b ++ rest)) (lawful.begins bytes key e)
      ∙ ap kind.reads (append_assoc key.form (drop (length key.form) bytes) rest)
      ∙ lawful.back bytes key (drop (length key.form) bytes ++ rest) e

  keyed_front :
      (what : KeyView → LogRecord) (bytes rest : List ℕ) (r : KeyRead) → kind.reads bytes ≡ r →
      Unread (keyed what r) ⊎ (keyed what (kind.reads (bytes ++ rest)) ≡ keyed what r)
  keyed_front what bytes rest (found key) e = inr (ap (keyed what) (stays bytes rest key e))
  keyed_front what bytes rest (key_refused number) e = inl (in_key, number, refl)
  keyed_front what bytes rest cut_short e = inl (in_log, 23, refl)

  mark_front :
      (en lv rd zz : Bool) (bytes rest : List ℕ) →
      Unread (by_mark en lv rd zz kind bytes) ⊎ (by_mark en lv rd zz kind (bytes ++ rest) ≡ by_mark en lv rd zz kind bytes)
  mark_front true lv rd zz bytes rest = keyed_front enters bytes rest (kind.reads bytes) refl
  mark_front false true rd zz bytes rest = keyed_front leaves bytes rest (kind.reads bytes) refl
  mark_front false false true zz bytes rest = inr refl
  mark_front false false false true bytes rest = inr refl
  mark_front false false false false bytes rest = inl (in_log, 24, refl)

  whole_front :
      (front rest : List ℕ) (b : Bool) → leb 2 (length front) ≡ b →
      Unread (by_whole_mark b kind front) ⊎ (record_in kind (front ++ rest) ≡ by_whole_mark b kind front)
  whole_front front rest false e = inl (in_log, 23, refl)
  whole_front front rest true e =
      let two = leb-true 2 (length front) e in
      let whole : leb 2 (length (front ++ rest)) ≡ true = le-leb 2 (length (front ++ rest)) (omega (arith, length-append front rest)) in
      let mark : take 2 (front ++ rest) ≡ take 2 front = take-append-le 2 front rest two in
      let fields : drop 2 (front ++ rest) ≡ drop 2 front ++ rest = drop-append-le 2 front rest two in
      let same : record_in kind (front ++ rest) ≡ by_mark (marked mark_EN front) (marked mark_LV front) (marked mark_RD front) (marked mark_ZZ front) kind (drop 2 front ++ rest) =
      ap (λ b. by_whole_mark b kind (front ++ rest)) whole
      ∙ ap (λ m. by_mark (bytes_eq mark_EN m) (bytes_eq mark_LV m) (bytes_eq mark_RD m) (bytes_eq mark_ZZ m) kind (drop 2 (front ++ rest))) mark
      ∙ ap (λ f. by_mark (marked mark_EN front) (marked mark_LV front) (marked mark_RD front) (marked mark_ZZ front) kind f) fields
      in
      ⊎_elim (λ u. inl u) (λ q. inr (same ∙ q))
      (mark_front (marked mark_EN front) (marked mark_LV front) (marked mark_RD front) (marked mark_ZZ front) (drop 2 front) rest)

  -- by induction over the records: the longer log is accepted, the shorter one refused
  module _ (tape other rest : List ℕ) (some : 0 < length rest) where
    abbrev RefusedSomehow : List Happening → Type 0
    RefusedSomehow h = (r : Refusal) × (refusal_in h ≡ Some r)

    refused_first : (h : Happening) (later : List Happening) → Refuses h → RefusedSomehow (then_on h later)
    refused_first h later u = (u.0, ap (λ x. refusal_in (then_on x later)) u.1)

    on_both :
        (long short : Happening) (long-later short-later : List Happening) → Refuses long ⊎ GoesOn long → Refuses short ⊎ GoesOn short →
        refusal_in (then_on long long-later) ≡ None → (refusal_in long-later ≡ None → RefusedSomehow short-later) →
        RefusedSomehow (then_on short short-later)
    unfolding refused_first
    on_both long short long-later short-later (inl u) b e ih =
        absurd (none_some u.0 (sym e ∙ (refused_first long long-later u).1))
    on_both long short long-later short-later (inr g) (inl u) e ih = refused_first short short-later u
    on_both long short long-later short-later (inr g) (inr f) e ih =
        let next = ih (sym (g long-later) ∙ e) in (next.0, f short-later ∙ next.1)

    end_refused : (more byte : ℕ) (b t : Bool) (s : State) (later : List Happening) → eqb more 2 ≡ b → refusal_in (then_on (end_turn b t byte s).happened later) ≡ None → more ≡ 2
    end_refused more byte true t s later e q = eqb-true more 2 e
    end_refused more byte false t s later e q = absurd (none_some _ (sym q))

    size_fits : (front : List ℕ) (what : LogRecord) → Changes what → Stands kind front what → size what ≤ length front
    size_fits front _ c (stands_EN key r two) = two
    size_fits front _ c (stands_LV key r two) = two
    size_fits front _ c (stands_RD two) = two
    size_fits front _ c (stands_ZZ two) = absurd c
    size_fits front _ c (stands_6 two) = absurd c
    size_fits front _ c stands_23 = absurd c
    size_fits front _ c (stands_24 two) = absurd c

    -- the same record begins both
    module _ (most most' : ℕ) (ih : (byte byte' : ℕ) (s s' : State) (front : List ℕ) → refusal_in (happens_in kind tape most byte (front ++ rest) s) ≡ None → RefusedSomehow (happens_in kind other most' byte' front s')) (byte byte' : ℕ) (s s' : State) (front : List ℕ) where
      same_change :
          (what : LogRecord) → Changes what → Stands kind front what →
          refusal_in (then_on (turn tape byte (length (front ++ rest)) s what).happened (happens_in kind tape most (byte + size what) (drop (size what) (front ++ rest)) (turn tape byte (length (front ++ rest)) s what).after)) ≡ None →
          RefusedSomehow (then_on (turn other byte' (length front) s' what).happened (happens_in kind other most' (byte' + size what) (drop (size what) front) (turn other byte' (length front) s' what).after))
      same_change what c st e =
          on_both (turn tape byte (length (front ++ rest)) s what).happened (turn other byte' (length front) s' what).happened _ _
          (turn_either tape byte (length (front ++ rest)) s what c) (turn_either other byte' (length front) s' what c) e
          (λ q.
          ih (byte + size what) (byte' + size what) _ _ (drop (size what) front)
          (ap
          (λ l. refusal_in (happens_in kind tape most (byte + size what) l (turn tape byte (length (front ++ rest)) s what).after))
          (sym (drop-append-le (size what) front rest (size_fits front what c st))) ∙ q))

      same_record :
          (what : LogRecord) → Stands kind front what →
          refusal_in (then_on (turn tape byte (length (front ++ rest)) s what).happened (happens_in kind tape most (byte + size what) (drop (size what) (front ++ rest)) (turn tape byte (length (front ++ rest)) s what).after)) ≡ None →
          RefusedSomehow (then_on (turn other byte' (length front) s' what).happened (happens_in kind other most' (byte' + size what) (drop (size what) front) (turn other byte' (length front) s' what).after))
      same_record (enters key) st e = same_change (enters key) tt st e
      same_record (leaves key) st e = same_change (leaves key) tt st e
      same_record reads st e = same_change reads tt st e
      same_record ends (stands_ZZ two) e =
          let end = end_refused (length (front ++ rest)) byte (eqb (length (front ++ rest)) 2) (eqb (6 * s.draws) (length tape)) s _ refl e in
          let z : ⊥ = omega (arith, length-append front rest) in absurd z
      same_record (unread layer number) st e = absurd (none_some _ (sym e))

    shorter :
        (most most' byte byte' : ℕ) (s s' : State) (front : List ℕ) → refusal_in (happens_in kind tape most byte (front ++ rest) s) ≡ None →
        RefusedSomehow (happens_in kind other most' byte' front s')
    shorter most zero byte byte' s s' front e = (plain in_log 23 byte', refl)
    shorter zero (suc most') byte byte' s s' front e = absurd (none_some _ (sym e))
    shorter (suc most) (suc most') byte byte' s s' front e =
        ⊎_elim
        (λ u. (
          plain u.0 u.1 byte',
          ap
              (λ what. refusal_in (then_on (turn other byte' (length front) s' what).happened (happens_in kind other most' (byte' + size what) (drop (size what) front) (turn other byte' (length front) s' what).after)))
              u.2,
        ))
        (λ q.
        same_record most most' (shorter most most') byte byte' s s' front (record_in kind front) (stands kind lawful front)
        (ap
        (λ what. refusal_in (then_on (turn tape byte (length (front ++ rest)) s what).happened (happens_in kind tape most (byte + size what) (drop (size what) (front ++ rest)) (turn tape byte (length (front ++ rest)) s what).after)))
        (sym q) ∙ e))
        (whole_front front rest (leb 2 (length front)) refl)

-- a whole log
abbrev RefusedSo : List Happening → Type 0
RefusedSo h = (r : Refusal) × (refusal_in h ≡ Some r)

module _ (front rest tape other : List ℕ) (some : 0 < length rest) where
  short_opened :
      (kind : Kind) → LawfulKind kind → log_kind (front ++ rest) ≡ kind → (s : State) →
      refusal_in (happens_from kind tape 8 (drop 8 (front ++ rest)) s) ≡ None →
      (o : Opened) → OpeningComes front o → RefusedSo (happens_opened o front other)
  short_opened kind lawful is s e _ (opening_refused number some few) = (_, refl)
  short_opened kind lawful is s e _ opening_cut = (_, refl)
  short_opened kind lawful is s e _ (opening_unknown some) = (_, refl)
  short_opened kind lawful is s e _ (opening_passed kind' lawful' is' whole passed) =
      let byte : get_or (front ++ rest) 2 0 ≡ get_or front 2 0 = get_or_append_left front rest 0 2 (omega arith) in
      let same : kind ≡ kind' = sym is ∙ ap (λ b. kind_if (eqb b 78)) byte ∙ is' in
      subst (λ (k : Kind). RefusedSo (happens_from k other 8 (drop 8 front) (start (setting_in front)))) same
      (shorter kind lawful tape other rest some (length (drop 8 (front ++ rest))) (length (drop 8 front)) 8 8 s (start (setting_in front)) (drop 8 front)
      (ap (λ l. refusal_in (happens_in kind tape (length (drop 8 (front ++ rest))) 8 l s)) (sym (drop-append-le 8 front rest whole)) ∙ e))

  short_log :
      (o : Opened) → OpeningComes (front ++ rest) o → refusal_in (happens_opened o (front ++ rest) tape) ≡ None →
      RefusedSo (history front other)
  short_log _ (opening_refused number some few) e = absurd (none_some _ (sym e))
  short_log _ opening_cut e = absurd (none_some _ (sym e))
  short_log _ (opening_unknown some) e = absurd (none_some _ (sym e))
  short_log _ (opening_passed kind lawful is whole passed) e =
      short_opened kind lawful is (start (setting_in (front ++ rest))) e (opening front) (opening_comes front)

  short_outcome : (enough sizes : Bool) → RefusedSo (history front other) → (r : Refusal) × ((outcome_when enough sizes front other).refused ≡ Some r)
  short_outcome false sizes h = (_, refl)
  short_outcome true false h = (_, refl)
  short_outcome true true h = h

  long_outcome : (enough sizes : Bool) → (outcome_when enough sizes (front ++ rest) tape).refused ≡ None → refusal_in (history (front ++ rest) tape) ≡ None
  long_outcome false sizes e = absurd (none_some _ (sym e))
  long_outcome true false e = absurd (none_some _ (sym e))
  long_outcome true true e = e

pub cut_is_refused :
    (room other-room : Room) (log tape : List ℕ) → Accepted (outcome room log tape) → (front rest : List ℕ) → log ≡ front ++ rest →
    0 < length rest → (other : List ℕ) → IsRefused (outcome other-room front other)
cut_is_refused room other-room log tape accepted front rest e some other =
    let long : (outcome room (front ++ rest) tape).refused ≡ None = subst (λ (l : List ℕ). (outcome room l tape).refused ≡ None) e accepted in
    short_outcome front rest tape other some (room_enough other-room) (sizes_pass front other)
    (short_log front rest tape other some (opening (front ++ rest)) (opening_comes (front ++ rest))
    (long_outcome front rest tape other some (room_enough room) (sizes_pass (front ++ rest) tape) long))
