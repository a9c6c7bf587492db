-- What comes of an enter, where a replay stands between two records.
use Rattle.std.proofs.Common.{◌≡◌, ℕ, ◌+◌, ◌*◌, ◌<◌, ◌≤◌, Bool, true, false, eqb, ltb, leb, List, length, get_or, drop, is_some, Some, None, Option, sym, refl, subst, arith, MatchOption}
use Rattle.std.proofs.lemmas.Bool.{ltb-true, ltb-false, lt-ltb, eqb-false, le-leb, and_from}
use Rattle.pile.specs.declared.receipts.EntryReceipt.{EntryReceipt}
use Rattle.pile.specs.Answers.{Told, refused, told}
use Rattle.pile.specs.Meaning.{Meaning, Sound}
use Rattle.pile.specs.Rules.{radix_rule, radix_when, receipt, entry_rule}
use Rattle.sources.specs.Answers.{Answer as SourceAnswer, lawful_radix}
use Rattle.sources.specs.Courses.{before, nothing}
use Rattle.sources.specs.Tapes.{read_record, tape_answer, tape_course}
use Rattle.calls.specs.Book.{KeyView, OpenEntry, Book, live_count, holds_form, tag_of, free_tag}
use Rattle.calls.specs.Calls.{Verdict, refuses, opens, enter_verdict, admit_radix, admit_room, admit_live, admit_open, admit_lawful, admit_verdict}
use Rattle.calls.specs.Kept.{Openable}
use Rattle.calls.specs.Runs.{enter_supply, supplied, drawn_below}
use Rattle.calls.specs.Steps.{Step, settled, carried_out, settle_drawn, settle_supplied, entry_answer}
use Rattle.calls.proofs.Piles.{entry_told, same_told, not_refused}
use Rattle.calls.proofs.Searches.{Found, tag_of_finds, free_tag_finds}
use Rattle.replays.specs.Happenings.{came_in}
use Rattle.replays.specs.Kinds.{Kind}
use Rattle.replays.specs.Records.{enters}
use Rattle.replays.specs.Refusals.{in_roster, plain, by_source}
use Rattle.replays.specs.Replays.{State, Turn, refused_turn, enter_turn, turn}
use Rattle.replays.proofs.Kept.{Kept}
use Rattle.replays.proofs.Slots.{counted_most}
use Rattle.replays.proofs.Tapes.{TapeSays, says_draw, says_end, says_bad, says_other, tape_says}

-- a radix that is called for is 1 to 1,024
pub radix_lawful : (m : Meaning) (class n : ℕ) → Sound m → radix_rule m class ≡ told n → lawful_radix n ≡ true
radix_lawful m class n s e = by (m.counted class) (eqb m.unpaired 0) (ltb m.live 1024) refl refl e
  where
    from : 1 ≤ n → n ≤ 1024 → lawful_radix n ≡ true
    from some most = and_from (leb 1 n) (leb n 1024) (le-leb 1 n some) (le-leb n 1024 most)

    by : (c p r : Bool) → eqb m.unpaired 0 ≡ p → ltb m.live 1024 ≡ r → radix_when c p r m ≡ told n → lawful_radix n ≡ true
    by false p r z room e = let one = same_told 1 n e in from (omega arith) (omega arith)
    by true true true z room e =
        let next = same_told (m.live + 1) n e in
        let few = ltb-true m.live 1024 room in
        from (omega arith) (omega arith)
    by true true false z room e = absurd (not_refused n 10 e)
    by true false r z room e =
        let some = eqb-false m.unpaired 0 z in
        let same = same_told m.unpaired n e in
        from (omega arith) (omega (arith, s.few_keys))

-- with fewer than 1,024 live a radix is called for
radix_called : (m : Meaning) (class number : ℕ) → m.live < 1024 → radix_rule m class ≡ refused number → ⊥
radix_called m class number few e = by (m.counted class) (eqb m.unpaired 0) (ltb m.live 1024) refl e
  where
    by : (c p r : Bool) → ltb m.live 1024 ≡ r → radix_when c p r m ≡ refused number → ⊥
    by false p r l e = not_refused 1 number (sym e)
    by true true true l e = not_refused (m.live + 1) number (sym e)
    by true true false l e = let most = ltb-false m.live 1024 l in omega arith
    by true false r l e = not_refused m.unpaired number (sym e)

abbrev pub entry_of : KeyView → (tag radix : ℕ) → OpenEntry
entry_of key tag radix = record { key = key; tag = tag; radix = radix }

-- what admit says
pub data Admits (b : Book) (m : Meaning) (key : KeyView) : Verdict → Type 0 where
  says_8 : Admits b m key (refuses 8)
  says_9 : Admits b m key (refuses 9)
  says_open :
      (tag radix : ℕ) → Openable b.slots (entry_of key tag radix) → radix_rule m key.class ≡ told radix →
      Admits b m key (opens (entry_of key tag radix))

module _ (b : Book) (m : Meaning) (key : KeyView) (none : b.entry ≡ None) (lawful : key.lawful ≡ true) (few : live_count b.slots < length b.slots → m.live < 1024) where
  by_radix :
      (called : Told ℕ) (tag : ℕ) → radix_rule m key.class ≡ called → live_count b.slots < length b.slots →
      ((slot : ℕ) → holds_form key.form (get_or b.slots slot None) ≡ false) → tag < length b.slots →
      get_or b.slots tag None ≡ None → Admits b m key (admit_radix called key tag)
  by_radix (refused number) tag e room off l free = absurd (radix_called m key.class number (few room) e)
  by_radix (told radix) tag e room off l free = says_open tag radix (record { below = l; free = free; not_live = off }) e

  by_room :
      (room : Bool) (found : Option ℕ) → ltb (live_count b.slots) (length b.slots) ≡ room →
      ((slot : ℕ) → holds_form key.form (get_or b.slots slot None) ≡ false) →
      MatchOption found ((slot : ℕ) → slot < length b.slots → is_some (get_or b.slots slot None) ≡ true)
      (λ tag. (tag < length b.slots) × (get_or b.slots tag None ≡ None)) →
      Admits b m key (admit_room room found (radix_rule m key.class) key)
  by_room false found e off free = says_9
  by_room true None e off free = says_9
  by_room true (Some tag) e off free =
      by_radix (radix_rule m key.class) tag refl (ltb-true (live_count b.slots) (length b.slots) e) off free.0 free.1

  by_live :
      (live : Option ℕ) →
      Found (holds_form key.form) b.slots live ((slot : ℕ) → holds_form key.form (get_or b.slots slot None) ≡ false) →
      Admits b m key (admit_live live b (radix_rule m key.class) key)
  by_live (Some tag) off = says_8
  by_live None off =
      by_room (ltb (live_count b.slots) (length b.slots)) (free_tag b.slots key) refl off (free_tag_finds b.slots key)

  pub admits : Admits b m key (admit_verdict b m key)
  admits =
      subst (λ (l : Bool). Admits b m key (admit_lawful l b (radix_rule m key.class) key)) (sym lawful)
      (subst (λ (o : Option OpenEntry). Admits b m key (admit_open o b (radix_rule m key.class) key)) (sym none)
      (by_live (tag_of b.slots key) (tag_of_finds b.slots key)))

-- a key that came in
pub record CameIn (tape : List ℕ) (s : State) (key : KeyView) (tag radix draw : ℕ) (place : Option ℕ) : Type 0 where
  pub openable : Openable s.book.slots (entry_of key tag radix)
  pub called : radix_rule s.pile key.class ≡ told radix
  pub below : draw < radix
  pub whole : 6 * s.draws + 6 ≤ length tape
  pub taped : read_record (drop (6 * s.draws) tape) ≡ Some (record { radix = radix; draw = draw })
  pub answer : (entry_rule s.pile tag key.class draw).answer ≡ told (receipt radix draw place)

abbrev pub in_turn : State → KeyView → (tag radix draw : ℕ) (place : Option ℕ) → Turn
in_turn s key tag radix draw place =
    record {
      happened = came_in key (receipt radix draw place);
      after =
          record {
            book = settled s.book (entry_of key tag radix);
            pile = (entry_rule s.pile tag key.class draw).after;
            draws = s.draws + 1;
            readings = s.readings;
          };
    }

pub data EnterComes (tape : List ℕ) (byte : ℕ) (s : State) (key : KeyView) : Turn → Type 0 where
  comes_8 : EnterComes tape byte s key (refused_turn s (plain in_roster 8 byte))
  comes_9 : EnterComes tape byte s key (refused_turn s (plain in_roster 9 byte))
  comes_17 : 6 * s.draws ≡ length tape → EnterComes tape byte s key (refused_turn s (by_source 17 byte (6 * s.draws)))
  comes_18 : 6 * s.draws < length tape → EnterComes tape byte s key (refused_turn s (by_source 18 byte (6 * s.draws)))
  comes_19 : 6 * s.draws < length tape → EnterComes tape byte s key (refused_turn s (by_source 19 byte (6 * s.draws)))
  comes_in :
      (tag radix draw : ℕ) (place : Option ℕ) → CameIn tape s key tag radix draw place →
      EnterComes tape byte s key (in_turn s key tag radix draw place)

module _ (tape : List ℕ) (byte more : ℕ) (s : State) (key : KeyView) where
  turned : Step → Turn
  turned st = enter_turn st.answer key byte s st

  by_answer :
      (tag radix : ℕ) → Openable s.book.slots (entry_of key tag radix) → radix_rule s.pile key.class ≡ told radix →
      (a : SourceAnswer) → TapeSays tape s.draws radix a →
      EnterComes tape byte s key (turned (settle_supplied (supplied radix (before a nothing)) s.book s.pile (entry_of key tag radix)))
  unfolding turned
  by_answer tag radix fits called _ (says_draw draw below whole taped) =
      let answer = entry_told s.pile tag key.class draw radix called below in
      subst
      (λ (b : Bool). EnterComes tape byte s key (turned (settle_supplied (drawn_below b draw) s.book s.pile (entry_of key tag radix))))
      (sym (lt-ltb draw radix below))
      (subst
      (λ (b : Bool). EnterComes tape byte s key (turned (settle_drawn b s.book s.pile (entry_of key tag radix) draw)))
      (sym (lt-ltb draw radix below))
      (subst
      (λ (a : Told EntryReceipt).
      EnterComes tape byte s key
      (turned (record {
        answer = entry_answer a;
        book = settled s.book (entry_of key tag radix);
        pile = (entry_rule s.pile tag key.class draw).after;
      })))
      (sym answer.1)
      (comes_in tag radix draw answer.0
      (record { openable = fits; called = called; below = below; whole = whole; taped = taped; answer = answer.1 }))))
  by_answer tag radix fits called _ (says_end l) = comes_17 l
  by_answer tag radix fits called _ (says_bad l) = comes_18 l
  by_answer tag radix fits called _ (says_other l) = comes_19 l

  by_verdict :
      Sound s.pile → 6 * s.draws ≤ length tape → (v : Verdict) → Admits s.book s.pile key v →
      EnterComes tape byte s key
      (turned (carried_out (enter_verdict v) (enter_supply (enter_verdict v) (tape_course tape s.draws).gives) s.book s.pile))
  unfolding turned
  by_verdict sound used _ says_8 = comes_8
  by_verdict sound used _ says_9 = comes_9
  by_verdict sound used _ (says_open tag radix fits called) =
      by_answer tag radix fits called (tape_answer tape s.draws radix)
      (tape_says tape s.draws radix (radix_lawful s.pile key.class radix sound called) used)

  pub enter_comes : (kind : Kind) → Kept kind tape s → key.lawful ≡ true → EnterComes tape byte s key (turn tape byte more s (enters key))
  unfolding turned
  enter_comes kind k lawful =
      by_verdict k.sound k.used _
      (admits s.book s.pile key k.none_open lawful
      (λ few. omega (arith, k.counts, k.few_slots, counted_most s.pile.counted s.book.slots)))
