-- A replay as a chain of what came of its records, with all that is known of each.
use Rattle.std.proofs.Common.{◌≡◌, ℕ, zero, suc, ◌+◌, ◌*◌, ◌<◌, ◌≤◌, Bool, true, false, eqb, ltb, List, [], ◌∷◌, length, drop, Option, sym, refl, subst, arith}
use Rattle.std.proofs.lemmas.List.{length-drop}
use Rattle.std.proofs.lemmas.Bool.{ltb-true, eqb-true, eqb-false}
use Rattle.pile.specs.Rules.{receipt}
use Rattle.calls.specs.Book.{KeyView}
use Rattle.replays.specs.Happenings.{Happening, came_in, went_out, was_read, ended, was_refused}
use Rattle.replays.specs.Kinds.{Kind, LawfulKind}
use Rattle.replays.specs.Laws.{CanCome, of_key, is_live, no_room, not_live, tape_ends, no_record, other_radix, tape_left, not_whole, not_known, too_many, log_left}
use Rattle.replays.specs.Records.{LogRecord, enters, leaves, reads, ends, record_in, size, then_records, records_in}
use Rattle.replays.specs.Refusals.{in_key, in_roster, in_log, Refusal, plain, by_source}
use Rattle.replays.specs.Replays.{State, Turn, reading, read_turn, end_turn, turn, then_on, happens_in}
use Rattle.replays.proofs.Entering.{CameIn, in_turn, EnterComes, comes_8, comes_9, comes_17, comes_18, comes_19, comes_in, enter_comes}
use Rattle.replays.proofs.Keeping.{kept_in, kept_out, kept_read}
use Rattle.replays.proofs.Kept.{WasRead, Kept}
use Rattle.replays.proofs.Leaving.{WentOut, out_turn, LeaveComes, comes_13, comes_out, leave_comes}
use Rattle.replays.proofs.Reading.{Stands, stands_EN, stands_LV, stands_RD, stands_ZZ, stands_6, stands_23, stands_24, stands}

pub data Run (kind : Kind) (log tape : List ℕ) : State → List LogRecord → List Happening → Type 0 where
  run_stops : {s : State} {records : List LogRecord} → (r : Refusal) → CanCome log tape r → Run kind log tape s records (was_refused r ∷ [])
  run_ends : {s : State} → Kept kind tape s → 6 * s.draws ≡ length tape → Run kind log tape s (ends ∷ []) (ended s.draws ∷ [])
  run_reads :
      {s : State} {records : List LogRecord} {later : List Happening} → Kept kind tape s → s.readings < 64 →
      Run kind log tape (record { book = s.book; pile = s.pile; draws = s.draws; readings = s.readings + 1 }) records later →
      Run kind log tape s (reads ∷ records) (was_read (reading s.book s.pile) ∷ later)
  run_in :
      {s : State} {records : List LogRecord} {later : List Happening} → Kept kind tape s →
      (key : KeyView) (tag radix draw : ℕ) (place : Option ℕ) → WasRead kind key → CameIn tape s key tag radix draw place →
      Run kind log tape (in_turn s key tag radix draw place).after records later →
      Run kind log tape s (enters key ∷ records) (came_in key (receipt radix draw place) ∷ later)
  run_out :
      {s : State} {records : List LogRecord} {later : List Happening} → Kept kind tape s →
      (key held : KeyView) (tag : ℕ) (place : Option ℕ) → WasRead kind key → WentOut s key held tag place →
      Run kind log tape (out_turn s key held tag place).after records later →
      Run kind log tape s (leaves key ∷ records) (went_out key (record { place = place }) ∷ later)

module _ (kind : Kind) (lawful : LawfulKind kind) (log tape : List ℕ) where
  lawful_key : (key : KeyView) → WasRead kind key → key.lawful ≡ true
  lawful_key key r = lawful.lawful r.0 key r.1

  -- One record, and then what comes after n bytes.
  module _ (s : State) (k : Kept kind tape s) (byte : ℕ) (more : List ℕ) (records : ℕ → List LogRecord) (later : ℕ → State → List Happening) (goes : (n : ℕ) → 2 ≤ n → n ≤ length more → (t : State) → Kept kind tape t → Run kind log tape t (records n) (later n t)) (at : byte + length more ≡ length log) where
    After : LogRecord → Turn → Type 0
    After what t =
        Run kind log tape s (then_records what (records (size what))) (then_on t.happened (later (size what) t.after))

    entering :
        (key : KeyView) → WasRead kind key → 2 + length key.form ≤ length more → (t : Turn) → EnterComes tape byte s key t →
        After (enters key) t
    unfolding After
    entering key r two _ comes_8 = run_stops (plain in_roster 8 byte) (is_live byte (omega arith))
    entering key r two _ comes_9 = run_stops (plain in_roster 9 byte) (no_room byte (omega arith))
    entering key r two _ (comes_17 l) =
        run_stops (by_source 17 byte (6 * s.draws))
        (subst (λ (n : ℕ). CanCome log tape (by_source 17 byte n)) (sym l) (tape_ends byte (omega arith)))
    entering key r two _ (comes_18 l) = run_stops (by_source 18 byte (6 * s.draws)) (no_record byte s.draws (omega arith) l)
    entering key r two _ (comes_19 l) = run_stops (by_source 19 byte (6 * s.draws)) (other_radix byte s.draws (omega arith) l)
    entering key r two _ (comes_in tag radix draw place c) =
        run_in k key tag radix draw place r c
        (goes (2 + length key.form) (omega arith) two (in_turn s key tag radix draw place).after
        (kept_in kind tape s k key tag radix draw place r c))

    leaving :
        (key : KeyView) → WasRead kind key → 2 + length key.form ≤ length more → (t : Turn) → LeaveComes byte s key t →
        After (leaves key) t
    unfolding After
    leaving key r two _ comes_13 = run_stops (plain in_roster 13 byte) (not_live byte (omega arith))
    leaving key r two _ (comes_out held tag place w) =
        run_out k key held tag place r w
        (goes (2 + length key.form) (omega arith) two (out_turn s key held tag place).after
        (kept_out kind tape s k key held tag place w))

    reading_on : 2 ≤ length more → (b : Bool) → ltb s.readings 64 ≡ b → After reads (read_turn b byte s)
    unfolding After
    reading_on two true e =
        let few = ltb-true s.readings 64 e in run_reads k few (goes 2 (omega arith) two _ (kept_read kind tape s k few))
    reading_on two false e = run_stops (plain in_log 25 byte) (too_many byte (omega arith))

    ending :
        2 ≤ length more → (l t : Bool) → eqb (length more) 2 ≡ l → eqb (6 * s.draws) (length tape) ≡ t →
        After ends (end_turn l t byte s)
    unfolding After
    ending two true true e q = run_ends k (eqb-true (6 * s.draws) (length tape) q)
    ending two true false e q =
        let other = eqb-false (6 * s.draws) (length tape) q in
        run_stops (by_source 27 byte (6 * s.draws)) (tape_left byte s.draws (omega arith) (omega (arith, k.used)))
    ending two false t e q =
        let other = eqb-false (length more) 2 e in run_stops (plain in_log 26 (byte + 2)) (log_left (byte + 2) (omega arith))

    one_record : (what : LogRecord) → Stands kind more what → After what (turn tape byte (length more) s what)
    unfolding After
    one_record _ (stands_EN key r two) =
        entering key r two (turn tape byte (length more) s (enters key)) (enter_comes tape byte (length more) s key kind k (lawful_key key r))
    one_record _ (stands_LV key r two) =
        leaving key r two (turn tape byte (length more) s (leaves key)) (leave_comes tape byte (length more) s key kind k (lawful_key key r))
    one_record _ (stands_RD two) = reading_on two (ltb s.readings 64) refl
    one_record _ (stands_ZZ two) = ending two (eqb (length more) 2) (eqb (6 * s.draws) (length tape)) refl refl
    one_record _ (stands_6 two) = run_stops (plain in_key 6 byte) (of_key byte (omega arith))
    one_record _ stands_23 = run_stops (plain in_log 23 byte) (not_whole byte (omega arith))
    one_record _ (stands_24 two) = run_stops (plain in_log 24 byte) (not_known byte (omega arith))

  pub runs :
      (most byte : ℕ) (more : List ℕ) (s : State) → Kept kind tape s → length more ≤ most → byte + length more ≡ length log →
      Run kind log tape s (records_in kind most more) (happens_in kind tape most byte more s)
  unfolding After
  runs zero byte more s k few at = run_stops (plain in_log 23 byte) (not_whole byte (omega arith))
  runs (suc most) byte more s k few at =
      one_record s k byte more (λ n. records_in kind most (drop n more)) (λ n t. happens_in kind tape most (byte + n) (drop n more) t)
      (λ n two l t kept. runs most (byte + n) (drop n more) t kept (omega (arith, length-drop n more)) (omega (arith, length-drop n more)))
      at (record_in kind more) (stands kind lawful more)
