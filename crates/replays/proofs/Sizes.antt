-- How long a page can become.
use Rattle.std.proofs.Common.{◌≡◌, ℕ, ◌+◌, ◌-◌, ◌*◌, ◌<◌, ◌≤◌, Bool, true, false, leb, List, [], ◌∷◌, length, get_or, Some, None, codes, decimal, Option, sym, refl, subst, ⊎_elim, arith}
use Rattle.std.proofs.lemmas.Fmt.{length-decimal-le}
use Rattle.std.proofs.lemmas.List.{length-append}
use Rattle.std.proofs.lemmas.Bool.{and_parts, leb-true, cases_lt}
use Rattle.pile.specs.Answers.{Place}
use Rattle.calls.specs.Book.{KeyView}
use Rattle.calls.specs.Steps.{key_on}
use Rattle.replays.specs.Happenings.{Happening}
use Rattle.replays.specs.Kinds.{Kind, LawfulKind}
use Rattle.replays.specs.Laws.{CanCome, of_settings, of_key, is_live, no_room, not_live, tape_ends, no_record, other_radix, tape_left, too_little, too_long, not_whole, not_known, too_many, log_left}
use Rattle.replays.specs.Lines.{line, read_line, place_line, place_lines, reading_lines, end_line, refused_line, lines}
use Rattle.replays.specs.Records.{LogRecord}
use Rattle.replays.specs.Refusals.{Layer, in_opening, in_key, in_roster, in_source, in_log, layer_word, Refusal, plain, by_source}
use Rattle.replays.specs.Replays.{State, form_of, forms_on, reading, log_kind, Room, room_enough, sizes_pass, outcome_when, outcome}
use Rattle.replays.proofs.Kept.{WasRead, Kept}
use Rattle.replays.proofs.Run.{Run, run_stops, run_ends, run_reads, run_in, run_out}
use Rattle.replays.proofs.Whole.{Whole, whole_refused, whole_run, whole}

-- lines and numbers
line_more : (first second : List ℕ) (others : List (List ℕ)) → length (line first (second ∷ others)) ≡ length first + (1 + length (line second others))
line_more first second others = omega (arith, length-append first (0x20 ∷ line second others))

line_one : (first : List ℕ) → length (line first []) ≡ length first + 1
line_one first = length-append first (0x0A ∷ [])

one_digit : (n : ℕ) → n < 10 → length (decimal n) ≤ 1
one_digit n l = length-decimal-le 1 n (omega arith) (omega arith) (omega arith)

two_digits : (n : ℕ) → n < 100 → length (decimal n) ≤ 2
two_digits n l = length-decimal-le 2 n (omega arith) (omega arith) (omega arith)

three_digits : (n : ℕ) → n < 1000 → length (decimal n) ≤ 3
three_digits n l = length-decimal-le 3 n (omega arith) (omega arith) (omega arith)

four_digits : (n : ℕ) → n < 10000 → length (decimal n) ≤ 4
four_digits n l = length-decimal-le 4 n (omega arith) (omega arith) (omega arith)

five_digits : (n : ℕ) → n < 100000 → length (decimal n) ≤ 5
five_digits n l = length-decimal-le 5 n (omega arith) (omega arith) (omega arith)

-- the last line
word_most : (l : Layer) → length (layer_word l) ≤ 7
word_most in_opening = omega arith
word_most in_key = omega arith
word_most in_roster = omega arith
word_most in_source = omega arith
word_most in_log = omega arith

plain_most : (l : Layer) (number byte : ℕ) → number < 100 → byte < 100000 → length (refused_line (plain l number byte)) ≤ 30
plain_most l number byte few near =
    omega (
      arith,
      line_more (codes "REFUSED") (decimal number) (decimal byte ∷ layer_word l ∷ []),
      line_more (decimal number) (decimal byte) (layer_word l ∷ []),
      line_more (decimal byte) (layer_word l) [],
      line_one (layer_word l),
      word_most l,
      two_digits number few,
      five_digits byte near,
    )

source_most : (number byte tape_byte : ℕ) → number < 100 → byte < 100000 → tape_byte < 100000 → length (refused_line (by_source number byte tape_byte)) ≤ 30
source_most number byte tape_byte few near far =
    omega (
      arith,
      line_more (codes "REFUSED") (decimal number) (decimal byte ∷ codes "source" ∷ decimal tape_byte ∷ []),
      line_more (decimal number) (decimal byte) (codes "source" ∷ decimal tape_byte ∷ []),
      line_more (decimal byte) (codes "source") (decimal tape_byte ∷ []),
      line_more (codes "source") (decimal tape_byte) [],
      line_one (decimal tape_byte),
      two_digits number few,
      five_digits byte near,
      five_digits tape_byte far,
    )

module _ (log tape : List ℕ) (short_log : length log ≤ 32768) (short-tape : length tape ≤ 49152) where
  refused_most : (r : Refusal) → CanCome log tape r → length (refused_line r) ≤ 30
  refused_most _ (of_settings number some few) = plain_most in_opening number 0 (omega arith) (omega arith)
  refused_most _ (of_key byte l) = plain_most in_key 6 byte (omega arith) (omega arith)
  refused_most _ (is_live byte l) = plain_most in_roster 8 byte (omega arith) (omega arith)
  refused_most _ (no_room byte l) = plain_most in_roster 9 byte (omega arith) (omega arith)
  refused_most _ (not_live byte l) = plain_most in_roster 13 byte (omega arith) (omega arith)
  refused_most _ (tape_ends byte l) = source_most 17 byte (length tape) (omega arith) (omega arith) (omega arith)
  refused_most _ (no_record byte draws l m) = source_most 18 byte (6 * draws) (omega arith) (omega arith) (omega arith)
  refused_most _ (other_radix byte draws l m) = source_most 19 byte (6 * draws) (omega arith) (omega arith) (omega arith)
  refused_most _ (tape_left byte draws l m) = source_most 27 byte (6 * draws) (omega arith) (omega arith) (omega arith)
  refused_most _ too_little = plain_most in_log 21 0 (omega arith) (omega arith)
  refused_most _ too_long = plain_most in_log 22 0 (omega arith) (omega arith)
  refused_most _ (not_whole byte l) = plain_most in_log 23 byte (omega arith) (omega arith)
  refused_most _ (not_known byte l) = plain_most in_log 24 byte (omega arith) (omega arith)
  refused_most _ (too_many byte l) = plain_most in_log 25 byte (omega arith) (omega arith)
  refused_most _ (log_left byte l) = plain_most in_log 26 byte (omega arith) (omega arith)

end_most : (draws : ℕ) → draws < 100000 → length (end_line draws) ≤ 30
end_most draws few = omega (arith, line_more (codes "END") (decimal draws) [], line_one (decimal draws), five_digits draws few)

-- a reading
read_most : (live unpaired : ℕ) → live + unpaired ≤ 1024 → length (read_line live unpaired) ≤ 13
read_most n d few =
    omega (arith, line_more (codes "READ") (decimal n) (decimal d ∷ []), line_more (decimal n) (decimal d) [], line_one (decimal d), digits)
  where
    digits : length (decimal n) + length (decimal d) ≤ 6
    digits =
        ⊎_elim
        (λ (small : n < 1000).
        ⊎_elim (λ (small' : d < 1000). omega (arith, three_digits n small, three_digits d small'))
        (λ (large' : 1000 ≤ d). omega (arith, two_digits n (omega arith), four_digits d (omega arith))) (cases_lt d 1000))
        (λ (large : 1000 ≤ n). omega (arith, four_digits n (omega arith), two_digits d (omega arith))) (cases_lt n 1000)

module _ (kind : Kind) (lawful : LawfulKind kind) (slots : List (Option KeyView)) (keys : (tag : ℕ) (key : KeyView) → get_or slots tag None ≡ Some key → WasRead kind key) where
  key_most : (i : ℕ) (slot : Option KeyView) (tag : ℕ) → get_or slots tag None ≡ slot → length (place_line kind i (form_of slot)) ≤ length (decimal i) + 10
  key_most i None tag at = omega (arith, line_one (decimal i))
  key_most i (Some key) tag at =
      let read = keys tag key at in
      omega (arith, line_more (decimal i) (kind.prints key.form) [], line_one (kind.prints key.form), (lawful.brief read.0 key read.1).1)

  place_most : (i : ℕ) (p : Place) → length (place_line kind i (form_of (key_on slots p))) ≤ length (decimal i) + 10
  place_most i None = omega (arith, line_one (decimal i))
  place_most i (Some tag) = key_most i (get_or slots tag None) tag refl

  places_most : (i : ℕ) (ps : List Place) → i + length ps ≤ 64 → length (place_lines kind i (forms_on slots ps)) ≤ 12 * (64 - i) - (10 - i)
  places_most i [] l = omega arith
  places_most i (p ∷ ps) l =
      let more = places_most (i + 1) ps (omega arith) in
      let whole = length-append (place_line kind i (form_of (key_on slots p))) (place_lines kind (i + 1) (forms_on slots ps)) in
      let one = place_most i p in
      ⊎_elim (λ (small : i < 10). omega (arith, more, whole, one, one_digit i small))
      (λ (large : 10 ≤ i). omega (arith, more, whole, one, two_digits i (omega arith))) (cases_lt i 10)

reading_most : (kind : Kind) (tape : List ℕ) → LawfulKind kind → (s : State) → Kept kind tape s → length (reading_lines kind (reading s.book s.pile)) ≤ 771
reading_most kind tape lawful s k =
    omega (
      arith,
      length-append (read_line s.pile.live s.pile.unpaired) (place_lines kind 0 (forms_on s.book.slots s.pile.places)),
      read_most s.pile.live s.pile.unpaired k.sound.few_keys,
      places_most kind lawful s.book.slots k.keys 0 s.pile.places
          (omega (arith, k.sound.as_many_places, k.sound.few_places)),
    )

run_most :
    {kind : Kind} {log tape : List ℕ} {s : State} {records : List LogRecord} {h : List Happening} → LawfulKind kind →
    length log ≤ 32768 → length tape ≤ 49152 → Run kind log tape s records h → length (lines kind h) ≤ 771 * (64 - s.readings) + 30
run_most {kind} {log} {tape} lawful l t (run_stops r can) =
    omega (arith, length-append (refused_line r) [], refused_most log tape l t r can)
run_most {kind} {log} {tape} {s} lawful l t (run_ends k u) =
    omega (arith, length-append (end_line s.draws) [], end_most s.draws (omega (arith, k.used)))
run_most {kind} {log} {tape} {s} lawful l t (run_reads {later = later} k few next) =
    omega (arith, length-append (reading_lines kind (reading s.book s.pile)) (lines kind later), reading_most kind tape lawful s k, run_most lawful l t next)
run_most lawful l t (run_in k key tag radix draw place read c next) = run_most lawful l t next
run_most lawful l t (run_out k key held tag place read w next) = run_most lawful l t next

whole_most : {log tape : List ℕ} {h : List Happening} → length log ≤ 32768 → length tape ≤ 49152 → Whole log tape h → length (lines (log_kind log) h) ≤ 49374
whole_most {log} {tape} l t (whole_refused r can) = omega (arith, length-append (refused_line r) [], refused_most log tape l t r can)
whole_most {h = h} l t (whole_run kind lawful is passed run) =
    subst (λ (k : Kind). length (lines k h) ≤ 49374) (sym is) (run_most lawful l t run)

pub page_fits : (room : Room) (log tape : List ℕ) → length (outcome room log tape).page ≤ 49374
page_fits room log tape = by (room_enough room) (sizes_pass log tape) refl
  where
    by : (enough sizes : Bool) → sizes_pass log tape ≡ sizes → length (outcome_when enough sizes log tape).page ≤ 49374
    by false sizes e = omega arith
    by true false e = omega arith
    by true true e =
        let parts = and_parts (leb (length log) 32768) (leb (length tape) 49152) e in
        whole_most (leb-true (length log) 32768 parts.0) (leb-true (length tape) 49152 parts.1) (whole log tape)
