-- What is written as a record reads back.
use Rattle.std.proofs.Common.{◌≡◌, ℕ, ◌+◌, ◌*◌, ◌≤◌, true, List, [], ◌∷◌, ◌++◌, length, take, drop, None, sym, ap, ◌∙◌, rules, arith, append-nil, length-drop, append_assoc}
use Rattle.std.proofs.lemmas.Grind.{common_steps}
use Rattle.std.proofs.lemmas.List.{take-append-drop, drop-drop, take_at, drop_at, length-append, length-take-le}
use Rattle.pile.specs.declared.receipts.EntryReceipt.{EntryReceipt}
use Rattle.sources.specs.Answers.{drew}
use Rattle.sources.specs.Courses.{all_before, used_up}
use Rattle.sources.specs.Records.{written, written_all, Lawful, AllLawful, record_bytes, records_of, radices_of, draws_of}
use Rattle.sources.specs.Tapes.{tape_answer, tape_course}

-- a tape that stands before a record answers its draw
pub answers_back : (bytes rest : List ℕ) (k : ℕ) (e : EntryReceipt) → Lawful e → drop (6 * k) bytes ≡ record_bytes e.radix e.draw ++ rest → tape_answer bytes k e.radix ≡ drew e.draw
answers_back bytes rest k e h left = search rules

-- and one that stands before the records of a list of receipts gives their draws
pub lists_back : (bytes : List ℕ) (k : ℕ) (es : List EntryReceipt) (rest : List ℕ) → AllLawful es → drop (6 * k) bytes ≡ records_of es ++ rest → (more : List ℕ) → (tape_course bytes k).gives (radices_of es ++ more) ≡ all_before (draws_of es) ((tape_course bytes (k + length es)).gives more)
lists_back bytes k [] rest all left more = search rules
lists_back bytes k (e ∷ es) rest all left more =
    let next : 6 * (k + 1) ≡ 6 * k + 6 = omega arith in
    let later : drop (6 * (k + 1)) bytes ≡ records_of es ++ rest = ap (λ n. drop n bytes) next ∙ sym (drop-drop 6 (6 * k) bytes) ∙ ap (drop 6) left in
    let first = answers_back bytes (records_of es ++ rest) k e all.0 left in
    let rest_back = lists_back bytes (k + 1) es rest all.1 later more in
    grind (arith, common_steps, first, rest_back)

pub length_records : (es : List EntryReceipt) → length (records_of es) ≡ 6 * length es
length_records [] = search rules
length_records (e ∷ es) = search (rules, length_records es)

-- the tape of the records alone, from its beginning: all the draws, and then it is used up
pub tapes_back : (es : List EntryReceipt) → AllLawful es → (tape_course (records_of es) 0).gives (radices_of es) ≡ record { draws = draws_of es; refusal = None }
tapes_back es all =
    let back = lists_back (records_of es) 0 es [] all (sym (append-nil (records_of es))) [] in
    search (rules, back, append-nil (radices_of es), append-nil (draws_of es))

pub tapes_end : (es : List EntryReceipt) → used_up (tape_course (records_of es) (length es)).gives ≡ true
tapes_end es = search (rules, length_records es, length-drop (6 * length es) (records_of es))

-- the front of a list taken, and what follows its end
past_front : (front tail : List ℕ) (o n : ℕ) → length front ≡ o → (take o (front ++ tail) ≡ front) × (drop (o + n) (front ++ tail) ≡ drop n tail)
past_front front tail o n e = (take_at front tail o e, sym (drop-drop n o (front ++ tail)) ∙ ap (drop n) (drop_at front tail o e))

pub written_in_turn : (tape : List ℕ) (offset : ℕ) (es : List EntryReceipt) → offset + 6 * length es ≤ length tape → written_all tape offset es ≡ take offset tape ++ (records_of es ++ drop (offset + 6 * length es) tape)
written_in_turn tape offset [] h = search (rules, take-append-drop offset tape)
written_in_turn tape offset (e ∷ es) h =
    let bytes = record_bytes e.radix e.draw in
    let front = take offset tape ++ bytes in
    let tail = drop (offset + 6) tape in
    let next = written tape offset e in
    let is : next ≡ front ++ tail = search (rules, append_assoc (take offset tape) bytes tail) in
    let long : length front ≡ offset + 6 = omega (arith, length-append (take offset tape) bytes, length-take-le offset tape (omega arith)) in
    let past = past_front front tail (offset + 6) (6 * length es) long in
    let room : offset + 6 + 6 * length es ≤ length next = omega (arith, ap length is, length-append front tail, length-drop (offset + 6) tape) in
    let back = written_in_turn next (offset + 6) es room in
    grind (arith, common_steps, back, is, past.0, past.1, drop-drop (6 * length es) (offset + 6) tape, append_assoc (take offset tape) bytes (records_of es ++ drop (6 * length es) tail))
