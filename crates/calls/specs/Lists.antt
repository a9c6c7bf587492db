-- The list of calls that requests come to, and what the calls do under a tape. No draw that was accepted is in the list.
use Rattle.std.specs.Prelude.{ℕ, Bool, true, false, List, [], ◌∷◌, drop, Some, None, Option, ◌==◌}
use Rattle.pile.specs.declared.receipts.EntryReceipt.{EntryReceipt}
use Rattle.pile.specs.Meaning.{Meaning}
use Rattle.sources.specs.Records.{radices_of, draws_of}
use Rattle.calls.specs.Book.{Book}
use Rattle.calls.specs.Calls.{Call, admit, settle, withdraw, enter, leave, ask}
use Rattle.calls.specs.Steps.{Answer, refusal, source_refusal, slip, entered, withdrawn, left, place_is, counts_are, radix_is, live_is, so_many, open_is, key_is, receipt_in, Supply, gives, fails, Step, step}
use Rattle.calls.specs.Runs.{Request}

-- What belongs to the list about the draw of a settle or an enter: that it takes the next of the tape, if it comes to take one; or
-- what came instead, for a settle that brought too large a draw and for an enter whose source refused.
pub data Lot : Type 0 where
  next : Lot
  instead : Supply → Lot

pub record Listed : Type 0 where
  pub call : Call
  pub lot : Lot

-- The list that requests come to, read off the requests and what was answered to them. A settle that is refused by 12 brought too
-- large a draw.
abbrev pub too_large : Call → (number : ℕ) → Bool
too_large (settle tag class radix) number = number == 12
too_large (admit key) number = false
too_large (withdraw tag class radix) number = false
too_large (enter key) number = false
too_large (leave key) number = false
too_large (ask question) number = false

abbrev pub refused_lot : (too_large : Bool) (draw : ℕ) → Lot
refused_lot true draw = instead (gives draw)
refused_lot false draw = next

abbrev pub lot_of : Request → Answer → Lot
lot_of request (refusal number) = refused_lot (too_large request.call number) request.draw
lot_of request (source_refusal number byte) = instead (fails number byte)
lot_of request (slip tag class radix) = next
lot_of request (entered receipt) = next
lot_of request withdrawn = next
lot_of request (left receipt) = next
lot_of request (place_is what) = next
lot_of request (counts_are live unpaired standing) = next
lot_of request (radix_is radix) = next
lot_of request (live_is live) = next
lot_of request (so_many live) = next
lot_of request (open_is entry) = next
lot_of request (key_is key) = next

abbrev pub listed : List Request → List Answer → List Listed
listed [] answers = []
listed (request ∷ requests) [] = []
listed (request ∷ requests) (answer ∷ answers) =
    record { call = request.call; lot = lot_of request answer } ∷ listed requests answers

-- Under a tape. A call that takes a draw takes the next one of the tape; a refused call takes none. (A tape that is at its end stands
-- here for completeness: under a tape with the list's radices, no call that takes a draw finds it so.)
abbrev pub next_draw : Lot → (tape : List ℕ) → Supply
next_draw (instead s) tape = s
next_draw next [] = gives 0
next_draw next (draw ∷ tape) = gives draw

abbrev pub tape_after : Option EntryReceipt → (tape : List ℕ) → List ℕ
tape_after None tape = tape
tape_after (Some receipt) tape = drop 1 tape

abbrev pub listed_step : Book → Meaning → Listed → (tape : List ℕ) → Step
listed_step b m l tape = step b m l.call (next_draw l.lot tape)

-- what the calls of a list answer under a tape, and what roster and pile mean afterwards
abbrev pub answers_under : Book → Meaning → List Listed → (tape : List ℕ) → List Answer
answers_under b m [] tape = []
answers_under b m (l ∷ ls) tape =
    let s = listed_step b m l tape in
    s.answer ∷ answers_under s.book s.pile ls (tape_after (receipt_in s.answer) tape)

abbrev pub book_under : Book → Meaning → List Listed → (tape : List ℕ) → Book
book_under b m [] tape = b
book_under b m (l ∷ ls) tape =
    let s = listed_step b m l tape in book_under s.book s.pile ls (tape_after (receipt_in s.answer) tape)

abbrev pub pile_under : Book → Meaning → List Listed → (tape : List ℕ) → Meaning
pile_under b m [] tape = m
pile_under b m (l ∷ ls) tape =
    let s = listed_step b m l tape in pile_under s.book s.pile ls (tape_after (receipt_in s.answer) tape)

-- the receipts of the settled entries, in order, and the draws and radices that they hold
abbrev pub with_receipt : Option EntryReceipt → List EntryReceipt → List EntryReceipt
with_receipt None receipts = receipts
with_receipt (Some receipt) receipts = receipt ∷ receipts

abbrev pub receipts_in : List Answer → List EntryReceipt
receipts_in [] = []
receipts_in (answer ∷ answers) = with_receipt (receipt_in answer) (receipts_in answers)

abbrev pub draws_in : List Answer → List ℕ
draws_in answers = draws_of (receipts_in answers)

abbrev pub radices_in : List Answer → List ℕ
radices_in answers = radices_of (receipts_in answers)
