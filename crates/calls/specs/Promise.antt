-- The evenness promise, for a run of requests on a roster and a pile that were new.
use Rattle.std.specs.Prelude.{◌≡◌, ℕ, ◌+◌, ◌*◌, min, Bool, true, false, ◌&&◌, ◌||◌, List, [], ◌∷◌, ◌++◌, map, length, is_some, Some, None, count_by, Option, ◌≢◌}
use Rattle.std.specs.List.{AllByRecursion}
use Rattle.std.specs.Str.{bytes_eq}
use Rattle.pile.specs.declared.receipts.EntryReceipt.{EntryReceipt}
use Rattle.pile.specs.Answers.{Place}
use Rattle.pile.specs.Meaning.{Meaning, New}
use Rattle.pile.specs.Rules.{counts_rule}
use Rattle.evenness.specs.Counting.{choose, choose_less}
use Rattle.evenness.specs.Tapes.{tapes, Tape, under}
use Rattle.sources.specs.Courses.{Given, all_before}
use Rattle.sources.specs.Records.{radices_of, draws_of}
use Rattle.calls.specs.Book.{KeyView, Book, new_book, tag_of}
use Rattle.calls.specs.Calls.{Call, settle, enter, admit, withdraw, leave, ask}
use Rattle.calls.specs.Steps.{Answer, refusal, source_refusal, slip, entered, withdrawn, left, place_is, counts_are, radix_is, live_is, so_many, open_is, key_is, receipt_in, key_on}
use Rattle.calls.specs.Runs.{Request, World}
use Rattle.calls.specs.Lists.{Listed, listed, answers_under, book_under, pile_under, with_receipt, draws_in, radices_in}
use Rattle.calls.specs.Past.{Ledger, ledger, live_after, forms_of, counted_live, events, number_live, number_unpaired, radices}

-- The sample: the live keys, by byte form, whose tags the places tell. The places are what `place` tells for 0 to L-1: place_rule
-- tells the list's i-th, and there are L of them (as_many_places).
abbrev pub with_form : Option KeyView → List (List ℕ) → List (List ℕ)
with_form None forms = forms
with_form (Some key) forms = key.form ∷ forms

abbrev pub sample : Book → List Place → List (List ℕ)
sample b [] = []
sample b (p ∷ ps) = with_form (key_on b.slots p) (sample b ps)

-- sets of keys, by byte form
abbrev pub has_form : List (List ℕ) → (form : List ℕ) → Bool
has_form [] form = false
has_form (f ∷ fs) form = bytes_eq f form || has_form fs form

abbrev pub has_forms : (forms others : List (List ℕ)) → Bool
has_forms forms [] = true
has_forms forms (f ∷ fs) = has_form forms f && has_forms forms fs

abbrev pub same_set : List (List ℕ) → List (List ℕ) → Bool
same_set forms others = has_forms forms others && has_forms others forms

abbrev pub NoRepeats : List (List ℕ) → Type 0
NoRepeats [] = Unit {0}
NoRepeats (f ∷ fs) = AllByRecursion (λ g. g ≢ f) fs × NoRepeats fs

-- What a list of calls comes to, on a roster and a pile that were new.
module _ (m : Meaning) (b : Book) (calls : List Listed) where
  abbrev pub past_ledger : Ledger
  past_ledger = ledger m b calls

  -- N, d and L
  abbrev pub N : ℕ
  N = number_live m past_ledger.past

  abbrev pub d : ℕ
  d = number_unpaired m past_ledger.past

  abbrev pub L : ℕ
  L = min m.bound (N + d)

  -- all tapes with the list's radices
  abbrev pub list_radices : List ℕ
  list_radices = radices m past_ledger.past

  abbrev pub all_tapes : ℕ
  all_tapes = length (tapes list_radices)

  -- the sample under a tape
  abbrev pub sample_under : (tape : List ℕ) → List (List ℕ)
  sample_under tape = sample past_ledger.book (under m (events past_ledger.past) tape).places

  -- under how many tapes the set is the sample
  abbrev pub tapes_giving : (set : List (List ℕ)) → ℕ
  tapes_giving set = count_by (λ tape. same_set (sample_under tape) set) (tapes list_radices)

  -- the counted live keys, and a set of such keys
  abbrev pub live_forms : List (List ℕ)
  live_forms = counted_live m past_ledger.past

  -- all live keys, counted or not
  abbrev pub all_live_forms : List (List ℕ)
  all_live_forms = forms_of (live_after [] past_ledger.past)

  pub record CountedLiveSet (set : List (List ℕ)) : Type 0 where
    pub distinct : NoRepeats set
    pub among : has_forms live_forms set ≡ true

  -- Any two sets of counted live keys of equal size are the sample under equally many tapes.
  abbrev pub EqualShares : Type 0
  EqualShares =
      (set other : List (List ℕ)) → CountedLiveSet set → CountedLiveSet other → length set ≡ length other →
      tapes_giving set ≡ tapes_giving other

  -- With a for a set's size, the number of its tapes times choose(N+d, L) is the number of all tapes times choose(d, L-a).
  abbrev pub ChooseShares : Type 0
  ChooseShares =
      (set : List (List ℕ)) → CountedLiveSet set → tapes_giving set * choose (N + d) L ≡ all_tapes * choose_less d L (length set)

  -- A set with a key that is not live and counted is the sample under no tape.
  abbrev pub NoOtherSet : Type 0
  NoOtherSet =
      (set : List (List ℕ)) (form : List ℕ) → has_form set form ≡ true → has_form live_forms form ≡ false → tapes_giving set ≡ 0

-- An answer without what draws decide: a receipt's draw and place, what stands on a place, how many stand. Slips, refusals, radices,
-- N and d stay, and so do who is live, how many are, the open entry, and whether there is such a place.
abbrev pub only_there : {A : Type 0} → Option (Option A) → Option (Option A)
only_there None = None
only_there (Some what) = Some None

abbrev pub bare : Answer → Answer
bare (entered receipt) = entered (record { radix = receipt.radix; draw = 0; place = None })
bare (left receipt) = left (record { place = None })
bare (place_is what) = place_is (only_there what)
bare (counts_are live unpaired standing) = counts_are live unpaired 0
bare (key_is key) = key_is (only_there key)
bare (refusal number) = refusal number
bare (source_refusal number byte) = source_refusal number byte
bare (slip tag class radix) = slip tag class radix
bare withdrawn = withdrawn
bare (radix_is radix) = radix_is radix
bare (live_is live) = live_is live
bare (so_many live) = so_many live
bare (open_is entry) = open_is entry

-- What it is for the same list of calls to happen under a tape, by the calls' own steps.
pub record Happens (m : Meaning) (b : Book) (calls : List Listed) (answers : List Answer) (tape : List ℕ) : Type 0 where
  -- the same slips, refusals and radices are answered
  pub same_answers : map bare (answers_under b m calls tape) ≡ map bare answers
  -- the receipts hold the tape
  pub same_draws : draws_in (answers_under b m calls tape) ≡ tape
  -- and it leaves exactly the sample that is counted for the tape
  pub same_sample :
      sample (book_under b m calls tape) (pile_under b m calls tape).places ≡ sample_under m b calls tape

-- a settle's receipt holds the draw that it brought, and only settles and enters have receipts
abbrev pub HoldsBrought : Call → (draw : ℕ) → Option EntryReceipt → Type 0
HoldsBrought (settle tag class radix) draw (Some receipt) = receipt.draw ≡ draw
HoldsBrought (settle tag class radix) draw None = Unit {0}
HoldsBrought (enter key) draw receipt = Unit {0}
HoldsBrought (admit key) draw (Some receipt) = ⊥
HoldsBrought (admit key) draw None = Unit {0}
HoldsBrought (withdraw tag class radix) draw (Some receipt) = ⊥
HoldsBrought (withdraw tag class radix) draw None = Unit {0}
HoldsBrought (leave key) draw (Some receipt) = ⊥
HoldsBrought (leave key) draw None = Unit {0}
HoldsBrought (ask question) draw (Some receipt) = ⊥
HoldsBrought (ask question) draw None = Unit {0}

abbrev pub AllHoldBrought : List Request → List Answer → Type 0
AllHoldBrought [] [] = Unit {0}
AllHoldBrought [] (answer ∷ answers) = ⊥
AllHoldBrought (request ∷ requests) [] = ⊥
AllHoldBrought (request ∷ requests) (answer ∷ answers) =
    HoldsBrought request.call request.draw (receipt_in answer) × AllHoldBrought requests answers

-- the receipts of enters, in order
abbrev pub enter_receipt : Call → Option EntryReceipt → List EntryReceipt → List EntryReceipt
enter_receipt (enter key) receipt receipts = with_receipt receipt receipts
enter_receipt (settle tag class radix) receipt receipts = receipts
enter_receipt (admit key) receipt receipts = receipts
enter_receipt (withdraw tag class radix) receipt receipts = receipts
enter_receipt (leave key) receipt receipts = receipts
enter_receipt (ask question) receipt receipts = receipts

abbrev pub enter_receipts : List Request → List Answer → List EntryReceipt
enter_receipts [] answers = []
enter_receipts (request ∷ requests) [] = []
enter_receipts (request ∷ requests) (answer ∷ answers) =
    enter_receipt request.call (receipt_in answer) (enter_receipts requests answers)

-- The enters of a run took from their source exactly the draws that their receipts hold, and the source goes on from there.
abbrev pub TookFromSource : (before after : List ℕ → Given) → List EntryReceipt → Type 0
TookFromSource before after receipts =
    (more : List ℕ) → before (radices_of receipts ++ more) ≡ all_before (draws_of receipts) (after more)

-- a roster and a pile that were new
pub record NewWorld (w : World) : Type 0 where
  pub roster : new_book w.book ≡ true
  pub pile : New w.pile

-- The promise, for the list of calls that was carried out.
module _ (start : World) (requests : List Request) (answers : List Answer) where
  abbrev m : Meaning
  m = start.pile

  abbrev b : Book
  b = start.book

  abbrev calls : List Listed
  calls = listed requests answers

  pub record Promise (finish : World) : Type 0 where
    -- over all tapes with the list's radices, each set of counted live keys has its share, and no other set has one
    pub equal_shares : EqualShares m b calls
    pub shares : ChooseShares m b calls
    pub no_others : NoOtherSet m b calls
    -- the receipts hold the accepted draws: the draw that a settle brought, and the next of the source's course for an enter
    pub settles_hold_what_they_brought : AllHoldBrought requests answers
    pub enters_hold_what_they_took : TookFromSource start.course finish.course (enter_receipts requests answers)
    -- these draws are a tape with the list's radices, which the receipts hold too
    pub receipts_hold_the_radices : radices_in answers ≡ list_radices m b calls
    pub draws_are_a_tape : Tape (list_radices m b calls) (draws_in answers)
    -- the sample that stands now is the one under that tape
    pub sample_is_under_it : sample finish.book finish.pile.places ≡ sample_under m b calls (draws_in answers)
    -- under that tape the list of calls gives these answers, and leaves this roster and this pile
    pub own_answers : answers_under b m calls (draws_in answers) ≡ answers
    pub own_roster : book_under b m calls (draws_in answers) ≡ finish.book
    pub own_pile : pile_under b m calls (draws_in answers) ≡ finish.pile
    -- counts answers this N and d, and there are L places
    pub counts_live : (counts_rule finish.pile).0 ≡ N m b calls
    pub counts_unpaired : (counts_rule finish.pile).1 ≡ d m b calls
    pub as_many_places : length finish.pile.places ≡ L m b calls
    -- the roster that is left is the one that the calls alone tell, whatever the draws
    pub roster_needs_no_draw : finish.book ≡ (past_ledger m b calls).book
    -- the keys that are live in it, counted or not, are those whose entry was settled and that have not left since
    pub live_keys : (key : KeyView) → is_some (tag_of finish.book.slots key) ≡ has_form (all_live_forms m b calls) key.form
    -- under every tape with the list's radices the same list of calls happens
    pub every_tape_happens : (tape : List ℕ) → Tape (list_radices m b calls) tape → Happens m b calls answers tape
