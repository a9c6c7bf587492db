-- What comes of a leave, where a replay stands between two records.
use Rattle.std.proofs.Common.{◌≡◌, ℕ, ◌<◌, Bool, true, false, ltb, List, get_or, Some, None, Option, sym, refl, ap, subst, arith}
use Rattle.std.proofs.lemmas.Slice.Eq.{bytes_eq-Decides}
use Rattle.std.proofs.lemmas.Bool.{ltb-false, false≢true}
use Rattle.pile.specs.declared.receipts.LeaveReceipt.{LeaveReceipt}
use Rattle.pile.specs.Answers.{Told, told}
use Rattle.pile.specs.Rules.{leave_rule}
use Rattle.calls.specs.Book.{KeyView, OpenEntry, holds_form, tag_of}
use Rattle.calls.specs.Calls.{Verdict, lets_go, leave_counted, leave_slot, leave_live, leave_open, leave_lawful}
use Rattle.calls.specs.Steps.{Step, gone, carried_out, gives, leave_answer}
use Rattle.calls.proofs.Piles.{leave_told}
use Rattle.calls.proofs.Searches.{Found, tag_of_finds}
use Rattle.replays.specs.Happenings.{went_out}
use Rattle.replays.specs.Kinds.{Kind}
use Rattle.replays.specs.Records.{leaves}
use Rattle.replays.specs.Refusals.{in_roster, plain}
use Rattle.replays.specs.Replays.{State, Turn, refused_turn, leave_turn, turn}
use Rattle.replays.proofs.Kept.{Kept}
use Rattle.replays.proofs.Slots.{one_if, counted_slots, counted_freed}

-- a key that went
pub record WentOut (s : State) (key held : KeyView) (tag : ℕ) (place : Option ℕ) : Type 0 where
  pub sits : get_or s.book.slots tag None ≡ Some held
  pub same_form : held.form ≡ key.form
  pub some_live : s.pile.counted held.class ≡ true → 0 < s.pile.live
  pub answer : (leave_rule s.pile tag held.class).answer ≡ told (record { place = place })

abbrev pub out_turn : State → KeyView → (held : KeyView) (tag : ℕ) (place : Option ℕ) → Turn
out_turn s key held tag place =
    record {
      happened = went_out key (record { place = place });
      after =
          record {
            book = gone s.book tag;
            pile = (leave_rule s.pile tag held.class).after;
            draws = s.draws;
            readings = s.readings;
          };
    }

pub data LeaveComes (byte : ℕ) (s : State) (key : KeyView) : Turn → Type 0 where
  comes_13 : LeaveComes byte s key (refused_turn s (plain in_roster 13 byte))
  comes_out :
      (held : KeyView) (tag : ℕ) (place : Option ℕ) → WentOut s key held tag place →
      LeaveComes byte s key (out_turn s key held tag place)

-- a counted key that is live is among the counted
counted_some : (counted : ℕ → Bool) (slots : List (Option KeyView)) (tag : ℕ) (key : KeyView) → get_or slots tag None ≡ Some key → counted key.class ≡ true → 0 < counted_slots counted slots
counted_some counted slots tag key at c = omega (arith, counted_freed counted slots tag key at, ap one_if c)

module _ (tape : List ℕ) (byte more : ℕ) (s : State) (key : KeyView) where
  turned : Step → Turn
  turned st = leave_turn st.answer key byte s st

  carried : Verdict → Turn
  carried v = turned (carried_out v (gives 0) s.book s.pile)

  module _ (kind : Kind) (k : Kept kind tape s) where
    goes : (held : KeyView) (tag : ℕ) → get_or s.book.slots tag None ≡ Some held → held.form ≡ key.form → LeaveComes byte s key (carried (lets_go held tag))
    unfolding turned carried
    goes held tag at same =
        let some : s.pile.counted held.class ≡ true → 0 < s.pile.live =
        λ c. omega (arith, k.counts, counted_some s.pile.counted s.book.slots tag held at c) in
        let answer = leave_told s.pile tag held.class (λ c. (k.takes, some c)) in
        subst
        (λ (a : Told LeaveReceipt).
        LeaveComes byte s key
        (turned (record {
          answer = leave_answer a;
          book = gone s.book tag;
          pile = (leave_rule s.pile tag held.class).after;
        })))
        (sym answer.1)
        (comes_out held tag answer.0 (record { sits = at; same_form = same; some_live = some; answer = answer.1 }))

    by_counted :
        (held : KeyView) (tag : ℕ) (counted some_live : Bool) → get_or s.book.slots tag None ≡ Some held → held.form ≡ key.form →
        s.pile.counted held.class ≡ counted → ltb 0 s.pile.live ≡ some_live →
        LeaveComes byte s key (carried (leave_counted counted true some_live held tag))
    by_counted held tag false some_live at same c n = goes held tag at same
    by_counted held tag true false at same c n =
        let none = ltb-false 0 s.pile.live n in
        let z : ⊥ = omega (arith, k.counts, counted_some s.pile.counted s.book.slots tag held at c) in
        absurd z
    by_counted held tag true true at same c n = goes held tag at same

    by_slot :
        (slot : Option KeyView) (tag : ℕ) → get_or s.book.slots tag None ≡ slot → holds_form key.form slot ≡ true →
        LeaveComes byte s key (carried (leave_slot slot tag s.pile))
    by_slot None tag at holds = absurd (false≢true holds)
    by_slot (Some held) tag at holds =
        subst (λ (b : Bool). LeaveComes byte s key (carried (leave_counted (s.pile.counted held.class) b (ltb 0 s.pile.live) held tag)))
        (sym k.takes)
        (by_counted held tag (s.pile.counted held.class) (ltb 0 s.pile.live) at ((bytes_eq-Decides held.form key.form).0 holds) refl refl)

    by_live :
        (live : Option ℕ) →
        Found (holds_form key.form) s.book.slots live ((slot : ℕ) → holds_form key.form (get_or s.book.slots slot None) ≡ false) →
        LeaveComes byte s key (carried (leave_live live s.book s.pile))
    unfolding turned carried
    by_live None off = comes_13
    by_live (Some tag) found = by_slot (get_or s.book.slots tag None) tag refl found.1

    pub leave_comes : key.lawful ≡ true → LeaveComes byte s key (turn tape byte more s (leaves key))
    unfolding turned carried
    leave_comes lawful =
        subst (λ (l : Bool). LeaveComes byte s key (carried (leave_lawful l s.book s.pile key))) (sym lawful)
        (subst (λ (o : Option OpenEntry). LeaveComes byte s key (carried (leave_open o s.book s.pile key))) (sym k.none_open)
        (by_live (tag_of s.book.slots key) (tag_of_finds s.book.slots key)))
