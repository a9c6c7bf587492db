-- The step of a leave that nothing speaks against.
use Rattle.std.proofs.Common.{◌≡◌, ℕ, Bool, true, false, ltb, get_or, Some, None, sym, refl, ap, ◌∙◌, arith}
use Rattle.pile.specs.declared.receipts.LeaveReceipt.{LeaveReceipt}
use Rattle.pile.specs.Answers.{Told, told, refused}
use Rattle.pile.specs.Meaning.{Meaning}
use Rattle.pile.specs.Rules.{leave_rule, leave_when}
use Rattle.calls.specs.Book.{KeyView, Book, tag_of}
use Rattle.calls.specs.Calls.{Verdict, lets_go, leave, leave_lawful, leave_open, leave_live, leave_slot, leave_counted}
use Rattle.calls.specs.Steps.{step, carried_out, gives, gone, left, leave_answer}

not_refused : (receipt : LeaveReceipt) (n : ℕ) → ◌≡◌ {A = Told LeaveReceipt} (told receipt) (refused n) → ⊥
not_refused receipt n e = let z : ◌≡◌ {A = ℕ} 0 1 = cc in omega arith

-- a pile that lets the tag go was asked the same questions
lets : (x y z : Bool) (m : Meaning) (live : KeyView) (tag : ℕ) (receipt : LeaveReceipt) → told receipt ≡ (leave_when x y z m tag).answer → leave_counted x y z live tag ≡ lets_go live tag
lets false y z m live tag receipt e = refl
lets true false z m live tag receipt e = absurd (not_refused receipt 14 e)
lets true true false m live tag receipt e = absurd (not_refused receipt 15 e)
lets true true true m live tag receipt e = refl

pub gone_step :
    (b : Book) (m : Meaning) (key live : KeyView) (tag : ℕ) (receipt : LeaveReceipt) → key.lawful ≡ true → b.entry ≡ None →
    tag_of b.slots key ≡ Some tag → get_or b.slots tag None ≡ Some live → told receipt ≡ (leave_rule m tag live.class).answer →
    step b m (leave key) (gives 0) ≡ record { answer = left receipt; book = gone b tag; pile = (leave_rule m tag live.class).after }
gone_step b m key live tag receipt lawful closed found held accepted =
    let verdict_is : leave_lawful key.lawful b m key ≡ lets_go live tag =
    ap (λ x. leave_lawful x b m key) lawful ∙ ap (λ x. leave_open x b m key) closed ∙ ap (λ x. leave_live x b m) found
    ∙ ap (λ x. leave_slot x tag m) held
    ∙ lets (m.counted live.class) m.leaves (ltb 0 m.live) m live tag receipt accepted in
    ap (λ (v : Verdict). carried_out v (gives 0) b m) verdict_is
    ∙ ap (λ a. record { answer = leave_answer a; book = gone b tag; pile = (leave_rule m tag live.class).after }) (sym accepted)
