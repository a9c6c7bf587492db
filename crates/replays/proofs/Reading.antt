-- What the records of a log are.
use Rattle.std.proofs.Common.{◌≡◌, ℕ, ◌+◌, ◌≤◌, Bool, true, false, leb, List, length, drop, sym, refl, ap, subst, arith}
use Rattle.std.proofs.lemmas.List.{length-append, length-drop}
use Rattle.std.proofs.lemmas.Bool.{leb-true}
use Rattle.calls.specs.Book.{KeyView}
use Rattle.replays.specs.Kinds.{KeyRead, found, key_refused, cut_short, Kind, LawfulKind}
use Rattle.replays.specs.Marks.{mark_EN, mark_LV, mark_RD, mark_ZZ, marked}
use Rattle.replays.specs.Records.{LogRecord, enters, leaves, reads, ends, unread, keyed, by_mark, by_whole_mark, record_in}
use Rattle.replays.specs.Refusals.{in_key, in_log}
use Rattle.replays.proofs.Kept.{WasRead}

pub data Stands (kind : Kind) (more : List ℕ) : LogRecord → Type 0 where
  stands_EN : (key : KeyView) → WasRead kind key → 2 + length key.form ≤ length more → Stands kind more (enters key)
  stands_LV : (key : KeyView) → WasRead kind key → 2 + length key.form ≤ length more → Stands kind more (leaves key)
  stands_RD : 2 ≤ length more → Stands kind more reads
  stands_ZZ : 2 ≤ length more → Stands kind more ends
  stands_6 : 2 ≤ length more → Stands kind more (unread in_key 6)
  stands_23 : Stands kind more (unread in_log 23)
  stands_24 : 2 ≤ length more → Stands kind more (unread in_log 24)

module _ (kind : Kind) (lawful : LawfulKind kind) (more : List ℕ) where
  form_fits : (key : KeyView) → kind.reads (drop 2 more) ≡ found key → 2 ≤ length more → 2 + length key.form ≤ length more
  form_fits key e two =
      let whole = ap length (lawful.begins (drop 2 more) key e) in
      omega (arith, whole, length-append key.form (drop (length key.form) (drop 2 more)), length-drop 2 more)

  by_key :
      (what : KeyView → LogRecord) → ((key : KeyView) → WasRead kind key → 2 + length key.form ≤ length more → Stands kind more (what key)) →
      2 ≤ length more → (r : KeyRead) → kind.reads (drop 2 more) ≡ r → Stands kind more (keyed what r)
  by_key what made two (found key) e = made key (drop 2 more, e) (form_fits key e two)
  by_key what made two (key_refused number) e =
      subst (λ (n : ℕ). Stands kind more (unread in_key n)) (sym (lawful.by_six (drop 2 more) number e)) (stands_6 two)
  by_key what made two cut_short e = stands_23

  by_marks : (en lv rd zz : Bool) → 2 ≤ length more → Stands kind more (by_mark en lv rd zz kind (drop 2 more))
  by_marks true lv rd zz two = by_key enters stands_EN two (kind.reads (drop 2 more)) refl
  by_marks false true rd zz two = by_key leaves stands_LV two (kind.reads (drop 2 more)) refl
  by_marks false false true zz two = stands_RD two
  by_marks false false false true two = stands_ZZ two
  by_marks false false false false two = stands_24 two

  by_whole : (b : Bool) → leb 2 (length more) ≡ b → Stands kind more (by_whole_mark b kind more)
  by_whole false e = stands_23
  by_whole true e =
      by_marks (marked mark_EN more) (marked mark_LV more) (marked mark_RD more) (marked mark_ZZ more) (leb-true 2 (length more) e)

  pub stands : Stands kind more (record_in kind more)
  stands = by_whole (leb 2 (length more)) refl
