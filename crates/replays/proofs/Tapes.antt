-- What a tape answers to a lawful radix.
use Rattle.std.proofs.Common.{◌≡◌, ℕ, ◌+◌, ◌*◌, ◌<◌, ◌≤◌, Bool, true, false, ◌&&◌, eqb, ltb, leb, List, length, take, drop, Some, None, Option, sym, refl, ap, ◌∙◌, subst, arith}
use Rattle.std.specs.Str.{bytes_eq}
use Rattle.std.proofs.lemmas.List.{length-drop}
use Rattle.std.proofs.lemmas.Bool.{and_parts, leb-true, ltb-true, ltb-false, eqb-true}
use Rattle.sources.specs.declared.records.Record.{Record}
use Rattle.sources.specs.Answers.{Answer, drew, refused, lawful_radix}
use Rattle.sources.specs.Tapes.{mark, number_at, passes, read_when, read_record, same_radix, by_record, by_left, by_radix, tape_answer}

pub data TapeSays (tape : List ℕ) (draws radix : ℕ) : Answer → Type 0 where
  says_draw :
      (draw : ℕ) → draw < radix → 6 * draws + 6 ≤ length tape →
      read_record (drop (6 * draws) tape) ≡ Some (record { radix = radix; draw = draw }) → TapeSays tape draws radix (drew draw)
  says_end : 6 * draws ≡ length tape → TapeSays tape draws radix (refused (record { number = 17; byte = 6 * draws }))
  says_bad : 6 * draws < length tape → TapeSays tape draws radix (refused (record { number = 18; byte = 6 * draws }))
  says_other : 6 * draws < length tape → TapeSays tape draws radix (refused (record { number = 19; byte = 6 * draws }))

-- a record that is read is whole, and its draw is below its radix
read_fits : (left : List ℕ) (b : Bool) (r : Record) → passes left ≡ b → read_when b left ≡ Some r → (6 ≤ length left) × (r.draw < r.radix)
read_fits left true r p e =
    let lawful = lawful_radix (number_at left 2) in
    let below = ltb (number_at left 4) (number_at left 2) in
    let parts = and_parts (leb 6 (length left)) (bytes_eq mark (take 2 left) && (lawful && below)) p in
    let fields = and_parts (bytes_eq mark (take 2 left)) (lawful && below) parts.1 in
    let least = ltb-true (number_at left 4) (number_at left 2) (and_parts lawful below fields.1).1 in
    let draw : r.draw ≡ number_at left 4 = cc in
    let radix : r.radix ≡ number_at left 2 = cc in
    (leb-true 6 (length left) parts.0, omega arith)
read_fits left false r p e = let z : ◌≡◌ {A = ℕ} 0 1 = cc in let no_way : ⊥ = omega arith in absurd no_way

module _ (tape : List ℕ) (draws radix : ℕ) (lawful : lawful_radix radix ≡ true) (used : 6 * draws ≤ length tape) where
  by_same :
      (r : Record) (b : Bool) → eqb r.radix radix ≡ b → read_record (drop (6 * draws) tape) ≡ Some r →
      TapeSays tape draws radix (same_radix b (6 * draws) r.draw)
  by_same r true q e =
      let same = eqb-true r.radix radix q in
      let fits = read_fits (drop (6 * draws) tape) (passes (drop (6 * draws) tape)) r refl e in
      says_draw r.draw (omega (arith, fits.1)) (omega (arith, fits.0, length-drop (6 * draws) tape))
      (e ∙ ap (λ k. Some (record { radix = k; draw = r.draw })) same)
  by_same r false q e =
      let fits = read_fits (drop (6 * draws) tape) (passes (drop (6 * draws) tape)) r refl e in
      says_other (omega (arith, fits.0, length-drop (6 * draws) tape))

  by_read :
      (o : Option Record) → read_record (drop (6 * draws) tape) ≡ o → 6 * draws < length tape →
      TapeSays tape draws radix (by_record o (6 * draws) radix)
  by_read None e l = says_bad l
  by_read (Some r) e l = by_same r (eqb r.radix radix) refl e

  by_some : (b : Bool) → ltb 0 (length (drop (6 * draws) tape)) ≡ b → TapeSays tape draws radix (by_left b (drop (6 * draws) tape) (6 * draws) radix)
  by_some false e = let none = ltb-false 0 (length (drop (6 * draws) tape)) e in says_end (omega (arith, length-drop (6 * draws) tape))
  by_some true e =
      let some = ltb-true 0 (length (drop (6 * draws) tape)) e in
      by_read (read_record (drop (6 * draws) tape)) refl (omega (arith, length-drop (6 * draws) tape))

  pub tape_says : TapeSays tape draws radix (tape_answer tape draws radix)
  tape_says =
      subst (λ (b : Bool). TapeSays tape draws radix (by_radix b (drop (6 * draws) tape) (6 * draws) radix)) (sym lawful)
      (by_some (ltb 0 (length (drop (6 * draws) tape))) refl)
