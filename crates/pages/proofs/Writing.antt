-- One part of a line after the other.
use Rattle.std.proofs.Common.{◌≡◌, ℕ, ◌+◌, ◌≤◌, Bool, true, List, [], ◌++◌, length, take, drop, Some, sym, ap, ◌∙◌, subst, append_assoc, arith}
use Rattle.std.proofs.lemmas.List.{length-append, length-take-le, length-drop, take_at, drop_at, drop-drop, take-append-drop}
use Rattle.std.proofs.lemmas.Bool.{le-leb}
use Rattle.keys.specs.Bytes.{count_if, buffer_if, put_count, put_buffer}
use Rattle.pages.specs.Writing.{free, next_if, page_if, next_after, page_with, written_at, Wrote}

module _ (bytes page : List ℕ) (at : ℕ) (room : at + length bytes ≤ length page) where
  front_length : length (take at page ++ bytes) ≡ at + length bytes
  front_length = omega (arith, length-append (take at page) bytes, length-take-le at page (omega arith))

  grouped : written_at bytes page at ≡ (take at page ++ bytes) ++ drop (at + length bytes) page
  grouped = sym (append_assoc (take at page) bytes (drop (at + length bytes) page))

  pub length_written : length (written_at bytes page at) ≡ length page
  length_written =
      let tail = drop (at + length bytes) page in
      ap length grouped ∙ omega (arith, length-append (take at page ++ bytes) tail, front_length, length-drop (at + length bytes) page)

  take_written : take (at + length bytes) (written_at bytes page at) ≡ take at page ++ bytes
  take_written = ap (take (at + length bytes)) grouped ∙ take_at (take at page ++ bytes) (drop (at + length bytes) page) (at + length bytes) front_length

  drop_written : drop (at + length bytes) (written_at bytes page at) ≡ drop (at + length bytes) page
  drop_written = ap (drop (at + length bytes)) grouped ∙ drop_at (take at page ++ bytes) (drop (at + length bytes) page) (at + length bytes) front_length

  pub written_more : (more : List ℕ) → written_at more (written_at bytes page at) (at + length bytes) ≡ written_at (bytes ++ more) page at
  written_more more =
      let n = at + length bytes in
      let whole : n + length more ≡ at + length (bytes ++ more) = omega (arith, length-append bytes more) in
      ap (λ l. l ++ (more ++ drop (n + length more) (written_at bytes page at))) take_written
      ∙ ap (λ l. (take at page ++ bytes) ++ (more ++ l)) (sym (drop-drop (length more) n (written_at bytes page at)) ∙ ap (drop (length more)) drop_written ∙ drop-drop (length more) n page)
      ∙ append_assoc (take at page) bytes (more ++ drop (n + length more) page)
      ∙ ap (λ l. take at page ++ l) (sym (append_assoc bytes more (drop (n + length more) page)))
      ∙ ap (λ k. take at page ++ ((bytes ++ more) ++ drop k page)) whole

  -- what `put` and `print` write and answer where there is room
  pub put_is : put_buffer bytes page at ≡ written_at bytes page at
  put_is = ap (λ b. buffer_if b bytes page at) (le-leb _ _ room)

  pub count_is : put_count bytes page at ≡ Some (length bytes)
  count_is = ap (λ b. count_if b (length bytes)) (le-leb _ _ room)

-- nothing was put
pub wrote_none : (page : List ℕ) (at : ℕ) → at ≤ length page → Wrote [] page at page at
wrote_none page at h =
    record {
      stands = sym (take-append-drop at page) ∙ ap (λ (k : ℕ). take at page ++ drop k page) (omega arith);
      ends = omega arith;
      within = h;
    }

-- one part and then another
pub wrote_more :
    {first second page : List ℕ} {at : ℕ} {mid : List ℕ} {here : ℕ} {after : List ℕ} {next : ℕ} →
    Wrote first page at mid here → Wrote second mid here after next → Wrote (first ++ second) page at after next
wrote_more {first} {second} {page} {at} {mid} {here} {after} {next} a b =
    let room : at + length first ≤ length page = omega (arith, a.ends, a.within) in
    record {
      stands =
          b.stands
          ∙ ap (λ (k : ℕ). written_at second mid k) a.ends
          ∙ ap (λ (l : List ℕ). written_at second l (at + length first)) a.stands
          ∙ written_more first page at room second;
      ends = omega (arith, a.ends, b.ends, length-append first second);
      within = omega (arith, b.within, ap length a.stands, length_written first page at room);
    }

-- the bytes by another name
pub wrote_as : {bytes same page : List ℕ} {at : ℕ} {after : List ℕ} {next : ℕ} → bytes ≡ same → Wrote bytes page at after next → Wrote same page at after next
wrote_as {bytes} {same} {page} {at} {after} {next} e w = subst (λ (l : List ℕ). Wrote l page at after next) e w

-- whole lines, where as many bytes as were asked for were free
pub all_written :
    (most : ℕ) {lines page : List ℕ} {at : ℕ} {after : List ℕ} {next : ℕ} → free most page at ≡ true →
    Wrote lines page at after next → (Some next ≡ next_after most lines page at) × (after ≡ page_with most lines page at)
all_written most {lines} {page} {at} {after} {next} enough w = (
  ap Some w.ends ∙ ap (λ (b : Bool). next_if b lines at) (sym enough),
  w.stands
      ∙ sym (put_is lines page at (omega (arith, w.ends, w.within)))
      ∙ ap (λ (b : Bool). page_if b lines page at) (sym enough),
)
