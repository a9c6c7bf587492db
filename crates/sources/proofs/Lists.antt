-- Drawing for a list of radices, draw by draw.
use Rattle.std.proofs.Common.{◌≡◌, ℕ, ◌+◌, ◌<◌, ◌≤◌, List, [], ◌∷◌, ◌++◌, length, get_or, take, drop, min, Some, None, sym, rules, arith, append-nil}
use Rattle.std.proofs.lemmas.Grind.{common_steps}
use Rattle.std.proofs.lemmas.List.{take-take, take_min, take-append-drop, drop_more, get_or-take, length-take-le}
use Rattle.sources.specs.Answers.{Refusal}
use Rattle.sources.specs.Courses.{Given, nothing, all_before}
use Rattle.sources.specs.Drawing.{asked_for, put_front}

-- after i draws: what the source gave first is these draws and then what it gives now, and the rest of the room is as it was
pub record SoFar (first now : List ℕ → Given) (radices room draws : List ℕ) (i : ℕ) : Type 0 where
  pub course : (more : List ℕ) → first (take i radices ++ more) ≡ all_before (take i draws) (now more)
  pub rest : drop i draws ≡ drop i room
  pub as_long : length draws ≡ length room
  pub below : (k : ℕ) → k < i → get_or draws k 0 < get_or radices k 0

-- draws that go on as the room did stand in front of it
pub put : (draws room : List ℕ) (i : ℕ) → i ≤ length draws → drop i draws ≡ drop i room → draws ≡ put_front (take i draws) room
put draws room i h e = search (rules, take-append-drop i draws, length-take-le i draws h)

-- the radices drawn for are those so far, this one, and some more
asked_on : (radices : List ℕ) (n i : ℕ) → i < n → i < length radices → take n radices ≡ take i radices ++ (get_or radices i 0 ∷ drop (i + 1) (take n radices))
asked_on radices n i l h = grind (arith, common_steps, take-append-drop i (take n radices), take-take i n radices, drop_more (take n radices) i 0, get_or-take n radices i 0 l)

-- what a refusal leaves
pub stopped : (first now : List ℕ → Given) (radices room draws : List ℕ) (i radix : ℕ) → SoFar first now radices room draws i → i < length radices → i < length room → radix ≡ get_or radices i 0 → (refusal : Refusal) → ((more : List ℕ) → now (radix ∷ more) ≡ record { draws = []; refusal = Some refusal }) → first (asked_for radices room) ≡ record { draws = take i draws; refusal = Some refusal }
stopped first now radices room draws i radix so h l is refusal e =
    let later = drop (i + 1) (asked_for radices room) in
    search (rules, asked_on radices (length room) i l h, so.course (radix ∷ later), e later, append-nil (take i draws))

-- and what is left at the end of the radices or of the room
pub finished : (first now : List ℕ → Given) (radices room draws : List ℕ) (i : ℕ) → SoFar first now radices room draws i → i ≡ min (length radices) (length room) → now [] ≡ nothing → first (asked_for radices room) ≡ record { draws = take i draws; refusal = None }
finished first now radices room draws i so e none =
    let n : min (length room) (length radices) ≡ i = omega arith in
    search (rules, sym (take_min (length room) radices), n, so.course [], none, append-nil (take i radices), append-nil (take i draws))
