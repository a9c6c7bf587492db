-- What can happen to a pile, and what follows from the list of events alone. Lists of events are oldest first.
-- Of the pile that is meant only its settings are looked at: which classes it counts, whether it takes leaves, its bound.
use Rattle.std.specs.Prelude.{◌≡◌, ℕ, zero, suc, pred, ◌+◌, ◌<◌, min, Bool, true, false, cond, ◌||◌, ◌⊎◌, List, [], ◌∷◌, length, ◌==◌}
use Rattle.pile.specs.Meaning.{Meaning}

pub data Event : Type 0 where
  -- a key of the class came in under the tag
  came : (tag class : ℕ) → Event
  -- the key of the class that had the tag went
  went : (tag class : ℕ) → Event

-- whether the tag is on the list
abbrev pub has : List ℕ → (tag : ℕ) → Bool
has [] tag = false
has (t ∷ ts) tag = t == tag || has ts tag

-- the list with the tag taken off it
abbrev pub without : List ℕ → (tag : ℕ) → List ℕ
without [] tag = []
without (t ∷ ts) tag = cond (t == tag) ts (t ∷ without ts tag)

-- what the events so far come to
pub record Tally : Type 0 where
  -- the counted tags that are live
  pub tags : List ℕ
  -- the counted leaves that no later counted entry has made up for
  pub unpaired : ℕ

abbrev pub nothing_yet : Tally
nothing_yet = record { tags = []; unpaired = 0 }

-- a counted entry makes up for one unpaired leave, if there is one
abbrev pub tally_came : (counted : Bool) → Tally → (tag : ℕ) → Tally
tally_came false t tag = t
tally_came true t tag = record { tags = tag ∷ t.tags; unpaired = pred t.unpaired }

abbrev pub tally_went : (counted : Bool) → Tally → (tag : ℕ) → Tally
tally_went false t tag = t
tally_went true t tag = record { tags = without t.tags tag; unpaired = suc t.unpaired }

abbrev pub tally_next : Meaning → Tally → Event → Tally
tally_next m t (came tag class) = tally_came (m.counted class) t tag
tally_next m t (went tag class) = tally_went (m.counted class) t tag

abbrev pub tally_after : Meaning → Tally → List Event → Tally
tally_after m t [] = t
tally_after m t (e ∷ es) = tally_after m (tally_next m t e) es

-- the radix of an entry: 1 if its class is not counted, N + 1 if no leave is unpaired, and else the number of unpaired leaves
abbrev pub radix_of : (counted : Bool) (unpaired live : ℕ) → ℕ
radix_of false d n = 1
radix_of true zero n = n + 1
radix_of true (suc d) n = suc d

-- the radices, one for each entry
abbrev pub radices_after : Meaning → Tally → List Event → List ℕ
radices_after m t [] = []
radices_after m t (came tag class ∷ es) =
    radix_of (m.counted class) t.unpaired (length t.tags) ∷ radices_after m (tally_next m t (came tag class)) es
radices_after m t (went tag class ∷ es) = radices_after m (tally_next m t (went tag class)) es

-- A counted entry is of a tag that is not live, and finds an unpaired leave or fewer than 1,024 live. A counted leave is of a tag that is live,
-- and the pile takes leaves. What is not counted may always happen.
abbrev pub May : Meaning → Tally → Event → Type 0
May m t (came tag class) =
    m.counted class ≡ true → (has t.tags tag ≡ false) × ((0 < t.unpaired) ⊎ (length t.tags < 1024))
May m t (went tag class) = m.counted class ≡ true → (has t.tags tag ≡ true) × (m.leaves ≡ true)

abbrev pub PossibleAfter : Meaning → Tally → List Event → Type 0
PossibleAfter m t [] = Unit {0}
PossibleAfter m t (e ∷ es) = May m t e × PossibleAfter m (tally_next m t e) es

-- the events can happen, in this order, to a pile that was new
abbrev pub Possible : Meaning → List Event → Type 0
Possible m es = PossibleAfter m nothing_yet es

-- the counted tags that are live after the events
abbrev pub live_tags : Meaning → List Event → List ℕ
live_tags m es = (tally_after m nothing_yet es).tags

-- N: how many they are
abbrev pub live_count : Meaning → List Event → ℕ
live_count m es = length (live_tags m es)

-- d: the counted leaves that no later counted entry made up for
abbrev pub unpaired_count : Meaning → List Event → ℕ
unpaired_count m es = (tally_after m nothing_yet es).unpaired

-- L: how many places there are after the events
abbrev pub place_count : Meaning → List Event → ℕ
place_count m es = min m.bound (live_count m es + unpaired_count m es)

abbrev pub radices : Meaning → List Event → List ℕ
radices m es = radices_after m nothing_yet es
