-- The laws: over all tapes, no sample is favoured.
use Rattle.std.specs.Prelude.{◌≡◌, ℕ, ◌+◌, ◌*◌, true, false, List, length}
use Rattle.pile.specs.Meaning.{Meaning}
use Rattle.evenness.specs.Counting.{choose, choose_less}
use Rattle.evenness.specs.Events.{Event, has, live_tags, live_count, unpaired_count, place_count}
use Rattle.evenness.specs.Tapes.{sample, SetOf, tape_count, sample_count}

-- The share of a set of live tags among all tapes is choose (d, L - a) in choose (N + d, L), where a is the set's size.
abbrev pub Shares : Meaning → List Event → Type 0
Shares m es =
    (set : List ℕ) → SetOf (live_tags m es) set →
    sample_count m es set * choose (live_count m es + unpaired_count m es) (place_count m es)
    ≡ tape_count m es * choose_less (unpaired_count m es) (place_count m es) (length set)

-- Two sets of live tags of one size are the sample under equally many tapes.
abbrev pub EqualShares : Meaning → List Event → Type 0
EqualShares m es =
    (set other : List ℕ) → SetOf (live_tags m es) set → SetOf (live_tags m es) other → length set ≡ length other →
    sample_count m es set ≡ sample_count m es other

-- A set with a tag that is not live is the sample under no tape.
abbrev pub NoOthers : Meaning → List Event → Type 0
NoOthers m es =
    (set : List ℕ) (tag : ℕ) → has set tag ≡ true → has (live_tags m es) tag ≡ false → sample_count m es set ≡ 0

-- What is the same under every tape: N, d and the number of places are those that follow from the events.
pub record Reached (m : Meaning) (es : List Event) (reached : Meaning) : Type 0 where
  pub live : reached.live ≡ live_count m es
  pub unpaired : reached.unpaired ≡ unpaired_count m es
  pub as_many_places : length reached.places ≡ place_count m es
  -- each tag that stands is live, and stands once
  pub standing : SetOf (live_tags m es) (sample reached.places)
