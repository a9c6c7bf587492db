-- What std's searches over the places find, in the words of the rules, and that it is a place; and what a fold over them counts.
use Rattle.std.proofs.Common.{◌≡◌, ℕ, zero, suc, ◌+◌, ◌<◌, ◌≤◌, Bool, true, false, List, [], ◌∷◌, length, is_some, not, cond, option_map, eqb, IfSome, Some, None, Option, Bor, sym, refl, ap, ◌∙◌, arith}
use Rattle.std.specs.List.{position, position_from, filter, fold, enumerate_from, slice_get}
use Rattle.std.specs.Option.{option_eq}
use Rattle.std.proofs.lemmas.Iterator.Adapters.{position_from-zero}
use Rattle.pile.proofs.Counts.{one_more, counted}
use Rattle.pile.specs.Answers.{Place}
use Rattle.pile.specs.Meaning.{standing}
use Rattle.pile.specs.Rules.{further, hole_place, holds_tag, tag_place, tag_place_when}

-- one place more, as a count of what is there
pub standing_step : (p : Place) (ps : List Place) → standing (p ∷ ps) ≡ cond (is_some p) (1 + standing ps) (standing ps)
standing_step (Some t) ps = omega arith
standing_step None ps = refl

-- what a fold over the places counts
pub standing_folded : (ps : List Place) (n : ℕ) → n ≡ fold (one_more is_some) 0 ps → length ps ≤ 64 → (n ≡ standing ps) × (n ≤ 64)
standing_folded ps n e few = counted standing is_some refl standing_step ps n 64 e few (omega arith)

-- n places further on
abbrev pub moved : ℕ → Option ℕ → Option ℕ
moved n None = None
moved n (Some i) = Some (n + i)

pub moved_none : (o : Option ℕ) → moved 0 o ≡ o
moved_none None = refl
moved_none (Some i) = ap Some (omega arith)

pub moved_more : (n : ℕ) (o : Option ℕ) → moved n (further o) ≡ moved (n + 1) o
moved_more n None = refl
moved_more n (Some i) = ap Some (omega arith)

abbrev pub is_tag : (tag : ℕ) → Place → Bool
is_tag t p = option_eq eqb p (Some t)

tag_from : (ps : List Place) (t n : ℕ) → moved n (tag_place ps t) ≡ position_from (is_tag t) n ps
tag_from [] t n = refl
tag_from (None ∷ ps) t n = moved_more n (tag_place ps t) ∙ tag_from ps t (n + 1)
tag_from (Some u ∷ ps) t n = by (eqb u t) (tag_place ps t) (tag_from ps t (n + 1))
  where
    by : (b : Bool) (o : Option ℕ) → moved (n + 1) o ≡ position_from (is_tag t) (n + 1) ps → moved n (tag_place_when b o) ≡ cond b (Some n) (position_from (is_tag t) (n + 1) ps)
    by true o e = ap Some (omega arith)
    by false o e = moved_more n o ∙ e

pub tag_position : (ps : List Place) (t : ℕ) → tag_place ps t ≡ position (is_tag t) ps
tag_position ps t = sym (moved_none (tag_place ps t)) ∙ tag_from ps t 0 ∙ sym (position_from-zero (is_tag t) ps)

-- a place with its number
abbrev pub is_hole : ℕ × Place → Bool
is_hole q = not (is_some q.1)

abbrev pub number : Option (ℕ × Place) → Option ℕ
number = option_map (λ q. q.0)

hole_from : (ps : List Place) (r n : ℕ) → moved n (hole_place ps r) ≡ number (slice_get (filter is_hole (enumerate_from n ps)) r)
hole_from [] r n = refl
hole_from (Some t ∷ ps) r n = moved_more n (hole_place ps r) ∙ hole_from ps r (n + 1)
hole_from (None ∷ ps) zero n = ap Some (omega arith)
hole_from (None ∷ ps) (suc r) n = moved_more n (hole_place ps r) ∙ hole_from ps r (n + 1)

pub hole_nth : (ps : List Place) (r : ℕ) → hole_place ps r ≡ number (slice_get (filter is_hole (enumerate_from 0 ps)) r)
hole_nth ps r = sym (moved_none (hole_place ps r)) ∙ hole_from ps r 0

-- the number, where the place is behind a reference
pub number_of : (o : Option (ℕ × Bor Place)) → option_map (λ q. q.0) o ≡ number (option_map (λ q. (q.0, q.1.now)) o)
number_of None = refl
number_of (Some q) = refl

-- what a search finds is one of n places
abbrev pub Within : Option ℕ → ℕ → Type 0
Within o n = IfSome o (λ i. i < n)

further_within : (o : Option ℕ) (n : ℕ) → Within o n → Within (further o) (suc n)
further_within None n h = tt
further_within (Some i) n h = omega arith

pub hole_within : (ps : List Place) (r : ℕ) → Within (hole_place ps r) (length ps)
hole_within [] r = tt
hole_within (Some t ∷ ps) r = further_within (hole_place ps r) (length ps) (hole_within ps r)
hole_within (None ∷ ps) zero = omega arith
hole_within (None ∷ ps) (suc r) = further_within (hole_place ps r) (length ps) (hole_within ps r)

tag_within_when : (b : Bool) (o : Option ℕ) (n : ℕ) → Within o n → Within (tag_place_when b o) (suc n)
tag_within_when true o n h = omega arith
tag_within_when false o n h = further_within o n h

pub tag_within : (ps : List Place) (t : ℕ) → Within (tag_place ps t) (length ps)
tag_within [] t = tt
tag_within (p ∷ ps) t = tag_within_when (holds_tag p t) (tag_place ps t) (length ps) (tag_within ps t)
