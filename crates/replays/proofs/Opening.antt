-- What comes of the opening.
use Rattle.std.proofs.Common.{◌≡◌, ℕ, ◌<◌, ◌≤◌, Bool, true, false, not, ◌&&◌, eqb, leb, List, length, get_or, replicate, None, Option, sym, refl, ap, ◌∙◌, ⊎_elim, arith, rules}
use Rattle.std.proofs.lemmas.List.{get_or-replicate, get_or_past, length-replicate}
use Rattle.std.proofs.lemmas.Bool.{and_parts, and_from, leb-true, le-leb, ltb-true, cases_lt}
use Rattle.pile.specs.Answers.{Told, told, refused}
use Rattle.pile.specs.Meaning.{Sound, New}
use Rattle.pile.specs.Opening.{asked, one_to_64, or_one, taken_size}
use Rattle.bottoms.specs.Bottoms.{opened, all_classes}
use Rattle.bottoms.proofs.Bottoms.{opened_sound}
use Rattle.layers.specs.Layers.{in_set, filtered, fronted}
use Rattle.layers.specs.Fronts.{fronted_sound, fronted_new}
use Rattle.calls.specs.Book.{KeyView, opened_book}
use Rattle.calls.proofs.Rosters.{new_well_kept, opened_is_new}
use Rattle.calls.proofs.Searches.{none_some}
use Rattle.roster.specs.Opening.{capacity_passes}
use Rattle.replays.specs.Kinds.{Kind, numbers, names, LawfulKind}
use Rattle.replays.specs.Marks.{mark_SL, marked}
use Rattle.replays.specs.Refusals.{in_opening, in_log, plain}
use Rattle.replays.specs.Replays.{start, log_kind, kind_if}
use Rattle.replays.specs.Settings.{Setting, setting_in, kind_named, front_asked, classes_asked, bound_asked, capacity_asked, setting_rule, new_pile, Opened, opens_with, not_opened, opened_by, opened_kind, opened_when, opening}
use Rattle.replays.proofs.Kept.{Kept}
use Rattle.replays.proofs.KindLaws.{numbers_lawful, names_lawful}
use Rattle.replays.proofs.Slots.{counted_none}

-- settings that passed
pub record Passed (s : Setting) : Type 0 where
  pub some_slot : 1 ≤ s.capacity
  pub few_slots : s.capacity ≤ 1024
  pub some_bound : 1 ≤ s.bound
  pub few_bound : s.bound ≤ 64
  pub some_front : 1 ≤ s.front
  pub few_front : s.front ≤ 64

pub data SettingComes (s : Setting) : Told Setting → Type 0 where
  setting_refused : (number : ℕ) → 1 ≤ number → number ≤ 4 → SettingComes s (refused number)
  setting_passed : Passed s → SettingComes s (told s)

pub setting_comes : (s : Setting) → SettingComes s (setting_rule s)
setting_comes s = by_capacity (capacity_passes s.capacity 1024) refl
  where
    by_front : (b : Bool) → one_to_64 s.front ≡ b → capacity_passes s.capacity 1024 ≡ true → one_to_64 s.bound ≡ true → SettingComes s (front_asked (asked b 4 s.front) s)
    by_front false e c b = setting_refused 4 (omega arith) (omega arith)
    by_front true e c b =
        let cap = and_parts (leb 1 s.capacity && leb s.capacity 1024) (leb s.capacity 1024) c in
        let cap1 = and_parts (leb 1 s.capacity) (leb s.capacity 1024) cap.0 in
        let bound = and_parts (leb 1 s.bound) (leb s.bound 64) b in
        let front = and_parts (leb 1 s.front) (leb s.front 64) e in
        setting_passed
        (record {
          some_slot = leb-true 1 s.capacity cap1.0;
          few_slots = leb-true s.capacity 1024 cap1.1;
          some_bound = leb-true 1 s.bound bound.0;
          few_bound = leb-true s.bound 64 bound.1;
          some_front = leb-true 1 s.front front.0;
          few_front = leb-true s.front 64 front.1;
        })

    by_classes : (b : Bool) → capacity_passes s.capacity 1024 ≡ true → one_to_64 s.bound ≡ true → SettingComes s (classes_asked (asked b 3 s.classes) s)
    by_classes false c b = setting_refused 3 (omega arith) (omega arith)
    by_classes true c b = by_front (one_to_64 s.front) refl c b

    by_bound : (b : Bool) → one_to_64 s.bound ≡ b → capacity_passes s.capacity 1024 ≡ true → SettingComes s (bound_asked (asked b 2 s.bound) s)
    by_bound false e c = setting_refused 2 (omega arith) (omega arith)
    by_bound true e c = by_classes (not (eqb s.classes 0)) c e

    by_capacity : (b : Bool) → capacity_passes s.capacity 1024 ≡ b → SettingComes s (capacity_asked (asked b 1 s.capacity) s)
    by_capacity false e = setting_refused 1 (omega arith) (omega arith)
    by_capacity true e = by_bound (one_to_64 s.bound) refl e

-- the opening
pub data OpeningComes (log : List ℕ) : Opened → Type 0 where
  opening_refused : (number : ℕ) → 1 ≤ number → number ≤ 4 → OpeningComes log (not_opened (plain in_opening number 0))
  opening_cut : OpeningComes log (not_opened (plain in_log 23 0))
  opening_unknown : 0 < length log → OpeningComes log (not_opened (plain in_log 24 0))
  opening_passed :
      (kind : Kind) → LawfulKind kind → log_kind log ≡ kind → 8 ≤ length log → Passed (setting_in log) →
      OpeningComes log (opens_with kind (setting_in log))

pub opening_comes : (log : List ℕ) → OpeningComes log (opening log)
opening_comes log = by_marks (leb 2 (length log)) (marked mark_SL log) (leb 8 (length log)) refl refl
  where
    by_settings : (kind : Kind) → LawfulKind kind → log_kind log ≡ kind → 8 ≤ length log → (t : Told Setting) → SettingComes (setting_in log) t → OpeningComes log (opened_by t kind)
    by_settings kind lawful is whole _ (setting_refused number some few) = opening_refused number some few
    by_settings kind lawful is whole _ (setting_passed passed) = opening_passed kind lawful is whole passed

    by_kind : (n b : Bool) → eqb (get_or log 2 0) 78 ≡ n → 8 ≤ length log → OpeningComes log (opened_kind (kind_named n b) log)
    by_kind true b e whole = by_settings numbers numbers_lawful (ap kind_if e) whole (setting_rule (setting_in log)) (setting_comes (setting_in log))
    by_kind false true e whole = by_settings names names_lawful (ap kind_if e) whole (setting_rule (setting_in log)) (setting_comes (setting_in log))
    by_kind false false e whole = opening_unknown (omega arith)

    by_marks : (two sl all : Bool) → leb 2 (length log) ≡ two → leb 8 (length log) ≡ all → OpeningComes log (opened_when two sl all log)
    by_marks false sl all e w = opening_cut
    by_marks true false all e w = opening_unknown (omega (arith, leb-true 2 (length log) e))
    by_marks true true false e w = opening_cut
    by_marks true true true e w = by_kind (eqb (get_or log 2 0) 78) (eqb (get_or log 2 0) 66) refl (leb-true 8 (length log) w)

-- what it opens is new and sound
pub new_sound : (s : Setting) → Passed s → Sound (new_pile s)
new_sound s p = fronted_sound s.front (filtered s.classes (opened true s.bound)) p.some_front p.few_front below
  where
    bottom_sound : Sound (opened true s.bound)
    bottom_sound = opened_sound true s.bound

    below : Sound (filtered s.classes (opened true s.bound))
    below =
        record {
          some_place = bottom_sound.some_place;
          few_places = bottom_sound.few_places;
          classes = λ c e. ltb-true c 8 (and_parts (in_set s.classes c) (all_classes c) e).1;
          as_many_places = bottom_sound.as_many_places;
          few_holes = bottom_sound.few_holes;
          few_keys = bottom_sound.few_keys;
        }

-- what passed is taken as it is, so this is the pile that the openings of front, filter and bottom give
pub taken_as_it_is : (n : ℕ) → 1 ≤ n → n ≤ 64 → taken_size n ≡ n
taken_as_it_is n some few = ap (λ passes. or_one passes n) (and_from (leb 1 n) (leb n 64) (le-leb 1 n some) (le-leb n 64 few))

pub new_pile_is : (s : Setting) → Passed s → new_pile s ≡ fronted (taken_size s.front) (filtered s.classes (opened true s.bound))
new_pile_is s p =
    ap (λ size. fronted size (filtered s.classes (opened true s.bound))) (sym (taken_as_it_is s.front p.some_front p.few_front))

pub new_is_new : (s : Setting) → New (new_pile s)
new_is_new s =
    fronted_new s.front (filtered s.classes (opened true s.bound))
    (record { none_live = refl; none_unpaired = refl; no_places = refl })

pub free_slots : (n tag : ℕ) → get_or {A = Option KeyView} (replicate n None) tag None ≡ None
free_slots n tag =
    ⊎_elim (λ l. get_or-replicate n tag None None l)
    (λ past. get_or_past (replicate n None) tag None (omega (arith, length-replicate {A = Option KeyView} n None))) (cases_lt tag n)

pub kept_start : (kind : Kind) (tape : List ℕ) (s : Setting) → Passed s → Kept kind tape (start s)
kept_start kind tape s p =
    record {
      none_open = refl;
      well = new_well_kept (opened_book s.capacity) (opened_is_new s.capacity);
      sound = new_sound s p;
      takes = refl;
      counts = sym (counted_none (new_pile s).counted s.capacity);
      few_slots = omega (arith, p.few_slots, length-replicate {A = Option KeyView} s.capacity None);
      keys = λ tag key at. absurd (none_some key (sym (free_slots s.capacity tag) ∙ at));
      used = omega arith;
      few_readings = omega arith;
    }
