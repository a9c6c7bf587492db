-- The shares of sets of keys, from the shares of sets of tags.
use Rattle.std.proofs.Common.{◌≡◌, ℕ, ◌+◌, ◌*◌, min, Bool, true, false, cond, List, get_or, Some, None, count_by, sym, refl, ap, ◌∙◌, subst, ap₂, ⊎_elim}
use Rattle.std.specs.List.{AllByRecursion}
use Rattle.std.proofs.lemmas.Bool.{and_left, both_ways, cases_Bool}
use Rattle.pile.specs.Meaning.{Meaning, New}
use Rattle.evenness.specs.Counting.{choose, choose_less}
use Rattle.evenness.specs.Events.{Event, live_tags, live_count, place_count}
use Rattle.evenness.specs.Laws.{Reached}
use Rattle.evenness.specs.Tapes.{tapes, Tape, under, has_all, hold, SetOf, sample as tags_on, sample_count}
use Rattle.evenness.proofs.Laws.{shares as tag_shares, equal_shares as equal_tag_shares, under_every_tape}
use Rattle.evenness.proofs.Totals.{sum_by_total, total_same, total_zero, all_tapes as listed_tapes}
use Rattle.calls.specs.Book.{Book, new_book}
use Rattle.calls.specs.Lists.{Listed}
use Rattle.calls.specs.Past.{Ledger, counted_live, events}
use Rattle.calls.specs.Promise.{has_form, has_forms, same_set, past_ledger, N, d, L, list_radices, all_tapes, sample_under, tapes_giving, CountedLiveSet}
use Rattle.calls.specs.Laws.{ListShares}
use Rattle.calls.proofs.Ledgers.{Kept, counted_keys, same_number, ledger_kept}
use Rattle.calls.proofs.Members.{Member, tags, forms, counted_among, Apart, all_counted, apart_counted}
use Rattle.calls.proofs.Sets.{Matched, same_sets, tags_distinct, matched_among, matched_forms, forms_have, matched_length, tags_for, sample_matched}

-- equally many of a list pass two tests that agree on what is listed
count_same :
    {X : Type 0} (P : X → Type 0) (p q : X → Bool) → ((x : X) → P x → p x ≡ q x) → (xs : List X) → AllByRecursion P xs → count_by p xs ≡ count_by q xs
count_same P p q h xs all =
    sum_by_total (λ x. cond (p x) 1 0) xs
    ∙ total_same P (λ x. cond (p x) 1 0) (λ x. cond (q x) 1 0) (λ x k. ap (λ b. cond b 1 0) (h x k)) xs all
    ∙ sym (sum_by_total (λ x. cond (q x) 1 0) xs)

count_none :
    {X : Type 0} (P : X → Type 0) (p : X → Bool) → ((x : X) → P x → p x ≡ false) → (xs : List X) → AllByRecursion P xs → count_by p xs ≡ 0
count_none P p h xs all =
    sum_by_total (λ x. cond (p x) 1 0) xs
    ∙ total_same P (λ x. cond (p x) 1 0) (λ x. 0) (λ x k. ap (λ b. cond b 1 0) (h x k)) xs all ∙ total_zero xs

module _ (m : Meaning) (b : Book) (new : New m) (fresh : new_book b ≡ true) (calls : List Listed) where
  abbrev l : Ledger
  l = past_ledger m b calls

  abbrev es : List Event
  es = events l.past

  kept : Kept m l
  kept = ledger_kept m b calls fresh

  -- the counted live keys with their tags
  abbrev live_members : List Member
  live_members = counted_among m.counted kept.members

  live_is : live_tags m es ≡ tags live_members
  live_is = kept.tags_live

  keys_are : counted_live m l.past ≡ forms live_members
  keys_are = counted_keys m l kept

  members_apart : Apart live_members
  members_apart = apart_counted m.counted kept.members kept.seated.apart

  pub N_is : N m b calls ≡ live_count m es
  N_is = same_number m l kept

  pub L_is : L m b calls ≡ place_count m es
  L_is = ap (λ n. min m.bound (n + d m b calls)) N_is

  pub reached : (tape : List ℕ) → Tape (list_radices m b calls) tape → Reached m es (under m es tape)
  reached tape draws = under_every_tape m es tape new kept.possible draws

  -- under a tape the keys of the sample are those of the tags that stand
  sample_tags :
      (tape : List ℕ) → Tape (list_radices m b calls) tape →
      Matched live_members (tags_on (under m es tape).places) (sample_under m b calls tape)
  sample_tags tape draws =
      sample_matched l.book.slots live_members l.book (under m es tape).places refl
      (all_counted (λ x. get_or l.book.slots x.tag None ≡ Some x.key) m.counted kept.members kept.seated.sits)
      (subst (λ (ts : List ℕ). has_all ts (tags_on (under m es tape).places) ≡ true) live_is (reached tape draws).standing.among)

  -- a set of keys is the sample as often as the set of its tags is
  tapes_by_tags : (set : List (List ℕ)) (ts : List ℕ) → Matched live_members ts set → tapes_giving m b calls set ≡ sample_count m es ts
  tapes_by_tags set ts match =
      count_same (Tape (list_radices m b calls)) (λ tape. same_set (sample_under m b calls tape) set)
      (λ tape. hold (under m es tape).places ts)
      (λ tape draws.
      same_sets live_members members_apart (tags_on (under m es tape).places) ts (sample_under m b calls tape) set
      (sample_tags tape draws) match)
      (tapes (list_radices m b calls)) (listed_tapes (list_radices m b calls))

  set_tags : (set : List (List ℕ)) → CountedLiveSet m b calls set → (ts : List ℕ) × Matched live_members ts set
  set_tags set of = tags_for live_members set (subst (λ (fs : List (List ℕ)). has_forms fs set ≡ true) keys_are of.among)

  tag_set : (set : List (List ℕ)) (ts : List ℕ) → CountedLiveSet m b calls set → Matched live_members ts set → SetOf (live_tags m es) ts
  tag_set set ts of match =
      record {
        distinct = tags_distinct live_members members_apart ts set match of.distinct;
        among = subst (λ (us : List ℕ). has_all us ts ≡ true) (sym live_is) (matched_among live_members ts set match);
      }

  not_sampled :
      (set : List (List ℕ)) (form : List ℕ) → has_form set form ≡ true → has_form (counted_live m l.past) form ≡ false →
      (tape : List ℕ) → Tape (list_radices m b calls) tape → same_set (sample_under m b calls tape) set ≡ false
  not_sampled set form on off tape draws =
      let shown = sample_under m b calls tape in
      let ts = tags_on (under m es tape).places in
      let live : has_forms (forms live_members) shown ≡ true = matched_forms live_members ts shown (sample_tags tape draws) in
      and_left (has_forms shown set) (has_forms set shown)
      (⊎_elim
      (λ held.
      absurd
      (both_ways (has_form (counted_live m l.past) form) off
      (ap (λ fs. has_form fs form) keys_are ∙ forms_have (forms live_members) shown form live (forms_have shown set form held on))))
      (λ none. none) (cases_Bool (has_forms shown set)))

  pub list_shares : ListShares m b calls
  list_shares =
      record {
        equal_shares =
            λ set other of of' same.
            let ts = set_tags set of in
            let us = set_tags other of' in
            tapes_by_tags set ts.0 ts.1
            ∙ equal_tag_shares m es new kept.possible ts.0 us.0 (tag_set set ts.0 of ts.1) (tag_set other us.0 of' us.1)
            (matched_length live_members ts.0 set ts.1 ∙ same ∙ sym (matched_length live_members us.0 other us.1))
            ∙ sym (tapes_by_tags other us.0 us.1);
        shares =
            λ set of.
            let ts = set_tags set of in
            ap₂ ◌*◌ (tapes_by_tags set ts.0 ts.1) (ap₂ (λ n k. choose (n + d m b calls) k) N_is L_is)
            ∙ tag_shares m es new kept.possible ts.0 (tag_set set ts.0 of ts.1)
            ∙ ap₂ (λ k a. all_tapes m b calls * choose_less (d m b calls) k a) (sym L_is) (matched_length live_members ts.0 set ts.1);
        no_others =
            λ set form on off.
            count_none (Tape (list_radices m b calls)) (λ tape. same_set (sample_under m b calls tape) set) (not_sampled set form on off)
            (tapes (list_radices m b calls)) (listed_tapes (list_radices m b calls));
      }
