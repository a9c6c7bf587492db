-- What holds of every ledger: its slots hold the live keys under their tags, and its events can happen to a new pile.
use Rattle.std.proofs.Common.{◌≡◌, ℕ, zero, suc, ◌<◌, Bool, true, false, cond, not, ◌⊎◌, List, [], ◌∷◌, ◌++◌, length, get_or, set, is_some, Some, None, Option, sym, refl, ap, ◌∙◌, subst, append_assoc}
use Rattle.std.proofs.lemmas.List.{append-nil}
use Rattle.std.proofs.lemmas.Bool.{and_parts, false≢true}
use Rattle.pile.specs.Answers.{Place}
use Rattle.pile.specs.Meaning.{Meaning}
use Rattle.evenness.specs.Events.{Event, came, went, has, without, Tally, nothing_yet, tally_came, tally_went, tally_next, tally_after, May, PossibleAfter, Possible}
use Rattle.calls.specs.Book.{KeyView, OpenEntry, Book, new_book, all_free}
use Rattle.calls.specs.Calls.{Call, Verdict, refuses, opens, settles, withdraws, lets_go, tells, verdict}
use Rattle.calls.specs.Steps.{gone}
use Rattle.calls.specs.Lists.{Lot, next, instead, Listed}
use Rattle.calls.specs.Past.{Deed, arrived, departed, without_key, live_after, counted_forms_of, counted_live, event, events, number_live, number_unpaired, told_pile, Ledger, note_settled, noted, note, note_all, ledger}
use Rattle.calls.specs.Kept.{EntryFits}
use Rattle.calls.proofs.Members.{Member, keys, tags, forms, counted_among, all_but, Seated, newcomer, seated_more, seated_fewer, keys_fewer, tags_fewer, tags_same, tags_have, counted_forms, length_forms, all_counted, tags_lack}
use Rattle.calls.proofs.Piles.{shown, radix_called}
use Rattle.calls.proofs.Searches.{none_some}
use Rattle.calls.proofs.Verdicts.{placed, verdict_placed, Settles, LetsGo, Right, verdict_right}

-- lists that grow at the end
pub events_append : (past more : List Deed) → events (past ++ more) ≡ events past ++ events more
events_append [] more = refl
events_append (deed ∷ past) more = ap (λ es. event deed ∷ es) (events_append past more)

live_append : (ks : List KeyView) (past more : List Deed) → live_after ks (past ++ more) ≡ live_after (live_after ks past) more
live_append ks [] more = refl
live_append ks (arrived key tag ∷ past) more = live_append (key ∷ ks) past more
live_append ks (departed key tag ∷ past) more = live_append (without_key ks key.form) past more

tally_append : (m : Meaning) (t : Tally) (es more : List Event) → tally_after m t (es ++ more) ≡ tally_after m (tally_after m t es) more
tally_append m t [] more = refl
tally_append m t (e ∷ es) more = tally_append m (tally_next m t e) es more

possible_append :
    (m : Meaning) (t : Tally) (es more : List Event) → PossibleAfter m t es → PossibleAfter m (tally_after m t es) more →
    PossibleAfter m t (es ++ more)
possible_append m t [] more may may' = may'
possible_append m t (e ∷ es) more may may' = (may.0, possible_append m (tally_next m t e) es more may.1 may')

-- what the past comes to
abbrev pub tally : Meaning → List Deed → Tally
tally m past = tally_after m nothing_yet (events past)

pub tally_more : (m : Meaning) (past : List Deed) (deed : Deed) → tally m (past ++ deed ∷ []) ≡ tally_next m (tally m past) (event deed)
tally_more m past deed = ap (tally_after m nothing_yet) (events_append past (deed ∷ [])) ∙ tally_append m nothing_yet (events past) (event deed ∷ [])

possible_more :
    (m : Meaning) (past : List Deed) (deed : Deed) → Possible m (events past) → May m (tally m past) (event deed) →
    Possible m (events (past ++ deed ∷ []))
possible_more m past deed may one =
    subst (Possible m) (sym (events_append past (deed ∷ [])))
    (possible_append m nothing_yet (events past) (event deed ∷ []) may (one, tt))

pub record Kept (m : Meaning) (l : Ledger) : Type 0 where
  pub members : List Member
  pub seated : Seated l.book.slots members
  pub entry : EntryFits l.book.slots l.book.entry
  pub keys_live : live_after [] l.past ≡ keys members
  pub tags_live : (tally m l.past).tags ≡ tags (counted_among m.counted members)
  pub possible : Possible m (events l.past)

-- N by keys is N by tags
pub counted_keys :
    (m : Meaning) (l : Ledger) (k : Kept m l) → counted_live m l.past ≡ forms (counted_among m.counted k.members)
counted_keys m l k = ap (counted_forms_of m.counted) k.keys_live ∙ counted_forms m.counted k.members

pub same_number : (m : Meaning) (l : Ledger) → Kept m l → number_live m l.past ≡ length (tally m l.past).tags
same_number m l k =
    ap length (counted_keys m l k) ∙ length_forms (counted_among m.counted k.members) ∙ ap length (sym k.tags_live)

-- a pile with the settings of m and the counts of the ledger is judged as the ledger is
pub told_shown : (m : Meaning) (l : Ledger) → Kept m l → (ps : List Place) → shown m (tally m l.past) ps ≡ placed (told_pile m l.past) ps
told_shown m l k ps =
    λ i.
    record {
      bound = m.bound;
      counted = m.counted;
      leaves = m.leaves;
      live = sym (same_number m l k) i;
      unpaired = number_unpaired m l.past;
      places = ps;
    }

pub same_verdict :
    (m : Meaning) (l : Ledger) → Kept m l → (ps : List Place) (call : Call) →
    verdict l.book (shown m (tally m l.past) ps) call ≡ verdict l.book (told_pile m l.past) call
same_verdict m l k ps call =
    ap (λ p. verdict l.book p call) (told_shown m l k ps) ∙ verdict_placed l.book (told_pile m l.past) ps call

-- a new roster has no members
all_none : (slots : List (Option KeyView)) → all_free slots ≡ true → (slot : ℕ) → get_or slots slot None ≡ None
all_none [] free slot = refl
all_none (None ∷ slots) free zero = refl
all_none (None ∷ slots) free (suc slot) = all_none slots free slot
all_none (Some key ∷ slots) free slot = absurd (false≢true free)

pub new_parts : (b : Book) → new_book b ≡ true → ((slot : ℕ) → get_or b.slots slot None ≡ None) × EntryFits b.slots b.entry
new_parts b new =
    let parts = and_parts (all_free b.slots) (not (is_some b.entry)) new in
    (all_none b.slots parts.0, none_fits b.entry parts.1)
  where
    none_fits : (o : Option OpenEntry) → not (is_some o) ≡ true → EntryFits b.slots o
    none_fits None e = tt
    none_fits (Some entry) e = absurd (false≢true e)

pub new_kept : (m : Meaning) (b : Book) → new_book b ≡ true → Kept m (record { book = b; past = [] })
new_kept m b new =
    let parts = new_parts b new in
    record {
      members = [];
      seated =
          record { sits = tt; apart = tt; no_other = λ tag key at. absurd (none_some key (sym (parts.0 tag) ∙ at)) };
      entry = parts.1;
      keys_live = refl;
      tags_live = refl;
      possible = tt;
    }

-- an entry that is settled, and a leave, may happen to the pile
pub settled_may :
    (m : Meaning) (l : Ledger) (entry : OpenEntry) → Kept m l → Settles l.book (told_pile m l.past) entry →
    May m (tally m l.past) (came entry.tag entry.key.class)
settled_may m l entry k r c = (
  ap (λ ts. has ts entry.tag) k.tags_live
      ∙ tags_lack l.book.slots entry.tag r.openable.free (counted_among m.counted k.members)
      (all_counted (λ x. get_or l.book.slots x.tag None ≡ Some x.key) m.counted k.members k.seated.sits),
  subst (λ (n : ℕ). (0 < (tally m l.past).unpaired) ⊎ (n < 1024)) (same_number m l k)
      ((radix_called (told_pile m l.past) entry.key.class entry.radix r.called).room c),
)

pub gone_may :
    (m : Meaning) (l : Ledger) (key : KeyView) (tag : ℕ) → Kept m l → LetsGo l.book (told_pile m l.past) key tag →
    May m (tally m l.past) (went tag key.class)
gone_may m l key tag k r c = (
  ap (λ ts. has ts tag) k.tags_live ∙ tags_have l.book.slots key tag r.held m.counted k.members k.seated c,
  (r.takes c).0,
)

-- a settled entry
settled_kept :
    (m : Meaning) (l : Ledger) (entry : OpenEntry) → Kept m l → Settles l.book (told_pile m l.past) entry →
    Kept m (note_settled next entry l)
settled_kept m l entry k r =
    record {
      members = newcomer entry ∷ k.members;
      seated = seated_more l.book.slots entry r.openable k.members k.seated;
      entry = tt;
      keys_live = live_append [] l.past (deed ∷ []) ∙ ap (λ ks. entry.key ∷ ks) k.keys_live;
      tags_live = ap (λ t. t.tags) (tally_more m l.past deed) ∙ by (m.counted entry.key.class);
      possible =
          possible_more m l.past deed k.possible (settled_may m l entry k r);
    }
  where
    deed : Deed
    deed = arrived entry.key entry.tag

    by :
        (c : Bool) →
        (tally_came c (tally m l.past) entry.tag).tags
        ≡ tags (cond c (newcomer entry ∷ counted_among m.counted k.members) (counted_among m.counted k.members))
    by true = ap (λ ts. entry.tag ∷ ts) k.tags_live
    by false = k.tags_live

-- a leave
gone_kept :
    (m : Meaning) (l : Ledger) (key : KeyView) (tag : ℕ) → Kept m l → LetsGo l.book (told_pile m l.past) key tag →
    Kept m (record { book = gone l.book tag; past = l.past ++ departed key tag ∷ [] })
gone_kept m l key tag k r =
    record {
      members = all_but k.members tag;
      seated = seated_fewer slots key tag r.held k.members k.seated;
      entry = subst (EntryFits (set slots tag None)) (sym r.none_open) tt;
      keys_live =
          live_append [] l.past (deed ∷ []) ∙ ap (λ ks. without_key ks key.form) k.keys_live
          ∙ keys_fewer slots key tag r.held k.members k.seated;
      tags_live = ap (λ t. t.tags) (tally_more m l.past deed) ∙ by (m.counted key.class) refl;
      possible =
          possible_more m l.past deed k.possible (gone_may m l key tag k r);
    }
  where
    slots : List (Option KeyView)
    slots = l.book.slots

    deed : Deed
    deed = departed key tag

    by :
        (c : Bool) → m.counted key.class ≡ c →
        (tally_went c (tally m l.past) tag).tags ≡ tags (counted_among m.counted (all_but k.members tag))
    by true c = ap (λ ts. without ts tag) k.tags_live ∙ tags_fewer slots key tag r.held m.counted k.members k.seated c
    by false c = k.tags_live ∙ tags_same slots key tag r.held m.counted k.members k.seated c

-- the same past and the same slots
with_entry : (m : Meaning) (l : Ledger) (o : Option OpenEntry) → Kept m l → EntryFits l.book.slots o → Kept m (record { book = record { slots = l.book.slots; entry = o }; past = l.past })
with_entry m l o k fits =
    record {
      members = k.members;
      seated = k.seated;
      entry = fits;
      keys_live = k.keys_live;
      tags_live = k.tags_live;
      possible = k.possible;
    }

pub noted_kept :
    (m : Meaning) (l : Ledger) (v : Verdict) (lot : Lot) → Kept m l → Right l.book (told_pile m l.past) v → Kept m (noted v lot l)
noted_kept m l (refuses number) lot k r = k
noted_kept m l (opens entry) lot k r = with_entry m l (Some entry) k r.openable
noted_kept m l (settles entry) next k r = settled_kept m l entry k r
noted_kept m l (settles entry) (instead s) k r = k
noted_kept m l withdraws lot k r = with_entry m l None k tt
noted_kept m l (lets_go key tag) lot k r = gone_kept m l key tag k r
noted_kept m l (tells question) lot k r = k

pub ledger_right : (m : Meaning) (l : Ledger) (call : Call) → Kept m l → Right l.book (told_pile m l.past) (verdict l.book (told_pile m l.past) call)
ledger_right m l call k = verdict_right l.book (told_pile m l.past) call k.entry

pub note_kept : (m : Meaning) (l : Ledger) (item : Listed) → Kept m l → Kept m (note m l item)
note_kept m l item k = noted_kept m l (verdict l.book (told_pile m l.past) item.call) item.lot k (ledger_right m l item.call k)

pub note_all_kept : (m : Meaning) (l : Ledger) (items : List Listed) → Kept m l → Kept m (note_all m l items)
note_all_kept m l [] k = k
note_all_kept m l (item ∷ items) k = note_all_kept m (note m l item) items (note_kept m l item k)

pub ledger_kept : (m : Meaning) (b : Book) (calls : List Listed) → new_book b ≡ true → Kept m (ledger m b calls)
ledger_kept m b calls new = note_all_kept m (record { book = b; past = [] }) calls (new_kept m b new)

-- the deeds that the items add, first to last
abbrev pub then_deeds : Verdict → Lot → List Deed → List Deed
then_deeds (refuses number) lot more = more
then_deeds (opens entry) lot more = more
then_deeds (settles entry) next more = arrived entry.key entry.tag ∷ more
then_deeds (settles entry) (instead s) more = more
then_deeds withdraws lot more = more
then_deeds (lets_go key tag) lot more = departed key tag ∷ more
then_deeds (tells question) lot more = more

abbrev pub deeds_from : Meaning → Ledger → List Listed → List Deed
deeds_from m l [] = []
deeds_from m l (item ∷ items) =
    then_deeds (verdict l.book (told_pile m l.past) item.call) item.lot (deeds_from m (note m l item) items)

noted_past : (l : Ledger) (v : Verdict) (lot : Lot) (more : List Deed) → (noted v lot l).past ++ more ≡ l.past ++ then_deeds v lot more
noted_past l (refuses number) lot more = refl
noted_past l (opens entry) lot more = refl
noted_past l (settles entry) next more = append_assoc l.past (arrived entry.key entry.tag ∷ []) more
noted_past l (settles entry) (instead s) more = refl
noted_past l withdraws lot more = refl
noted_past l (lets_go key tag) lot more = append_assoc l.past (departed key tag ∷ []) more
noted_past l (tells question) lot more = refl

pub past_grows : (m : Meaning) (l : Ledger) (items : List Listed) → (note_all m l items).past ≡ l.past ++ deeds_from m l items
past_grows m l [] = sym (append-nil l.past)
past_grows m l (item ∷ items) =
    past_grows m (note m l item) items
    ∙ noted_past l (verdict l.book (told_pile m l.past) item.call) item.lot (deeds_from m (note m l item) items)
