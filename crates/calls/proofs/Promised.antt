-- The evenness promise, for every run of requests on a roster and a pile that were new.
use Rattle.std.proofs.Common.{List, [], map, is_some, sym, refl, ap, ◌∙◌, subst, ap₂}
use Rattle.evenness.specs.Tapes.{Tape}
use Rattle.calls.specs.Book.{Book, tag_of}
use Rattle.calls.specs.Runs.{Request, World, run_answers, run_world}
use Rattle.calls.specs.Lists.{listed, draws_in, radices_in}
use Rattle.calls.specs.Past.{Ledger, forms_of, radices}
use Rattle.calls.specs.Promise.{sample, has_form, past_ledger, bare, list_radices, enter_receipts, TookFromSource, NewWorld, Promise}
use Rattle.calls.specs.Laws.{RightlyMarked}
use Rattle.calls.proofs.Ledgers.{new_kept, ledger_kept, past_grows}
use Rattle.calls.proofs.Listings.{new_shown, list_under, same_answers}
use Rattle.calls.proofs.Members.{forms_of_keys}
use Rattle.calls.proofs.Runs.{all_hold_brought, run_listed, run_marked_from, run_tape_from}
use Rattle.calls.proofs.Sets.{found_member}
use Rattle.calls.proofs.Shares.{list_shares}

module _ (start : World) (requests : List Request) (new : NewWorld start) where
  abbrev first : Ledger
  first = record { book = start.book; past = [] }

  run_marked : RightlyMarked start.pile start.book (listed requests (run_answers start requests))
  run_marked = run_marked_from start.pile first start requests

  -- the draws of a run are a tape
  pub run_tape : Tape (list_radices start.pile start.book (listed requests (run_answers start requests))) (draws_in (run_answers start requests))
  run_tape =
      subst (λ past. Tape (radices start.pile past) (draws_in (run_answers start requests)))
      (sym (past_grows start.pile first (listed requests (run_answers start requests))))
      (run_tape_from start.pile first start requests (new_kept start.pile start.book new.roster) refl
      (new_shown start.pile new.pile))

  pub promise :
      TookFromSource start.course (run_world start requests).course (enter_receipts requests (run_answers start requests)) →
      Promise start requests (run_answers start requests) (run_world start requests)
  promise took =
      let m = start.pile in
      let b = start.book in
      let calls = listed requests (run_answers start requests) in
      let shares = list_shares m b new.pile new.roster calls in
      let ran = run_listed start requests in
      let kept = ledger_kept m b calls new.roster in
      let under = list_under m b new.pile new.roster calls run_marked in
      let now = under (draws_in (run_answers start requests)) run_tape in
      record {
        equal_shares = shares.equal_shares;
        shares = shares.shares;
        no_others = shares.no_others;
        settles_hold_what_they_brought = all_hold_brought start requests;
        enters_hold_what_they_took = took;
        receipts_hold_the_radices = ap radices_in (sym ran.answers) ∙ now.same_radices;
        draws_are_a_tape = run_tape;
        sample_is_under_it = ap₂ (λ c p. sample c p.places) (sym ran.book) (sym ran.pile) ∙ now.same_sample;
        own_answers = ran.answers;
        own_roster = ran.book;
        own_pile = ran.pile;
        counts_live = ap (λ p. p.live) (sym ran.pile) ∙ now.counts_live;
        counts_unpaired = ap (λ p. p.unpaired) (sym ran.pile) ∙ now.counts_unpaired;
        as_many_places = ap (λ p. lib.ListN.length p.places) (sym ran.pile) ∙ now.as_many_places;
        roster_needs_no_draw = sym ran.book ∙ now.same_roster;
        live_keys =
            λ key.
            ap (λ (c : Book). is_some (tag_of c.slots key)) (sym ran.book ∙ now.same_roster)
            ∙ found_member (past_ledger m b calls).book.slots kept.members kept.seated key
            ∙ ap (λ fs. has_form fs key.form) (sym (ap forms_of kept.keys_live ∙ forms_of_keys kept.members));
        every_tape_happens =
            λ tape draws.
            let then' = under tape draws in
            record {
              same_answers =
                  same_answers m b new.pile new.roster calls run_marked tape (draws_in (run_answers start requests)) draws run_tape
                  ∙ ap (map bare) ran.answers;
              same_draws = then'.same_draws;
              same_sample = then'.same_sample;
            };
      }
