use Rattle.std.proofs.Common.{rules, tests, ◌≡◌, option_map}
use Rattle.std.specs.List.{filter, enumerate_from, slice_get}
use Rattle.std.proofs.lemmas.Iterator.{YieldsList-from_slice}
use Rattle.std.proofs.lemmas.Iterator.Consumers.{nth_from_yields_List, YieldsList-from_enumerate, YieldsList-from_filter, YieldsList-at}
use Rattle.bottoms.proofs.Searches.{is_hole, number_of, hole_nth}
use Rattle.bottoms.proofs.places.Places.hole_place.Goals as goal

pub returns : goal.returns
returns c =
    let ps = c.args.self.now in
    let hole : option_map (λ q. (q.0, q.1.now)) c.nth.result ≡ slice_get (filter is_hole (enumerate_from 0 ps)) c.from.result =
    nth_from_yields_List _ _ _ c.nth.ensures.ran
    (YieldsList-from_filter _ is_hole (YieldsList-at c.filter.ensures.source (YieldsList-from_enumerate (YieldsList-from_slice ps (cc)) (cc)))
    c.filter.ensures.closure (λ x r q k. search (rules, tests))) in
    let same : c.map.result ≡ option_map (λ q. q.0) c.nth.result = search rules in
    cc (number_of c.nth.result, hole_nth ps c.args.draw)
