use Rattle.std.proofs.Common.{rules, tests, ◌≡◌}
use Rattle.std.specs.List.{position}
use Rattle.std.proofs.lemmas.Iterator.{YieldsList-from_slice}
use Rattle.std.proofs.lemmas.Iterator.Search.{position_from_yields_List}
use Rattle.bottoms.proofs.Searches.{is_tag, tag_position}
use Rattle.bottoms.proofs.places.Places.tag_place.Goals as goal

pub returns : goal.returns
returns c =
    let ps = c.args.self.now in
    let at : c.position.result ≡ position (is_tag c.args.tag) ps =
    position_from_yields_List (is_tag c.args.tag) _ _ _ c.position.ensures.ran (YieldsList-from_slice ps cc) (λ x b q k. search (rules, tests)) in
    let same : c.map.result ≡ c.position.result = search rules in
    cc (tag_position ps c.args.tag)
