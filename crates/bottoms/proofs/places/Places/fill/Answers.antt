use Rattle.bottoms.proofs.Searches.{hole_within}
use Rattle.bottoms.proofs.places.Places.fill.Goals as goal

pub put-requires : goal.put-requires
put-requires c = rw c.hole_place-place.ensures (hole_within c.args.self.now c.args.draw)
