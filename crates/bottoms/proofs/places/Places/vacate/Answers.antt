use Rattle.bottoms.proofs.Searches.{tag_within}
use Rattle.bottoms.proofs.places.Places.vacate.Goals as goal

pub put-requires : goal.put-requires
put-requires c = rw c.tag_place-place.ensures (tag_within c.args.self.now c.args.tag)
