use Rattle.calls.proofs.Listings.{same_answers}
use Rattle.calls.proofs.same_answers.Goals as goal

pub returns : goal.returns
returns c = same_answers
