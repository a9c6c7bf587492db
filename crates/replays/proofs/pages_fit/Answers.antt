use Rattle.replays.proofs.Sizes.{page_fits}
use Rattle.replays.proofs.pages_fit.Goals as goal

pub returns : goal.returns
returns c = page_fits
