use Rattle.calls.proofs.Rosters.{opened_is_new, new_well_kept, step_well_kept}
use Rattle.calls.proofs.rosters_are_well_kept.Goals as goal

pub returns : goal.returns
returns c = record { opened = opened_is_new; new = new_well_kept; after = step_well_kept }
