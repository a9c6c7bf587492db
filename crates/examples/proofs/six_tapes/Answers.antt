use Rattle.std.proofs.Common.{◌+◌, refl}
use Rattle.sources.specs.Tapes.{tape_answer}
use Rattle.calls.specs.Promise.{NewWorld}
use Rattle.calls.proofs.Promised.{promise}
use Rattle.calls.proofs.Sources.{steady_by, took}
use Rattle.examples.specs.SixTapes.{start, carried_out, tape_bytes}
use Rattle.examples.proofs.six_tapes.Goals as goal

start_is_new : NewWorld start
start_is_new = record { roster = refl; pile = record { none_live = refl; none_unpaired = refl; no_places = refl } }

pub returns : goal.returns
returns c =
    record {
      new = start_is_new;
      draws = refl;
      sample = refl;
      all = refl;
      first = refl;
      second = refl;
      both = refl;
      none = refl;
      left = refl;
      whole = promise start carried_out start_is_new (took start carried_out (steady_by (tape_answer tape_bytes) (λ k. k + 1) 0));
    }
