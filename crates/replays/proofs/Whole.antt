-- A whole replay.
use Rattle.std.proofs.Common.{◌≡◌, ℕ, List, [], ◌∷◌, length, drop, arith}
use Rattle.std.proofs.lemmas.List.{length-drop}
use Rattle.replays.specs.Happenings.{Happening, was_refused}
use Rattle.replays.specs.Kinds.{Kind, LawfulKind}
use Rattle.replays.specs.Laws.{CanCome, of_settings, not_whole, not_known}
use Rattle.replays.specs.Records.{records_from}
use Rattle.replays.specs.Refusals.{in_opening, in_log, Refusal, plain}
use Rattle.replays.specs.Replays.{start, log_kind, happens_opened, history}
use Rattle.replays.specs.Settings.{setting_in, Opened, opening}
use Rattle.replays.proofs.Opening.{Passed, OpeningComes, opening_refused, opening_cut, opening_unknown, opening_passed, opening_comes, kept_start}
use Rattle.replays.proofs.Run.{Run, runs}

pub data Whole (log tape : List ℕ) : List Happening → Type 0 where
  whole_refused : (r : Refusal) → CanCome log tape r → Whole log tape (was_refused r ∷ [])
  whole_run :
      {h : List Happening} (kind : Kind) → LawfulKind kind → log_kind log ≡ kind → Passed (setting_in log) →
      Run kind log tape (start (setting_in log)) (records_from kind (drop 8 log)) h → Whole log tape h

by_opening : (log tape : List ℕ) (o : Opened) → OpeningComes log o → Whole log tape (happens_opened o log tape)
by_opening log tape _ (opening_refused number some few) = whole_refused (plain in_opening number 0) (of_settings number some few)
by_opening log tape _ opening_cut = whole_refused (plain in_log 23 0) (not_whole 0 (omega arith))
by_opening log tape _ (opening_unknown some) = whole_refused (plain in_log 24 0) (not_known 0 some)
by_opening log tape _ (opening_passed kind lawful is whole passed) =
    whole_run kind lawful is passed
    (runs kind lawful log tape (length (drop 8 log)) 8 (drop 8 log) (start (setting_in log)) (kept_start kind tape (setting_in log) passed)
    (omega arith) (omega (arith, length-drop 8 log)))

pub whole : (log tape : List ℕ) → Whole log tape (history log tape)
whole log tape = by_opening log tape (opening log) (opening_comes log)
