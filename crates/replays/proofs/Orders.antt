-- What happens, beside the records of the log and those of the tape.
use Rattle.std.proofs.Common.{◌≡◌, ℕ, zero, suc, ◌+◌, ◌*◌, List, length, drop, Some, None, sym, subst, arith}
use Rattle.std.specs.List.{slice_get}
use Rattle.pile.specs.Rules.{receipt}
use Rattle.calls.proofs.Searches.{none_some}
use Rattle.replays.specs.Happenings.{Happening, ended, refusal_in, entry_receipts}
use Rattle.replays.specs.Kinds.{Kind}
use Rattle.replays.specs.Pairing.{log_records, GoesOver, over_EN, over_LV, over_RD, over_ZZ, over_none, OnTape, UsesTape}
use Rattle.replays.specs.Records.{LogRecord, records_from}
use Rattle.replays.specs.Replays.{State, reading, history}
use Rattle.replays.proofs.Run.{Run, run_stops, run_ends, run_reads, run_in, run_out}
use Rattle.replays.proofs.Whole.{Whole, whole_refused, whole_run, whole}

run_over : {kind : Kind} {log tape : List ℕ} {s : State} {records : List LogRecord} {h : List Happening} → Run kind log tape s records h → GoesOver records h
run_over (run_stops r can) = over_none r
run_over {s = s} (run_ends k u) = over_ZZ s.draws
run_over {s = s} (run_reads k few next) = over_RD (reading s.book s.pile) (run_over next)
run_over (run_in k key tag radix draw place read c next) = over_EN key (receipt radix draw place) (run_over next)
run_over (run_out k key held tag place read w next) = over_LV key (record { place = place }) (run_over next)

whole_over : {log tape : List ℕ} {h : List Happening} → Whole log tape h → GoesOver (log_records log) h
whole_over (whole_refused r can) = over_none r
whole_over {log} {h = h} (whole_run kind lawful is passed run) =
    subst (λ (k : Kind). GoesOver (records_from k (drop 8 log)) h) (sym is) (run_over run)

pub goes_over : (log tape : List ℕ) → GoesOver (log_records log) (history log tape)
goes_over log tape = whole_over (whole log tape)

run_taped : {kind : Kind} {log tape : List ℕ} {s : State} {records : List LogRecord} {h : List Happening} → Run kind log tape s records h → OnTape tape s.draws (entry_receipts h)
run_taped (run_stops r can) = tt
run_taped (run_ends k u) = tt
run_taped (run_reads k few next) = run_taped next
run_taped (run_in k key tag radix draw place read c next) = (c.taped, run_taped next)
run_taped (run_out k key held tag place read w next) = run_taped next

run_all :
    {kind : Kind} {log tape : List ℕ} {s : State} {records : List LogRecord} {h : List Happening} → Run kind log tape s records h →
    refusal_in h ≡ None → 6 * (s.draws + length (entry_receipts h)) ≡ length tape
run_all (run_stops r can) e = absurd (none_some r (sym e))
run_all (run_ends k u) e = omega (arith, u)
run_all (run_reads k few next) e = run_all next e
run_all (run_in k key tag radix draw place read c next) e = omega (arith, run_all next e)
run_all (run_out k key held tag place read w next) e = run_all next e

run_counted :
    {kind : Kind} {log tape : List ℕ} {s : State} {records : List LogRecord} {h : List Happening} → Run kind log tape s records h →
    (i draws : ℕ) → slice_get h i ≡ Some (ended draws) → draws ≡ s.draws + length (entry_receipts h)
run_counted (run_stops r can) zero draws e = let z : ◌≡◌ {A = ℕ} 0 1 = cc in omega arith
run_counted (run_stops r can) (suc i) draws e = absurd (none_some (ended draws) e)
run_counted {s = s} (run_ends k u) zero draws e = let same : s.draws ≡ draws = cc in omega arith
run_counted (run_ends k u) (suc i) draws e = absurd (none_some (ended draws) e)
run_counted (run_reads k few next) zero draws e = let z : ◌≡◌ {A = ℕ} 0 1 = cc in omega arith
run_counted (run_reads k few next) (suc i) draws e = run_counted next i draws e
run_counted (run_in k key tag radix draw place read c next) zero draws e = let z : ◌≡◌ {A = ℕ} 0 1 = cc in omega arith
run_counted (run_in k key tag radix draw place read c next) (suc i) draws e = omega (arith, run_counted next i draws e)
run_counted (run_out k key held tag place read w next) zero draws e = let z : ◌≡◌ {A = ℕ} 0 1 = cc in omega arith
run_counted (run_out k key held tag place read w next) (suc i) draws e = run_counted next i draws e

module _ {log tape : List ℕ} where
  whole_taped : {h : List Happening} → Whole log tape h → OnTape tape 0 (entry_receipts h)
  whole_taped (whole_refused r can) = tt
  whole_taped (whole_run kind lawful is passed run) = run_taped run

  whole_all : {h : List Happening} → Whole log tape h → refusal_in h ≡ None → 6 * length (entry_receipts h) ≡ length tape
  whole_all (whole_refused r can) e = absurd (none_some r (sym e))
  whole_all (whole_run kind lawful is passed run) e = omega (arith, run_all run e)

  whole_counted : {h : List Happening} → Whole log tape h → (i draws : ℕ) → slice_get h i ≡ Some (ended draws) → draws ≡ length (entry_receipts h)
  whole_counted (whole_refused r can) zero draws e = let z : ◌≡◌ {A = ℕ} 0 1 = cc in omega arith
  whole_counted (whole_refused r can) (suc i) draws e = absurd (none_some (ended draws) e)
  whole_counted (whole_run kind lawful is passed run) i draws e = omega (arith, run_counted run i draws e)

pub uses_tape : (log tape : List ℕ) → UsesTape log tape
uses_tape log tape =
    record {
      on_tape = whole_taped (whole log tape);
      all_of_it = whole_all (whole log tape);
      counted = whole_counted (whole log tape);
    }
