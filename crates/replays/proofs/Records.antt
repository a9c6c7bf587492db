-- A replay goes record by record.
use Rattle.std.proofs.Common.{◌≡◌, ℕ, zero, suc, ◌+◌, ◌≤◌, List, [], ◌∷◌, length, drop, refl, ap, arith}
use Rattle.std.proofs.lemmas.List.{length-drop}
use Rattle.replays.specs.Kinds.{Kind}
use Rattle.replays.specs.Laws.{turn_by_turn}
use Rattle.replays.specs.Records.{LogRecord, enters, leaves, reads, ends, unread, record_in, size}
use Rattle.replays.specs.Replays.{State, turn, then_on, happens_in, happens_from}

size_some : (what : LogRecord) → 2 ≤ size what
size_some (enters key) = omega arith
size_some (leaves key) = omega arith
size_some reads = omega arith
size_some ends = omega arith
size_some (unread layer number) = omega arith

enough :
    (kind : Kind) (tape : List ℕ) (most most' byte : ℕ) (more : List ℕ) (s : State) → length more ≤ most → length more ≤ most' →
    happens_in kind tape most byte more s ≡ happens_in kind tape most' byte more s
enough kind tape zero zero byte more s l l' = refl
enough kind tape zero (suc most') byte [] s l l' = refl
enough kind tape zero (suc most') byte (b ∷ more) s l l' = let z : ⊥ = omega arith in absurd z
enough kind tape (suc most) zero byte [] s l l' = refl
enough kind tape (suc most) zero byte (b ∷ more) s l l' = let z : ⊥ = omega arith in absurd z
enough kind tape (suc most) (suc most') byte more s l l' =
    let what = record_in kind more in
    let t = turn tape byte (length more) s what in
    let some = size_some what in
    ap (then_on t.happened)
    (enough kind tape most most' (byte + size what) (drop (size what) more) t.after
    (omega (arith, some, length-drop (size what) more)) (omega (arith, some, length-drop (size what) more)))

pub record_by_record :
    (kind : Kind) (tape : List ℕ) (byte : ℕ) (more : List ℕ) (s : State) → happens_from kind tape byte more s ≡ turn_by_turn kind tape byte more s
record_by_record kind tape byte [] s = refl
record_by_record kind tape byte (b ∷ more) s =
    let what = record_in kind (b ∷ more) in
    let t = turn tape byte (length (b ∷ more)) s what in
    let some = size_some what in
    ap (then_on t.happened)
    (enough kind tape (length more) (length (drop (size what) (b ∷ more))) (byte + size what) (drop (size what) (b ∷ more)) t.after
    (omega (arith, some, length-drop (size what) (b ∷ more))) (omega arith))
