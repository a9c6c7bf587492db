-- Keys one after another, for every kind.
use Rattle.std.proofs.Common.{◌≡◌, ℕ, zero, suc, ◌+◌, ◌-◌, ◌<◌, ◌≤◌, true, List, [], ◌∷◌, ◌++◌, length, take, drop, set, Option, sym, refl, ap, ◌∙◌, append-nil, arith, length-set, rules, subst}
use Rattle.std.proofs.lemmas.Grind.{common_steps}
use Rattle.std.proofs.lemmas.List.{drop_all}
use Rattle.std.specs.List.{flat_map, AllByRecursion}
use Rattle.keys.specs.Answers.{Reading, read, refused, left_after}
use Rattle.keys.specs.Sequences.{keys_after, keys_in}
use Rattle.keys.specs.View.{KeyView}

module _ {K : Type 0} (view : K → KeyView) (reading : List ℕ → Reading K) (back : (k : K) (rest : List ℕ) → (view k).lawful ≡ true → reading ((view k).form ++ rest) ≡ read k) where
  pub keys_read_back : (keys : List K) (rest : List ℕ) → AllByRecursion (λ k. (view k).lawful ≡ true) keys → keys_in view reading (length keys) (flat_map (λ k. (view k).form) keys ++ rest) ≡ keys
  keys_read_back [] rest l = refl
  keys_read_back (k ∷ ks) rest l =
      let one = back k (flat_map (λ k. (view k).form) ks ++ rest) l.0 in
      let more = keys_read_back ks rest l.1 in
      search (rules, common_steps)

  -- so memory that is filled with what was read holds the keys
  pub filled_back : (bytes : List ℕ) (old : List K) {now : List K} {count : ℕ} → count ≡ length (keys_in view reading (length old) bytes) → now ≡ keys_in view reading (length old) bytes ++ drop count old → (keys : List K) (rest : List ℕ) → AllByRecursion (λ k. (view k).lawful ≡ true) keys → length keys ≡ length old → bytes ≡ flat_map (λ k. (view k).form) keys ++ rest → now ≡ keys
  filled_back bytes old {count = count} counted after keys rest l size from =
      let all : keys_in view reading (length old) bytes ≡ keys =
      ap (keys_in view reading (length old)) from
      ∙ ap (λ n. keys_in view reading n (flat_map (λ k. (view k).form) keys ++ rest)) (sym size)
      ∙ keys_read_back keys rest l
      in
      let none : drop count old ≡ [] = drop_all count old (omega (arith, counted ∙ ap length all, size)) in
      after ∙ ap (λ t. keys_in view reading (length old) bytes ++ t) none ∙ append-nil _ ∙ all

-- reading has come as far as `count`: those keys stand in `now`, whose rest is still that of `old`
pub record Come {K : Type 0} (view : K → KeyView) (reading : List ℕ → Reading K) (whole old now : List K) (count : ℕ) (left : List ℕ) : Type 0 where
  pub within : count ≤ length now
  pub done : take count now ++ keys_in view reading (length now - count) left ≡ whole
  pub rest : drop count now ≡ drop count old

-- nothing more is read
pub record Ended {K : Type 0} (whole old now : List K) (count : ℕ) : Type 0 where
  pub count_is : count ≡ length whole
  pub now_is : now ≡ whole ++ drop count old

module _ {K : Type 0} {view : K → KeyView} {reading : List ℕ → Reading K} {whole old now : List K} {count : ℕ} {left : List ℕ} (h : Come view reading whole old now count left) where
  pub come_more : {k : K} {next : List ℕ} → count < length now → read k ≡ reading left → next ≡ left_after view (reading left) left → Come view reading whole old (set now count k) (count + 1) next
  come_more {k = k} room e from =
      let more : length now - count ≡ suc (length now - (count + 1)) = omega arith in
      let beyond = ap (drop 1) h.rest in
      record {
        within = omega (arith, length-set now count k);
        done = search (rules, common_steps);
        rest = search (rules, common_steps);
      }

  come_ends : keys_in view reading (length now - count) left ≡ [] → Ended whole old now count
  come_ends none = record { count_is = search (rules, common_steps); now_is = search (rules, common_steps) }

  pub come_full : length now ≤ count → Ended whole old now (length now)
  come_full full =
      let none : length now - count ≡ 0 = omega arith in
      let all : count ≡ length now = omega (arith, h.within) in
      subst (Ended whole old now) all (come_ends (ap (λ n. keys_in view reading n left) none))

  none_read : (n : ℕ) {number : Option ℕ} → refused number ≡ reading left → keys_in view reading n left ≡ []
  none_read zero e = refl
  none_read (suc n) e = ap (λ r. keys_after view r left (keys_in view reading n)) (sym e)

  pub come_refused : {number : Option ℕ} → refused number ≡ reading left → Ended whole old now count
  come_refused e = come_ends (none_read (length now - count) e)
