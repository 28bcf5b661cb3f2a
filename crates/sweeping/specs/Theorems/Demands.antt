-- Our sweep is one by the request's sentences, which ask no more than which nodes are deleted.
use Rattle.std.specs.Prelude.{◌≡◌, refl, Bool, true, false, List, [], ◌∷◌, ℕ, suc, ◌+◌, ◌≤◌, length}
use Rattle.std.proofs.Common.{ap, inl, inr, arith, ne_eqb}
use Rattle.lines.specs.Nodes.{Line}
use Rattle.sweeping.specs.Sweeping.{removed, swept, no_number, numbers_from, new_numbers}
use Rattle.sweeping.specs.Demands.{GoesBy, without, SweepsBy, Sweeps}
use Rattle.sweeping.specs.Theorems.Counting.{counted, removed_each, swept_count, one_each}
use Rattle.sweeping.specs.Theorems.Numbers.{number_gone, number_kept, number_order}

-- FFFF stands for the removed alone: no line has it for its number
without_from : (k : ℕ) (gs : List Bool) → k + length gs ≤ no_number → without (numbers_from k gs) ≡ counted gs
unfolding numbers_from counted
without_from k [] h = refl
without_from k (true ∷ gs) h = ap (λ (n : ℕ). 1 + n) (without_from k gs (omega arith))
without_from k (false ∷ gs) h = rw (ne_eqb k no_number (λ e. omega arith)) (ap (λ (n : ℕ). 0 + n) (without_from (suc k) gs (omega arith)))

without_count : (ls : List Line) → length ls ≤ 128 → without (new_numbers ls) ≡ counted (removed ls)
unfolding new_numbers
without_count ls few = without_from 0 (removed ls) (omega (arith, removed_each ls))

pub sweeps : (ls : List Line) → length ls ≤ 128 → Sweeps ls (swept ls) (new_numbers ls)
sweeps ls few =
    record {
      each = one_each ls;
      gone = number_gone ls;
      order = number_order ls;
      lines = λ i b h. (number_kept ls i b h).1;
      inside = λ i b h. (number_kept ls i b h).0;
      count = omega (arith, without_count ls few, swept_count ls);
    }

-- the same nodes deleted, the same sweep
pub sweeps_alike : {marked other : ℕ → Type 0} → ((n : ℕ) → marked n → other n) → ((n : ℕ) → other n → marked n)
    → {ls ss : List Line} {ns : List ℕ} → SweepsBy marked ls ss ns → SweepsBy other ls ss ns
sweeps_alike {marked} {other} there back {ls} w =
    record {
      each = w.each;
      gone = λ i h g. w.gone i h (goes_alike back i g);
      order = λ i j a h p q. w.order i j a h (λ g. p (goes_alike there i g)) (λ g. q (goes_alike there j g));
      lines = λ i h p. w.lines i h (λ g. p (goes_alike there i g));
      inside = λ i h p. w.inside i h (λ g. p (goes_alike there i g));
      count = w.count;
    }
  where
    goes_alike : {a b : ℕ → Type 0} → ((n : ℕ) → a n → b n) → (i : ℕ) → GoesBy a ls i → GoesBy b ls i
    goes_alike f i (inl d) = inl (f i d)
    goes_alike f i (inr (m, u, d)) = inr (m, u, f m d)
