-- The second output: FFFF for a line that goes, and for one that stays the number under which the swept master has it.
use Rattle.std.specs.Prelude.{◌≡◌, refl, Bool, true, false, List, [], ◌∷◌, ◌++◌, ℕ, zero, suc, ◌+◌, ◌*◌, ◌-◌, ◌/◌, ◌%◌, ◌≤◌, ◌<◌, length, get_or}
use Rattle.std.proofs.Common.{sym, ap₂, arith}
use Rattle.std.proofs.Math.Nat.{sub-zero}
use Rattle.lines.specs.Hex.{decode}
use Rattle.lines.specs.Lines.{cut}
use Rattle.lines.specs.Nodes.{Line, line_at}
use Rattle.lines.specs.Theorems.Bools.{never}
use Rattle.lines.proofs.Theorems.Pairs.{decode_encode}
use Rattle.lines.proofs.Theorems.RoundTrip.{cut_encode}
use Rattle.sweeping.specs.Sweeping.{removed, kept, anew, numbered_anew, swept, no_number, numbers_from, new_numbers, number_line, number_file, numbers_in}
use Rattle.sweeping.specs.Demands.{IsRemoved, IsKept}
use Rattle.sweeping.specs.Theorems.Removed.{removed_exactly, kept_removed}
use Rattle.sweeping.specs.Theorems.Counting.{removed_each, length_anew}

-- ## By the list of those that go

gone_from : (k : ℕ) (gs : List Bool) (i : ℕ) → get_or gs i false ≡ true → get_or (numbers_from k gs) i 0 ≡ no_number
unfolding numbers_from
gone_from k [] i e = never e
gone_from k (true ∷ gs) zero e = refl
gone_from k (true ∷ gs) (suc i) e = gone_from k gs i e
gone_from k (false ∷ gs) zero e = never e
gone_from k (false ∷ gs) (suc i) e = gone_from (suc k) gs i e

-- the numbers begin with k
least_from : (k : ℕ) (gs : List Bool) (i : ℕ) → i < length gs → get_or gs i false ≡ false → k ≤ get_or (numbers_from k gs) i 0
unfolding numbers_from
least_from k [] i b e = absurd (omega arith)
least_from k (true ∷ gs) zero b e = never (sym e)
least_from k (true ∷ gs) (suc i) b e = least_from k gs i (omega arith) e
least_from k (false ∷ gs) zero b e = omega arith
least_from k (false ∷ gs) (suc i) b e = omega (arith, least_from (suc k) gs i (omega arith) e)

-- line l stands with number j among the lines ms, numbered anew from k
record Stands (k : ℕ) (ms : List Line) (l : Line) (j : ℕ) : Type 0 where
  inside : j < k + length ms
  line : line_at (numbered_anew k ms) (j - k) ≡ anew j l

stands_first : (k : ℕ) (l : Line) (ms : List Line) → Stands k (l ∷ ms) l k
unfolding numbered_anew
stands_first k l ms = record { inside = omega arith; line = rw (let z : k - k ≡ 0 = omega arith in z) }

stands_later : (k : ℕ) (m : Line) (ms : List Line) (l : Line) (j : ℕ) → suc k ≤ j → Stands (suc k) ms l j → Stands k (m ∷ ms) l j
unfolding numbered_anew
stands_later k m ms l j h s = record { inside = omega (arith, s.inside); line = rw (let z : j - k ≡ suc (j - suc k) = omega arith in z) s.line }

kept_from : (k : ℕ) (gs : List Bool) (ls : List Line) (i : ℕ) → length gs ≡ length ls → i < length ls → get_or gs i false ≡ false
    → Stands k (kept gs ls) (line_at ls i) (get_or (numbers_from k gs) i 0)
unfolding numbers_from kept
kept_from k [] ls i q b e = absurd (omega arith)
kept_from k (g ∷ gs) [] i q b e = absurd (omega arith)
kept_from k (true ∷ gs) (l ∷ ls) zero q b e = never (sym e)
kept_from k (true ∷ gs) (l ∷ ls) (suc i) q b e = kept_from k gs ls i (omega arith) (omega arith) e
kept_from k (false ∷ gs) (l ∷ ls) zero q b e = stands_first k l (kept gs ls)
kept_from k (false ∷ gs) (l ∷ ls) (suc i) q b e =
    stands_later k l (kept gs ls) _ _ (least_from (suc k) gs i (omega arith) e) (kept_from (suc k) gs ls i (omega arith) (omega arith) e)

order_from : (k : ℕ) (gs : List Bool) (i j : ℕ) → i < j → j < length gs → get_or gs i false ≡ false → get_or gs j false ≡ false
    → get_or (numbers_from k gs) i 0 < get_or (numbers_from k gs) j 0
unfolding numbers_from
order_from k [] i j a b e f = absurd (omega arith)
order_from k (g ∷ gs) i zero a b e f = absurd (omega arith)
order_from k (true ∷ gs) zero (suc j) a b e f = never (sym e)
order_from k (false ∷ gs) zero (suc j) a b e f = least_from (suc k) gs j (omega arith) f
order_from k (true ∷ gs) (suc i) (suc j) a b e f = order_from k gs i j (omega arith) (omega arith) e f
order_from k (false ∷ gs) (suc i) (suc j) a b e f = order_from (suc k) gs i j (omega arith) (omega arith) e f

-- ## Of a master

module _ (ls : List Line) where
  -- "its new number in two bytes or FFFF"
  pub number_gone : (i : ℕ) → i < length ls → IsRemoved ls i → get_or (new_numbers ls) i 0 ≡ no_number
  unfolding new_numbers
  number_gone i b r = gone_from 0 (removed ls) i ((removed_exactly ls i b).1 r)

  -- the swept master has a kept line under its new number
  pub number_kept : (i : ℕ) → i < length ls → IsKept ls i
      → (get_or (new_numbers ls) i 0 < length (swept ls)) × (line_at (swept ls) (get_or (new_numbers ls) i 0) ≡ anew (get_or (new_numbers ls) i 0) (line_at ls i))
  unfolding new_numbers swept
  number_kept i b h =
      let s = kept_from 0 (removed ls) ls i (removed_each ls) b (kept_removed ls i b h) in
      (omega (arith, s.inside, length_anew 0 (kept (removed ls) ls)), rw sub-zero at s.line)

  -- "the rest keep their order"
  pub number_order : (i j : ℕ) → i < j → j < length ls → IsKept ls i → IsKept ls j → get_or (new_numbers ls) i 0 < get_or (new_numbers ls) j 0
  unfolding new_numbers
  number_order i j a b h g =
      order_from 0 (removed ls) i j a (omega (arith, removed_each ls)) (kept_removed ls i (omega arith) h) (kept_removed ls j b g)

-- ## The lines of the second output, read again

abbrev pub TwoBytes : List ℕ → Type 0
TwoBytes [] = Unit
TwoBytes (n ∷ ns) = (n < 0x10000) × TwoBytes ns

small_from : (k : ℕ) (gs : List Bool) → k + length gs ≤ 0x10000 → TwoBytes (numbers_from k gs)
unfolding numbers_from
small_from k [] h = tt
small_from k (true ∷ gs) h = (omega arith, small_from k gs (omega arith))
small_from k (false ∷ gs) h = (omega arith, small_from (suc k) gs (omega arith))

pub numbers_small : (ls : List Line) → length ls ≤ 128 → TwoBytes (new_numbers ls)
unfolding new_numbers
numbers_small ls few = small_from 0 (removed ls) (omega (arith, removed_each ls))

read_number : (n : ℕ) → n < 0x10000 → (let b = decode (number_line n) in 256 * get_or b 0 0 + get_or b 1 0) ≡ n
unfolding number_line
read_number n h = rw (decode_encode (n / 256 ∷ n % 256 ∷ []) (omega arith, (omega arith, tt))) (omega arith)

cut_number : (n : ℕ) (rest : List ℕ) → n < 0x10000 → cut (number_line n ++ rest) ≡ number_line n ∷ cut rest
unfolding number_line
cut_number n rest h = cut_encode (n / 256 ∷ n % 256 ∷ []) rest (omega arith, (omega arith, tt))

pub numbers_read : (ns : List ℕ) → TwoBytes ns → numbers_in (number_file ns) ≡ ns
unfolding numbers_in number_file cut
numbers_read [] small = refl
numbers_read (n ∷ ns) small =
    rw (cut_number n (number_file ns) small.0) (ap₂ (λ (m : ℕ) (ms : List ℕ). m ∷ ms) (read_number n small.0) (numbers_read ns small.1))
