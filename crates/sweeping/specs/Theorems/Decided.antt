-- The request's sentences decide the sweep: what they hold of is ours.
use Rattle.std.specs.Prelude.{◌≡◌, refl, Bool, true, false, List, [], ◌∷◌, ℕ, zero, suc, ◌+◌, ◌≤◌, ◌<◌, length, get_or}
use Rattle.std.proofs.Common.{sym, ◌∙◌, ap₂, subst, arith, ext_get_or, eq-eqb}
use Rattle.lines.specs.Nodes.{Line, no_line, line_at}
use Rattle.sweeping.specs.Sweeping.{removed, swept, no_number, numbers_from, new_numbers}
use Rattle.sweeping.specs.Demands.{IsKept, without, Sweeps}
use Rattle.sweeping.specs.Theorems.Removed.{removed_exactly, removed_kept}
use Rattle.sweeping.specs.Theorems.Counting.{counted, removed_each, swept_count}
use Rattle.sweeping.specs.Theorems.Demands.{sweeps}

-- ## The numbers: they rise, and there is no room to leave one out

-- FFFF for those that go, rising numbers for the rest: from k on, and below n
record Rises (k n : ℕ) (gs : List Bool) (ns : List ℕ) : Type 0 where
  each : length ns ≡ length gs
  gone : (i : ℕ) → i < length gs → get_or gs i false ≡ true → get_or ns i 0 ≡ no_number
  order : (i j : ℕ) → i < j → j < length gs → get_or gs i false ≡ false → get_or gs j false ≡ false → get_or ns i 0 < get_or ns j 0
  least : (i : ℕ) → i < length gs → get_or gs i false ≡ false → k ≤ get_or ns i 0
  below : (i : ℕ) → i < length gs → get_or gs i false ≡ false → get_or ns i 0 < n

-- behind the first line, where the rest begin with j
rises_behind : (j k n : ℕ) (g : Bool) (gs : List Bool) (x : ℕ) (ns : List ℕ) → Rises k n (g ∷ gs) (x ∷ ns)
    → ((i : ℕ) → i < length gs → get_or gs i false ≡ false → j ≤ get_or ns i 0) → Rises j n gs ns
rises_behind j k n g gs x ns r l =
    record {
      each = omega (arith, r.each);
      gone = λ i b. r.gone (suc i) (omega arith);
      order = λ i m a b. r.order (suc i) (suc m) (omega arith) (omega arith);
      least = l;
      below = λ i b. r.below (suc i) (omega arith);
    }

-- they have room below n; where they fill it, they are ours
rises_only : (k n : ℕ) (gs : List Bool) (ns : List ℕ) → k ≤ n → Rises k n gs ns
    → (k + length gs ≤ n + without ns) × (n + without ns ≤ k + length gs → ns ≡ numbers_from k gs)
unfolding numbers_from
rises_only k n [] [] h r = (omega arith, λ q. refl)
rises_only k n [] (x ∷ ns) h r = absurd (let e = r.each in omega arith)
rises_only k n (g ∷ gs) [] h r = absurd (let e = r.each in omega arith)
rises_only k n (true ∷ gs) (x ∷ ns) h r =
    let e = r.gone 0 (omega arith) refl in
    let p = rises_only k n gs ns h (rises_behind k k n true gs x ns r (λ i b. r.least (suc i) (omega arith))) in
    rw (eq-eqb x no_number e) (omega (arith, p.0), λ q. ap₂ (λ (m : ℕ) (ms : List ℕ). m ∷ ms) e (p.1 (omega arith)))
rises_only k n (false ∷ gs) (x ∷ ns) h r =
    let l = r.least 0 (omega arith) refl in
    let rest = rises_behind (suc x) k n false gs x ns r (λ i b. r.order 0 (suc i) (omega arith) (omega arith) refl) in
    let p = rises_only (suc x) n gs ns (r.below 0 (omega arith) refl) rest in
    (omega (arith, p.0), λ q. let e : x ≡ k = omega (arith, p.0) in ap₂ (λ (m : ℕ) (ms : List ℕ). m ∷ ms) e (p.1 (omega arith) ∙ rw e))

numbers_only : (ls ss : List Line) (ns : List ℕ) → Sweeps ls ss ns → ns ≡ new_numbers ls
unfolding new_numbers
numbers_only ls ss ns s =
    let q = removed_each ls in
    (rises_only 0 (length ss) (removed ls) ns (omega arith)
    (record {
      each = omega (arith, s.each);
      gone = λ i b e. s.gone i (omega arith) ((removed_exactly ls i (omega arith)).0 e);
      order = λ i j a b e f. s.order i j a (omega arith) (removed_kept ls i (omega arith) e) (removed_kept ls j (omega arith) f);
      least = λ i b e. omega arith;
      below = λ i b e. s.inside i (omega arith) (removed_kept ls i (omega arith) e);
    })
    ).1 (omega (arith, s.count))

-- ## The lines: each of them has an old one's number

number_taken : (k : ℕ) (gs : List Bool) (m : ℕ) → m + counted gs < length gs
    → (i : ℕ) × (i < length gs) × (get_or gs i false ≡ false) × (get_or (numbers_from k gs) i 0 ≡ k + m)
unfolding numbers_from counted
number_taken k [] m h = absurd (omega arith)
number_taken k (true ∷ gs) m h = let (i, b, e, q) = number_taken k gs m (omega arith) in (suc i, omega arith, e, q)
number_taken k (false ∷ gs) zero h = (0, omega arith, refl, omega arith)
number_taken k (false ∷ gs) (suc m) h = let (i, b, e, q) = number_taken (suc k) gs m (omega arith) in (suc i, omega arith, e, omega arith)

kept_taken : (ls : List Line) (j : ℕ) → j < length (swept ls) → (i : ℕ) × (i < length ls) × IsKept ls i × (get_or (new_numbers ls) i 0 ≡ j)
unfolding new_numbers
kept_taken ls j h =
    let (i, b, e, q) = number_taken 0 (removed ls) j (omega (arith, swept_count ls, removed_each ls)) in
    let b' : i < length ls = omega (arith, removed_each ls) in
    (i, b', removed_kept ls i b' e, omega arith)

lines_only : (ls ss : List Line) → length ls ≤ 128 → Sweeps ls ss (new_numbers ls) → ss ≡ swept ls
lines_only ls ss few s =
    ext_get_or no_line ss (swept ls) long (λ j h. let t = kept_taken ls j (omega (arith, long)) in same t.0 j t.1 t.2 t.3)
  where
    ours : Sweeps ls (swept ls) (new_numbers ls)
    ours = sweeps ls few

    long : length ss ≡ length (swept ls)
    long = omega (arith, s.count, ours.count)

    same : (i j : ℕ) → i < length ls → IsKept ls i → get_or (new_numbers ls) i 0 ≡ j → line_at ss j ≡ line_at (swept ls) j
    same i j b k e = subst (λ (m : ℕ). line_at ss m ≡ line_at (swept ls) m) e (s.lines i b k ∙ sym (ours.lines i b k))

pub sweeps_only : (ls ss : List Line) (ns : List ℕ) → length ls ≤ 128 → Sweeps ls ss ns → (ss ≡ swept ls) × (ns ≡ new_numbers ls)
sweeps_only ls ss ns few s =
    let e = numbers_only ls ss ns s in
    (lines_only ls ss few (subst (λ (ms : List ℕ). Sweeps ls ss ms) e s), e)
