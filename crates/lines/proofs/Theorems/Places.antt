-- Places fit a reply: a scan's answer is at most the limit, and a verdict's line is one of the lines.
use Rattle.std.specs.Prelude.{◌≡◌, Bool, true, false, cond, List, [], ◌∷◌, ℕ, suc, ◌+◌, ◌≤◌, ◌<◌, leb, length, Option, None, Some, Result, Err}
use Rattle.std.proofs.Common.{sym, subst, zero-add, arith}
use Rattle.lines.specs.declared.scan.File.{File}
use Rattle.lines.specs.Nodes.{Line}
use Rattle.lines.specs.Files.{scan}
use Rattle.lines.specs.Verdicts.{first_from, earlier}
use Rattle.lines.specs.Masters.{placed, depth_after, bounds_from, master_bounds}
use Rattle.lines.specs.Views.{same_line, difference_from}
use Rattle.lines.proofs.Theorems.Widths.{limit_small}
use Rattle.lines.specs.Engine.Starts.{Scanned}

-- ## Scans

pub scanned_wrong : {file : File} {s before noted : List ℕ} {r : Result ℕ ℕ} → Scanned file s before noted r → (line : ℕ) → r ≡ Err line
    → (scan file s ≡ Err line) × (line ≤ 128)
scanned_wrong {file} {s} {before} {noted} x line e =
    let y : Scanned file s before noted (Err line) = rw e at x in
    (sym y.answer, omega (arith, y.few, limit_small file))

-- ## Verdicts

abbrev pub Below : ℕ → Option ℕ → Type 0
Below n None = Unit {0}
Below n (Some line) = line < n

either_below : (n : ℕ) (b : Bool) (v u : Option ℕ) → Below n v → Below n u → Below n (cond b v u)
either_below n true v u p q = p
either_below n false v u p q = q

pub first_below : {A : Type 0} (fault : A → Bool) (k : ℕ) (xs : List A) → Below (k + length xs) (first_from fault k xs)
unfolding first_from
first_below fault k [] = tt
first_below fault k (x ∷ xs) =
    either_below (k + suc (length xs)) (fault x) (Some k) (first_from fault (suc k) xs) (omega arith)
    (subst (λ (n : ℕ). Below n (first_from fault (suc k) xs)) (let e : suc k + length xs ≡ k + suc (length xs) = omega arith in e) (first_below fault (suc k) xs))

bounds_below : (most k : ℕ) (ls : List Line) → Below (k + length ls) (bounds_from most k ls)
unfolding bounds_from
bounds_below most k [] = tt
bounds_below most k (l ∷ ls) =
    either_below (k + suc (length ls)) (placed most k l) (bounds_from (depth_after l) (suc k) ls) (Some k)
    (subst (λ (n : ℕ). Below n (bounds_from (depth_after l) (suc k) ls)) (let e : suc k + length ls ≡ k + suc (length ls) = omega arith in e)
    (bounds_below (depth_after l) (suc k) ls))
    (omega arith)

pub earlier_below : (n : ℕ) (v u : Option ℕ) → Below n v → Below n u → Below n (earlier v u)
unfolding earlier
earlier_below n None u p q = q
earlier_below n (Some i) None p q = p
earlier_below n (Some i) (Some j) p q = either_below n (leb i j) (Some i) (Some j) p q

pub master_bounds_below : (ls : List Line) → Below (length ls) (master_bounds ls)
unfolding master_bounds
master_bounds_below ls = subst (λ (n : ℕ). Below n (bounds_from 0 0 ls)) (zero-add (length ls)) (bounds_below 0 0 ls)

pub fault_below : (n : ℕ) {v : Option ℕ} → Below n v → (line : ℕ) → v ≡ Some line → line < n
fault_below n p line e = let q : Below n (Some line) = subst (Below n) e p in q

-- ## Differences

-- the place may be behind the view's last line
pub difference_inside : (k : ℕ) (vs fs : List Line) (line : ℕ) → difference_from k vs fs ≡ Some line → line ≤ k + length vs
unfolding difference_from
difference_inside k [] [] line e = absurd (let z : ◌≡◌ {A = ℕ} 0 1 = cc in omega arith)
difference_inside k [] (f ∷ fs) line e = let z : k ≡ line = cc in omega arith
difference_inside k (v ∷ vs) [] line e = let z : k ≡ line = cc in omega arith
difference_inside k (v ∷ vs) (f ∷ fs) line e = go (same_line v f) e (difference_inside (suc k) vs fs line)
  where
    go : (b : Bool) → cond b (difference_from (suc k) vs fs) (Some k) ≡ Some line
        → (difference_from (suc k) vs fs ≡ Some line → line ≤ suc k + length vs) → line ≤ k + suc (length vs)
    go true h ih = let z = ih h in omega arith
    go false h ih = let z : k ≡ line = cc in omega arith
