-- A master within its bounds, and one without marks, line by line.
use Rattle.std.specs.Prelude.{◌≡◌, refl, Bool, true, false, cond, not, List, [], ◌∷◌, ℕ, zero, suc, ◌+◌, ◌≤◌, ◌<◌, leb, eqb, length, None, Some}
use Rattle.std.proofs.Common.{◌∙◌, arith, leb-true, eqb-true}
use Rattle.lines.specs.Nodes.{Line, untouched_mark, is_marked, line_at}
use Rattle.lines.specs.Masters.{depth_after, placed, bounds_from, unmarked}
use Rattle.lines.specs.Verdicts.{first_from}
use Rattle.lines.specs.Theorems.Bools.{and_parts}

-- what the place of the first line says, and what the lines behind it keep
pub bounds_first : (most k : ℕ) (l : Line) (ls : List Line) → bounds_from most k (l ∷ ls) ≡ None
    → (l.depth ≤ most) × (l.depth ≤ 7) × (l.number ≡ k) × (bounds_from (depth_after l) (suc k) ls ≡ None)
unfolding bounds_from placed
bounds_first most k l ls h = go (placed most k l) refl h
  where
    go : (t : Bool) → placed most k l ≡ t → cond t (bounds_from (depth_after l) (suc k) ls) (Some k) ≡ None
        → (l.depth ≤ most) × (l.depth ≤ 7) × (l.number ≡ k) × (bounds_from (depth_after l) (suc k) ls ≡ None)
    go true e q =
        let p = and_parts (leb l.depth most) _ e in
        let r = and_parts (leb l.depth 7) _ p.1 in
        (leb-true l.depth most p.0, leb-true l.depth 7 r.0, eqb-true l.number k r.1, q)
    go false e q = absurd (let z : ◌≡◌ {A = ℕ} 0 1 = cc in omega arith)

-- depth at most 7, and each number equals the line's place
pub bounds_at : (most k : ℕ) (ls : List Line) → bounds_from most k ls ≡ None → (i : ℕ) → i < length ls
    → ((line_at ls i).depth ≤ 7) × ((line_at ls i).number ≡ k + i)
bounds_at most k [] h i b = absurd (omega arith)
bounds_at most k (l ∷ ls) h zero b = let p = bounds_first most k l ls h in (p.1, p.2 ∙ (let z : k ≡ k + 0 = omega arith in z))
bounds_at most k (l ∷ ls) h (suc i) b =
    let r = bounds_at (depth_after l) (suc k) ls (bounds_first most k l ls h).3 i (omega arith) in
    (r.0, r.1 ∙ (let z : suc k + i ≡ k + suc i = omega arith in z))

-- no mark at any place
none_marked : (k : ℕ) (ls : List Line) → first_from is_marked k ls ≡ None → (i : ℕ) → (line_at ls i).mark ≡ untouched_mark
unfolding first_from is_marked
none_marked k [] h i = refl
none_marked k (l ∷ ls) h i = go (eqb l.mark untouched_mark) refl h i (λ q. none_marked (suc k) ls q)
  where
    go : (b : Bool) → eqb l.mark untouched_mark ≡ b → cond (not b) (Some k) (first_from is_marked (suc k) ls) ≡ None → (i : ℕ)
        → (first_from is_marked (suc k) ls ≡ None → (i : ℕ) → (line_at ls i).mark ≡ untouched_mark) → (line_at (l ∷ ls) i).mark ≡ untouched_mark
    go true e q zero ih = eqb-true l.mark untouched_mark e
    go true e q (suc i) ih = ih q i
    go false e q i ih = absurd (let z : ◌≡◌ {A = ℕ} 0 1 = cc in omega arith)

pub unmarked_at : (ls : List Line) → unmarked ls ≡ None → (i : ℕ) → (line_at ls i).mark ≡ untouched_mark
unfolding unmarked
unmarked_at ls h = none_marked 0 ls h
