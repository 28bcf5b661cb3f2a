-- Steps of the loop that looks for the first fault in a master's bounds.
use Rattle.std.specs.Prelude.{◌≡◌, true, false, List, ℕ, ◌+◌, ◌≤◌, ◌<◌, leb, length, drop, None, Some}
use Rattle.std.proofs.Common.{add-one, drop_of_length-le, leb-true}
use Rattle.lines.specs.Nodes.{Line, no_line, line_at}
use Rattle.lines.specs.Masters.{depth_after, placed, bounds_from}
use Rattle.lines.specs.Theorems.Bools.{and_left, and_right}
use Rattle.lines.specs.Theorems.Lists.{drop_one}

module _ (L : List Line) (most k : ℕ) where
  module _ {n : Line} (h : k < length L) (e : n ≡ line_at L k) where
    pub bounds_fault : placed most k n ≡ false → Some k ≡ bounds_from most k (drop k L)
    unfolding bounds_from
    bounds_fault p = rw (drop_one L k no_line h, ← e, p)

    pub bounds_more : placed most k n ≡ true → bounds_from (depth_after n) (k + 1) (drop (k + 1) L) ≡ bounds_from most k (drop k L)
    unfolding bounds_from
    bounds_more p = rw (drop_one L k no_line h, ← e, p, add-one k)

  pub bounds_end : length L ≤ k → None ≡ bounds_from most k (drop k L)
  unfolding bounds_from
  bounds_end h = rw (drop_of_length-le L h)

pub placed_low : (most k : ℕ) (n : Line) → placed most k n ≡ true → n.depth ≤ 7
unfolding placed
placed_low most k n e = leb-true n.depth 7 (and_left (leb n.depth 7) _ (and_right (leb n.depth most) _ e))
