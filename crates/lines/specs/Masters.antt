-- The master's rules (reply 5): its bounds and numbers, and that it carries no mark.
use Rattle.std.specs.Prelude.{ℕ, suc, ◌+◌, Bool, cond, ◌&&◌, List, [], ◌∷◌, leb, eqb, Option, None, Some}
use Rattle.lines.specs.Nodes.{Line, is_element, is_marked}
use Rattle.lines.specs.Verdicts.{first_from}

-- the greatest depth that the line behind n may have: "one more only under an element"
unfoldable pub depth_after : Line → ℕ
depth_after n = cond (is_element n.kind) (n.depth + 1) n.depth

-- line k, at most at depth `most`: "depth at most 7", "Each number equals the line's place"
unfoldable pub placed : ℕ → ℕ → Line → Bool
placed most k n = leb n.depth most && (leb n.depth 7 && eqb n.number k)

-- the first faulty line from line k on
unfoldable pub bounds_from : ℕ → ℕ → List Line → Option ℕ
bounds_from most k [] = None
bounds_from most k (n ∷ ns) = cond (placed most k n) (bounds_from (depth_after n) (suc k) ns) (Some k)

-- "Line 0 has depth 0"
unfoldable pub master_bounds : List Line → Option ℕ
master_bounds ns = bounds_from 0 0 ns

-- "(putting back) carries a mark"
unfoldable pub unmarked : List Line → Option ℕ
unmarked ns = first_from is_marked 0 ns
