-- The first fault from line `k` on is the first of all.
use Rattle.std.proofs.Common.{◌≡◌, drop}
use Rattle.lines.specs.Masters.{bounds_from, master_bounds}
use Rattle.lines.proofs.node.NodeLines.first_misplaced.Given as goal

abbrev pub invariant-loop-k : goal.invariant-loop-k
invariant-loop-k l = bounds_from l.most l.k (drop l.k l.self) ≡ master_bounds l.self
