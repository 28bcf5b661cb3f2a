use Rattle.std.proofs.Common.{◌≡◌, ℕ, ◌<◌, ◌≤◌, get_or}
use Rattle.values.proofs.nodes.relevel.Given as goal

abbrev pub invariant-loop-word : goal.invariant-loop-word
invariant-loop-word g l =
    ((k : ℕ) → k < l.word-index → goal.F-post g l.level (get_or l.initial.words k 0) (get_or l.words k 0))
    × ((k : ℕ) → l.word-index ≤ k → get_or l.words k 0 ≡ get_or l.initial.words k 0)
