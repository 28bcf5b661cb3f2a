-- The sums of the first `k` lines stand beside them.
use Rattle.std.proofs.Common.{◌≡◌, ℕ, ◌<◌, length, get_or}
use Rattle.lines.specs.Nodes.{line_at}
use Rattle.lines.specs.Engine.Sums.{text_sum}
use Rattle.calls.proofs.view_in.sum_texts.Given as goal

abbrev pub invariant-loop-k : goal.invariant-loop-k
invariant-loop-k l = (length l.sums ≡ length l.initial.sums) × ((k : ℕ) → k < l.k → get_or l.sums k 0 ≡ text_sum (line_at l.view k).text)
