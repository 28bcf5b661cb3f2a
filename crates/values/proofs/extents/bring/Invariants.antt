-- The first `i` words are where they go; all else is as it was.
use Rattle.std.proofs.Common.{◌≡◌, ◌⊎◌, ◌+◌, ◌<◌, ◌≤◌, ℕ, length, get_or}
use Rattle.values.proofs.extents.bring.Given as goal

abbrev pub invariant-loop-i : goal.invariant-loop-i
invariant-loop-i l =
    (length l.work ≡ length l.initial.work)
    × ((k : ℕ) → k < l.i → get_or l.work (l.to + k) 0 ≡ get_or l.other (l.from.start + k) 0)
    × ((k : ℕ) → (k < l.to) ⊎ (l.to + l.i ≤ k) → get_or l.work k 0 ≡ get_or l.initial.work k 0)
