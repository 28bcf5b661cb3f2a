-- From `at` to place i there are digits alone.
use Rattle.std.proofs.Common.{◌≡◌, ◌+◌, drop}
use Rattle.lines.proofs.Scans.{digits}
use Rattle.lines.proofs.scan.line_end.Given as goal

abbrev pub invariant-loop-i : goal.invariant-loop-i
invariant-loop-i l = l.at + digits (drop l.at l.s) ≡ l.i + digits (drop l.i l.s)
