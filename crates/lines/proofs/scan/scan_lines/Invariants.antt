-- Each line so far has the form, and its place is noted.
use Rattle.std.proofs.Common.{◌-◌, length}
use Rattle.lines.proofs.Scanning.{At}
use Rattle.lines.proofs.scan.scan_lines.Given as goal

abbrev pub invariant-loop-at : goal.invariant-loop-at
invariant-loop-at l = At l.file l.s l.fn.starts l.limit l.starts l.n l.at

abbrev pub decreases-loop-at : goal.decreases-loop-at
decreases-loop-at l = length l.s - l.at
