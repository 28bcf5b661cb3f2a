-- After `i` nodes the lines of those that stay stand at the front.
use Rattle.sweeping.proofs.SweptLines.{Sweeping}
use Rattle.sweeping.proofs.write_lines.write_swept.Given as goal

abbrev pub invariant-loop-i : goal.invariant-loop-i
invariant-loop-i l = Sweeping l.nodes l.fn.out l.out l.removal.above l.pos l.count l.i
