-- After `i` nodes their number lines stand at the front.
use Rattle.sweeping.proofs.NumberLines.{Numbering}
use Rattle.sweeping.proofs.write_numbers.write_numbers.Given as goal

abbrev pub invariant-loop-i : goal.invariant-loop-i
invariant-loop-i l = Numbering l.nodes l.fn.out l.out l.removal.above l.next l.i
