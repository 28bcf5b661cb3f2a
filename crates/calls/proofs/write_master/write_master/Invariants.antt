-- After `k` nodes their lines stand at the front.
use Rattle.lines.specs.Theorems.WritingLines.{Writing}
use Rattle.calls.specs.Engine.Parts.{handed_lines}
use Rattle.calls.proofs.write_master.write_master.Given as goal

abbrev pub invariant-loop-k : goal.invariant-loop-k
invariant-loop-k l = Writing (handed_lines l.nodes l.view l.work) l.initial.out l.out l.pos l.k
