-- After `i` words their lines stand at the front.
use Rattle.lines.specs.Theorems.WritingLines.{Writing}
use Rattle.calls.specs.Engine.Parts.{view_lines}
use Rattle.calls.proofs.view_out.write_view.Given as goal

abbrev pub invariant-loop-i : goal.invariant-loop-i
invariant-loop-i l = Writing (view_lines l.inputs.entries l.inputs.nodes l.work l.shown) l.initial.out l.out l.pos l.i
