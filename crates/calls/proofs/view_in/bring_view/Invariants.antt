-- The words of the first `i` lines stand in the place of the fresh lines' words.
use lib.ListN.{length}
use Rattle.lines.specs.Theorems.PutAt.{Putting}
use Rattle.calls.specs.Engine.Parts.{view_lines, brought_words}
use Rattle.calls.proofs.view_in.bring_view.Given as goal

abbrev pub invariant-loop-i : goal.invariant-loop-i
invariant-loop-i l =
    let fresh = view_lines l.inputs.entries l.inputs.nodes l.initial.work (length l.view) in
    Putting l.initial.work 128 (brought_words fresh l.view) (length l.view) l.work l.i
