-- The first difference from line `i` on is the first of all; two texts are the same from byte `j` on.
use mathlib.Core.Path.{◌≡◌}
use Prim.Native.Nat.{◌-◌, ◌≤◌}
use lib.ListN.{length, drop}
use mathlib.Core.Bool.{true}
use Rattle.lines.specs.Texts.{same_text}
use Rattle.lines.specs.Views.{difference_from, first_difference}
use Rattle.lines.specs.Engine.Texts.{text_bytes}
use Rattle.calls.specs.Engine.Parts.{view_lines}
use Rattle.calls.proofs.beside.difference.Given as goal

abbrev pub invariant-lines : goal.invariant-lines
invariant-lines l = record {
  of_view : l.i ≤ length l.view;
  of_fresh : l.i ≤ l.shown;
  rest :
      let fresh = view_lines l.inputs.entries l.inputs.nodes l.work l.shown in
      difference_from l.i (drop l.i l.view) (drop l.i fresh) ≡ first_difference l.view fresh;
}

abbrev pub decreases-lines : goal.decreases-lines
decreases-lines l = length l.view - l.i

abbrev pub invariant-loop-j : goal.invariant-loop-j
invariant-loop-j l = same_text (drop l.j (text_bytes l.text)) (drop l.j (text_bytes l.fresh)) ≡ true
