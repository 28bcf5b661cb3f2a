-- The line of word `i` is line `i` of the view, and there is room for it.
use native.Mathlib.Omega.{arith}
use Prim.Native.Nat.{◌<◌}
use Rattle.lines.specs.Theorems.WritingLines.{writing_starts, writing_room, writing_goes_on, writing_ends}
use Rattle.calls.proofs.WordLines.{view_fits, view_at, view_depth}
use Rattle.calls.proofs.view_out.write_view.Goals as goal

pub loop-i-init : goal.loop-i-init
loop-i-init c = writing_starts (view_fits c.requires)

pub write_word-pos-requires : goal.write_word-pos-requires
write_word-pos-requires c =
    let words = c.requires.words in
    let more : c.loop-i.i < c.args.shown = omega arith in
    record {
      word_bound = view_depth _ c.args.inputs.now.nodes _ _ words.0 words.1 _ more;
      word_in_bounds = writing_room (view_fits c.requires) c.loop-i.invariant more (view_at _ _ _ _ words.0 _ more);
    }

pub loop-i-preserved : goal.loop-i-preserved
loop-i-preserved c =
    let more : c.loop-i.i < c.args.shown = omega arith in
    writing_goes_on (view_fits c.requires) c.loop-i.invariant more (view_at _ _ _ _ c.requires.words.0 _ more) c.write_word-pos.ensures

pub returns : goal.returns
returns c = writing_ends (view_fits c.requires) c.loop-i.invariant (omega arith)
