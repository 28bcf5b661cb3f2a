use Rattle.std.proofs.Common.{◌<◌, length}
use Rattle.lines.specs.Nodes.{no_line}
use native.Mathlib.Omega.{arith}
use Rattle.lines.specs.Theorems.WritingLines.{writing_starts, writing_room, writing_goes_on, writing_ends}
use Rattle.calls.proofs.HandedLines.{master_fits, master_at}
use Rattle.calls.proofs.write_master.write_master.Goals as goal

pub loop-k-init : goal.loop-k-init
loop-k-init c = writing_starts (master_fits c.requires)

pub write_handed-pos-requires : goal.write_handed-pos-requires
write_handed-pos-requires c =
    let more : c.loop-k.k < length c.args.nodes.now = omega arith in
    writing_room (master_fits c.requires) c.loop-k.invariant more (master_at c.requires c.loop-k.k more (c.line.ensures.any no_line))

pub loop-k-preserved : goal.loop-k-preserved
loop-k-preserved c =
    let more : c.loop-k.k < length c.args.nodes.now = omega arith in
    writing_goes_on (master_fits c.requires) c.loop-k.invariant more (master_at c.requires c.loop-k.k more (c.line.ensures.any no_line)) c.write_handed-pos.ensures

pub returns : goal.returns
returns c = writing_ends (master_fits c.requires) c.loop-k.invariant (omega arith)
