use Rattle.std.proofs.Common.{◌<◌, ◌∙◌, ap, length}
use native.Mathlib.Omega.{arith}
use Rattle.lines.specs.Nodes.{Line}
use Rattle.lines.specs.Theorems.PutAt.{putting_starts, putting_ends}
use Rattle.calls.proofs.Sources.{length_source, loading_goes_on}
use Rattle.calls.proofs.run_program.load.Goals as goal

pub loop-k-init : goal.loop-k-init
loop-k-init c = putting_starts _ 0 _ _ (length_source 0 c.args.nodes.now) (omega arith)

pub loop-k-preserved : goal.loop-k-preserved
loop-k-preserved c =
    let more : c.loop-k.k < length c.args.nodes.now = omega arith in
    loading_goes_on c.args.nodes.now _ (omega arith) c.loop-k.invariant more (c.depth.ensures ∙ ap (λ (l : Line). l.depth) c.line.ensures.line)

pub returns : goal.returns
returns c = putting_ends _ 0 _ _ (length_source 0 c.args.nodes.now) (omega arith) c.loop-k.invariant (omega arith)
