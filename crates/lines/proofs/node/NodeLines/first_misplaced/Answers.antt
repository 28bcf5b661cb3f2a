-- The first fault from line `k` on is the first of all.
use Rattle.std.proofs.Common.{◌∙◌, refl, sym, arith}
use Rattle.lines.specs.Masters.{master_bounds}
use Rattle.lines.proofs.Masters.{bounds_fault, bounds_more, bounds_end, placed_low}
use Rattle.lines.proofs.node.NodeLines.first_misplaced.Goals as goal

pub loop-k-init : goal.loop-k-init
unfolding master_bounds
loop-k-init c = refl

pub returns-then-not-is_placed : goal.returns-then-not-is_placed
returns-then-not-is_placed c =
    bounds_fault c.args.self.now _ _ (omega arith) c.line-line.ensures.line (sym c.is_placed.ensures ∙ c.if-not-is_placed.true) ∙ c.loop-k.invariant

pub depth_after-most-requires : goal.depth_after-most-requires
depth_after-most-requires c = placed_low _ _ _ (sym c.is_placed.ensures ∙ c.if-not-is_placed.false)

pub loop-k-preserved : goal.loop-k-preserved
loop-k-preserved c =
    rw c.depth_after-most.ensures (bounds_more c.args.self.now _ _ (omega arith) c.line-line.ensures.line (sym c.is_placed.ensures ∙ c.if-not-is_placed.false) ∙ c.loop-k.invariant)

pub returns : goal.returns
returns c = bounds_end c.args.self.now c.loop-k.most _ (omega arith) ∙ c.loop-k.invariant
