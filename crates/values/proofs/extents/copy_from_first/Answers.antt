use Rattle.std.proofs.Common.{arith}
use Rattle.values.proofs.Words.{brought_put}
use Rattle.values.proofs.extents.copy_from_first.Goals as goal

pub returns : goal.returns
returns c =
    let i = c.loop-i.invariant in
    brought_put _ c.args.work.now _ _ c.args.from.len c.args.to (omega arith) (omega arith) i.0 (λ k h. i.1 k (omega arith)) (λ k side. i.2 k (grind (arith, side)))
