use Rattle.std.proofs.Common.{arith}
use Rattle.values.proofs.Words.{merged_each}
use Rattle.values.proofs.standings.merge_words.Goals as goal

pub returns : goal.returns
returns c = merged_each c.args.words.now c.args.others.now _ c.requires c.loop-i.auto.words (λ k h. c.loop-i.invariant.0 k (omega arith))
