-- The words of the first `k` nodes stand at the foot.
use lib.ListN.{length}
use Rattle.lines.specs.Theorems.PutAt.{Putting}
use Rattle.calls.specs.Engine.Parts.{source_words}
use Rattle.calls.proofs.run_program.load.Given as goal

abbrev pub invariant-loop-k : goal.invariant-loop-k
invariant-loop-k l = Putting l.initial.work 0 (source_words 0 l.nodes) (length l.nodes) l.work l.k
