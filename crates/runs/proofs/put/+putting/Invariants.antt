-- The levels left fall from a combinator to what it runs; the run and the test stand above the combinators of their level.
use Rattle.std.proofs.Common.{◌+◌, ◌-◌, ◌*◌}
use Rattle.runs.proofs.PutEach.{Going}
use Rattle.runs.proofs.put.+putting.Given as goal

abbrev pub decreases-put : goal.decreases-put
decreases-put l = 2 * l.at.levels + 1

abbrev pub decreases-put_and_then : goal.decreases-put_and_then
decreases-put_and_then l = 2 * l.at.levels

abbrev pub decreases-put_beside : goal.decreases-put_beside
decreases-put_beside l = 2 * l.at.levels

abbrev pub decreases-put_bind : goal.decreases-put_bind
decreases-put_bind l = 2 * l.at.levels

abbrev pub decreases-put_choose : goal.decreases-put_choose
decreases-put_choose l = 2 * l.at.levels

abbrev pub decreases-put_each : goal.decreases-put_each
decreases-put_each l = 2 * l.at.levels

abbrev pub decreases-put_test : goal.decreases-put_test
decreases-put_test l = 2 * l.at.levels + 1

abbrev pub decreases-put_equals : goal.decreases-put_equals
decreases-put_equals l = 2 * l.at.levels

abbrev pub decreases-put_within : goal.decreases-put_within
decreases-put_within l = 2 * l.at.levels

abbrev pub invariant-put_each-loop-done : goal.invariant-put_each-loop-done
invariant-put_each-loop-done l =
    Going l.inputs.entries l.inputs.nodes l.initial.work l.initial.marks l.at.slots l.at.entry l.at.source.start l.at.source.len l.at.view.start l.at.view.len l.at.top l.work l.marks l.done l.seen

abbrev pub decreases-put_each-loop-done : goal.decreases-put_each-loop-done
decreases-put_each-loop-done l = l.at.source.len - l.done
