-- The levels left fall from a combinator to what it runs; the run and the test stand above the combinators of their level.
use Rattle.std.proofs.Common.{◌+◌, ◌*◌}
use Rattle.runs.proofs.ShowEach.{Going}
use Rattle.runs.proofs.show.+showing.Given as goal

abbrev pub decreases-show : goal.decreases-show
decreases-show l = 2 * l.at.levels + 1

abbrev pub decreases-show_and_then : goal.decreases-show_and_then
decreases-show_and_then l = 2 * l.at.levels

abbrev pub decreases-show_beside : goal.decreases-show_beside
decreases-show_beside l = 2 * l.at.levels

abbrev pub decreases-show_bind : goal.decreases-show_bind
decreases-show_bind l = 2 * l.at.levels

abbrev pub decreases-show_choose : goal.decreases-show_choose
decreases-show_choose l = 2 * l.at.levels

abbrev pub decreases-show_each : goal.decreases-show_each
decreases-show_each l = 2 * l.at.levels

abbrev pub decreases-show_within : goal.decreases-show_within
decreases-show_within l = 2 * l.at.levels

abbrev pub decreases-test : goal.decreases-test
decreases-test l = 2 * l.at.levels + 1

abbrev pub decreases-test_equals : goal.decreases-test_equals
decreases-test_equals l = 2 * l.at.levels

-- what the items before the rest gave stands at `top`
abbrev pub invariant-show_each-loop-rest : goal.invariant-show_each-loop-rest
invariant-show_each-loop-rest l =
    Going l.inputs.entries l.inputs.nodes l.initial.work l.at.slots l.at.entry l.at.source.start l.at.source.len l.at.top l.work l.rest.start l.rest.len l.n

abbrev pub decreases-show_each-loop-rest : goal.decreases-show_each-loop-rest
decreases-show_each-loop-rest l = l.rest.len
