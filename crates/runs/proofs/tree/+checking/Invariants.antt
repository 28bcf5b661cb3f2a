-- The levels left fall from a member to the next, and among the members of one level in this order.
use Rattle.std.proofs.Common.{◌+◌, ◌*◌}
use Rattle.runs.proofs.tree.+checking.Given as goal

abbrev pub decreases-check_at : goal.decreases-check_at
decreases-check_at l = 4 * l.levels

abbrev pub decreases-check_below : goal.decreases-check_below
decreases-check_below l = 4 * l.levels + 3

abbrev pub decreases-check_choice : goal.decreases-check_choice
decreases-check_choice l = 4 * l.levels + 2

abbrev pub decreases-check_two : goal.decreases-check_two
decreases-check_two l = 4 * l.levels + 1
