-- Whether the mark counts decides which rule the answer is.
use Rattle.std.proofs.Common.{◌∙◌, ap₂}
use Rattle.lines.specs.Verdicts.{earlier}
use Rattle.calls.specs.Judging.{master_rule}
use Rattle.calls.proofs.files.master_fault.Goals as goal

pub returns-then-not-putting : goal.returns-then-not-putting
unfolding master_rule
returns-then-not-putting c = rw c.if-not-putting.true c.first_misplaced-misplaced.ensures

pub returns : goal.returns
unfolding master_rule
returns c = rw c.if-not-putting.false (c.earlier_of.ensures ∙ ap₂ earlier c.first_misplaced-misplaced.ensures c.first_marked.ensures)
