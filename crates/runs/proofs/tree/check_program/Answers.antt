-- What the check of the tree leaves decides, and whether lines are left over.
use native.Mathlib.Omega.{arith}
use Rattle.std.proofs.lemmas.Result.{err_from_is_err_and}
use Rattle.runs.proofs.TreeCheckWhole.{whole_fault, whole_left, whole_ended}
use Rattle.runs.proofs.tree.check_program.Goals as goal

pub returns-in_err-next : goal.returns-in_err-next
returns-in_err-next c =
    let p = err_from_is_err_and c.from_residual.result c.from_residual.ensures.1 in
    rw (p.1, p.2) (whole_fault _ c.whole.ensures c.check_at.ensures c.in_err-next.was)

pub returns-then-next-len : goal.returns-then-next-len
returns-then-next-len c = whole_left _ c.whole.ensures c.check_at.ensures c.in_ok-next.was (omega arith)

pub returns : goal.returns
returns c = whole_ended _ c.whole.ensures c.check_at.ensures c.in_ok-next.was (omega arith) (omega arith)
