-- The source's words at `top`.
use native.Mathlib.Omega.{arith}
use Rattle.runs.proofs.ShowLeaves.{copied}
use Rattle.runs.proofs.show.show_source.Goals as goal

pub returns : goal.returns
returns c =
    let a = c.args.at in
    λ made. copied made c.args.work.now a.top a.source.start a.source.len c.copy.ensures (omega arith) (omega arith) (omega arith)
