-- The sweep's outcome in one number.
use Rattle.meadcinder.proofs.Answers.{answered}
use Rattle.meadcinder.proofs.c_forms.meadcinder_sweep.Goals as goal

pub returns : goal.returns
returns c =
    let left = answered _ _ _ _ _ c.in_one.ensures c.sweep.ensures in
    record { packs = left.0; reads = left.1 }
