-- The slot is found where the rules look it up.
use mathlib.Core.Path.{sym, ◌∙◌}
use native.Mathlib.Omega.{arith}
use Rattle.runs.proofs.SlotLaws.{found}
use Rattle.runs.proofs.put.put_slot.Goals as goal

pub overflow_mul-place : goal.overflow_mul-place
overflow_mul-place c =
    let f = found c.args.byte c.requires.bound c.requires.count_value (sym c.unwrap-place.ensures ∙ c.find.ensures) in
    omega arith

pub merge_from-requires : goal.merge_from-requires
merge_from-requires c =
    let f = found c.args.byte c.requires.bound c.requires.count_value (sym c.unwrap-place.ensures ∙ c.find.ensures) in
    let n = rw (← f.place) at c.requires.view_len in
    (omega arith, omega arith)
