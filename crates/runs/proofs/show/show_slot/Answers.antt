-- The words of the slot that is found, at `top`.
use mathlib.Core.Path.{sym, ◌∙◌}
use native.Mathlib.Omega.{arith}
use Rattle.runs.proofs.ShowLeaves.{copied}
use Rattle.runs.proofs.SlotLaws.{found}
use Rattle.runs.proofs.show.show_slot.Goals as goal

pub value-value-requires : goal.value-value-requires
value-value-requires c =
    let f = found c.args.byte c.requires.bound c.requires.count_value (sym c.unwrap.ensures ∙ c.find.ensures) in
    omega arith

pub copy-requires : goal.copy-requires
copy-requires c =
    let f = found c.args.byte c.requires.bound c.requires.count_value (sym c.unwrap.ensures ∙ c.find.ensures) in
    (omega arith, omega arith)

pub returns : goal.returns
returns c =
    let f = found c.args.byte c.requires.bound c.requires.count_value (sym c.unwrap.ensures ∙ c.find.ensures) in
    let w = c.args.work.now in
    λ made. rw (f.value made w, ← c.value-value.ensures.0, ← c.value-value.ensures.1)
    (copied made w c.args.at.top _ _ c.copy.ensures (omega arith) (omega arith) c.requires.top_in_bounds)
