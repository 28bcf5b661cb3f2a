-- Different sums are those of different texts.
use Rattle.std.proofs.Common.{◌∙◌, sym, ne_eqb}
use Rattle.calls.proofs.ViewWords.{sums_differ}
use Rattle.calls.proofs.view_in.alike.Goals as goal

pub returns-else-sums-j : goal.returns-else-sums-j
returns-else-sums-j c =
    let r = c.requires in
    let differ = sums_differ c.args.view.now c.args.i c.args.j r.1 r.0 c.args.sums.now r.2 c.if-sums-j.false in
    ne_eqb _ _ c.if-sums-j.false ∙ sym differ
