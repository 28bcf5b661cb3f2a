use Rattle.std.proofs.Common.{◌*◌, ◌∙◌, sym, arith}
use Rattle.lines.specs.Nodes.{no_line}
use Rattle.sweeping.specs.Sweeping.{goes}
use Rattle.sweeping.proofs.NumberLines.{Numbered, numbering_starts, numbering_goes_on, numbering_ends}
use Rattle.sweeping.proofs.write_numbers.write_numbers.Goals as goal
use Rattle.sweeping.proofs.write_numbers.write_numbers.Goals.{then-takes, else-takes}

pub loop-i-init : goal.loop-i-init
loop-i-init c = rw c.new-removal.ensures (numbering_starts c.requires)

pub loop-i-preserved : goal.loop-i-preserved
loop-i-preserved c =
    let l = c.loop-i in
    let numbered : Numbered (goes l.removal.above c.line-line.result) l.next (5 * l.i) l.out c.if-takes.out c.if-takes.next =
    elim c.if-takes.branch [
      | then-takes w ↦ rw (sym c.takes.ensures.answer ∙ w.if-takes.true) (record { line = w.out-is ∙ w.write_number.ensures; following = w.next-is })
      | else-takes w ↦ rw (sym c.takes.ensures.answer ∙ w.if-takes.false) (record { line = w.out-is ∙ w.write_number-else-takes.ensures; following = w.next-is })
    ] in
    rw c.takes.ensures.next (numbering_goes_on c.requires l.invariant (omega arith) (c.line-line.ensures.any no_line) numbered)

pub returns : goal.returns
returns c = numbering_ends c.requires c.loop-i.invariant (omega arith)
