use Rattle.std.proofs.Common.{◌∙◌, sym, arith}
use Rattle.lines.specs.Nodes.{no_line}
use Rattle.lines.specs.Theorems.WritingLines.{room_as, written_as}
use Rattle.sweeping.proofs.SweptLines.{anew_headed, sweeping_starts, sweeping_gone, sweeping_room, sweeping_stays, sweeping_ends}
use Rattle.sweeping.proofs.write_lines.write_swept.Goals as goal
use Rattle.sweeping.proofs.write_lines.write_swept.Goals.{then-not-takes, else-not-takes}

pub loop-i-init : goal.loop-i-init
loop-i-init c = rw c.new-removal.ensures (sweeping_starts c.requires)

pub write_line-pos-requires : goal.write_line-pos-requires
write_line-pos-requires c =
    room_as (anew_headed _ c.line-line.result c.depth.ensures c.kind.ensures c.text.ensures) c.loop-i.pos
    (sweeping_room c.requires c.loop-i.invariant (omega arith) (c.line-line.ensures.any no_line) (sym c.takes.ensures.answer ∙ c.if-not-takes.true))

pub loop-i-preserved : goal.loop-i-preserved
loop-i-preserved c =
    let line = c.line-line.ensures.any no_line in
    rw c.takes.ensures.next
    (elim c.if-not-takes.branch [
      | then-not-takes w ↦ rw (w.out-is, w.pos-is, w.count-is)
          (sweeping_stays c.requires c.loop-i.invariant (omega arith) line (sym c.takes.ensures.answer ∙ w.if-not-takes.true)
          (written_as (anew_headed _ c.line-line.result w.depth.ensures w.kind.ensures w.text.ensures) w.write_line-pos.ensures))
      | else-not-takes w ↦ rw (w.out-is, w.pos-is, w.count-is) (sweeping_gone c.requires c.loop-i.invariant (omega arith) line (sym c.takes.ensures.answer ∙ w.if-not-takes.false))
    ])

pub returns : goal.returns
returns c = sweeping_ends c.requires c.loop-i.invariant (omega arith)
