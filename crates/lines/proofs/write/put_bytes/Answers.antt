-- A byte more stands behind those before it.
use Rattle.std.proofs.Common.{arith, add-one, take}
use Rattle.std.proofs.Math.Seq.{length-take-le, take-suc}
use Rattle.lines.proofs.Writes.{put_more}
use Rattle.lines.proofs.write.put_bytes.Goals as goal

pub loop-i-preserved : goal.loop-i-preserved
loop-i-preserved c =
    let a = c.args in
    let l = c.loop-i in
    let b = a.bytes.now in
    let long = length-take-le l.i b (omega arith) in
    rw (add-one, take-suc b l.i 0 (omega arith)) (put_more a.out.now a.pos (take l.i b) _ l.invariant _ (omega arith) c.put_byte.ensures)
