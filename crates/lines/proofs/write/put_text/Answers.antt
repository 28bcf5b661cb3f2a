-- A digit more stands behind those before it.
use Rattle.std.proofs.Common.{◌∙◌, ap, arith, take_all}
use Rattle.std.proofs.lemmas.List.Edits.{sets}
use Rattle.lines.specs.Hex.{encode}
use Rattle.lines.specs.Engine.Texts.{text_bytes}
use Rattle.lines.proofs.Theorems.Pairs.{length_encode}
use Rattle.lines.proofs.Writes.{put_next}
use Rattle.lines.proofs.write.put_text.Goals as goal

pub loop-i-preserved : goal.loop-i-preserved
loop-i-preserved c =
    let a = c.args in
    let t = text_bytes a.text in
    put_next a.out.now a.pos (encode t) c.loop-i.i (omega (arith, length_encode t)) c.loop-i.invariant c.digit.ensures

pub returns : goal.returns
returns c =
    let a = c.args in
    let t = text_bytes a.text in
    c.loop-i.invariant ∙ ap (sets a.out.now a.pos) (take_all c.loop-i.i (encode t) (omega (arith, length_encode t)))
