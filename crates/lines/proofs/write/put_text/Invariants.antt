-- After `i` digits the first `i` of the text's stand from `pos` on.
use Rattle.std.proofs.Common.{◌≡◌, take}
use Rattle.std.proofs.lemmas.List.Edits.{sets}
use Rattle.lines.specs.Hex.{encode}
use Rattle.lines.specs.Engine.Texts.{text_bytes}
use Rattle.lines.proofs.write.put_text.Given as goal

abbrev pub invariant-loop-i : goal.invariant-loop-i
invariant-loop-i l = l.out ≡ sets l.initial.out l.pos (take l.i (encode (text_bytes l.text)))
