-- The texts are the same from byte j on.
use Rattle.std.proofs.Common.{◌≡◌, true, drop}
use Rattle.lines.specs.Hex.{decode}
use Rattle.lines.specs.Texts.{same_text}
use Rattle.lines.proofs.form.is_word.Given as goal

abbrev pub invariant-loop-j : goal.invariant-loop-j
invariant-loop-j l = same_text (drop l.j (decode l.d)) (drop l.j l.word) ≡ true
