-- The front parts are the same from byte j on.
use Rattle.std.proofs.Common.{◌≡◌, true, take, drop}
use Rattle.lines.specs.Texts.{same_text}
use Rattle.lines.specs.Engine.Texts.{text_bytes}
use Rattle.lines.proofs.text.Text.has_same_front.Given as goal

abbrev pub invariant-loop-j : goal.invariant-loop-j
invariant-loop-j l = same_text (drop l.j (take l.m (text_bytes l.self))) (drop l.j (take l.n (text_bytes l.other))) ≡ true
