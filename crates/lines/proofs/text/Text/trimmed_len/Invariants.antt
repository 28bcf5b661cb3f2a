-- Behind the first j bytes there are spaces alone.
use Rattle.std.proofs.Common.{◌≡◌, take}
use Rattle.lines.specs.Texts.{trimmed}
use Rattle.lines.specs.Engine.Texts.{text_bytes}
use Rattle.lines.proofs.text.Text.trimmed_len.Given as goal

abbrev pub invariant-loop-j : goal.invariant-loop-j
invariant-loop-j l = trimmed (take l.j (text_bytes l.self)) ≡ trimmed (text_bytes l.self)
