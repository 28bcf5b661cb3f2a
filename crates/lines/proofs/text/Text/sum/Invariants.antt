-- From byte j on the sum so far becomes that of the whole text.
use Rattle.std.proofs.Common.{◌≡◌, ◌<◌, drop}
use Rattle.lines.specs.Engine.Sums.{sum_from, text_sum}
use Rattle.lines.specs.Engine.Texts.{text_bytes}
use Rattle.lines.proofs.text.Text.sum.Given as goal

abbrev pub invariant-loop-j : goal.invariant-loop-j
invariant-loop-j l = record { small : l.sum < 0x100000000; same : sum_from l.sum (drop l.j (text_bytes l.self)) ≡ text_sum (text_bytes l.self) }
