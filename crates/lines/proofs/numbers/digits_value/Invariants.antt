-- From byte `j` on the value so far becomes that of all the digits.
use Rattle.std.proofs.Common.{◌≡◌, true, drop}
use Rattle.lines.specs.Hex.{between}
use Rattle.lines.specs.Nodes.{all_of}
use Rattle.lines.specs.Numbers.{digits_value}
use Rattle.lines.specs.Engine.Texts.{text_bytes}
use Rattle.lines.proofs.numbers.digits_value.Given as goal

abbrev pub invariant-loop-j : goal.invariant-loop-j
invariant-loop-j l = record {
  digits : all_of (between 0x30 0x39) (drop l.j (text_bytes l.text)) ≡ true;
  same : digits_value l.value (drop l.j (text_bytes l.text)) ≡ digits_value 0 (drop l.fn.from (text_bytes l.text));
}
