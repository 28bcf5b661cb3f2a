-- The rule, tried over the whole table.
use Rattle.std.proofs.Common.{ℕ, Bool, nat_eq, eqb-true, rules}
use Rattle.lines.specs.declared.hex.TheConstants.{DIGITS}
use Rattle.lines.specs.Hex.{is_hex, hex_value}
use Rattle.lines.specs.Engine.Digits.{digit_row}
use Rattle.lines.specs.Theorems.Lists.{every_at}
use Rattle.lines.proofs.hex.digit_row.Goals as goal

row_fits : ℕ → ℕ → Bool
row_fits b x = nat_eq x (digit_row b)

pub returns : goal.returns
unfolding row_fits digit_row is_hex hex_value
returns c = eqb-true _ (digit_row c.args.b) (every_at row_fits DIGITS 0 tt c.args.b (search rules))
