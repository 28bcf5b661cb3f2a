-- A byte as a digit, in one number.
use Rattle.std.specs.Prelude.{ℕ, ◌+◌, cond}
use Rattle.lines.specs.Hex.{is_hex, hex_value}

-- a digit's value and 16 more; 0 for any other byte
unfoldable pub digit_row : ℕ → ℕ
digit_row b = cond (is_hex b) (16 + hex_value b) 0
