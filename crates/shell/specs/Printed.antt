-- The lines that the programs print.
use Rattle.std.specs.Prelude.{ℕ, ◌/◌, ◌%◌, List, [], ◌∷◌, ◌++◌}
use Rattle.lines.specs.Hex.{encode}

-- a line of one byte
unfoldable pub byte_line : ℕ → List ℕ
byte_line x = encode (x ∷ []) ++ (0x0A ∷ [])

-- number, place and length of a reply; of place and length the high byte first
unfoldable pub reply_line : ℕ → ℕ → ℕ → List ℕ
reply_line number place length = encode (number ∷ place / 256 ∷ place % 256 ∷ length / 256 ∷ length % 256 ∷ []) ++ (0x0A ∷ [])
