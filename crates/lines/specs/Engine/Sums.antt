-- A number of each text, the same for the same text.
use Rattle.std.specs.Prelude.{ℕ, ◌+◌, ◌*◌, ◌%◌, List, [], ◌∷◌}

-- from a sum so far on
unfoldable pub sum_from : ℕ → List ℕ → ℕ
sum_from sum [] = sum
sum_from sum (x ∷ xs) = sum_from ((0x9E3779B1 * sum + x) % 0x100000000) xs

unfoldable pub text_sum : List ℕ → ℕ
text_sum t = sum_from 0 t
