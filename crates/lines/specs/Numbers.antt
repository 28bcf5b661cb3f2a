-- Whole numbers, which test 14 compares: "an optional minus, then one to nine digits".
use Rattle.std.specs.Prelude.{ℕ, ◌+◌, ◌*◌, ◌-◌, Bool, true, false, cond, ◌&&◌, List, [], ◌∷◌, ℤ, pos, neg_ℤ, length, drop, eqb, Option, None, Some}
use Rattle.lines.specs.Hex.{between}
use Rattle.lines.specs.Nodes.{all_of}

abbrev pub minus : ℕ
minus = 0x2D

-- "an optional minus"
unfoldable pub has_minus : List ℕ → Bool
has_minus [] = false
has_minus (x ∷ xs) = eqb x minus

-- what stands behind it
unfoldable pub digits_in : List ℕ → List ℕ
digits_in text = cond (has_minus text) (drop 1 text) text

-- "one to nine digits": bytes 30 to 39
unfoldable pub are_digits : List ℕ → Bool
are_digits ds = between 1 9 (length ds) && all_of (between 0x30 0x39) ds

-- the value of digits behind others of the value `front`
unfoldable pub digits_value : ℕ → List ℕ → ℕ
digits_value front [] = front
digits_value front (d ∷ ds) = digits_value (10 * front + (d - 0x30)) ds

unfoldable pub signed : Bool → ℕ → ℤ
signed true n = neg_ℤ (pos n)
signed false n = pos n

-- "its exact signed value or that it has none"
unfoldable pub whole_number : List ℕ → Option ℤ
whole_number text = cond (are_digits (digits_in text)) (Some (signed (has_minus text) (digits_value 0 (digits_in text)))) None
