-- A file as lines, each ended by byte 0A. An empty file has no lines.
use Rattle.std.specs.Prelude.{ℕ, Bool, false, cond, ◌&&◌, List, [], ◌∷◌, length, leb, eqb}
use Rattle.lines.specs.Hex.{is_hex, decode}

unfoldable pub push : ℕ → List (List ℕ) → List (List ℕ)
push x [] = (x ∷ []) ∷ []
push x (c ∷ cs) = (x ∷ c) ∷ cs

-- a file cut into its lines, each with its 0A; only the last may lack it
unfoldable pub cut : List ℕ → List (List ℕ)
cut [] = []
cut (x ∷ xs) = cond (eqb x 0x0A) ((x ∷ []) ∷ cut xs) (push x (cut xs))

-- whole pairs of digits, then 0A and nothing more
unfoldable pub pairs_then_end : List ℕ → Bool
pairs_then_end [] = false
pairs_then_end (x ∷ []) = eqb x 0x0A
pairs_then_end (x ∷ y ∷ r) = is_hex x && (is_hex y && pairs_then_end r)

-- "upper-case hexadecimal pairs, at least one pair a line, each line ended by byte 0A"
unfoldable pub is_line : List ℕ → Bool
is_line c = pairs_then_end c && leb 1 (length (decode c))
