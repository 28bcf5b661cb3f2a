-- Upper-case hexadecimal digits, and the bytes that pairs of them are.
use Rattle.std.specs.Prelude.{ℕ, ◌+◌, ◌*◌, ◌-◌, ◌/◌, ◌%◌, Bool, cond, ◌&&◌, ◌||◌, List, [], ◌∷◌, leb, ltb}

abbrev pub between : ℕ → ℕ → ℕ → Bool
between lo hi b = leb lo b && leb b hi

-- 0 to 9 (bytes 30 to 39), A to F (bytes 41 to 46)
unfoldable pub is_hex : ℕ → Bool
is_hex b = between 0x30 0x39 b || between 0x41 0x46 b

-- a digit's value; 0 for any other byte
unfoldable pub hex_value : ℕ → ℕ
hex_value b = cond (between 0x30 0x39 b) (b - 0x30) (cond (between 0x41 0x46 b) (b - 0x37) 0)

-- the bytes of all pairs; a last byte that has no partner is left out
unfoldable pub decode : List ℕ → List ℕ
decode [] = []
decode (x ∷ []) = []
decode (x ∷ y ∷ r) = (16 * hex_value x + hex_value y) ∷ decode r

-- the digit of a value below 16
unfoldable pub hex_digit : ℕ → ℕ
hex_digit n = cond (ltb n 10) (0x30 + n) (cond (ltb n 16) (0x37 + n) 0)

-- each byte as its pair
unfoldable pub encode : List ℕ → List ℕ
encode [] = []
encode (b ∷ r) = hex_digit (b / 16) ∷ hex_digit (b % 16) ∷ encode r
