-- When two texts are the same, and when they agree.
use Rattle.std.specs.Prelude.{ℕ, Bool, true, false, cond, ◌&&◌, List, [], ◌∷◌, eqb}

-- the same text, byte for byte: for tags, for the comparison of views and for merging
unfoldable pub same_text : List ℕ → List ℕ → Bool
same_text [] [] = true
same_text [] (y ∷ ys) = false
same_text (x ∷ xs) [] = false
same_text (x ∷ xs) (y ∷ ys) = eqb x y && same_text xs ys

-- ## Test 11 (equals)

abbrev pub space : ℕ
space = 0x20

-- a byte before what is left of those behind it: a space goes if nothing is left
unfoldable pub kept_before : ℕ → List ℕ → List ℕ
kept_before x [] = cond (eqb x space) [] (x ∷ [])
kept_before x (y ∷ ys) = x ∷ y ∷ ys

-- a text "without the bytes 20 behind" its "last other byte"
unfoldable pub trimmed : List ℕ → List ℕ
trimmed [] = []
trimmed (x ∷ xs) = kept_before x (trimmed xs)

-- when a source text and the other text agree
unfoldable pub agree : List ℕ → List ℕ → Bool
agree source other = same_text (trimmed source) (trimmed other)
