-- Sweeping: "every node that is deleted, or lies under a deleted one, goes; the rest keep their order and depths, lose their marks,
-- take their new texts and are renumbered from 0". A line's text is the new one already: putting back returned it so.
use Rattle.std.specs.Prelude.{ℕ, suc, ◌+◌, ◌*◌, ◌/◌, ◌%◌, Bool, false, cond, ◌||◌, List, [], ◌∷◌, ◌++◌, map, ltb, eqb, get_or, Option, Some, None}
use Rattle.lines.specs.Hex.{decode, encode}
use Rattle.lines.specs.Lines.{cut}
use Rattle.lines.specs.Nodes.{Line, untouched_mark, deleted_mark}

-- ## Which lines go

-- whether a line at this depth lies under what stands above it: no deleted node, or one at depth a
unfoldable pub is_under : Option ℕ → ℕ → Bool
is_under None depth = false
is_under (Some a) depth = ltb a depth

unfoldable pub is_deleted : Line → Bool
is_deleted l = eqb l.mark deleted_mark

unfoldable pub goes : Option ℕ → Line → Bool
goes above l = is_under above l.depth || is_deleted l

-- what stands above the line behind it
unfoldable pub behind : Option ℕ → Line → Option ℕ
behind above l = cond (is_under above l.depth) above (cond (is_deleted l) (Some l.depth) None)

-- of each line whether it goes: "told from the marks and depths alone"
unfoldable pub removed_under : Option ℕ → List Line → List Bool
removed_under above [] = []
removed_under above (l ∷ ls) = goes above l ∷ removed_under (behind above l) ls

unfoldable pub removed : List Line → List Bool
removed ls = removed_under None ls

-- ## The swept master

-- the lines that do not go, in their order
unfoldable pub kept : List Bool → List Line → List Line
kept [] ls = []
kept (g ∷ gs) [] = []
kept (g ∷ gs) (l ∷ ls) = cond g (kept gs ls) (l ∷ kept gs ls)

-- a line without its mark, with number k
unfoldable pub anew : ℕ → Line → Line
anew k l = record { depth = l.depth; kind = l.kind; mark = untouched_mark; number = k; text = l.text }

unfoldable pub numbered_anew : ℕ → List Line → List Line
numbered_anew k [] = []
numbered_anew k (l ∷ ls) = anew k l ∷ numbered_anew (suc k) ls

unfoldable pub swept : List Line → List Line
swept ls = numbered_anew 0 (kept (removed ls) ls)

-- ## The second output: "one line per old node, its new number in two bytes or FFFF"

abbrev pub no_number : ℕ
no_number = 0xFFFF

-- the next line that stays has number k
unfoldable pub numbers_from : ℕ → List Bool → List ℕ
numbers_from k [] = []
numbers_from k (g ∷ gs) = cond g (no_number ∷ numbers_from k gs) (k ∷ numbers_from (suc k) gs)

unfoldable pub new_numbers : List Line → List ℕ
new_numbers ls = numbers_from 0 (removed ls)

-- high byte first
unfoldable pub number_line : ℕ → List ℕ
number_line n = encode (n / 256 ∷ n % 256 ∷ []) ++ (0x0A ∷ [])

unfoldable pub number_file : List ℕ → List ℕ
number_file [] = []
number_file (n ∷ ns) = number_line n ++ number_file ns

-- the numbers that such lines give
unfoldable pub numbers_in : List ℕ → List ℕ
numbers_in s = map (λ c. let b = decode c in 256 * get_or b 0 0 + get_or b 1 0) (cut s)
