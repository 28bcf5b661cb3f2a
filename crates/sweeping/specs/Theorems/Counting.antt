-- "Kept nodes and removed nodes together make the old count": of lines, of numbers, of bytes.
use Rattle.std.specs.Prelude.{◌≡◌, refl, Bool, true, false, cond, List, [], ◌∷◌, ℕ, suc, ◌+◌, ◌*◌, length, Option, None}
use Rattle.std.proofs.Common.{ap, ◌∙◌, arith}
use Rattle.lines.specs.Hex.{encode}
use Rattle.lines.specs.Nodes.{Line}
use Rattle.sweeping.specs.Sweeping.{behind, removed_under, removed, kept, numbered_anew, swept, numbers_from, new_numbers, number_line, number_file}

-- how many are true
unfoldable pub counted : List Bool → ℕ
counted [] = 0
counted (g ∷ gs) = cond g 1 0 + counted gs

-- ## Lines

walked_each : (above : Option ℕ) (ls : List Line) → length (removed_under above ls) ≡ length ls
unfolding removed_under
walked_each above [] = refl
walked_each above (l ∷ ls) = ap suc (walked_each (behind above l) ls)

pub removed_each : (ls : List Line) → length (removed ls) ≡ length ls
unfolding removed
removed_each ls = walked_each None ls

kept_count : (gs : List Bool) (ls : List Line) → length gs ≡ length ls → length (kept gs ls) + counted gs ≡ length ls
unfolding kept counted
kept_count [] ls e = omega arith
kept_count (g ∷ gs) [] e = absurd (omega arith)
kept_count (true ∷ gs) (l ∷ ls) e = omega (arith, kept_count gs ls (omega arith))
kept_count (false ∷ gs) (l ∷ ls) e = omega (arith, kept_count gs ls (omega arith))

pub length_anew : (k : ℕ) (ls : List Line) → length (numbered_anew k ls) ≡ length ls
unfolding numbered_anew
length_anew k [] = refl
length_anew k (l ∷ ls) = ap suc (length_anew (suc k) ls)

pub swept_count : (ls : List Line) → length (swept ls) + counted (removed ls) ≡ length ls
unfolding swept
swept_count ls = rw (length_anew 0 (kept (removed ls) ls)) (kept_count (removed ls) ls (removed_each ls))

-- ## Numbers: "one line per old node", "five bytes for each old node"

numbers_each : (k : ℕ) (gs : List Bool) → length (numbers_from k gs) ≡ length gs
unfolding numbers_from
numbers_each k [] = refl
numbers_each k (true ∷ gs) = ap suc (numbers_each k gs)
numbers_each k (false ∷ gs) = ap suc (numbers_each (suc k) gs)

pub one_each : (ls : List Line) → length (new_numbers ls) ≡ length ls
unfolding new_numbers
one_each ls = numbers_each 0 (removed ls) ∙ removed_each ls

pub five_each : (ns : List ℕ) → length (number_file ns) ≡ 5 * length ns
unfolding number_file number_line encode
five_each [] = refl
five_each (n ∷ ns) = omega (arith, five_each ns)

pub numbers_long : (ls : List Line) → length (number_file (new_numbers ls)) ≡ 5 * length ls
numbers_long ls = five_each (new_numbers ls) ∙ ap (λ (n : ℕ). 5 * n) (one_each ls)
