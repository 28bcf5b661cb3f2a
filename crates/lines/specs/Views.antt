-- A view beside the fresh one: replies 9 and 10, and the marks that count.
use Rattle.std.specs.Prelude.{ℕ, suc, Bool, cond, ◌&&◌, ◌||◌, List, [], ◌∷◌, eqb, Option, None, Some}
use Rattle.lines.specs.Nodes.{Line, untouched_mark, changed_mark, is_marked, program_number}
use Rattle.lines.specs.Verdicts.{first_from}
use Rattle.lines.specs.Texts.{same_text}

unfoldable pub same_head : Line → Line → Bool
same_head v f = eqb v.depth f.depth && (eqb v.kind f.kind && eqb v.number f.number)

-- reply 9 on one line: "depth, kind, number, or in the bytes of a line not marked 01"
unfoldable pub same_line : Line → Line → Bool
same_line v f = same_head v f && (eqb v.mark changed_mark || same_text v.text f.text)

-- "first differing line; the shorter count", from line n on
unfoldable pub difference_from : ℕ → List Line → List Line → Option ℕ
difference_from n [] [] = None
difference_from n [] (f ∷ fs) = Some n
difference_from n (v ∷ vs) [] = Some n
difference_from n (v ∷ vs) (f ∷ fs) = cond (same_line v f) (difference_from (suc n) vs fs) (Some n)

unfoldable pub first_difference : List Line → List Line → Option ℕ
first_difference view fresh = difference_from 0 view fresh

-- reply 10: "a line with number FFFF has a mark", as written
unfoldable pub program_marked : Line → Bool
program_marked v = eqb v.number program_number && is_marked v

unfoldable pub program_mark : List Line → Option ℕ
program_mark view = first_from program_marked 0 view

-- ## The mark that counts

-- of a line, by the bytes of the fresh one, its mark and its bytes: "A line marked 01 whose bytes equal the fresh line's counts as untouched."
unfoldable pub mark_counted : List ℕ → ℕ → List ℕ → ℕ
mark_counted fresh mark bytes = cond (eqb mark changed_mark && same_text bytes fresh) untouched_mark mark

-- the line with that mark, beside the fresh one
abbrev pub counted_line : Line → Line → Line
counted_line f v = record { depth = v.depth; kind = v.kind; mark = mark_counted f.text v.mark v.text; number = v.number; text = v.text }

-- a view's lines with these marks, beside the fresh ones; lines that have none beside them stay as they are
unfoldable pub counted_lines : List Line → List Line → List Line
counted_lines [] vs = vs
counted_lines (f ∷ fs) [] = []
counted_lines (f ∷ fs) (v ∷ vs) = counted_line f v ∷ counted_lines fs vs
