-- A master's or a view's lines, read as the paper's data; and the paper's data, printed as lines.
use Rattle.std.specs.Prelude.{ℕ, suc, cond, List, [], ◌∷◌, ◌++◌, eqb, ltb}
use Rattle.lines.specs.Nodes.{Line, is_element, untouched_mark, changed_mark, deleted_mark, program_number, line_at}
use Rattle.paper.specs.Data.{Updating, ori, non, mod', del, ElementUpdating, ori_e, del_e, From, src, code, Sequence, none, str, elt}

-- ## Lines, read

-- a mark is the updating state
abbrev pub updating_of : ℕ → Updating
updating_of mark = cond (eqb mark changed_mark) mod' (cond (eqb mark deleted_mark) del ori)

abbrev pub element_updating_of : ℕ → ElementUpdating
element_updating_of mark = cond (eqb mark deleted_mark) del_e ori_e

-- FFFF is c, any other number s
abbrev pub from_of : ℕ → From
from_of number = cond (eqb number program_number) code (src number)

-- a line with the contents under it and the sequence behind it
abbrev pub item_of : Line → Sequence → Sequence → Sequence
item_of l K S =
    cond (is_element l.kind) (elt l.text (element_updating_of l.mark) (from_of l.number) K S)
    (str l.text (updating_of l.mark) (from_of l.number) S)

-- the items at depth d, up to a line of less depth
unfoldable pub items_at : ℕ → List Line → Sequence
items_at d [] = none
items_at d (l ∷ ls) =
    cond (ltb l.depth d) none
    (cond (eqb l.depth d) (item_of l (items_at (suc d) ls) (items_at d ls))
    (items_at d ls))

unfoldable pub sequence : List Line → Sequence
sequence ls = items_at 0 ls

-- ## The paper's data, printed as lines

-- a state is a mark; `non` is 00: "locked is handed back as untouched"
abbrev pub mark_of : Updating → ℕ
mark_of ori = untouched_mark
mark_of non = untouched_mark
mark_of mod' = changed_mark
mark_of del = deleted_mark

abbrev pub element_mark_of : ElementUpdating → ℕ
element_mark_of ori_e = untouched_mark
element_mark_of del_e = deleted_mark

-- c is FFFF
abbrev pub origin_number : From → ℕ
origin_number (src n) = n
origin_number code = program_number

-- the paper has one kind of string: it is printed with its node's kind, unless that is an element's, and with 01 where the program made it
abbrev pub text_kind : (ℕ → ℕ) → From → ℕ
text_kind kinds (src n) = cond (is_element (kinds n)) 1 (kinds n)
text_kind kinds code = 1

-- in document order: what stands at depth d, each with its contents one deeper behind it. `kinds` gives the nodes' kinds
unfoldable pub lines_at : (ℕ → ℕ) → ℕ → Sequence → List Line
lines_at kinds d none = []
lines_at kinds d (str t u o S) = record { depth = d; kind = text_kind kinds o; mark = mark_of u; number = origin_number o; text = t } ∷ lines_at kinds d S
lines_at kinds d (elt t w o K S) =
    record { depth = d; kind = 2; mark = element_mark_of w; number = origin_number o; text = t } ∷ (lines_at kinds (suc d) K ++ lines_at kinds d S)

unfoldable pub paper_lines : (ℕ → ℕ) → Sequence → List Line
paper_lines kinds S = lines_at kinds 0 S

-- the kinds of a master's nodes
abbrev pub kinds_in : List Line → ℕ → ℕ
kinds_in ls n = (line_at ls n).kind
