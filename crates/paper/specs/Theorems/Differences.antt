-- Each difference between the paper and document 01, computed.
use Rattle.std.specs.Prelude.{◌≡◌, refl, false, List, [], ◌∷◌, map, ℕ, zero, suc, Option, None, Some}
use Rattle.lines.specs.Entries.{slot_of, text_of}
use Rattle.lines.specs.Nodes.{Line, changed_mark, is_element, is_marked, hi_lo, lo_hi, is_order, kind_rule}
use Rattle.lines.specs.Masters.{depth_after, placed, bounds_from, master_bounds, unmarked}
use Rattle.lines.specs.Texts.{same_text, kept_before, trimmed, agree}
use Rattle.lines.specs.Verdicts.{first_from}
use Rattle.lines.specs.Views.{same_head, same_line, difference_from, first_difference, program_marked, program_mark, mark_counted, counted_lines}
use Rattle.values.specs.Values.{among, element_of, bytes_of, is_from, master_number, is_top, no_top, starts_top, lowered, raised, to_first, items, shallow, within_bounds}
use Rattle.values.specs.Standings.{sort, new_text, is_untouched, is_clash, same_standing, ◌⋓◌, fitted, all_over, merged, gathered, says, brings, hands_back}
use Rattle.runs.specs.declared.stop.Stop.TheVariants.{Size}
use Rattle.runs.specs.Results.{stops}
use Rattle.runs.specs.Programs.{equals, Transformation, source, nothing, text, slot, contents, within, beside, choose, bind, compares}
use Rattle.runs.specs.Reading.{operations, makes, below, transformation_at, read_in, read_program}
use Rattle.runs.specs.Showing.{value_in, one_top, one_element, one_text, bounded, in_turn, verdict, show}
use Rattle.runs.specs.PuttingBack.{merged_into, untouched_slots, gathered_slots, value_of, says_yes, inside, over_items, put_back}
use Rattle.runs.specs.Grounds.{one_master, numbered_from, line_of, whole, showing, shown_line, view, brought, standing, standing_for, first_clash, handed_back, lines_in}
use Rattle.paper.specs.Data.{Updating, ori, non, mod', del, ElementUpdating, ori_e, del_e, src, Sequence, none, str, elt, len, May, fail, got, ◌>>=◌}
use Rattle.paper.specs.Language.{xvar}
use Rattle.paper.specs.Operators.{guard}
use Rattle.paper.specs.Strict.{strict_guard}
use Rattle.paper.specs.Semantics.{forward, backward}
use Rattle.paper.specs.Programs.{worded, in_paper, in_print}
use Rattle.paper.specs.Lines.{items_at, sequence, lines_at, paper_lines, kinds_in}
use Rattle.paper.specs.Agreement.{clash_of, handed_back_by, put_back_by}

abbrev hi : List ℕ
hi = 0x68 ∷ 0x69 ∷ []

abbrev lo : List ℕ
lo = 0x6C ∷ 0x6F ∷ []

-- a text at depth 0: mark, number, bytes
abbrev text_line : ℕ → ℕ → List ℕ → Line
text_line mark number bytes = record { depth = 0; kind = 1; mark = mark; number = number; text = bytes }

abbrev one : List Line
one = text_line 0 0 hi ∷ []

abbrev two : List Line
two = text_line 0 0 hi ∷ text_line 0 1 hi ∷ []

-- the text, if it is "hi"
abbrev asks : Transformation
asks = choose 0 (compares 1 equals (text 2 hi)) (source 3) (nothing 4)

-- and once more
abbrev asks_beside : Transformation
asks_beside = beside 5 asks (source 6)

-- the fresh lines
abbrev fresh_of : Transformation → List Line → List Line
fresh_of tree master = view (one_master master) (value_of (showing (one_master master) tree))

-- ## Views put back

record Case : Type 0 where
  tree : Transformation
  master : List Line
  edited : List Line
  written : May Sequence  -- the paper's updated source of the view as written, with Fig. 7's guard
  printed : May Sequence  -- of the view with the marks that count, with that guard
  strict : May Sequence  -- with the strict one
  clash : Option ℕ  -- the rules' first clash
  returned : List Line  -- the lines that they hand back

-- all marks count as they are written
abbrev case : Transformation → List Line → List Line → May Sequence → May Sequence → Option ℕ → List Line → Case
case tree master edited printed strict clash returned =
    record { tree = tree; master = master; edited = edited; written = printed; printed = printed; strict = strict; clash = clash; returned = returned }

-- a line of `one` was saved as it was: the view is accepted by either guard and by the rules
abbrev saved : Transformation → List Line → May Sequence → May Sequence → List Line → Case
saved tree edited written accepted returned =
    record { tree = tree; master = one; edited = edited; written = written; printed = accepted; strict = accepted; clash = None; returned = returned }

abbrev hi_is : Updating → May Sequence
hi_is u = got (str hi u (src 0) none)

-- a compared text deleted
abbrev compared_deleted : Case
compared_deleted = case asks one (text_line 2 0 hi ∷ []) (hi_is del) fail (Some 0) one

-- a compared text marked changed, with its own text: as written Fig. 7 lets it pass as `mod`, but the mark counts as 00
abbrev compared_same : Case
compared_same = saved asks (text_line 1 0 hi ∷ []) (hi_is mod') (hi_is non) one

-- one copy marked changed, with its own text, the other changed to a new one: as written `mg` fails on two `mod`, but the first mark counts as 00
abbrev saved_copy : Case
saved_copy = saved (beside 0 (source 1) (source 2)) (text_line 1 0 hi ∷ text_line 1 0 lo ∷ []) fail (got (str lo mod' (src 0) none)) (text_line 1 0 lo ∷ [])

-- deleted in the copy that was compared: Fig. 7 lets it pass
abbrev compared_copy : Case
compared_copy = case asks_beside one (text_line 2 0 hi ∷ text_line 0 0 hi ∷ []) (hi_is del) fail (Some 0) one

-- deleted in the other copy: it does not
abbrev other_copy : Case
other_copy = case asks_beside one (text_line 0 0 hi ∷ text_line 2 0 hi ∷ []) fail fail (Some 0) one

-- `non` stays in the paper's result
abbrev non_left : Case
non_left = case asks one one (hi_is non) (hi_is non) None one

-- two conflicts: `fail` has no place, the clash is that of the least number
abbrev two_conflicts : Case
two_conflicts =
    case (beside 0 (source 1) (source 2)) two (text_line 1 0 lo ∷ text_line 2 1 hi ∷ text_line 2 0 hi ∷ text_line 1 1 lo ∷ []) fail fail (Some 0) two

abbrev cases : List Case
cases = compared_deleted ∷ compared_same ∷ saved_copy ∷ compared_copy ∷ other_copy ∷ non_left ∷ two_conflicts ∷ []

abbrev Outcome : Type 0
Outcome = May Sequence × May Sequence × May Sequence × Option ℕ × List Line

outcome : Case → Outcome
outcome c =
    let counts = counted_lines (fresh_of c.tree c.master) c.edited in (
      put_back_by guard c.tree c.master c.edited >>= λ r. got r.0,
      put_back_by guard c.tree c.master counts >>= λ r. got r.0,
      put_back_by strict_guard c.tree c.master counts >>= λ r. got r.0,
      clash_of c.tree c.master c.edited,
      handed_back_by c.tree c.master c.edited,
    )

all_put : map outcome cases ≡ map (λ c. (c.written, c.printed, c.strict, c.clash, c.returned)) cases
unfolding outcome backward forward worded sequence items_at first_clash standing_for standing brought brings says mark_counted counted_lines handed_back lines_in numbered_from
    line_of whole showing shown_line view show put_back value_in one_top one_element one_text bounded in_turn verdict merged_into untouched_slots gathered_slots value_of
    says_yes inside over_items element_of bytes_of is_from master_number is_top no_top starts_top lowered raised to_first items shallow within_bounds sort
    new_text is_untouched is_clash same_standing ◌⋓◌ fitted all_over merged gathered hands_back is_element same_text kept_before trimmed agree
all_put = refl

-- ## Views that replies 9 and 10 keep from being put back, where the paper fails: xconst, xsetcnt and split

record Kept : Type 0 where
  tree : Transformation
  edited : List Line
  nine : Option ℕ
  ten : Option ℕ

abbrev kept : Transformation → List Line → Option ℕ → Option ℕ → Kept
kept tree edited nine ten = record { tree = tree; edited = edited; nine = nine; ten = ten }

-- a tag
abbrev d : List ℕ
d = 0x64 ∷ []

-- an element of this number and tag with a text in it
abbrev boxed_at : ℕ → List ℕ → List Line
boxed_at n t = record { depth = 0; kind = 2; mark = 0; number = n; text = t } ∷ record { depth = 1; kind = 1; mark = 0; number = 1; text = hi } ∷ []

abbrev boxed : List ℕ → List Line
boxed t = boxed_at 0 t

abbrev kept_back : List Kept
kept_back =
    kept (text 0 hi) (text_line 2 0xFFFF hi ∷ []) None (Some 0) ∷  -- xconst: its text deleted,
    kept (text 0 hi) (text_line 1 0xFFFF lo ∷ []) None (Some 0) ∷  -- changed,
    kept (text 0 hi) (text_line 0 0xFFFF lo ∷ []) (Some 0) None ∷  -- or another
    kept (within 0 (source 1)) (boxed lo) (Some 0) None ∷  -- xsetcnt: another tag
    kept (beside 0 (source 1) (source 2)) (boxed d) (Some 2) None ∷  -- split: an item too few
    []

judged : Kept → May Sequence × Option ℕ × Option ℕ
judged c = (
  put_back_by guard c.tree (boxed d) c.edited >>= λ r. got r.0,
  first_difference c.edited (fresh_of c.tree (boxed d)),
  program_mark c.edited,
)

all_kept : map judged kept_back ≡ map (λ c. (fail, c.nine, c.ten)) kept_back
unfolding judged backward forward worded sequence items_at numbered_from line_of whole showing shown_line view show value_in one_top one_element
    one_text bounded in_turn verdict value_of element_of bytes_of master_number is_top no_top starts_top lowered raised to_first items shallow within_bounds
    is_element same_text kept_before trimmed agree is_marked first_from same_head same_line difference_from first_difference program_marked program_mark
all_kept = refl

-- ## Views that reply 9 refuses, where the paper hands something back

record Passed : Type 0 where
  tree : Transformation
  master : List Line
  edited : List Line
  printed : May Sequence  -- with either guard
  nine : Option ℕ

abbrev passed : Transformation → List Line → List Line → May Sequence → Option ℕ → Passed
passed tree master edited printed nine = record { tree = tree; master = master; edited = edited; printed = printed; nine = nine }

-- the paper's `boxed d`, with this mark and these contents
abbrev box_of : ElementUpdating → Sequence → May Sequence
box_of w K = got (elt d w (src 0) K none)

-- the whole source from a slot
abbrev from_slot : Transformation
from_slot = bind 0 7 (slot 1 7)

-- twice
abbrev from_slot_twice : Transformation
from_slot_twice = bind 0 7 (beside 1 (slot 2 7) (slot 3 7))

abbrev let_pass : List Passed
let_pass =
    passed (source 0) one (text_line 0 0 lo ∷ []) (got (str lo ori (src 0) none)) (Some 0) ∷  -- xid: a text changed without a mark,
    passed (source 0) one [] (got none) (Some 0) ∷  -- a line left out,
    passed (source 0) one (text_line 0 0 hi ∷ text_line 0 1 lo ∷ []) (got (str hi ori (src 0) (str lo ori (src 1) none))) (Some 1) ∷  -- a line added
    passed (contents 0) (boxed d) (text_line 0 1 lo ∷ []) (box_of ori_e (str lo ori (src 1) none)) (Some 0) ∷  -- xchild: the same three
    passed (contents 0) (boxed d) [] (box_of ori_e none) (Some 0) ∷
    passed (contents 0) (boxed d) (text_line 0 1 hi ∷ text_line 0 2 lo ∷ []) (box_of ori_e (str hi ori (src 1) (str lo ori (src 2) none))) (Some 1) ∷
    passed from_slot one (text_line 0 0 lo ∷ []) fail (Some 0) ∷  -- xvar: `mg` fails on these,
    passed from_slot one [] fail (Some 0) ∷
    passed from_slot one (text_line 0 0 hi ∷ text_line 0 1 lo ∷ []) fail (Some 1) ∷
    passed from_slot_twice one (text_line 0 0 [] ∷ text_line 1 0 lo ∷ []) (got (str lo mod' (src 0) none)) (Some 0) ∷  -- but not if the other copy is marked changed
    passed from_slot one (text_line 0 1 hi ∷ []) (hi_is ori) (Some 0) ∷  -- `mg` and xsetcnt: another number
    passed (within 0 (source 1)) (boxed d) (boxed_at 5 d) (box_of ori_e (str hi ori (src 1) none)) (Some 0) ∷
    []

let_through : Passed → May Sequence × May Sequence × Option ℕ
let_through c = (
  put_back_by guard c.tree c.master c.edited >>= λ r. got r.0,
  put_back_by strict_guard c.tree c.master c.edited >>= λ r. got r.0,
  first_difference c.edited (fresh_of c.tree c.master),
)

any_view : map let_through let_pass ≡ map (λ c. (c.printed, c.printed, c.nine)) let_pass
unfolding let_through backward forward worded sequence items_at numbered_from line_of whole showing shown_line view show value_in one_top one_element
    one_text bounded in_turn verdict value_of element_of bytes_of master_number is_top no_top starts_top lowered raised to_first items shallow within_bounds
    is_element same_text kept_before trimmed agree is_marked first_from same_head same_line difference_from first_difference
any_view = refl

-- ## Masters that carry a mark: the paper puts back into them, reply 5 refuses them

record Marked : Type 0 where
  tree : Transformation
  master : List Line
  edited : List Line
  printed : May Sequence  -- with either guard
  five : Option ℕ

abbrev marked : Transformation → List Line → List Line → May Sequence → Option ℕ → Marked
marked tree master edited printed five = record { tree = tree; master = master; edited = edited; printed = printed; five = five }

-- a text that is deleted already
abbrev gone : List Line
gone = text_line 2 0 hi ∷ []

-- `boxed`, its element deleted already
abbrev gone_box : List Line
gone_box = record { depth = 0; kind = 2; mark = 2; number = 0; text = d } ∷ record { depth = 1; kind = 1; mark = 0; number = 1; text = hi } ∷ []

abbrev marked_masters : List Marked
marked_masters =
    marked (source 0) gone gone (hi_is del) (Some 0) ∷  -- xid: the mark is the view's,
    marked (source 0) gone one (hi_is ori) (Some 0) ∷  -- so it can be taken away
    marked (contents 0) gone_box (text_line 1 1 lo ∷ []) (box_of del_e (str lo mod' (src 1) none)) (Some 0) ∷  -- xchild: the element's mark stays
    marked from_slot gone gone (hi_is del) (Some 0) ∷  -- xvar: so does a text's,
    marked from_slot gone one (hi_is del) (Some 0) ∷  -- taken away in the view or not
    []

put_into : Marked → May Sequence × May Sequence × Option ℕ
put_into c = (
  put_back_by guard c.tree c.master c.edited >>= λ r. got r.0,
  put_back_by strict_guard c.tree c.master c.edited >>= λ r. got r.0,
  unmarked c.master,
)

marked_master : map put_into marked_masters ≡ map (λ c. (c.printed, c.printed, c.five)) marked_masters
unfolding put_into backward forward worded sequence items_at is_element same_text kept_before trimmed agree unmarked first_from is_marked
marked_master = refl

-- ## A padded text: `xeq` tells it from the text without its spaces, test 11 does not

abbrev padded : List Line
padded = text_line 0 0 (0x68 ∷ 0x69 ∷ 0x20 ∷ []) ∷ []

padded_text : (forward (in_print asks) [] (sequence padded) ≡ got none)
    × (forward (in_paper asks) [] (sequence padded) ≡ got (sequence padded))
    × (fresh_of asks padded ≡ padded)
unfolding forward worded sequence items_at numbered_from line_of whole showing shown_line view show one_text verdict value_of
    element_of bytes_of master_number is_element same_text kept_before trimmed agree
padded_text = (refl, refl, refl)

-- ## A word order: the paper has one kind of string, into which any text may be put back; reply 8 keeps other bytes from an order

abbrev order : ℕ → List ℕ → List Line
order mark bytes = record { depth = 0; kind = 3; mark = mark; number = 0; text = bytes } ∷ []

-- the source that the paper hands back, printed with the kinds of the master's nodes
abbrev printed_back : List Line → List Line → May (List Line)
printed_back master edited = put_back_by guard (source 0) master edited >>= λ r. got (paper_lines (kinds_in master) r.0)

word_order : (printed_back (order 0 hi_lo) (order 1 hi) ≡ got (order 1 hi))
    × (kind_rule 3 changed_mark hi ≡ false)
    × (printed_back (order 0 hi_lo) (order 1 lo_hi) ≡ got (order 1 lo_hi))
unfolding backward worded sequence items_at paper_lines lines_at is_element kind_rule is_order same_text
word_order = (refl, refl, refl)

-- ## Size: the paper joins any two sequences, document 01 stops over 128 nodes

-- so many texts, numbered on from a number
texts : ℕ → ℕ → List Line
texts zero number = []
texts (suc n) number = text_line 0 number hi ∷ texts n (suc number)

over_128 : (master_bounds (texts 65 0) ≡ None)
    × ((forward (in_paper (beside 0 (source 1) (source 2))) [] (sequence (texts 65 0)) >>= λ T. got (len T)) ≡ got 130)
    × (showing (one_master (texts 65 0)) (beside 0 (source 1) (source 2)) ≡ stops (Size 0))
unfolding texts master_bounds bounds_from placed depth_after forward worded sequence items_at showing numbered_from line_of whole show in_turn is_element
over_128 = (refl, refl, refl)

-- ## Unbound variables: the paper fails where it meets one, document 01 refuses the program

unbound : (forward (xvar 7) [] none ≡ fail) × (backward guard (xvar 7) [] none none ≡ fail) × (read_program (record { operation = 0x05; operand = 7 ∷ [] } ∷ []) ≡ stops 0)
unfolding forward backward read_program read_in transformation_at below makes operations among slot_of text_of
unbound = (refl, refl, refl)
