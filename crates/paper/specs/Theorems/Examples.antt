-- The paper's own examples, computed: of section 3.4 `split` and `mg`; both ways, in the paper and by the rules, that of section 3.5 and the bibview of section 4.2.1.
use Rattle.std.specs.Prelude.{◌≡◌, refl, List, [], ◌∷◌, ℕ, None, Some}
use Rattle.lines.specs.Entries.{Entry, slot_of, text_of}
use Rattle.lines.specs.Nodes.{Line, is_element}
use Rattle.lines.specs.Texts.{same_text, kept_before, trimmed, agree}
use Rattle.lines.specs.Views.{mark_counted}
use Rattle.values.specs.Values.{among, element_of, bytes_of, is_from, master_number, is_top, no_top, starts_top, lowered, raised, to_first, items, shallow, within_bounds}
use Rattle.values.specs.Standings.{sort, new_text, is_untouched, is_clash, same_standing, ◌⋓◌, fitted, all_over, merged, gathered, says, brings, hands_back}
use Rattle.runs.specs.Results.{gives}
use Rattle.runs.specs.Programs.{equals, Transformation, source, nothing, text, tag, slot, contents, within, and_then, beside, each, choose, bind, compares, tagged}
use Rattle.runs.specs.Reading.{operations, makes, below, transformation_at, read_in, read_program}
use Rattle.runs.specs.Showing.{value_in, one_top, one_element, one_text, bounded, in_turn, verdict, show}
use Rattle.runs.specs.PuttingBack.{merged_into, untouched_slots, gathered_slots, value_of, says_yes, inside, over_items, put_back}
use Rattle.runs.specs.Grounds.{numbered_from, line_of, whole, one_master, showing, shown_line, view, brought, standing, standing_for, first_clash, handed_back, lines_in}
use Rattle.paper.specs.Data.{Updating, ori, non, mod', ori_e, src, code, Sequence, none, str, elt, fail, got}
use Rattle.paper.specs.Language.{Construct, xid, xconst, xvar, xchild, xsetcnt, xseq, xpar, xmap, xif, xlet, xeq, xwithtag}
use Rattle.paper.specs.Operators.{mg, split, guard}
use Rattle.paper.specs.Semantics.{forward, backward}
use Rattle.paper.specs.Programs.{worded, in_paper, in_print}
use Rattle.paper.specs.Lines.{items_at, sequence}
use Rattle.paper.specs.Agreement.{clash_of, handed_back_by}

abbrev hi : List ℕ
hi = 0x68 ∷ 0x69 ∷ []

abbrev lo : List ℕ
lo = 0x6C ∷ 0x6F ∷ []

abbrev ten : List ℕ
ten = 0x31 ∷ 0x30 ∷ []

abbrev eleven : List ℕ
eleven = 0x31 ∷ 0x31 ∷ []

abbrev thirty : List ℕ
thirty = 0x33 ∷ 0x30 ∷ []

abbrev twenty_five : List ℕ
twenty_five = 0x32 ∷ 0x35 ∷ []

abbrev price : List ℕ
price = 0x70 ∷ 0x72 ∷ 0x69 ∷ 0x63 ∷ 0x65 ∷ []

-- a line: depth, kind, mark, number, bytes
abbrev line : ℕ → ℕ → ℕ → ℕ → List ℕ → Line
line depth kind mark number bytes = record { depth = depth; kind = kind; mark = mark; number = number; text = bytes }

-- ## Section 3.4

abbrev item : List ℕ → Sequence → Sequence
item t S = str t ori (src 0) S

-- "split(v1, v2, v3, [2, 0, 1]) generates three subsequences: v1, v2; (); v3"
split_three : split (item hi (item lo (item ten none))) (2 ∷ 0 ∷ 1 ∷ []) ≡ got (item hi (item lo none) ∷ none ∷ item ten none ∷ [])
split_three = refl

-- "merging <price>[30 (mod,s)] and <price>[25 (mod,s)] will cause a conflict"
two_prices : mg (elt price ori_e (src 0) (str thirty mod' (src 1) none) none) (elt price ori_e (src 0) (str twenty_five mod' (src 1) none) none) ≡ fail
unfolding same_text
two_prices = refl

-- ## Section 3.5: 10, shown by itself and again where it equals 10

abbrev tens : Transformation
tens = beside 0 (source 1) (choose 2 (compares 3 equals (text 4 ten)) (source 5) (nothing 6))

-- xid || xif (xeq (xconst 10)) xid (xconst ())
abbrev if_ten : Construct
if_ten = xif (xeq (xconst (str ten ori code none))) xid (xconst none)

in_print_tens : in_print tens ≡ xpar xid if_ten
unfolding worded
in_print_tens = refl

abbrev ten_is : Updating → Sequence → Sequence
ten_is u S = str ten u (src 0) S

-- "the view is 10, 10"
shown_tens : forward (xpar xid if_ten) [] (ten_is ori none) ≡ got (ten_is ori (ten_is ori none))
unfolding forward same_text
shown_tens = refl

-- "the backward execution of xif will return the updated source data 10 (non,s)"
locked_ten : backward guard if_ten [] (ten_is ori none) (ten_is ori none) ≡ got (ten_is non none, [])
unfolding backward forward same_text
locked_ten = refl

-- "the mg operator in the parallel composition will fail"; "the guard operator will detect this illegal modification"
refused_tens : (backward guard (xpar xid if_ten) [] (ten_is ori none) (str eleven mod' (src 0) (ten_is ori none)) ≡ fail)
    × (backward guard (xpar xid if_ten) [] (ten_is ori none) (ten_is ori (str eleven mod' (src 0) none)) ≡ fail)
unfolding backward forward same_text
refused_tens = (refl, refl)

abbrev one_ten : List Line
one_ten = line 0 1 0 0 ten ∷ []

-- ## Section 4.2.1: all books behind a table of their titles. The paper's xmap (xchild; GetTitle) is written xmap xchild; GetTitle, so that no entry is at level 13

abbrev bib : List ℕ
bib = 0x62 ∷ 0x69 ∷ 0x62 ∷ []

abbrev book : List ℕ
book = 0x62 ∷ 0x6F ∷ 0x6F ∷ 0x6B ∷ []

abbrev title : List ℕ
title = 0x74 ∷ 0x69 ∷ 0x74 ∷ 0x6C ∷ 0x65 ∷ []

abbrev bibview : List ℕ
bibview = 0x62 ∷ 0x69 ∷ 0x62 ∷ 0x76 ∷ 0x69 ∷ 0x65 ∷ 0x77 ∷ []

abbrev toc : List ℕ
toc = 0x74 ∷ 0x6F ∷ 0x63 ∷ []

abbrev database : List ℕ
database = 0x44 ∷ 0x61 ∷ 0x74 ∷ 0x61 ∷ 0x62 ∷ 0x61 ∷ 0x73 ∷ 0x65 ∷ []

abbrev web_database : List ℕ
web_database = 0x57 ∷ 0x65 ∷ 0x62 ∷ 0x20 ∷ 0x44 ∷ 0x61 ∷ 0x74 ∷ 0x61 ∷ 0x62 ∷ 0x61 ∷ 0x73 ∷ 0x65 ∷ []

abbrev network : List ℕ
network = 0x4E ∷ 0x65 ∷ 0x74 ∷ 0x77 ∷ 0x6F ∷ 0x72 ∷ 0x6B ∷ []

abbrev twenty : List ℕ
twenty = 0x32 ∷ 0x30 ∷ []

abbrev books : List Line
books =
    line 0 2 0 0 bib ∷
    line 1 2 0 1 book ∷
    line 2 2 0 2 title ∷
    line 3 1 0 3 database ∷
    line 2 2 0 4 price ∷
    line 3 1 0 5 twenty ∷
    line 1 2 0 6 book ∷
    line 2 2 0 7 title ∷
    line 3 1 0 8 network ∷
    line 2 2 0 9 price ∷
    line 3 1 0 10 ten ∷
    []

abbrev entry : ℕ → List ℕ → Entry
entry operation operand = record { operation = operation; operand = operand }

abbrev bib_entries : List Entry
bib_entries =
    entry 0x08 [] ∷ entry 0x06 [] ∷ entry 0x0C (0 ∷ []) ∷ entry 0x08 [] ∷ entry 0x04 (7 ∷ bibview) ∷ entry 0x07 [] ∷ entry 0x09 [] ∷
    entry 0x08 [] ∷ entry 0x04 (3 ∷ toc) ∷ entry 0x07 [] ∷ entry 0x08 [] ∷ entry 0x05 (0 ∷ []) ∷ entry 0x08 [] ∷ entry 0x0A [] ∷ entry 0x06 [] ∷
    entry 0x0A [] ∷ entry 0x0B [] ∷ entry 0x12 (5 ∷ title) ∷ entry 0x01 [] ∷ entry 0x02 [] ∷
    entry 0x05 (0 ∷ []) ∷ []

abbrev get_title : Construct
get_title = xmap (xif (xwithtag title) xid (xconst none))

-- over the way from the books to their titles
abbrev bib_with : Construct → Construct
bib_with titles =
    xseq xchild (xlet 0 (xseq (xconst (elt bibview ori_e code none none)) (xsetcnt (xpar
    (xseq (xconst (elt toc ori_e code none none)) (xsetcnt (xseq (xvar 0) titles)))
    (xvar 0)))))

abbrev bib_printed : Construct
bib_printed = bib_with (xmap (xseq xchild get_title))

abbrev bib_view : Construct
bib_view = bib_with (xseq (xmap xchild) get_title)

-- the tree of these entries
abbrev bib_tree : Transformation
bib_tree =
    and_then 0 (contents 1)
    (bind 2 0 (and_then 3 (tag 4 bibview) (within 5 (beside 6
    (and_then 7 (tag 8 toc) (within 9 (and_then 10 (slot 11 0) (and_then 12 (each 13 (contents 14)) (each 15 (choose 16 (tagged 17 title) (source 18) (nothing 19)))))))
    (slot 20 0)))))

read_bib : (read_program bib_entries ≡ gives bib_tree) × (in_paper bib_tree ≡ bib_view)
unfolding read_program read_in transformation_at below makes operations among slot_of text_of worded
read_bib = (refl, refl)

-- the books' lines of a view, the first title's text with this mark and these bytes
abbrev book_lines : ℕ → List ℕ → List Line
book_lines mark bytes =
    line 1 2 0 1 book ∷ line 2 2 0 2 title ∷ line 3 1 mark 3 bytes ∷ line 2 2 0 4 price ∷ line 3 1 0 5 twenty ∷
    line 1 2 0 6 book ∷ line 2 2 0 7 title ∷ line 3 1 0 8 network ∷ line 2 2 0 9 price ∷ line 3 1 0 10 ten ∷ []

-- the table of contents in front of them, its first title likewise
abbrev bib_lines : ℕ → List ℕ → List Line → List Line
bib_lines mark bytes rest =
    line 0 2 0 0xFFFF bibview ∷ line 1 2 0 0xFFFF toc ∷ line 2 2 0 2 title ∷ line 3 1 mark 3 bytes ∷ line 2 2 0 7 title ∷ line 3 1 0 8 network ∷ rest

shown_bib : (forward bib_printed [] (sequence books) ≡ got (sequence (bib_lines 0 database (book_lines 0 database))))
    × (forward bib_view [] (sequence books) ≡ got (sequence (bib_lines 0 database (book_lines 0 database))))
unfolding forward sequence items_at is_element same_text
shown_bib = (refl, refl)

-- the title in the table of contents is changed: node 3 is, and so is its copy when the view is shown again
edited_bib : (backward guard bib_printed [] (sequence books) (sequence (bib_lines 1 web_database (book_lines 0 database)))
    ≡ got (sequence (line 0 2 0 0 bib ∷ book_lines 1 web_database), []))
    × (backward guard bib_view [] (sequence books) (sequence (bib_lines 1 web_database (book_lines 0 database))) ≡ got (sequence (line 0 2 0 0 bib ∷ book_lines 1 web_database), []))
unfolding backward forward sequence items_at is_element same_text
edited_bib = (refl, refl)

again_bib : forward bib_view [] (sequence (line 0 2 0 0 bib ∷ book_lines 1 web_database)) ≡ got (sequence (bib_lines 1 web_database (book_lines 1 web_database)))
unfolding forward sequence items_at is_element same_text
again_bib = refl

-- ## The same by the rules

-- 10 twice, and the table of titles before the books
shown_by_the_rules : (view (one_master one_ten) (value_of (showing (one_master one_ten) tens)) ≡ line 0 1 0 0 ten ∷ line 0 1 0 0 ten ∷ [])
    × (view (one_master books) (value_of (showing (one_master books) bib_tree)) ≡ bib_lines 0 database (book_lines 0 database))
unfolding view shown_line numbered_from line_of whole showing show value_in one_top one_element one_text bounded in_turn verdict value_of
    element_of bytes_of master_number is_top no_top starts_top lowered raised to_first items shallow within_bounds is_element same_text kept_before trimmed agree
shown_by_the_rules = (refl, refl)

-- both edits of 10 are a clash of node 0; the edited title is handed back as the paper has it
by_the_rules : (clash_of tens one_ten (line 0 1 1 0 eleven ∷ line 0 1 0 0 ten ∷ []) ≡ Some 0)
    × (clash_of tens one_ten (line 0 1 0 0 ten ∷ line 0 1 1 0 eleven ∷ []) ≡ Some 0)
    × (clash_of bib_tree books (bib_lines 1 web_database (book_lines 0 database)) ≡ None)
    × (handed_back_by bib_tree books (bib_lines 1 web_database (book_lines 0 database)) ≡ line 0 2 0 0 bib ∷ book_lines 1 web_database)
unfolding first_clash standing_for standing brought brings says mark_counted handed_back lines_in numbered_from line_of whole showing show put_back
    value_in one_top one_element one_text bounded in_turn verdict merged_into untouched_slots gathered_slots value_of says_yes inside
    over_items element_of bytes_of is_from master_number is_top no_top starts_top lowered raised to_first items shallow within_bounds sort
    new_text is_untouched is_clash same_standing ◌⋓◌ fitted all_over merged gathered hands_back is_element same_text kept_before trimmed agree
by_the_rules = (refl, refl, refl, refl)
