-- Computed cases: standings, programs read, values at the bounds. The standings are of cases that look as if they could go wrong:
-- copies through slots, hidden slots, locks of tests that say no or whose result is thrown away, program elements around master nodes.
use Rattle.std.specs.Prelude.{◌≡◌, refl, cond, ◌||◌, List, [], ◌∷◌, ◌++◌, map, ℕ, zero, suc, ◌+◌, length, eqb, Option, None, Some, Result, Ok}
use Rattle.lines.specs.Entries.{Entry, slot_of, text_of}
use Rattle.runs.specs.Results.{gives, stops, stop_number, stop_entry}
use Rattle.runs.specs.Reading.{operations, makes, below, transformation_at, read_in, read_program}
use Rattle.lines.specs.declared.scan.File.TheVariants.{Master}
use Rattle.lines.specs.Hex.{is_hex, hex_value, decode, hex_digit, encode}
use Rattle.lines.specs.Lines.{push, cut, pairs_then_end, is_line}
use Rattle.lines.specs.Files.{form_of, limit_of, scan_from, scan}
use Rattle.lines.specs.Nodes.{Line, is_marked, is_element, all_of, is_tag, kind_rule, node_form, node_line}
use Rattle.lines.specs.Masters.{depth_after, placed, bounds_from, master_bounds, unmarked}
use Rattle.lines.specs.Verdicts.{first_from}
use Rattle.lines.specs.Writing as writing
use Rattle.lines.specs.Writing.{file_of}
use Rattle.lines.specs.Texts.{same_text, kept_before, trimmed, agree}
use Rattle.values.specs.Values.{among, element_of, bytes_of, is_from, master_number, is_top, no_top, starts_top, lowered, raised, to_first, items, shallow, within_bounds}
use Rattle.values.specs.Standings.{Standing, untouched, changed, deleted, sort, new_text, is_untouched, is_clash, same_standing, ◌⋓◌, fitted, all_over, merged, gathered, hands_back}
use Rattle.runs.specs.Programs.{equals, Transformation, source, nothing, text, tag, slot, contents, within, and_then, beside, each, choose, bind, compares}
use Rattle.runs.specs.Programs.{is_element as asksElement}
use Rattle.runs.specs.Showing.{value_in, one_top, one_element, one_text, bounded, in_turn, verdict, show}
use Rattle.runs.specs.PuttingBack.{merged_into, untouched_slots, gathered_slots, value_of, says_yes, inside, over_items, put_back}
use Rattle.runs.specs.Grounds.{one_master, numbered_from, line_of, whole, showing, standing, first_clash, handed_back, lines_in}

abbrev hi : List ℕ
hi = 0x68 ∷ 0x69 ∷ []

abbrev lo : List ℕ
lo = 0x6C ∷ 0x6F ∷ []

abbrev line : ℕ → ℕ → ℕ → List ℕ → Line
line depth kind number bytes = record { depth = depth; kind = kind; mark = 0; number = number; text = bytes }

abbrev one : List Line
one = line 0 1 0 hi ∷ []

-- two texts with the same bytes
abbrev twins : List Line
twins = line 0 1 0 hi ∷ line 0 1 1 hi ∷ []

-- an element with a text in it
abbrev boxed : List Line
boxed = line 0 2 0 (0x64 ∷ []) ∷ line 1 1 1 hi ∷ []

-- if the source text is what X gives
abbrev if_same : Transformation → Transformation → Transformation → Transformation
if_same X Y Z = choose 0 (compares 1 equals X) Y Z

-- the slot shown twice
abbrev twice : Transformation
twice = bind 0 7 (beside 1 (slot 2 7) (slot 3 7))

-- an inner slot of the same byte, over what the program makes
abbrev hidden : Transformation
hidden = bind 0 7 (beside 1 (slot 2 7) (and_then 3 (text 4 lo) (bind 5 7 (slot 6 7))))

-- each text compared with itself through a slot, twice over
abbrev itself : Transformation
itself = each 0 (bind 1 0 (and_then 2 (slot 3 0) (if_same (and_then 6 (slot 7 0) (if_same (slot 10 0) (source 11) (nothing 12))) (source 13) (nothing 14))))

-- a comparison whose result is thrown away
abbrev thrown : Transformation
thrown = beside 0 (and_then 1 (each 2 (if_same (text 5 hi) (source 6) (nothing 7))) (nothing 8)) (source 9)

-- a test that says no
abbrev says_no : Transformation
says_no = each 0 (if_same (text 3 lo) (nothing 4) (source 5))

-- the master's text on the other side of the test
abbrev other_side : Transformation
other_side = bind 0 0 (beside 1 (slot 2 0) (and_then 3 (text 4 hi) (if_same (slot 7 0) (source 8) (nothing 9))))

-- a program's element around the source
abbrev wrapped : Transformation
wrapped = bind 0 0 (and_then 1 (tag 2 (0x61 ∷ [])) (within 3 (slot 4 0)))

record Case : Type 0 where
  master : List Line
  tree : Transformation
  edits : List Standing
  clash : Option ℕ  -- the first
  marks : List ℕ  -- of the lines handed back

abbrev case : List Line → Transformation → List Standing → Option ℕ → List ℕ → Case
case master tree edits clash marks = record { master = master; tree = tree; edits = edits; clash = clash; marks = marks }

abbrev cases : List Case
cases =
    case one twice (untouched ∷ changed lo ∷ []) None (1 ∷ []) ∷
    case one twice (changed lo ∷ changed lo ∷ []) None (1 ∷ []) ∷
    case one twice (deleted ∷ changed lo ∷ []) (Some 0) (0 ∷ []) ∷
    case twins hidden (deleted ∷ untouched ∷ untouched ∷ []) None (2 ∷ 0 ∷ []) ∷
    case twins itself (untouched ∷ untouched ∷ []) None (0 ∷ 0 ∷ []) ∷
    case twins itself (untouched ∷ deleted ∷ []) (Some 1) (0 ∷ 0 ∷ []) ∷
    case twins thrown (changed lo ∷ untouched ∷ []) (Some 0) (0 ∷ 0 ∷ []) ∷
    case twins says_no (untouched ∷ changed lo ∷ []) (Some 1) (0 ∷ 0 ∷ []) ∷
    case one other_side (changed lo ∷ untouched ∷ []) (Some 0) (0 ∷ []) ∷
    case twins wrapped (untouched ∷ changed lo ∷ deleted ∷ []) None (1 ∷ 2 ∷ []) ∷
    case boxed (beside 0 (source 1) (contents 2)) (deleted ∷ untouched ∷ changed lo ∷ []) None (2 ∷ 1 ∷ []) ∷
    []

abbrev Outcome : Type 0
Outcome = Option ℕ × List ℕ

outcome : Case → Outcome
outcome c =
    let s = standing (one_master c.master) c.tree c.edits in
    (first_clash s (numbered_from 0 c.master), map (λ l. l.mark) (lines_in (handed_back s (numbered_from 0 c.master))))

all_hold : map outcome cases ≡ map (λ c. (c.clash, c.marks)) cases
unfolding outcome first_clash standing handed_back lines_in numbered_from line_of whole show put_back value_in one_top one_element one_text bounded in_turn verdict
    merged_into untouched_slots gathered_slots value_of says_yes inside over_items element_of bytes_of is_from master_number is_top no_top starts_top lowered raised to_first items
    shallow within_bounds sort new_text is_untouched is_clash same_standing ◌⋓◌ fitted all_over merged gathered hands_back is_element same_text kept_before trimmed agree
all_hold = refl

-- ## Programs read: soundness and the place of the first fault

-- slot 00 where a slot is asked for
abbrev entry : ℕ → Entry
entry operation = record { operation = operation; operand = cond (eqb operation 0x05 || eqb operation 0x0C) (0 ∷ []) [] }

times : ℕ → ℕ → List ℕ → List ℕ
times zero b bs = bs
times (suc n) b bs = b ∷ times n b bs

-- 1 and the place behind the last line, or 0 and the fault
outcome_read : List ℕ → ℕ × ℕ
outcome_read bs = elim (read_program (map entry bs)) [ gives X ↦ (1, length bs) | stops p ↦ (0, p) ]

abbrev programs : List (List ℕ × (ℕ × ℕ))
programs =
    (times 11 0x07 (0x01 ∷ []), (1, 12)) ∷
    (times 12 0x07 (0x01 ∷ []), (0, 12)) ∷
    (times 12 0x07 [], (0, 12)) ∷
    (times 3 0x0A (0x01 ∷ []), (1, 4)) ∷
    (times 4 0x0A (0x01 ∷ []), (0, 3)) ∷
    (times 4 0x0C (0x05 ∷ []), (1, 5)) ∷
    (times 5 0x0C (0x05 ∷ []), (0, 4)) ∷
    (0x01 ∷ 0x01 ∷ [], (0, 1)) ∷
    (0x08 ∷ 0x01 ∷ [], (0, 2)) ∷
    ([], (0, 0)) ∷
    (0x05 ∷ [], (0, 0)) ∷
    (0x13 ∷ [], (0, 0)) ∷
    (0x0B ∷ 0x01 ∷ [], (0, 1)) ∷
    (0x0B ∷ 0x11 ∷ 0x0A ∷ 0x01 ∷ 0x01 ∷ 0x02 ∷ [], (1, 6)) ∷
    []

all_read : map (λ c. outcome_read c.0) programs ≡ map (λ c. c.1) programs
unfolding outcome_read times read_program read_in transformation_at below makes operations among slot_of text_of
all_read = refl

-- ## Values at the bounds

-- so many texts, at a depth, numbered on from a number
texts_from : ℕ → ℕ → ℕ → List Line
texts_from zero depth number = []
texts_from (suc n) depth number = line depth 1 number hi ∷ texts_from n depth (suc number)

abbrev texts : ℕ → List Line
texts n = texts_from n 0 0

-- so many elements, each in the one before, from a depth on: numbered like their depths
nested : ℕ → ℕ → List Line
nested zero d = []
nested (suc n) d = line d 2 d hi ∷ nested n (suc d)

-- an element with so many texts in it, an element, a text
abbrev three_items : ℕ → List Line
three_items n = line 0 2 0 hi ∷ texts_from n 1 1 ++ (line 0 2 (n + 1) lo ∷ line 0 1 (n + 2) hi ∷ [])

-- an element of the program around the source, as entries from e on
abbrev around : ℕ → Transformation
around e = bind e 0 (and_then (e + 1) (tag (e + 2) (0x61 ∷ [])) (within (e + 3) (slot (e + 4) 0)))

-- each element twice; at a text, a stop for its source
abbrev elements_twice : Transformation
elements_twice = each 0 (choose 1 (asksElement 2) (beside 3 (source 4) (source 5)) (contents 6))

-- 0 and how many nodes are shown, or the stop's number and entry
outcome_shown : List Line × Transformation → ℕ × ℕ
outcome_shown c = elim (showing (one_master c.0) c.1) [ gives o ↦ (0, length o.value) | stops s ↦ (stop_number s, stop_entry s) ]

abbrev shows : List ((List Line × Transformation) × (ℕ × ℕ))
shows =
    ((texts 64, beside 0 (source 1) (source 2)), (0, 128)) ∷
    ((texts 65, beside 0 (source 1) (source 2)), (7, 0)) ∷
    ((texts 65, and_then 0 (each 1 (beside 2 (source 3) (source 4))) (contents 5)), (7, 1)) ∷
    ((texts 128, around 0), (7, 3)) ∷
    ((nested 8 0, and_then 0 (around 1) (around 6)), (0, 10)) ∷
    ((nested 8 0, and_then 0 (around 1) (and_then 6 (around 7) (around 12))), (7, 15)) ∷
    -- 0A stops for size at its second item, before its third would stop for its source
    ((three_items 63, elements_twice), (7, 0)) ∷
    ((three_items 62, elements_twice), (6, 6)) ∷
    (([], contents 0), (6, 0)) ∷
    (([], source 0), (0, 0)) ∷
    ((twins, contents 0), (6, 0)) ∷
    ((twins, each 0 (choose 1 (compares 2 equals (source 3)) (source 4) (source 5))), (6, 2)) ∷
    ((boxed, choose 0 (compares 1 equals (contents 2)) (source 3) (source 4)), (6, 1)) ∷
    []

all_shown : map (λ c. outcome_shown c.0) shows ≡ map (λ c. c.1) shows
unfolding outcome_shown texts_from nested stop_number stop_entry showing numbered_from line_of whole show value_in one_top one_element one_text bounded in_turn
    verdict element_of bytes_of master_number is_top no_top starts_top lowered raised to_first items shallow within_bounds is_element same_text kept_before trimmed agree
all_shown = refl

-- ## The masters are sound: replies 4 and 5 find no fault in them, nor a mark

abbrev masters : List (List Line)
masters = map (λ c. c.master) cases ++ map (λ c. c.0.0) shows

judged : List Line → Result ℕ ℕ × Option ℕ × Option ℕ
judged m = (scan Master (file_of m), master_bounds m, unmarked m)

faultless : List Line → Result ℕ ℕ × Option ℕ × Option ℕ
faultless m = (Ok (length m), None, None)

all_sound : map judged masters ≡ map faultless masters
unfolding judged faultless texts_from nested file_of writing.line_bytes writing.bytes_of encode hex_digit scan scan_from form_of limit_of cut push is_line pairs_then_end is_hex decode hex_value
    node_line node_form kind_rule is_tag all_of is_element master_bounds bounds_from placed depth_after unmarked first_from is_marked
all_sound = refl
