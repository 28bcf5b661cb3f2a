-- Cases on bytes: their notation, what a case claims of a call, and that computing the judging settles it.
use Rattle.std.specs.Prelude.{ℕ, zero, suc, ◌+◌, ◌/◌, ◌%◌, ◌≡◌, refl, true, List, [], ◌∷◌, ◌++◌, map, leb, length, replicate}
use Rattle.std.proofs.Common.{ap, ◌∙◌, arith, le-leb}
use Rattle.std.proofs.lemmas.List.{length-replicate}
use Rattle.lines.specs.Hex.{is_hex, hex_value, decode, hex_digit, encode}
use Rattle.lines.specs.Lines.{push, cut, pairs_then_end, is_line}
use Rattle.lines.specs.Texts.{same_text, kept_before, trimmed, agree}
use Rattle.lines.specs.Nodes.{Line, nodes, is_marked, is_element, all_of, is_tag, is_order, kind_rule, node_form, node_line}
use Rattle.lines.specs.Entries.{rows, row_of, text_form, operand_form, entry_form, entry_line, entries, slot_of, text_of}
use Rattle.lines.specs.Files.{form_of, limit_of, scan_from, scan}
use Rattle.lines.specs.Masters.{depth_after, placed, bounds_from, master_bounds, unmarked}
use Rattle.lines.specs.Verdicts.{first_from, earlier}
use Rattle.lines.specs.Views.{same_head, same_line, difference_from, first_difference, program_marked, program_mark, mark_counted}
use Rattle.lines.specs.Theorems.Bools.{and_both}
use Rattle.lines.specs.Writing as writing
use Rattle.lines.specs.Writing.{file_of, put_at}
use Rattle.values.specs.Values as values
use Rattle.values.specs.Values.{among, element_of, is_from, master_number, is_top, no_top, starts_top, lowered, raised, to_first, items, shallow, within_bounds}
use Rattle.values.specs.Standings.{sort, new_text, is_untouched, is_clash, same_standing, ◌⋓◌, fitted, all_over, merged, gathered, says, brings, hands_back}
use Rattle.runs.specs.Results.{gives, stops, stop_number, stop_entry}
use Rattle.runs.specs.Reading.{operations, makes, below, read_program}
use Rattle.runs.specs.Showing.{value_in, one_top, one_element, one_text, bounded, in_turn, verdict, show}
use Rattle.runs.specs.PuttingBack.{merged_into, untouched_slots, gathered_slots, value_of, says_yes, inside, over_items, put_back}
use Rattle.runs.specs.Grounds as grounds
use Rattle.runs.specs.Grounds.{numbered_from, lines_in, whole, showing, shown_line, view, brought, standing, standing_for, first_clash, handed_back}
use Rattle.calls.specs.Judging.{Judged, formed, keeps, is_tree, ran, judged_program, master_rule, judged_master, judged_view, judged_standings, judged_show, judged_put_back}
use Rattle.calls.specs.Outcomes.{Outcome, outcome, out_room, work_room, enough, cleared, settled, called, show_call, put_back_call}
use Rattle.calls.specs.Sweeping.{numbers_room, enough_for_both}
use Rattle.calls.specs.Demands.{number_of}

-- ## Bytes, as document 01 prints them: how many pairs a line has, and its pairs as one numeral

digits : ℕ → ℕ → List ℕ → List ℕ
digits zero x behind = behind
digits (suc n) x behind = digits n (x / 16) (hex_digit (x % 16) ∷ behind)

unfoldable pub line : ℕ → ℕ → List ℕ
unfolding digits hex_digit
line pairs x = digits (pairs + pairs) x (0x0A ∷ [])

unfoldable pub file : List (List ℕ) → List ℕ
unfolding line
file [] = []
file (c ∷ cs) = c ++ file cs

-- a shown node: its depth, and its number in the master
abbrev pub shown_node : ℕ → ℕ → values.Node
shown_node depth number = record { depth = depth; origin = values.master number }

-- ## A case: the call on its files; the reply's number, place and length, and the bytes written

pub data Call : Type 0 where
  shows : (master program : List ℕ) → Call
  puts_back : (master program edited : List ℕ) → Call

pub record Case : Type 0 where
  pub call : Call
  pub number : ℕ
  pub place : ℕ
  pub length : ℕ
  pub bytes : List ℕ

abbrev pub case : Call → ℕ → ℕ → ℕ → List ℕ → Case
case call number place length bytes = record { call = call; number = number; place = place; length = length; bytes = bytes }

abbrev pub outcome_of : Call → (out work : List ℕ) → Outcome
outcome_of (shows master program) = show_call master program
outcome_of (puts_back master program edited) = put_back_call master program edited

-- with any buffers that suffice, the whole outcome is as claimed
abbrev pub Holds : Case → Type 0
Holds c = (out work : List ℕ) → enough out work ≡ true → outcome_of c.call out work ≡ outcome c.number c.place c.length (put_at out 0 c.bytes) (cleared work)

abbrev pub AllHold : List Case → Type 0
AllHold [] = Unit {0}
AllHold (c ∷ cs) = Holds c × AllHold cs

-- ## Computing

abbrev pub Answer : Type 0
Answer = ℕ × ℕ × ℕ × List ℕ

unfoldable pub answered : Judged (List Line) → Answer
answered (gives ls) = (0, 0, length (file_of ls), file_of ls)
answered (stops r) = (r.number, r.place, 0, [])

-- the judging, and with it all that it rests on laid open: what unfolds this can compute a case
unfoldable pub answer : Call → Answer
unfolding answered file
    file_of writing.line_bytes writing.bytes_of encode hex_digit
    judged_show judged_put_back judged_program judged_master judged_view judged_standings master_rule formed keeps is_tree ran
    scan scan_from form_of limit_of cut push is_line pairs_then_end is_hex decode hex_value
    entries entry_line entry_form operand_form row_of rows text_form is_tag all_of slot_of text_of
    nodes node_line node_form kind_rule is_element is_order is_marked
    master_bounds bounds_from placed depth_after unmarked first_from earlier
    first_difference difference_from same_line same_head program_mark program_marked mark_counted same_text kept_before trimmed agree
    read_program below makes operations among
    showing show whole numbered_from grounds.line_of value_in one_top one_element one_text bounded in_turn verdict stop_number stop_entry
    element_of values.bytes_of is_from master_number is_top no_top starts_top lowered raised to_first items shallow within_bounds view shown_line
    put_back standing_for standing brought brings says merged_into untouched_slots gathered_slots value_of says_yes inside over_items
    sort new_text is_untouched is_clash same_standing ◌⋓◌ fitted all_over merged gathered first_clash handed_back hands_back lines_in
answer (shows master program) = answered (judged_show master program)
answer (puts_back master program edited) = answered (judged_put_back master program edited)

abbrev pub claim : Case → Answer
claim c = (c.number, c.place, c.length, c.bytes)

-- ## What is computed holds of the call

settles : (judged : Judged (List Line)) (out work : List ℕ)
    → settled judged out work ≡ let a = answered judged in outcome a.0 a.1 a.2 (put_at out 0 a.3) work
unfolding settled answered put_at
settles (gives ls) out work = refl
settles (stops r) out work = refl

calls : (judged : Judged (List Line)) (a : Answer) → answered judged ≡ a → (out work : List ℕ) → enough out work ≡ true
    → called judged out work ≡ outcome a.0 a.1 a.2 (put_at out 0 a.3) (cleared work)
unfolding called
calls judged a e out work room = rw room (settles judged out (cleared work) ∙ ap (λ (z : Answer). outcome z.0 z.1 z.2 (put_at out 0 z.3) (cleared work)) e)

of_show : (master program : List ℕ) (a : Answer) → answer (shows master program) ≡ a → (out work : List ℕ) → enough out work ≡ true
    → show_call master program out work ≡ outcome a.0 a.1 a.2 (put_at out 0 a.3) (cleared work)
unfolding answer show_call
of_show master program a e = calls (judged_show master program) a e

of_put : (master program edited : List ℕ) (a : Answer) → answer (puts_back master program edited) ≡ a → (out work : List ℕ) → enough out work ≡ true
    → put_back_call master program edited out work ≡ outcome a.0 a.1 a.2 (put_at out 0 a.3) (cleared work)
unfolding answer put_back_call
of_put master program edited a e = calls (judged_put_back master program edited) a e

pub holds : (c : Case) → answer c.call ≡ claim c → Holds c
holds c = go c.call
  where
    go : (k : Call) → answer k ≡ claim c → (out work : List ℕ) → enough out work ≡ true
        → outcome_of k out work ≡ outcome c.number c.place c.length (put_at out 0 c.bytes) (cleared work)
    go (shows master program) e = of_show master program (claim c) e
    go (puts_back master program edited) e = of_put master program edited (claim c) e

pub all_hold : (cs : List Case) → map (λ c. answer c.call) cs ≡ map claim cs → AllHold cs
all_hold [] e = tt
all_hold (c ∷ cs) e = (holds c (let z : answer c.call ≡ claim c = cc in z), all_hold cs (let z : map (λ c. answer c.call) cs ≡ map claim cs = cc in z))

-- ## Buffers that suffice

pub roomy_out : List ℕ
roomy_out = replicate out_room 0

pub roomy_work : List ℕ
roomy_work = replicate work_room 0

filled : (n : ℕ) → leb n (length {A = ℕ} (replicate n 0)) ≡ true
filled n = le-leb n (length {A = ℕ} (replicate n 0)) (omega (arith, length-replicate {A = ℕ} n 0))

pub roomy : enough roomy_out roomy_work ≡ true
unfolding enough roomy_out roomy_work
roomy = and_both _ _ (filled out_room) (filled work_room)

pub roomy_numbers : List ℕ
roomy_numbers = replicate numbers_room 0

pub roomy_both : enough_for_both roomy_out roomy_numbers ≡ true
unfolding enough_for_both roomy_out roomy_numbers
roomy_both = and_both _ _ (filled out_room) (filled numbers_room)

-- the number that a call answers with them is the computed one
pub roomy_number : (c : Call) → number_of (outcome_of c roomy_out roomy_work) ≡ (answer c).0
roomy_number c = ap number_of (holds (case c (answer c).0 (answer c).1 (answer c).2 (answer c).3) refl roomy_out roomy_work roomy)
