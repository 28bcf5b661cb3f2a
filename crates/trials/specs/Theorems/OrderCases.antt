-- Request #106 on bytes: nodes of kind 03, shown, edited, compared and swept, as two tables, each under one statement.
use Rattle.std.specs.Prelude.{ℕ, refl, List, [], ◌∷◌, map}
use Prim.Native.String.{String}
use Rattle.trials.specs.Theorems.Cases.{line, file, shows, puts_back, AllHold, answer, all_hold}
use Rattle.trials.specs.Theorems.Bench.{whole, inner, Row, row}
use Rattle.trials.specs.Theorems.EveryReply.{twice}
use Rattle.trials.specs.Theorems.PaddedCases.{if_equal, if_a_is_b}
use Rattle.trials.specs.Theorems.SweepCases as sweeping
use Rattle.trials.specs.Theorems.SweepCases.{SweepCase, AllSwept, sweep_answer, all_swept}

-- ## Node 0 as an order: "hi-lo" and "lo-hi" under each mark

abbrev hi_lo : List ℕ
hi_lo = line 11 0x00030000000568692D6C6F

abbrev lo_hi : List ℕ
lo_hi = line 11 0x0003000000056C6F2D6869

abbrev hi_lo_saved : List ℕ
hi_lo_saved = line 11 0x00030100000568692D6C6F

abbrev to_lo_hi : List ℕ
to_lo_hi = line 11 0x0003010000056C6F2D6869

abbrev hi_lo_gone : List ℕ
hi_lo_gone = line 11 0x00030200000568692D6C6F

abbrev lo_hi_gone : List ℕ
lo_hi_gone = line 11 0x0003020000056C6F2D6869

-- "lo-hi" as node 1
abbrev lo_hi_at_1 : List ℕ
lo_hi_at_1 = line 11 0x0003000001056C6F2D6869

-- "hi-lo" as a text; made by the program, as a text and as an order
abbrev hi_lo_text : List ℕ
hi_lo_text = line 11 0x00010000000568692D6C6F

abbrev hi_lo_made : List ℕ
hi_lo_made = line 11 0x000100FFFF0568692D6C6F

abbrev hi_lo_made_order : List ℕ
hi_lo_made_order = line 11 0x000300FFFF0568692D6C6F

-- the operations that make these words
abbrev make_hi_lo : List ℕ
make_hi_lo = line 7 0x030568692D6C6F

abbrev make_lo_hi : List ℕ
make_lo_hi = line 7 0x03056C6F2D6869

-- ## Two nodes, each in an element of its own

abbrev a_and_b : List ℕ → List ℕ → List ℕ
a_and_b in_a in_b = file (line 7 0x00020000000161 ∷ in_a ∷ line 7 0x00020000020162 ∷ in_b ∷ [])

-- node 1 in "a" or node 3 in "b": the order "hi-lo", the text "hi-lo "; and the order changed
abbrev order_in_a : List ℕ
order_in_a = line 11 0x01030000010568692D6C6F

abbrev changed_in_a : List ℕ
changed_in_a = line 11 0x0103010001056C6F2D6869

abbrev text_in_a : List ℕ
text_in_a = line 12 0x01010000010668692D6C6F20

abbrev order_in_b : List ℕ
order_in_b = line 11 0x01030000030568692D6C6F

abbrev changed_in_b : List ℕ
changed_in_b = line 11 0x0103010003056C6F2D6869

abbrev text_in_b : List ℕ
text_in_b = line 12 0x01010000030668692D6C6F20

-- ## Showing and putting back

-- shown whole
abbrev refused_master : String → List ℕ → Row
refused_master what node = row what (shows (file (node ∷ [])) whole) 4 0 0 []

-- "hi-lo", put back into by the program that shows it whole
abbrev row_puts_back : String → List ℕ → ℕ → ℕ → List (List ℕ) → Row
row_puts_back what edited number length lines = row what (puts_back (file (hi_lo ∷ [])) whole (file (edited ∷ []))) number 0 length (file lines)

abbrev copies : String → List (List ℕ) → ℕ → ℕ → List (List ℕ) → Row
copies what edited number length lines = row what (puts_back (file (hi_lo ∷ [])) twice (file edited)) number 0 length (file lines)

-- shown by a program
abbrev runs : String → List ℕ → ℕ → ℕ → ℕ → List (List ℕ) → Row
runs what program number place length lines = row what (shows (file (hi_lo ∷ [])) program) number place length (file lines)

abbrev pub orders : List Row
orders =
    -- "It may be changed or deleted"
    row "shown" (shows (file (hi_lo ∷ lo_hi_at_1 ∷ [])) whole) 0 0 0x2E (file (hi_lo ∷ lo_hi_at_1 ∷ [])) ∷
    row "shown with its mark" (shows (file (to_lo_hi ∷ [])) whole) 0 0 0x17 (file (to_lo_hi ∷ [])) ∷
    row_puts_back "changed" to_lo_hi 0 0x17 (to_lo_hi ∷ []) ∷
    row "changed, the other way" (puts_back (file (lo_hi ∷ [])) whole (file (hi_lo_saved ∷ []))) 0 0 0x17 (file (hi_lo_saved ∷ [])) ∷
    row_puts_back "deleted" hi_lo_gone 0 0x17 (hi_lo_gone ∷ []) ∷
    row_puts_back "saved" hi_lo_saved 0 0x17 (hi_lo ∷ []) ∷
    copies "one copy saved, one changed" (hi_lo_saved ∷ to_lo_hi ∷ []) 0 0x17 (to_lo_hi ∷ []) ∷
    copies "one copy changed, one deleted" (to_lo_hi ∷ hi_lo_gone ∷ []) 11 0 [] ∷
    -- "Refusals: 4 or 8 for wrong bytes"
    refused_master "HI-LO" (line 11 0x00030000000548492D4C4F) ∷
    refused_master "HI-LO, marked as changed" (line 11 0x00030100000548492D4C4F) ∷
    row "HI-LO in line 1" (shows (file (hi_lo ∷ line 11 0x00030000010548492D4C4F ∷ [])) whole) 4 1 0 [] ∷
    refused_master "hilo" (line 10 0x00030000000468696C6F) ∷
    refused_master "hi-lo and a space" (line 12 0x00030000000668692D6C6F20) ∷
    refused_master "nothing" (line 6 0x000300000000) ∷
    refused_master "hi-lo of kind 04" (line 11 0x00040000000568692D6C6F) ∷
    refused_master "hi-lo with mark 03" (line 11 0x00030300000568692D6C6F) ∷
    row_puts_back "changed to HI-LO" (line 11 0x00030100000548492D4C4F) 8 0 [] ∷
    row_puts_back "changed to hilo" (line 10 0x00030100000468696C6F) 8 0 [] ∷
    row_puts_back "changed to hi-lo and a space" (line 12 0x00030100000668692D6C6F20) 8 0 [] ∷
    row_puts_back "HI-LO, not marked" (line 11 0x00030000000548492D4C4F) 8 0 [] ∷
    row_puts_back "HI-LO, deleted" (line 11 0x00030200000548492D4C4F) 8 0 [] ∷
    row_puts_back "kind 04" (line 11 0x00040000000568692D6C6F) 8 0 [] ∷
    row "HI-LO as an order, for a text" (puts_back (file (hi_lo_text ∷ [])) whole (file (line 11 0x00030100000548492D4C4F ∷ []))) 8 0 0 [] ∷
    -- reply 9: the other word without mark 01; another kind, and so no way around the two words; and an order that no program makes
    row_puts_back "the other word, not marked" lo_hi 9 0 [] ∷
    row_puts_back "the other word, deleted" lo_hi_gone 9 0 [] ∷
    row_puts_back "a text for an order" hi_lo_text 9 0 [] ∷
    row_puts_back "a text for an order, changed to HI-LO" (line 11 0x00010100000548492D4C4F) 9 0 [] ∷
    row "an order for a text" (puts_back (file (hi_lo_text ∷ [])) whole (file (hi_lo ∷ []))) 9 0 0 [] ∷
    row "made by the program: a text" (shows [] (file (make_hi_lo ∷ []))) 0 0 0x17 (file (hi_lo_made ∷ [])) ∷
    row "an order for that text" (puts_back [] (file (make_hi_lo ∷ [])) (file (hi_lo_made_order ∷ []))) 9 0 0 [] ∷
    row "an order for that text, marked" (puts_back [] (file (make_hi_lo ∷ [])) (file (line 11 0x000301FFFF0568692D6C6F ∷ []))) 9 0 0 [] ∷
    -- nothing stands under it, and in a master that is put back into it has no mark
    row "a line under an order" (shows (file (hi_lo ∷ order_in_a ∷ [])) whole) 5 1 0 [] ∷
    row "a line under an order, in a view" (puts_back (file (hi_lo ∷ lo_hi_at_1 ∷ [])) whole (file (hi_lo ∷ line 11 0x0103000001056C6F2D6869 ∷ []))) 9 1 0 [] ∷
    row "a marked order" (puts_back (file (to_lo_hi ∷ [])) whole (file (to_lo_hi ∷ []))) 5 0 0 [] ∷
    -- a text for 11
    runs "11, the same word" (if_equal make_hi_lo) 0 0 0x17 (hi_lo ∷ []) ∷
    runs "11, the other word" (if_equal make_lo_hi) 0 0 0 [] ∷
    row "11, the source changed" (puts_back (file (hi_lo ∷ [])) (if_equal make_hi_lo) (file (to_lo_hi ∷ []))) 11 0 0 [] ∷
    row "11, beside a padded text" (shows (a_and_b order_in_a text_in_b) if_a_is_b) 0 0 0x4E (a_and_b order_in_a text_in_b) ∷
    row "the source changed there" (puts_back (a_and_b order_in_a text_in_b) if_a_is_b (a_and_b changed_in_a text_in_b)) 11 1 0 [] ∷
    row "11, the other an order" (shows (a_and_b text_in_a order_in_b) if_a_is_b) 0 0 0x4E (a_and_b text_in_a order_in_b) ∷
    row "the other changed there" (puts_back (a_and_b text_in_a order_in_b) if_a_is_b (a_and_b text_in_a changed_in_b)) 11 3 0 [] ∷
    -- no element: stops 12, 06 and 07, and 13 says no
    runs "12" (file (line 1 0x0B ∷ line 7 0x120568692D6C6F ∷ line 1 0x01 ∷ line 1 0x02 ∷ [])) 6 1 0 [] ∷
    runs "06" inner 6 0 0 [] ∷
    runs "07" (file (line 1 0x07 ∷ line 1 0x01 ∷ [])) 6 0 0 [] ∷
    runs "13" (file (line 1 0x0B ∷ line 1 0x13 ∷ line 1 0x01 ∷ line 1 0x02 ∷ [])) 0 0 0 [] ∷
    []

pub orders_hold : AllHold (map (λ r. r.case) orders)
unfolding answer
orders_hold = all_hold (map (λ r. r.case) orders) refl

-- ## Swept

-- one under each mark: what is deleted goes, what is changed keeps its new word
abbrev each_mark : List ℕ
each_mark = file (hi_lo ∷ line 11 0x0003010001056C6F2D6869 ∷ line 11 0x00030200020568692D6C6F ∷ line 11 0x0003000003056C6F2D6869 ∷ [])

abbrev pub swept_orders : List SweepCase
swept_orders =
    sweeping.row each_mark 0 0 0x45 (file (hi_lo ∷ lo_hi_at_1 ∷ line 11 0x0003000002056C6F2D6869 ∷ [])) (file (line 2 0 ∷ line 2 1 ∷ line 2 0xFFFF ∷ line 2 2 ∷ [])) ∷
    sweeping.row (file (line 11 0x00030200000548492D4C4F ∷ [])) 4 0 0 [] [] ∷  -- HI-LO, deleted
    []

pub swept_orders_hold : AllSwept swept_orders
unfolding sweep_answer
swept_orders_hold = all_swept swept_orders refl
