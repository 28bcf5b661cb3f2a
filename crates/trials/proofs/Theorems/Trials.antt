-- Calls that have to be rejected: each is given, and shown not to meet the demand that it breaks, nor then our contract.
use Rattle.std.specs.Prelude.{ℕ, ◌≡◌, refl, cond, List, [], ◌∷◌, ◌⊎◌, length, get_or}
use Rattle.std.proofs.Common.{sym, ap, subst, ◌∙◌, inl, inr, arith}
use Rattle.lines.specs.Nodes.{Line, nodes, untouched_mark, hi_lo, lo_hi, line_at}
use Rattle.lines.specs.Writing.{file_of, put_at}
use Rattle.lines.specs.Theorems.PutAt.{put_front}
use Rattle.values.specs.Standings.{is_edit}
use Rattle.runs.specs.Results.{gives, stops}
use Rattle.runs.specs.Programs.{contents}
use Rattle.runs.specs.Showing.{Shown}
use Rattle.calls.specs.Judging.{Judged, judged_show}
use Rattle.calls.specs.Outcomes.{Outcome, outcome, cleared, show_call, put_back_call}
use Rattle.calls.specs.Demands.{ShowLike, PutLike, number_of, length_of, written, ShowDemand2, Given, fresh_lines, EditedLine, Demand3, SavedSame, OrdersKept, KeepsOrders}
use Rattle.calls.proofs.Theorems.Demand3.{demand3}
use Rattle.trials.specs.Theorems.Contracts.{MeetsShow, MeetsPutBack, fails_show_demand2, fails_demand3}
use Rattle.trials.specs.Theorems.Cases.{line, file, shown_node, puts_back, case, answer, holds, roomy_out, roomy_work, roomy}
use Rattle.trials.specs.Theorems.Bench.{M, P, PP, whole, inner, P-view, P-view-hi, P-view-saved, PP-view-saved, PP-view-counted, inner_view_both}
use Rattle.trials.specs.Theorems.Demand3Cases.{M-lines, OnM, given_on_m, fresh_on_m, unlike, accepted_given, accepted_line, accepted_case}
use Rattle.trials.specs.Theorems.Demand3Cases.{saved_view, saved_given, saved_case, saved_counted, alone_given, alone_case, alone_unedited}

-- ## One that only refuses (demand 3 says when a view is accepted)

unfoldable pub only_refuses : PutLike
only_refuses master program edited out work = outcome 1 0 0 out work

example_2 : Given M P P-view-hi roomy_out roomy_work
example_2 = accepted_given roomy_out roomy_work roomy

-- what meets demand 3 accepts example 2, as ours does
accepts : (show : ShowLike) (put : PutLike) → Demand3 show put → number_of (put M P P-view-hi roomy_out roomy_work) ≡ 0
accepts show put d =
    (d M P P-view-hi roomy_out roomy_work example_2).accepted.1
    ((demand3 M P P-view-hi roomy_out roomy_work example_2).accepted.0 (accepted_case roomy_out roomy_work roomy))

-- so no putting back that never answers 0 meets it,
pub never_done : (show : ShowLike) (put : PutLike)
    → ((master program edited out work : List ℕ) → number_of (put master program edited out work) ≡ 0 → ⊥) → Demand3 show put → ⊥
never_done show put never d = never M P P-view-hi roomy_out roomy_work (accepts show put d)

-- nor does any beside a showing that never answers 0
pub never_shown : (show : ShowLike) (put : PutLike)
    → ((master program out work : List ℕ) → number_of (show master program out work) ≡ 0 → ⊥) → Demand3 show put → ⊥
never_shown show put never d =
    never (written (put M P P-view-hi roomy_out roomy_work)) P roomy_out roomy_work
    ((d M P P-view-hi roomy_out roomy_work example_2).succeeds (accepts show put d) roomy_out roomy_work roomy)

pub only_refuses_rejected : (show : ShowLike) → Demand3 show only_refuses → ⊥
unfolding only_refuses
only_refuses_rejected show = never_done show only_refuses (λ _ _ _ _ _ h. omega arith)

-- ## One constant view, whatever it is (demand 2)

unfoldable pub constant_view : List ℕ → ShowLike
constant_view view master program out work = outcome 0 0 (length view) (put_at out 0 view) (cleared work)

-- the view of nothing is empty, that of M by P is not
pub constant_view_rejected : (view : List ℕ) → ShowDemand2 (constant_view view) → ⊥
unfolding constant_view answer
constant_view_rejected view d =
    let empty = sym (put_front roomy_out view) ∙ (d [] whole roomy_out roomy_work roomy [] refl).lines in
    let other = sym (put_front roomy_out view) ∙ (d M P roomy_out roomy_work roomy (nodes P-view) refl).lines in
    let z : length {A = ℕ} [] ≡ length P-view = ap length (sym empty ∙ other) in
    omega arith

-- ## One that hands the master back unread (demand 3)

unfoldable pub hands_back_unread : PutLike
hands_back_unread master program edited out work = outcome 0 0 (length master) (put_at out 0 master) (cleared work)

-- example 2: node 4 is changed in the view
pub hands_back_unread_rejected : (show : ShowLike) → Demand3 show hands_back_unread → ⊥
unfolding hands_back_unread answer
hands_back_unread_rejected show d =
    let a = d M P P-view-hi roomy_out roomy_work example_2 in
    let e = (a.returned refl).edits 4 1 (accepted_line roomy_out roomy_work example_2) in
    let z : ◌≡◌ {A = ℕ} 0 1 = ap (λ (l : Line). l.mark) (ap (λ (s : List ℕ). line_at (nodes s) 4) (sym (put_front roomy_out M)) ∙ e) in
    omega arith

-- ## One that honours just the first edited line (demand 3)

-- the first edited line as it is, all others fresh
unfoldable pub first_edit : List Line → List Line → List Line
first_edit [] fresh = fresh
first_edit (e ∷ es) [] = []
first_edit (e ∷ es) (f ∷ fresh) = cond (is_edit f.text e.mark e.text) (e ∷ fresh) (f ∷ first_edit es fresh)

unfoldable pub shown_lines : Judged (List Line) → List Line
shown_lines (gives fresh) = fresh
shown_lines (stops r) = []

unfoldable pub honours_first : PutLike
honours_first master program edited out work =
    put_back_call master program (file_of (first_edit (nodes edited) (shown_lines (judged_show master program)))) out work

-- M with node 1 deleted, and nothing else
abbrev M-first : List ℕ
M-first = file (line 7 0x00020000000164 ∷ line 7 0x01020200010177 ∷ line 8 0x0201000002026869 ∷ line 7 0x01020000030177 ∷ line 8 0x0201000004026C6F ∷ [])

-- example 10 has two edits
abbrev inner_shown : Shown
inner_shown = record { value = shown_node 0 1 ∷ shown_node 1 2 ∷ shown_node 0 3 ∷ shown_node 1 4 ∷ []; compared = [] }

both_view : OnM inner inner_view_both inner_shown
unfolding answer
both_view = record { read_as = contents 0; reads = refl; shows = refl; passes = refl }

both_given : Given M inner inner_view_both roomy_out roomy_work
both_given = given_on_m both_view roomy_out roomy_work roomy

-- the second is that of line 1, of node 2
second_line : EditedLine (fresh_lines both_given) (nodes inner_view_both) 2 1
unfolding answer
second_line =
    rw (fresh_on_m both_view roomy_out roomy_work both_given) (record { edit = inr (refl, unlike (omega arith)); number = refl })

first_honoured : honours_first M inner inner_view_both roomy_out roomy_work ≡ outcome 0 0 (length M-first) (put_at roomy_out 0 M-first) (cleared roomy_work)
unfolding honours_first first_edit is_edit shown_lines answer
first_honoured =
    holds (case (puts_back M inner (file_of (first_edit (nodes inner_view_both) (shown_lines (judged_show M inner))))) 0 0 (length M-first) M-first) refl
    roomy_out roomy_work roomy

pub honours_first_rejected : (show : ShowLike) → Demand3 show honours_first → ⊥
unfolding answer
honours_first_rejected show d =
    let a = d M inner inner_view_both roomy_out roomy_work both_given in
    let e = (a.returned (ap number_of first_honoured)).edits 2 1 second_line in
    let z : ◌≡◌ {A = ℕ} 0 1 = ap (λ (l : Line). l.mark) (ap (λ (s : List ℕ). line_at (nodes s) 2) (sym (ap written first_honoured ∙ put_front roomy_out M-first)) ∙ e) in
    omega arith

-- ## One that takes a saved line for a change, as document 01 did (demand 3, by request #101)

-- example 6: to answer 11 is to let the saved line beat down the change beside it
pub saved_beats_down : (show : ShowLike) (put : PutLike) → number_of (put M PP PP-view-saved roomy_out roomy_work) ≡ 11 → Demand3 show put → ⊥
saved_beats_down show put h d =
    let given = saved_given roomy_out roomy_work roomy in
    let ours = (demand3 M PP PP-view-saved roomy_out roomy_work given).accepted.0 (saved_case roomy_out roomy_work roomy) in
    let z = (d M PP PP-view-saved roomy_out roomy_work given).accepted.1 ours in
    omega arith

-- one saved line and nothing else: to hand its node back with another mark than 00 is to take it for a change
pub saved_marks : (show : ShowLike) (put : PutLike) → let r = put M P P-view-saved roomy_out roomy_work in
    ((line_at (nodes (written r)) 4).mark ≡ untouched_mark → ⊥) → Demand3 show put → ⊥
saved_marks show put h d =
    let given = alone_given roomy_out roomy_work roomy in
    let a = d M P P-view-saved roomy_out roomy_work given in
    let ours = (demand3 M P P-view-saved roomy_out roomy_work given).accepted.0 (alone_case roomy_out roomy_work roomy) in
    h ((a.returned (a.accepted.1 ours)).unedited 4 (alone_unedited roomy_out roomy_work given 4)).0

-- example 6 refused, and accepted where line 1 has the mark that counts: that is to go by the mark as written
pub saved_otherwise : (put : PutLike) → number_of (put M PP PP-view-saved roomy_out roomy_work) ≡ 11
    → number_of (put M PP PP-view-counted roomy_out roomy_work) ≡ 0 → SavedSame put → ⊥
saved_otherwise put h k same =
    let v = saved_view in
    let e = same M PP PP-view-saved v.read_as v.reads (nodes M) M-lines _ v.shows (nodes PP-view-saved) v.passes roomy_out roomy_work in
    let z : ◌≡◌ {A = ℕ} 11 0 = sym h ∙ (ap number_of e ∙ (ap (λ (s : List ℕ). number_of (put M PP s roomy_out roomy_work)) saved_counted ∙ k)) in
    omega arith

-- ## One that writes another word into an order (request #106)

-- "HI-LO"
abbrev misspelt : List ℕ
misspelt = file (line 11 0x00030100000548492D4C4F ∷ [])

neither_word : let text = (line_at (nodes misspelt) 0).text in (text ≡ hi_lo) ⊎ (text ≡ lo_hi) → ⊥
unfolding answer
neither_word (inl e) = let z : ◌≡◌ {A = ℕ} 0x48 0x68 = ap (λ (t : List ℕ). get_or t 0 0) e in omega arith
neither_word (inr e) = let z : ◌≡◌ {A = ℕ} 0x48 0x6C = ap (λ (t : List ℕ). get_or t 0 0) e in omega arith

pub misspells_rejected : (put : PutLike) (master program edited out work : List ℕ) → let r = put master program edited out work in
    number_of r ≡ 0 → written r ≡ misspelt → KeepsOrders put → ⊥
unfolding answer
misspells_rejected put master program edited out work done back keeps =
    neither_word ((subst (λ (s : List ℕ). OrdersKept (nodes master) (nodes s)) back (keeps master program edited out work done)).word 0 refl)

-- ## One with an invented length, whatever it is (demand 2 counts the lines)

unfoldable pub with_length : ℕ → Outcome → Outcome
with_length n (outcome number place length out work) = outcome number place n out work

unfoldable pub invents_length : ℕ → ShowLike
invents_length n master program out work = with_length n (show_call master program out work)

invented : (n : ℕ) (z : Outcome) → length_of (with_length n z) ≡ n
unfolding with_length
invented n (outcome number place length out work) = refl

pub invents_length_rejected : (n : ℕ) → ShowDemand2 (invents_length n) → ⊥
unfolding invents_length answer
invents_length_rejected n d =
    let none : n ≡ 0 = sym (invented n _) ∙ (d [] whole roomy_out roomy_work roomy [] refl).counts in
    let some : n ≡ 34 = sym (invented n _) ∙ (d M P roomy_out roomy_work roomy (nodes P-view) refl).counts in
    omega arith

-- ## None of them meets our contract: what does meets the demands (Contracts)

pub only_refuses_not_ours : MeetsPutBack only_refuses → ⊥
only_refuses_not_ours = fails_demand3 only_refuses only_refuses_rejected

pub constant_view_not_ours : (view : List ℕ) → MeetsShow (constant_view view) → ⊥
constant_view_not_ours view = fails_show_demand2 (constant_view view) (constant_view_rejected view)

pub hands_back_unread_not_ours : MeetsPutBack hands_back_unread → ⊥
hands_back_unread_not_ours = fails_demand3 hands_back_unread hands_back_unread_rejected

pub honours_first_not_ours : MeetsPutBack honours_first → ⊥
honours_first_not_ours = fails_demand3 honours_first honours_first_rejected

pub invents_length_not_ours : (n : ℕ) → MeetsShow (invents_length n) → ⊥
invents_length_not_ours n = fails_show_demand2 (invents_length n) (invents_length_rejected n)
