-- Sweeping computed: masters of the bench with marks, one that a program runs on until it is swept, and a full one.
use Rattle.std.specs.Prelude.{ℕ, zero, suc, ◌+◌, ◌*◌, ◌≡◌, refl, true, false, cond, List, [], ◌∷◌, ◌++◌, map, eqb, length}
use Rattle.std.proofs.Common.{ap, ◌∙◌}
use Rattle.lines.specs.Nodes.{Line}
use Rattle.lines.specs.Writing.{file_of, put_at}
use Rattle.sweeping.specs.Sweeping.{is_under, is_deleted, goes, behind, removed_under, removed, kept, anew, numbered_anew, swept}
use Rattle.sweeping.specs.Sweeping.{numbers_from, new_numbers, number_line, number_file}
use Rattle.runs.specs.Results.{gives, stops}
use Rattle.calls.specs.Judging.{Judged, judged_master}
use Rattle.calls.specs.Outcomes.{outcome}
use Rattle.calls.specs.Sweeping.{enough_for_both, swept_into, sweep_call}
use Rattle.trials.specs.Theorems.Cases.{line, file, shows, Case, case, AllHold, answer, all_hold}
use Rattle.trials.specs.Theorems.Bench.{M, M-hi, M-both}

-- ## A case: the master; the reply's number, place and length, the lines and the number lines written

pub record SweepCase : Type 0 where
  pub master : List ℕ
  pub number : ℕ
  pub place : ℕ
  pub length : ℕ
  pub lines : List ℕ
  pub numbers : List ℕ

abbrev pub row : List ℕ → ℕ → ℕ → ℕ → List ℕ → List ℕ → SweepCase
row master number place length lines numbers = record { master = master; number = number; place = place; length = length; lines = lines; numbers = numbers }

-- with any outputs that suffice, the whole outcome is as claimed
abbrev pub SweepHolds : SweepCase → Type 0
SweepHolds c =
    (out numbers : List ℕ) → enough_for_both out numbers ≡ true
    → sweep_call c.master out numbers ≡ outcome c.number c.place c.length (put_at out 0 c.lines) (put_at numbers 0 c.numbers)

abbrev pub AllSwept : List SweepCase → Type 0
AllSwept [] = Unit {0}
AllSwept (c ∷ cs) = SweepHolds c × AllSwept cs

-- ## Computing

abbrev Answer : Type 0
Answer = ℕ × ℕ × ℕ × List ℕ × List ℕ

unfoldable answered : Judged (List Line) → Answer
answered (gives ls) = (0, 0, length (file_of (swept ls)), file_of (swept ls), number_file (new_numbers ls))
answered (stops r) = (r.number, r.place, 0, [], [])

unfoldable pub sweep_answer : List ℕ → Answer
unfolding answer answered swept numbered_anew anew kept removed removed_under behind goes is_under is_deleted new_numbers numbers_from number_file number_line
sweep_answer master = answered (judged_master false master)

abbrev claim : SweepCase → Answer
claim c = (c.number, c.place, c.length, c.lines, c.numbers)

settles : (judged : Judged (List Line)) (out numbers : List ℕ)
    → swept_into judged out numbers ≡ let a = answered judged in outcome a.0 a.1 a.2 (put_at out 0 a.3) (put_at numbers 0 a.4)
unfolding swept_into answered put_at
settles (gives ls) out numbers = refl
settles (stops r) out numbers = refl

swept_holds : (c : SweepCase) → sweep_answer c.master ≡ claim c → SweepHolds c
unfolding sweep_call sweep_answer
swept_holds c e out numbers room =
    rw room (settles (judged_master false c.master) out numbers ∙ ap (λ (a : Answer). outcome a.0 a.1 a.2 (put_at out 0 a.3) (put_at numbers 0 a.4)) e)

pub all_swept : (cs : List SweepCase) → map (λ c. sweep_answer c.master) cs ≡ map claim cs → AllSwept cs
all_swept [] e = tt
all_swept (c ∷ cs) e =
    (swept_holds c (let z : sweep_answer c.master ≡ claim c = cc in z), all_swept cs (let z : map (λ c. sweep_answer c.master) cs ≡ map claim cs = cc in z))

-- ## The masters

-- M-both, swept: node 1 went with its text, and the element behind it moved up
abbrev M-both-swept : List ℕ
M-both-swept = file (line 7 0x00020000000164 ∷ line 7 0x01020000010177 ∷ line 8 0x0201000002026C6F ∷ [])

-- M-hi, swept: node 4 has its new text and no mark
abbrev M-hi-swept : List ℕ
M-hi-swept = file (line 7 0x00020000000164 ∷ line 7 0x01020000010177 ∷ line 8 0x0201000002026869 ∷ line 7 0x01020000030177 ∷ line 8 0x0201000004026869 ∷ [])

-- M with its outermost element deleted: all nodes go
abbrev M-none : List ℕ
M-none = file (line 7 0x00020200000164 ∷ line 7 0x01020000010177 ∷ line 8 0x0201000002026869 ∷ line 7 0x01020000030177 ∷ line 8 0x0201000004026C6F ∷ [])

-- one element in another, the inner one deleted
abbrev nested : List ℕ
nested = file (line 7 0x00020000000164 ∷ line 7 0x01020200010177 ∷ line 8 0x0201000002026869 ∷ [])

abbrev nested_swept : List ℕ
nested_swept = file (line 7 0x00020000000164 ∷ [])

-- the contents of the contents
abbrev innermost : List ℕ
innermost = file (line 1 0x08 ∷ line 1 0x06 ∷ line 1 0x06 ∷ [])

-- so many empty texts from number k on; the one with number `deleted` has mark 02
unfoldable pub texts : ℕ → ℕ → ℕ → List (List ℕ)
texts deleted k zero = []
texts deleted k (suc n) = line 6 (0x000100000000 + k * 0x100 + cond (eqb k deleted) 0x02000000 0) ∷ texts deleted (suc k) n

-- 128 of them, the last but one deleted; the 127 that stay, none of which is
abbrev full : List ℕ
full = file (texts 126 0 128)

abbrev full_swept : List ℕ
full_swept = file (texts 128 0 127)

-- the numbers from k on
unfoldable pub numbered : ℕ → ℕ → List (List ℕ)
numbered k zero = []
numbered k (suc n) = line 2 k ∷ numbered (suc k) n

-- ## The table: master; number, place, length, lines, number lines

abbrev pub sweeps : List SweepCase
sweeps =
    row M 0 0 0x4F M (file (numbered 0 5)) ∷
    row M-hi 0 0 0x4F M-hi-swept (file (numbered 0 5)) ∷
    row M-both 0 0 0x2F M-both-swept (file (line 2 0 ∷ line 2 0xFFFF ∷ line 2 0xFFFF ∷ line 2 1 ∷ line 2 2 ∷ [])) ∷
    row M-none 0 0 0 [] (file (line 2 0xFFFF ∷ line 2 0xFFFF ∷ line 2 0xFFFF ∷ line 2 0xFFFF ∷ line 2 0xFFFF ∷ [])) ∷
    row [] 0 0 0 [] [] ∷
    row nested 0 0 0x0F nested_swept (file (line 2 0 ∷ line 2 0xFFFF ∷ line 2 0xFFFF ∷ [])) ∷
    row (file (line 1 0x00 ∷ [])) 4 0 0 [] [] ∷  -- a line cut short
    row (file (line 7 0x00020200000164 ∷ line 8 0x0101000000026869 ∷ [])) 5 1 0 [] [] ∷  -- number 0 in line 1, under a deleted node
    []

pub sweeps_hold : AllSwept sweeps
unfolding sweep_answer texts numbered
sweeps_hold = all_swept sweeps refl

-- a full master has room again: 127 lines of 13 bytes
abbrev full_row : SweepCase
full_row = row full 0 0 1651 full_swept (file (numbered 0 126 ++ line 2 0xFFFF ∷ line 2 126 ∷ []))

pub full_holds : SweepHolds full_row
unfolding sweep_answer texts numbered
full_holds = swept_holds full_row refl

-- "A swept master may stop a program that ran before": `nested_swept` is the sweep of `nested`, by the table, and there the inner contents stop with 6
abbrev before_and_after : List Case
before_and_after = case (shows nested innermost) 0 0 0x11 (file (line 8 0x0001000002026869 ∷ [])) ∷ case (shows nested_swept innermost) 6 2 0 [] ∷ []

pub may_stop : AllHold before_and_after
unfolding answer
may_stop = all_hold before_and_after refl
