-- Each of the twelve replies is given in some case.
use Rattle.std.specs.Prelude.{ℕ, ◌≡◌, refl, List, [], ◌∷◌, ◌++◌, map}
use Rattle.calls.specs.Outcomes.{enough, called, show_call, put_back_call}
use Rattle.calls.specs.Demands.{number_of}
use Rattle.trials.specs.Theorems.Cases.{line, file, Call, shows, puts_back, outcome_of, answer, roomy_out, roomy_work, roomy_number}
use Rattle.trials.specs.Theorems.Bench.{M, P, PP, hi, inner, PP-view-clash}

-- a call with buffers that suffice, or with none
pub data Lent : Type 0 where
  ample none : Call → Lent

unfoldable pub reply_to : Lent → ℕ
reply_to (ample c) = number_of (outcome_of c roomy_out roomy_work)
reply_to (none c) = number_of (outcome_of c [] [])

-- the whole twice
abbrev pub twice : List ℕ
twice = file (line 1 0x09 ∷ line 1 0x01 ∷ line 1 0x01 ∷ [])

-- twice, five times over: 160 nodes of the five of M
abbrev doubled : List ℕ
doubled = let then = file (line 1 0x08 ∷ []) in then ++ twice ++ then ++ twice ++ then ++ twice ++ then ++ twice ++ twice

-- in their order
abbrev pub replies : List Lent
replies =
    ample (shows M P) ∷  -- 0
    none (shows M P) ∷  -- 1
    ample (shows M (file (line 1 0x00 ∷ []))) ∷  -- 2: no such operation
    ample (shows M (file (line 1 0x01 ∷ line 1 0x01 ∷ []))) ∷  -- 3: a line left over
    ample (shows (file (line 1 0x00 ∷ [])) P) ∷  -- 4: a line cut short
    ample (shows (file (line 7 0x00020000010164 ∷ [])) P) ∷  -- 5: number 1 in line 0
    ample (shows [] inner) ∷  -- 6
    ample (shows M doubled) ∷  -- 7
    ample (puts_back M P (file (line 1 0x00 ∷ []))) ∷  -- 8: a line cut short
    ample (puts_back M P []) ∷  -- 9: no lines
    ample (puts_back M hi (file (line 8 0x000102FFFF026869 ∷ []))) ∷  -- 10
    ample (puts_back M PP PP-view-clash) ∷  -- 11
    []

computed : Lent → ℕ
computed (ample c) = (answer c).0
computed (none c) = 1

none_given : (c : Call) → number_of (outcome_of c [] []) ≡ 1
unfolding show_call put_back_call called enough
none_given (shows master program) = refl
none_given (puts_back master program edited) = refl

all_computed : (ls : List Lent) → map reply_to ls ≡ map computed ls
unfolding reply_to computed
all_computed [] = refl
all_computed (ample c ∷ ls) = rw (roomy_number c, all_computed ls)
all_computed (none c ∷ ls) = rw (none_given c, all_computed ls)

pub every_reply : map reply_to replies ≡ 0 ∷ 1 ∷ 2 ∷ 3 ∷ 4 ∷ 5 ∷ 6 ∷ 7 ∷ 8 ∷ 9 ∷ 10 ∷ 11 ∷ []
unfolding computed answer
every_reply = all_computed replies
