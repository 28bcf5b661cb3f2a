-- Document 01's bench examples 1 to 10, example 6 as request #101 has it, as one table under one statement.
use Rattle.std.specs.Prelude.{ℕ, refl, List, [], ◌∷◌, ◌++◌, map}
use Prim.Native.String.{String}
use Rattle.trials.specs.Theorems.Cases.{line, file, Call, shows, puts_back, Case, case, AllHold, answer, all_hold}

-- ## The files

abbrev pub M : List ℕ
M = file (line 7 0x00020000000164 ∷ line 7 0x01020000010177 ∷ line 8 0x0201000002026869 ∷ line 7 0x01020000030177 ∷ line 8 0x0201000004026C6F ∷ [])

-- M with node 4 changed to "hi"
abbrev pub M-hi : List ℕ
M-hi = file (line 7 0x00020000000164 ∷ line 7 0x01020000010177 ∷ line 8 0x0201000002026869 ∷ line 7 0x01020000030177 ∷ line 8 0x0201010004026869 ∷ [])

-- M with node 1 deleted and node 2 changed to "lo"
abbrev pub M-both : List ℕ
M-both = file (line 7 0x00020000000164 ∷ line 7 0x01020200010177 ∷ line 8 0x0201010002026C6F ∷ line 7 0x01020000030177 ∷ line 8 0x0201000004026C6F ∷ [])

abbrev pub P : List ℕ
P = file (line 1 0x08 ∷ line 1 0x06 ∷ line 1 0x0A ∷ line 1 0x06 ∷ [])

abbrev pub PP : List ℕ
PP = file (line 1 0x09 ∷ []) ++ P ++ P

-- the texts that are "hi"
abbrev pub only_hi : List ℕ
only_hi =
    file
    (line 1 0x08 ∷ line 1 0x08 ∷ line 1 0x06 ∷ line 1 0x0A ∷ line 1 0x06 ∷ line 1 0x0A ∷ line 1 0x0B ∷ line 1 0x11 ∷ line 4 0x03026869 ∷ line 1 0x01 ∷ line 1 0x02 ∷ [])

abbrev pub hi : List ℕ
hi = file (line 4 0x03026869 ∷ [])

abbrev pub inner : List ℕ
inner = file (line 1 0x06 ∷ [])

abbrev pub whole : List ℕ
whole = file (line 1 0x01 ∷ [])

-- lines of P's view: the first, and the second as it is, changed to "hi", to "xx", saved as "lo", and deleted
abbrev first : List ℕ
first = line 8 0x0001000002026869

abbrev second : List ℕ
second = line 8 0x0001000004026C6F

abbrev second_hi : List ℕ
second_hi = line 8 0x0001010004026869

abbrev second_xx : List ℕ
second_xx = line 8 0x0001010004027878

abbrev second_lo : List ℕ
second_lo = line 8 0x0001010004026C6F

abbrev second_gone : List ℕ
second_gone = line 8 0x0001020004026C6F

abbrev pub P-view : List ℕ
P-view = file (first ∷ second ∷ [])

abbrev pub P-view-hi : List ℕ
P-view-hi = file (first ∷ second_hi ∷ [])

-- line 1 saved with its old text
abbrev pub P-view-saved : List ℕ
P-view-saved = file (first ∷ second_lo ∷ [])

abbrev pub PP-view-clash : List ℕ
PP-view-clash = file (first ∷ second_hi ∷ first ∷ second_xx ∷ [])

-- line 1 saved with its old text, line 3 changed
abbrev pub PP-view-saved : List ℕ
PP-view-saved = file (first ∷ second_lo ∷ first ∷ second_hi ∷ [])

-- that view with the marks that count
abbrev pub PP-view-counted : List ℕ
PP-view-counted = file (first ∷ second ∷ first ∷ second_hi ∷ [])

-- the view of M's contents, with node 1 deleted and node 2 changed to "lo"
abbrev pub inner_view_both : List ℕ
inner_view_both = file (line 7 0x00020200010177 ∷ line 8 0x0101010002026C6F ∷ line 7 0x00020000030177 ∷ line 8 0x0101000004026C6F ∷ [])

-- the view of the texts that are "hi", with node 2 changed to "lo"
abbrev pub only_hi_view_lo : List ℕ
only_hi_view_lo = file (line 8 0x0001010002026C6F ∷ [])

-- ## The table

-- what a case is of: an example's number in document 01, with a letter where it is more than one view shown and put back, or with the request that it is for;
-- or, in the table of a request, its subject
pub record Row : Type 0 where
  pub example : String
  pub case : Case

abbrev pub row : String → Call → ℕ → ℕ → ℕ → List ℕ → Row
row example call number place length bytes = record { example = example; case = case call number place length bytes }

-- example, call; number, place, length, lines
abbrev pub bench : List Row
bench =
    row "1" (shows M P) 0 0 0x22 P-view ∷
    row "2" (puts_back M P P-view-hi) 0 0 0x4F M-hi ∷
    row "3" (puts_back M P P-view) 0 0 0x4F M ∷
    row "4" (shows M PP) 0 0 0x44 (file (first ∷ second ∷ first ∷ second ∷ [])) ∷
    row "4" (puts_back M PP (file (first ∷ second_hi ∷ first ∷ second ∷ []))) 0 0 0x4F M-hi ∷
    row "5a" (puts_back M PP PP-view-clash) 11 4 0 [] ∷
    row "5b" (puts_back M PP (file (first ∷ second_gone ∷ first ∷ second_hi ∷ []))) 11 4 0 [] ∷
    row "6" (puts_back M PP PP-view-saved) 0 0 0x4F M-hi ∷
    row "7" (shows M only_hi) 0 0 0x11 (file (first ∷ [])) ∷
    row "7" (puts_back M only_hi only_hi_view_lo) 11 2 0 [] ∷
    row "8" (shows M hi) 0 0 0x11 (file (line 8 0x000100FFFF026869 ∷ [])) ∷
    row "8" (puts_back M hi (file (line 8 0x000102FFFF026869 ∷ []))) 10 0 0 [] ∷
    row "8 by #101" (puts_back M hi (file (line 8 0x000101FFFF026869 ∷ []))) 10 0 0 [] ∷
    row "9a" (shows [] inner) 6 0 0 [] ∷
    row "9b" (shows [] whole) 0 0 0 [] ∷
    row "9c" (puts_back [] whole []) 0 0 0 [] ∷
    row "10" (puts_back M inner inner_view_both) 0 0 0x4F M-both ∷
    []

pub bench_holds : AllHold (map (λ r. r.case) bench)
unfolding answer
bench_holds = all_hold (map (λ r. r.case) bench) refl
