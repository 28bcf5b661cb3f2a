-- Request #104 on bytes: texts that test 11 takes for equal or does not, and what stays byte for byte, as one table under one statement.
use Rattle.std.specs.Prelude.{ℕ, refl, List, [], ◌∷◌, map}
use Prim.Native.String.{String}
use Rattle.trials.specs.Theorems.Cases.{line, file, shows, puts_back, AllHold, answer, all_hold}
use Rattle.trials.specs.Theorems.Bench.{whole, Row, row}
use Rattle.trials.specs.Theorems.EveryReply.{twice}

-- ## Masters of one text, as a line: "hi", "lo", "hi ", "hi-lo", "hi-lo ", " hi", three spaces, nothing

abbrev hi : List ℕ
hi = line 8 0x0001000000026869

abbrev lo : List ℕ
lo = line 8 0x0001000000026C6F

abbrev hi_padded : List ℕ
hi_padded = line 9 0x000100000003686920

abbrev hi_lo : List ℕ
hi_lo = line 11 0x00010000000568692D6C6F

abbrev hi_lo_padded : List ℕ
hi_lo_padded = line 12 0x00010000000668692D6C6F20

abbrev space_hi : List ℕ
space_hi = line 9 0x000100000003206869

abbrev spaces : List ℕ
spaces = line 9 0x000100000003202020

abbrev empty : List ℕ
empty = line 6 0x000100000000

-- marked changed: "hi", "hi ", "lo"
abbrev to_hi : List ℕ
to_hi = line 8 0x0001010000026869

abbrev to_hi_padded : List ℕ
to_hi_padded = line 9 0x000101000003686920

abbrev to_lo : List ℕ
to_lo = line 8 0x0001010000026C6F

-- ## Programs

-- the text, if it equals that of the entry
abbrev pub if_equal : List ℕ → List ℕ
if_equal entry = file (line 1 0x0B ∷ line 1 0x11 ∷ entry ∷ line 1 0x01 ∷ line 1 0x02 ∷ [])

-- the whole, if the text in the element "a" equals the one in the element "b"
abbrev pub if_a_is_b : List ℕ
if_a_is_b =
    file
    (line 2 0x0C00 ∷ line 1 0x08
    ∷ line 1 0x08 ∷ line 2 0x0500 ∷ line 1 0x0A ∷ line 1 0x0B ∷ line 3 0x120162 ∷ line 1 0x06 ∷ line 1 0x02
    ∷ line 2 0x0C01 ∷ line 1 0x08
    ∷ line 1 0x08 ∷ line 2 0x0500 ∷ line 1 0x0A ∷ line 1 0x0B ∷ line 3 0x120161 ∷ line 1 0x06 ∷ line 1 0x02
    ∷ line 1 0x0B ∷ line 1 0x11 ∷ line 2 0x0501 ∷ line 2 0x0500 ∷ line 1 0x02 ∷ [])

-- a master for it and its views: "hi " in "a" and "hi  " in "b", with the lines of "a", of its text and of the text in "b" given
abbrev a_and_b : List ℕ → List ℕ → List ℕ → List ℕ
a_and_b a in_a in_b = file (a ∷ in_a ∷ line 7 0x00020000020162 ∷ in_b ∷ [])

abbrev a : List ℕ
a = line 7 0x00020000000161

abbrev a_gone : List ℕ
a_gone = line 7 0x00020200000161

abbrev in_a : List ℕ
in_a = line 9 0x010100000103686920

abbrev in_b : List ℕ
in_b = line 10 0x01010000030468692020

abbrev both : List ℕ
both = a_and_b a in_a in_b

-- ## The table

abbrev says_yes : String → List ℕ → List ℕ → ℕ → Row
says_yes what text entry length = row what (shows (file (text ∷ [])) (if_equal entry)) 0 0 length (file (text ∷ []))

abbrev says_no : String → List ℕ → List ℕ → Row
says_no what text entry = row what (shows (file (text ∷ [])) (if_equal entry)) 0 0 0 []

abbrev row_puts_back : String → List ℕ → List ℕ → List (List ℕ) → ℕ → ℕ → ℕ → List (List ℕ) → Row
row_puts_back what text program edited number place length lines = row what (puts_back (file (text ∷ [])) program (file edited)) number place length (file lines)

abbrev pub padded : List Row
padded =
    -- test 11 showing
    says_yes "the source padded" hi_lo_padded (line 7 0x030568692D6C6F) 0x19 ∷
    says_yes "the other padded" hi_lo (line 8 0x030668692D6C6F20) 0x17 ∷
    says_yes "both, not alike" hi_lo_padded (line 9 0x030768692D6C6F2020) 0x19 ∷
    says_yes "spaces alone, and nothing" spaces (line 2 0x0300) 0x13 ∷
    says_yes "nothing, and spaces alone" empty (line 4 0x03022020) 0x0D ∷
    says_no "a space in front" space_hi (line 4 0x03026869) ∷
    says_no "a byte 09 behind the other" hi (line 5 0x0303686909) ∷
    -- test 11 while putting back: the branch that showing took, both whole texts locked
    row "two padded texts" (shows both if_a_is_b) 0 0 0x46 both ∷
    row "an edit in that branch" (puts_back both if_a_is_b (a_and_b a_gone in_a in_b)) 0 0 0x46 (a_and_b a_gone in_a in_b) ∷
    row "the source changed" (puts_back both if_a_is_b (a_and_b a (line 9 0x010101000103786920) in_b)) 11 1 0 [] ∷
    row "the other changed" (puts_back both if_a_is_b (a_and_b a in_a (line 8 0x0101010003026C6F))) 11 3 0 [] ∷
    row_puts_back "a padded source changed" hi_padded (if_equal (line 4 0x03026869)) (to_lo ∷ []) 11 0 0 [] ∷
    row_puts_back "its spaces taken away" hi_padded (if_equal (line 4 0x03026869)) (to_hi ∷ []) 11 0 0 [] ∷
    row_puts_back "saved as it is" hi_padded (if_equal (line 4 0x03026869)) (to_hi_padded ∷ []) 0 0 0x13 (hi_padded ∷ []) ∷
    -- byte for byte: reply 9, the marks that count, merging, and tags, which have no spaces
    row_puts_back "a space less, not marked" hi_padded whole (hi ∷ []) 9 0 0 [] ∷
    row_puts_back "a saved line, a space more" hi whole (to_hi_padded ∷ []) 0 0 0x13 (to_hi_padded ∷ []) ∷
    row_puts_back "a saved line, a space less" hi_padded whole (to_hi ∷ []) 0 0 0x11 (to_hi ∷ []) ∷
    row_puts_back "two copies, a space apart" lo twice (to_hi ∷ to_hi_padded ∷ []) 11 0 0 [] ∷
    row "a tag with a space" (shows (file (line 8 0x0002000000026120 ∷ [])) whole) 4 0 0 [] ∷
    []

pub padded_holds : AllHold (map (λ r. r.case) padded)
unfolding answer
padded_holds = all_hold (map (λ r. r.case) padded) refl
