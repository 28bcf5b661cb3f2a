-- The three files: the form of their lines, how many there may be, and what scanning answers.
use Rattle.std.specs.Prelude.{ℕ, suc, ◌*◌, Bool, cond, ◌&&◌, List, [], ◌∷◌, ltb, Result, Ok, Err}
use Rattle.lines.specs.declared.scan.File.{File}
use Rattle.lines.specs.declared.scan.File.TheVariants.{Program, Master, View}
use Rattle.lines.specs.Lines.{cut}
use Rattle.lines.specs.Nodes.{node_line}
use Rattle.lines.specs.Entries.{entry_line}

-- the form of a line
unfoldable pub form_of : File → List ℕ → Bool
form_of Program c = entry_line c
form_of Master c = node_line c
form_of View c = node_line c

-- "Program 96 lines", "Master 128 lines", and a view as many as a value has nodes, 128
unfoldable pub limit_of : File → ℕ
limit_of Program = 96
limit_of Master = 128
limit_of View = 128

-- the bytes of the longest line, its 0A counted: operation, length and 32 bytes; six bytes and 32
unfoldable pub widest_of : File → ℕ
widest_of Program = 69
widest_of Master = 77
widest_of View = 77

-- the bytes of the longest legal file: 6,624 and 9,856
unfoldable pub longest_of : File → ℕ
longest_of file = limit_of file * widest_of file

-- how many lines there are, counted on from n; or the first that has not the form or is one too many
unfoldable pub scan_from : (List ℕ → Bool) → ℕ → ℕ → List (List ℕ) → Result ℕ ℕ
scan_from form limit n [] = Ok n
scan_from form limit n (c ∷ cs) = cond (ltb n limit && form c) (scan_from form limit (suc n) cs) (Err n)

unfoldable pub scan : File → List ℕ → Result ℕ ℕ
scan file s = scan_from (form_of file) (limit_of file) 0 (cut s)
