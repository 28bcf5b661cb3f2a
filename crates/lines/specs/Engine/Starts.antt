-- A file by where its lines begin: what is read there, and what the scanner leaves.
use Rattle.std.specs.Prelude.{ℕ, zero, suc, ◌+◌, ◌*◌, ◌≤◌, ◌≡◌, cond, List, [], ◌∷◌, ◌++◌, map, eqb, length, get_or, take, drop, Option, None, Some, Result, Ok, Err}
use Rattle.lines.specs.declared.scan.File.{File}
use Rattle.lines.specs.declared.table.Shape.{Shape}
use Rattle.lines.specs.declared.table.Shape.TheVariants.{Nothing, Text, Tag, Slot}
use Rattle.lines.specs.Hex.{hex_value}
use Rattle.lines.specs.Lines.{cut, pairs_then_end}
use Rattle.lines.specs.Nodes.{Line}
use Rattle.lines.specs.Entries.{Entry, operand_shape}
use Rattle.lines.specs.Files.{limit_of, scan}

-- ## What stands at a place

-- the byte of the pair at place p
unfoldable pub pair_at : List ℕ → ℕ → ℕ
pair_at s p = 16 * hex_value (get_or s p 0) + hex_value (get_or s (suc p) 0)

-- k bytes, the first one's pair at place p
unfoldable pub bytes_from : List ℕ → ℕ → ℕ → List ℕ
bytes_from s p zero = []
bytes_from s p (suc k) = pair_at s p ∷ bytes_from s (p + 2) k

-- a text is its length byte and then its bytes; it is known by the place of the length
unfoldable pub text_at : List ℕ → ℕ → List ℕ
text_at s p = bytes_from s (p + 2) (pair_at s p)

-- the node whose line begins at place p, field by field
unfoldable pub node_at : List ℕ → ℕ → Line
node_at s p =
    record {
      depth = pair_at s p;
      kind = pair_at s (p + 2);
      mark = pair_at s (p + 4);
      number = 256 * pair_at s (p + 6) + pair_at s (p + 8);
      text = text_at s (p + 10);
    }

-- the operand that begins at place p
unfoldable pub operand_at : Option Shape → List ℕ → ℕ → List ℕ
operand_at None s p = []
operand_at (Some Nothing) s p = []
operand_at (Some Text) s p = pair_at s p ∷ text_at s p
operand_at (Some Tag) s p = pair_at s p ∷ text_at s p
operand_at (Some Slot) s p = pair_at s p ∷ []

-- the entry whose line begins at place p
unfoldable pub entry_at : List ℕ → ℕ → Entry
entry_at s p = record { operation = pair_at s p; operand = operand_at (operand_shape (pair_at s p)) s (p + 2) }

-- ## Where lines begin

-- the bytes of the first line, its 0A counted
unfoldable pub line_length : List ℕ → ℕ
line_length [] = 0
line_length (x ∷ xs) = cond (eqb x 0x0A) 1 (suc (line_length xs))

-- the first line, as `cut` cuts it
abbrev pub first_line : List ℕ → List ℕ
first_line s = take (line_length s) s

-- past the line that begins at place p, if it is whole pairs and 0A
unfoldable pub pairs_end : List ℕ → ℕ → Option ℕ
pairs_end s p = cond (pairs_then_end (first_line (drop p s))) (Some (p + line_length (drop p s))) None

-- where each line begins, the first at place p
unfoldable pub starts_from : ℕ → List (List ℕ) → List ℕ
starts_from p [] = []
starts_from p (c ∷ cs) = p ∷ starts_from (p + length c) cs

unfoldable pub starts : List ℕ → List ℕ
starts s = starts_from 0 (cut s)

-- the nodes whose lines begin at these places
abbrev pub lines_of : List ℕ → List ℕ → List Line
lines_of s starts = map (node_at s) starts

-- the entries whose lines begin at these places
abbrev pub entries_of : List ℕ → List ℕ → List Entry
entries_of s starts = map (entry_at s) starts

-- ## Scanning

-- the lines that have the form, before the answer
abbrev pub taken : Result ℕ ℕ → ℕ
taken (Ok n) = n
taken (Err n) = n

-- what the scanner leaves: its answer, and in `noted` where each line begins that it took
pub record Scanned (file : File) (s before noted : List ℕ) (r : Result ℕ ℕ) : Type 0 where
  pub answer : r ≡ scan file s
  pub few : taken r ≤ limit_of file
  pub places : noted ≡ take (taken r) (starts s) ++ drop (taken r) before
