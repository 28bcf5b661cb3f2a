-- What the writer leaves, and lines that can be written.
use Rattle.std.specs.Prelude.{ℕ, ◌+◌, ◌<◌, ◌≡◌, true, List, [], ◌∷◌, length}
use Rattle.lines.specs.Nodes.{Line, node_form}
use Rattle.lines.specs.Writing.{bytes_of, file_of, put_at}
use Rattle.lines.specs.declared.write.Head.{Head}

-- a line's fields before its text, with the text
abbrev pub headed : Head → List ℕ → Line
headed h t = record { depth = h.depth; kind = h.kind; mark = h.mark; number = h.number; text = t }

-- what the writer leaves: the line in the buffer, and the place behind it
pub record Written (before after : List ℕ) (p : ℕ) (line : List ℕ) (end : ℕ) : Type 0 where
  pub lines : after ≡ put_at before p line
  pub behind : end ≡ p + length line

-- lines from the front of a buffer, and where they end
pub record WroteLines (ls : List Line) (before after : List ℕ) (end : ℕ) : Type 0 where
  pub lines : after ≡ put_at before 0 (file_of ls)
  pub behind : end ≡ length (file_of ls)

-- a node that has a line: its fields are bytes, and they have the form
abbrev pub Bytes : List ℕ → Type 0
Bytes [] = Unit
Bytes (b ∷ r) = (b < 256) × Bytes r

pub record Writable (n : Line) : Type 0 where
  pub bytes : Bytes (bytes_of n)
  pub form : node_form (bytes_of n) ≡ true

abbrev pub AllWritable : List Line → Type 0
AllWritable [] = Unit
AllWritable (n ∷ ns) = Writable n × AllWritable ns
