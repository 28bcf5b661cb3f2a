-- Lines written: a node as its line, and nodes as a file.
use Rattle.std.specs.Prelude.{ℕ, ◌+◌, ◌/◌, ◌%◌, List, [], ◌∷◌, ◌++◌, length, take, drop}
use Rattle.lines.specs.Hex.{encode}
use Rattle.lines.specs.Nodes.{Line}

-- the bytes of a node's line
unfoldable pub bytes_of : Line → List ℕ
bytes_of n = n.depth ∷ n.kind ∷ n.mark ∷ n.number / 256 ∷ n.number % 256 ∷ length n.text ∷ n.text

unfoldable pub line_bytes : Line → List ℕ
line_bytes n = encode (bytes_of n) ++ (0x0A ∷ [])

unfoldable pub file_of : List Line → List ℕ
file_of [] = []
file_of (n ∷ ns) = line_bytes n ++ file_of ns

-- a buffer with v from place p on: what stands before and behind is kept
unfoldable pub put_at : List ℕ → ℕ → List ℕ → List ℕ
put_at buffer p v = take p buffer ++ v ++ drop (p + length v) buffer
