-- A text as it is handed on: its file, and the place of its length byte.
use Rattle.std.specs.Prelude.{ℕ, List}
use Rattle.lines.specs.declared.text.Text.{Text}
use Rattle.lines.specs.Engine.Starts.{text_at}

-- the bytes that it is read as
abbrev pub text_bytes : Text → List ℕ
text_bytes t = text_at t.bytes.now t.at
