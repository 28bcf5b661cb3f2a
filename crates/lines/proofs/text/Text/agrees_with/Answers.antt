-- Both texts trimmed.
use Rattle.std.proofs.Common.{◌≡◌, ◌∙◌, ap, arith, ℕ, List, length, take}
use Rattle.std.proofs.Math.Path.{ap₂}
use Rattle.lines.specs.Texts.{same_text, trimmed, agree}
use Rattle.lines.specs.Engine.Texts.{text_bytes}
use Rattle.lines.proofs.Theorems.TrimmedTexts.{trimmed_take, trimmed_length}
use Rattle.lines.proofs.text.Text.agrees_with.Goals as goal

front : (t : List ℕ) {n : ℕ} → n ≡ length (trimmed t) → take n t ≡ trimmed t
front t e = ap (λ (i : ℕ). take i t) e ∙ trimmed_take t

pub has_same_front-requires : goal.has_same_front-requires
has_same_front-requires c = (omega (arith, trimmed_length (text_bytes c.args.self.now)), omega (arith, trimmed_length (text_bytes c.args.other.now)))

pub returns : goal.returns
unfolding agree
returns c = c.has_same_front.ensures ∙ ap₂ same_text (front _ c.trimmed_len.ensures) (front _ c.trimmed_len-2.ensures)
