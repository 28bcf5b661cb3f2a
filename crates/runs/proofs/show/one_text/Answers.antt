-- One node, no element.
use native.Mathlib.Omega.{arith}
use Rattle.runs.proofs.ShowSources.{text_word, no_text_word}
use Rattle.runs.proofs.show.one_text.Goals as goal

pub returns-in-len1 : goal.returns-in-len1
returns-in-len1 c = text_word _ _ c.args.words.now (omega arith) c.is_element.ensures

pub returns-in_default : goal.returns-in_default
returns-in_default c = no_text_word _ _ c.args.words.now (λ e. omega arith)

pub returns-in_default-2 : goal.returns-in_default-2
returns-in_default-2 c = no_text_word _ _ c.args.words.now (λ e. omega arith)
