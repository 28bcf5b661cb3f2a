-- One top node first, then its kind.
use mathlib.Core.Path.{◌∙◌}
use Rattle.runs.specs.Engine.Runs.{made_by}
use Rattle.runs.proofs.ShowSources.{some_word, element_word, no_element_word}
use Rattle.runs.proofs.show.one_element.Goals as goal

pub bounds-words-0 : goal.bounds-words-0
bounds-words-0 c = some_word (made_by c.args.inputs.now.entries) c.args.words.now (c.if-one_top.ensures (made_by c.args.inputs.now.entries))

pub returns-then-one_top : goal.returns-then-one_top
returns-then-one_top c = element_word _ _ c.args.words.now (c.if-one_top.ensures (made_by c.args.inputs.now.entries)) c.is_element.ensures

pub returns-else-one_top : goal.returns-else-one_top
returns-else-one_top c = c.if-one_top.false ∙ no_element_word _ _ c.args.words.now (c.if-one_top.ensures (made_by c.args.inputs.now.entries))
