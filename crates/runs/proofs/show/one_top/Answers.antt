-- Behind the first node there is no top node.
use Rattle.lines.specs.Theorems.Lists.{take_rest}
use Rattle.runs.proofs.ShowSources.{no_word, first_word}
use Rattle.runs.proofs.show.one_top.Goals as goal

pub returns-in-empty : goal.returns-in-empty
returns-in-empty c = λ made. no_word made c.args.words.now c.in-empty.len_below

pub returns-in-len1-up : goal.returns-in-len1-up
returns-in-len1-up c = λ made. first_word made c.args.words.now c.in-len1-up.len_at_least (rw (take_rest 1 c.args.words.now) at (c.no_top.ensures made))
