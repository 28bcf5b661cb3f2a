-- One word at `top`: the entry's node.
use Rattle.runs.proofs.ShowLeaves.{one_put}
use Rattle.runs.proofs.show.show_made.Goals as goal

pub returns : goal.returns
returns c = λ made. one_put made c.args.work.now c.args.at.top _ c.requires
