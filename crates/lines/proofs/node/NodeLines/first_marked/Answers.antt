-- The place that `position` finds.
use Rattle.std.proofs.Common.{◌∙◌, ap, rules}
use Rattle.std.proofs.lemmas.Iterator.{YieldsList-from_slice}
use Rattle.std.proofs.lemmas.Iterator.Search.{position_from_yields_List}
use borrow.Author.Tests.{tests}
use Rattle.lines.specs.Nodes.{is_marked}
use Rattle.lines.specs.Masters.{unmarked}
use Rattle.lines.specs.Engine.Starts.{node_at}
use Rattle.lines.specs.Theorems.FirstFault.{first_by_position}
use Rattle.lines.proofs.node.NodeLines.first_marked.Goals as goal

pub returns : goal.returns
unfolding unmarked
returns c =
    let read = node_at c.self.inside.bytes.now in
    let starts = c.self.inside.starts.now in
    first_by_position is_marked read starts
    (position_from_yields_List (λ s. is_marked (read s)) _ _ _ c.position.ensures.ran (YieldsList-from_slice starts c.iter.ensures.rest)
    (λ x b q k. search (rules, tests)))
    ∙ ap unmarked c.self.view_is
