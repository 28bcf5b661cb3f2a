-- The place that `position` finds.
use Rattle.std.proofs.Common.{◌∙◌, ap, rules}
use Rattle.std.proofs.lemmas.Iterator.{YieldsList-from_slice}
use Rattle.std.proofs.lemmas.Iterator.Search.{position_from_yields_List}
use borrow.Author.Tests.{tests}
use Rattle.lines.specs.Views.{program_marked, program_mark}
use Rattle.lines.specs.Engine.Starts.{node_at}
use Rattle.lines.specs.Theorems.FirstFault.{first_by_position}
use Rattle.lines.proofs.node.NodeLines.first_program_mark.Goals as goal

pub returns : goal.returns
unfolding program_mark
returns c =
    let read = node_at c.self.inside.bytes.now in
    let starts = c.self.inside.starts.now in
    first_by_position program_marked read starts
    (position_from_yields_List (λ s. program_marked (read s)) _ _ _ c.position.ensures.ran (YieldsList-from_slice starts c.iter.ensures.rest)
    (λ x b q k. search (rules, tests)))
    ∙ ap program_mark c.self.view_is
