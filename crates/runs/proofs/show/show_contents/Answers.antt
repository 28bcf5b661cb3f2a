-- The words behind the first, one level up, at `top`.
use native.Mathlib.Omega.{arith}
use Rattle.runs.specs.Engine.Runs.{made_by, lookup_of}
use Rattle.runs.specs.Engine.Leaves.{is_one_element}
use Rattle.runs.proofs.ShowLeaves.{no_contents, contents_put}
use Rattle.runs.proofs.ShowSources.{of_words, element_words}
use Rattle.runs.proofs.show.show_contents.Goals as goal

pub returns-then-not-one_element : goal.returns-then-not-one_element
returns-then-not-one_element c =
    let look = lookup_of c.args.inputs.now.nodes in
    let a = c.args.at in
    let one = of_words _ _ _ _ _ (is_one_element look) c.if-not-one_element.ensures c.words.ensures in
    no_contents _ _ a.top look a.source.start a.source.len a.entry (omega arith) one

pub skip-contents-requires : goal.skip-contents-requires
skip-contents-requires c =
    let look = lookup_of c.args.inputs.now.nodes in
    let a = c.args.at in
    let one = of_words _ _ _ _ _ (is_one_element look) c.if-not-one_element.ensures c.words.ensures in
    (element_words (made_by c.args.inputs.now.entries) c.args.work.now a.source.start a.source.len (omega arith) look one, omega arith)

pub returns : goal.returns
returns c =
    let look = lookup_of c.args.inputs.now.nodes in
    let a = c.args.at in
    let one = of_words _ _ _ _ _ (is_one_element look) c.if-not-one_element.ensures c.words.ensures in
    let s = c.skip-contents.ensures in
    rw s.1 (contents_put _ _ a.top look a.source.start a.source.len a.entry (omega arith) one (rw (s.0, s.1) at c.lower.ensures) (omega arith) (omega arith))
