-- The first node's tag beside the entry's.
use native.Mathlib.Omega.{arith}
use Rattle.values.specs.Engine.Words.{value_at}
use Rattle.runs.specs.Engine.Runs.{made_by, lookup_of}
use Rattle.runs.specs.Engine.Leaves.{is_one_element}
use Rattle.runs.specs.Showing.{test}
use Rattle.runs.proofs.ShowSources.{of_words, no_element_one, element_words, words_element}
use Rattle.runs.proofs.show.test_tagged.Goals as goal

pub returns-then-not-one_element : goal.returns-then-not-one_element
unfolding test
returns-then-not-one_element c =
    let look = lookup_of c.args.inputs.now.nodes in
    let a = c.args.at in
    let one = of_words _ _ _ _ _ (is_one_element look) c.if-not-one_element.ensures c.words.ensures in
    rw (no_element_one look a.entry (value_at (made_by c.args.inputs.now.entries) c.args.work.now a.source.start a.source.len) one)

pub bounds-work-at : goal.bounds-work-at
bounds-work-at c =
    let look = lookup_of c.args.inputs.now.nodes in
    let one = of_words _ _ _ _ _ (is_one_element look) c.if-not-one_element.ensures c.words.ensures in
    let n = element_words (made_by c.args.inputs.now.entries) c.args.work.now c.args.at.source.start c.args.at.source.len c.requires.len_in_bounds look one in
    omega arith

pub returns : goal.returns
unfolding test
returns c =
    let look = lookup_of c.args.inputs.now.nodes in
    let a = c.args.at in
    let one = of_words _ _ _ _ _ (is_one_element look) c.if-not-one_element.ensures c.words.ensures in
    rw (words_element (made_by c.args.inputs.now.entries) c.args.work.now a.source.start a.source.len c.requires.len_in_bounds look a.entry one) cc
