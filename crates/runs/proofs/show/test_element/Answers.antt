-- The first node's kind.
use mathlib.Core.Path.{ap}
use native.Mathlib.Omega.{arith}
use Rattle.values.specs.Engine.Words.{value_at}
use Rattle.runs.specs.Results.{gives}
use Rattle.runs.specs.Engine.Runs.{made_by}
use Rattle.runs.specs.Engine.Leaves.{is_one_top}
use Rattle.runs.specs.Showing.{test}
use Rattle.runs.proofs.ShowSources.{of_words, no_top_one, top_words, words_top}
use Rattle.runs.proofs.show.test_element.Goals as goal

pub returns-then-not-one_top : goal.returns-then-not-one_top
unfolding test
returns-then-not-one_top c =
    let made = made_by c.args.inputs.now.entries in
    let a = c.args.at in
    rw (no_top_one a.entry (value_at made c.args.work.now a.source.start a.source.len) (of_words _ _ _ _ _ is_one_top (c.if-not-one_top.ensures made) c.words.ensures))

pub bounds-work-at : goal.bounds-work-at
bounds-work-at c =
    let made = made_by c.args.inputs.now.entries in
    let n = top_words made c.args.work.now c.args.at.source.start c.args.at.source.len c.requires (of_words _ _ _ _ _ is_one_top (c.if-not-one_top.ensures made) c.words.ensures) in
    omega arith

pub returns : goal.returns
unfolding test
returns c =
    let made = made_by c.args.inputs.now.entries in
    let a = c.args.at in
    rw (words_top made c.args.work.now a.source.start a.source.len c.requires a.entry (of_words _ _ _ _ _ is_one_top (c.if-not-one_top.ensures made) c.words.ensures)) (ap gives c.is_element.ensures)
