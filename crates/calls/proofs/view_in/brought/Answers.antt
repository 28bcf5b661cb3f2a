-- By the mark of line `i` that counts.
use Rattle.std.proofs.Common.{◌∙◌, sym}
use Rattle.calls.specs.Engine.Parts.{word_line}
use Rattle.calls.proofs.ViewWords.{mark_read, word_changed, word_deleted, word_untouched}
use Rattle.calls.proofs.view_in.brought.Goals as goal

pub returns-then-mark : goal.returns-then-mark
returns-then-mark c =
    let fresh = word_line c.args.inputs.now.entries c.args.inputs.now.nodes c.args.word in
    let mark = mark_read c.args.view.now fresh c.args.i c.line.ensures.line c.mark_counted-mark.ensures in
    word_changed c.args.view.now _ (sym mark ∙ c.if-mark.true) c.first_same.ensures.0

pub returns-then-mark-2 : goal.returns-then-mark-2
returns-then-mark-2 c =
    let fresh = word_line c.args.inputs.now.entries c.args.inputs.now.nodes c.args.word in
    let mark = mark_read c.args.view.now fresh c.args.i c.line.ensures.line c.mark_counted-mark.ensures in
    word_deleted c.args.view.now _ (λ e. c.if-mark.false (mark ∙ e)) (sym mark ∙ c.if-mark-2.true)

pub returns : goal.returns
returns c =
    let fresh = word_line c.args.inputs.now.entries c.args.inputs.now.nodes c.args.word in
    let mark = mark_read c.args.view.now fresh c.args.i c.line.ensures.line c.mark_counted-mark.ensures in
    word_untouched c.args.view.now _ (λ e. c.if-mark.false (mark ∙ e)) (λ e. c.if-mark-2.false (mark ∙ e))
