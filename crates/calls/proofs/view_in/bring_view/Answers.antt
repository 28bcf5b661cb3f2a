-- What line `i` brings is the next word.
use Rattle.std.proofs.Common.{◌≡◌, ◌∙◌, ◌+◌, ◌≤◌, ◌<◌, List, length, get_or, sym, ap, inr, arith}
use Rattle.lines.specs.Nodes.{Line, line_at}
use Rattle.lines.specs.Views.{counted_line}
use Rattle.lines.specs.Theorems.PutAt.{putting_starts, putting_goes_on, putting_ends, putting_reads}
use Rattle.calls.specs.Engine.Parts.{word_line, view_lines, brought_word}
use Rattle.calls.proofs.ViewWords.{length_brought, word_at}
use Rattle.calls.proofs.WordLines.{view_long, view_at}
use Rattle.calls.proofs.view_in.bring_view.Goals as goal

pub loop-i-init : goal.loop-i-init
loop-i-init c = putting_starts _ 128 _ _ (length_brought _ c.args.view.now) (omega arith)

pub loop-i-preserved : goal.loop-i-preserved
loop-i-preserved c =
    let E = c.args.inputs.now.entries in
    let L = c.args.inputs.now.nodes in
    let es = c.args.view.now in
    let w = c.args.work.now in
    let i = c.loop-i.i in
    let fresh : List Line = view_lines E L w (length es) in
    let long = length_brought fresh es in
    let fits : 128 + length es ≤ length w = omega arith in
    let more : i < length es = omega arith in
    let still : get_or c.loop-i.work (128 + i) 0 ≡ get_or w (128 + i) 0 =
    putting_reads w 128 _ _ long fits c.loop-i.invariant (128 + i) (inr (omega arith)) in
    let line = ap (word_line E L) still ∙ sym (view_at E L w (length es) fits i more) in
    let next = ap (λ (f : Line). brought_word es (counted_line f (line_at es i))) line
    ∙ sym (word_at fresh es i more (omega (arith, view_long E L w (length es) fits))) in
    putting_goes_on w 128 _ _ long fits c.loop-i.invariant more (c.brought.ensures ∙ next)

pub returns : goal.returns
returns c = putting_ends _ 128 _ _ (length_brought _ c.args.view.now) (omega arith) c.loop-i.invariant (omega arith)
