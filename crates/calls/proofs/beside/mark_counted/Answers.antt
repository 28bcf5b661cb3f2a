-- By the mark as written, then by the texts.
use Rattle.std.proofs.Common.{◌∙◌, sym}
use Rattle.lines.proofs.Theorems.CountedMarks.{counted_saved, counted_written}
use Rattle.calls.proofs.WordLines.{same_as_word}
use Rattle.calls.proofs.beside.mark_counted.Goals as goal
use Rattle.calls.proofs.beside.mark_counted.Goals.{else-mark-via-then-mark+else-is_same, else-mark-via-else-mark}

pub returns-then-is_same : goal.returns-then-is_same
returns-then-is_same c =
    let i = c.args.inputs.now in
    let same = same_as_word i.entries i.nodes c.args.word c.args.line.now c.text.ensures c.text-then-mark.ensures in
    sym (counted_saved _ _ _ (sym c.mark-mark.ensures ∙ c.if-mark.true) (sym same ∙ sym c.if-is_same.ensures))

pub returns : goal.returns
returns c =
    let i = c.args.inputs.now in
    c.mark-mark.ensures ∙ sym (elim c.else-mark.branch [
      | else-mark-via-then-mark+else-is_same w ↦
          let same = same_as_word i.entries i.nodes c.args.word c.args.line.now w.text.ensures w.text-then-mark.ensures in
          counted_written _ _ _ (λ _. sym same ∙ sym w.if-is_same.ensures)
      | else-mark-via-else-mark w ↦ counted_written _ _ _ (λ e. absurd (w.if-mark.false (c.mark-mark.ensures ∙ e)))
    ])
