-- The head and the text that the standing leaves make the line.
use Rattle.std.proofs.Common.{ℕ, ◌∙◌, ap}
use Rattle.lines.specs.Theorems.WritingLines.{room_as, written_as}
use Rattle.calls.specs.Engine.Parts.{mark_left, texts_of}
use Rattle.calls.proofs.WordLines.{head_is}
use Rattle.calls.proofs.HandedLines.{head_handed}
use Rattle.calls.proofs.write_master.write_handed.Goals as goal

pub write_line-requires : goal.write_line-requires
write_line-requires c =
    let mark = c.mark_left.ensures ∙ ap (λ (m : ℕ). mark_left m c.args.word) c.mark.ensures in
    let head = head_is c.depth.ensures c.kind.ensures mark c.number.ensures in
    room_as (head_handed (texts_of c.args.view.now) c.args.line.now c.args.word head c.text_left.ensures) c.args.pos c.requires

pub returns : goal.returns
returns c =
    let mark = c.mark_left.ensures ∙ ap (λ (m : ℕ). mark_left m c.args.word) c.mark.ensures in
    let head = head_is c.depth.ensures c.kind.ensures mark c.number.ensures in
    written_as (head_handed (texts_of c.args.view.now) c.args.line.now c.args.word head c.text_left.ensures) c.write_line.ensures
