-- The head of the word's line and its text.
use Rattle.lines.specs.Theorems.WritingLines.{room_as, written_as}
use Rattle.calls.proofs.WordLines.{word_line_bytes}
use Rattle.calls.proofs.view_out.write_word.Goals as goal

pub write_line-requires : goal.write_line-requires
write_line-requires c =
    let i = c.args.inputs.now in
    room_as (word_line_bytes i.entries i.nodes c.args.word c.head_of.ensures c.text.ensures) c.args.pos c.requires.word_in_bounds

pub returns : goal.returns
returns c =
    let i = c.args.inputs.now in
    written_as (word_line_bytes i.entries i.nodes c.args.word c.head_of.ensures c.text.ensures) c.write_line.ensures
