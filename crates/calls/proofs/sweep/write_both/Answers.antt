-- The master as for showing, then both outputs.
use Rattle.calls.proofs.Places.{passed}
use Rattle.calls.proofs.Noted.{lines_part, master_noted}
use Rattle.calls.proofs.Swept.{refused_sweeps, lines_room, written_sweeps}
use Rattle.calls.proofs.sweep.write_both.Goals as goal

pub returns-in_err-n : goal.returns-in_err-n
returns-in_err-n c =
    rw (passed c.from_residual.ensures.1) (refused_sweeps _ c.args.out.now c.args.numbers.now _ c.in_err-n.ensures)

pub write_swept-requires : goal.write_swept-requires
write_swept-requires c = lines_room (master_noted _ _ _ _ c.in_ok-n.ensures (lines_part _ _ _ c.new-nodes.ensures)) c.args.out.now c.requires.0

pub returns : goal.returns
returns c = written_sweeps (master_noted _ _ _ _ c.in_ok-n.ensures (lines_part _ _ _ c.new-nodes.ensures)) c.args.out.now c.args.numbers.now _ _ _ c.write_swept.ensures c.write_numbers.ensures
