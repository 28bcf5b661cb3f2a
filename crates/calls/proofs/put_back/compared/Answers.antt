-- The view judged beside the fresh one, then its edits carried.
use Rattle.calls.proofs.Places.{passed}
use Rattle.calls.proofs.Noted.{lines_part, view_noted}
use Rattle.calls.proofs.Comparing.{view_refuses, carriable, carried_compares}
use Rattle.calls.proofs.put_back.compared.Goals as goal

pub returns-in_err-n : goal.returns-in_err-n
returns-in_err-n c =
    rw (passed c.from_residual.ensures.1) (view_refuses c.requires c.args.view.now _ c.in_err-n.ensures)

pub carry-requires : goal.carry-requires
carry-requires c = carriable c.requires c.args.view.now (view_noted _ _ _ _ c.in_ok-n.ensures (lines_part _ _ _ c.new-lines.ensures))

pub returns : goal.returns
returns c = carried_compares c.requires c.args.view.now (view_noted _ _ _ _ c.in_ok-n.ensures (lines_part _ _ _ c.new-lines.ensures)) _ _ c.carry.ensures
