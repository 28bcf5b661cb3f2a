-- What showing and putting back judge first, then the lines of what is shown.
use native.Mathlib.Omega.{arith}
use Rattle.calls.specs.Judging.{judged_show}
use Rattle.calls.proofs.Places.{passed}
use Rattle.calls.proofs.Noted.{read_at}
use Rattle.calls.proofs.Steps.{refused_settles, view_room, shown_settles}
use Rattle.calls.proofs.show.write_shown.Goals as goal

pub returns-in_err-reached : goal.returns-in_err-reached
unfolding judged_show
returns-in_err-reached c =
    rw (passed c.from_residual.ensures.1) (refused_settles _ c.args.out.now _ (c.in_err-reached.ensures _))

pub inputs-inputs-requires : goal.inputs-inputs-requires
inputs-inputs-requires c =
    let ran = c.in_ok-reached.ensures in (ran.of_program.0, ran.of_master.0)

pub write_view-requires : goal.write_view-requires
write_view-requires c =
    let ran = read_at c.in_ok-reached.ensures c.inputs-inputs.ensures.entries c.inputs-inputs.ensures.ends c.inputs-inputs.ensures.nodes in
    view_room ran.of_program ran.of_master ran.of_run c.args.out.now c.requires.0 (omega (arith, c.requires.1, c.reach.auto.work))

pub returns : goal.returns
unfolding judged_show
returns c =
    let ran = read_at c.in_ok-reached.ensures c.inputs-inputs.ensures.entries c.inputs-inputs.ensures.ends c.inputs-inputs.ensures.nodes in
    shown_settles ran.of_program ran.of_master ran.of_run c.args.out.now _ _ c.write_view.ensures
