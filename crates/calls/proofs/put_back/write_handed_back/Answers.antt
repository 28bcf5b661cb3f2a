-- What showing and putting back judge first, then the view beside the fresh one.
use native.Mathlib.Omega.{arith}
use Rattle.calls.specs.Judging.{judged_put_back}
use Rattle.calls.proofs.Places.{passed}
use Rattle.calls.proofs.Noted.{read_at}
use Rattle.calls.proofs.Steps.{refused_settles, comparable, compared_settles}
use Rattle.calls.proofs.put_back.write_handed_back.Goals as goal

pub returns-in_err-reached : goal.returns-in_err-reached
unfolding judged_put_back
returns-in_err-reached c =
    rw (passed c.from_residual.ensures.1) (refused_settles _ c.args.out.now _ (c.in_err-reached.ensures _))

pub inputs-inputs-requires : goal.inputs-inputs-requires
inputs-inputs-requires c =
    let ran = c.in_ok-reached.ensures in (ran.of_program.0, ran.of_master.0)

pub compared-requires : goal.compared-requires
compared-requires c =
    let ran = read_at c.in_ok-reached.ensures c.inputs-inputs.ensures.entries c.inputs-inputs.ensures.ends c.inputs-inputs.ensures.nodes in
    comparable ran.of_program ran.of_master ran.of_run ran.ended c.args.out.now c.requires.0 (omega (arith, c.requires.1, c.reach.auto.work))

pub returns : goal.returns
unfolding judged_put_back
returns c =
    let ran = read_at c.in_ok-reached.ensures c.inputs-inputs.ensures.entries c.inputs-inputs.ensures.ends c.inputs-inputs.ensures.nodes in
    compared_settles ran.of_program ran.of_master ran.of_run c.args.view.now c.args.out.now _ _ c.compared.ensures
