-- The source stands at the foot while the program runs over it, so the run is the ground's.
use native.Mathlib.Omega.{arith}
use Rattle.std.proofs.lemmas.Result.{err_from_is_err_and}
use Rattle.calls.proofs.Grounded.{program_ready}
use Rattle.calls.proofs.Sources.{loaded_foot, run_stops, run_goes}
use Rattle.calls.proofs.run_program.run_program.Goals as goal

pub show-requires-clause-ready_at : goal.show-requires-clause-ready_at
show-requires-clause-ready_at c = rw c.root-at.ensures (program_ready c.requires.runnable)

pub returns-in_err-shown : goal.returns-in_err-shown
returns-in_err-shown c =
    let few = c.requires.runnable.few_lines in
    let foot = loaded_foot c.args.work.now c.args.inputs.now.nodes (omega (arith, c.requires.show_room_in_bounds)) c.load.ensures in
    let p = err_from_is_err_and c.from_residual.result c.from_residual.ensures.1 in
    let shown = rw (c.root-at.ensures, c.len.ensures) at c.in_err-shown.ensures in
    rw p.1 (run_stops c.requires.runnable _ foot shown _ p.2)

pub returns : goal.returns
returns c =
    let few = c.requires.runnable.few_lines in
    let foot = loaded_foot c.args.work.now c.args.inputs.now.nodes (omega (arith, c.requires.show_room_in_bounds)) c.load.ensures in
    let shown = rw (c.root-at.ensures, c.len.ensures) at c.in_ok-shown.ensures in
    run_goes c.requires.runnable _ foot shown c.show.auto.work
