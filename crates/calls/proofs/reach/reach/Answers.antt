-- The program, the master, the run: each goes on, or its refusal is the whole judging's.
use Rattle.calls.proofs.Places.{passed}
use Rattle.calls.proofs.Noted.{lines_part, entries_part, program_noted, master_noted, run_as}
use Rattle.calls.proofs.Steps.{stopped_reaches}
use Rattle.calls.proofs.reach.reach.Goals as goal

pub returns-in_err-shown : goal.returns-in_err-shown
returns-in_err-shown c =
    let program = program_noted _ _ _ _ c.in_ok-entries.ensures (entries_part _ _ _ c.new.ensures) in
    let master = master_noted _ _ _ _ c.in_ok-nodes.ensures (lines_part _ _ _ c.new-2.ensures) in
    rw (passed c.from_residual-in_err-shown.ensures.1) (stopped_reaches program master _ c.in_err-shown.ensures)

pub returns : goal.returns
returns c =
    record {
      of_program = c.in_ok-entries.ensures;
      of_master = c.in_ok-nodes.ensures;
      of_run = run_as (entries_part _ _ _ c.new.ensures) (lines_part _ _ _ c.new-2.ensures) c.in_ok-shown.ensures;
    }
