-- The scan, then the tree check over the places that it noted.
use Prim.Native.Nat.{◌≤◌}
use native.Mathlib.Omega.{arith}
use mathlib.Core.Path.{◌≡◌}
use Rattle.lines.proofs.Theorems.Places.{scanned_wrong}
use Rattle.calls.specs.declared.refusal.Refusal.TheVariants.{ProgramLine}
use Rattle.calls.proofs.Places.{passed, scan_went, scan_failed}
use Rattle.calls.proofs.JudgedFiles.{program_misformed, program_few, program_sized, program_faulty, program_goes}
use Rattle.calls.proofs.files.judge_program.Goals as goal

pub returns-in_err-n : goal.returns-in_err-n
returns-in_err-n c =
    let passed_on = passed c.from_residual.ensures.1 in
    let f = scan_failed _ c.map_err.ensures.cases _ c.in_err-n.was in
    let made : c.in_err-n.field-0.0 ≡ ProgramLine f.0 = f.2 in
    let wrong = scanned_wrong c.scan_lines.ensures _ f.1 in
    rw (passed_on, made) (program_misformed _ _ wrong.0, omega (arith, wrong.1))

pub slice_bounds-new-end : goal.slice_bounds-new-end
slice_bounds-new-end c =
    let few : c.in_ok-n.n ≤ 96 = program_few c.scan_lines.ensures _ (scan_went _ c.map_err.ensures.cases _ c.in_ok-n.was) in
    omega arith

pub check_program-requires : goal.check_program-requires
check_program-requires c =
    let scan = scan_went _ c.map_err.ensures.cases _ c.in_ok-n.was in
    let few : c.in_ok-n.n ≤ 96 = program_few c.scan_lines.ensures _ scan in
    program_sized c.scan_lines.ensures _ scan c.new-entries.ensures (omega arith) c.requires.1

pub returns-in-Err : goal.returns-in-Err
returns-in-Err c =
    let scan = scan_went _ c.map_err.ensures.cases _ c.in_ok-n.was in
    (program_faulty c.scan_lines.ensures _ scan c.new-entries.ensures _ c.in-Err.ensures, omega arith)

pub returns-in-Ok : goal.returns-in-Ok
returns-in-Ok c =
    let scan = scan_went _ c.map_err.ensures.cases _ c.in_ok-n.was in
    let few : c.in_ok-n.n ≤ 96 = program_few c.scan_lines.ensures _ scan in
    program_goes c.scan_lines.ensures _ scan c.new-entries.ensures (omega arith) _ c.in-Ok.ensures
