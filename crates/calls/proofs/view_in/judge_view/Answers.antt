-- The scan, the difference from the fresh view, the program's marks: each stop is a refusal.
use Prim.Native.Nat.{◌≤◌}
use native.Mathlib.Omega.{arith}
use mathlib.Core.Path.{◌≡◌}
use Rattle.lines.proofs.Theorems.Places.{scanned_wrong}
use Rattle.calls.specs.declared.refusal.Refusal.TheVariants.{ViewLine}
use Rattle.calls.proofs.Places.{passed, scan_went, scan_failed}
use Rattle.calls.proofs.ViewJudging.{view_misformed, view_few, differs, marked}
use Rattle.calls.proofs.view_in.judge_view.Goals as goal

pub returns-in_err-n : goal.returns-in_err-n
returns-in_err-n c =
    let passed_on = passed c.from_residual.ensures.1 in
    let f = scan_failed _ c.map_err.ensures.cases _ c.in_err-n.was in
    let made : c.in_err-n.field-0.0 ≡ ViewLine f.0 = f.2 in
    let wrong = scanned_wrong c.scan_lines.ensures _ f.1 in
    rw (passed_on, made) (view_misformed _ _ _ wrong.0, omega (arith, wrong.1))

pub slice_bounds-new-end : goal.slice_bounds-new-end
slice_bounds-new-end c =
    let few : c.in_ok-n.n ≤ 128 = view_few c.scan_lines.ensures _ (scan_went _ c.map_err.ensures.cases _ c.in_ok-n.was) in
    omega arith

pub returns-in-Some : goal.returns-in-Some
returns-in-Some c =
    let scan = scan_went _ c.map_err.ensures.cases _ c.in_ok-n.was in
    let differs = differs c.scan_lines.ensures _ scan c.new-lines.ensures _ c.difference.ensures in
    (differs.judged _ c.in-Some.is, differs.place _ c.in-Some.is)

pub returns-in-Some-first_program_mark : goal.returns-in-Some-first_program_mark
returns-in-Some-first_program_mark c =
    let scan = scan_went _ c.map_err.ensures.cases _ c.in_ok-n.was in
    let searched = marked c.scan_lines.ensures _ scan c.new-lines.ensures _ c.difference.ensures c.in_default.is c.first_program_mark.ensures in
    (searched.judged _ c.in-Some-first_program_mark.is, searched.place _ c.in-Some-first_program_mark.is)

pub returns : goal.returns
returns c =
    let scan = scan_went _ c.map_err.ensures.cases _ c.in_ok-n.was in
    let searched = marked c.scan_lines.ensures _ scan c.new-lines.ensures _ c.difference.ensures c.in_default.is c.first_program_mark.ensures in
    searched.goes c.in_default-first_program_mark.is
