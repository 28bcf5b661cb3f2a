-- The scan, then the rules over the places that it noted.
use Prim.Native.Nat.{◌≤◌}
use native.Mathlib.Omega.{arith}
use mathlib.Core.Path.{◌≡◌}
use Rattle.lines.proofs.Theorems.Places.{scanned_wrong}
use Rattle.calls.specs.declared.refusal.Refusal.TheVariants.{MasterLine}
use Rattle.calls.proofs.Places.{passed, scan_went, scan_failed}
use Rattle.calls.proofs.JudgedFiles.{master_misformed, master_few, master_place, master_faulty, master_goes}
use Rattle.calls.proofs.files.judge_master.Goals as goal

pub returns-in_err-n : goal.returns-in_err-n
returns-in_err-n c =
    let passed_on = passed c.from_residual.ensures.1 in
    let f = scan_failed _ c.map_err.ensures.cases _ c.in_err-n.was in
    let made : c.in_err-n.field-0.0 ≡ MasterLine f.0 = f.2 in
    let wrong = scanned_wrong c.scan_lines.ensures _ f.1 in
    rw (passed_on, made) (master_misformed c.args.putting _ _ wrong.0, omega (arith, wrong.1))

pub slice_bounds-new-end : goal.slice_bounds-new-end
slice_bounds-new-end c =
    let few : c.in_ok-n.n ≤ 128 = master_few c.args.putting c.scan_lines.ensures _ (scan_went _ c.map_err.ensures.cases _ c.in_ok-n.was) in
    omega arith

pub returns-in-Some : goal.returns-in-Some
returns-in-Some c =
    let scan = scan_went _ c.map_err.ensures.cases _ c.in_ok-n.was in
    let few : c.in_ok-n.n ≤ 128 = master_few c.args.putting c.scan_lines.ensures _ scan in (
      master_faulty c.args.putting c.scan_lines.ensures _ scan c.new-nodes.ensures c.master_fault.ensures _ c.in-Some.is,
      master_place c.args.putting c.scan_lines.ensures _ scan c.new-nodes.ensures c.master_fault.ensures (omega arith) _ c.in-Some.is,
    )

pub returns : goal.returns
returns c =
    let scan = scan_went _ c.map_err.ensures.cases _ c.in_ok-n.was in
    let few : c.in_ok-n.n ≤ 128 = master_few c.args.putting c.scan_lines.ensures _ scan in
    master_goes c.args.putting c.scan_lines.ensures _ scan c.new-nodes.ensures c.master_fault.ensures (omega arith) c.in_default.is
