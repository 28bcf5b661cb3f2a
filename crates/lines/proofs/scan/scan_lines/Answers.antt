-- Behind the tests there is room for one more line, of whole pairs and 0A.
use Rattle.std.proofs.Common.{◌∙◌, sym, refl, arith}
use Rattle.lines.specs.Theorems.Cutting.{cut_from, cut_none}
use Rattle.lines.proofs.Forms.{formless}
use Rattle.lines.proofs.Scans.{ended, not_ended, scan_full, scan_wrong, scan_end}
use Rattle.lines.proofs.Scanning.{answered, roomy, one_more}
use Rattle.lines.proofs.scan.scan_lines.Goals as goal

pub returns-then-n-limit : goal.returns-then-n-limit
returns-then-n-limit c = answered c.loop-at.invariant (cut_from _ _ c.loop-at-test.true) (scan_full _ _ _ _ _ (omega arith)) refl

pub returns-in_default : goal.returns-in_default
returns-in_default c =
    let room = roomy c.loop-at.invariant c.requires c.if-n-limit.false in
    let wrong = formless c.args.file _ (not_ended _ _ c.loop-at-test.true (sym c.in_default.is ∙ c.line_end.ensures)) in
    answered c.loop-at.invariant (cut_from _ _ c.loop-at-test.true) (scan_wrong _ _ _ _ _ room.fits wrong) refl

pub slice_bounds-has_form-count : goal.slice_bounds-has_form-count
slice_bounds-has_form-count c = let line = ended _ _ c.loop-at-test.true _ (sym c.in-Some.is ∙ c.line_end.ensures) in omega arith

pub slice_bounds-has_form-start : goal.slice_bounds-has_form-start
slice_bounds-has_form-start c = let line = ended _ _ c.loop-at-test.true _ (sym c.in-Some.is ∙ c.line_end.ensures) in omega arith

pub slice_bounds-has_form-end : goal.slice_bounds-has_form-end
slice_bounds-has_form-end c = (ended _ _ c.loop-at-test.true _ (sym c.in-Some.is ∙ c.line_end.ensures)).within

pub has_form-requires : goal.has_form-requires
has_form-requires c = (ended _ _ c.loop-at-test.true _ (sym c.in-Some.is ∙ c.line_end.ensures)).pairs

pub returns-then-not-has_form : goal.returns-then-not-has_form
returns-then-not-has_form c =
    let line = ended _ _ c.loop-at-test.true _ (sym c.in-Some.is ∙ c.line_end.ensures) in
    let room = roomy c.loop-at.invariant c.requires c.if-n-limit.false in
    answered c.loop-at.invariant line.first (scan_wrong _ _ _ _ _ room.fits (sym c.has_form.ensures ∙ c.if-not-has_form.true)) refl

pub overflow_cast-starts : goal.overflow_cast-starts
overflow_cast-starts c = let room = roomy c.loop-at.invariant c.requires c.if-n-limit.false in omega arith

pub offset_bounds-starts-n : goal.offset_bounds-starts-n
offset_bounds-starts-n c = let room = roomy c.loop-at.invariant c.requires c.if-n-limit.false in omega arith

pub bounds-starts-n : goal.bounds-starts-n
bounds-starts-n c = let room = roomy c.loop-at.invariant c.requires c.if-n-limit.false in omega arith

pub loop-at-smaller : goal.loop-at-smaller
loop-at-smaller c = let line = ended _ _ c.loop-at-test.true _ (sym c.in-Some.is ∙ c.line_end.ensures) in omega arith

pub loop-at-preserved : goal.loop-at-preserved
loop-at-preserved c =
    let line = ended _ _ c.loop-at-test.true _ (sym c.in-Some.is ∙ c.line_end.ensures) in
    one_more c.loop-at.invariant (roomy c.loop-at.invariant c.requires c.if-n-limit.false) line (sym c.has_form.ensures ∙ c.if-not-has_form.false)

pub returns : goal.returns
returns c = answered c.loop-at.invariant (cut_none _ _ c.loop-at-test.false) (scan_end _ _ _) refl
