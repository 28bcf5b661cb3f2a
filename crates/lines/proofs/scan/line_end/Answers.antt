-- The line ends behind its digits, or does not end well.
use Rattle.std.proofs.Common.{◌∙◌, sym, arith}
use Rattle.lines.proofs.Scans.{digits_more, digits_stop, digits_none, no_line_end, line_end_at, line_odd, line_strange}
use Rattle.lines.proofs.scan.line_end.Goals as goal
use Rattle.lines.proofs.scan.line_end.Goals.{else-i-at-eq0-via-then-i-at-eq0+else-s-i-eq-LINE_END, else-i-at-eq0-via-else-i-at-eq0}

pub loop-i-preserved : goal.loop-i-preserved
loop-i-preserved c = omega (arith, digits_more _ _ c.loop-i-test.true (sym c.is_hex.ensures ∙ c.if-not-is_hex.false))

pub returns-then-s-i-eq-LINE_END : goal.returns-then-s-i-eq-LINE_END
returns-then-s-i-eq-LINE_END c =
    let stop = digits_stop _ _ c.loop-i-test.true (sym c.is_hex.ensures ∙ c.if-not-is_hex.true) in
    line_end_at _ _ _ (omega arith) c.loop-i-test.true c.if-i-at-eq0.true c.if-s-i-eq-LINE_END.true

pub returns-then-not-is_hex : goal.returns-then-not-is_hex
returns-then-not-is_hex c =
    let stop = digits_stop _ _ c.loop-i-test.true (sym c.is_hex.ensures ∙ c.if-not-is_hex.true) in
    elim c.else-i-at-eq0.branch [
      | else-i-at-eq0-via-then-i-at-eq0+else-s-i-eq-LINE_END w ↦ line_strange _ _ _ (omega arith) c.loop-i-test.true w.if-i-at-eq0.true w.if-s-i-eq-LINE_END.false
      | else-i-at-eq0-via-else-i-at-eq0 w ↦ line_odd _ _ _ (omega arith) c.loop-i-test.true w.if-i-at-eq0.false
    ]

pub returns : goal.returns
returns c = no_line_end _ _ (omega (arith, digits_none _ _ c.loop-i-test.false))
