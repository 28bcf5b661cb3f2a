-- At line `i` the lines end, differ by their heads, by their texts' lengths or by a byte, or are the same.
use mathlib.Core.Path.{◌≡◌, refl, sym, ap, ◌∙◌}
use mathlib.Core.Bool.{Bool}
use mathlib.Core.List.{List}
use Prim.Native.Nat.{ℕ}
use native.Mathlib.Omega.{arith}
use borrow.Author.Tests.{eqb-true, eqb-false}
use Rattle.lines.specs.declared.write.Head.{Head}
use Rattle.lines.specs.Nodes.{Line}
use Rattle.lines.specs.Views.{same_head, first_difference}
use Rattle.lines.specs.Theorems.Comparing.{length_differs, byte_differs, text_ends, text_goes_back, text_whole, line_head, line_changed}
use Rattle.lines.specs.Engine.Writes.{headed}
use Rattle.calls.proofs.WordLines.{view_depth}
use Rattle.calls.proofs.Differing.{here, text_decides}
use Rattle.calls.proofs.beside.difference.Goals as goal
use Rattle.calls.proofs.beside.difference.Goals.{then-mark-ne-CHANGED+else-len+else-loop-j-test, else-mark-ne-CHANGED}

-- the head found for a fresh line stands for the line's own
heads : (v : Line) {f : Line} {head : Head} {same : Bool} → headed head f.text ≡ f
    → ((text : List ℕ) → same ≡ same_head v (headed head text)) → same_head v f ≡ same
heads v {f} found compared = sym (compared f.text ∙ ap (same_head v) found)

pub lines-init : goal.lines-init
unfolding first_difference
lines-init c = record { of_view = omega arith; of_fresh = omega arith; rest = refl }

pub head_of-requires : goal.head_of-requires
head_of-requires c = view_depth _ c.args.inputs.now.nodes _ _ c.requires.0 c.requires.1 _ c.if-shown-i-2.false

pub loop-j-init : goal.loop-j-init
loop-j-init c = text_ends _ _ _ c.len-j.ensures (omega arith)

pub loop-j-preserved : goal.loop-j-preserved
loop-j-preserved c =
    text_goes_back _ _ c.loop-j.j c.loop-j-test.true (omega arith) (omega arith) refl refl
    (eqb-true _ _ (sym c.if-not-has_same_byte.ensures)) c.loop-j.invariant

pub lines-preserved : goal.lines-preserved
lines-preserved c =
    let same_heads = heads _ c.head_of.ensures c.if-not-has_head.ensures in
    record {
      of_view = omega arith;
      of_fresh = omega arith;
      rest =
          (here _ _ _ _ c.requires.0 _ _ c.lines.invariant.rest).goes_on (omega arith) c.if-shown-i-2.false c.line-line.ensures.line
          (elim c.if-mark-ne-CHANGED.branch [
            | then-mark-ne-CHANGED+else-len+else-loop-j-test w ↦
                text_decides _ _ _ _ same_heads (λ e. w.if-mark-ne-CHANGED.true (c.mark.ensures ∙ e)) w.text-text.ensures w.text-fresh.ensures
                ∙ text_whole _ _ w.loop-j.j w.loop-j-test.false w.loop-j.invariant
            | else-mark-ne-CHANGED w ↦ line_changed _ _ same_heads (sym c.mark.ensures ∙ w.if-mark-ne-CHANGED.false)
          ]);
    }

pub returns-then-shown-i : goal.returns-then-shown-i
returns-then-shown-i c = (here _ _ _ _ c.requires.0 _ _ c.lines.invariant.rest).both_end (omega arith) c.if-shown-i.true

pub returns-else-shown-i : goal.returns-else-shown-i
returns-else-shown-i c = (here _ _ _ _ c.requires.0 _ _ c.lines.invariant.rest).view_ends (omega arith) c.if-shown-i.false

pub returns-then-shown-i-2 : goal.returns-then-shown-i-2
returns-then-shown-i-2 c = (here _ _ _ _ c.requires.0 _ _ c.lines.invariant.rest).fresh_ends (omega arith) c.if-shown-i-2.true

pub returns-then-not-has_head : goal.returns-then-not-has_head
returns-then-not-has_head c =
    (here _ _ _ _ c.requires.0 _ _ c.lines.invariant.rest).differs (omega arith) c.if-shown-i-2.false c.line-line.ensures.line
    (line_head _ _ (heads _ c.head_of.ensures c.if-not-has_head.ensures))

pub returns-then-len : goal.returns-then-len
returns-then-len c =
    let same_heads = heads _ c.head_of.ensures c.if-not-has_head.ensures in
    (here _ _ _ _ c.requires.0 _ _ c.lines.invariant.rest).differs (omega arith) c.if-shown-i-2.false c.line-line.ensures.line
    (text_decides _ _ _ _ same_heads (λ e. c.if-mark-ne-CHANGED.true (c.mark.ensures ∙ e)) c.text-text.ensures c.text-fresh.ensures
    ∙ length_differs _ _ c.len-then-mark-ne-CHANGED.ensures c.len-then-mark-ne-CHANGED-2.ensures c.if-len.true)

pub returns-then-not-has_same_byte : goal.returns-then-not-has_same_byte
returns-then-not-has_same_byte c =
    let same_heads = heads _ c.head_of.ensures c.if-not-has_head.ensures in
    (here _ _ _ _ c.requires.0 _ _ c.lines.invariant.rest).differs (omega arith) c.if-shown-i-2.false c.line-line.ensures.line
    (text_decides _ _ _ _ same_heads (λ e. c.if-mark-ne-CHANGED.true (c.mark.ensures ∙ e)) c.text-text.ensures c.text-fresh.ensures
    ∙ byte_differs _ _ _ refl refl (eqb-false _ _ (sym c.if-not-has_same_byte.ensures)))
