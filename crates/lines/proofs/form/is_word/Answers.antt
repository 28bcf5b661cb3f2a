-- The texts are the same from byte j on.
use Rattle.std.proofs.Common.{◌≡◌, ◌∙◌, sym, refl, arith, ℕ, List, ◌<◌, ◌≤◌, ◌-◌, ◌*◌, ◌/◌, length, get_or}
use Rattle.lines.specs.Hex.{decode}
use Rattle.lines.specs.Engine.Starts.{pair_at}
use Rattle.lines.specs.Theorems.Comparing.{length_differs, byte_differs, text_ends, text_goes_back, text_whole}
use Rattle.lines.proofs.Theorems.Pairs.{length_decode, get_d_decode}
use Rattle.lines.proofs.form.is_word.Goals as goal

-- the byte before place j, of the pairs d
byte_before : (d : List ℕ) (n j : ℕ) {x : ℕ} → length d / 2 ≡ n → 0 < j → j ≤ n → x ≡ pair_at d (2 * (j - 1)) → x ≡ get_or (decode d) (j - 1) 0
byte_before d n j e h k p = p ∙ sym (get_d_decode d (j - 1) (omega (arith, length_decode d)))

pub returns-then-d-word : goal.returns-then-d-word
returns-then-d-word c = sym (length_differs _ _ (sym (length_decode c.args.d.now)) refl c.if-d-word.true)

pub loop-j-init : goal.loop-j-init
loop-j-init c = text_ends _ _ _ (sym (length_decode c.args.d.now ∙ c.if-d-word.false)) refl

pub returns-then-pair_at-word : goal.returns-then-pair_at-word
returns-then-pair_at-word c =
    sym (byte_differs _ _ _ (byte_before _ _ _ c.if-d-word.false c.loop-j-test.true c.loop-j.auto.j c.pair_at.ensures) refl c.if-pair_at-word.true)

pub loop-j-preserved : goal.loop-j-preserved
loop-j-preserved c =
    text_goes_back _ _ _ c.loop-j-test.true (omega (arith, length_decode c.args.d.now)) (omega arith)
    (byte_before _ _ _ c.if-d-word.false c.loop-j-test.true c.loop-j.auto.j c.pair_at.ensures) refl c.if-pair_at-word.false c.loop-j.invariant

pub returns : goal.returns
returns c = sym (text_whole _ _ _ c.loop-j-test.false c.loop-j.invariant)
