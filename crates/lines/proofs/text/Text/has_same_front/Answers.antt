-- The front parts are the same from byte j on.
use Rattle.std.proofs.Common.{◌≡◌, ◌∙◌, sym, arith, Bool, true, false, ℕ, List, ◌<◌, ◌≤◌, ◌-◌, eqb, length, get_or, take, drop, eqb-true}
use Rattle.std.proofs.Math.Seq.{length-take-le, get_or-take}
use Rattle.std.proofs.lemmas.Bool.{eqb-false}
use Rattle.lines.specs.Texts.{same_text}
use Rattle.lines.specs.Theorems.Comparing.{length_differs, byte_differs, text_ends, text_goes_back, text_whole}
use Rattle.lines.proofs.text.Text.has_same_front.Goals as goal

-- the steps, of the front parts
module _ (m n : ℕ) (s t : List ℕ) (fits : (m ≤ length s) × (n ≤ length t)) where
  long : (length (take m s) ≡ m) × (length (take n t) ≡ n)
  long = (length-take-le m s fits.0, length-take-le n t fits.1)

  module _ (e : m ≡ n) (j : ℕ) {same : Bool} (h : 0 < j) (k : j ≤ n) (p : same ≡ eqb (get_or s (j - 1) 0) (get_or t (j - 1) 0)) where
    first : get_or s (j - 1) 0 ≡ get_or (take m s) (j - 1) 0
    first = sym (get_or-take m s (j - 1) 0 (omega arith))

    second : get_or t (j - 1) 0 ≡ get_or (take n t) (j - 1) 0
    second = sym (get_or-take n t (j - 1) 0 (omega arith))

    front_differs : same ≡ false → same_text (take m s) (take n t) ≡ false
    front_differs q = byte_differs (take m s) (take n t) (j - 1) first second (eqb-false _ _ (sym p ∙ q))

    front_goes_back : same ≡ true → same_text (drop j (take m s)) (drop j (take n t)) ≡ true → same_text (drop (j - 1) (take m s)) (drop (j - 1) (take n t)) ≡ true
    front_goes_back q = text_goes_back (take m s) (take n t) j h (omega (arith, long)) (omega (arith, long)) first second (eqb-true _ _ (sym p ∙ q))

pub returns-then-m-n : goal.returns-then-m-n
returns-then-m-n c =
    let l = long _ _ _ _ c.requires in
    sym (length_differs _ _ (sym l.0) (sym l.1) c.if-m-n.true)

pub loop-j-init : goal.loop-j-init
loop-j-init c =
    let l = long _ _ _ _ c.requires in
    text_ends _ _ _ (sym c.if-m-n.false ∙ sym l.0) (sym l.1)

pub returns-then-not-has_same_byte : goal.returns-then-not-has_same_byte
returns-then-not-has_same_byte c =
    sym (front_differs _ _ _ _ c.requires c.if-m-n.false _ c.loop-j-test.true c.loop-j.auto.j c.has_same_byte.ensures c.if-not-has_same_byte.true)

pub loop-j-preserved : goal.loop-j-preserved
loop-j-preserved c =
    front_goes_back _ _ _ _ c.requires c.if-m-n.false _ c.loop-j-test.true c.loop-j.auto.j c.has_same_byte.ensures c.if-not-has_same_byte.false
    c.loop-j.invariant

pub returns : goal.returns
returns c = sym (text_whole _ _ _ c.loop-j-test.false c.loop-j.invariant)
