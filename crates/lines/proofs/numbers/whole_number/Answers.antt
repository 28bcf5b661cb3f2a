-- The digits begin behind the minus, if there is one.
use Rattle.std.proofs.Common.{◌≡◌, ◌∙◌, ap, sym, rules, arith, Bool, true, false, List, ℕ, ℤ, drop, w32, Some}
use Rattle.std.proofs.Math.Path.{ap₂}
use mir.Val.{bool_byte}
use mir.ValLaws.{to_z-of_z}
use Rattle.lines.specs.Numbers.{has_minus, digits_in, are_digits, digits_value, signed}
use Rattle.lines.specs.Theorems.WholeNumbers.{digits_most, none_outside, some_inside}
use Rattle.lines.specs.Engine.Texts.{text_bytes}
use Rattle.lines.proofs.numbers.whole_number.Goals as goal

begins : (t : List ℕ) {b : Bool} → b ≡ has_minus t → drop (bool_byte b) t ≡ digits_in t
unfolding digits_in
begins t {b} e = go b e
  where
    go : (b : Bool) → b ≡ has_minus t → drop (bool_byte b) t ≡ digits_in t
    go true e = rw (← e)
    go false e = rw (← e)

pub returns-then-not-are_digits : goal.returns-then-not-are_digits
returns-then-not-are_digits c =
    let t = text_bytes c.args.text.now in
    sym (none_outside t (ap are_digits (sym (begins t c.has_minus-minus.ensures)) ∙ (sym c.are_digits.ensures ∙ c.if-not-are_digits.true)))

pub signed-requires : goal.signed-requires
signed-requires c =
    let value = c.digits_value.ensures in
    let most = digits_most _ (sym c.are_digits.ensures ∙ c.if-not-are_digits.false) in
    omega arith

pub returns : goal.returns
returns c =
    let t = text_bytes c.args.text.now in
    let minus = c.has_minus-minus.ensures in
    let from = begins t minus in
    let size = c.digits_value.ensures ∙ ap (digits_value 0) from in
    let found = sym (ap are_digits from) ∙ (sym c.are_digits.ensures ∙ c.if-not-are_digits.false) in
    ap (λ (n : ℤ). Some n) (to_z-of_z w32 c.signed.result (search rules) ∙ (c.signed.ensures ∙ ap₂ signed minus size)) ∙ sym (some_inside t found)
