-- From byte `j` on the value so far becomes that of all the digits, which nothing on the way exceeds.
use Rattle.std.proofs.Common.{◌≡◌, ◌∙◌, refl, sym, arith, true, List, ℕ, ◌+◌, ◌*◌, ◌-◌, ◌≤◌, ◌<◌, length, get_or, drop, drop_of_length-le}
use Rattle.lines.specs.Hex.{between}
use Rattle.lines.specs.Nodes.{all_of}
use Rattle.lines.specs.Numbers.{are_digits, digits_value}
use Rattle.lines.specs.Theorems.Lists.{drop_one}
use Rattle.lines.specs.Theorems.WholeNumbers.{digits_parts, first_digit, more_digits, digits_grow, digits_most}
use Rattle.lines.specs.Engine.Texts.{text_bytes}
use Rattle.lines.proofs.numbers.digits_value.Goals as goal

-- what a turn knows of its digit
record Turn (t : List ℕ) (from j value : ℕ) : Type 0 where
  pub low : 0x30 ≤ get_or t j 0
  pub left : all_of (between 0x30 0x39) (drop (j + 1) t) ≡ true
  pub same : digits_value (10 * value + (get_or t j 0 - 0x30)) (drop (j + 1) t) ≡ digits_value 0 (drop from t)
  pub most : 10 * value + (get_or t j 0 - 0x30) < 1000000000

turn : (t : List ℕ) (from j value : ℕ) → j < length t → are_digits (drop from t) ≡ true → all_of (between 0x30 0x39) (drop j t) ≡ true
    → digits_value value (drop j t) ≡ digits_value 0 (drop from t) → Turn t from j value
unfolding digits_value
turn t from j value h good digits sum =
    let d = get_or t j 0 in
    let rest = drop (j + 1) t in
    let all = rw (drop_one t j 0 h) at digits in
    let same : digits_value (10 * value + (d - 0x30)) rest ≡ digits_value 0 (drop from t) = rw (drop_one t j 0 h) at sum in
    let grown = digits_grow (10 * value + (d - 0x30)) rest in
    let most = digits_most (drop from t) good in
    record { low = (first_digit d rest all).0; left = more_digits d rest all; same = same; most = omega arith }

value_ends : (t : List ℕ) (j value : ℕ) → length t ≤ j → digits_value value (drop j t) ≡ value
unfolding digits_value
value_ends t j value h = rw (drop_of_length-le t h)

pub loop-j-init : goal.loop-j-init
loop-j-init c = record { digits = (digits_parts _ c.requires).2; same = refl }

pub overflow_mul-value : goal.overflow_mul-value
overflow_mul-value c =
    let most = (turn (text_bytes c.args.text.now) c.args.from c.loop-j.j c.loop-j.value (omega arith) c.requires c.loop-j.invariant.digits c.loop-j.invariant.same).most in omega arith

pub overflow_sub-value : goal.overflow_sub-value
overflow_sub-value c =
    let low = (turn (text_bytes c.args.text.now) c.args.from c.loop-j.j c.loop-j.value (omega arith) c.requires c.loop-j.invariant.digits c.loop-j.invariant.same).low in omega arith

pub overflow_add-value : goal.overflow_add-value
overflow_add-value c =
    let most = (turn (text_bytes c.args.text.now) c.args.from c.loop-j.j c.loop-j.value (omega arith) c.requires c.loop-j.invariant.digits c.loop-j.invariant.same).most in omega arith

pub loop-j-preserved : goal.loop-j-preserved
loop-j-preserved c =
    let t = turn (text_bytes c.args.text.now) c.args.from c.loop-j.j c.loop-j.value (omega arith) c.requires c.loop-j.invariant.digits c.loop-j.invariant.same in
    record { digits = t.left; same = rw c.byte.ensures t.same }

pub returns : goal.returns
returns c = sym (value_ends (text_bytes c.args.text.now) c.loop-j.j c.loop-j.value (omega arith)) ∙ c.loop-j.invariant.same
