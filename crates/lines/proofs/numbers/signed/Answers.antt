-- A size of nine digits is a positive `i32`, and so is its negative one.
use Rattle.std.proofs.Common.{◌≡◌, ◌∙◌, arith, ℕ, zero, suc, ◌<◌, pos, neg_ℤ, ◌-ℤ◌, w32, to_z}
use lib.IntN.{+ℤ_idl}
use borrow.Author.Tests.{lt-ltb}
use mir.Val.{SFits}
use mir.ValLaws.{to_z-of_z}
use Rattle.lines.specs.Numbers.{signed}
use Rattle.lines.proofs.numbers.signed.Goals as goal

positive : (n : ℕ) → n < 1000000000 → to_z w32 n ≡ pos n
positive n h = rw (lt-ltb n 2147483648 (omega arith))

from_zero : (n : ℕ) → pos 0 -ℤ pos n ≡ neg_ℤ (pos n)
from_zero n = +ℤ_idl (neg_ℤ (pos n))

negative_fits : (n : ℕ) → n < 1000000000 → SFits w32 (neg_ℤ (pos n))
negative_fits zero h = record { sfits = omega arith }
negative_fits (suc n) h = record { sfits = omega arith }

-- what is taken from zero fits, and is the negative
taken_fits : (n : ℕ) → n < 1000000000 → SFits w32 (pos 0 -ℤ to_z w32 n)
taken_fits n h = rw (positive n h, from_zero n) (negative_fits n h)

pub returns-then-minus : goal.returns-then-minus
unfolding signed
returns-then-minus c =
    let n = c.args.size in
    let h = c.requires in
    to_z-of_z w32 (pos 0 -ℤ to_z w32 n) (taken_fits n h) ∙ rw (positive n h, c.if-minus.true) (from_zero n)

pub returns-else-minus : goal.returns-else-minus
unfolding signed
returns-else-minus c = rw c.if-minus.false (positive c.args.size c.requires)
