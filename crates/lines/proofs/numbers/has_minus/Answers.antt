-- The first byte decides, if there is one.
use Rattle.std.proofs.Common.{◌≡◌, refl, arith, false, List, [], ◌∷◌, ℕ, ◌<◌, eqb, length, get_or}
use Rattle.lines.specs.Numbers.{minus, has_minus}
use Rattle.lines.proofs.numbers.has_minus.Goals as goal

first : (t : List ℕ) {x : ℕ} → 0 < length t → x ≡ get_or t 0 0 → eqb x minus ≡ has_minus t
unfolding has_minus
first [] h e = absurd (omega arith)
first (y ∷ t) h e = rw e

none : (t : List ℕ) → 0 ≡ length t → false ≡ has_minus t
unfolding has_minus
none [] e = refl
none (x ∷ t) e = absurd (omega arith)

pub returns-then-len-ne0 : goal.returns-then-len-ne0
returns-then-len-ne0 c = first _ (omega arith) c.byte.ensures

pub returns-else-len-ne0 : goal.returns-else-len-ne0
returns-else-len-ne0 c = rw c.if-len-ne0.false (none _ (omega arith))
