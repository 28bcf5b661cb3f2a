-- From byte j on the sum so far becomes that of the whole text.
use Rattle.std.proofs.Common.{◌≡◌, ◌∙◌, sym, refl, arith, ℕ, ◌<◌, ◌≤◌, ◌+◌, ◌*◌, ◌%◌, List, length, get_or, drop, drop_of_length-le}
use Rattle.lines.specs.Engine.Sums.{sum_from, text_sum}
use Rattle.lines.specs.Engine.Texts.{text_bytes}
use Rattle.lines.specs.Theorems.Lists.{drop_one}
use Rattle.lines.proofs.text.Text.sum.Goals as goal

sum_goes_on : (t : List ℕ) (j sum : ℕ) {x : ℕ} → j < length t → x ≡ get_or t j 0 → sum_from ((0x9E3779B1 * sum + x) % 0x100000000) (drop (j + 1) t) ≡ sum_from sum (drop j t)
unfolding sum_from
sum_goes_on t j sum h e = rw (drop_one t j 0 h, e)

sum_ends : (t : List ℕ) (j sum : ℕ) → length t ≤ j → sum_from sum (drop j t) ≡ sum
unfolding sum_from
sum_ends t j sum h = rw (drop_of_length-le t h)

pub loop-j-init : goal.loop-j-init
unfolding text_sum
loop-j-init c = record { small = omega arith; same = refl }

pub loop-j-preserved : goal.loop-j-preserved
loop-j-preserved c =
    let l = c.loop-j in
    record { small = omega arith; same = sum_goes_on (text_bytes c.args.self.now) l.j l.sum (omega arith) c.byte.ensures ∙ l.invariant.same }

pub returns : goal.returns
returns c = let l = c.loop-j in sym (sum_ends (text_bytes c.args.self.now) l.j l.sum (omega arith)) ∙ l.invariant.same
