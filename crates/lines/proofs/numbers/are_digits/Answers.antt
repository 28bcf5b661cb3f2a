-- As many bytes as may be, and digits from `from` on.
use Rattle.std.proofs.Common.{◌≡◌, ◌∙◌, ap, rules, refl, arith, Bool, true, false, List, ℕ, zero, suc, ◌+◌, ◌-◌, ◌&&◌, length, get_or, drop, length-drop, drop_of_length-le}
use borrow.Author.Tests.{tests}
use Rattle.std.specs.List.{list_all, range_with_len}
use Rattle.std.proofs.lemmas.Iterator.{YieldsList-from_range}
use Rattle.std.proofs.lemmas.Iterator.Search.{all_from_yields_List}
use Rattle.lines.specs.Hex.{between}
use Rattle.lines.specs.Nodes.{all_of}
use Rattle.lines.specs.Numbers.{are_digits}
use Rattle.lines.specs.Theorems.Lists.{drop_one}
use Rattle.lines.specs.Engine.Texts.{text_bytes}
use Rattle.lines.proofs.numbers.are_digits.Goals as goal

-- a test of the bytes from i on
all_from : (f : ℕ → Bool) (t : List ℕ) (i k : ℕ) → length t - i ≡ k → list_all (λ j. f (get_or t j 0)) (range_with_len i k) ≡ all_of f (drop i t)
unfolding all_of
all_from f t i zero e = rw (drop_of_length-le t {i = i} (omega arith))
all_from f t i (suc k) e = rw (drop_one t i 0 (omega arith)) (ap (λ r. f (get_or t i 0) && r) (all_from f t (i + 1) k (omega arith)))

pub returns-then-contains : goal.returns-then-contains
unfolding are_digits
returns-then-contains c =
    let t = text_bytes c.args.text.now in
    let from = c.args.from in
    let digits : c.all.result ≡ all_of (between 0x30 0x39) (drop from t) =
    all_from_yields_List (λ j. between 0x30 0x39 (get_or t j 0)) _ _ c.all.result c.all.ensures.ran (YieldsList-from_range from c.len-n.result _ refl refl)
    (λ x b q k. search (rules, tests)) ∙ all_from (between 0x30 0x39) t from _ (omega arith) in
    let few : between 1 9 (length (drop from t)) ≡ true = search (rules, tests, length-drop) in
    rw few digits

pub returns-else-contains : goal.returns-else-contains
unfolding are_digits
returns-else-contains c =
    let t = text_bytes c.args.text.now in
    let from = c.args.from in
    let many : between 1 9 (length (drop from t)) ≡ false = search (rules, tests, length-drop) in
    rw (many, c.if-contains.false) refl
