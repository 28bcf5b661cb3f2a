-- The place that `find` finds; line `i` has the text at the latest.
use Rattle.std.proofs.Common.{◌≡◌, ◌∙◌, ℕ, Option, Some, None, refl, sym, ap, arith, rules}
use Rattle.std.specs.Prelude.{unwrap_or, option_map}
use Rattle.std.proofs.lemmas.Iterator.{YieldsList-from_range}
use Rattle.std.proofs.lemmas.Iterator.Search.{find_from_yields_List}
use borrow.Author.Tests.{tests}
use Rattle.lines.specs.Nodes.{line_at}
use Rattle.lines.specs.Theorems.SameTexts.{same_text_refl}
use Rattle.calls.proofs.ViewWords.{has, found_first, found_low}
use Rattle.calls.proofs.view_in.first_same.Goals as goal

itself : (r : Option ℕ) → option_map (λ x. x) r ≡ r
itself None = refl
itself (Some x) = refl

pub returns : goal.returns
returns c =
    let es = c.args.view.now in
    let i = c.args.i in
    let text = (line_at es i).text in
    let places = YieldsList-from_range 0 i i refl (omega arith) in
    let found = find_from_yields_List (has es text) _ _ c.find.result c.find.ensures.ran places (λ x b q k. search (rules, tests)) in
    let is = c.unwrap_or.ensures ∙ ap (λ (r : Option ℕ). unwrap_or r i) (sym (itself c.find.result) ∙ found) in
    rw is (found_first es text i 0 i (omega arith) c.requires.0 (same_text_refl text), found_low es text i 0 i (omega arith))
