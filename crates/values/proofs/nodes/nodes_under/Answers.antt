use Rattle.std.proofs.Common.{nat_lt, unwrap_or, length, rules, tests, ap, ◌∙◌}
use Rattle.std.proofs.lemmas.Iterator.{YieldsList-from_slice}
use Rattle.std.proofs.lemmas.Iterator.Search.{position_from_yields_List}
use Rattle.std.proofs.lemmas.List.Sums.{prefix_len-le-length}
use Rattle.values.proofs.Words.{all_under, found_or_end}
use Rattle.values.proofs.nodes.nodes_under.Goals as goal

pub returns-clause-long : goal.returns-clause-long
returns-clause-long c =
    let words = c.args.words.now in
    let found = position_from_yields_List (λ x. nat_lt x 0x10000) _ _ c.position.result c.position.ensures.ran (YieldsList-from_slice words cc) (λ x b q k. search (rules, tests)) in
    λ made.
    c.unwrap_or.ensures ∙ ap (λ o. unwrap_or o (length words)) found ∙ found_or_end _ _ (prefix_len-le-length _ words) ∙ all_under made words
