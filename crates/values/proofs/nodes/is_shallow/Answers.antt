use Rattle.std.proofs.Common.{nat_le, ◌/◌, rules, tests, ◌∙◌}
use Rattle.std.proofs.lemmas.Iterator.{YieldsList-from_slice}
use Rattle.std.proofs.lemmas.Iterator.Search.{all_from_yields_List}
use Rattle.values.proofs.Words.{all_shallow}
use Rattle.values.proofs.nodes.is_shallow.Goals as goal

pub returns : goal.returns
returns c =
    let words = c.args.words.now in
    let all = all_from_yields_List (λ x. nat_le (x / 0x10000) 9) _ _ c.all.result c.all.ensures.ran (YieldsList-from_slice words cc) (λ x b q k. search (rules, tests)) in
    λ made. all ∙ all_shallow made words
