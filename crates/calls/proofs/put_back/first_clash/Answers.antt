-- The place that `position` finds.
use Rattle.std.proofs.Common.{◌∙◌, ◌+◌, ◌-◌, List, ℕ, ap, map, take, drop, rules}
use Rattle.std.proofs.lemmas.Iterator.{YieldsList-from_slice}
use Rattle.std.proofs.lemmas.Iterator.Search.{position_from_yields_List}
use borrow.Author.Tests.{tests}
use Rattle.lines.specs.Verdicts.{first_from}
use Rattle.lines.specs.Theorems.FirstFault.{first_by_position}
use Rattle.values.specs.Standings.{is_clash}
use Rattle.values.specs.Engine.Words.{standing_of, standings_at}
use Rattle.values.specs.Theorems.Extents.{slice_part}
use Rattle.calls.proofs.Clashes.{clash_word}
use Rattle.calls.proofs.put_back.first_clash.Goals as goal

pub returns : goal.returns
unfolding standings_at
returns c = λ texts.
    let w = c.args.work.now in
    let len = c.args.len in
    let words : List ℕ = take (256 + len - 256) (drop 256 w) in
    first_by_position is_clash (standing_of texts) words
    (position_from_yields_List (λ x. is_clash (standing_of texts x)) _ _ _ c.position.ensures.ran (YieldsList-from_slice words c.iter.ensures.rest)
    (λ x b q k. rw (clash_word texts _) (search (rules, tests))))
    ∙ ap (λ (v : List ℕ). first_from is_clash 0 (map (standing_of texts) v)) (slice_part w 256 len)
