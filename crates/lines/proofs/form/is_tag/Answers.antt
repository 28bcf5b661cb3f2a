-- Every pair is a tag's byte if each byte is.
use Rattle.std.proofs.Common.{◌∙◌, refl, arith, rules, tests, ℕ, ◌*◌, ◌/◌, length, le-leb}
use Rattle.std.proofs.lemmas.Iterator.{YieldsList-from_range}
use Rattle.std.proofs.lemmas.Iterator.Search.{all_from_yields_List}
use Rattle.lines.specs.Hex.{between}
use Rattle.lines.specs.Nodes.{is_tag}
use Rattle.lines.specs.Engine.Starts.{pair_at}
use Rattle.lines.proofs.Forms.{all_pairs}
use Rattle.lines.proofs.Theorems.Pairs.{length_decode}
use Rattle.lines.proofs.form.is_tag.Goals as goal

pub returns-then-d-ge2 : goal.returns-then-d-ge2
unfolding is_tag
returns-then-d-ge2 c =
    let d = c.args.d.now in
    let test = λ (i : ℕ). between 0x21 0x7E (pair_at d (2 * i)) in
    let all = all_from_yields_List test _ _ _ c.all.ensures.ran (YieldsList-from_range 0 _ _ refl refl) (λ x b q k. search (rules, tests)) in
    rw (length_decode, le-leb 1 (length d / 2) (omega arith)) (all ∙ all_pairs (between 0x21 0x7E) d _ (omega arith))
