use Rattle.std.proofs.Common.{◌≡◌, ◌+◌, ◌-◌, map, take, drop, arith, sym, ◌∙◌}
use Rattle.std.proofs.lemmas.Grind.{same_number_lists}
use Rattle.std.proofs.lemmas.List.{get_or-map, length-map}
use Rattle.values.proofs.Words.{changed_put}
use Rattle.values.proofs.nodes.relevel.Goals as goal

pub returns : goal.returns
returns g c =
    let a = c.args in
    let copied = take (a.to + a.from.len - a.to) (drop a.to c.copy.new.work) in
    λ f makes.
    let changed : c.loop-word.words ≡ map f copied =
    same_number_lists c.loop-word.words _ (omega (arith, length-map copied f))
    (λ k h. makes _ _ (c.loop-word.invariant.0 k (omega arith)) ∙ sym (get_or-map f copied k 0 0 (omega arith))) in
    changed_put f a.work.now _ a.from.start a.from.len a.to _ _ (omega arith) (omega arith) (omega arith) c.copy.ensures changed
