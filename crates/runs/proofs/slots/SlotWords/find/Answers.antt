-- The search is from the innermost on.
use native.Mathlib.Omega.{arith}
use Rattle.std.proofs.Common.{rules, take}
use Rattle.runs.proofs.SlotLaws.{IsLast, last_is}
use Rattle.runs.proofs.slots.SlotWords.find.Goals as goal

pub returns : goal.returns
returns c =
    let s = c.args.self in
    let last : IsLast (take s.count s.bound) c.args.byte c.rposition.result = search rules in
    last_is s c.args.byte s.count c.rposition.result (omega arith) last
