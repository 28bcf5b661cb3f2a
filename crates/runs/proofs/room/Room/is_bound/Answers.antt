-- The bytes of the slots are searched whichever way round.
use mathlib.Core.Path.{◌∙◌}
use native.Mathlib.Omega.{arith}
use Rattle.runs.proofs.TreeCheckRooms.{contains_bound}
use Rattle.runs.proofs.room.Room.is_bound.Goals as goal

pub returns : goal.returns
returns c =
    let r = c.args.self in
    c.contains.ensures.value ∙ contains_bound c.args.byte r.bytes r.count (omega arith)
