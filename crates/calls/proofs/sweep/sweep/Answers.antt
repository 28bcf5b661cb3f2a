-- Reply 1 where an output is too short; else what the judging leaves.
use native.Mathlib.Omega.{arith}
use Rattle.calls.proofs.Swept.{short_either, swept_call}
use Rattle.calls.proofs.sweep.sweep.Goals as goal

pub returns-then-out-lt-OUT_ROOM : goal.returns-then-out-lt-OUT_ROOM
returns-then-out-lt-OUT_ROOM c = short_either c.args.master.now c.args.out.now c.args.numbers.now _ c.of.ensures c.then-out-lt-OUT_ROOM.either

pub returns : goal.returns
returns c =
    let first = c.if-out-lt-OUT_ROOM.false in
    let second = c.if-numbers-lt-NUMBERS_ROOM.false in
    swept_call c.args.master.now c.args.out.now c.args.numbers.now _ (omega arith) (omega arith) c.judged_sweep.ensures
