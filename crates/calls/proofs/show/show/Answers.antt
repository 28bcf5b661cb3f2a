-- Reply 1 where there is no room; else what the judging settles, with the work room cleared.
use native.Mathlib.Omega.{arith}
use Rattle.calls.specs.Judging.{judged_show}
use Rattle.calls.specs.Outcomes.{show_call}
use Rattle.calls.specs.Theorems.Settled.{short_either, settled_clears}
use Rattle.calls.proofs.show.show.Goals as goal

pub returns-then-out-lt-OUT_ROOM : goal.returns-then-out-lt-OUT_ROOM
unfolding show_call
returns-then-out-lt-OUT_ROOM c =
    let judged = judged_show c.args.master.now c.args.program.now in
    short_either judged c.args.out.now c.args.work.now _ c.of.ensures c.then-out-lt-OUT_ROOM.either

pub returns : goal.returns
unfolding show_call
returns c =
    let zeros = c.fill.ensures.after (λ x e. e) in
    let judged = judged_show c.args.master.now c.args.program.now in
    settled_clears judged c.args.out.now _ c.args.work.now _ _ _ (omega arith) (omega arith) (omega arith) zeros
    c.judged_show-reply.ensures
