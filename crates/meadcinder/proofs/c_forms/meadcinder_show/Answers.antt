-- Reply 1 where the output is too short; else what the judging settles.
use Rattle.std.proofs.Common.{arith}
use Rattle.calls.specs.Judging.{judged_show}
use Rattle.calls.specs.Outcomes.{show_call}
use Rattle.meadcinder.specs.Forms.{show_in_c}
use Rattle.meadcinder.proofs.Answers.{short_in_c, settled_in_c}
use Rattle.meadcinder.proofs.c_forms.meadcinder_show.Goals as goal

pub returns-then-out-lt-OUT_ROOM : goal.returns-then-out-lt-OUT_ROOM
unfolding show_in_c show_call
returns-then-out-lt-OUT_ROOM c =
    let a = c.args in
    let left = short_in_c (judged_show a.master.now a.program.now) a.out.now _ _ c.in_one.ensures c.of.ensures (omega arith) in
    record { packs = left.0; reads = left.1 }

pub returns : goal.returns
unfolding show_in_c show_call
returns c =
    let a = c.args in
    let left = settled_in_c (judged_show a.master.now a.program.now) a.out.now _ _ c.in_one-2.ensures _ (omega arith) c.judged_show.ensures in
    record { packs = left.0; reads = left.1 }
