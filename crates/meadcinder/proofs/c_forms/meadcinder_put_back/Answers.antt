-- Reply 1 where the output is too short; else what the judging settles.
use Rattle.std.proofs.Common.{arith}
use Rattle.calls.specs.Judging.{judged_put_back}
use Rattle.calls.specs.Outcomes.{put_back_call}
use Rattle.meadcinder.specs.Forms.{put_back_in_c}
use Rattle.meadcinder.proofs.Answers.{short_in_c, settled_in_c}
use Rattle.meadcinder.proofs.c_forms.meadcinder_put_back.Goals as goal

pub returns-then-out-lt-OUT_ROOM : goal.returns-then-out-lt-OUT_ROOM
unfolding put_back_in_c put_back_call
returns-then-out-lt-OUT_ROOM c =
    let a = c.args in
    let left = short_in_c (judged_put_back a.master.now a.program.now a.view.now) a.out.now _ _ c.in_one.ensures c.of.ensures (omega arith) in
    record { packs = left.0; reads = left.1 }

pub returns : goal.returns
unfolding put_back_in_c put_back_call
returns c =
    let a = c.args in
    let left = settled_in_c (judged_put_back a.master.now a.program.now a.view.now) a.out.now _ _ c.in_one-2.ensures _ (omega arith) c.judged_put_back.ensures in
    record { packs = left.0; reads = left.1 }
