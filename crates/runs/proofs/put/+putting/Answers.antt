-- What each function of the cycle asks of the calls below it, and why what it leaves is what it ensures.
-- The laws of a combinator are in a file of proofs/ for each.
use mathlib.Core.Path.{◌≡◌, refl, ◌∙◌, ap}
use Prim.Native.Nat.{◌+◌, ◌-◌, ◌<◌}
use native.Mathlib.Omega.{arith}
use lib.ListN.{get_or, length-set}
use Rattle.lines.specs.Entries.{slot_of}
use Rattle.runs.specs.Engine.Runs.{made_by}
use Rattle.runs.specs.Theorems.RunAnswers.{got, halted}
use Rattle.runs.proofs.PutLeaves.{source_long, source_back, made_back, slot_found, slot_long, slot_back, contents_long, contents_back}
use Rattle.runs.proofs.PutRuns.{shown_before, begun}
use Rattle.runs.proofs.PutWords.{copied_word}
use Rattle.runs.proofs.PutWithin.{within_some, within_asks, within_back}
use Rattle.runs.proofs.PutThen.{then_goes, then_asks_second, then_asks_first, then_back}
use Rattle.runs.proofs.PutBeside.{first_goes, second_goes, beside_asks_second, beside_asks_first, beside_back}
use Rattle.runs.proofs.PutEach.{items_start, items_end, item_goes, item_asks, item_next}
use Rattle.runs.proofs.PutChoose.{choose_goes, branch_asks, test_asks, choose_back}
use Rattle.runs.proofs.PutBind.{bind_asks, bind_back}
use Rattle.runs.proofs.PutTest.{plain_back, equals_asks, equals_back}
use Rattle.runs.proofs.ShowEntries.{read}
use Rattle.runs.proofs.ShowEach.{item_at}
use Rattle.runs.proofs.Trees.{operation_here, here, here_test, slots_left, ready_within, ready_then, ready_beside, ready_each, ready_choose, ready_branch, ready_bind, ready_equals}
use Rattle.runs.proofs.put.+putting.Goals as goal
use Rattle.runs.proofs.put.+putting.Goals.{put-in_default-operation-via-then-operation-lt1-2, put-in_default-operation-via-else-operation-lt1-2+else-operation-lt5}

-- ## `put`: the operation is read and told from the others, and each has its function.

pub put-entry-entry-requires : goal.put-entry-entry-requires
put-entry-entry-requires t c = (here c.requires.ready_at).inside

pub put-copy-requires : goal.put-copy-requires
put-copy-requires t c =
    let h = here c.requires.ready_at in
    let n = source_long c.requires.ready_at c.requires.put_space_at c.requires.seen_at (here c.requires.ready_at).some
    (read c.entry-entry.ensures c.operation-operation.ensures c.in-1.is) in
    omega arith

pub put-put_slot-requires-clause-count_value : goal.put-put_slot-requires-clause-count_value
put-put_slot-requires-clause-count_value t c =
    let o = read c.entry-entry.ensures c.operation-operation.ensures c.in-5.is in
    let y = c.slot.ensures ∙ ap slot_of c.entry-entry.ensures in
    slot_found c.requires.ready_at c.requires.put_space_at c.requires.seen_at (here c.requires.ready_at).some o y

pub put-put_slot-requires-clause-view_len : goal.put-put_slot-requires-clause-view_len
put-put_slot-requires-clause-view_len t c =
    let o = read c.entry-entry.ensures c.operation-operation.ensures c.in-5.is in
    let y = c.slot.ensures ∙ ap slot_of c.entry-entry.ensures in
    slot_long c.requires.ready_at c.requires.put_space_at c.requires.seen_at (here c.requires.ready_at).some o y

pub put-put_slot-requires-clause-in_bounds : goal.put-put_slot-requires-clause-in_bounds
put-put_slot-requires-clause-in_bounds t c = let h = here c.requires.ready_at in (omega arith, omega arith, omega arith)

pub put-put_contents-requires : goal.put-put_contents-requires
put-put_contents-requires t c =
    let h = here c.requires.ready_at in
    let n = contents_long c.requires.ready_at c.requires.put_space_at c.requires.seen_at (here c.requires.ready_at).some
    (read c.entry-entry.ensures c.operation-operation.ensures c.in-6.is) in
    omega arith

pub put-put_within-requires : goal.put-put_within-requires
put-put_within-requires t c =
    let o = read c.entry-entry.ensures c.operation-operation.ensures c.in-7.is in
    (omega arith, begun c.requires.ready_at c.requires.put_space_at c.requires.seen_at o (here (ready_within c.requires.ready_at o)).some)

pub put-put_and_then-requires : goal.put-put_and_then-requires
put-put_and_then-requires t c =
    let o = read c.entry-entry.ensures c.operation-operation.ensures c.in-8.is in
    (omega arith, begun c.requires.ready_at c.requires.put_space_at c.requires.seen_at o (here (ready_then c.requires.ready_at o).0).some)

pub put-put_beside-requires : goal.put-put_beside-requires
put-put_beside-requires t c =
    let o = read c.entry-entry.ensures c.operation-operation.ensures c.in-9.is in
    (omega arith, begun c.requires.ready_at c.requires.put_space_at c.requires.seen_at o (here (ready_beside c.requires.ready_at o).0).some)

pub put-put_each-requires : goal.put-put_each-requires
put-put_each-requires t c =
    let o = read c.entry-entry.ensures c.operation-operation.ensures c.in-10.is in
    (omega arith, begun c.requires.ready_at c.requires.put_space_at c.requires.seen_at o (here (ready_each c.requires.ready_at o)).some)

pub put-put_choose-requires : goal.put-put_choose-requires
put-put_choose-requires t c =
    let o = read c.entry-entry.ensures c.operation-operation.ensures c.in-11.is in
    (omega arith, begun c.requires.ready_at c.requires.put_space_at c.requires.seen_at o (here (ready_choose c.requires.ready_at o).1).some)

pub put-put_nothing-requires : goal.put-put_nothing-requires
put-put_nothing-requires t c = let h = here c.requires.ready_at in omega arith

pub put-put_bind-requires : goal.put-put_bind-requires
put-put_bind-requires t c =
    let left : c.operation-operation.result ≡ 12 =
    elim c.in_default-operation.branch [
      | put-in_default-operation-via-then-operation-lt1-2 w ↦ omega arith
      | put-in_default-operation-via-else-operation-lt1-2+else-operation-lt5 w ↦ omega arith
    ] in
    let o = read c.entry-entry.ensures c.operation-operation.ensures left in
    (omega arith, begun c.requires.ready_at c.requires.put_space_at c.requires.seen_at o (here (ready_bind c.requires.ready_at o c.requires.put_space_at.bound _ c.args.at.source.start c.args.at.source.len refl)).some)

pub put-returns-then-operation-lt1 : goal.put-returns-then-operation-lt1
put-returns-then-operation-lt1 t c =
    let o = operation_here _ c.requires.ready_at.tree c.args.at.entry c.requires.ready_at.behind c.requires.ready_at.placed.stands in
    let q = read c.entry-entry.ensures c.operation-operation.ensures refl in
    absurd (omega arith)

pub put-returns-in-1 : goal.put-returns-in-1
put-returns-in-1 t c =
    source_back c.requires.ready_at c.requires.put_space_at c.requires.seen_at (here c.requires.ready_at).some
    (read c.entry-entry.ensures c.operation-operation.ensures c.in-1.is) c.copy.ensures

pub put-returns-in-5 : goal.put-returns-in-5
put-returns-in-5 t c =
    let o = read c.entry-entry.ensures c.operation-operation.ensures c.in-5.is in
    let y = c.slot.ensures ∙ ap slot_of c.entry-entry.ensures in
    slot_back c.requires.ready_at c.requires.put_space_at c.requires.seen_at (here c.requires.ready_at).some o y
    c.put_slot.ensures.work_after c.put_slot.ensures.marks_after

pub put-returns-in-6 : goal.put-returns-in-6
put-returns-in-6 t c =
    contents_back c.requires.ready_at c.requires.put_space_at c.requires.seen_at (here c.requires.ready_at).some
    (read c.entry-entry.ensures c.operation-operation.ensures c.in-6.is) c.put_contents.ensures

pub put-returns-in-2-to-4 : goal.put-returns-in-2-to-4
put-returns-in-2-to-4 t c =
    let q = read c.entry-entry.ensures c.operation-operation.ensures refl in
    made_back c.requires.ready_at c.requires.put_space_at c.requires.seen_at (here c.requires.ready_at).some (omega arith) (omega arith) c.put_nothing.ensures

pub put-returns-else-operation-lt13 : goal.put-returns-else-operation-lt13
put-returns-else-operation-lt13 t c =
    let o = operation_here _ c.requires.ready_at.tree c.args.at.entry c.requires.ready_at.behind c.requires.ready_at.placed.stands in
    let q = read c.entry-entry.ensures c.operation-operation.ensures refl in
    absurd (omega arith)

-- ## `put_within`

pub put_within-skip-contents-requires : goal.put_within-skip-contents-requires
put_within-skip-contents-requires t c =
    let k = within_some c.requires in
    (omega arith, omega arith)

pub put_within-skip-requires : goal.put_within-skip-requires
put_within-skip-requires t c =
    let k = within_some c.requires in
    (omega arith, omega arith)

pub put_within-put-requires : goal.put_within-put-requires
put_within-put-requires t c =
    let e = c.skip-contents.ensures in
    rw (c.seeing.ensures, c.below_on-under.ensures, c.skip.ensures.0, c.skip.ensures.1, e.1)
    (omega arith, (ready_within c.requires.ready c.requires.op, within_asks c.requires (rw (e.0, e.1) at c.lower.ensures)))

pub put_within-returns : goal.put_within-returns
put_within-returns t c =
    let k = within_some c.requires in
    let e = c.skip-contents.ensures in
    let a = c.args.at in
    let w = c.put.new.work in
    within_back c.requires (rw (e.0, e.1) at c.lower.ensures) c.put.auto.work
    (length-set w a.top (get_or w a.view.start 0) ∙ (c.put.auto.work ∙ c.lower.auto.work))
    (rw (c.seeing.ensures, c.below_on-under.ensures, c.skip.ensures.0, c.skip.ensures.1, e.1) at c.put.ensures)
    (copied_word w a.top a.view.start (omega arith) (omega arith)) (rw e.1 at c.copy.ensures)

-- ## `put_and_then`: X1 has shown `g`.

pub put_and_then-show-requires-clause-ready_at : goal.put_and_then-show-requires-clause-ready_at
put_and_then-show-requires-clause-ready_at t c = rw c.below.ensures (ready_then c.requires.ready c.requires.op).0

pub put_and_then-after-requires : goal.put_and_then-after-requires
put_and_then-after-requires t c = let h = here (ready_then c.requires.ready c.requires.op).0 in omega arith

pub put_and_then-put-requires : goal.put_and_then-put-requires
put_and_then-put-requires t c =
    let g = got (rw c.below.ensures at c.in-Ok.ensures) c.show.auto.work in
    rw (c.below_on-over.ensures, (rw c.below.ensures at c.in-Ok.ensures).place.0)
    (omega arith, rw c.after.ensures ((ready_then c.requires.ready c.requires.op).1, then_asks_second c.requires g refl))

pub put_and_then-put-requires-in-Ok : goal.put_and_then-put-requires-in-Ok
put_and_then-put-requires-in-Ok t c =
    let g = got (rw c.below.ensures at c.in-Ok.ensures) c.show.auto.work in
    rw (c.seeing.ensures, c.below_on-under.ensures) (
      omega arith,
      (
        (ready_then c.requires.ready c.requires.op).0,
        then_asks_first c.requires g (rw c.below_on-over.ensures at c.put.ensures).frame c.put.auto.work c.put.auto.marks,
      ),
    )

pub put_and_then-returns-in-Ok : goal.put_and_then-returns-in-Ok
put_and_then-returns-in-Ok t c =
    let g = got (rw c.below.ensures at c.in-Ok.ensures) c.show.auto.work in
    let y = rw c.after.ensures at (rw (c.below_on-over.ensures, (rw c.below.ensures at c.in-Ok.ensures).place.0) at c.put.ensures) in
    then_back c.requires g (c.put-in-Ok.auto.work ∙ (c.put.auto.work ∙ c.show.auto.work)) y
    (rw (c.seeing.ensures, c.below_on-under.ensures) at c.put-in-Ok.ensures) c.copy.ensures

pub put_and_then-returns-in_default : goal.put_and_then-returns-in_default
put_and_then-returns-in_default t c =
    absurd (then_goes c.requires (halted (rw c.below.ensures at c.in_default.ensures)))

-- ## `put_beside`: X1 has shown `g`, and X2 on the same source `h`.

pub put_beside-after-x2-requires : goal.put_beside-after-x2-requires
put_beside-after-x2-requires t c = let h = here (ready_beside c.requires.ready c.requires.op).0 in omega arith

pub put_beside-show-requires-clause-ready_at : goal.put_beside-show-requires-clause-ready_at
put_beside-show-requires-clause-ready_at t c = rw c.below.ensures (ready_beside c.requires.ready c.requires.op).0

pub put_beside-show-requires-in-Ok-clause-ready_at : goal.put_beside-show-requires-in-Ok-clause-ready_at
put_beside-show-requires-in-Ok-clause-ready_at t c =
    rw c.below-in-Ok.ensures (rw c.after-x2.ensures (ready_beside c.requires.ready c.requires.op).1)

pub put_beside-put-requires : goal.put_beside-put-requires
put_beside-put-requires t c =
    let g = got (rw c.below.ensures at c.in-Ok.ensures) c.show.auto.work in
    let again = shown_before (rw c.below.ensures at c.show.ensures).frame c.requires.room.below c.requires.room.bound
    (rw c.after-x2.ensures at (rw c.below-in-Ok.ensures at c.in-Ok-show.ensures)) in
    let h = got again (c.show-in-Ok.auto.work ∙ c.show.auto.work) in
    rw (c.seeing.ensures, c.below-over.ensures)
    (omega arith, rw c.after-x2.ensures ((ready_beside c.requires.ready c.requires.op).1, beside_asks_second c.requires g h refl))

pub put_beside-put-requires-in-Ok-show : goal.put_beside-put-requires-in-Ok-show
put_beside-put-requires-in-Ok-show t c =
    let g = got (rw c.below.ensures at c.in-Ok.ensures) c.show.auto.work in
    let again = shown_before (rw c.below.ensures at c.show.ensures).frame c.requires.room.below c.requires.room.bound
    (rw c.after-x2.ensures at (rw c.below-in-Ok.ensures at c.in-Ok-show.ensures)) in
    let h = got again (c.show-in-Ok.auto.work ∙ c.show.auto.work) in
    rw (c.seeing-in-Ok-show.ensures, c.below_on-under.ensures) (
      omega arith,
      (
        (ready_beside c.requires.ready c.requires.op).0,
        beside_asks_first c.requires g h (rw (c.seeing.ensures, c.below-over.ensures) at c.put.ensures).frame c.put.auto.work c.put.auto.marks,
      ),
    )

pub put_beside-returns-in-Ok-show : goal.put_beside-returns-in-Ok-show
put_beside-returns-in-Ok-show t c =
    let g = got (rw c.below.ensures at c.in-Ok.ensures) c.show.auto.work in
    let again = shown_before (rw c.below.ensures at c.show.ensures).frame c.requires.room.below c.requires.room.bound
    (rw c.after-x2.ensures at (rw c.below-in-Ok.ensures at c.in-Ok-show.ensures)) in
    let h = got again (c.show-in-Ok.auto.work ∙ c.show.auto.work) in
    let y = rw c.after-x2.ensures at (rw (c.seeing.ensures, c.below-over.ensures) at c.put.ensures) in
    beside_back c.requires g h (c.put-in-Ok-show.auto.work ∙ (c.put.auto.work ∙ (c.show-in-Ok.auto.work ∙ c.show.auto.work))) y
    (rw (c.seeing-in-Ok-show.ensures, c.below_on-under.ensures) at c.put-in-Ok-show.ensures) c.merge.ensures

pub put_beside-returns-in_default-show : goal.put_beside-returns-in_default-show
put_beside-returns-in_default-show t c =
    let again = shown_before (rw c.below.ensures at c.show.ensures).frame c.requires.room.below c.requires.room.bound
    (rw c.after-x2.ensures at (rw c.below-in-Ok.ensures at c.in_default-show.ensures)) in
    absurd (second_goes c.requires (halted again))

pub put_beside-returns-in_default : goal.put_beside-returns-in_default
put_beside-returns-in_default t c =
    absurd (first_goes c.requires (halted (rw c.below.ensures at c.in_default.ensures)))

-- ## `put_each`: X has shown `g` of an item.

pub put_each-loop-done-init : goal.put_each-loop-done-init
put_each-loop-done-init t c = items_start c.requires

pub put_each-show-requires-clause-ready_at : goal.put_each-show-requires-clause-ready_at
put_each-show-requires-clause-ready_at t c = rw c.below_on-item.ensures (ready_each c.requires.ready c.requires.op)

pub put_each-returns-in_default : goal.put_each-returns-in_default
put_each-returns-in_default t c =
    let f = item_at c.loop-done.work (c.args.at.source.start + c.loop-done.done) (c.args.at.source.len - c.loop-done.done) c.words.ensures (omega arith) c.first_item-len.ensures in
    absurd (item_goes c.requires c.loop-done.invariant c.loop-done-test.true f
    (halted (rw c.below_on-item.ensures at c.in_default.ensures)))

pub put_each-put-requires : goal.put_each-put-requires
put_each-put-requires t c =
    let f = item_at c.loop-done.work (c.args.at.source.start + c.loop-done.done) (c.args.at.source.len - c.loop-done.done) c.words.ensures (omega arith) c.first_item-len.ensures in
    let g = got (rw c.below_on-item.ensures at c.in-Ok.ensures) c.show.auto.work in
    rw (c.seeing.ensures, c.below_on-back.ensures)
    (omega arith, (ready_each c.requires.ready c.requires.op, item_asks c.requires c.loop-done.invariant c.loop-done-test.true f g))

pub put_each-loop-done-smaller : goal.put_each-loop-done-smaller
put_each-loop-done-smaller t c =
    let f = item_at c.loop-done.work (c.args.at.source.start + c.loop-done.done) (c.args.at.source.len - c.loop-done.done) c.words.ensures (omega arith) c.first_item-len.ensures in
    let k = f.long (made_by c.args.inputs.now.entries) in
    let z : c.args.at.source.len - (c.loop-done.done + c.first_item-len.result) < c.args.at.source.len - c.loop-done.done = omega arith in
    z

pub put_each-loop-done-preserved : goal.put_each-loop-done-preserved
put_each-loop-done-preserved t c =
    let f = item_at c.loop-done.work (c.args.at.source.start + c.loop-done.done) (c.args.at.source.len - c.loop-done.done) c.words.ensures (omega arith) c.first_item-len.ensures in
    let g = got (rw c.below_on-item.ensures at c.in-Ok.ensures) c.show.auto.work in
    item_next c.requires c.loop-done.invariant c.loop-done-test.true f g c.put.auto.work c.put.auto.marks
    (rw (c.seeing.ensures, c.below_on-back.ensures) at c.put.ensures)

pub put_each-returns : goal.put_each-returns
put_each-returns t c =
    items_end c.requires
    c.loop-done.invariant c.loop-done-test.false

-- ## `put_choose`: the test has said `said`.

pub put_choose-test-requires-clause-ready_test_at : goal.put_choose-test-requires-clause-ready_test_at
put_choose-test-requires-clause-ready_test_at t c = rw c.below.ensures (ready_choose c.requires.ready c.requires.op).0

pub put_choose-chosen-branch-requires : goal.put_choose-chosen-branch-requires
put_choose-chosen-branch-requires t c =
    let h = here_test (ready_choose c.requires.ready c.requires.op).0 in
    let i = here (ready_choose c.requires.ready c.requires.op).1 in
    (omega arith, omega arith)

pub put_choose-put-requires : goal.put_choose-put-requires
put_choose-put-requires t c =
    let said = rw c.below.ensures at c.in-Ok.ensures in
    rw c.below-taken.ensures (
      omega arith,
      rw c.chosen-branch.ensures
          (ready_branch c.requires.ready c.requires.op c.in-Ok.yes, branch_asks c.requires said c.test.auto.work (omega arith) refl),
    )

pub put_choose-put_test-requires : goal.put_choose-put_test-requires
put_choose-put_test-requires t c =
    let said = rw c.below.ensures at c.in-Ok.ensures in
    rw c.below-asked.ensures (
      omega arith,
      (
        (ready_choose c.requires.ready c.requires.op).0,
        test_asks c.requires said (rw c.below-taken.ensures at c.put.ensures).frame
            (c.put.auto.work ∙ c.test.auto.work) (omega arith) c.put.auto.marks,
      ),
    )

pub put_choose-returns-in-Ok : goal.put_choose-returns-in-Ok
put_choose-returns-in-Ok t c =
    let said = rw c.below.ensures at c.in-Ok.ensures in
    let y = rw c.chosen-branch.ensures at (rw c.below-taken.ensures at c.put.ensures) in
    choose_back c.requires said y (rw c.below-asked.ensures at c.put_test.ensures)

pub put_choose-returns-in_default : goal.put_choose-returns-in_default
put_choose-returns-in_default t c =
    absurd (choose_goes c.requires (rw c.below.ensures at c.in_default.ensures))

-- ## `put_bind`

pub put_bind-below_bound-inner-requires-clause-count_bound : goal.put_bind-below_bound-inner-requires-clause-count_bound
put_bind-below_bound-inner-requires-clause-count_bound t c =
    (slots_left c.requires.ready c.requires.op, omega arith, omega arith)

pub put_bind-fill-requires : goal.put_bind-fill-requires
put_bind-fill-requires t c =
    let k = slots_left c.requires.ready c.requires.op in
    omega arith

pub put_bind-put-requires : goal.put_bind-put-requires
put_bind-put-requires t c =
    let y = c.slot-byte.ensures ∙ ap slot_of c.entry.ensures in
    rw c.below_bound-inner.ensures (
      omega arith,
      (
        ready_bind c.requires.ready c.requires.op c.requires.room.bound c.slot-byte.result c.args.at.source.start c.args.at.source.len y,
        bind_asks c.requires y c.fill.ensures (omega arith),
      ),
    )

pub put_bind-bring-requires : goal.put_bind-bring-requires
put_bind-bring-requires t c =
    let k = slots_left c.requires.ready c.requires.op in
    omega arith

pub put_bind-returns : goal.put_bind-returns
put_bind-returns t c =
    let y = c.slot-byte.ensures ∙ ap slot_of c.entry.ensures in
    bind_back c.requires y c.fill.ensures (omega arith) c.put.auto.work
    (c.put.auto.marks ∙ (c.fill.auto.work ∙ c.requires.room.marks_long)) (rw c.below_bound-inner.ensures at c.put.ensures) c.bring.ensures

-- ## `put_test`: where the test is 11, `put_equals`.

pub put_test-entry-requires : goal.put_test-entry-requires
put_test-entry-requires t c = (here_test c.requires.ready_test_at).inside

pub put_test-put_equals-requires : goal.put_test-put_equals-requires
put_test-put_equals-requires t c =
    let o = read c.entry.ensures c.operation.ensures c.in-17.is in
    let s = (here (ready_equals c.requires.ready_test_at o)).some in
    (omega arith, record { ready = c.requires.ready_test_at; room = c.requires.test_space_at; asked = c.requires.asked_at; op = o; two = omega arith })

pub put_test-returns-in_default : goal.put_test-returns-in_default
put_test-returns-in_default t c =
    plain_back λ o.
    let q = read c.entry.ensures c.operation.ensures refl in
    omega arith

pub put_equals-put-requires : goal.put_equals-put-requires
put_equals-put-requires t c =
    rw (c.seeing.ensures, c.below_on-under.ensures)
    (omega arith, (ready_equals c.requires.ready c.requires.op, equals_asks c.requires c.fill.ensures c.merge.ensures))

pub put_equals-returns : goal.put_equals-returns
put_equals-returns t c =
    equals_back c.requires c.fill.ensures c.merge.ensures (rw (c.seeing.ensures, c.below_on-under.ensures) at c.put.ensures)
