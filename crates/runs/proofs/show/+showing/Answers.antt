-- Each operation's function leaves what the operation shows; what it runs is ready one level down, and has room there.
use mathlib.Core.Path.{◌≡◌, refl, sym, ◌∙◌, ap, ap₂}
use Prim.Native.Nat.{◌≤◌, ◌<◌}
use native.Mathlib.Omega.{arith}
use lib.ListN.{get_or, length-set}
use Rattle.lines.specs.Texts.{agree}
use Rattle.lines.specs.Entries.{slot_of}
use Rattle.values.specs.Values.{shallow}
use Rattle.runs.specs.Engine.Runs.{made_by, lookup_of}
use Rattle.runs.specs.Theorems.RunAnswers.{got, halted}
use Rattle.runs.proofs.ShowEach.{item_at, each_starts, each_done, each_stop, each_large, each_more}
use Rattle.runs.proofs.ShowEntries.{read, text_or_tag, shows_source, shows_slot, shows_contents, shows_made, shows_nothing, tests_tag, tests_element}
use Rattle.runs.proofs.ShowRuns.{passed, entered, space_below, then_first, then_second, then_done, beside_first, beside_second, beside_large, beside_done, bind_done, choose_stop, choose_done}
use Rattle.runs.specs.Engine.Leaves.{is_one_element, is_one_text}
use Rattle.runs.proofs.ShowSources.{of_words, element_words}
use Rattle.runs.proofs.ShowTests.{equals_none, equals_stop, equals_other, equals_done}
use Rattle.runs.proofs.ShowWithin.{within_none, within_stop, within_over, within_deep, within_done}
use Rattle.runs.proofs.SlotLaws.{more_bound}
use Rattle.runs.proofs.Trees.{here, here_test, operation_here, test_here, slot_bound, slots_left, ready_within, ready_then, ready_beside, ready_each, ready_choose, ready_branch, ready_bind, ready_equals}
use Rattle.runs.proofs.show.+showing.Goals as goal
use Rattle.runs.proofs.show.+showing.Goals.{show-in_default-operation-via-then-operation-lt1-2, show-in_default-operation-via-else-operation-lt1-2+else-operation-lt5}

-- ## show

pub show-entry-entry-requires : goal.show-entry-entry-requires
show-entry-entry-requires t c = (here c.requires.ready_at).inside

pub show-show_source-requires : goal.show-show_source-requires
show-show_source-requires t c = let h = here c.requires.ready_at in omega arith

pub show-show_slot-requires-clause-top_in_bounds : goal.show-show_slot-requires-clause-top_in_bounds
show-show_slot-requires-clause-top_in_bounds t c = let h = here c.requires.ready_at in omega arith

pub show-show_slot-requires-clause-count_value : goal.show-show_slot-requires-clause-count_value
show-show_slot-requires-clause-count_value t c =
    let byte = c.slot.ensures ∙ ap slot_of c.entry-entry.ensures in
    rw byte (slot_bound c.requires.ready_at (read c.entry-entry.ensures c.operation-operation.ensures c.in-5.is))

pub show-show_contents-requires : goal.show-show_contents-requires
show-show_contents-requires t c = let h = here c.requires.ready_at in omega arith

pub show-show_made-requires : goal.show-show_made-requires
show-show_made-requires t c = let h = here c.requires.ready_at in omega arith

pub show-show_within-requires : goal.show-show_within-requires
show-show_within-requires t c =
    let o = read c.entry-entry.ensures c.operation-operation.ensures c.in-7.is in
    (omega arith, entered c.requires.ready_at c.requires.space_at o (here (ready_within c.requires.ready_at o)))

pub show-show_and_then-requires : goal.show-show_and_then-requires
show-show_and_then-requires t c =
    let o = read c.entry-entry.ensures c.operation-operation.ensures c.in-8.is in
    (omega arith, entered c.requires.ready_at c.requires.space_at o (here (ready_then c.requires.ready_at o).0))

pub show-show_beside-requires : goal.show-show_beside-requires
show-show_beside-requires t c =
    let o = read c.entry-entry.ensures c.operation-operation.ensures c.in-9.is in
    (omega arith, entered c.requires.ready_at c.requires.space_at o (here (ready_beside c.requires.ready_at o).0))

pub show-show_each-requires : goal.show-show_each-requires
show-show_each-requires t c =
    let o = read c.entry-entry.ensures c.operation-operation.ensures c.in-10.is in
    (omega arith, entered c.requires.ready_at c.requires.space_at o (here (ready_each c.requires.ready_at o)))

pub show-show_choose-requires : goal.show-show_choose-requires
show-show_choose-requires t c =
    let o = read c.entry-entry.ensures c.operation-operation.ensures c.in-11.is in
    (omega arith, entered c.requires.ready_at c.requires.space_at o (here_test (ready_choose c.requires.ready_at o).0))

pub show-show_bind-requires : goal.show-show_bind-requires
show-show_bind-requires t c =
    let room = c.requires.space_at in
    let left : c.operation-operation.result ≡ 12 =
    elim c.in_default-operation.branch [
      | show-in_default-operation-via-then-operation-lt1-2 w ↦ omega arith
      | show-in_default-operation-via-else-operation-lt1-2+else-operation-lt5 w ↦ omega arith
    ] in
    let o = read c.entry-entry.ensures c.operation-operation.ensures left in
    let y = ready_bind c.requires.ready_at o room.bound _ c.args.at.source.start c.args.at.source.len refl in
    (omega arith, entered c.requires.ready_at room o (here y))

pub show-returns-in-1 : goal.show-returns-in-1
show-returns-in-1 t c =
    shows_source (read c.entry-entry.ensures c.operation-operation.ensures c.in-1.is) (c.show_source.ensures (made_by c.args.inputs.now.entries))

pub show-returns-in-2 : goal.show-returns-in-2
show-returns-in-2 t c = shows_nothing (read c.entry-entry.ensures c.operation-operation.ensures c.in-2.is)

pub show-returns-in-5 : goal.show-returns-in-5
show-returns-in-5 t c =
    let byte = c.slot.ensures ∙ ap slot_of c.entry-entry.ensures in
    shows_slot (read c.entry-entry.ensures c.operation-operation.ensures c.in-5.is) byte (c.show_slot.ensures (made_by c.args.inputs.now.entries))

pub show-returns-in-6 : goal.show-returns-in-6
show-returns-in-6 t c = shows_contents (read c.entry-entry.ensures c.operation-operation.ensures c.in-6.is) c.show_contents.ensures

pub show-returns-in-3-to-4 : goal.show-returns-in-3-to-4
show-returns-in-3-to-4 t c =
    let h = here c.requires.ready_at in
    let l : 3 ≤ c.operation-operation.result = omega arith in
    let u : c.operation-operation.result < 5 = omega arith in
    shows_made (omega arith) (text_or_tag (read c.entry-entry.ensures c.operation-operation.ensures refl) l u)
    (c.show_made.ensures (made_by c.args.inputs.now.entries))

-- an entry that is ready has an operation
pub show-returns-in_default : goal.show-returns-in_default
show-returns-in_default t c =
    let r = c.requires.ready_at in
    let o = operation_here c.args.inputs.now.entries r.tree c.args.at.entry r.behind r.placed.stands in
    let e = read c.entry-entry.ensures c.operation-operation.ensures refl in
    absurd (omega arith)

pub show-returns-in_default-2 : goal.show-returns-in_default-2
show-returns-in_default-2 t c =
    let r = c.requires.ready_at in
    let o = operation_here c.args.inputs.now.entries r.tree c.args.at.entry r.behind r.placed.stands in
    let e = read c.entry-entry.ensures c.operation-operation.ensures refl in
    absurd (omega arith)

-- ## show_and_then

pub show_and_then-show-requires : goal.show_and_then-show-requires
show_and_then-show-requires t c =
    let y = ready_then c.requires.ready c.requires.op in
    rw c.below.ensures (omega arith, (y.0, space_below c.requires.space (omega arith) refl (omega arith) (omega arith) c.requires.space.below c.requires.space.short))

pub show_and_then-returns-in_err-first : goal.show_and_then-returns-in_err-first
show_and_then-returns-in_err-first t c =
    rw (passed c.from_residual.ensures.1) (then_first c.args.at.entry c.requires.op (halted (rw c.below.ensures at c.in_err-first.ensures)))

pub show_and_then-show-requires-2 : goal.show_and_then-show-requires-2
show_and_then-show-requires-2 t c =
    let y = ready_then c.requires.ready c.requires.op in
    let x = got (rw c.below.ensures at c.in_ok-first.ensures) c.show.auto.work in
    let p = (rw c.below.ensures at c.in_ok-first.ensures).place in
    rw c.below_on.ensures (
      omega arith,
      (rw c.after-x2.ensures y.1, space_below c.requires.space (omega arith) c.show.auto.work (omega arith) (omega arith) (omega arith) x.small),
    )

pub show_and_then-returns-in_err-second : goal.show_and_then-returns-in_err-second
show_and_then-returns-in_err-second t c =
    let x = got (rw c.below.ensures at c.in_ok-first.ensures) c.show.auto.work in
    let p = (rw c.below.ensures at c.in_ok-first.ensures).place in
    rw (passed c.from_residual-in_err-second.ensures.1)
    (then_second c.args.at.entry c.requires.op c.requires.ready.ended c.requires.space.bound x c.after-x2.ensures
    (halted (rw (c.below_on.ensures, p.0) at c.in_err-second.ensures)))

pub show_and_then-copy-requires : goal.show_and_then-copy-requires
show_and_then-copy-requires t c =
    let y = got (rw c.below_on.ensures at c.in_ok-second.ensures) c.show-2.auto.work in
    let q = (rw c.below_on.ensures at c.in_ok-second.ensures).place in
    (omega arith, omega arith)

pub show_and_then-returns : goal.show_and_then-returns
show_and_then-returns t c =
    let x = got (rw c.below.ensures at c.in_ok-first.ensures) c.show.auto.work in
    let p = (rw c.below.ensures at c.in_ok-first.ensures).place in
    let y = got (rw (c.below_on.ensures, p.0) at c.in_ok-second.ensures) c.show-2.auto.work in
    let q = (rw c.below_on.ensures at c.in_ok-second.ensures).place in
    then_done c.args.at.entry c.requires.op c.requires.ready.ended c.requires.space.bound x c.after-x2.ensures y (rw q.0 at c.copy.ensures) (omega arith)

-- ## show_beside

pub show_beside-show-requires : goal.show_beside-show-requires
show_beside-show-requires t c =
    let y = ready_beside c.requires.ready c.requires.op in
    rw c.below.ensures (omega arith, (y.0, space_below c.requires.space (omega arith) refl (omega arith) (omega arith) c.requires.space.below c.requires.space.short))

pub show_beside-returns-in_err-one : goal.show_beside-returns-in_err-one
show_beside-returns-in_err-one t c =
    rw (passed c.from_residual.ensures.1) (beside_first c.args.at.entry c.requires.op (halted (rw c.below.ensures at c.in_err-one.ensures)))

pub show_beside-show-requires-2 : goal.show_beside-show-requires-2
show_beside-show-requires-2 t c =
    let y = ready_beside c.requires.ready c.requires.op in
    let x = got (rw c.below.ensures at c.in_ok-one.ensures) c.show.auto.work in
    let k = x.small in
    rw c.below_on.ensures (
      omega arith,
      (rw c.after-x2.ensures y.1, space_below c.requires.space (omega arith) c.show.auto.work (omega arith) (omega arith) (omega arith) c.requires.space.short),
    )

pub show_beside-returns-in_err-other : goal.show_beside-returns-in_err-other
show_beside-returns-in_err-other t c =
    let x = got (rw c.below.ensures at c.in_ok-one.ensures) c.show.auto.work in
    rw (passed c.from_residual-in_err-other.ensures.1)
    (beside_second c.args.at.entry c.requires.op c.requires.ready.ended c.requires.space.bound c.requires.space.below x (omega arith) c.after-x2.ensures
    (halted (rw c.below_on.ensures at c.in_err-other.ensures)))

pub show_beside-returns-then-len-le-MOST_NODES : goal.show_beside-returns-then-len-le-MOST_NODES
show_beside-returns-then-len-le-MOST_NODES t c =
    let x = got (rw c.below.ensures at c.in_ok-one.ensures) c.show.auto.work in
    let y = got (rw c.below_on.ensures at c.in_ok-other.ensures) c.show-2.auto.work in
    let k = y.small in
    beside_done c.args.at.entry c.requires.op c.requires.ready.ended c.requires.space.bound c.requires.space.below x (omega arith) c.after-x2.ensures y
    (omega arith) c.if-len-le-MOST_NODES.true

pub show_beside-returns : goal.show_beside-returns
show_beside-returns t c =
    let x = got (rw c.below.ensures at c.in_ok-one.ensures) c.show.auto.work in
    let y = got (rw c.below_on.ensures at c.in_ok-other.ensures) c.show-2.auto.work in
    let k = y.small in
    beside_large c.args.at.entry c.requires.op c.requires.ready.ended c.requires.space.bound c.requires.space.below x (omega arith) c.after-x2.ensures y
    (omega arith) c.if-len-le-MOST_NODES.false

-- ## show_bind

pub show_bind-below_bound-requires-clause-count_bound : goal.show_bind-below_bound-requires-clause-count_bound
show_bind-below_bound-requires-clause-count_bound t c = (slots_left c.requires.ready c.requires.op, omega arith, omega arith)

pub show_bind-show-requires : goal.show_bind-show-requires
show_bind-show-requires t c =
    let byte = c.slot-byte.ensures ∙ ap slot_of c.entry.ensures in
    let y = ready_bind c.requires.ready c.requires.op c.requires.space.bound c.slot-byte.result c.args.at.source.start c.args.at.source.len byte in
    rw c.below_bound.ensures (
      omega arith,
      (
        y,
        record {
          below = omega arith;
          short = omega arith;
          enough = omega arith;
          low = omega arith;
          bound = more_bound c.requires.space.bound (slots_left c.requires.ready c.requires.op) _ _ _ c.requires.space.below c.requires.space.short;
        },
      ),
    )

pub show_bind-returns : goal.show_bind-returns
show_bind-returns t c =
    let byte = c.slot-byte.ensures ∙ ap slot_of c.entry.ensures in
    bind_done c.args.at.entry c.requires.op c.requires.space.bound (slots_left c.requires.ready c.requires.op) byte refl (rw c.below_bound.ensures at c.show.ensures)

-- ## show_choose

pub show_choose-test-requires : goal.show_choose-test-requires
show_choose-test-requires t c =
    let y = ready_choose c.requires.ready c.requires.op in
    rw c.below.ensures (omega arith, (y.0, space_below c.requires.space (omega arith) refl (omega arith) (omega arith) c.requires.space.below c.requires.space.short))

pub show_choose-returns-in_err-yes : goal.show_choose-returns-in_err-yes
show_choose-returns-in_err-yes t c =
    rw (passed c.from_residual.ensures.1) (choose_stop c.args.at.entry c.requires.op (rw c.below.ensures at c.in_err-yes.ensures))

pub show_choose-chosen-branch-requires : goal.show_choose-chosen-branch-requires
show_choose-chosen-branch-requires t c =
    let y = ready_choose c.requires.ready c.requires.op in
    let h = here_test y.0 in
    let i = here y.1 in
    (omega arith, omega arith)

pub show_choose-show-requires : goal.show_choose-show-requires
show_choose-show-requires t c =
    rw (c.below-2.ensures, c.chosen-branch.ensures) (
      omega arith,
      (
        ready_branch c.requires.ready c.requires.op c.in_ok-yes.yes,
        space_below c.requires.space (omega arith) c.test.auto.work (omega arith) (omega arith) c.requires.space.below c.requires.space.short,
      ),
    )

pub show_choose-returns : goal.show_choose-returns
show_choose-returns t c =
    choose_done c.args.at.entry c.requires.op (rw c.below.ensures at c.in_ok-yes.ensures)
    c.requires.ready.ended c.requires.space.bound c.requires.space.below (rw c.chosen-branch.ensures at (rw c.below-2.ensures at c.show.ensures))

-- ## show_each

pub show_each-loop-rest-init : goal.show_each-loop-rest-init
show_each-loop-rest-init t c = each_starts

pub show_each-show-requires : goal.show_each-show-requires
show_each-show-requires t c =
    let y = ready_each c.requires.ready c.requires.op in
    let g = c.loop-rest.invariant in
    let a = g.ends in
    let b = g.kept in
    let i = item_at c.loop-rest.work c.loop-rest.rest.start c.loop-rest.rest.len c.words.ensures (omega arith) c.first_item.ensures in
    let l = i.within in
    let t = g.starts in
    let n = g.small in
    rw c.below_on.ensures (
      omega arith,
      (y, space_below c.requires.space (omega arith) g.kept (omega arith) (omega arith) (omega arith) (omega arith)),
    )

pub show_each-returns-in_err-shown : goal.show_each-returns-in_err-shown
show_each-returns-in_err-shown t c =
    let g = c.loop-rest.invariant in
    let a = g.ends in
    let b = g.kept in
    let i = item_at c.loop-rest.work c.loop-rest.rest.start c.loop-rest.rest.len c.words.ensures (omega arith) c.first_item.ensures in
    rw (passed c.from_residual.ensures.1) (each_stop c.requires.op c.requires.space.bound c.requires.space.below (omega arith) g c.loop-rest-test.true i
    (halted (rw c.below_on.ensures at c.in_err-shown.ensures)))

pub show_each-returns-then-more-gt-MOST_NODES : goal.show_each-returns-then-more-gt-MOST_NODES
show_each-returns-then-more-gt-MOST_NODES t c =
    let g = c.loop-rest.invariant in
    let a = g.ends in
    let b = g.kept in
    let i = item_at c.loop-rest.work c.loop-rest.rest.start c.loop-rest.rest.len c.words.ensures (omega arith) c.first_item.ensures in
    let x = got (rw c.below_on.ensures at c.in_ok-shown.ensures) c.show.auto.work in
    each_large c.requires.op c.requires.space.bound c.requires.space.below (omega arith) g c.loop-rest-test.true i x c.if-more-gt-MOST_NODES.true

pub show_each-skip-rest-requires : goal.show_each-skip-rest-requires
show_each-skip-rest-requires t c =
    let g = c.loop-rest.invariant in
    let a = g.ends in
    let b = g.kept in
    let i = item_at c.loop-rest.work c.loop-rest.rest.start c.loop-rest.rest.len c.words.ensures (omega arith) c.first_item.ensures in
    let l = i.within in
    (l, omega arith)

pub show_each-loop-rest-smaller : goal.show_each-loop-rest-smaller
show_each-loop-rest-smaller t c =
    let g = c.loop-rest.invariant in
    let a = g.ends in
    let b = g.kept in
    let i = item_at c.loop-rest.work c.loop-rest.rest.start c.loop-rest.rest.len c.words.ensures (omega arith) c.first_item.ensures in
    let l = i.long (made_by c.args.inputs.now.entries) in
    let s = c.skip-rest.ensures in
    let z : c.skip-rest.result.len < c.loop-rest.rest.len = omega arith in
    z

pub show_each-loop-rest-preserved : goal.show_each-loop-rest-preserved
show_each-loop-rest-preserved t c =
    let g = c.loop-rest.invariant in
    let a = g.ends in
    let b = g.kept in
    let i = item_at c.loop-rest.work c.loop-rest.rest.start c.loop-rest.rest.len c.words.ensures (omega arith) c.first_item.ensures in
    let x = got (rw c.below_on.ensures at c.in_ok-shown.ensures) c.show.auto.work in
    rw (c.skip-rest.ensures.0, c.skip-rest.ensures.1) (each_more c.requires.op c.requires.space.bound c.requires.space.below
    (omega arith) g c.loop-rest-test.true i x c.if-more-gt-MOST_NODES.false)

pub show_each-returns : goal.show_each-returns
show_each-returns t c =
    let g = c.loop-rest.invariant in
    each_done c.requires.op c.requires.space.bound c.requires.space.below (omega arith) g c.loop-rest-test.false

-- ## show_within

pub show_within-returns-then-not-one_element : goal.show_within-returns-then-not-one_element
show_within-returns-then-not-one_element t c =
    let one = of_words _ _ _ _ _ (is_one_element (lookup_of c.args.inputs.now.nodes)) c.if-not-one_element.ensures c.words.ensures in
    within_none _ _ _ _ _ _ _ _ c.requires.op one

pub show_within-skip-contents-requires : goal.show_within-skip-contents-requires
show_within-skip-contents-requires t c =
    let one = of_words _ _ _ _ _ (is_one_element (lookup_of c.args.inputs.now.nodes)) c.if-not-one_element.ensures c.words.ensures in (
      element_words (made_by c.args.inputs.now.entries) c.args.work.now c.args.at.source.start c.args.at.source.len (omega arith)
          (lookup_of c.args.inputs.now.nodes) one,
      omega arith,
    )

pub show_within-lower-requires : goal.show_within-lower-requires
show_within-lower-requires t c =
    let one = of_words _ _ _ _ _ (is_one_element (lookup_of c.args.inputs.now.nodes)) c.if-not-one_element.ensures c.words.ensures in
    let s = c.skip-contents.ensures in
    let e = element_words (made_by c.args.inputs.now.entries) c.args.work.now c.args.at.source.start c.args.at.source.len (omega arith)
    (lookup_of c.args.inputs.now.nodes) one in
    (omega arith, omega arith)

pub show_within-show-requires : goal.show_within-show-requires
show_within-show-requires t c =
    let y = ready_within c.requires.ready c.requires.op in
    let s = c.skip-contents.ensures in
    rw c.below_on.ensures (omega arith, (y, space_below c.requires.space (omega arith) c.lower.auto.work (omega arith) (omega arith) (omega arith) (omega arith)))

pub show_within-returns-in_err-inner : goal.show_within-returns-in_err-inner
show_within-returns-in_err-inner t c =
    let one = of_words _ _ _ _ _ (is_one_element (lookup_of c.args.inputs.now.nodes)) c.if-not-one_element.ensures c.words.ensures in
    let s = c.skip-contents.ensures in
    rw (passed c.from_residual.ensures.1) (within_stop _ _ _ _ _ _ _ _ c.requires.op one c.requires.space.bound c.requires.space.below c.requires.space.short
    (omega arith) (rw (s.0, s.1) at c.lower.ensures) (halted (rw (c.below_on.ensures, s.1) at c.in_err-inner.ensures)))

pub show_within-returns-then-whole-gt-MOST_NODES : goal.show_within-returns-then-whole-gt-MOST_NODES
show_within-returns-then-whole-gt-MOST_NODES t c =
    let one = of_words _ _ _ _ _ (is_one_element (lookup_of c.args.inputs.now.nodes)) c.if-not-one_element.ensures c.words.ensures in
    let s = c.skip-contents.ensures in
    let x = got (rw (c.below_on.ensures, s.1) at c.in_ok-inner.ensures) c.show.auto.work in
    let p = (rw c.below_on.ensures at c.in_ok-inner.ensures).place in
    within_over _ _ _ _ _ _ _ _ c.requires.op one c.requires.space.bound c.requires.space.below c.requires.space.short (omega arith)
    (rw (s.0, s.1) at c.lower.ensures) x c.if-whole-gt-MOST_NODES.true

pub show_within-raise-requires : goal.show_within-raise-requires
show_within-raise-requires t c =
    let l = length-set c.show.new.work c.args.at.top (get_or c.show.new.work c.args.at.source.start 0) in
    let p = (rw c.below_on.ensures at c.in_ok-inner.ensures).place in
    (omega arith, omega arith)

pub show_within-returns-then-not-is_shallow : goal.show_within-returns-then-not-is_shallow
show_within-returns-then-not-is_shallow t c =
    let one = of_words _ _ _ _ _ (is_one_element (lookup_of c.args.inputs.now.nodes)) c.if-not-one_element.ensures c.words.ensures in
    let s = c.skip-contents.ensures in
    let x = got (rw (c.below_on.ensures, s.1) at c.in_ok-inner.ensures) c.show.auto.work in
    let p = (rw c.below_on.ensures at c.in_ok-inner.ensures).place in
    within_deep _ _ _ _ _ _ _ _ c.requires.op one c.requires.space.bound c.requires.space.below c.requires.space.short (omega arith)
    (rw (s.0, s.1) at c.lower.ensures) x c.if-whole-gt-MOST_NODES.false refl (rw p.0 at c.raise.ensures)
    (sym (of_words (made_by c.args.inputs.now.entries) _ _ _ _ shallow (c.if-not-is_shallow.ensures (made_by c.args.inputs.now.entries)) c.words-2.ensures))

pub show_within-returns : goal.show_within-returns
show_within-returns t c =
    let one = of_words _ _ _ _ _ (is_one_element (lookup_of c.args.inputs.now.nodes)) c.if-not-one_element.ensures c.words.ensures in
    let s = c.skip-contents.ensures in
    let x = got (rw (c.below_on.ensures, s.1) at c.in_ok-inner.ensures) c.show.auto.work in
    let p = (rw c.below_on.ensures at c.in_ok-inner.ensures).place in
    within_done _ _ _ _ _ _ _ _ c.requires.op one c.requires.space.bound c.requires.space.below c.requires.space.short (omega arith)
    (rw (s.0, s.1) at c.lower.ensures) x c.if-whole-gt-MOST_NODES.false refl (rw p.0 at c.raise.ensures)
    (sym (of_words (made_by c.args.inputs.now.entries) _ _ _ _ shallow (c.if-not-is_shallow.ensures (made_by c.args.inputs.now.entries)) c.words-2.ensures))

-- ## test

pub test-entry-requires : goal.test-entry-requires
test-entry-requires t c = (here_test c.requires.ready_test_at).inside

pub test-test_equals-requires : goal.test-test_equals-requires
test-test_equals-requires t c =
    let o = read c.entry.ensures c.operation-operation.ensures c.in-17.is in
    let h = here (ready_equals c.requires.ready_test_at o) in
    (omega arith, record { ready = c.requires.ready_test_at; space = c.requires.space_at; op = o; two = omega arith; next = omega arith })

pub test-returns-in-18 : goal.test-returns-in-18
test-returns-in-18 t c = tests_tag (read c.entry.ensures c.operation-operation.ensures c.in-18.is) c.test_tagged.ensures

pub test-returns-in_default-operation : goal.test-returns-in_default-operation
test-returns-in_default-operation t c =
    let l : c.operation-operation.result ≡ 0x13 = omega arith in
    tests_element (read c.entry.ensures c.operation-operation.ensures l) c.test_element.ensures

-- an entry that is ready has an operation
pub test-returns-in_default : goal.test-returns-in_default
test-returns-in_default t c =
    let r = c.requires.ready_test_at in
    let o = test_here c.args.inputs.now.entries r.tree c.args.at.entry r.behind r.placed.stands in
    let e = read c.entry.ensures c.operation-operation.ensures refl in
    absurd (omega arith)

pub test-returns-in_default-2 : goal.test-returns-in_default-2
test-returns-in_default-2 t c =
    let r = c.requires.ready_test_at in
    let o = test_here c.args.inputs.now.entries r.tree c.args.at.entry r.behind r.placed.stands in
    let e = read c.entry.ensures c.operation-operation.ensures refl in
    absurd (omega arith)

-- ## test_equals

pub test_equals-returns-then-not-one_text : goal.test_equals-returns-then-not-one_text
test_equals-returns-then-not-one_text t c =
    let one = of_words _ _ _ _ _ (is_one_text (lookup_of c.args.inputs.now.nodes)) c.if-not-one_text.ensures c.words.ensures in
    equals_none _ _ _ _ _ _ _ _ c.requires.op one

pub test_equals-show-requires : goal.test_equals-show-requires
test_equals-show-requires t c =
    let y = ready_equals c.requires.ready c.requires.op in
    rw c.below_on.ensures (omega arith, (y, space_below c.requires.space (omega arith) refl (omega arith) (omega arith) (omega arith) (omega arith)))

pub test_equals-returns-in_err-other : goal.test_equals-returns-in_err-other
test_equals-returns-in_err-other t c =
    let one = of_words _ _ _ _ _ (is_one_text (lookup_of c.args.inputs.now.nodes)) c.if-not-one_text.ensures c.words.ensures in
    rw (passed c.from_residual.ensures.1) (equals_stop _ _ _ _ _ _ _ _ c.requires.op one c.requires.space.below (omega arith)
    (halted (rw c.below_on.ensures at c.in_err-other.ensures)))

pub test_equals-returns-then-not-one_text-2 : goal.test_equals-returns-then-not-one_text-2
test_equals-returns-then-not-one_text-2 t c =
    let one = of_words _ _ _ _ _ (is_one_text (lookup_of c.args.inputs.now.nodes)) c.if-not-one_text.ensures c.words.ensures in
    let x = got (rw c.below_on.ensures at c.in_ok-other.ensures) c.show.auto.work in
    let p = (rw c.below_on.ensures at c.in_ok-other.ensures).place in
    equals_other _ _ _ _ _ _ _ _ c.requires.op one c.requires.space.below (omega arith) x
    (rw p.0 at (of_words (made_by c.args.inputs.now.entries) _ _ c.in_ok-other.other.start _ (is_one_text (lookup_of c.args.inputs.now.nodes)) c.if-not-one_text-2.ensures c.words-2.ensures))

pub test_equals-returns : goal.test_equals-returns
test_equals-returns t c =
    let one = of_words _ _ _ _ _ (is_one_text (lookup_of c.args.inputs.now.nodes)) c.if-not-one_text.ensures c.words.ensures in
    let x = got (rw c.below_on.ensures at c.in_ok-other.ensures) c.show.auto.work in
    let p = (rw c.below_on.ensures at c.in_ok-other.ensures).place in
    equals_done _ _ _ _ _ _ _ _ c.requires.op one c.requires.space.below (omega arith) x
    (rw p.0 at (of_words (made_by c.args.inputs.now.entries) _ _ c.in_ok-other.other.start _ (is_one_text (lookup_of c.args.inputs.now.nodes)) c.if-not-one_text-2.ensures c.words-2.ensures)) _
    (rw p.0 at (c.agrees_with.ensures ∙ ap₂ agree c.text-source_text.ensures c.text-other_text.ensures))
