-- What each member leaves where it returns: one entry is judged test by test, and what its sub-entries leave is stored.
use native.Mathlib.Omega.{arith}
use Rattle.std.proofs.lemmas.Result.{err_from_is_err_and}
use Rattle.lines.specs.Entries.{subs_of}
use Rattle.runs.specs.Reading.{no_entry}
use Rattle.runs.specs.Engine.Rooms.{room_of}
use Rattle.runs.proofs.TreeCheckEnds.{fault_here, fault_below, stored, none_below, one_below, two_below, choice_fault, choice_then, two_fault, two_then}
use Rattle.runs.proofs.TreeCheckEntries.{no_level, past_entries, no_room, not_asked, goes_on, three_at_most}
use Rattle.runs.proofs.tree.+checking.Goals as goal

pub check_at-returns-then-levels-eq0 : goal.check_at-returns-then-levels-eq0
check_at-returns-then-levels-eq0 t c =
    let a = c.args in
    fault_here (no_level a.entries.now (room_of a.room) a.test a.entry a.levels c.if-levels-eq0.true)

pub check_at-returns-then-len-entry : goal.check_at-returns-then-len-entry
check_at-returns-then-len-entry t c =
    let a = c.args in
    fault_here (past_entries a.entries.now (room_of a.room) a.test a.entry a.levels (omega arith))

pub check_at-returns-then-not-may_stand : goal.check_at-returns-then-not-may_stand
check_at-returns-then-not-may_stand t c =
    let a = c.args in
    let e = c.entry-line.ensures no_entry in
    fault_here
    (no_room a.entries.now (room_of a.room) a.test a.entry a.levels c.operation-operation.result c.slot-byte.result (omega arith) (cc) (cc) cc)

pub check_at-returns-then-not-is_asked : goal.check_at-returns-then-not-is_asked
check_at-returns-then-not-is_asked t c =
    let a = c.args in
    let e = c.entry-line.ensures no_entry in
    fault_here
    (not_asked a.entries.now (room_of a.room) a.test a.entry a.levels c.operation-operation.result c.slot-byte.result (omega arith) (cc) (cc) (cc) cc)

pub check_at-returns-in_err-next : goal.check_at-returns-in_err-next
check_at-returns-in_err-next t c =
    let a = c.args in
    let e = c.entry-line.ensures no_entry in
    let goes =
    goes_on a.entries.now (room_of a.room) a.test a.entry a.levels c.operation-operation.result c.slot-byte.result (omega arith) (cc) (cc) (cc) (cc) c.below-inner.ensures in
    let p = err_from_is_err_and c.from_residual.result c.from_residual.ensures.1 in
    rw (p.1, p.2) (fault_below a.levels (room_of a.room) a.test goes c.check_below.ensures c.in_err-next.was)

pub check_at-returns : goal.check_at-returns
check_at-returns t c =
    let a = c.args in
    let e = c.entry-line.ensures no_entry in
    let goes =
    goes_on a.entries.now (room_of a.room) a.test a.entry a.levels c.operation-operation.result c.slot-byte.result (omega arith) (cc) (cc) (cc) (cc) c.below-inner.ensures in
    stored a.levels (room_of a.room) a.test goes c.check_below.ensures (omega arith) c.in_ok-next.was

pub check_below-returns-in-0 : goal.check_below-returns-in-0
check_below-returns-in-0 t c =
    let a = c.args in
    none_below a.levels (room_of a.room) (subs_of a.operation) (omega arith)

pub check_below-returns-in-1 : goal.check_below-returns-in-1
check_below-returns-in-1 t c =
    let a = c.args in
    one_below a.levels (room_of a.room) (subs_of a.operation) (omega arith) c.check_at.ensures

pub check_below-returns-in-2 : goal.check_below-returns-in-2
check_below-returns-in-2 t c =
    let a = c.args in
    two_below a.levels (room_of a.room) (subs_of a.operation) (omega arith) c.check_two.ensures

pub check_below-returns-in_default : goal.check_below-returns-in_default
check_below-returns-in_default t c =
    rw (three_at_most c.args.operation (λ z. omega arith) (λ z. omega arith) (λ z. omega arith)) c.check_choice.ensures

pub check_choice-returns-in_err-first : goal.check_choice-returns-in_err-first
check_choice-returns-in_err-first t c =
    let p = err_from_is_err_and c.from_residual.result c.from_residual.ensures.1 in
    rw (p.1, p.2) (choice_fault c.args.levels (room_of c.args.room) c.check_at.ensures c.in_err-first.was)

pub check_choice-returns : goal.check_choice-returns
check_choice-returns t c =
    choice_then c.args.levels (room_of c.args.room) c.check_at.ensures c.in_ok-first.was c.check_two.ensures

pub check_two-returns-in_err-second : goal.check_two-returns-in_err-second
check_two-returns-in_err-second t c =
    let p = err_from_is_err_and c.from_residual.result c.from_residual.ensures.1 in
    rw (p.1, p.2) (two_fault c.args.levels (room_of c.args.room) c.check_at.ensures c.in_err-second.was)

pub check_two-returns : goal.check_two-returns
check_two-returns t c =
    two_then c.args.levels (room_of c.args.room) c.check_at.ensures c.in_ok-second.was c.check_at-2.ensures
