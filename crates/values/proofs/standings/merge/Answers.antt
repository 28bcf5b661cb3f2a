use Rattle.std.proofs.Common.{arith}
use Rattle.values.proofs.Words.{merged_behind, merged_before}
use Rattle.values.proofs.standings.merge.Goals as goal

pub returns-then-from-to : goal.returns-then-from-to
returns-then-from-to c =
    let a = c.args in
    let s = c.split_at_mut-front.ensures in
    merged_behind a.work.now _ _ _ a.from.start a.to a.from.len _ _ (omega arith) (omega arith) (omega arith) (omega arith)
    _ s.front s.back (omega arith) c.words.ensures c.merge_words.ensures

pub returns-else-from-to : goal.returns-else-from-to
returns-else-from-to c =
    let a = c.args in
    let s = c.split_at_mut-front-else-from-to.ensures in
    merged_before a.work.now _ _ _ a.from.start a.to a.from.len _ _ (omega arith) (omega arith) (omega arith) (omega arith)
    s.front s.back (omega arith) c.merge_words-else-from-to.ensures
