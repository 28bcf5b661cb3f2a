use Rattle.std.proofs.Common.{◌≡◌, ℕ, ◌<◌, ◌≤◌, get_or}
use Rattle.values.specs.Engine.Words.{merged_word}
use Rattle.values.proofs.standings.merge_words.Given as goal

abbrev pub invariant-loop-i : goal.invariant-loop-i
invariant-loop-i l =
    ((k : ℕ) → k < l.i → get_or l.words k 0 ≡ merged_word (get_or l.initial.words k 0) (get_or l.others k 0))
    × ((k : ℕ) → l.i ≤ k → get_or l.words k 0 ≡ get_or l.initial.words k 0)
