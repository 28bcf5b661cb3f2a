-- What a sweep is, by the sentences of request #103 alone: over the old lines, the swept ones, and the new number of each old line.
-- Ours is one (Theorems/Demands), and there is no other (Theorems/Decided).
use Rattle.std.specs.Prelude.{ℕ, ◌+◌, ◌≤◌, ◌<◌, ◌≡◌, cond, List, [], ◌∷◌, ◌⊎◌, eqb, length, get_or}
use Rattle.lines.specs.Nodes.{Line, deleted_mark, line_at}
use Rattle.sweeping.specs.Sweeping.{anew, no_number}

-- line i lies under line m: an earlier one, and all lines behind it down to line i are deeper
pub record LiesUnder (ls : List Line) (m i : ℕ) : Type 0 where
  pub earlier : m < i
  pub deeper : (k : ℕ) → m < k → k ≤ i → (line_at ls m).depth < (line_at ls k).depth

-- "every node that is deleted, or lies under a deleted one, goes", given which nodes are deleted
abbrev pub GoesBy : (deleted : ℕ → Type 0) → List Line → ℕ → Type 0
GoesBy deleted ls i = deleted i ⊎ ((m : ℕ) × LiesUnder ls m i × deleted m)

-- "the rest"
abbrev pub StaysBy : (deleted : ℕ → Type 0) → List Line → ℕ → Type 0
StaysBy deleted ls i = GoesBy deleted ls i → ⊥

-- how many have no new number
abbrev pub without : List ℕ → ℕ
without [] = 0
without (n ∷ ns) = cond (eqb n no_number) 1 0 + without ns

-- given which nodes are deleted: the old lines, the swept ones, and the new numbers
pub record SweepsBy (deleted : ℕ → Type 0) (ls ss : List Line) (ns : List ℕ) : Type 0 where
  -- "A second output gives one line per old node, its new number in two bytes or FFFF."
  pub each : length ns ≡ length ls
  pub gone : (i : ℕ) → i < length ls → GoesBy deleted ls i → get_or ns i 0 ≡ no_number
  -- "the rest keep their order"
  pub order : (i j : ℕ) → i < j → j < length ls → StaysBy deleted ls i → StaysBy deleted ls j → get_or ns i 0 < get_or ns j 0
  -- "and depths, lose their marks, take their new texts and are renumbered from 0"
  pub lines : (i : ℕ) → i < length ls → StaysBy deleted ls i → line_at ss (get_or ns i 0) ≡ anew (get_or ns i 0) (line_at ls i)
  pub inside : (i : ℕ) → i < length ls → StaysBy deleted ls i → get_or ns i 0 < length ss
  -- "Kept nodes and removed nodes together make the old count": with `order` and `inside`, no number from 0 on is left out
  pub count : length ss + without ns ≡ length ls

-- ## A master's own marks say which nodes are deleted

abbrev pub MarkedDeleted : List Line → ℕ → Type 0
MarkedDeleted ls i = (line_at ls i).mark ≡ deleted_mark

abbrev pub IsRemoved : List Line → ℕ → Type 0
IsRemoved ls i = GoesBy (MarkedDeleted ls) ls i

abbrev pub IsKept : List Line → ℕ → Type 0
IsKept ls i = StaysBy (MarkedDeleted ls) ls i

abbrev pub Sweeps : (ls ss : List Line) (ns : List ℕ) → Type 0
Sweeps ls ss ns = SweepsBy (MarkedDeleted ls) ls ss ns
