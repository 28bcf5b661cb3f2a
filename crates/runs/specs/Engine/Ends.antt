-- Reading without the tree: where a subtree ends, or the first fault, by the operation's class and its number of sub-entries in the one table.
use Rattle.std.specs.Prelude.{Bool, true, false, cond, List, ℕ, zero, suc, eqb, get_or, Option, None, Some}
use Rattle.lines.specs.declared.table.Class.{Class}
use Rattle.lines.specs.declared.table.Class.TheVariants.{Transformation as Transforms, Test as Tests}
use Rattle.lines.specs.Entries.{Entry, class_of, subs_of}
use Rattle.runs.specs.Results.{Result, gives, stops, ◌>>=◌, ◌>>◌, ensure}
use Rattle.runs.specs.Reading.{Room, below, no_entry}

-- whether this class stands where a test is asked for, or where none is
unfoldable pub stands : Bool → Option Class → Bool
stands true (Some Tests) = true
stands true (Some Transforms) = false
stands true None = false
stands false (Some Tests) = false
stands false (Some Transforms) = true
stands false None = false

-- so many transformations, one behind the other
unfoldable pub end_of : (ℕ → Result ℕ ℕ) → ℕ → ℕ → Result ℕ ℕ
end_of ends zero p = gives p
end_of ends (suc n) p = ends p >>= λ q. end_of ends n q

-- the sub-entries, by their number: where there are three, the first is a test
unfoldable pub end_below : (ℕ → Result ℕ ℕ) → (ℕ → Result ℕ ℕ) → ℕ → ℕ → Result ℕ ℕ
end_below ends testEnds n p = cond (eqb n 3) (testEnds p >>= λ q. end_of ends 2 q) (end_of ends n p)

module _ (entries : List Entry) where
  -- the place behind the subtree at p, with `levels` left; `asked` for a test
  unfoldable pub end_at : ℕ → Room → Bool → ℕ → Result ℕ ℕ
  end_at zero room asked p = stops p
  end_at (suc levels) room asked p = do
    inner ← below (get_or entries p no_entry) p room
    ensure (stands asked (class_of (get_or entries p no_entry).operation)) p
    end_below (end_at levels inner false) (end_at levels inner true) (subs_of (get_or entries p no_entry).operation) (suc p)

-- where the branch of a 0B stands, by what its test at p says
abbrev pub branch_at : List ℕ → ℕ → Bool → ℕ
branch_at ends p b = cond b (get_or ends p 0) (get_or ends (get_or ends p 0) 0)
