-- What the code of a run finds out of its source, and what it leaves, where no other run is below it.
use Rattle.std.specs.Prelude.{ℕ, ◌+◌, ◌≤◌, ◌≡◌, Bool, false, ◌&&◌, not, List, [], ◌∷◌, length, take}
use Rattle.lines.specs.Entries.{Entry}
use Rattle.lines.specs.Nodes.{Line}
use Rattle.values.specs.Values.{Value, Lookup, element_of, no_top}
use Rattle.values.specs.Engine.Words.{Made, value_at}
use Rattle.runs.specs.declared.at.At.{At}
use Rattle.runs.specs.declared.stop.Stop.{Stop}
use Rattle.runs.specs.Results.{Result}
use Rattle.runs.specs.Programs.{Test, contents}
use Rattle.runs.specs.Showing.{show, test}
use Rattle.runs.specs.Engine.Runs.{Run, Tested, made_by, lookup_of, result_of, said_of, value_only, yes_only, AtTop}

-- "exactly one top node"
unfoldable pub is_one_top : Value → Bool
is_one_top [] = false
is_one_top (x ∷ v) = no_top v

-- "exactly one top node, an element"
unfoldable pub is_one_element : Lookup → Value → Bool
is_one_element look [] = false
is_one_element look (x ∷ v) = no_top v && element_of look x.origin

-- "exactly one text"
unfoldable pub is_one_text : Lookup → Value → Bool
is_one_text look [] = false
is_one_text look (x ∷ []) = not (element_of look x.origin)
is_one_text look (x ∷ y ∷ v) = false

-- below top all is as it was, and the answer is this one
pub record Leaves (made : Made) (w : List ℕ) (top : ℕ) (w' : List ℕ) (r : Run) (answer : Result Stop Value) : Type 0 where
  pub frame : take top w' ≡ take top w
  pub place : AtTop top r
  pub meets : result_of made w' r ≡ answer

-- ## Said of where a run stands

-- the source lies below top, and a value has room there
abbrev pub LeafSpaceAt : List ℕ → At → Type 0
LeafSpaceAt w at = (at.source.start + at.source.len ≤ at.top) × (at.source.len ≤ 128) × (at.top + 128 ≤ length w)

abbrev pub LeavesAt : Made → List ℕ → At → List ℕ → Run → Result Stop Value → Type 0
LeavesAt made w at w' r answer = Leaves made w at.top w' r answer

-- what 06 leaves
abbrev pub ContentsAt : List Entry → List Line → List ℕ → At → List ℕ → Run → Type 0
ContentsAt entries lines w at w' r =
    LeavesAt (made_by entries) w at w' r (value_only (show (lookup_of lines) (contents at.entry) [] (value_at (made_by entries) w at.source.start at.source.len)))

-- the answer of a test in which nothing is run
abbrev pub SaysAt : List Entry → List Line → List ℕ → At → Tested → Test → Type 0
SaysAt entries lines w at r P = said_of r ≡ yes_only (test (lookup_of lines) P [] (value_at (made_by entries) w at.source.start at.source.len))
