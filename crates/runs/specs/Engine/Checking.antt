-- What the tree check asks and what it promises: the entries from their line starts, rooms, and the places behind the subtrees.
use Rattle.std.specs.Prelude.{ℕ, ◌≤◌, ◌<◌, ◌≡◌, Bool, true, cond, List, leb, eqb, length, get_or, take, Option, None, Some, Result as Checked, Ok, Err}
use Rattle.lines.specs.Entries.{Entry}
use Rattle.values.specs.Values.{among}
use Rattle.runs.specs.Results.{Result, gives, stops}
use Rattle.runs.specs.Programs.{Transformation, Test}
use Rattle.runs.specs.Reading.{Room, inside_each, inside_bind, read_program, fault_of}
use Rattle.runs.specs.Engine.Trees.{Stands, StandsTest}
use Rattle.runs.specs.Engine.Runs.{Ended}

-- "Program 96 lines", each with its place in `ends`
pub record Sized (entries : List Entry) (ends : List ℕ) : Type 0 where
  pub few : length entries ≤ 96
  pub long : 96 ≤ length ends

-- ## Rooms

-- `below` of Reading in two steps: whether an entry of this operation and slot may stand in the room, and what it leaves
unfoldable pub may_stand : ℕ → ℕ → Room → Bool
may_stand operation k room =
    cond (eqb operation 0x0A) (leb 1 room.eaches)
    (cond (eqb operation 0x0C) (leb 1 room.binds)
    (cond (eqb operation 0x05) (among k room.slots) true))

unfoldable pub room_inside : ℕ → ℕ → Room → Room
room_inside operation k room = cond (eqb operation 0x0A) (inside_each room) (cond (eqb operation 0x0C) (inside_bind k room) room)

-- ## Answers

abbrev pub answer_of : Checked ℕ ℕ → Result ℕ ℕ
answer_of (Ok q) = gives q
answer_of (Err p) = stops p

abbrev pub verdict_of : Checked ℕ ℕ → Option ℕ
verdict_of (Ok n) = None
verdict_of (Err p) = Some p

-- ## Subtrees

module _ (entries : List Entry) where
  -- whatever stands at p, its end is there
  pub record EndedAt (ends : List ℕ) (p : ℕ) : Type 0 where
    pub tree : (X : Transformation) (q : ℕ) → Stands entries X p q → get_or ends p 0 ≡ q
    pub test : (P : Test) (q : ℕ) → StandsTest entries P p q → get_or ends p 0 ≡ q

  pub record EndedFrom (ends : List ℕ) (entry q : ℕ) : Type 0 where
    pub forward : entry ≤ q
    pub each : (p : ℕ) → entry ≤ p → p < q → EndedAt ends p

  abbrev pub EndedUpTo : List ℕ → ℕ → Checked ℕ ℕ → Type 0
  EndedUpTo ends entry (Ok q) = EndedFrom ends entry q
  EndedUpTo ends entry (Err p) = Unit {0}

  -- what the check of a part that begins at an entry leaves: what stands before it is as it was
  pub record CheckedFrom (ends ends' : List ℕ) (entry : ℕ) (wanted : Result ℕ ℕ) (r : Checked ℕ ℕ) : Type 0 where
    pub answer : answer_of r ≡ wanted
    pub long : length ends' ≡ length ends
    pub before : (p : ℕ) → p < entry → get_or ends' p 0 ≡ get_or ends p 0
    pub ended : EndedUpTo ends' entry r

  -- ## The whole program

  abbrev pub EndedWhole : List ℕ → Checked ℕ ℕ → Type 0
  EndedWhole ends (Ok n) = (n ≡ length entries) × Ended entries (take n ends)
  EndedWhole ends (Err p) = Unit {0}

  -- a fault is given exactly where reading has one, at its place; else `ends` has every entry's end
  pub record CheckedWhole (ends : List ℕ) (r : Checked ℕ ℕ) : Type 0 where
    pub verdict : verdict_of r ≡ fault_of (read_program entries)
    pub ended : EndedWhole ends r
