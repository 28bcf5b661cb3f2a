-- Sound programs, by document 01's sentences alone: the lines that a tree is written as, and what stands on the ways down it.
-- How a program is read is no matter here; that it is read so, and stops there, is said both ways round in Theorems/Reading and Theorems/Faults.
use Rattle.std.specs.Prelude.{◌≡◌, true, cond, ℕ, suc, ◌≤◌, length, take, eqb}
use mathlib.Core.List.{List, [], ◌∷◌, ◌++◌, map, flatten, Memᴰ}
use Rattle.lines.specs.Entries.{Entry, operand_shape, operand_form}
use Rattle.runs.specs.Programs.{equals, Transformation, source, nothing, text, tag, slot, contents, within}
use Rattle.runs.specs.Programs.{and_then, beside, each, choose, bind, Test, compares, tagged, is_element}

infix 50 ◌∈◌
abbrev pub ◌∈◌ : {A : Type 0} → A → List A → Type 0
x ∈ xs = Memᴰ x xs

-- ## The table: byte, operand and sub-entries of each operation

abbrev pub entry : ℕ → List ℕ → Entry
entry operation operand = record { operation = operation; operand = operand }

-- what `make` makes of a tree, from below: of each entry's place, of the entry, and of what was made of its sub-entries.
-- "Bytes 11 to 13 stand exactly where P is asked for": a test is the first sub-entry of an 0B, and no tree by itself.
module _ {A : Type 0} (make : ℕ → Entry → List A → A) where
  unfoldable mutual
    pub fold : Transformation → A
    fold (source p) = make p (entry 0x01 []) []
    fold (nothing p) = make p (entry 0x02 []) []
    fold (text p b) = make p (entry 0x03 (length b ∷ b)) []
    fold (tag p b) = make p (entry 0x04 (length b ∷ b)) []
    fold (slot p k) = make p (entry 0x05 (k ∷ [])) []
    fold (contents p) = make p (entry 0x06 []) []
    fold (within p X) = make p (entry 0x07 []) (fold X ∷ [])
    fold (and_then p X Y) = make p (entry 0x08 []) (fold X ∷ fold Y ∷ [])
    fold (beside p X Y) = make p (entry 0x09 []) (fold X ∷ fold Y ∷ [])
    fold (each p X) = make p (entry 0x0A []) (fold X ∷ [])
    fold (choose p P X Y) = make p (entry 0x0B []) (fold_test P ∷ fold X ∷ fold Y ∷ [])
    fold (bind p k X) = make p (entry 0x0C (k ∷ [])) (fold X ∷ [])

    pub fold_test : Test → A
    fold_test (compares p equals X) = make p (entry 0x11 []) (fold X ∷ [])
    fold_test (tagged p t) = make p (entry 0x12 (length t ∷ t)) []
    fold_test (is_element p) = make p (entry 0x13 []) []

-- ## The lines, and the ways down

-- an entry, with its place
abbrev pub Placing : Type 0
Placing = ℕ × Entry

-- "in prefix order": an entry, then its sub-entries
abbrev pub lines_from : ℕ → Entry → List (List Placing) → List Placing
lines_from p e subs = (p, e) ∷ flatten subs

abbrev pub prefix : Transformation → List Placing
prefix = fold lines_from

-- entries "count from 0": those of a file, from p on
unfoldable pub counted : ℕ → List Entry → List Placing
counted p [] = []
counted p (e ∷ es) = (p, e) ∷ counted (suc p) es

-- "From the root down to any entry, that entry counted": its level is how long the way is
abbrev pub Way : Type 0
Way = List Entry

-- the way to an entry ends there; the ways to those below it lead through it
abbrev pub ways_from : ℕ → Entry → List (List Way) → List Way
ways_from p e subs = (e ∷ []) ∷ map (λ w. e ∷ w) (flatten subs)

abbrev pub ways : Transformation → List Way
ways = fold ways_from

-- how often an operation stands on a way
unfoldable pub count : ℕ → Way → ℕ
count b [] = 0
count b (e ∷ w) = cond (eqb e.operation b) (suc (count b w)) (count b w)

-- ## Soundness

-- what is asked of the way to an entry
pub record SoundWay (w : Way) : Type 0 where
  -- "The root is at level 1; no entry is at level 13."
  pub level : length w ≤ 12
  -- "there are at most three 0A and at most four 0C"
  pub eaches : count 0x0A w ≤ 3
  pub binds : count 0x0C w ≤ 4
  -- "An 05 stands inside a 0C of its slot"; which one counts is said by showing
  pub bound : (above : Way) (k : ℕ) → w ≡ above ++ (entry 0x05 (k ∷ []) ∷ []) → entry 0x0C (k ∷ []) ∈ above

-- these entries are the tree X, and it keeps the bounds. How many lines a file may have is judged with their form, by reply 2.
pub record SoundProgram (entries : List Entry) (X : Transformation) : Type 0 where
  -- "a tree in prefix order, one entry a line: an operation byte and its operand"
  pub lines : prefix X ≡ counted 0 entries
  pub sound : (w : Way) → w ∈ ways X → SoundWay w

-- ## The first fault

-- the first n entries are those that X begins with, and their ways are sound
pub record SoundTo (n : ℕ) (entries : List Entry) (X : Transformation) : Type 0 where
  pub present : n ≤ length entries
  pub lines : take n (prefix X) ≡ take n (counted 0 entries)
  pub sound : (w : Way) → w ∈ take n (ways X) → SoundWay w

-- the place of reply 3: "entry; number of lines if one is missing; first line left over".
-- The entries before p begin some tree as they should; with the one at p they begin none, or there is none at p and the tree is not at its end.
pub record FirstFault (entries : List Entry) (p : ℕ) : Type 0 where
  pub before : (X : Transformation) × SoundTo p entries X
  pub here : (X : Transformation) → SoundTo (suc p) entries X → ⊥
  pub unsound : (X : Transformation) → SoundProgram entries X → ⊥

-- ## What reply 2 leaves

-- each operand has the shape that the table gives its operation
abbrev pub Formed : List Entry → Type 0
Formed entries = (e : Entry) → e ∈ entries → operand_form (operand_shape e.operation) e.operand ≡ true
