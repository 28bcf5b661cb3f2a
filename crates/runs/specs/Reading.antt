-- Reading a program's entries into its tree. A fault is the place of the first faulty entry: reply 3.
-- All faults of one entry have that entry's place, and a missing entry's place is the number of lines: no order of checks can be told.
use Rattle.std.specs.Prelude.{ℕ, zero, suc, pred, cond, List, [], ◌∷◌, length, get_or, leb, eqb, Option, None, Some}
use Rattle.lines.specs.Entries.{Entry, slot_of, text_of}
use Rattle.values.specs.Values.{among}
use Rattle.runs.specs.Results.{Result, gives, stops, ◌>>=◌, ◌>>◌, ensure}
use Rattle.runs.specs.Programs.{equals, Transformation, source, nothing, text, tag, slot, contents, within}
use Rattle.runs.specs.Programs.{and_then, beside, each, choose, bind, Test, compares, tagged, is_element}

-- ## What an entry makes of what its sub-entries make

pub data Makes : Type 0 where
  leaf : Transformation → Makes
  one : (Transformation → Transformation) → Makes
  two : (Transformation → Transformation → Transformation) → Makes
  choice : (Test → Transformation → Transformation → Transformation) → Makes
  test_leaf : Test → Makes
  test_one : (Transformation → Test) → Makes
  unknown : Makes

abbrev pub Row : Type 0
Row = ℕ → Entry → Makes

-- of entry e at place p, by its operation byte from 00 on
unfoldable pub operations : List Row
operations =
    (λ p e. unknown) ∷  -- 00
    (λ p e. leaf (source p)) ∷  -- 01
    (λ p e. leaf (nothing p)) ∷  -- 02
    (λ p e. leaf (text p (text_of e))) ∷  -- 03
    (λ p e. leaf (tag p (text_of e))) ∷  -- 04
    (λ p e. leaf (slot p (slot_of e))) ∷  -- 05
    (λ p e. leaf (contents p)) ∷  -- 06
    (λ p e. one (λ X. within p X)) ∷  -- 07
    (λ p e. two (λ X Y. and_then p X Y)) ∷  -- 08
    (λ p e. two (λ X Y. beside p X Y)) ∷  -- 09
    (λ p e. one (λ X. each p X)) ∷  -- 0A
    (λ p e. choice (λ P X Y. choose p P X Y)) ∷  -- 0B
    (λ p e. one (λ X. bind p (slot_of e) X)) ∷  -- 0C
    (λ p e. unknown) ∷  -- 0D
    (λ p e. unknown) ∷  -- 0E
    (λ p e. unknown) ∷  -- 0F
    (λ p e. unknown) ∷  -- 10
    (λ p e. test_one (λ X. compares p equals X)) ∷  -- 11
    (λ p e. test_leaf (tagged p (text_of e))) ∷  -- 12
    (λ p e. test_leaf (is_element p)) ∷  -- 13
    []

unfoldable pub makes : Entry → ℕ → Makes
makes e p = get_or operations e.operation (λ p e. unknown) p e

-- ## What may still stand below an entry

pub record Room : Type 0 where
  pub eaches : ℕ
  pub binds : ℕ
  pub slots : List ℕ

-- "From the root down to any entry, that entry counted, there are at most three 0A and at most four 0C"
abbrev pub whole_room : Room
whole_room = record { eaches = 3; binds = 4; slots = [] }

-- "The root is at level 1; no entry is at level 13"
abbrev pub most_levels : ℕ
most_levels = 12

-- one 0A, or one 0C of slot k, further down
abbrev pub inside_each : Room → Room
inside_each room = record { eaches = pred room.eaches; binds = room.binds; slots = room.slots }

abbrev pub inside_bind : ℕ → Room → Room
inside_bind k room = record { eaches = room.eaches; binds = pred room.binds; slots = k ∷ room.slots }

-- what entry e at place p leaves to those below it. "An 05 stands inside a 0C of its slot"
unfoldable pub below : Entry → ℕ → Room → Result ℕ Room
below e p room =
    cond (eqb e.operation 0x0A) (ensure (leb 1 room.eaches) p >> gives (inside_each room))
    (cond (eqb e.operation 0x0C) (ensure (leb 1 room.binds) p >> gives (inside_bind (slot_of e) room))
    (cond (eqb e.operation 0x05) (ensure (among (slot_of e) room.slots) p >> gives room)
    (gives room)))

-- ## The tree at a place, and the place behind it

pub record Read (A : Type 0) : Type 0 where
  pub tree : A
  pub next : ℕ

abbrev pub read : {A : Type 0} → A → ℕ → Result ℕ (Read A)
read t p = gives (record { tree = t; next = p })

abbrev pub Reader : Type 0 → Type 0
Reader A = ℕ → Result ℕ (Read A)

-- a transformation is asked for: `sub` and `subTest` read what stands below
unfoldable pub transformation_from : Reader Transformation → Reader Test → Makes → Reader Transformation
transformation_from sub subTest (leaf t) p = read t (suc p)
transformation_from sub subTest (one f) p = do
  x ← sub (suc p)
  read (f x.tree) x.next
transformation_from sub subTest (two f) p = do
  x ← sub (suc p)
  y ← sub x.next
  read (f x.tree y.tree) y.next
transformation_from sub subTest (choice f) p = do
  t ← subTest (suc p)
  x ← sub t.next
  y ← sub x.next
  read (f t.tree x.tree y.tree) y.next
transformation_from sub subTest (test_leaf t) p = stops p
transformation_from sub subTest (test_one f) p = stops p
transformation_from sub subTest unknown p = stops p

-- "Bytes 11 to 13 stand exactly where P is asked for"
unfoldable pub test_from : Reader Transformation → Makes → Reader Test
test_from sub (test_leaf t) p = read t (suc p)
test_from sub (test_one f) p = do
  x ← sub (suc p)
  read (f x.tree) x.next
test_from sub (leaf t) p = stops p
test_from sub (one f) p = stops p
test_from sub (two f) p = stops p
test_from sub (choice f) p = stops p
test_from sub unknown p = stops p

-- behind the last line there is no operation
abbrev pub no_entry : Entry
no_entry = record { operation = 0; operand = [] }

module _ (entries : List Entry) where
  -- with `levels` left
  unfoldable mutual
    unfolding transformation_from test_from

    pub transformation_at : ℕ → Room → Reader Transformation
    transformation_at zero room p = stops p
    transformation_at (suc levels) room p = do
      inner ← below (get_or entries p no_entry) p room
      transformation_from (λ q. transformation_at levels inner q) (λ q. test_at levels inner q) (makes (get_or entries p no_entry) p) p

    pub test_at : ℕ → Room → Reader Test
    test_at zero room p = stops p
    test_at (suc levels) room p = do
      inner ← below (get_or entries p no_entry) p room
      test_from (λ q. transformation_at levels inner q) (makes (get_or entries p no_entry) p) p

  -- the whole program in a room: the first line left over is a fault
  unfoldable pub read_in : Room → Result ℕ Transformation
  unfolding transformation_at
  read_in room = do
    x ← transformation_at most_levels room 0
    ensure (leb (length entries) x.next) x.next
    gives x.tree

unfoldable pub read_program : List Entry → Result ℕ Transformation
unfolding read_in
read_program entries = read_in entries whole_room

-- reply 3: "program breaks the tree or a bound", at the fault
unfoldable pub fault_of : {A : Type 0} → Result ℕ A → Option ℕ
fault_of (gives a) = None
fault_of (stops p) = Some p
