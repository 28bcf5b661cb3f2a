-- What stands at an entry, told by its operation: the tree's form and what stands below; and what is ready below an entry that is ready.
use mathlib.Core.Path.{◌≡◌, refl, ap}
use mathlib.Core.Bool.{Bool, true, false, cond}
use mathlib.Core.List.{List}
use Prim.Native.Nat.{ℕ, suc, ◌+◌, ◌-◌, ◌≤◌, ◌<◌, max}
use native.Mathlib.Numerals.{add-one}
use native.Mathlib.Omega.{arith}
use native.Mathlib.Decide.{dec_lt}
use lib.Dec.{leb}
use borrow.Author.Tests.{leb-true}
use lib.ListN.{length, get_or, get_or-eq_default}
use Rattle.lines.specs.Entries.{Entry, slot_of, text_of}
use Rattle.values.specs.Values.{among}
use Rattle.runs.specs.declared.slots.SlotWords.{SlotWords}
use Rattle.runs.specs.Programs.{equals, Transformation, source, nothing, text, tag, slot, contents, within}
use Rattle.runs.specs.Programs.{and_then, beside, each, choose, bind, Test, compares, tagged, is_element}
use Rattle.runs.specs.Reading.{Makes, leaf, one, two, choice, test_leaf, test_one, unknown, operations, makes, Room, inside_each, inside_bind, no_entry}
use Rattle.runs.specs.Engine.Trees.{height, test_height, Sound, SoundTest, Stands, StandsTest}
use Rattle.runs.specs.Engine.Ends.{branch_at}
use Rattle.runs.specs.Engine.Runs.{bytes_to, Bound, Ended, Inside, Ready, ReadyTest}
use Rattle.runs.specs.Engine.SlotWords.{one_more}
use Rattle.runs.proofs.SlotLaws.{more_inside}

-- ## The tree's form

module _ (entries : List Entry) where
  -- what an entry at p makes is the tree, and the trees that it makes it of stand below
  abbrev Formed : Makes → Transformation → ℕ → ℕ → Type 0
  Formed (leaf t) X p q = X ≡ t
  Formed (one f) X p q = (Y : Transformation) × (X ≡ f Y) × Stands entries Y (p + 1) q
  Formed (two f) X p q = (Y : Transformation) × (Z : Transformation) × (m : ℕ) × (X ≡ f Y Z) × Stands entries Y (p + 1) m × Stands entries Z m q
  Formed (choice f) X p q =
      (P : Test) × (Y : Transformation) × (Z : Transformation) × (l : ℕ) × (m : ℕ) × (X ≡ f P Y Z) × StandsTest entries P (p + 1) l × Stands entries Y l m × Stands entries Z m q
  Formed (test_leaf t) X p q = ⊥
  Formed (test_one f) X p q = ⊥
  Formed unknown X p q = ⊥

  abbrev FormedTest : Makes → Test → ℕ → ℕ → Type 0
  FormedTest (leaf t) P p q = ⊥
  FormedTest (one f) P p q = ⊥
  FormedTest (two f) P p q = ⊥
  FormedTest (choice f) P p q = ⊥
  FormedTest (test_leaf t) P p q = P ≡ t
  FormedTest (test_one f) P p q = (Y : Transformation) × (P ≡ f Y) × Stands entries Y (p + 1) q
  FormedTest unknown P p q = ⊥

  formed : (X : Transformation) (p q : ℕ) → Stands entries X p q → Formed (makes (get_or entries p no_entry) p) X p q
  unfolding Stands makes operations
  formed (source e) p q s = rw (s.0.1, s.0.0) refl
  formed (nothing e) p q s = rw (s.0.1, s.0.0) refl
  formed (text e b) p q s = rw (s.0.1, s.0.0, s.1) refl
  formed (tag e b) p q s = rw (s.0.1, s.0.0, s.1) refl
  formed (slot e k) p q s = rw (s.0.1, s.0.0, s.1) refl
  formed (contents e) p q s = rw (s.0.1, s.0.0) refl
  formed (within e X) p q s = rw (s.0.1, s.0.0, add-one) (X, refl, s.1)
  formed (and_then e X Y) p q s = rw (s.0.1, s.0.0, add-one) (X, Y, s.1.0, refl, s.1.1, s.1.2)
  formed (beside e X Y) p q s = rw (s.0.1, s.0.0, add-one) (X, Y, s.1.0, refl, s.1.1, s.1.2)
  formed (each e X) p q s = rw (s.0.1, s.0.0, add-one) (X, refl, s.1)
  formed (choose e P X Y) p q s = rw (s.0.1, s.0.0, add-one) (P, X, Y, s.1.0, s.1.1, refl, s.1.2, s.1.3, s.1.4)
  formed (bind e k X) p q s = rw (s.0.1, s.0.0, s.1, add-one) (X, refl, s.2)

  formed_test : (P : Test) (p q : ℕ) → StandsTest entries P p q → FormedTest (makes (get_or entries p no_entry) p) P p q
  unfolding Stands makes operations
  formed_test (compares e equals X) p q s = rw (s.0.1, s.0.0, add-one) (X, refl, s.1)
  formed_test (tagged e t) p q s = rw (s.0.1, s.0.0, s.1) refl
  formed_test (is_element e) p q s = rw (s.0.1, s.0.0) refl

-- by the operation
module _ (entries : List Entry) (X : Transformation) (p q : ℕ) (s : Stands entries X p q) where
  formed_by : (b : ℕ) → (get_or entries p no_entry).operation ≡ b → Formed entries (get_or operations b (λ p e. unknown) p (get_or entries p no_entry)) X p q
  unfolding makes
  formed_by b h = rw h at (formed entries X p q s)

  pub at_source : (get_or entries p no_entry).operation ≡ 0x01 → X ≡ source p
  unfolding operations
  at_source h = formed_by 0x01 h

  pub at_nothing : (get_or entries p no_entry).operation ≡ 0x02 → X ≡ nothing p
  unfolding operations
  at_nothing h = formed_by 0x02 h

  pub at_text : (get_or entries p no_entry).operation ≡ 0x03 → X ≡ text p (text_of (get_or entries p no_entry))
  unfolding operations
  at_text h = formed_by 0x03 h

  pub at_tag : (get_or entries p no_entry).operation ≡ 0x04 → X ≡ tag p (text_of (get_or entries p no_entry))
  unfolding operations
  at_tag h = formed_by 0x04 h

  pub at_slot : (get_or entries p no_entry).operation ≡ 0x05 → X ≡ slot p (slot_of (get_or entries p no_entry))
  unfolding operations
  at_slot h = formed_by 0x05 h

  pub at_contents : (get_or entries p no_entry).operation ≡ 0x06 → X ≡ contents p
  unfolding operations
  at_contents h = formed_by 0x06 h

  pub at_within : (get_or entries p no_entry).operation ≡ 0x07 → (Y : Transformation) × (X ≡ within p Y) × Stands entries Y (p + 1) q
  unfolding operations
  at_within h = formed_by 0x07 h

  pub at_then : (get_or entries p no_entry).operation ≡ 0x08
      → (Y : Transformation) × (Z : Transformation) × (m : ℕ) × (X ≡ and_then p Y Z) × Stands entries Y (p + 1) m × Stands entries Z m q
  unfolding operations
  at_then h = formed_by 0x08 h

  pub at_beside : (get_or entries p no_entry).operation ≡ 0x09
      → (Y : Transformation) × (Z : Transformation) × (m : ℕ) × (X ≡ beside p Y Z) × Stands entries Y (p + 1) m × Stands entries Z m q
  unfolding operations
  at_beside h = formed_by 0x09 h

  pub at_each : (get_or entries p no_entry).operation ≡ 0x0A → (Y : Transformation) × (X ≡ each p Y) × Stands entries Y (p + 1) q
  unfolding operations
  at_each h = formed_by 0x0A h

  pub at_choose : (get_or entries p no_entry).operation ≡ 0x0B
      → (P : Test) × (Y : Transformation) × (Z : Transformation) × (l : ℕ) × (m : ℕ) × (X ≡ choose p P Y Z)
      × StandsTest entries P (p + 1) l × Stands entries Y l m × Stands entries Z m q
  unfolding operations
  at_choose h = formed_by 0x0B h

  pub at_bind : (get_or entries p no_entry).operation ≡ 0x0C → (Y : Transformation) × (X ≡ bind p (slot_of (get_or entries p no_entry)) Y) × Stands entries Y (p + 1) q
  unfolding operations
  at_bind h = formed_by 0x0C h

module _ (entries : List Entry) (P : Test) (p q : ℕ) (s : StandsTest entries P p q) where
  formed_test_by : (b : ℕ) → (get_or entries p no_entry).operation ≡ b → FormedTest entries (get_or operations b (λ p e. unknown) p (get_or entries p no_entry)) P p q
  unfolding makes
  formed_test_by b h = rw h at (formed_test entries P p q s)

  pub at_equals : (get_or entries p no_entry).operation ≡ 0x11 → (Y : Transformation) × (P ≡ compares p equals Y) × Stands entries Y (p + 1) q
  unfolding operations
  at_equals h = formed_test_by 0x11 h

  pub at_tagged : (get_or entries p no_entry).operation ≡ 0x12 → P ≡ tagged p (text_of (get_or entries p no_entry))
  unfolding operations
  at_tagged h = formed_test_by 0x12 h

  pub at_element : (get_or entries p no_entry).operation ≡ 0x13 → P ≡ is_element p
  unfolding operations
  at_element h = formed_test_by 0x13 h

-- ## Where a tree stands at all

pub operation_here : (entries : List Entry) (X : Transformation) (p q : ℕ) → Stands entries X p q
    → (1 ≤ (get_or entries p no_entry).operation) × ((get_or entries p no_entry).operation ≤ 0x0C)
unfolding Stands
operation_here entries (source e) p q s = let o = s.0.1 in omega arith
operation_here entries (nothing e) p q s = let o = s.0.1 in omega arith
operation_here entries (text e b) p q s = let o = s.0.1 in omega arith
operation_here entries (tag e b) p q s = let o = s.0.1 in omega arith
operation_here entries (slot e k) p q s = let o = s.0.1 in omega arith
operation_here entries (contents e) p q s = let o = s.0.1 in omega arith
operation_here entries (within e X) p q s = let o = s.0.1 in omega arith
operation_here entries (and_then e X Y) p q s = let o = s.0.1 in omega arith
operation_here entries (beside e X Y) p q s = let o = s.0.1 in omega arith
operation_here entries (each e X) p q s = let o = s.0.1 in omega arith
operation_here entries (choose e P X Y) p q s = let o = s.0.1 in omega arith
operation_here entries (bind e k X) p q s = let o = s.0.1 in omega arith

pub test_here : (entries : List Entry) (P : Test) (p q : ℕ) → StandsTest entries P p q
    → (0x11 ≤ (get_or entries p no_entry).operation) × ((get_or entries p no_entry).operation ≤ 0x13)
unfolding Stands
test_here entries (compares e equals X) p q s = let o = s.0.1 in omega arith
test_here entries (tagged e t) p q s = let o = s.0.1 in omega arith
test_here entries (is_element e) p q s = let o = s.0.1 in omega arith

-- behind the last entry there is no operation
pub in_entries : (entries : List Entry) (p : ℕ) → 1 ≤ (get_or entries p no_entry).operation → p < length entries
in_entries entries p h = go (dec_lt p (length entries))
  where
    go : Dec (p < length entries) → p < length entries
    go (yes l) = l
    go (no l) = let m : length entries ≤ p = omega arith in absurd (none (ap (λ (e : Entry). e.operation) (get_or-eq_default entries no_entry m)))
      where
        none : (get_or entries p no_entry).operation ≡ 0 → ⊥
        none e = omega arith

some_level : (X : Transformation) → 1 ≤ height X
unfolding height
some_level (source e) = omega arith
some_level (nothing e) = omega arith
some_level (text e b) = omega arith
some_level (tag e b) = omega arith
some_level (slot e k) = omega arith
some_level (contents e) = omega arith
some_level (within e X) = omega arith
some_level (and_then e X Y) = omega arith
some_level (beside e X Y) = omega arith
some_level (each e X) = omega arith
some_level (choose e P X Y) = omega arith
some_level (bind e k X) = omega arith

some_test_level : (P : Test) → 1 ≤ test_height P
unfolding height
some_test_level (compares e c X) = omega arith
some_test_level (tagged e t) = omega arith
some_test_level (is_element e) = omega arith

-- ## What is ready below an entry that is ready

-- what the code needs to know of such an entry
pub record Here (entries : List Entry) (ends : List ℕ) (entry levels : ℕ) : Type 0 where
  pub inside : entry < length entries
  pub few : length entries ≤ 96
  pub long : length ends ≡ length entries
  pub some : 1 ≤ levels

pub here : {entries : List Entry} {ends : List ℕ} {slots : SlotWords} {entry levels : ℕ} → Ready entries ends slots entry levels → Here entries ends entry levels
here {entries} {ends} {slots} {entry} {levels} r =
    let o = operation_here entries r.tree entry r.behind r.placed.stands in
    let h = some_level r.tree in
    let l = r.placed.high in
    record { inside = in_entries entries entry o.0; few = r.few; long = r.ended.long; some = omega arith }

pub here_test : {entries : List Entry} {ends : List ℕ} {slots : SlotWords} {entry levels : ℕ} → ReadyTest entries ends slots entry levels → Here entries ends entry levels
here_test {entries} {ends} {slots} {entry} {levels} r =
    let o = test_here entries r.tree entry r.behind r.placed.stands in
    let h = some_test_level r.tree in
    let l = r.placed.high in
    record { inside = in_entries entries entry (omega arith); few = r.few; long = r.ended.long; some = omega arith }

module _ {entries : List Entry} {ends : List ℕ} {slots : SlotWords} {entry levels : ℕ} (r : Ready entries ends slots entry levels) where
  -- a tree that stands further down, in the same room or in one with the same slots
  lower : (Y : Transformation) (p q : ℕ) (room : Room) → Inside slots room → Stands entries Y p q → suc (height Y) ≤ levels → Sound Y room → Ready entries ends slots p (levels - 1)
  lower Y p q room i s h d = record { few = r.few; ended = r.ended; tree = Y; behind = q; room = room; placed = record { stands = s; high = omega arith; sound = d }; inside = i }

  stands : Stands entries r.tree entry r.behind
  stands = r.placed.stands

  pub ready_within : (get_or entries entry no_entry).operation ≡ 0x07 → Ready entries ends slots (entry + 1) (levels - 1)
  unfolding height Sound
  ready_within o =
      let f = at_within entries r.tree entry r.behind stands o in
      lower f.0 (entry + 1) r.behind r.room r.inside f.2 (rw f.1 at r.placed.high) (rw f.1 at r.placed.sound)

  -- 08 and 09: the second stands where the first ends
  pair : (Y Z : Transformation) (m : ℕ) → Stands entries Y (entry + 1) m → Stands entries Z m r.behind
      → suc (max (height Y) (height Z)) ≤ levels → Sound Y r.room × Sound Z r.room
      → Ready entries ends slots (entry + 1) (levels - 1) × Ready entries ends slots (get_or ends (entry + 1) 0) (levels - 1)
  pair Y Z m s t h d = (
    lower Y (entry + 1) m r.room r.inside s (omega arith) d.0,
    rw (r.ended.tree Y (entry + 1) m s) (lower Z m r.behind r.room r.inside t (omega arith) d.1),
  )

  pub ready_then : (get_or entries entry no_entry).operation ≡ 0x08
      → Ready entries ends slots (entry + 1) (levels - 1) × Ready entries ends slots (get_or ends (entry + 1) 0) (levels - 1)
  unfolding height Sound
  ready_then o =
      let f = at_then entries r.tree entry r.behind stands o in
      pair f.0 f.1 f.2 f.4 f.5 (rw f.3 at r.placed.high) (rw f.3 at r.placed.sound)

  pub ready_beside : (get_or entries entry no_entry).operation ≡ 0x09
      → Ready entries ends slots (entry + 1) (levels - 1) × Ready entries ends slots (get_or ends (entry + 1) 0) (levels - 1)
  unfolding height Sound
  ready_beside o =
      let f = at_beside entries r.tree entry r.behind stands o in
      pair f.0 f.1 f.2 f.4 f.5 (rw f.3 at r.placed.high) (rw f.3 at r.placed.sound)

  pub ready_each : (get_or entries entry no_entry).operation ≡ 0x0A → Ready entries ends slots (entry + 1) (levels - 1)
  unfolding height Sound
  ready_each o =
      let f = at_each entries r.tree entry r.behind stands o in
      let d : (leb 1 r.room.eaches ≡ true) × Sound f.0 (inside_each r.room) = rw f.1 at r.placed.sound in
      lower f.0 (entry + 1) r.behind (inside_each r.room)
      (record { slots_bound = r.inside.slots_bound; binds_left = r.inside.binds_left }) f.2 (rw f.1 at r.placed.high) d.1

  pub ready_choose : (get_or entries entry no_entry).operation ≡ 0x0B
      → ReadyTest entries ends slots (entry + 1) (levels - 1)
      × Ready entries ends slots (get_or ends (entry + 1) 0) (levels - 1)
      × Ready entries ends slots (get_or ends (get_or ends (entry + 1) 0) 0) (levels - 1)
  unfolding height Sound
  ready_choose o =
      let f = at_choose entries r.tree entry r.behind stands o in
      let h : suc (max (test_height f.0) (max (height f.1) (height f.2))) ≤ levels = rw f.5 at r.placed.high in
      let d : SoundTest f.0 r.room × Sound f.1 r.room × Sound f.2 r.room = rw f.5 at r.placed.sound in
      let a = r.ended.test f.0 (entry + 1) f.3 f.6 in
      let b = r.ended.tree f.1 f.3 f.4 f.7 in (
        record {
          few = r.few;
          ended = r.ended;
          tree = f.0;
          behind = f.3;
          room = r.room;
          placed = record { stands = f.6; high = omega arith; sound = d.0 };
          inside = r.inside;
        },
        rw a (lower f.1 f.3 f.4 r.room r.inside f.7 (omega arith) d.1),
        rw (a, b) (lower f.2 f.4 r.behind r.room r.inside f.8 (omega arith) d.2),
      )

  pub ready_branch : (get_or entries entry no_entry).operation ≡ 0x0B → (b : Bool) → Ready entries ends slots (branch_at ends (entry + 1) b) (levels - 1)
  ready_branch o true = (ready_choose o).1
  ready_branch o false = (ready_choose o).2

  -- an 05 stands inside a 0C of its slot
  pub slot_bound : (get_or entries entry no_entry).operation ≡ 0x05 → among (slot_of (get_or entries entry no_entry)) (bytes_to slots slots.count) ≡ true
  unfolding Sound
  slot_bound o =
      let e = at_slot entries r.tree entry r.behind stands o in
      rw (← r.inside.slots_bound) (rw e at r.placed.sound)

  -- a 0C: there is room for one slot more, and X is ready with it
  module _ (o : (get_or entries entry no_entry).operation ≡ 0x0C) where
    bind_below : (Y : Transformation) × (Stands entries Y (entry + 1) r.behind) × (suc (height Y) ≤ levels)
        × (leb 1 r.room.binds ≡ true) × Sound Y (inside_bind (slot_of (get_or entries entry no_entry)) r.room)
    unfolding height Sound
    bind_below =
        let f = at_bind entries r.tree entry r.behind stands o in
        let d : (leb 1 r.room.binds ≡ true) × Sound f.0 (inside_bind (slot_of (get_or entries entry no_entry)) r.room) = rw f.1 at r.placed.sound in
        (f.0, f.2, rw f.1 at r.placed.high, d.0, d.1)

    pub slots_left : slots.count < 4
    slots_left = let h = leb-true 1 r.room.binds bind_below.3 in let i = r.inside.binds_left in omega arith

    pub ready_bind : {top : ℕ} → Bound slots top → (byte start len : ℕ) → byte ≡ slot_of (get_or entries entry no_entry)
        → Ready entries ends (one_more slots byte start len) (entry + 1) (levels - 1)
    ready_bind b byte start len e =
        record {
          few = r.few;
          ended = r.ended;
          tree = bind_below.0;
          behind = r.behind;
          room = inside_bind byte r.room;
          placed = record { stands = bind_below.1; high = let h = bind_below.2 in omega arith; sound = rw e bind_below.4 };
          inside = more_inside b slots_left byte start len r.inside bind_below.3;
        }

pub ready_equals : {entries : List Entry} {ends : List ℕ} {slots : SlotWords} {entry levels : ℕ}
    → ReadyTest entries ends slots entry levels → (get_or entries entry no_entry).operation ≡ 0x11
    → Ready entries ends slots (entry + 1) (levels - 1)
unfolding height Sound
ready_equals {entries} {ends} {slots} {entry} {levels} r o =
    let f = at_equals entries r.tree entry r.behind r.placed.stands o in
    let h : suc (height f.0) ≤ levels = rw f.1 at r.placed.high in
    record {
      few = r.few;
      ended = r.ended;
      tree = f.0;
      behind = r.behind;
      room = r.room;
      placed = record { stands = f.2; high = omega arith; sound = rw f.1 at r.placed.sound };
      inside = r.inside;
    }

-- the branch that a test leads to, where the test ends or behind the first branch
pub branch_stands : (entries : List Entry) {ends : List ℕ} → Ended entries ends → (p : ℕ) (P : Test) (Y Z : Transformation) (l m q : ℕ)
    → StandsTest entries P p l → Stands entries Y l m → Stands entries Z m q
    → (b : Bool) → Stands entries (cond b Y Z) (branch_at ends p b) (cond b m q)
branch_stands entries ended p P Y Z l m q t y z true = rw (ended.test P p l t) y
branch_stands entries ended p P Y Z l m q t y z false = rw (ended.test P p l t, ended.tree Y l m y) z
