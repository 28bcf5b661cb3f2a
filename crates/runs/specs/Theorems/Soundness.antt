-- Reading a program, said of trees: what is read stands in the entries, has at most as many levels as were left, and keeps the counts and the slots; and every such tree is read.
use Rattle.std.specs.Prelude.{◌≡◌, true, false, List, [], ◌∷◌, leb, eqb, get_or}
use Rattle.std.proofs.Math.Path.{refl, sym}
use Rattle.std.proofs.Common.{subst}
use Prim.Native.Nat.{ℕ, zero, suc, ◌+◌, ◌≤◌, max}
use native.Mathlib.Omega.{arith}
use Rattle.lines.specs.Entries.{Entry, slot_of}
use Rattle.values.specs.Values.{among}
use Rattle.runs.specs.Results.{gives}
use Rattle.runs.specs.Programs.{equals, Transformation, source, nothing, text, tag, slot, contents, within}
use Rattle.runs.specs.Programs.{and_then, beside, each, choose, bind, Test, compares, tagged, is_element}
use Rattle.runs.specs.Reading.{Makes, leaf, one, two, choice, test_leaf, test_one, unknown, Row, operations, makes, Room, inside_each}
use Rattle.runs.specs.Reading.{inside_bind, below, Read, read, Reader, transformation_from, test_from, no_entry, transformation_at, test_at}
use Rattle.runs.specs.Theorems.Inversion.{no_gives, gives_inj, on_gives, on_bind, on_ensure}
use Rattle.runs.specs.Engine.Trees.{height, test_height, Sound, Stands, Placed, PlacedTest}

-- ## What is read is such a tree

infixr 5 ◌▹◌
abbrev pub ◌▹◌ : {A B : Type 0} → A → B → A × B
a ▹ b = (a, b)

-- by the row of an operation byte
abbrev pub Rows : (ℕ → Row → Type 0) → ℕ → List Row → Type 0
Rows P k [] = Unit {0}
Rows P k (r ∷ rs) = P k r × Rows P (suc k) rs

pub at_row : (P : ℕ → Row → Type 0) (k : ℕ) (rs : List Row) → Rows P k rs → ((b : ℕ) → P b (λ p e. unknown)) → (i : ℕ) → P (k + i) (get_or rs i (λ p e. unknown))
at_row P k [] h d i = d (k + i)
at_row P k (r ∷ rs) h d zero = subst (λ (j : ℕ). P j r) (let e : k ≡ k + 0 = omega arith in e) h.0
at_row P k (r ∷ rs) h d (suc i) = subst (λ (j : ℕ). P j (get_or rs i (λ p e. unknown))) (let e : suc k + i ≡ k + suc i = omega arith in e) (at_row P (suc k) rs h.1 d i)

module _ (entries : List Entry) (p k : ℕ) (room inner : Room) where
  -- what an entry makes of trees that are placed below it is placed
  abbrev Makes-placed : Makes → Type 0
  Makes-placed (leaf t) = Placed entries t p (suc p) (suc k) room
  Makes-placed (one f) = (X : Transformation) (q : ℕ) → Placed entries X (suc p) q k inner → Placed entries (f X) p q (suc k) room
  Makes-placed (two f) =
      (X Y : Transformation) (m q : ℕ) → Placed entries X (suc p) m k inner → Placed entries Y m q k inner → Placed entries (f X Y) p q (suc k) room
  Makes-placed (choice f) =
      (P : Test) (X Y : Transformation) (l m q : ℕ) → PlacedTest entries P (suc p) l k inner → Placed entries X l m k inner → Placed entries Y m q k inner
      → Placed entries (f P X Y) p q (suc k) room
  Makes-placed (test_leaf t) = PlacedTest entries t p (suc p) (suc k) room
  Makes-placed (test_one f) = (X : Transformation) (q : ℕ) → Placed entries X (suc p) q k inner → PlacedTest entries (f X) p q (suc k) room
  Makes-placed unknown = Unit {0}

  abbrev en : Entry
  en = get_or entries p no_entry

  -- operations that leave the room as it is
  same_room : (b : ℕ) → en.operation ≡ b → eqb b 0x0A ≡ false → eqb b 0x0C ≡ false → eqb b 0x05 ≡ false → below en p room ≡ gives inner → inner ≡ room
  unfolding below
  same_room b o x y z h = sym (gives_inj room inner (rw (o, x, y, z) at h))

  slot_room : en.operation ≡ 0x05 → below en p room ≡ gives inner → among (slot_of en) room.slots ≡ true
  unfolding below
  slot_room o h = on_ensure (among (slot_of en) room.slots) p (gives room) inner (rw o at h) (λ t _. t)

  each_room : en.operation ≡ 0x0A → below en p room ≡ gives inner → (leb 1 room.eaches ≡ true) × (inner ≡ inside_each room)
  unfolding below
  each_room o h = on_ensure (leb 1 room.eaches) p (gives (inside_each room)) inner (rw o at h) (λ t g. (t, sym (gives_inj (inside_each room) inner g)))

  bind_room : en.operation ≡ 0x0C → below en p room ≡ gives inner → (leb 1 room.binds ≡ true) × (inner ≡ inside_bind (slot_of en) room)
  unfolding below
  bind_room o h =
      on_ensure (leb 1 room.binds) p (gives (inside_bind (slot_of en) room)) inner (rw o at h) (λ t g. (t, sym (gives_inj (inside_bind (slot_of en) room) inner g)))

  abbrev RowPlaced : ℕ → Row → Type 0
  RowPlaced b row = en.operation ≡ b → below en p room ≡ gives inner → Makes-placed (row p en)

  rows_placed : Rows RowPlaced 0 operations
  unfolding operations Stands Sound height below
  rows_placed =
      (λ o h. tt) ▹  -- 00
      (λ o h. record { stands = ((refl, o), refl); high = omega arith; sound = tt }) ▹  -- 01
      (λ o h. record { stands = ((refl, o), refl); high = omega arith; sound = tt }) ▹  -- 02
      (λ o h. record { stands = ((refl, o), refl, refl); high = omega arith; sound = tt }) ▹  -- 03
      (λ o h. record { stands = ((refl, o), refl, refl); high = omega arith; sound = tt }) ▹  -- 04
      (λ o h. record { stands = ((refl, o), refl, refl); high = omega arith; sound = slot_room o h }) ▹  -- 05
      (λ o h. record { stands = ((refl, o), refl); high = omega arith; sound = tt }) ▹  -- 06
      (λ o h X q x. let a = x.high in record { stands = ((refl, o), x.stands); high = omega arith; sound = rw (← (same_room 0x07 o refl refl refl h)) x.sound }) ▹  -- 07
      (λ o h X Y m q x y. let a = x.high in let b = y.high in
      record { stands = ((refl, o), (m, x.stands, y.stands)); high = omega arith; sound = rw (← (same_room 0x08 o refl refl refl h)) (x.sound, y.sound) }) ▹  -- 08
      (λ o h X Y m q x y. let a = x.high in let b = y.high in
      record { stands = ((refl, o), (m, x.stands, y.stands)); high = omega arith; sound = rw (← (same_room 0x09 o refl refl refl h)) (x.sound, y.sound) }) ▹  -- 09
      (λ o h X q x. let a = x.high in
      record { stands = ((refl, o), x.stands); high = omega arith; sound = ((each_room o h).0, rw (← (each_room o h).1) x.sound) }) ▹  -- 0A
      (λ o h P X Y l m q t x y. let a = t.high in let b = x.high in let c = y.high in
      record {
        stands = ((refl, o), (l, m, t.stands, x.stands, y.stands));
        high = omega arith;
        sound = rw (← (same_room 0x0B o refl refl refl h)) (t.sound, x.sound, y.sound);
      }) ▹  -- 0B
      (λ o h X q x. let a = x.high in
      record { stands = ((refl, o), refl, x.stands); high = omega arith; sound = ((bind_room o h).0, rw (← (bind_room o h).1) x.sound) }) ▹  -- 0C
      (λ o h. tt) ▹  -- 0D
      (λ o h. tt) ▹  -- 0E
      (λ o h. tt) ▹  -- 0F
      (λ o h. tt) ▹  -- 10
      (λ o h X q x. let a = x.high in record { stands = ((refl, o), x.stands); high = omega arith; sound = rw (← (same_room 0x11 o refl refl refl h)) x.sound }) ▹  -- 11
      (λ o h. record { stands = ((refl, o), refl, refl); high = omega arith; sound = tt }) ▹  -- 12
      (λ o h. record { stands = ((refl, o), refl); high = omega arith; sound = tt }) ▹  -- 13
      tt

  makes_placed : below en p room ≡ gives inner → Makes-placed (makes en p)
  unfolding makes
  makes_placed h = at_row RowPlaced 0 operations rows_placed (λ b o h. tt) en.operation (let e : en.operation ≡ 0 + en.operation = omega arith in e) h

module _ (entries : List Entry) where
  abbrev GivesPlaced : ℕ → Room → Reader Transformation → Type 0
  GivesPlaced k room reader = (p : ℕ) (r : Read Transformation) → reader p ≡ gives r → Placed entries r.tree p r.next k room

  abbrev GivesPlacedTest : ℕ → Room → Reader Test → Type 0
  GivesPlacedTest k room reader = (p : ℕ) (r : Read Test) → reader p ≡ gives r → PlacedTest entries r.tree p r.next k room

  module _ (k : ℕ) (room inner : Room) (sub : Reader Transformation) (subTest : Reader Test) (S : GivesPlaced k inner sub) (T : GivesPlacedTest k inner subTest) (p : ℕ) where
    transformation_placed : (m : Makes) → Makes-placed entries p k room inner m → (r : Read Transformation) → transformation_from sub subTest m p ≡ gives r
        → Placed entries r.tree p r.next (suc k) room
    unfolding transformation_from
    transformation_placed (leaf t) M r h = on_gives (λ z. Placed entries z.tree p z.next (suc k) room) (record { tree = t; next = suc p }) r h M
    transformation_placed (one f) M r h =
        on_bind (sub (suc p)) _ r h λ x a h₁.
        on_gives (λ z. Placed entries z.tree p z.next (suc k) room) (record { tree = f x.tree; next = x.next }) r h₁ (M x.tree x.next (S (suc p) x a))
    transformation_placed (two f) M r h =
        on_bind (sub (suc p)) _ r h λ x a h₁.
        on_bind (sub x.next) _ r h₁ λ y b h₂.
        on_gives (λ z. Placed entries z.tree p z.next (suc k) room) (record { tree = f x.tree y.tree; next = y.next }) r h₂
        (M x.tree y.tree x.next y.next (S (suc p) x a) (S x.next y b))
    transformation_placed (choice f) M r h =
        on_bind (subTest (suc p)) _ r h λ t c h₁.
        on_bind (sub t.next) _ r h₁ λ x a h₂.
        on_bind (sub x.next) _ r h₂ λ y b h₃.
        on_gives (λ z. Placed entries z.tree p z.next (suc k) room) (record { tree = f t.tree x.tree y.tree; next = y.next }) r h₃
        (M t.tree x.tree y.tree t.next x.next y.next (T (suc p) t c) (S t.next x a) (S x.next y b))
    transformation_placed (test_leaf t) M r h = absurd (no_gives p r h)
    transformation_placed (test_one f) M r h = absurd (no_gives p r h)
    transformation_placed unknown M r h = absurd (no_gives p r h)

    test_placed : (m : Makes) → Makes-placed entries p k room inner m → (r : Read Test) → test_from sub m p ≡ gives r
        → PlacedTest entries r.tree p r.next (suc k) room
    unfolding test_from
    test_placed (test_leaf t) M r h = on_gives (λ z. PlacedTest entries z.tree p z.next (suc k) room) (record { tree = t; next = suc p }) r h M
    test_placed (test_one f) M r h =
        on_bind (sub (suc p)) _ r h λ x a h₁.
        on_gives (λ z. PlacedTest entries z.tree p z.next (suc k) room) (record { tree = f x.tree; next = x.next }) r h₁ (M x.tree x.next (S (suc p) x a))
    test_placed (leaf t) M r h = absurd (no_gives p r h)
    test_placed (one f) M r h = absurd (no_gives p r h)
    test_placed (two f) M r h = absurd (no_gives p r h)
    test_placed (choice f) M r h = absurd (no_gives p r h)
    test_placed unknown M r h = absurd (no_gives p r h)

  mutual
    unfolding transformation_at

    pub read_placed : (k : ℕ) (room : Room) → GivesPlaced k room (transformation_at entries k room)
    read_placed zero room = λ p r h. absurd (no_gives p r h)
    read_placed (suc k) room = λ p r h.
        on_bind (below (get_or entries p no_entry) p room) _ r h λ inner b h₁.
        transformation_placed k room inner (transformation_at entries k inner) (test_at entries k inner) (read_placed k inner) (read_test_placed k inner) p
        (makes (get_or entries p no_entry) p) (makes_placed entries p k room inner b) r h₁

    pub read_test_placed : (k : ℕ) (room : Room) → GivesPlacedTest k room (test_at entries k room)
    read_test_placed zero room = λ p r h. absurd (no_gives p r h)
    read_test_placed (suc k) room = λ p r h.
        on_bind (below (get_or entries p no_entry) p room) _ r h λ inner b h₁.
        test_placed k room inner (transformation_at entries k inner) (test_at entries k inner) (read_placed k inner) (read_test_placed k inner) p
        (makes (get_or entries p no_entry) p) (makes_placed entries p k room inner b) r h₁

-- ## Every such tree is read

module _ (entries : List Entry) where
  abbrev IsRead : Transformation → ℕ → Type 0
  IsRead X k = (room : Room) (p q : ℕ) → Placed entries X p q k room → transformation_at entries k room p ≡ read X q

  abbrev TestIsRead : Test → ℕ → Type 0
  TestIsRead P k = (room : Room) (p q : ℕ) → PlacedTest entries P p q k room → test_at entries k room p ≡ read P q

  -- a tree needs a level
  with_level : (X : Transformation) → 1 ≤ height X → ((k : ℕ) → IsRead X (suc k)) → (k : ℕ) → IsRead X k
  with_level X h f zero = λ room p q d. let l = d.high in absurd (omega arith)
  with_level X h f (suc k) = f k

  with_test_level : (P : Test) → 1 ≤ test_height P → ((k : ℕ) → TestIsRead P (suc k)) → (k : ℕ) → TestIsRead P k
  with_test_level P h f zero = λ room p q d. let l = d.high in absurd (omega arith)
  with_test_level P h f (suc k) = f k

  -- 08 and 09
  pair_read : (f : Transformation → Transformation → Transformation) (X Y : Transformation) (k : ℕ) (room : Room) (p q : ℕ) → IsRead X k → IsRead Y k
      → (m : ℕ) × Stands entries X (suc p) m × Stands entries Y m q → suc (max (height X) (height Y)) ≤ suc k → Sound X room × Sound Y room
      → transformation_from (transformation_at entries k room) (test_at entries k room) (two f) p ≡ read (f X Y) q
  unfolding transformation_from
  pair_read f X Y k room p q F G s h d =
      rw (F room (suc p) s.0 (record { stands = s.1; high = omega arith; sound = d.0 }), G room s.0 q (record { stands = s.2; high = omega arith; sound = d.1 }))

  mutual
    unfolding transformation_at below makes operations transformation_from test_from Stands Sound height

    pub placed_read : (X : Transformation) (k : ℕ) → IsRead X k
    placed_read (source e) = with_level (source e) (omega arith) λ k room p q d. rw (d.stands.0.1, d.stands.0.0, d.stands.1)
    placed_read (nothing e) = with_level (nothing e) (omega arith) λ k room p q d. rw (d.stands.0.1, d.stands.0.0, d.stands.1)
    placed_read (text e b) = with_level (text e b) (omega arith) λ k room p q d. rw (d.stands.0.1, d.stands.0.0, d.stands.1, d.stands.2)
    placed_read (tag e b) = with_level (tag e b) (omega arith) λ k room p q d. rw (d.stands.0.1, d.stands.0.0, d.stands.1, d.stands.2)
    placed_read (slot e s) = with_level (slot e s) (omega arith) λ k room p q d. rw (d.stands.0.1, d.stands.0.0, ← d.stands.1, d.sound, d.stands.2)
    placed_read (contents e) = with_level (contents e) (omega arith) λ k room p q d. rw (d.stands.0.1, d.stands.0.0, d.stands.1)
    placed_read (within e X) = with_level (within e X) (omega arith) λ k room p q d.
        let l = d.high in
        rw (d.stands.0.1, d.stands.0.0, placed_read X k room (suc p) q (record { stands = d.stands.1; high = omega arith; sound = d.sound }))
    placed_read (and_then e X Y) = with_level (and_then e X Y) (omega arith) λ k room p q d.
        rw (d.stands.0.1, d.stands.0.0) (pair_read (λ A B. and_then p A B) X Y k room p q (placed_read X k) (placed_read Y k) d.stands.1 d.high d.sound)
    placed_read (beside e X Y) = with_level (beside e X Y) (omega arith) λ k room p q d.
        rw (d.stands.0.1, d.stands.0.0) (pair_read (λ A B. beside p A B) X Y k room p q (placed_read X k) (placed_read Y k) d.stands.1 d.high d.sound)
    placed_read (each e X) = with_level (each e X) (omega arith) λ k room p q d.
        let l = d.high in
        rw (d.stands.0.1, d.stands.0.0, d.sound.0, placed_read X k (inside_each room) (suc p) q (record { stands = d.stands.1; high = omega arith; sound = d.sound.1 }))
    placed_read (choose e P X Y) = with_level (choose e P X Y) (omega arith) λ k room p q d.
        let h = d.high in
        let l = d.stands.1.0 in
        let m = d.stands.1.1 in
        rw (
          d.stands.0.1,
          d.stands.0.0,
          test_placed_read P k room (suc p) l (record { stands = d.stands.1.2; high = omega arith; sound = d.sound.0 }),
          placed_read X k room l m (record { stands = d.stands.1.3; high = omega arith; sound = d.sound.1 }),
          placed_read Y k room m q (record { stands = d.stands.1.4; high = omega arith; sound = d.sound.2 }),
        )
    placed_read (bind e s X) = with_level (bind e s X) (omega arith) λ k room p q d.
        let l = d.high in
        rw (
          d.stands.0.1,
          d.stands.0.0,
          ← d.stands.1,
          d.sound.0,
          placed_read X k (inside_bind s room) (suc p) q (record { stands = d.stands.2; high = omega arith; sound = d.sound.1 }),
        )

    pub test_placed_read : (P : Test) (k : ℕ) → TestIsRead P k
    test_placed_read (compares e equals X) = with_test_level (compares e equals X) (omega arith) λ k room p q d.
        let l = d.high in
        rw (d.stands.0.1, d.stands.0.0, placed_read X k room (suc p) q (record { stands = d.stands.1; high = omega arith; sound = d.sound }))
    test_placed_read (tagged e t) = with_test_level (tagged e t) (omega arith) λ k room p q d. rw (d.stands.0.1, d.stands.0.0, d.stands.1, d.stands.2)
    test_placed_read (is_element e) = with_test_level (is_element e) (omega arith) λ k room p q d. rw (d.stands.0.1, d.stands.0.0, d.stands.1)
