-- Programs as trees beside their entries: how high a tree is, what it keeps in a room, and where it is written.
use Rattle.std.specs.Prelude.{◌≡◌, true, List, ℕ, suc, ◌≤◌, max, leb, get_or}
use Rattle.lines.specs.Entries.{Entry, slot_of, text_of}
use Rattle.values.specs.Values.{among}
use Rattle.runs.specs.Programs.{equals, Transformation, source, nothing, text, tag, slot, contents, within}
use Rattle.runs.specs.Programs.{and_then, beside, each, choose, bind, Test, compares, tagged, is_element}
use Rattle.runs.specs.Reading.{Room, inside_each, inside_bind, no_entry}

-- ## Of trees

unfoldable mutual
  pub height : Transformation → ℕ
  height (source e) = 1
  height (nothing e) = 1
  height (text e b) = 1
  height (tag e b) = 1
  height (slot e k) = 1
  height (contents e) = 1
  height (within e X) = suc (height X)
  height (and_then e X Y) = suc (max (height X) (height Y))
  height (beside e X Y) = suc (max (height X) (height Y))
  height (each e X) = suc (height X)
  height (choose e P X Y) = suc (max (test_height P) (max (height X) (height Y)))
  height (bind e k X) = suc (height X)

  pub test_height : Test → ℕ
  test_height (compares e c X) = suc (height X)
  test_height (tagged e t) = 1
  test_height (is_element e) = 1

-- the counts of 0A and 0C are kept and every slot is bound, in a room
unfoldable mutual
  pub Sound : Transformation → Room → Type 0
  Sound (source e) room = Unit {0}
  Sound (nothing e) room = Unit {0}
  Sound (text e b) room = Unit {0}
  Sound (tag e b) room = Unit {0}
  Sound (slot e k) room = among k room.slots ≡ true
  Sound (contents e) room = Unit {0}
  Sound (within e X) room = Sound X room
  Sound (and_then e X Y) room = Sound X room × Sound Y room
  Sound (beside e X Y) room = Sound X room × Sound Y room
  Sound (each e X) room = (leb 1 room.eaches ≡ true) × Sound X (inside_each room)
  Sound (choose e P X Y) room = SoundTest P room × Sound X room × Sound Y room
  Sound (bind e k X) room = (leb 1 room.binds ≡ true) × Sound X (inside_bind k room)

  pub SoundTest : Test → Room → Type 0
  SoundTest (compares e c X) room = Sound X room
  SoundTest (tagged e t) room = Unit {0}
  SoundTest (is_element e) room = Unit {0}

module _ (entries : List Entry) where
  abbrev pub entry_at : ℕ → Entry
  entry_at p = get_or entries p no_entry

  -- entry e is the one at p, and has operation b
  abbrev pub Head : ℕ → ℕ → ℕ → Type 0
  Head b e p = (e ≡ p) × ((get_or entries p no_entry).operation ≡ b)

  -- the tree is written there from p on, up to q
  unfoldable mutual
    pub Stands : Transformation → ℕ → ℕ → Type 0
    Stands (source e) p q = Head 0x01 e p × (q ≡ suc p)
    Stands (nothing e) p q = Head 0x02 e p × (q ≡ suc p)
    Stands (text e b) p q = Head 0x03 e p × (b ≡ text_of (entry_at p)) × (q ≡ suc p)
    Stands (tag e b) p q = Head 0x04 e p × (b ≡ text_of (entry_at p)) × (q ≡ suc p)
    Stands (slot e k) p q = Head 0x05 e p × (k ≡ slot_of (entry_at p)) × (q ≡ suc p)
    Stands (contents e) p q = Head 0x06 e p × (q ≡ suc p)
    Stands (within e X) p q = Head 0x07 e p × Stands X (suc p) q
    Stands (and_then e X Y) p q = Head 0x08 e p × ((m : ℕ) × Stands X (suc p) m × Stands Y m q)
    Stands (beside e X Y) p q = Head 0x09 e p × ((m : ℕ) × Stands X (suc p) m × Stands Y m q)
    Stands (each e X) p q = Head 0x0A e p × Stands X (suc p) q
    Stands (choose e P X Y) p q = Head 0x0B e p × ((l : ℕ) × (m : ℕ) × StandsTest P (suc p) l × Stands X l m × Stands Y m q)
    Stands (bind e k X) p q = Head 0x0C e p × (k ≡ slot_of (entry_at p)) × Stands X (suc p) q

    pub StandsTest : Test → ℕ → ℕ → Type 0
    StandsTest (compares e equals X) p q = Head 0x11 e p × Stands X (suc p) q
    StandsTest (tagged e t) p q = Head 0x12 e p × (t ≡ text_of (entry_at p)) × (q ≡ suc p)
    StandsTest (is_element e) p q = Head 0x13 e p × (q ≡ suc p)

  -- with so many levels left, in a room
  pub record Placed (X : Transformation) (p q levels : ℕ) (room : Room) : Type 0 where
    pub stands : Stands X p q
    pub high : height X ≤ levels
    pub sound : Sound X room

  pub record PlacedTest (P : Test) (p q levels : ℕ) (room : Room) : Type 0 where
    pub stands : StandsTest P p q
    pub high : test_height P ≤ levels
    pub sound : SoundTest P room
