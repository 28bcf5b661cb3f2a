-- Rooms: slots from the innermost outwards, and `below` in the two steps of the code.
use mathlib.Core.Path.{◌≡◌, refl}
use mathlib.Core.Bool.{Bool, true, false, cond}
use mathlib.Core.List.{List, ◌∷◌}
use Prim.Native.Nat.{ℕ, zero, suc, ◌+◌, ◌≤◌, ◌<◌}
use native.Mathlib.Omega.{arith}
use native.Mathlib.Numerals.{add-one}
use lib.Dec.{eqb, leb}
use lib.ListN.{length, set, take}
use lib.Seq.{get_or-set_same, get_or-set_other}
use Rattle.lines.specs.Entries.{Entry, slot_of}
use Rattle.values.specs.Values.{among}
use Rattle.runs.specs.Results.{gives, ◌>>◌, ensure}
use Rattle.runs.specs.Reading.{Room, inside_each, inside_bind, below}
use Rattle.std.proofs.Math.Bool.{or_comm}
use Rattle.std.proofs.lemmas.List.Folds.{list_any_more}
use Rattle.std.proofs.lemmas.Bool.Decides.{nat_tests}
use Rattle.runs.specs.Engine.Checking.{may_stand, room_inside}
use Rattle.runs.specs.Engine.Rooms.{slots_of}
use Rattle.std.specs.List.{list_any}

-- ## Slots

-- the first k bytes, whichever way round
pub contains_bound : (byte : ℕ) (bytes : List ℕ) (k : ℕ) → k ≤ length bytes → list_any (λ y. eqb y byte) (take k bytes) ≡ among byte (slots_of bytes k)
unfolding slots_of among
contains_bound byte bytes zero h = refl
contains_bound byte bytes (suc k) h =
    rw (← add-one k, list_any_more (λ y. eqb y byte) bytes k 0 (omega arith), contains_bound byte bytes k (omega arith))
    (grind (arith, nat_tests, or_comm))

slots_kept : (bytes : List ℕ) (i byte k : ℕ) → k ≤ i → slots_of (set bytes i byte) k ≡ slots_of bytes k
unfolding slots_of
slots_kept bytes i byte zero h = refl
slots_kept bytes i byte (suc k) h = rw (get_or-set_other bytes i k byte 0 (λ e. omega arith), slots_kept bytes i byte k (omega arith))

pub slots_bound : (bytes : List ℕ) (k byte : ℕ) → k < length bytes → slots_of (set bytes k byte) (k + 1) ≡ (byte ∷ slots_of bytes k)
unfolding slots_of
slots_bound bytes k byte h = rw (add-one k, get_or-set_same bytes k byte 0 h, slots_kept bytes k byte k (omega arith))

-- ## The two steps

pub below_steps : (e : Entry) (p : ℕ) (room : Room)
    → below e p room ≡ (ensure (may_stand e.operation (slot_of e) room) p >> gives (room_inside e.operation (slot_of e) room))
unfolding below may_stand room_inside
below_steps e p room = go (eqb e.operation 0x0A) (eqb e.operation 0x0C) (eqb e.operation 0x05)
  where
    go : (a b c : Bool)
        → cond a (ensure (leb 1 room.eaches) p >> gives (inside_each room))
        (cond b (ensure (leb 1 room.binds) p >> gives (inside_bind (slot_of e) room))
        (cond c (ensure (among (slot_of e) room.slots) p >> gives room) (gives room)))
        ≡ (ensure (cond a (leb 1 room.eaches) (cond b (leb 1 room.binds) (cond c (among (slot_of e) room.slots) true))) p
        >> gives (cond a (inside_each room) (cond b (inside_bind (slot_of e) room) room)))
    go true b c = refl
    go false true c = refl
    go false false true = refl
    go false false false = refl
