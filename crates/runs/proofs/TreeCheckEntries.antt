-- One entry of the check, in the code's terms: how reading goes on from it, and that it ends where there is none.
use Rattle.std.specs.Prelude.{None}
use mathlib.Core.Path.{◌≡◌, refl, sym, ◌∙◌}
use mathlib.Core.Bool.{Bool, true, false}
use mathlib.Core.List.{List, []}
use Prim.Native.Nat.{ℕ, zero, suc, ◌+◌, ◌-◌, ◌≤◌, ◌<◌}
use native.Mathlib.Omega.{arith}
use native.Mathlib.Numerals.{add-one}
use lib.ListN.{length, get_or, get_or-eq_default}
use Rattle.lines.specs.Entries.{Entry, class_of, row_of, subs_of, slot_of}
use Rattle.runs.specs.Results.{Result, gives, stops, ◌>>=◌, ◌>>◌, ensure}
use Rattle.runs.specs.Reading.{Makes, leaf, one, two, choice, test_leaf, test_one, unknown, makes, Room, below, no_entry}
use Rattle.runs.specs.Engine.Checking.{may_stand, room_inside}
use Rattle.runs.specs.Theorems.Table.{sub_entries, reads_sub_entries}
use Rattle.runs.specs.Engine.Ends.{stands, end_below, end_at}
use Rattle.runs.proofs.TreeCheckRooms.{below_steps}

-- an operation has at most three sub-entries
pub three_at_most : (b : ℕ) → (subs_of b ≡ 0 → ⊥) → (subs_of b ≡ 1 → ⊥) → (subs_of b ≡ 2 → ⊥) → subs_of b ≡ 3
unfolding sub_entries
three_at_most b x y z = by_made (makes e 0) (reads_sub_entries e 0)
  where
    e : Entry
    e = record { operation = b; operand = [] }

    by_made : (m : Makes) → sub_entries m ≡ subs_of b → subs_of b ≡ 3
    by_made (leaf t) h = absurd (x (sym h))
    by_made (one f) h = absurd (y (sym h))
    by_made (two f) h = absurd (z (sym h))
    by_made (choice f) h = sym h
    by_made (test_leaf t) h = absurd (x (sym h))
    by_made (test_one f) h = absurd (y (sym h))
    by_made unknown h = absurd (x (sym h))

ensure_bind : {A B : Type 0} (t : Bool) (p : ℕ) (a : A) (f : A → Result ℕ B) → (ensure t p >> gives a >>= f) ≡ (ensure t p >> f a)
ensure_bind true p a f = refl
ensure_bind false p a f = refl

module _ (E : List Entry) (room : Room) (asked : Bool) (p : ℕ) where
  -- what reading does at an entry of operation b and slot s, with k levels left below it
  abbrev pub Goes : ℕ → ℕ → ℕ → Result ℕ ℕ
  Goes k b s =
      ensure (may_stand b s room) p
      >> (ensure (stands asked (class_of b)) p >> end_below (end_at E k (room_inside b s room) false) (end_at E k (room_inside b s room) true) (subs_of b) (p + 1))

  level_goes : (levels : ℕ) → 0 < levels → end_at E levels room asked p ≡ Goes (levels - 1) (get_or E p no_entry).operation (slot_of (get_or E p no_entry))
  unfolding end_at
  level_goes zero h = absurd (omega arith)
  level_goes (suc k) h =
      let e = get_or E p no_entry in
      rw (below_steps e p room, let e : suc k - 1 ≡ k = omega arith in e, add-one p) (ensure_bind (may_stand e.operation (slot_of e) room) p _ _)

  pub no_level : (levels : ℕ) → levels ≡ 0 → end_at E levels room asked p ≡ stops p
  unfolding end_at
  no_level levels e = rw e

  -- behind the last line stands no operation
  pub past_entries : (levels : ℕ) → length E ≤ p → end_at E levels room asked p ≡ stops p
  unfolding end_at below stands class_of row_of
  past_entries zero h = refl
  past_entries (suc k) h = rw (get_or-eq_default E no_entry h) (go asked)
    where
      go : (t : Bool) → (ensure (stands t None) p >> end_below (end_at E k room false) (end_at E k room true) (subs_of 0) (suc p)) ≡ stops p
      go true = refl
      go false = refl

-- an entry of operation b and slot s, with levels left
module _ (E : List Entry) (room : Room) (asked : Bool) (p levels b s : ℕ) (l : 0 < levels)
    (o : b ≡ (get_or E p no_entry).operation) (t : s ≡ slot_of (get_or E p no_entry)) where
  goes : end_at E levels room asked p ≡ Goes E room asked p (levels - 1) b s
  goes = level_goes E room asked p levels l ∙ rw (o, t)

  pub no_room : false ≡ may_stand b s room → end_at E levels room asked p ≡ stops p
  no_room h = goes ∙ rw (← h)

  pub not_asked : true ≡ may_stand b s room → false ≡ stands asked (class_of b) → end_at E levels room asked p ≡ stops p
  not_asked h g = goes ∙ rw (← h, ← g)

  pub goes_on : true ≡ may_stand b s room → true ≡ stands asked (class_of b) → {inner : Room} → inner ≡ room_inside b s room
      → end_at E levels room asked p ≡ end_below (end_at E (levels - 1) inner false) (end_at E (levels - 1) inner true) (subs_of b) (p + 1)
  goes_on h g e = goes ∙ rw (← h, ← g, e)
