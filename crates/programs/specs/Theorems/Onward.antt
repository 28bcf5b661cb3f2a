-- Reading without the tree goes on from place to place, and never past the end; where it stops for room, it stops at that entry.
use Rattle.std.specs.Prelude.{◌≡◌, Bool, cond, List, leb, eqb, length, None}
use Rattle.std.proofs.Math.Path.{refl}
use Rattle.std.proofs.Common.{sym, ap, ◌∙◌, subst}
use Rattle.std.proofs.Math.Bool.{true, false}
use Prim.Native.Nat.{ℕ, suc, ◌≤◌, zero}
use native.Mathlib.Omega.{arith}
use Rattle.lines.specs.Entries.{Entry, slot_of, subs_of, class_of}
use Rattle.values.specs.Values.{among}
use Rattle.runs.specs.Results.{gives, Result, stops, ◌>>=◌, ◌>>◌, ensure}
use Rattle.runs.specs.Programs.{Transformation}
use Rattle.runs.specs.Reading.{Room, most_levels, inside_each, inside_bind, below, Read, transformation_at, whole_room}
use Rattle.runs.specs.Engine.Trees.{entry_at}
use Rattle.runs.specs.Engine.Ends.{stands, end_of, end_below, end_at}
use Rattle.runs.specs.Theorems.ByTable.{end, ends_transformation}
use Rattle.runs.specs.Theorems.WholePrograms.{head_within}

-- ## Both ends of a reading

pub after : {E A B : Type 0} (P : Result E B → Type 0) (r : Result E A) (f : A → Result E B)
    → ((a : A) → r ≡ gives a → P (f a)) → ((s : E) → r ≡ stops s → P (stops s)) → P (r >>= f)
after P (gives a) f g h = g a refl
after P (stops s) f g h = h s refl

after_ensure : {E B : Type 0} (P : Result E B → Type 0) (t : Bool) (e : E) (r : Result E B) → (t ≡ true → P r) → P (stops e) → P (ensure t e >> r)
after_ensure P true e r g h = g refl
after_ensure P false e r g h = h

-- a room is refused at the entry itself
ensure_place : (t : Bool) (p s : ℕ) (room : Room) → (ensure t p >> gives room) ≡ stops s → s ≡ p
ensure_place true p s room h = let z : ◌≡◌ {A = ℕ} 0 1 = cc in absurd (omega arith)
ensure_place false p s room h = cc

pub below_place : (e : Entry) (p s : ℕ) (room : Room) → below e p room ≡ stops s → s ≡ p
unfolding below
below_place e p s room = go (eqb e.operation 0x0A) (eqb e.operation 0x0C) (eqb e.operation 0x05)
  where
    go : (x y z : Bool) → cond x (ensure (leb 1 room.eaches) p >> gives (inside_each room))
        (cond y (ensure (leb 1 room.binds) p >> gives (inside_bind (slot_of e) room)) (cond z (ensure (among (slot_of e) room.slots) p >> gives room) (gives room))) ≡ stops s
        → s ≡ p
    go true y z = ensure_place (leb 1 room.eaches) p s (inside_each room)
    go false true z = ensure_place (leb 1 room.binds) p s (inside_bind (slot_of e) room)
    go false false true = ensure_place (among (slot_of e) room.slots) p s room
    go false false false = λ h. let z : ◌≡◌ {A = ℕ} 0 1 = cc in absurd (omega arith)

no_unknown : (asked : Bool) → stands asked None ≡ true → ⊥
unfolding stands
no_unknown true h = let z : ◌≡◌ {A = ℕ} 0 1 = cc in omega arith
no_unknown false h = let z : ◌≡◌ {A = ℕ} 0 1 = cc in omega arith

-- ## Reading goes on, and not past the end

module _ (entries : List Entry) where
  abbrev Ahead : ℕ → ℕ → Type 0
  Ahead p q = (p ≤ q) × (p ≤ length entries → q ≤ length entries)

  abbrev pub AheadOf : ℕ → Result ℕ ℕ → Type 0
  AheadOf p (gives q) = Ahead p q
  AheadOf p (stops q) = Ahead p q

  ahead_trans : (p q : ℕ) (r : Result ℕ ℕ) → Ahead p q → AheadOf q r → AheadOf p r
  ahead_trans p q (gives r) a b = (omega arith, λ l. b.1 (a.1 l))
  ahead_trans p q (stops r) a b = (omega arith, λ l. b.1 (a.1 l))

  ahead_bind : (p : ℕ) (r : Result ℕ ℕ) (f : ℕ → Result ℕ ℕ) → AheadOf p r → ((q : ℕ) → AheadOf q (f q)) → AheadOf p (r >>= f)
  ahead_bind p (gives q) f a h = ahead_trans p q (f q) a (h q)
  ahead_bind p (stops q) f a h = a

  module _ (ends tests : ℕ → Result ℕ ℕ) (h : (q : ℕ) → AheadOf q (ends q)) (t : (q : ℕ) → AheadOf q (tests q)) where
    pub ends_ahead : (n q : ℕ) → AheadOf q (end_of ends n q)
    unfolding end_of
    ends_ahead zero q = (omega arith, λ l. l)
    ends_ahead (suc n) q = ahead_bind q (ends q) (λ r. end_of ends n r) (h q) (λ r. ends_ahead n r)

    below_ahead : (n q : ℕ) → AheadOf q (end_below ends tests n q)
    unfolding end_below
    below_ahead n q = go (eqb n 3)
      where
        go : (b : Bool) → AheadOf q (cond b (tests q >>= λ r. end_of ends 2 r) (end_of ends n q))
        go true = ahead_bind q (tests q) (λ r. end_of ends 2 r) (t q) (λ r. ends_ahead 2 r)
        go false = ends_ahead n q

  pub end_ahead : (k : ℕ) (room : Room) (asked : Bool) (p : ℕ) → AheadOf p (end_at entries k room asked p)
  unfolding end_at class_of
  end_ahead zero room asked p = (omega arith, λ l. l)
  end_ahead (suc k) room asked p =
      let b = (entry_at entries p).operation in
      after (AheadOf p) (below (entry_at entries p) p room) _
      (λ inner _. let rest = end_below (end_at entries k inner false) (end_at entries k inner true) (subs_of b) (suc p) in
      after_ensure (AheadOf p) (stands asked (class_of b)) p rest
      (λ t. let w = head_within entries b p (λ z. no_unknown asked (subst (λ (c : ℕ). stands asked (class_of c) ≡ true) (sym z) t)) refl in
      ahead_trans p (suc p) rest (omega arith, λ l. omega arith)
      (below_ahead (end_at entries k inner false) (end_at entries k inner true) (end_ahead k inner false) (end_ahead k inner true) (subs_of b) (suc p)))
      (omega arith, λ l. l))
      (λ s e. let z = below_place (entry_at entries p) p s room e in (omega arith, λ l. omega arith))

  -- where reading without the tree ends
  pub ends_so : (r : Result ℕ (Read Transformation)) → transformation_at entries most_levels whole_room 0 ≡ r → end_at entries most_levels whole_room false 0 ≡ end r
  ends_so r e = ap (λ (f : ℕ → Result ℕ ℕ). f 0) (sym (ends_transformation entries most_levels whole_room)) ∙ ap end e
