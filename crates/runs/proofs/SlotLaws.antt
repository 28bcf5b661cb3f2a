-- The slots: none, one more, the innermost of a byte; and what stands in them where nothing below top has changed.
use mathlib.Core.Path.{◌≡◌, refl, sym, ◌∙◌, ap, ap₂}
use mathlib.Core.Bool.{Bool, true, false, cond, ◌||◌}
use Rattle.std.specs.Prelude.{◌≢◌, Option, None, Some}
use Rattle.std.specs.Option.{MatchOption}
use mathlib.Core.List.{List, ◌∷◌}
use Prim.Native.Nat.{ℕ, zero, suc, pred, ◌+◌, ◌≤◌, ◌<◌}
use native.Mathlib.Numerals.{add-one, sub-one}
use native.Mathlib.Decide.{dec_lt}
use native.Mathlib.Omega.{arith}
use lib.Dec.{eqb, leb}
use lib.ListN.{length, get_or, take, length-set}
use lib.Seq.{get_or-set_same, get_or-set_other, get_or-take, length-take-le}
use borrow.Author.Tests.{leb-true, eq-eqb, ne_eqb}
use Rattle.values.specs.Values.{Value, among}
use Rattle.values.specs.Engine.Words.{Made, value_at}
use Rattle.values.proofs.Theorems.WordLaws.{value_frame}
use Rattle.runs.specs.declared.slots.SlotWords.{SlotWords}
use Rattle.runs.specs.Reading.{Room, inside_bind}
use Rattle.runs.specs.Showing.{Slots, value_in}
use Rattle.runs.specs.Engine.Runs.{slots_to, slots_at, bytes_to, Bound, Inside}
use Rattle.runs.specs.declared.slots.Slot.{Slot}
use Rattle.runs.specs.Engine.SlotWords.{no_slot, slot_at, one_more, innermost, bound_to}
use Rattle.runs.specs.Theorems.Combinators.{bound}

-- ## Below top

pub bound_higher : {slots : SlotWords} {top : ℕ} → Bound slots top → (higher : ℕ) → top ≤ higher → Bound slots higher
bound_higher b higher h =
    record { four = b.four; few = b.few; below = λ k l. let p = b.below k l in omega arith; short = b.short }

pub slots_frame : (made : Made) (w w' : List ℕ) {top : ℕ} {slots : SlotWords} → Bound slots top → take top w' ≡ take top w → slots_at made w' slots ≡ slots_at made w slots
unfolding slots_at slots_to
slots_frame made w w' {top} {slots} b f = go slots.count (omega arith)
  where
    go : (k : ℕ) → k ≤ slots.count → slots_to made w' slots k ≡ slots_to made w slots k
    go zero h = refl
    go (suc k) h =
        ap₂ (λ (v : Value) (s : Slots). record { byte = (slot_at slots k).byte; value = v } ∷ s)
        (value_frame made w w' top ((slot_at slots k).start) ((slot_at slots k).len) f (b.below k h)) (go k (omega arith))

-- ## One more, the innermost

module _ {slots : SlotWords} {top : ℕ} (b : Bound slots top) (room : slots.count < 4) (byte start len : ℕ) where
  abbrev pub more : SlotWords
  more = one_more slots byte start len

  pub kept : (k : ℕ) → k < slots.count → slot_at more k ≡ slot_at slots k
  kept k h = get_or-set_other slots.bound slots.count k _ no_slot (λ e. omega arith)

  pub last : slot_at more slots.count ≡ record { start = start; byte = byte; len = len }
  last = get_or-set_same slots.bound slots.count _ no_slot (omega (arith, b.four))

  same_slots : (made : Made) (w : List ℕ) (k : ℕ) → k ≤ slots.count → slots_to made w (one_more slots byte start len) k ≡ slots_to made w slots k
  unfolding slots_to
  same_slots made w zero h = refl
  same_slots made w (suc k) h =
      rw (kept k h, same_slots made w k (omega arith))

  same_bytes : (k : ℕ) → k ≤ slots.count → bytes_to (one_more slots byte start len) k ≡ bytes_to slots k
  unfolding bytes_to
  same_bytes zero h = refl
  same_bytes (suc k) h = rw (kept k h, same_bytes k (omega arith))

  pub more_at : (made : Made) (w : List ℕ) → slots_at made w (one_more slots byte start len) ≡ bound byte (slots_at made w slots) (value_at made w start len)
  unfolding slots_at slots_to
  more_at made w =
      ap (slots_to made w (one_more slots byte start len)) (add-one slots.count) ∙ rw (last, same_slots made w slots.count (omega arith))

  -- what holds of the new one and of the others holds of each
  pub each_of_more : (P : Slot → Type 0) → ((k : ℕ) → k < slots.count → P (slot_at slots k)) → P (record { start = start; byte = byte; len = len })
      → (k : ℕ) → k < slots.count + 1 → P (slot_at more k)
  each_of_more P others new k h = go (dec_lt k slots.count)
    where
      go : Dec (k < slots.count) → P (slot_at more k)
      go (yes l) = rw (kept k l) (others k l)
      go (no l) =
          let e : k ≡ slots.count = omega arith in
          rw (e, last) new

  pub more_bound : start + len ≤ top → len ≤ 128 → Bound (one_more slots byte start len) top
  more_bound under few =
      record {
        four = length-set slots.bound slots.count _ ∙ b.four;
        few = omega arith;
        below = each_of_more (λ s. s.start + s.len ≤ top) b.below under;
        short = each_of_more (λ s. s.len ≤ 128) b.short few;
      }

  -- a room in which one more slot is bound
  pub more_inside : {r : Room} → Inside slots r → leb 1 r.binds ≡ true → Inside (one_more slots byte start len) (inside_bind byte r)
  unfolding bytes_to
  more_inside {r} i h =
      let l = leb-true 1 r.binds h in
      let c = i.binds_left in
      record {
        slots_bound = ap (λ (l : List ℕ). byte ∷ l) i.slots_bound
            ∙ sym (ap (bytes_to (one_more slots byte start len)) (add-one slots.count) ∙ rw (last, same_bytes slots.count (omega arith)));
        binds_left = let d : slots.count + 1 + pred r.binds ≤ 4 = rw (← sub-one) (omega arith) in d;
      }

-- ## The innermost of a byte

-- one of the first k has it
module _ (slots : SlotWords) (byte : ℕ) where
  found_in : (k : ℕ) → among byte (bytes_to slots k) ≡ true → innermost slots byte k < k
  unfolding among bytes_to innermost
  found_in zero h = let z : ◌≡◌ {A = ℕ} 0 1 = cc in absurd (omega arith)
  found_in (suc k) h = go (eqb byte ((slot_at slots k).byte)) (found_in k) h
    where
      go : (t : Bool) → (among byte (bytes_to slots k) ≡ true → innermost slots byte k < k)
          → (t || among byte (bytes_to slots k)) ≡ true → cond t k (innermost slots byte k) < suc k
      go true ih e = omega arith
      go false ih e = let l = ih e in omega arith

  found_value : (made : Made) (w : List ℕ) (k : ℕ) → among byte (bytes_to slots k) ≡ true
      → let j = innermost slots byte k in
      value_in byte (slots_to made w slots k) ≡ value_at made w ((slot_at slots j).start) ((slot_at slots j).len)
  unfolding among bytes_to innermost value_in slots_to
  found_value made w zero h = let z : ◌≡◌ {A = ℕ} 0 1 = cc in absurd (omega arith)
  found_value made w (suc k) h = go (eqb byte ((slot_at slots k).byte)) (found_value made w k) h
    where
      go : (t : Bool)
          → let j = innermost slots byte k in
          (among byte (bytes_to slots k) ≡ true → value_in byte (slots_to made w slots k) ≡ value_at made w ((slot_at slots j).start) ((slot_at slots j).len))
          → (t || among byte (bytes_to slots k)) ≡ true
          → cond t (value_at made w ((slot_at slots k).start) ((slot_at slots k).len)) (value_in byte (slots_to made w slots k))
          ≡ value_at made w ((slot_at slots (cond t k j)).start) ((slot_at slots (cond t k j)).len)
      go true ih e = refl
      go false ih e = ih e

-- no slot behind it has the byte, and it has: what the search from the innermost on says
abbrev pub IsInnermost : SlotWords → ℕ → ℕ → Option ℕ → Type 0
IsInnermost slots byte k r =
    MatchOption r ((j : ℕ) → j < k → (slot_at slots j).byte ≢ byte)
    (λ i. (i < k) × ((slot_at slots i).byte ≡ byte) × ((j : ℕ) → i < j → j < k → (slot_at slots j).byte ≢ byte))

pub innermost_is : (slots : SlotWords) (byte k : ℕ) (r : Option ℕ) → IsInnermost slots byte k r
    → r ≡ cond (among byte (bytes_to slots k)) (Some (innermost slots byte k)) None
unfolding among bytes_to innermost
innermost_is slots byte zero None h = refl
innermost_is slots byte zero (Some i) h = absurd (omega (arith, h.0))
innermost_is slots byte (suc k) None h =
    rw (ne_eqb byte (slot_at slots k).byte (λ e. h k (omega arith) (sym e))) (innermost_is slots byte k None (λ j l. h j (omega arith)))
innermost_is slots byte (suc k) (Some i) h = go (dec_lt i k) (λ l. innermost_is slots byte k (Some i) (l, h.1, λ j m n. h.2 j m (omega arith)))
  where
    go : Dec (i < k) → (i < k → Some i ≡ cond (among byte (bytes_to slots k)) (Some (innermost slots byte k)) None)
        → Some i
        ≡ cond (eqb byte (slot_at slots k).byte || among byte (bytes_to slots k)) (Some (cond (eqb byte (slot_at slots k).byte) k (innermost slots byte k))) None
    go (yes l) outer = rw (ne_eqb byte (slot_at slots k).byte (λ e. h.2 k l (omega arith) (sym e))) (outer l)
    go (no l) outer =
        let e : i ≡ k = omega (arith, h.0) in
        rw (eq-eqb byte (slot_at slots k).byte (sym (rw e at h.1)), e)

-- the same of a list: the last with the byte
abbrev pub IsLast : List Slot → ℕ → Option ℕ → Type 0
IsLast bound byte r =
    MatchOption r ((j : ℕ) → j < length bound → (get_or bound j no_slot).byte ≢ byte)
    (λ i. (i < length bound) × ((get_or bound i no_slot).byte ≡ byte) × ((j : ℕ) → i < j → j < length bound → (get_or bound j no_slot).byte ≢ byte))

pub last_is : (slots : SlotWords) (byte k : ℕ) (r : Option ℕ) → k ≤ length slots.bound → IsLast (take k slots.bound) byte r
    → r ≡ cond (among byte (bytes_to slots k)) (Some (innermost slots byte k)) None
last_is slots byte k r long h = innermost_is slots byte k r (go r h)
  where
    all : length (take k slots.bound) ≡ k
    all = length-take-le k slots.bound long

    here : (j : ℕ) → j < k → (slot_at slots j).byte ≡ (get_or (take k slots.bound) j no_slot).byte
    here j l = rw (get_or-take k slots.bound j no_slot l)

    go : (r : Option ℕ) → IsLast (take k slots.bound) byte r → IsInnermost slots byte k r
    go None h = λ j l e. h j (omega (arith, all)) (sym (here j l) ∙ e)
    go (Some i) h =
        let l : i < k = omega (arith, all, h.0) in
        (l, here i l ∙ h.1, λ j m n e. h.2 j m (omega (arith, all)) (sym (here j n) ∙ e))

-- a bound slot, where the search finds it
pub record Found (slots : SlotWords) (top byte k : ℕ) : Type 0 where
  pub inside : k < 4
  pub place : k ≡ bound_to slots byte
  pub below : (slot_at slots k).start + (slot_at slots k).len ≤ top
  pub short : (slot_at slots k).len ≤ 128
  pub value : (made : Made) (w : List ℕ) → value_in byte (slots_at made w slots) ≡ value_at made w ((slot_at slots k).start) ((slot_at slots k).len)

pub found : {slots : SlotWords} {top : ℕ} (byte : ℕ) {k : ℕ} → Bound slots top → among byte (bytes_to slots slots.count) ≡ true
    → Some k ≡ cond (among byte (bytes_to slots slots.count)) (Some (bound_to slots byte)) None → Found slots top byte k
unfolding slots_at
found {slots} {top} byte {k} b h p =
    let e : k ≡ bound_to slots byte = cc (rw h at p) in
    let l = found_in slots byte slots.count h in
    let f = b.few in
    let i : k < slots.count = omega arith in
    record {
      inside = omega arith;
      place = e;
      below = b.below k i;
      short = b.short k i;
      value = λ made w. rw e (found_value slots byte made w slots.count h);
    }
