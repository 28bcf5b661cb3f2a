-- A tree whose ways down keep the levels, the counts and the slots is low enough, and sound in its room.
use Rattle.std.proofs.Math.Path.{◌≡◌, refl, ap}
use Rattle.std.proofs.Common.{sym, ◌∙◌}
use Rattle.std.specs.Prelude.{◌⊎◌, Bool, true, false, ◌||◌, leb, eqb, length}
use Rattle.std.proofs.Math.Logic.{inl, inr}
use mathlib.Core.List.Memᴰ
use mathlib.Core.List.{List, [], ◌∷◌, ◌++◌, map, flatten}
use Prim.Native.Nat.{ℕ, suc, pred, ◌+◌, ◌≤◌}
use native.Mathlib.Omega.{arith}
use borrow.Author.Tests.{leb-true, le-leb, eqb-true, eqb-false, eq-eqb}
use Rattle.lines.specs.Entries.{Entry, slot_of}
use Rattle.lines.specs.Theorems.Bools.{or_cases}
use Rattle.values.specs.Values.{among}
use Rattle.runs.specs.Programs.{equals, Transformation, source, nothing, text, tag, slot, contents, within}
use Rattle.runs.specs.Programs.{and_then, beside, each, choose, bind, Test, compares, tagged, is_element}
use Rattle.runs.specs.Reading.{Room, most_levels, inside_each, inside_bind}
use Rattle.runs.specs.Engine.Trees.{height, test_height, Sound, SoundTest}
use Rattle.programs.specs.SoundPrograms.{◌∈◌, entry, fold, fold_test, Way, ways_from, ways, count}

-- ## What holds of each in a list

abbrev pub All : {A : Type 0} → (A → Type 0) → List A → Type 0
All P [] = Unit {0}
All P (x ∷ xs) = P x × All P xs

module _ {A : Type 0} (P : A → Type 0) where
  pub all_of : (xs : List A) → ((x : A) → x ∈ xs → P x) → All P xs
  all_of [] h = tt
  all_of (x ∷ xs) h = (h x (Memᴰ.head refl), all_of xs (λ y m. h y (Memᴰ.tail m)))

  pub of_all : (xs : List A) → All P xs → (x : A) → x ∈ xs → P x
  of_all [] a x m = absurd (Memᴰ.not-nil m)
  of_all (y ∷ xs) a x m = go (Memᴰ.cases_cons m) (λ n. of_all xs a.1 x n)
    where
      go : (x ≡ y) ⊎ (x ∈ xs) → (x ∈ xs → P x) → P x
      go (inl e) rest = rw e a.0
      go (inr n) rest = rest n

  append_all : (xs ys : List A) → All P (xs ++ ys) → All P xs × All P ys
  append_all [] ys a = (tt, a)
  append_all (x ∷ xs) ys a = let r = append_all xs ys a.1 in ((a.0, r.0), r.1)

  flatten_all : (xss : List (List A)) → All P (flatten xss) → All (All P) xss
  unfolding flatten
  flatten_all [] a = tt
  flatten_all (xs ∷ xss) a = let r = append_all xs (flatten xss) a in (r.0, flatten_all xss r.1)

map_all : {A B : Type 0} (P : A → Type 0) (Q : B → Type 0) (f : A → B) (xs : List A) → ((x : A) → Q (f x) → P x) → All Q (map f xs) → All P xs
map_all P Q f [] h a = tt
map_all P Q f (x ∷ xs) h a = (h x a.0, map_all P Q f xs h a.1)

-- ## A way below d levels, in a room

abbrev pub bind_of : ℕ → Entry
bind_of k = entry 0x0C (k ∷ [])

abbrev pub slot_entry : ℕ → Entry
slot_entry k = entry 0x05 (k ∷ [])

abbrev Bound : List ℕ → Way → Type 0
Bound slots w = (u : Way) (k : ℕ) → w ≡ u ++ (slot_entry k ∷ []) → (among k slots ≡ true) ⊎ (bind_of k ∈ u)

pub record Keeps (d : ℕ) (room : Room) (w : Way) : Type 0 where
  pub level : d + length w ≤ most_levels
  pub eaches : count 0x0A w ≤ room.eaches
  pub binds : count 0x0C w ≤ room.binds
  pub bound : Bound room.slots w

module _ (e : Entry) (s t : List ℕ) (w : Way) where
  pub bound_down : ((k : ℕ) → bind_of k ≡ e → among k t ≡ true) → ((k : ℕ) → among k s ≡ true → among k t ≡ true) → Bound s (e ∷ w) → Bound t w
  bound_down here above h u k q = go (h (e ∷ u) k (ap (λ z. e ∷ z) q))
    where
      go : (among k s ≡ true) ⊎ (bind_of k ∈ (e ∷ u)) → (among k t ≡ true) ⊎ (bind_of k ∈ u)
      go (inl a) = inl (above k a)
      go (inr m) = elim (Memᴰ.cases_cons m) [ inl x ↦ inl (here k x) | inr n ↦ inr n ]

  pub bound_up : ((k : ℕ) → slot_entry k ≡ e → among k s ≡ true) → ((k : ℕ) → among k t ≡ true → (among k s ≡ true) ⊎ (bind_of k ≡ e)) → Bound t w → Bound s (e ∷ w)
  bound_up own above h [] k q = inl (own k (cc))
  bound_up own above h (x ∷ u) k q = go (h u k (cc))
    where
      same : e ≡ x
      same = cc

      go : (among k t ≡ true) ⊎ (bind_of k ∈ u) → (among k s ≡ true) ⊎ (bind_of k ∈ (x ∷ u))
      go (inl a) = elim (above k a) [ inl b ↦ inl b | inr y ↦ inr (Memᴰ.head (y ∙ same)) ]
      go (inr m) = inr (Memᴰ.tail m)

-- ## One entry further down

-- entry e asks `Own` of the room, and leaves `inner` to those below it
pub record Step (e : Entry) (d : ℕ) (room inner : Room) (Own : Type 0) : Type 0 where
  pub down : (w : Way) → Keeps d room (e ∷ w) → Own × Keeps (suc d) inner w
  pub up : (w : Way) → Own → Keeps (suc d) inner w → Keeps d room (e ∷ w)

-- an entry that is no 0C and no 05 leaves the slots as they are
module _ (b : ℕ) (o : List ℕ) (noBind : eqb b 0x0C ≡ false) (no_slot : eqb b 0x05 ≡ false) (s : List ℕ) (w : Way) where
  same_down : Bound s (entry b o ∷ w) → Bound s w
  same_down = bound_down (entry b o) s s w (λ k q. absurd (eqb-false b 0x0C noBind (ap (λ (e : Entry). e.operation) (sym q)))) (λ k a. a)

  same_up : Bound s w → Bound s (entry b o ∷ w)
  same_up = bound_up (entry b o) s s w (λ k q. absurd (eqb-false b 0x05 no_slot (ap (λ (e : Entry). e.operation) (sym q)))) (λ k a. inl a)

among_head : (j k : ℕ) (s : List ℕ) → j ≡ k → among j (k ∷ s) ≡ true
unfolding among
among_head j k s q = rw (eq-eqb j k q)

among_tail : (j k : ℕ) (s : List ℕ) → among j s ≡ true → among j (k ∷ s) ≡ true
unfolding among
among_tail j k s a = go (eqb j k)
  where
    go : (t : Bool) → (t || among j s) ≡ true
    go true = refl
    go false = a

among_cases : (j k : ℕ) (s : List ℕ) → among j (k ∷ s) ≡ true → (among j s ≡ true) ⊎ (j ≡ k)
unfolding among
among_cases j k s = or_cases (eqb j k) (among j s) (λ q. inr (eqb-true j k q)) (λ a. inl a)

module _ (d : ℕ) (room : Room) where
  pub plain : (b : ℕ) (o : List ℕ) → eqb b 0x0A ≡ false → eqb b 0x0C ≡ false → eqb b 0x05 ≡ false → Step (entry b o) d room room (Unit {0})
  unfolding count
  plain b o x y z = record {
    down = λ w h. (
      tt,
      record {
        level = let l = h.level in omega arith;
        eaches = rw x at h.eaches;
        binds = rw y at h.binds;
        bound = same_down b o y z room.slots w h.bound;
      },
    );
    up = λ w _ h. record {
      level = let l = h.level in omega arith;
      eaches = rw x h.eaches;
      binds = rw y h.binds;
      bound = same_up b o y z room.slots w h.bound;
    };
  }

  pub in_each : (o : List ℕ) → Step (entry 0x0A o) d room (inside_each room) (leb 1 room.eaches ≡ true)
  unfolding count
  in_each o = record {
    down = λ w h. let c : suc (count 0x0A w) ≤ room.eaches = h.eaches in (
      le-leb 1 room.eaches (omega arith),
      record {
        level = let l = h.level in omega arith;
        eaches = let z : count 0x0A w ≤ pred room.eaches = omega arith in z;
        binds = h.binds;
        bound = same_down 0x0A o refl refl room.slots w h.bound;
      },
    );
    up = λ w own h. record {
      level = let l = h.level in omega arith;
      eaches = let l = leb-true 1 room.eaches own in let c : count 0x0A w ≤ pred room.eaches = h.eaches in omega arith;
      binds = h.binds;
      bound = same_up 0x0A o refl refl room.slots w h.bound;
    };
  }

  pub in_bind : (k : ℕ) → Step (bind_of k) d room (inside_bind k room) (leb 1 room.binds ≡ true)
  unfolding count slot_of
  in_bind k = record {
    down = λ w h. let c : suc (count 0x0C w) ≤ room.binds = h.binds in (
      le-leb 1 room.binds (omega arith),
      record {
        level = let l = h.level in omega arith;
        eaches = h.eaches;
        binds = let z : count 0x0C w ≤ pred room.binds = omega arith in z;
        bound = bound_down (bind_of k) room.slots (k ∷ room.slots) w (λ j q. among_head j k room.slots (ap slot_of q)) (λ j a. among_tail j k room.slots a) h.bound;
      },
    );
    up = λ w own h. record {
      level = let l = h.level in omega arith;
      eaches = h.eaches;
      binds = let l = leb-true 1 room.binds own in let c : count 0x0C w ≤ pred room.binds = h.binds in omega arith;
      bound = bound_up (bind_of k) room.slots (k ∷ room.slots) w
          (λ j q. let z : ◌≡◌ {A = ℕ} 0x05 0x0C = ap (λ (e : Entry). e.operation) q in absurd (omega arith))
          (λ j a. elim (among_cases j k room.slots a) [ inl b ↦ inl b | inr q ↦ inr (ap bind_of q) ]) h.bound;
    };
  }

pub keeps_none : (d : ℕ) (room : Room) → d ≤ most_levels → Keeps d room []
unfolding count
keeps_none d room l = record { level = omega arith; eaches = omega arith; binds = omega arith; bound = λ u k q. absurd (no_end u k q) }
  where
    no_end : (u : Way) (k : ℕ) → ◌≡◌ {A = Way} [] (u ++ (slot_entry k ∷ [])) → ⊥
    no_end [] k q = let z : ◌≡◌ {A = ℕ} 0 1 = cc in omega arith
    no_end (x ∷ u) k q = let z : ◌≡◌ {A = ℕ} 0 1 = cc in omega arith

-- ## All ways of an entry and of its sub-entries

module _ {e : Entry} {d : ℕ} {room inner : Room} {Own : Type 0} (step : Step e d room inner Own) (p : ℕ) (subs : List (List Way)) where
  node_down : All (Keeps d room) (ways_from p e subs) → Own × (suc d ≤ most_levels) × All (All (Keeps (suc d) inner)) subs
  node_down a =
      let own = step.down [] a.0 in
      let l : suc d + 0 ≤ most_levels = own.1.level in (
        own.0,
        omega arith,
        flatten_all (Keeps (suc d) inner) subs
            (map_all (Keeps (suc d) inner) (Keeps d room) (λ w. e ∷ w) (flatten subs) (λ w k. (step.down w k).1) a.1),
      )

-- ## The whole tree

abbrev test_ways : Test → List Way
test_ways = fold_test ways_from

module _ (d : ℕ) (room : Room) where
  pub slot_down : (k : ℕ) → Keeps d room (slot_entry k ∷ []) → (suc d ≤ most_levels) × (among k room.slots ≡ true)
  slot_down k h = (let l = h.level in omega arith, elim (h.bound [] k refl) [ inl a ↦ a | inr m ↦ absurd (Memᴰ.not-nil m) ])

mutual
  unfolding fold height Sound

  pub ways_sound : (X : Transformation) (d : ℕ) (room : Room) → All (Keeps d room) (ways X) → (d + height X ≤ most_levels) × Sound X room
  ways_sound (source p) = λ d room a. let s = node_down (plain d room 0x01 [] refl refl refl) p [] a in (omega arith, tt)
  ways_sound (nothing p) = λ d room a. let s = node_down (plain d room 0x02 [] refl refl refl) p [] a in (omega arith, tt)
  ways_sound (text p b) = λ d room a. let s = node_down (plain d room 0x03 (length b ∷ b) refl refl refl) p [] a in (omega arith, tt)
  ways_sound (tag p b) = λ d room a. let s = node_down (plain d room 0x04 (length b ∷ b) refl refl refl) p [] a in (omega arith, tt)
  ways_sound (slot p k) = λ d room a. let s = slot_down d room k a.0 in (omega arith, s.1)
  ways_sound (contents p) = λ d room a. let s = node_down (plain d room 0x06 [] refl refl refl) p [] a in (omega arith, tt)
  ways_sound (within p X) = λ d room a.
      let s = node_down (plain d room 0x07 [] refl refl refl) p (ways X ∷ []) a in
      let x = ways_sound X (suc d) room s.2.0 in
      (omega arith, x.1)
  ways_sound (and_then p X Y) = λ d room a.
      let s = node_down (plain d room 0x08 [] refl refl refl) p (ways X ∷ ways Y ∷ []) a in
      let x = ways_sound X (suc d) room s.2.0 in
      let y = ways_sound Y (suc d) room s.2.1.0 in
      (omega arith, (x.1, y.1))
  ways_sound (beside p X Y) = λ d room a.
      let s = node_down (plain d room 0x09 [] refl refl refl) p (ways X ∷ ways Y ∷ []) a in
      let x = ways_sound X (suc d) room s.2.0 in
      let y = ways_sound Y (suc d) room s.2.1.0 in
      (omega arith, (x.1, y.1))
  ways_sound (each p X) = λ d room a.
      let s = node_down (in_each d room []) p (ways X ∷ []) a in
      let x = ways_sound X (suc d) (inside_each room) s.2.0 in
      (omega arith, (s.0, x.1))
  ways_sound (choose p P X Y) = λ d room a.
      let s = node_down (plain d room 0x0B [] refl refl refl) p (test_ways P ∷ ways X ∷ ways Y ∷ []) a in
      let t = test_ways_sound P (suc d) room s.2.0 in
      let x = ways_sound X (suc d) room s.2.1.0 in
      let y = ways_sound Y (suc d) room s.2.1.1.0 in
      (omega arith, (t.1, x.1, y.1))
  ways_sound (bind p k X) = λ d room a.
      let s = node_down (in_bind d room k) p (ways X ∷ []) a in
      let x = ways_sound X (suc d) (inside_bind k room) s.2.0 in
      (omega arith, (s.0, x.1))

  test_ways_sound : (P : Test) (d : ℕ) (room : Room) → All (Keeps d room) (test_ways P) → (d + test_height P ≤ most_levels) × SoundTest P room
  test_ways_sound (compares p equals X) = λ d room a.
      let s = node_down (plain d room 0x11 [] refl refl refl) p (ways X ∷ []) a in
      let x = ways_sound X (suc d) room s.2.0 in
      (omega arith, x.1)
  test_ways_sound (tagged p t) = λ d room a. let s = node_down (plain d room 0x12 (length t ∷ t) refl refl refl) p [] a in (omega arith, tt)
  test_ways_sound (is_element p) = λ d room a. let s = node_down (plain d room 0x13 [] refl refl refl) p [] a in (omega arith, tt)
