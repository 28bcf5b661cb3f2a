-- A tree's entries in prefix order, each with its place and the way to it; and how far they are those of a file and keep a room.
use Rattle.std.specs.Prelude.{◌≡◌, refl, Bool, true, false, ℕ, suc, ◌+◌, ◌≤◌, ◌<◌, leb, eqb}
use Rattle.std.proofs.Common.{sym, ap, ◌∙◌, subst, inl, arith, length-append, eqb-true}
use mathlib.Core.List.{List, [], ◌∷◌, ◌++◌, map, flatten, map-map}
use Rattle.std.proofs.Math.ListN.{length}
use Rattle.std.proofs.lemmas.List.{length-map}
use Rattle.lines.specs.Entries.{Entry, slot_of}
use Rattle.values.specs.Values.{among}
use Rattle.runs.specs.Results.{gives}
use Rattle.runs.specs.Programs.{equals, Transformation, source, nothing, text, tag, slot, contents, within}
use Rattle.runs.specs.Programs.{and_then, beside, each, choose, bind, Test, compares, tagged, is_element}
use Rattle.runs.specs.Reading.{Room, inside_each, inside_bind, below}
use Rattle.runs.specs.Engine.Trees.{entry_at}
use Rattle.programs.specs.SoundPrograms.{entry, fold, fold_test, Way, ways_from, ways, count, Placing, lines_from, prefix}
use Rattle.runs.specs.Theorems.Inversion.{gives_inj, on_ensure}
use Rattle.programs.specs.Theorems.Ways.{Keeps, Step, bind_of, slot_entry, plain, in_each, in_bind, slot_down, bound_down, bound_up}

-- ## Sights

abbrev pub Sight : Type 0
Sight = Placing × Way

abbrev under : Entry → Sight → Sight
under e s = (s.0, e ∷ s.1)

abbrev pub sights_from : ℕ → Entry → List (List Sight) → List Sight
sights_from p e subs = ((p, e), e ∷ []) ∷ map (under e) (flatten subs)

abbrev pub sights : Transformation → List Sight
sights = fold sights_from

abbrev pub test_sights : Test → List Sight
test_sights = fold_test sights_from

-- what is made of what is made
module _ {A B : Type 0} (make : ℕ → Entry → List A → A) (remake : ℕ → Entry → List B → B) (h : A → B)
    (fuse : (p : ℕ) (e : Entry) (subs : List A) → h (make p e subs) ≡ remake p e (map h subs)) where
  mutual
    unfolding fold

    fold_fused : (X : Transformation) → h (fold make X) ≡ fold remake X
    fold_fused (source p) = fuse p (entry 0x01 []) []
    fold_fused (nothing p) = fuse p (entry 0x02 []) []
    fold_fused (text p b) = fuse p (entry 0x03 (length b ∷ b)) []
    fold_fused (tag p b) = fuse p (entry 0x04 (length b ∷ b)) []
    fold_fused (slot p k) = fuse p (entry 0x05 (k ∷ [])) []
    fold_fused (contents p) = fuse p (entry 0x06 []) []
    fold_fused (within p X) = fuse p (entry 0x07 []) (fold make X ∷ []) ∙ rw (fold_fused X)
    fold_fused (and_then p X Y) = fuse p (entry 0x08 []) (fold make X ∷ fold make Y ∷ []) ∙ rw (fold_fused X, fold_fused Y)
    fold_fused (beside p X Y) = fuse p (entry 0x09 []) (fold make X ∷ fold make Y ∷ []) ∙ rw (fold_fused X, fold_fused Y)
    fold_fused (each p X) = fuse p (entry 0x0A []) (fold make X ∷ []) ∙ rw (fold_fused X)
    fold_fused (choose p P X Y) =
        fuse p (entry 0x0B []) (fold_test make P ∷ fold make X ∷ fold make Y ∷ []) ∙ rw (fold_test_fused P, fold_fused X, fold_fused Y)
    fold_fused (bind p k X) = fuse p (entry 0x0C (k ∷ [])) (fold make X ∷ []) ∙ rw (fold_fused X)

    fold_test_fused : (P : Test) → h (fold_test make P) ≡ fold_test remake P
    fold_test_fused (compares p equals X) = fuse p (entry 0x11 []) (fold make X ∷ []) ∙ rw (fold_fused X)
    fold_test_fused (tagged p t) = fuse p (entry 0x12 (length t ∷ t)) []
    fold_test_fused (is_element p) = fuse p (entry 0x13 []) []

map_append : {A B : Type 0} (f : A → B) (xs ys : List A) → map f (xs ++ ys) ≡ map f xs ++ map f ys
map_append f [] ys = refl
map_append f (x ∷ xs) ys = ap (λ zs. f x ∷ zs) (map_append f xs ys)

map_flatten : {A B : Type 0} (f : A → B) (xss : List (List A)) → map f (flatten xss) ≡ flatten (map (map f) xss)
unfolding flatten
map_flatten f [] = refl
map_flatten f (xs ∷ xss) = map_append f xs (flatten xss) ∙ ap (λ ys. map f xs ++ ys) (map_flatten f xss)

pub sights_prefix : (X : Transformation) → map (λ s. s.0) (sights X) ≡ prefix X
sights_prefix = fold_fused sights_from lines_from (map (λ s. s.0))
    (λ p e subs. ap (λ ls. (p, e) ∷ ls) (map-map (λ s. s.0) (under e) (flatten subs) ∙ map_flatten (λ s. s.0) subs))

pub sights_ways : (X : Transformation) → map (λ s. s.1) (sights X) ≡ ways X
sights_ways = fold_fused sights_from ways_from (map (λ s. s.1))
    (λ p e subs. ap (λ ws. (e ∷ []) ∷ ws)
    (map-map (λ s. s.1) (under e) (flatten subs) ∙ sym (map-map (λ w. e ∷ w) (λ s. s.1) (flatten subs)) ∙ ap (map (λ w. e ∷ w)) (map_flatten (λ s. s.1) subs)))

-- ## One entry further down, as reading goes

-- the operand of an 0C or 05 is its slot byte
abbrev pub Shaped : Entry → Type 0
Shaped e = (eqb e.operation 0x0C ≡ true → e ≡ bind_of (slot_of e)) × (eqb e.operation 0x05 ≡ true → e ≡ slot_entry (slot_of e))

pub record Steps (e : Entry) (d : ℕ) (room inner : Room) : Type 0 where
  pub down : (w : Way) → Keeps d room (e ∷ w) → Keeps (suc d) inner w
  pub up : (w : Way) → Keeps (suc d) inner w → Keeps d room (e ∷ w)

owned : {e : Entry} {d : ℕ} {room inner : Room} {Own : Type 0} → Own → Step e d room inner Own → Steps e d room inner
owned own s = record { down = λ w k. (s.down w k).1; up = λ w k. s.up w own k }

-- an 05 leaves the room as it is
at_slot : (d : ℕ) (room : Room) (k : ℕ) → among k room.slots ≡ true → Steps (slot_entry k) d room room
unfolding count slot_of
at_slot d room k own = record {
  down = λ w h. record {
    level = let l = h.level in omega arith;
    eaches = h.eaches;
    binds = h.binds;
    bound = bound_down (slot_entry k) room.slots room.slots w
        (λ j q. let z : ◌≡◌ {A = ℕ} 0x0C 0x05 = ap (λ (e : Entry). e.operation) q in absurd (omega arith)) (λ j a. a) h.bound;
  };
  up = λ w h. record {
    level = let l = h.level in omega arith;
    eaches = h.eaches;
    binds = h.binds;
    bound = bound_up (slot_entry k) room.slots room.slots w (λ j q. rw (ap slot_of q) own) (λ j a. inl a) h.bound;
  };
}

module _ (e : Entry) (p d : ℕ) (room : Room) (shaped : Shaped e) where
  by_kind : (C : Type 0) → (eqb e.operation 0x0A ≡ true → C) → (eqb e.operation 0x0A ≡ false → eqb e.operation 0x0C ≡ true → C)
      → (eqb e.operation 0x0A ≡ false → eqb e.operation 0x0C ≡ false → eqb e.operation 0x05 ≡ true → C)
      → (eqb e.operation 0x0A ≡ false → eqb e.operation 0x0C ≡ false → eqb e.operation 0x05 ≡ false → C) → C
  by_kind C f g h i = go (eqb e.operation 0x0A) (eqb e.operation 0x0C) (eqb e.operation 0x05) refl refl refl
    where
      go : (x y z : Bool) → eqb e.operation 0x0A ≡ x → eqb e.operation 0x0C ≡ y → eqb e.operation 0x05 ≡ z → C
      go true y z a b c = f a
      go false true z a b c = g a b
      go false false true a b c = h a b c
      go false false false a b c = i a b c

  each_step : eqb e.operation 0x0A ≡ true → Step e d room (inside_each room) (leb 1 room.eaches ≡ true)
  each_step x =
      subst (λ (b : ℕ). Step (entry b e.operand) d room (inside_each room) (leb 1 room.eaches ≡ true)) (sym (eqb-true e.operation 0x0A x))
      (in_each d room e.operand)

  bind_step : eqb e.operation 0x0C ≡ true → Step e d room (inside_bind (slot_of e) room) (leb 1 room.binds ≡ true)
  bind_step x =
      subst (λ (z : Entry). Step z d room (inside_bind (slot_of e) room) (leb 1 room.binds ≡ true)) (sym (shaped.0 x)) (in_bind d room (slot_of e))

  slot_step : eqb e.operation 0x05 ≡ true → among (slot_of e) room.slots ≡ true → Steps e d room room
  slot_step x own = subst (λ (z : Entry). Steps z d room room) (sym (shaped.1 x)) (at_slot d room (slot_of e) own)

  pub step_of : (inner : Room) → below e p room ≡ gives inner → Steps e d room inner
  unfolding below
  step_of inner h = by_kind (Steps e d room inner)
      (λ x. on_ensure (leb 1 room.eaches) p (gives (inside_each room)) inner (rw x at h) λ own g. rw (← (gives_inj (inside_each room) inner g)) (owned own (each_step x)))
      (λ x y. on_ensure (leb 1 room.binds) p (gives (inside_bind (slot_of e) room)) inner (rw (x, y) at h) λ own g.
      rw (← (gives_inj (inside_bind (slot_of e) room) inner g)) (owned own (bind_step y)))
      (λ x y z. on_ensure (among (slot_of e) room.slots) p (gives room) inner (rw (x, y, z) at h) λ own g.
      rw (← (gives_inj room inner g)) (slot_step z own))
      (λ x y z. rw (← (gives_inj room inner (rw (x, y, z) at h))) (owned tt (plain d room e.operation e.operand x y z)))

  pub opens : Keeps d room (e ∷ []) → (inner : Room) × (below e p room ≡ gives inner)
  unfolding below
  opens k = by_kind ((inner : Room) × (below e p room ≡ gives inner))
      (λ x. (inside_each room, rw (x, ((each_step x).down [] k).0)))
      (λ x y. (inside_bind (slot_of e) room, rw (x, y, ((bind_step y).down [] k).0)))
      (λ x y z. (room, rw (x, y, z, (slot_down d room (slot_of e) (subst (λ (z : Entry). Keeps d room (z ∷ [])) (shaped.1 z) k)).1)))
      (λ x y z. (room, rw (x, y, z)))

-- ## As far as n

module _ (entries : List Entry) where
  -- at each place before n stands the entry of the file, and its way keeps the room
  abbrev pub To : ℕ → ℕ → Room → List Sight → ℕ → Type 0
  To n d room [] p = Unit {0}
  To n d room (s ∷ ss) p = (p < n → (s.0 ≡ (p, entry_at entries p)) × Keeps d room s.1) × To n d room ss (suc p)

  abbrev pub InTurn : ℕ → ℕ → Room → List (List Sight) → ℕ → Type 0
  InTurn n d room [] p = Unit {0}
  InTurn n d room (ss ∷ sss) p = To n d room ss p × InTurn n d room sss (p + length ss)

  module _ (n d : ℕ) (room : Room) where
    pub to_past : (ss : List Sight) (p : ℕ) → n ≤ p → To n d room ss p
    to_past [] p h = tt
    to_past (s ∷ ss) p h = (λ l. absurd (omega arith), to_past ss (suc p) (omega arith))

    to_append : (ss ts : List Sight) (p : ℕ) → To n d room ss p → To n d room ts (p + length ss) → To n d room (ss ++ ts) p
    to_append [] ts p a b = subst (λ (q : ℕ). To n d room ts q) (let e : p + 0 ≡ p = omega arith in e) b
    to_append (s ∷ ss) ts p a b =
        (a.0, to_append ss ts (suc p) a.1 (subst (λ (q : ℕ). To n d room ts q) (let e : p + suc (length ss) ≡ suc p + length ss = omega arith in e) b))

    append_to : (ss ts : List Sight) (p : ℕ) → To n d room (ss ++ ts) p → To n d room ss p × To n d room ts (p + length ss)
    append_to [] ts p a = (tt, subst (λ (q : ℕ). To n d room ts q) (let e : p ≡ p + 0 = omega arith in e) a)
    append_to (s ∷ ss) ts p a =
        let r = append_to ss ts (suc p) a.1 in
        ((a.0, r.0), subst (λ (q : ℕ). To n d room ts q) (let e : suc p + length ss ≡ p + suc (length ss) = omega arith in e) r.1)

    to_flatten : (sss : List (List Sight)) (p : ℕ) → InTurn n d room sss p → To n d room (flatten sss) p
    unfolding flatten
    to_flatten [] p a = tt
    to_flatten (ss ∷ sss) p a = to_append ss (flatten sss) p a.0 (to_flatten sss (p + length ss) a.1)

    flatten_to : (sss : List (List Sight)) (p : ℕ) → To n d room (flatten sss) p → InTurn n d room sss p
    unfolding flatten
    flatten_to [] p a = tt
    flatten_to (ss ∷ sss) p a = let r = append_to ss (flatten sss) p a in (r.0, flatten_to sss (p + length ss) r.1)

  module _ (n d : ℕ) (room inner : Room) (e : Entry) (step : Steps e d room inner) where
    to_under : (ss : List Sight) (p : ℕ) → To n (suc d) inner ss p → To n d room (map (under e) ss) p
    to_under [] p a = tt
    to_under (s ∷ ss) p a = (λ l. let g = a.0 l in (g.0, step.up s.1 g.1), to_under ss (suc p) a.1)

    under_to : (ss : List Sight) (p : ℕ) → To n d room (map (under e) ss) p → To n (suc d) inner ss p
    under_to [] p a = tt
    under_to (s ∷ ss) p a = (λ l. let g = a.0 l in (g.0, step.down s.1 g.1), under_to ss (suc p) a.1)

    pub below_to : (sss : List (List Sight)) (p : ℕ) → InTurn n (suc d) inner sss p → To n d room (map (under e) (flatten sss)) p
    below_to sss p a = to_under (flatten sss) p (to_flatten n (suc d) inner sss p a)

    pub to_below : (sss : List (List Sight)) (p : ℕ) → To n d room (map (under e) (flatten sss)) p → InTurn n (suc d) inner sss p
    to_below sss p a = flatten_to n (suc d) inner sss p (under_to (flatten sss) p a)

-- where lists end that stand one behind the other from p on
abbrev pub past : List (List Sight) → ℕ → ℕ
past [] p = p
past (ss ∷ sss) p = past sss (p + length ss)

flatten_past : (sss : List (List Sight)) (p : ℕ) → p + length (flatten sss) ≡ past sss p
unfolding flatten
flatten_past [] p = omega arith
flatten_past (ss ∷ sss) p = let h = flatten_past sss (p + length ss) in let l = length-append ss (flatten sss) in omega arith

pub sights_past : (q : ℕ) (e : Entry) (sss : List (List Sight)) (p : ℕ) → p + length (sights_from q e sss) ≡ past sss (suc p)
sights_past q e sss p = let h = flatten_past sss (suc p) in let l = length-map (flatten sss) (under e) in omega arith
