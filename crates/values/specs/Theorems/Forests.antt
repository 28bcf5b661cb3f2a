-- Values that are sequences of trees, and values within the bounds: through lowering, raising, joining and items.
use Rattle.std.specs.Prelude.{◌≡◌, refl, Bool, not, leb, eqb, length}
use Rattle.std.proofs.Common.{sym, subst, length-append, leb-true, eqb-true}
use Rattle.std.proofs.Math.Bool.{true, false, cond}
use mathlib.Core.List.{List, [], ◌∷◌, ◌++◌}
use Prim.Native.Nat.{ℕ, zero, suc, pred, ◌≤◌, ◌<◌}
use native.Mathlib.Omega.{arith}
use Rattle.std.proofs.Math.Nat.{pred-le-pred}
use Rattle.std.proofs.lemmas.List.{length-map}
use Rattle.std.proofs.lemmas.Bool.{eqb-false, not-true}
use Rattle.lines.specs.Theorems.Bools.{and_parts}
use Rattle.values.specs.Values.{Node, Value, Lookup, element_of, is_top, no_top, starts_top, under, onward, lowered, raised, items, most_nodes, most_depth, shallow, within_bounds}
use Rattle.values.specs.Theorems.Items.{under_onward, onward_starts_top, by_items}

-- ## Bounds

-- no depth is over 9
abbrev pub Shallow : Value → Type 0
Shallow [] = Unit {0}
Shallow (x ∷ v) = (x.depth ≤ most_depth) × Shallow v

shallow_true : (v : Value) → shallow v ≡ true → Shallow v
unfolding shallow
shallow_true [] h = tt
shallow_true (x ∷ v) h = let p = and_parts (leb x.depth most_depth) (shallow v) h in (leb-true x.depth most_depth p.0, shallow_true v p.1)

pub within_true : (v : Value) → within_bounds v ≡ true → (length v ≤ most_nodes) × Shallow v
unfolding within_bounds
within_true v h = let p = and_parts (leb (length v) most_nodes) (shallow v) h in (leb-true (length v) most_nodes p.0, shallow_true v p.1)

pub shallow_append : (v w : Value) → Shallow v → Shallow w → Shallow (v ++ w)
shallow_append [] w p q = q
shallow_append (x ∷ v) w p q = (p.0, shallow_append v w p.1 q)

pub shallow_cut : (v w : Value) → Shallow (v ++ w) → Shallow v × Shallow w
shallow_cut [] w p = (tt, p)
shallow_cut (x ∷ v) w p = let r = shallow_cut v w p.1 in ((p.0, r.0), r.1)

pub shallow_lowered : (v : Value) → Shallow v → Shallow (lowered v)
unfolding lowered
shallow_lowered [] p = tt
shallow_lowered (x ∷ v) p = let d = p.0 in (omega arith, shallow_lowered v p.1)

pub length_lowered : (v : Value) → length (lowered v) ≡ length v
unfolding lowered
length_lowered v = length-map v _

pub length_raised : (v : Value) → length (raised v) ≡ length v
unfolding raised
length_raised v = length-map v _

-- ## Depths below the top

no_top_cons : (x : Node) (v : Value) → no_top (x ∷ v) ≡ true → (0 < x.depth) × (no_top v ≡ true)
unfolding no_top is_top
no_top_cons x v h =
    let p = and_parts (not (eqb x.depth 0)) (no_top v) h in
    (positive x.depth (eqb-false x.depth 0 (not-true (eqb x.depth 0) p.0)), p.1)
  where
    positive : (d : ℕ) → (d ≡ 0 → ⊥) → 0 < d
    positive zero k = absurd (k refl)
    positive (suc d) k = omega arith

-- ## Sequences of trees

module _ (look : Lookup) where
  -- the greatest depth that may follow: "one more only under an element"
  abbrev pub reach : Node → ℕ
  reach x = cond (element_of look x.origin) (suc x.depth) x.depth

  abbrev pub Walk : Node → Value → Type 0
  Walk x [] = Unit {0}
  Walk x (y ∷ v) = (y.depth ≤ reach x) × Walk y v

  abbrev pub Forest : Value → Type 0
  Forest [] = Unit {0}
  Forest (x ∷ v) = (x.depth ≡ 0) × Walk x v

  walk_append : (x : Node) (v w : Value) → Walk x v → Forest w → Walk x (v ++ w)
  walk_append x [] [] p q = tt
  walk_append x [] (y ∷ w) p q = let z = q.0 in (omega arith, q.1)
  walk_append x (y ∷ v) w p q = (p.0, walk_append y v w p.1 q)

  pub forest_append : (v w : Value) → Forest v → Forest w → Forest (v ++ w)
  forest_append [] w p q = q
  forest_append (x ∷ v) w p q = (p.0, walk_append x v w p.1 q)

  walk_cut : (x : Node) (v w : Value) → starts_top w ≡ true → Walk x (v ++ w) → Walk x v × Forest w
  unfolding starts_top is_top
  walk_cut x [] [] h p = (tt, tt)
  walk_cut x [] (y ∷ w) h p = (tt, (eqb-true y.depth 0 h, p.1))
  walk_cut x (y ∷ v) w h p = let r = walk_cut y v w h p.1 in ((p.0, r.0), r.1)

  walk_raised : (x : Node) (v : Value) → Walk x v → Walk (record { depth = suc x.depth; origin = x.origin }) (raised v)
  unfolding raised
  walk_raised x [] p = tt
  walk_raised x (y ∷ v) p = (step (element_of look x.origin) p.0, walk_raised y v p.1)
    where
      step : (b : Bool) → y.depth ≤ cond b (suc x.depth) x.depth → suc y.depth ≤ cond b (suc (suc x.depth)) (suc x.depth)
      step true h = omega arith
      step false h = omega arith

  walk_lowered : (x : Node) (v : Value) → 0 < x.depth → no_top v ≡ true → Walk x v → Walk (record { depth = pred x.depth; origin = x.origin }) (lowered v)
  unfolding lowered
  walk_lowered x [] d n p = tt
  walk_lowered x (y ∷ v) d n p =
      let q = no_top_cons y v n in
      (step (element_of look x.origin) p.0, walk_lowered y v q.0 q.1 p.1)
    where
      step : (b : Bool) → y.depth ≤ cond b (suc x.depth) x.depth → pred y.depth ≤ cond b (suc (pred x.depth)) (pred x.depth)
      step true h = omega arith
      step false h = pred-le-pred h

  -- the contents of the one top node
  pub forest_lowered : (x : Node) (v : Value) → Forest (x ∷ v) → no_top v ≡ true → Forest (lowered v)
  unfolding lowered
  forest_lowered x [] p n = tt
  forest_lowered x (y ∷ v) p n = let q = no_top_cons y v n in (first (element_of look x.origin) p.1.0, walk_lowered y v q.0 q.1 p.1.1)
    where
      first : (b : Bool) → y.depth ≤ cond b (suc x.depth) x.depth → pred y.depth ≡ 0
      first true k = let z = p.0 in omega arith
      first false k = let z = p.0 in omega arith

  -- an element around contents
  pub forest_raised : (x : Node) (v : Value) → x.depth ≡ 0 → element_of look x.origin ≡ true → Forest v → Forest (x ∷ raised v)
  unfolding raised
  forest_raised x [] z e p = (z, tt)
  forest_raised x (y ∷ v) z e p = let d = p.0 in (z, (rw e (omega arith), walk_raised y v p.1))

  -- ## Within the bounds, and a forest: what every shown value is

  pub record Good (v : Value) : Type 0 where
    pub few : length v ≤ most_nodes
    pub low : Shallow v
    pub trees : Forest v

  pub good_nothing : Good []
  good_nothing = record { few = omega arith; low = tt; trees = tt }

  pub good_single : (x : Node) → x.depth ≡ 0 → Good (x ∷ [])
  good_single x h = record { few = omega arith; low = (omega arith, tt); trees = (h, tt) }

  pub good_contents : (x : Node) (v : Value) → Good (x ∷ v) → no_top v ≡ true → Good (lowered v)
  good_contents x v g n =
      let l = length_lowered v in
      let f = g.few in
      record { few = omega arith; low = shallow_lowered v g.low.1; trees = forest_lowered x v g.trees n }

  abbrev pub AllGood : List Value → Type 0
  AllGood [] = Unit {0}
  AllGood (v ∷ vs) = Good v × AllGood vs

  pub good_items : (v : Value) → Good v → AllGood (items v)
  good_items v g = by_items (λ w is. Good w → AllGood is) (λ _. tt) step v g
    where
      step : (x : Node) (v : Value) → (Good (onward v) → AllGood (items (onward v))) → Good (x ∷ v) → Good (x ∷ under v) × AllGood (items (onward v))
      step x v ih g =
          let e = under_onward v in
          let g' : Good ((x ∷ under v) ++ onward v) = subst (λ (w : Value). Good (x ∷ w)) (sym e) g in
          let l = length-append (x ∷ under v) (onward v) in
          let f = g'.few in
          let s = shallow_cut (x ∷ under v) (onward v) g'.low in
          let t = walk_cut x (under v) (onward v) (onward_starts_top v) g'.trees.1 in
          (record { few = omega arith; low = s.0; trees = (g'.trees.0, t.0) }, ih (record { few = omega arith; low = s.1; trees = t.1 }))
