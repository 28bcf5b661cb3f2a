-- Items: joined they are the value again; each is a top node and what stands under it; and the items of two values joined.
use Rattle.std.specs.Prelude.{◌≡◌, refl, Bool, true, false, cond, ◌&&◌, not, List, [], ◌∷◌, ◌++◌, ℕ, zero, suc, ◌≤◌, eqb, length}
use Rattle.std.proofs.Common.{sym, ap, ◌∙◌, arith, length-append}
use Rattle.std.proofs.Math.Dec.{eqb-suc-suc, eqb-zero-suc}
use Rattle.values.specs.Values.{Node, Value, is_top, no_top, starts_top, under, onward, to_first, items, joined}

to_first_joined : (x : Node) (vs : List Value) → joined (to_first x vs) ≡ x ∷ joined vs
unfolding joined to_first
to_first_joined x [] = refl
to_first_joined x (v ∷ vs) = refl

pub joined_items : (v : Value) → joined (items v) ≡ v
unfolding joined items
joined_items [] = refl
joined_items (x ∷ v) = go (starts_top v) (joined_items v)
  where
    go : (b : Bool) → joined (items v) ≡ v → joined (cond b ((x ∷ []) ∷ items v) (to_first x (items v))) ≡ x ∷ v
    go true h = ap (λ (w : Value). x ∷ w) h
    go false h = to_first_joined x (items v) ∙ ap (λ (w : Value). x ∷ w) h

-- ## The first item and the others

pub items_cons : (x : Node) (v : Value) → items (x ∷ v) ≡ (x ∷ under v) ∷ items (onward v)
unfolding items under onward starts_top to_first
items_cons x [] = refl
items_cons x (y ∷ v) = go (is_top y) (items_cons y v)
  where
    go : (b : Bool) → items (y ∷ v) ≡ (y ∷ under v) ∷ items (onward v)
        → cond b ((x ∷ []) ∷ items (y ∷ v)) (to_first x (items (y ∷ v))) ≡ (x ∷ cond b [] (y ∷ under v)) ∷ items (cond b (y ∷ v) (onward v))
    go true h = refl
    go false h = ap (to_first x) h

pub under_onward : (v : Value) → under v ++ onward v ≡ v
unfolding under onward
under_onward [] = refl
under_onward (x ∷ v) = go (is_top x) (under_onward v)
  where
    go : (b : Bool) → under v ++ onward v ≡ v → cond b [] (x ∷ under v) ++ cond b (x ∷ v) (onward v) ≡ x ∷ v
    go true h = refl
    go false h = ap (λ (w : Value). x ∷ w) h

-- ## Two values joined

pub items_append : (v w : Value) → starts_top w ≡ true → items (v ++ w) ≡ items v ++ items w
unfolding items to_first starts_top
items_append [] w h = refl
items_append (x ∷ []) w h = rw h
items_append (x ∷ y ∷ v) w h = go (is_top y) (items_append (y ∷ v) w h) (items_cons y v)
  where
    go : (b : Bool) → items (y ∷ v ++ w) ≡ items (y ∷ v) ++ items w → items (y ∷ v) ≡ (y ∷ under v) ∷ items (onward v)
        → cond b ((x ∷ []) ∷ items (y ∷ v ++ w)) (to_first x (items (y ∷ v ++ w))) ≡ cond b ((x ∷ []) ∷ items (y ∷ v)) (to_first x (items (y ∷ v))) ++ items w
    go true h e = ap (λ (is : List Value). (x ∷ []) ∷ is) h
    go false h e = ap (to_first x) (h ∙ ap (λ (is : List Value). is ++ items w) e) ∙ ap (λ (is : List Value). to_first x is ++ items w) (sym e)

-- ## Going over the items

pub onward_starts_top : (v : Value) → starts_top (onward v) ≡ true
unfolding starts_top onward
onward_starts_top [] = refl
onward_starts_top (x ∷ v) = go (is_top x) refl (onward_starts_top v)
  where
    go : (b : Bool) → is_top x ≡ b → starts_top (onward v) ≡ true → starts_top (cond b (x ∷ v) (onward v)) ≡ true
    go true e h = e
    go false e h = h

pub under_no_top : (v : Value) → no_top (under v) ≡ true
unfolding no_top under
under_no_top [] = refl
under_no_top (x ∷ v) = go (is_top x) refl (under_no_top v)
  where
    go : (b : Bool) → is_top x ≡ b → no_top (under v) ≡ true → no_top (cond b [] (x ∷ under v)) ≡ true
    go true e h = refl
    go false e h = rw e h

-- there is no top node exactly if all nodes stand before the first one
pub all_under : (v : Value) → eqb (length (under v)) (length v) ≡ no_top v
unfolding no_top under
all_under [] = refl
all_under (x ∷ v) = go (is_top x) (all_under v)
  where
    go : (b : Bool) → eqb (length (under v)) (length v) ≡ no_top v → eqb (length (cond b [] (x ∷ under v))) (suc (length v)) ≡ (not b && no_top v)
    go true h = eqb-zero-suc (length v)
    go false h = eqb-suc-suc (length (under v)) (length v) ∙ h

onward_shorter : (v : Value) → length (onward v) ≤ length v
onward_shorter v = let l = length-append (under v) (onward v) in let e = ap length (under_onward v) in omega arith

-- item by item: the first item, then the items behind it
pub by_items : (P : Value → List Value → Type 0) → P [] []
    → ((x : Node) (v : Value) → P (onward v) (items (onward v)) → P (x ∷ v) ((x ∷ under v) ∷ items (onward v)))
    → (v : Value) → P v (items v)
unfolding items
by_items P none more v = go (length v) v (omega arith)
  where
    go : (k : ℕ) (v : Value) → length v ≤ k → P v (items v)
    go zero [] h = none
    go zero (x ∷ v) h = absurd (omega arith)
    go (suc k) [] h = none
    go (suc k) (x ∷ v) h = rw (items_cons x v) (more x v (go k (onward v) (let s = onward_shorter v in omega arith)))
