-- "09 cuts the view by the two shown lengths in top nodes", and 0A likewise; the rules cut by nodes. It is the same cut.
use Rattle.std.specs.Prelude.{◌≡◌, refl, true, ℕ, ◌+◌, length, take, drop}
use Rattle.std.proofs.Common.{sym, ap, ap₂, ◌∙◌, eq-eqb}
use mathlib.Core.List.{List, [], ◌∷◌, ◌++◌, map, map-map}
use Rattle.std.proofs.Math.Seq.{take-append_seam, drop-append_seam}
use Rattle.values.specs.Values.{Value, Lookup, is_top, starts_top, items, joined}
use Rattle.values.specs.Theorems.Items.{joined_items, items_append}
use Rattle.values.specs.Theorems.Forests.{Forest, Good, good_items}
use Rattle.runs.specs.declared.stop.Stop.{Stop}
use Rattle.runs.specs.Results.{Result, gives, stops}
use Rattle.runs.specs.Programs.{Transformation, beside, each}
use Rattle.runs.specs.Showing.{Slots, Shown, in_turn, show}
use Rattle.runs.specs.PuttingBack.{value_of}
use Rattle.runs.proofs.Theorems.Bounds.{GoodSlots, AllGiveGood, items_good, shows_good}
use Rattle.runs.specs.Theorems.Inversion.{on_gives, on_turn}

-- ## Cutting by top nodes

-- how many top nodes there are
unfoldable pub tops : Value → ℕ
tops v = length (items v)

-- the nodes of the first k top nodes, with their contents
unfoldable pub nodes_of : ℕ → Value → ℕ
nodes_of k v = length (joined (take k (items v)))

-- the lengths in nodes of parts that are given by their top nodes
unfoldable pub cut_at : List ℕ → Value → List ℕ
cut_at [] v = []
cut_at (k ∷ ks) v = nodes_of k v ∷ cut_at ks (drop (nodes_of k v) v)

-- ## The same cut

nodes_of_first : (v w : Value) → starts_top w ≡ true → nodes_of (tops v) (v ++ w) ≡ length v
unfolding nodes_of tops
nodes_of_first v w h = rw (items_append v w h, take-append_seam (items v) (items w), joined_items v)

forest_starts_top : (look : Lookup) (v : Value) → Forest look v → starts_top v ≡ true
unfolding starts_top is_top
forest_starts_top look [] f = refl
forest_starts_top look (x ∷ v) f = eq-eqb x.depth 0 f.0

-- all parts are sequences of trees
abbrev pub Forests : Lookup → List Value → Type 0
Forests look [] = Unit {0}
Forests look (v ∷ vs) = Forest look v × Forests look vs

joined_starts_top : (look : Lookup) (vs : List Value) → Forests look vs → starts_top (joined vs) ≡ true
unfolding joined starts_top
joined_starts_top look [] f = refl
joined_starts_top look ([] ∷ vs) f = joined_starts_top look vs f.1
joined_starts_top look ((x ∷ v) ∷ vs) f = forest_starts_top look (x ∷ v) f.0

pub same_cut : (look : Lookup) (vs : List Value) → Forests look vs → cut_at (map tops vs) (joined vs) ≡ map length vs
unfolding cut_at joined
same_cut look [] f = refl
same_cut look (v ∷ vs) f =
    rw (nodes_of_first v (joined vs) (joined_starts_top look vs f.1), drop-append_seam v (joined vs), same_cut look vs f.1)

-- ## In a run: what 09 and 0A show is their parts joined

pub turn_joined : (e n : ℕ) (rs : List (Result Stop Shown)) (o : Shown) → in_turn e n rs ≡ gives o → o.value ≡ joined (map value_of rs)
unfolding in_turn joined value_of
turn_joined e n [] o h = on_gives (λ z. z.value ≡ []) (record { value = []; compared = [] }) o h refl
turn_joined e n (r ∷ rs) o h =
    on_turn (λ z. z.value ≡ value_of r ++ joined (map value_of rs)) e n r rs o h λ a b p _ q.
    ap₂ (λ (v w : Value). v ++ w) (sym (ap value_of p)) (turn_joined e (n + length a.value) rs b q)

-- the view of 09 or 0A, cut by the top nodes that its parts showed, is cut by the nodes that they showed
pub run_same_cut : (look : Lookup) (e n : ℕ) (rs : List (Result Stop Shown)) (o : Shown) → in_turn e n rs ≡ gives o → Forests look (map value_of rs)
    → cut_at (map (λ r. tops (value_of r)) rs) o.value ≡ map (λ r. length (value_of r)) rs
run_same_cut look e n rs o h f =
    ap₂ (λ (ks : List ℕ) (v : Value). cut_at ks v) (sym (map-map tops value_of rs)) (turn_joined e n rs o h) ∙ same_cut look (map value_of rs) f ∙ map-map length value_of rs

-- 09 and 0A over a source within the bounds
module _ (look : Lookup) where
  good_forests : (rs : List (Result Stop Shown)) → AllGiveGood look rs → Forests look (map value_of rs)
  unfolding value_of
  good_forests [] g = tt
  good_forests (gives a ∷ rs) g = ((g.0 a refl).trees, good_forests rs g.1)
  good_forests (stops s ∷ rs) g = (tt, good_forests rs g.1)

  pub beside_same_cut : (e : ℕ) (X Y : Transformation) (slots : Slots) (v : Value) (o : Shown) → GoodSlots look slots → Good look v
      → show look (beside e X Y) slots v ≡ gives o
      → let a = value_of (show look X slots v) in let b = value_of (show look Y slots v) in cut_at (tops a ∷ tops b ∷ []) o.value ≡ length a ∷ length b ∷ []
  unfolding show
  beside_same_cut e X Y slots v o S g h =
      let rs = show look X slots v ∷ show look Y slots v ∷ [] in
      run_same_cut look e 0 rs o h (good_forests rs (shows_good look X slots v S g, (shows_good look Y slots v S g, tt)))

  pub each_same_cut : (e : ℕ) (X : Transformation) (slots : Slots) (v : Value) (o : Shown) → GoodSlots look slots → Good look v
      → show look (each e X) slots v ≡ gives o
      → let parts = map (show look X slots) (items v) in cut_at (map (λ r. tops (value_of r)) parts) o.value ≡ map (λ r. length (value_of r)) parts
  unfolding show
  each_same_cut e X slots v o S g h =
      let rs = map (show look X slots) (items v) in
      run_same_cut look e 0 rs o h (good_forests rs (items_good look (show look X slots) (λ i k. shows_good look X slots i S k) (items v) (good_items look v g)))
