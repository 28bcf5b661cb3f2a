-- What is shown is within the bounds and a sequence of trees, if the source and the slots are; and a master is, if the line layer finds no fault in it.
use Rattle.std.specs.Prelude.{◌≡◌, refl, Bool, cond, ◌&&◌, ℕ, suc, ◌+◌, ◌≤◌, ◌<◌, leb, eqb, get_or, None, Some}
use Rattle.std.proofs.Common.{sym, ap, ◌∙◌, leb-true}
use Rattle.std.proofs.Math.Bool.{true, false}
use mathlib.Core.List.{List, [], ◌∷◌, ◌++◌, map}
use native.Mathlib.Omega.{arith}
use Rattle.std.proofs.Math.ListN.{length, length-append}
use Rattle.lines.specs.Nodes.{Line, is_element, no_line}
use Rattle.lines.specs.Masters.{depth_after, placed, bounds_from, master_bounds}
use Rattle.lines.specs.Theorems.Bools.{and_parts}
use Rattle.values.specs.Values.{master, Node, Value, Lookup, element_of, made, raised, items, most_nodes}
use Rattle.values.specs.Theorems.Forests.{Shallow, within_true, shallow_append, reach, Walk, Forest, forest_append}
use Rattle.values.specs.Theorems.Forests.{forest_raised, Good, good_nothing, good_single, good_contents, AllGood, good_items}
use Rattle.runs.specs.declared.stop.Stop.{Stop}
use Rattle.runs.specs.Results.{Result, gives}
use Rattle.runs.specs.Programs.{Transformation, source, nothing, text, tag, slot, contents, within, and_then, beside, each, choose, bind}
use Rattle.runs.specs.Showing.{Single, Slots, value_in, Shown, shown, one_element, in_turn, show, test}
use Rattle.runs.specs.Grounds.{numbered_from, lookup_in, whole, one_master, showing}
use Rattle.runs.specs.Theorems.Combinators.{Run, Asking, within_run, then_run, branch_run, choose_run, bound}
use Rattle.runs.specs.Theorems.Inversion.{on_gives, on_bind, on_element, on_bounded, on_turn}
use Rattle.runs.proofs.Theorems.OneMaster.{one_line}

-- ## Showing keeps them

module _ (look : Lookup) where
  abbrev pub GoodSlots : Slots → Type 0
  GoodSlots [] = Unit {0}
  GoodSlots (b ∷ slots) = Good look b.value × GoodSlots slots

  abbrev pub GivesGood : Result Stop Shown → Type 0
  GivesGood r = (o : Shown) → r ≡ gives o → Good look o.value

  abbrev pub Keeps : Run → Type 0
  Keeps run = (slots : Slots) (v : Value) → GoodSlots slots → Good look v → GivesGood (run slots v)

  shown_good : (v : Value) (c : List ℕ) → Good look v → GivesGood (shown v c)
  shown_good v c g o h = on_gives (λ z. Good look z.value) (record { value = v; compared = c }) o h g

  slot_good : (k : ℕ) (slots : Slots) → GoodSlots slots → Good look (value_in k slots)
  unfolding value_in
  slot_good k [] g = good_nothing look
  slot_good k (b ∷ slots) g = go (eqb k b.byte) (slot_good k slots g.1)
    where
      go : (t : Bool) → Good look (value_in k slots) → Good look (cond t b.value (value_in k slots))
      go true r = g.0
      go false r = r

  -- the contents that 06 and 07 work on
  element_good : (e : ℕ) (v : Value) (x : Single) → Good look v → one_element look e v ≡ gives x
      → Good look x.inner × (x.top.depth ≡ 0) × (element_of look x.top.origin ≡ true)
  element_good e v x g h =
      on_element look (λ w z. Good look w → Good look z.inner × (z.top.depth ≡ 0) × (element_of look z.top.origin ≡ true))
      (λ y w n el g. (good_contents look y w g n, g.trees.0, el)) e v x h g

  within_good : (e : ℕ) (run : Run) → Keeps run → Keeps (within_run look e run)
  within_good e run keeps slots v S g o h =
      on_bind (one_element look e v) _ o h λ x q h₁.
      on_bind (run slots x.inner) _ o h₁ λ a r h₂.
      let c = element_good e v x g q in
      on_bounded (λ z. Good look z.value) e (x.top ∷ raised a.value) a.compared o h₂ λ t.
      let b = within_true (x.top ∷ raised a.value) t in
      record { few = b.0; low = b.1; trees = forest_raised look x.top a.value c.1 c.2 (keeps slots x.inner S c.0 a r).trees }

  -- 09 and 0A: the parts, counted as they are joined
  abbrev pub AllGiveGood : List (Result Stop Shown) → Type 0
  AllGiveGood [] = Unit {0}
  AllGiveGood (r ∷ rs) = GivesGood r × AllGiveGood rs

  turn_good : (e n : ℕ) (rs : List (Result Stop Shown)) → AllGiveGood rs → n ≤ most_nodes → (o : Shown) → in_turn e n rs ≡ gives o
      → (n + length o.value ≤ most_nodes) × Shallow o.value × Forest look o.value
  unfolding in_turn
  turn_good e n [] G l o h =
      on_gives (λ z. (n + length z.value ≤ most_nodes) × Shallow z.value × Forest look z.value) (record { value = []; compared = [] }) o h (omega arith, tt, tt)
  turn_good e n (r ∷ rs) G l o h =
      on_turn (λ z. (n + length z.value ≤ most_nodes) × Shallow z.value × Forest look z.value) e n r rs o h λ a b p t q.
      let g = G.0 a p in
      let i = turn_good e (n + length a.value) rs G.1 (leb-true (n + length a.value) most_nodes t) b q in
      let s = length-append a.value b.value in
      (omega arith, shallow_append a.value b.value g.low i.1, forest_append look a.value b.value g.trees i.2)

  joined_good : (e : ℕ) (rs : List (Result Stop Shown)) → AllGiveGood rs → GivesGood (in_turn e 0 rs)
  joined_good e rs G o h = let r = turn_good e 0 rs G (omega arith) o h in record { few = omega arith; low = r.1; trees = r.2 }

  pub items_good : (f : Value → Result Stop Shown) → ((i : Value) → Good look i → GivesGood (f i)) → (is : List Value) → AllGood look is → AllGiveGood (map f is)
  items_good f F [] G = tt
  items_good f F (i ∷ is) G = (F i G.0, items_good f F is G.1)

  then_good : (f g : Run) → Keeps f → Keeps g → Keeps (then_run f g)
  then_good f g F G slots v S k o h =
      on_bind (f slots v) _ o h λ a p h₁.
      on_bind (g slots a.value) _ o h₁ λ b q h₂.
      shown_good b.value (a.compared ++ b.compared) (G slots a.value S (F slots v S k a p) b q) o h₂

  branch_good : (t : Bool) (f g : Run) → Keeps f → Keeps g → Keeps (branch_run t f g)
  branch_good true f g F G = F
  branch_good false f g F G = G

  choose_good : (ask : Asking) (f g : Run) → Keeps f → Keeps g → Keeps (choose_run ask f g)
  choose_good ask f g F G slots v S k o h =
      on_bind (ask slots v) _ o h λ p q h₁.
      on_bind (branch_run p.yes f g slots v) _ o h₁ λ a r h₂.
      shown_good a.value (p.compared ++ a.compared) (branch_good p.yes f g F G slots v S k a r) o h₂

  -- tests make no value
  mutual
    unfolding show

    pub shows_good : (X : Transformation) → Keeps (show look X)
    shows_good (source e) = λ slots v S g. shown_good v [] g
    shows_good (nothing e) = λ slots v S g. shown_good [] [] (good_nothing look)
    shows_good (text e b) = λ slots v S g. shown_good (made e false b ∷ []) [] (good_single look (made e false b) refl)
    shows_good (tag e b) = λ slots v S g. shown_good (made e true b ∷ []) [] (good_single look (made e true b) refl)
    shows_good (slot e k) = λ slots v S g. shown_good (value_in k slots) [] (slot_good k slots S)
    shows_good (contents e) = λ slots v S g o h. on_bind (one_element look e v) _ o h λ x q h₁. shown_good x.inner [] (element_good e v x g q).0 o h₁
    shows_good (within e X) = within_good e (show look X) (shows_good X)
    shows_good (and_then e X Y) = then_good (show look X) (show look Y) (shows_good X) (shows_good Y)
    shows_good (beside e X Y) = λ slots v S g. joined_good e (show look X slots v ∷ show look Y slots v ∷ []) (shows_good X slots v S g, (shows_good Y slots v S g, tt))
    shows_good (each e X) = λ slots v S g.
        joined_good e (map (show look X slots) (items v)) (items_good (show look X slots) (λ i k. shows_good X slots i S k) (items v) (good_items look v g))
    shows_good (choose e P X Y) = choose_good (test look P) (show look X) (show look Y) (shows_good X) (shows_good Y)
    shows_good (bind e k X) = λ slots v S g. shows_good X (bound k slots v) [] (g, S) (good_nothing look)

-- ## A master

length_whole : (k : ℕ) (ls : List Line) → length (whole (numbered_from k ls)) ≡ length ls
unfolding whole numbered_from
length_whole k [] = refl
length_whole k (l ∷ ls) = ap suc (length_whole (suc k) ls)

-- the lines from number k on, behind a node that reaches `most`
lines_good : (look : Lookup) (x : Node) (most k : ℕ) (ls : List Line) → bounds_from most k ls ≡ None → most ≤ reach look x
    → ((i : ℕ) → i < length ls → look.element (k + i) ≡ is_element (get_or ls i no_line).kind)
    → Walk look x (whole (numbered_from k ls)) × Shallow (whole (numbered_from k ls))
unfolding bounds_from placed depth_after whole numbered_from element_of
lines_good look x most k [] h m f = (tt, tt)
lines_good look x most k (l ∷ ls) h m f =
    go (placed most k l) refl h (λ q.
    lines_good look y (depth_after l) (suc k) ls q
    (reaches (look.element k) (is_element l.kind) (ap (λ (j : ℕ). look.element j) (let e : k ≡ k + 0 = omega arith in e) ∙ f 0 (omega arith)))
    (λ i b. ap (λ (j : ℕ). look.element j) (let e : suc k + i ≡ k + suc i = omega arith in e) ∙ f (suc i) (omega arith)))
  where
    y : Node
    y = record { depth = l.depth; origin = master k }

    reaches : (a b : Bool) → a ≡ b → cond b (l.depth + 1) l.depth ≤ cond a (suc l.depth) l.depth
    reaches true b e = rw (sym e) (omega arith)
    reaches false b e = rw (sym e) (omega arith)

    go : (b : Bool) → placed most k l ≡ b → cond b (bounds_from (depth_after l) (suc k) ls) (Some k) ≡ None
        → (bounds_from (depth_after l) (suc k) ls ≡ None → Walk look y (whole (numbered_from (suc k) ls)) × Shallow (whole (numbered_from (suc k) ls)))
        → Walk look x (y ∷ whole (numbered_from (suc k) ls)) × Shallow (y ∷ whole (numbered_from (suc k) ls))
    go true e q ih =
        let p = and_parts (leb l.depth most) (leb l.depth 7 && eqb l.number k) e in
        let r = and_parts (leb l.depth 7) (eqb l.number k) p.1 in
        let a = leb-true l.depth most p.0 in
        let b = leb-true l.depth 7 r.0 in
        let i = ih q in
        ((omega arith, i.0), (omega arith, i.1))
    go false e q ih = let z : ◌≡◌ {A = ℕ} 0 1 = cc in absurd (omega arith)

-- behind a text at depth 0 the first line has depth 0
pub master_good : (ls : List Line) → length ls ≤ most_nodes → master_bounds ls ≡ None → Good (lookup_in (numbered_from 0 ls)) (whole (numbered_from 0 ls))
unfolding master_bounds element_of
master_good ls few h =
    let look = lookup_in (numbered_from 0 ls) in
    let r = lines_good look (made 0 false []) 0 0 ls h (omega arith) (λ i b. ap (λ (l : Line). is_element l.kind) (one_line 0 ls i)) in
    record { few = le (length_whole 0 ls); low = r.1; trees = first (whole (numbered_from 0 ls)) r.0 }
  where
    le : length (whole (numbered_from 0 ls)) ≡ length ls → length (whole (numbered_from 0 ls)) ≤ most_nodes
    le e = omega arith

    first : (v : Value) → Walk (lookup_in (numbered_from 0 ls)) (made 0 false []) v → Forest (lookup_in (numbered_from 0 ls)) v
    first [] w = tt
    first (x ∷ v) w = let d = w.0 in (omega arith, w.1)

-- so what one master shows is within the bounds, and a sequence of trees
pub master_shows_good : (ls : List Line) → length ls ≤ most_nodes → master_bounds ls ≡ None → (X : Transformation) (o : Shown) → showing (one_master ls) X ≡ gives o
    → Good (lookup_in (numbered_from 0 ls)) o.value
unfolding showing
master_shows_good ls few h X o shows = shows_good (lookup_in (numbered_from 0 ls)) X [] (whole (numbered_from 0 ls)) tt (master_good ls few h) o shows
