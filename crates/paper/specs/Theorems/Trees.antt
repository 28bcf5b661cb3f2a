-- Between the two pages: trees whose nodes are origins. Flat they are the rules' value, painted they are the paper's sequence.
use Rattle.std.proofs.Math.Path.{◌≡◌, refl, subst⁻¹}
use Rattle.std.proofs.Common.{sym, ap, ap₂, subst, ◌∙◌, arith}
use Rattle.std.specs.Prelude.{Bool, ◌&&◌, ◌||◌, not, ℕ, suc, eqb}
use Rattle.std.proofs.Math.Bool.{true, false, cond}
use mathlib.Core.List.{List, [], ◌∷◌, ◌++◌, append-nil, append_assoc}
use Rattle.std.proofs.Math.Dec.{eqb-suc-zero}
use Rattle.lines.specs.Nodes.{untouched_mark, program_number}
use Rattle.values.specs.Values.{among, Origin, master, program, Node, Value, Lookup, element_of, bytes_of, is_top, no_top, under, onward, lowered, raised, items}
use Rattle.values.specs.Theorems.Items.{items_cons}
use Rattle.runs.specs.declared.stop.Stop.TheVariants.{Source}
use Rattle.runs.specs.Results.{gives, stops}
use Rattle.runs.specs.Showing.{Slots, value_in, Single, one_top, one_element, one_text}
use Rattle.paper.specs.Data.{From, src, code, Sequence, none, str, elt, ◌⧺◌, fail, got, the_string, the_element, the_item}
use Rattle.paper.specs.Contexts.{Context, find}
use Rattle.paper.specs.Lines.{updating_of, element_updating_of}

-- ## Sequences joined

pub seq_none : (S : Sequence) → S ⧺ none ≡ S
seq_none none = refl
seq_none (str t u o S) = rw (seq_none S)
seq_none (elt t w o K S) = rw (seq_none S)

pub seq_assoc : (S T U : Sequence) → S ⧺ T ⧺ U ≡ S ⧺ (T ⧺ U)
seq_assoc none T U = refl
seq_assoc (str t u o S) T U = rw (seq_assoc S T U)
seq_assoc (elt t w o K S) T U = rw (seq_assoc S T U)

-- ## Trees

-- nothing, or a text or an element in front
pub data Trees : Type 0 where
  nil : Trees
  txt : Origin → Trees → Trees
  elm : Origin → Trees → Trees → Trees

abbrev pub at : ℕ → Origin → Node
at d o = record { depth = d; origin = o }

-- as a value, the top nodes at depth d
abbrev pub flat : ℕ → Trees → Value
flat d nil = []
flat d (txt o r) = at d o ∷ flat d r
flat d (elm o k r) = at d o ∷ (flat (suc d) k ++ flat d r)

infixl 40 ◌⊹◌
abbrev pub ◌⊹◌ : Trees → Trees → Trees
nil ⊹ g = g
txt o r ⊹ g = txt o (r ⊹ g)
elm o k r ⊹ g = elm o k (r ⊹ g)

-- what the slots are bound to, innermost first
abbrev pub Scope : Type 0
Scope = List (ℕ × Trees)

abbrev pub flat_slots : Scope → Slots
flat_slots [] = []
flat_slots (b ∷ C) = record { byte = b.0; value = flat 0 b.1 } ∷ flat_slots C

abbrev pub names : Scope → List ℕ
names [] = []
names (b ∷ C) = b.0 ∷ names C

-- ## Flat

pub flat_append : (d : ℕ) (f g : Trees) → flat d (f ⊹ g) ≡ flat d f ++ flat d g
flat_append d nil g = refl
flat_append d (txt o r) g = ap (λ (v : Value). at d o ∷ v) (flat_append d r g)
flat_append d (elm o k r) g = rw (flat_append d r g, append_assoc (flat (suc d) k) (flat d r) (flat d g))

raised_append : (v w : Value) → raised (v ++ w) ≡ raised v ++ raised w
unfolding raised
raised_append [] w = refl
raised_append (x ∷ v) w = ap (λ (z : Value). at (suc x.depth) x.origin ∷ z) (raised_append v w)

pub flat_raised : (d : ℕ) (f : Trees) → raised (flat d f) ≡ flat (suc d) f
unfolding raised
flat_raised d nil = refl
flat_raised d (txt o r) = ap (λ (v : Value). at (suc d) o ∷ v) (flat_raised d r)
flat_raised d (elm o k r) =
    ap (λ (v : Value). at (suc d) o ∷ v) (raised_append (flat (suc d) k) (flat d r) ∙ ap₂ (λ (v w : Value). v ++ w) (flat_raised (suc d) k) (flat_raised d r))

lowered_raised : (v : Value) → lowered (raised v) ≡ v
unfolding lowered raised
lowered_raised [] = refl
lowered_raised (x ∷ v) = ap (λ (z : Value). x ∷ z) (lowered_raised v)

pub flat_lowered : (d : ℕ) (f : Trees) → lowered (flat (suc d) f) ≡ flat d f
flat_lowered d f = ap lowered (sym (flat_raised d f)) ∙ lowered_raised (flat d f)

-- ## Top nodes

no_top_append : (v w : Value) → no_top v ≡ true → no_top w ≡ true → no_top (v ++ w) ≡ true
unfolding no_top
no_top_append [] w p q = q
no_top_append (x ∷ v) w p q = go (not (is_top x)) p (λ r. no_top_append v w r q)
  where
    go : (b : Bool) → (b && no_top v) ≡ true → (no_top v ≡ true → no_top (v ++ w) ≡ true) → (b && no_top (v ++ w)) ≡ true
    go true h r = r h
    go false h r = h

pub no_top_flat : (d : ℕ) (f : Trees) → no_top (flat (suc d) f) ≡ true
unfolding no_top is_top
no_top_flat d nil = refl
no_top_flat d (txt o r) = rw (eqb-suc-zero d) (no_top_flat d r)
no_top_flat d (elm o k r) = rw (eqb-suc-zero d) (no_top_append (flat (suc (suc d)) k) (flat (suc d) r) (no_top_flat (suc d) k) (no_top_flat d r))

some_top : (u v : Value) (o : Origin) → no_top (u ++ (at 0 o ∷ v)) ≡ false
unfolding no_top is_top
some_top [] v o = refl
some_top (x ∷ u) v o = go (not (is_top x)) (some_top u v o)
  where
    go : (b : Bool) → no_top (u ++ (at 0 o ∷ v)) ≡ false → (b && no_top (u ++ (at 0 o ∷ v))) ≡ false
    go true h = h
    go false h = refl

-- ## Items

abbrev pub items_of : Trees → List Value
items_of nil = []
items_of (txt o r) = flat 0 (txt o nil) ∷ items_of r
items_of (elm o k r) = flat 0 (elm o k nil) ∷ items_of r

-- behind nodes that are no top nodes
under_append : (u w : Value) → no_top u ≡ true → (under (u ++ w) ≡ u ++ under w) × (onward (u ++ w) ≡ onward w)
unfolding no_top under onward
under_append [] w h = (refl, refl)
under_append (x ∷ u) w h = go (is_top x) h (λ r. under_append u w r)
  where
    go : (b : Bool) → (not b && no_top u) ≡ true → (no_top u ≡ true → (under (u ++ w) ≡ u ++ under w) × (onward (u ++ w) ≡ onward w))
        → (cond b [] (x ∷ under (u ++ w)) ≡ x ∷ (u ++ under w)) × (cond b (x ∷ (u ++ w)) (onward (u ++ w)) ≡ onward w)
    go true h r = absurd (let z : ◌≡◌ {A = ℕ} 0 1 = cc in omega arith)
    go false h r = let i = r h in (ap (λ (v : Value). x ∷ v) i.0, i.1)

-- a flat value begins with a top node
flat_starts : (f : Trees) → (under (flat 0 f) ≡ []) × (onward (flat 0 f) ≡ flat 0 f)
unfolding under onward is_top
flat_starts nil = (refl, refl)
flat_starts (txt o r) = (refl, refl)
flat_starts (elm o k r) = (refl, refl)

pub items_flat : (f : Trees) → items (flat 0 f) ≡ items_of f
unfolding items
items_flat nil = refl
items_flat (txt o r) = let s = flat_starts r in items_cons (at 0 o) (flat 0 r) ∙ rw (s.0, s.1, items_flat r)
items_flat (elm o k r) =
    let s = flat_starts r in
    let u = under_append (flat 1 k) (flat 0 r) (no_top_flat 0 k) in
    items_cons (at 0 o) (flat 1 k ++ flat 0 r) ∙ rw (u.0, u.1, s.0, s.1, items_flat r)

-- ## The paper's sequence: texts and marks of the master looked up

abbrev pub from_origin : Origin → From
from_origin (master n) = src n
from_origin (program e b t) = code

abbrev pub mark_for : (ℕ → ℕ) → Origin → ℕ
mark_for marks (master n) = marks n
mark_for marks (program e b t) = untouched_mark

-- its number is not the program's
abbrev pub Numbering : Origin → Type 0
Numbering (master n) = eqb n program_number ≡ false
Numbering (program e b t) = Unit {0}

module _ (look : Lookup) (marks : ℕ → ℕ) where
  abbrev pub paint : Trees → Sequence
  paint nil = none
  paint (txt o r) = str (bytes_of look o) (updating_of (mark_for marks o)) (from_origin o) (paint r)
  paint (elm o k r) = elt (bytes_of look o) (element_updating_of (mark_for marks o)) (from_origin o) (paint k) (paint r)

  abbrev pub paint_all : Scope → Context
  paint_all [] = []
  paint_all (b ∷ C) = (b.0, paint b.1) ∷ paint_all C

  pub paint_append : (f g : Trees) → paint (f ⊹ g) ≡ paint f ⧺ paint g
  paint_append nil g = refl
  paint_append (txt o r) g = rw (paint_append r g)
  paint_append (elm o k r) g = rw (paint_append r g)

-- the kinds are those looked up, and the numbers a master's
module _ (look : Lookup) where
  abbrev pub Right : Trees → Type 0
  Right nil = Unit {0}
  Right (txt o r) = (element_of look o ≡ false) × Numbering o × Right r
  Right (elm o k r) = (element_of look o ≡ true) × Numbering o × Right k × Right r

  abbrev pub RightAll : Scope → Type 0
  RightAll [] = Unit {0}
  RightAll (b ∷ C) = Right b.1 × RightAll C

  pub right_append : (f g : Trees) → Right f → Right g → Right (f ⊹ g)
  right_append nil g p q = q
  right_append (txt o r) g p q = (p.0, p.1, right_append r g p.2 q)
  right_append (elm o k r) g p q = (p.0, p.1, p.2, right_append r g p.3 q)

-- ## The slots' trees

abbrev pub trees_in : ℕ → Scope → Trees
trees_in k [] = nil
trees_in k (b ∷ C) = cond (eqb k b.0) b.1 (trees_in k C)

pub value_trees : (k : ℕ) (C : Scope) → value_in k (flat_slots C) ≡ flat 0 (trees_in k C)
unfolding value_in
value_trees k [] = refl
value_trees k (b ∷ C) = go (eqb k b.0) (value_trees k C)
  where
    go : (t : Bool) → value_in k (flat_slots C) ≡ flat 0 (trees_in k C) → cond t (flat 0 b.1) (value_in k (flat_slots C)) ≡ flat 0 (cond t b.1 (trees_in k C))
    go true h = refl
    go false h = h

module _ (look : Lookup) where
  pub right_trees : (k : ℕ) (C : Scope) → RightAll look C → Right look (trees_in k C)
  right_trees k [] R = tt
  right_trees k (b ∷ C) R = go (eqb k b.0) (right_trees k C R.1)
    where
      go : (t : Bool) → Right look (trees_in k C) → Right look (cond t b.1 (trees_in k C))
      go true h = R.0
      go false h = h

module _ (look : Lookup) (marks : ℕ → ℕ) where
  pub find_trees : (k : ℕ) (C : Scope) → among k (names C) ≡ true → find k (paint_all look marks C) ≡ got (paint look marks (trees_in k C))
  unfolding among
  find_trees k [] h = absurd (let z : ◌≡◌ {A = ℕ} 0 1 = cc in omega arith)
  find_trees k (b ∷ C) h = go (eqb k b.0) h (λ r. find_trees k C r)
    where
      go : (t : Bool) → (t || among k (names C)) ≡ true → (among k (names C) ≡ true → find k (paint_all look marks C) ≡ got (paint look marks (trees_in k C)))
          → cond t (got (paint look marks b.1)) (find k (paint_all look marks C)) ≡ got (paint look marks (cond t b.1 (trees_in k C)))
      go true h r = refl
      go false h r = r h

-- ## One element, one text, one item: in the value and in the sequence

module _ (look : Lookup) (marks : ℕ → ℕ) where
  abbrev inner : Origin → Trees → Single
  inner o k = record { top = at 0 o; inner = flat 0 k }

  pub data ElementView (e : ℕ) (f : Trees) : Type 0 where
    is_elm : (o : Origin) (k : Trees) → f ≡ elm o k nil → element_of look o ≡ true → Numbering o → Right look k
        → one_element look e (flat 0 f) ≡ gives (record { top = at 0 o; inner = flat 0 k })
        → the_element (paint look marks f) ≡ got (record { tag = bytes_of look o; state = element_updating_of (mark_for marks o); origin = from_origin o; contents = paint look marks k })
        → ElementView e f
    not_elm : one_element look e (flat 0 f) ≡ stops (Source e) → the_element (paint look marks f) ≡ fail → ElementView e f

  single_elm : (e : ℕ) (o : Origin) (k : Trees) → one_top e (flat 0 (elm o k nil)) ≡ gives (inner o k)
  unfolding one_top
  single_elm e o k = rw (append-nil (flat 1 k), no_top_flat 0 k, flat_lowered 0 k)

  double_top : (e : ℕ) (o p : Origin) (k : Trees) (v : Value) → one_top e (at 0 o ∷ (flat 1 k ++ (at 0 p ∷ v))) ≡ stops (Source e)
  unfolding one_top
  double_top e o p k v = rw (some_top (flat 1 k) v p)

  pub element_view : (e : ℕ) (f : Trees) → Right look f → ElementView e f
  unfolding one_element one_top no_top is_top
  element_view e nil g = not_elm refl refl
  element_view e (txt o nil) g = not_elm (rw g.0) refl
  element_view e (txt o (txt p r)) g = not_elm refl refl
  element_view e (txt o (elm p k r)) g = not_elm refl refl
  element_view e (elm o k nil) g = is_elm o k refl g.0 g.1 g.2 (rw (single_elm e o k, g.0)) refl
  element_view e (elm o k (txt p r)) g = not_elm (rw (double_top e o p k (flat 0 r))) refl
  element_view e (elm o k (elm p l r)) g = not_elm (rw (double_top e o p k (flat 1 l ++ flat 0 r))) refl

  pub data TextView (e : ℕ) (f : Trees) : Type 0 where
    is_txt : (o : Origin) → f ≡ txt o nil → one_text look e (flat 0 f) ≡ gives (at 0 o) → the_string (paint look marks f) ≡ got (bytes_of look o) → TextView e f
    not_txt : one_text look e (flat 0 f) ≡ stops (Source e) → the_string (paint look marks f) ≡ fail → TextView e f

  longer : (e : ℕ) (o : Origin) (v : Value) → element_of look o ≡ true → one_text look e (at 0 o ∷ v) ≡ stops (Source e)
  unfolding one_text
  longer e o [] h = rw h
  longer e o (x ∷ v) h = refl

  pub text_view : (e : ℕ) (f : Trees) → Right look f → TextView e f
  unfolding one_text
  text_view e nil g = not_txt refl refl
  text_view e (txt o nil) g = is_txt o refl (rw g.0) refl
  text_view e (txt o (txt p r)) g = not_txt refl refl
  text_view e (txt o (elm p k r)) g = not_txt refl refl
  text_view e (elm o k r) g = not_txt (longer e o (flat 1 k ++ flat 0 r) g.0) refl

  pub data ItemView (e : ℕ) (f : Trees) : Type 0 where
    is_item : (o : Origin) (v : Value) → one_top e (flat 0 f) ≡ gives (record { top = at 0 o; inner = v }) → the_item (paint look marks f) ≡ got (element_of look o) → ItemView e f
    not_item : one_top e (flat 0 f) ≡ stops (Source e) → the_item (paint look marks f) ≡ fail → ItemView e f

  pub item_view : (e : ℕ) (f : Trees) → Right look f → ItemView e f
  unfolding one_top no_top is_top
  item_view e nil g = not_item refl refl
  item_view e (txt o nil) g = is_item o (lowered []) refl (rw g.0)
  item_view e (txt o (txt p r)) g = not_item refl refl
  item_view e (txt o (elm p k r)) g = not_item refl refl
  item_view e (elm o k nil) g = is_item o (flat 0 k) (single_elm e o k) (rw g.0)
  item_view e (elm o k (txt p r)) g = not_item (double_top e o p k (flat 0 r)) refl
  item_view e (elm o k (elm p l r)) g = not_item (double_top e o p k (flat 1 l ++ flat 0 r)) refl

  -- it is enough to know it of an element
  pub on_elm : (e : ℕ) (P : Trees → Type 0) → ((f : Trees) → one_element look e (flat 0 f) ≡ stops (Source e) → P f)
      → ((w : Origin) (k : Trees) → element_of look w ≡ true → Numbering w → Right look k
      → one_element look e (flat 0 (elm w k nil)) ≡ gives (record { top = at 0 w; inner = flat 0 k }) → P (elm w k nil))
      → (f : Trees) → Right look f → P f
  on_elm e P bad good f F = go (element_view e f F)
    where
      go : ElementView e f → P f
      go (is_elm w k z i n K p q) = subst⁻¹ P z (good w k i n K (subst (λ (x : Trees). one_element look e (flat 0 x) ≡ gives (record { top = at 0 w; inner = flat 0 k })) z p))
      go (not_elm p q) = bad f p

  -- and of a text
  pub on_txt : (e : ℕ) (P : Trees → Type 0) → ((f : Trees) → one_text look e (flat 0 f) ≡ stops (Source e) → P f)
      → ((w : Origin) → one_text look e (flat 0 (txt w nil)) ≡ gives (at 0 w) → P (txt w nil)) → (f : Trees) → Right look f → P f
  on_txt e P bad good f F = go (text_view e f F)
    where
      go : TextView e f → P f
      go (is_txt w z p q) = subst⁻¹ P z (good w (subst (λ (x : Trees). one_text look e (flat 0 x) ≡ gives (at 0 w)) z p))
      go (not_txt p q) = bad f p
