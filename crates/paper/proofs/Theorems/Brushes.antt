-- Trees with standings beside them, as the paper's sequence. Two of the same trees merge in `mg` as their standings do, and a clash is `fail`.
use Rattle.std.specs.Prelude.{◌≡◌, Bool, true, false, length, drop}
use Rattle.std.proofs.Math.Path.{refl}
use Rattle.std.proofs.Common.{ap, ap₂, ◌∙◌, eq-eqb, length-append}
use mathlib.Core.List.{List, [], ◌∷◌}
use Prim.Native.Nat.{ℕ, zero, suc, ◌+◌}
use Rattle.lines.specs.Texts.{same_text}
use Rattle.lines.specs.Theorems.SameTexts.{same_text_refl}
use Rattle.values.specs.Values.{Origin, master, program, Lookup, bytes_of, is_from}
use Rattle.values.specs.Standings.{Standing, untouched, locked, changed, deleted, clash, sort, new_text, is_untouched, is_clash, same_standing, ◌⋓◌, first_of, rest_of, merged, gathered}
use Rattle.values.proofs.Theorems.MergeLaws.{clash_is, clash_left, unit_left, merge_comm, merge_swap}
use Rattle.values.proofs.Theorems.Gathering.{only, merged_first, merged_rest, drop_rest, gathered_cut, gathered_take}
use Rattle.runs.specs.PuttingBack.{SlotStandings, first_slot, rest_slots}
use Rattle.paper.specs.Data.{Updating, ori, non, mod', del, ElementUpdating, ori_e, del_e, src, Sequence, none, str, elt, fail, got, same_from}
use Rattle.paper.specs.Operators.{mg_string, mg_element, mg}
use Rattle.paper.specs.Theorems.Trees.{Trees, nil, txt, elm, flat, Scope, from_origin}

-- ## How many nodes

abbrev pub size : Trees → ℕ
size nil = 0
size (txt o r) = suc (size r)
size (elm o k r) = suc (size k + size r)

pub length_flat : (d : ℕ) (f : Trees) → length (flat d f) ≡ size f
length_flat d nil = refl
length_flat d (txt o r) = ap suc (length_flat d r)
length_flat d (elm o k r) = ap suc (length-append (flat (suc d) k) (flat d r) ∙ ap₂ (λ (a b : ℕ). a + b) (length_flat (suc d) k) (length_flat d r))

-- ## A standing as text and updating state. Those of nodes from the program are dropped

abbrev pub text_with : List ℕ → Standing → List ℕ
text_with t untouched = t
text_with t locked = t
text_with t (changed u) = u
text_with t deleted = t
text_with t clash = t

abbrev pub state_with : Standing → Updating
state_with untouched = ori
state_with locked = non
state_with (changed u) = mod'
state_with deleted = del
state_with clash = ori

abbrev pub element_with : Standing → ElementUpdating
element_with untouched = ori_e
element_with locked = ori_e
element_with (changed u) = ori_e
element_with deleted = del_e
element_with clash = ori_e

abbrev pub text_for : Lookup → Origin → Standing → List ℕ
text_for look (master n) s = text_with (look.bytes n) s
text_for look (program e b t) s = t

abbrev pub state_for : Origin → Standing → Updating
state_for (master n) s = state_with s
state_for (program e b t) s = ori

abbrev pub element_for : Origin → Standing → ElementUpdating
element_for (master n) s = element_with s
element_for (program e b t) s = ori_e

abbrev pub brush : Lookup → Trees → List Standing → Sequence
brush look nil ss = none
brush look (txt o r) ss = str (text_for look o (first_of ss)) (state_for o (first_of ss)) (from_origin o) (brush look r (rest_of ss))
brush look (elm o k r) ss = elt (bytes_of look o) (element_for o (first_of ss)) (from_origin o) (brush look k (rest_of ss)) (brush look r (drop (size k) (rest_of ss)))

-- ## Standings that the paper can write: no clash, elements untouched or deleted; and of texts those that are permitted besides

pub record Permit : Type 0 where
  pub permits : ℕ → Standing → Bool
  pub untouched_permitted : (n : ℕ) → permits n untouched ≡ true
  pub locked_permitted : (n : ℕ) → permits n locked ≡ true
  pub merge_permitted : (n : ℕ) (s t : Standing) → permits n s ≡ true → permits n t ≡ true → permits n (s ⋓ t) ≡ true

abbrev pub is_plain : Standing → Bool
is_plain untouched = true
is_plain locked = false
is_plain (changed t) = false
is_plain deleted = true
is_plain clash = false

module _ (permit : Permit) where
  abbrev pub FineText : Origin → Standing → Type 0
  FineText (master n) s = (is_clash s ≡ false) × (permit.permits n s ≡ true)
  FineText (program e b t) s = Unit {0}

  abbrev pub FineElement : Origin → Standing → Type 0
  FineElement (master n) s = is_plain s ≡ true
  FineElement (program e b t) s = Unit {0}

  abbrev pub Fine : Trees → List Standing → Type 0
  Fine nil ss = Unit {0}
  Fine (txt o r) ss = FineText o (first_of ss) × Fine r (rest_of ss)
  Fine (elm o k r) ss = FineElement o (first_of ss) × Fine k (rest_of ss) × Fine r (drop (size k) (rest_of ss))

  abbrev pub FineAll : Scope → SlotStandings → Type 0
  FineAll [] us = Unit {0}
  FineAll (b ∷ C) us = Fine b.1 (first_slot us) × FineAll C (rest_slots us)

-- ## What is said of node n, over the trees

abbrev pub told : ℕ → Trees → List Standing → Standing
told n nil ss = untouched
told n (txt o r) ss = only (is_from n o) (first_of ss) ⋓ told n r (rest_of ss)
told n (elm o k r) ss = only (is_from n o) (first_of ss) ⋓ (told n k (rest_of ss) ⋓ told n r (drop (size k) (rest_of ss)))

pub gathered_flat : (n d : ℕ) (f : Trees) (ss : List Standing) → gathered n (flat d f) ss ≡ told n f ss
unfolding gathered
gathered_flat n d nil ss = refl
gathered_flat n d (txt o r) ss = rw (gathered_flat n d r (rest_of ss))
gathered_flat n d (elm o k r) ss =
    rw (
      gathered_cut n (flat (suc d) k) (flat d r) (rest_of ss),
      gathered_take n (flat (suc d) k) (rest_of ss),
      length_flat (suc d) k,
      gathered_flat n (suc d) k (rest_of ss),
      gathered_flat n d r (drop (size k) (rest_of ss)),
    )

-- ## Clashes in a merge

pub clash_stays : (s t : Standing) → is_clash s ≡ true → is_clash (s ⋓ t) ≡ true
unfolding is_clash sort
clash_stays s t h = ap is_clash (ap (λ (z : Standing). z ⋓ t) (clash_is s h) ∙ clash_left t)

pub clash_joins : (s t : Standing) → is_clash t ≡ true → is_clash (s ⋓ t) ≡ true
clash_joins s t h = ap is_clash (merge_comm s t) ∙ clash_stays t s h

-- ## mg

data Texts (t : List ℕ) (s u : Standing) (n : ℕ) : Type 0 where
  alike : mg_string (src n) (text_with t s) (state_with s) (text_with t u) (state_with u) ≡ got (text_with t (s ⋓ u), state_with (s ⋓ u)) → is_clash (s ⋓ u) ≡ false → Texts t s u n
  unlike : mg_string (src n) (text_with t s) (state_with s) (text_with t u) (state_with u) ≡ fail → is_clash (s ⋓ u) ≡ true → Texts t s u n

texts : (t : List ℕ) (s u : Standing) (n : ℕ) → is_clash s ≡ false → is_clash u ≡ false → Texts t s u n
unfolding ◌⋓◌ is_untouched is_clash same_standing sort new_text same_text
texts t clash u n h k = alike (cc) (cc)
texts t untouched untouched n h k = alike (rw (same_text_refl t)) refl
texts t untouched locked n h k = alike (rw (same_text_refl t)) refl
texts t untouched (changed u) n h k = alike refl refl
texts t untouched deleted n h k = alike (rw (same_text_refl t)) refl
texts t untouched clash n h k = alike (cc) k
texts t locked untouched n h k = alike (rw (same_text_refl t)) refl
texts t locked locked n h k = alike (rw (same_text_refl t)) refl
texts t locked (changed u) n h k = unlike refl refl
texts t locked deleted n h k = unlike refl refl
texts t locked clash n h k = alike (cc) (cc)
texts t (changed s) untouched n h k = alike refl refl
texts t (changed s) locked n h k = unlike refl refl
texts t (changed s) (changed u) n h k = go (same_text s u) refl
  where
    go : (b : Bool) → same_text s u ≡ b → Texts t (changed s) (changed u) n
    go true e = alike (rw e) (rw e)
    go false e = unlike (rw e) (rw e)
texts t (changed s) deleted n h k = unlike refl refl
texts t (changed s) clash n h k = alike (cc) (cc)
texts t deleted untouched n h k = alike (rw (same_text_refl t)) refl
texts t deleted locked n h k = unlike refl refl
texts t deleted (changed u) n h k = unlike refl refl
texts t deleted deleted n h k = alike (rw (same_text_refl t)) refl
texts t deleted clash n h k = alike (cc) (cc)

elements : (s u : Standing) (n : ℕ) → is_plain s ≡ true → is_plain u ≡ true
    → (mg_element (src n) (element_with s) (element_with u) ≡ got (element_with (s ⋓ u))) × (is_plain (s ⋓ u) ≡ true)
unfolding ◌⋓◌ is_untouched same_standing sort new_text same_text
elements untouched untouched n h k = (refl, refl)
elements untouched deleted n h k = (refl, refl)
elements untouched locked n h k = (cc, cc)
elements untouched clash n h k = (cc, cc)
elements untouched (changed t) n h k = (cc, cc)
elements deleted untouched n h k = (refl, refl)
elements deleted deleted n h k = (refl, refl)
elements deleted locked n h k = (cc, cc)
elements deleted clash n h k = (cc, cc)
elements deleted (changed t) n h k = (cc, cc)
elements locked u n h k = (cc, cc)
elements clash u n h k = (cc, cc)
elements (changed t) u n h k = (cc, cc)

merged_drop : (k : ℕ) (ss ts : List Standing) → drop k (merged ss ts) ≡ merged (drop k ss) (drop k ts)
merged_drop zero ss ts = refl
merged_drop (suc k) ss ts = rw (drop_rest k (merged ss ts), merged_rest ss ts, merged_drop k (rest_of ss) (rest_of ts), drop_rest k ss, drop_rest k ts)

pub same_from_refl : (o : Origin) → same_from (from_origin o) (from_origin o) ≡ true
same_from_refl (master n) = refl
same_from_refl (program e b t) = refl

module _ (look : Lookup) (permit : Permit) where
  -- either `mg` gives the merge, or it fails and some node's standing is clash
  pub data Merging (f : Trees) (ss ts : List Standing) : Type 0 where
    whole : mg (brush look f ss) (brush look f ts) ≡ got (brush look f (merged ss ts)) → Fine permit f (merged ss ts) → Merging f ss ts
    torn : mg (brush look f ss) (brush look f ts) ≡ fail → (n : ℕ) → is_clash (told n f ss ⋓ told n f ts) ≡ true → Merging f ss ts

  text_merging : (o : Origin) (r : Trees) (s t : List Standing) → FineText permit o (first_of s)
      → FineText permit o (first_of t) → Merging r (rest_of s) (rest_of t) → Merging (txt o r) s t
  unfolding is_from
  text_merging (master n) r s t p q m = go (texts (look.bytes n) (first_of s) (first_of t) n p.0 q.0) m
    where
      own : ℕ → List Standing → Standing
      own i ss = only (is_from i (master n)) (first_of ss)

      go : Texts (look.bytes n) (first_of s) (first_of t) n → Merging r (rest_of s) (rest_of t) → Merging (txt (master n) r) s t
      go (unlike e c) m =
          torn (rw e) n
          (ap is_clash (merge_swap (own n s) (told n r (rest_of s)) (own n t) (told n r (rest_of t)))
          ∙ clash_stays (own n s ⋓ own n t) (told n r (rest_of s) ⋓ told n r (rest_of t)) (rw (eq-eqb n n refl) c))
      go (alike e c) (torn e' i h) =
          torn (rw (e, e')) i
          (ap is_clash (merge_swap (own i s) (told i r (rest_of s)) (own i t) (told i r (rest_of t)))
          ∙ clash_joins (own i s ⋓ own i t) (told i r (rest_of s) ⋓ told i r (rest_of t)) h)
      go (alike e c) (whole e' f) =
          whole (rw (e, e', merged_first s t, merged_rest s t)) (rw (merged_first s t, merged_rest s t) ((c, permit.merge_permitted n (first_of s) (first_of t) p.1 q.1), f))
  text_merging (program e b u) r s t p q (whole e' f) = whole (rw (same_text_refl u, e', merged_rest s t)) (rw (merged_rest s t) (tt, f))
  text_merging (program e b u) r s t p q (torn e' i h) =
      torn (rw (same_text_refl u, e')) i (rw (unit_left (told i r (rest_of s)), unit_left (told i r (rest_of t))) h)

  element_merging : (o : Origin) (k r : Trees) (s t : List Standing) → FineElement permit o (first_of s) → FineElement permit o (first_of t) → Merging k (rest_of s) (rest_of t)
      → Merging r (drop (size k) (rest_of s)) (drop (size k) (rest_of t)) → Merging (elm o k r) s t
  element_merging o k r s t p q a b = go (own o p q) a b
    where
      own : (o : Origin) → FineElement permit o (first_of s) → FineElement permit o (first_of t)
          → (mg_element (from_origin o) (element_for o (first_of s)) (element_for o (first_of t)) ≡ got (element_for o (first_of s ⋓ first_of t)))
          × FineElement permit o (first_of s ⋓ first_of t)
      own (master n) p q = elements (first_of s) (first_of t) n p q
      own (program e b t) p q = (refl, tt)

      front : (x y a b d g : Standing) → is_clash (a ⋓ d) ≡ true → is_clash ((x ⋓ (a ⋓ b)) ⋓ (y ⋓ (d ⋓ g))) ≡ true
      front x y a b d g h =
          ap is_clash (merge_swap x (a ⋓ b) y (d ⋓ g)) ∙ clash_joins (x ⋓ y) ((a ⋓ b) ⋓ (d ⋓ g)) (ap is_clash (merge_swap a b d g) ∙ clash_stays (a ⋓ d) (b ⋓ g) h)

      behind : (x y a b d g : Standing) → is_clash (b ⋓ g) ≡ true → is_clash ((x ⋓ (a ⋓ b)) ⋓ (y ⋓ (d ⋓ g))) ≡ true
      behind x y a b d g h =
          ap is_clash (merge_swap x (a ⋓ b) y (d ⋓ g)) ∙ clash_joins (x ⋓ y) ((a ⋓ b) ⋓ (d ⋓ g)) (ap is_clash (merge_swap a b d g) ∙ clash_joins (a ⋓ d) (b ⋓ g) h)

      go : (mg_element (from_origin o) (element_for o (first_of s)) (element_for o (first_of t)) ≡ got (element_for o (first_of s ⋓ first_of t)))
          × FineElement permit o (first_of s ⋓ first_of t)
          → Merging k (rest_of s) (rest_of t) → Merging r (drop (size k) (rest_of s)) (drop (size k) (rest_of t)) → Merging (elm o k r) s t
      go (e, c) (torn e' i h) b =
          torn (rw (same_text_refl (bytes_of look o), same_from_refl o, e, e')) i
          (front (only (is_from i o) (first_of s)) (only (is_from i o) (first_of t)) (told i k (rest_of s))
          (told i r (drop (size k) (rest_of s))) (told i k (rest_of t)) (told i r (drop (size k) (rest_of t))) h)
      go (e, c) (whole e' f) (torn e'' i h) =
          torn (rw (same_text_refl (bytes_of look o), same_from_refl o, e, e', e'')) i
          (behind (only (is_from i o) (first_of s)) (only (is_from i o) (first_of t)) (told i k (rest_of s))
          (told i r (drop (size k) (rest_of s))) (told i k (rest_of t)) (told i r (drop (size k) (rest_of t))) h)
      go (e, c) (whole e' f) (whole e'' g) =
          whole (rw (same_text_refl (bytes_of look o), same_from_refl o, e, e', e'', merged_first s t, merged_rest s t, merged_drop (size k) (rest_of s) (rest_of t)))
          (rw (merged_first s t, merged_rest s t, merged_drop (size k) (rest_of s) (rest_of t)) (c, f, g))

  pub merging : (f : Trees) (s t : List Standing) → Fine permit f s → Fine permit f t → Merging f s t
  unfolding merged
  merging nil s t p q = whole refl tt
  merging (txt o r) s t p q = text_merging o r s t p.0 q.0 (merging r (rest_of s) (rest_of t) p.1 q.1)
  merging (elm o k r) s t p q =
      element_merging o k r s t p.0 q.0 (merging k (rest_of s) (rest_of t) p.1 q.1) (merging r (drop (size k) (rest_of s)) (drop (size k) (rest_of t)) p.2 q.2)
