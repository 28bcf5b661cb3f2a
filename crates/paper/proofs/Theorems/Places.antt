-- Brushed trees by the places of their standings: two lists that are equal there, lists cut and joined, and lists that say nothing.
use Rattle.std.specs.Prelude.{◌≡◌, refl, List, [], ◌∷◌, ◌++◌, ℕ, zero, suc, ◌+◌, ◌<◌, length, take, drop}
use Rattle.std.proofs.Common.{sym, ap, subst, ◌∙◌, arith, zero-add, suc-add, drop-drop}
use Rattle.std.proofs.Math.Path.{subst⁻¹}
use Rattle.lines.specs.Nodes.{untouched_mark}
use Rattle.values.specs.Values.{Origin, master, program, Value, Lookup, bytes_of}
use Rattle.values.specs.Standings.{Standing, untouched, sort, is_clash, first_of, rest_of, fitted, all_over}
use Rattle.values.proofs.Theorems.Gathering.{take_first, take_rest, drop_rest}
use Rattle.values.specs.Theorems.Copies.{standing_at}
use Rattle.paper.specs.Data.{◌⧺◌}
use Rattle.paper.specs.Lines.{updating_of, element_updating_of}
use Rattle.paper.specs.Theorems.Trees.{Trees, nil, txt, elm, ◌⊹◌, mark_for, paint}
use Rattle.paper.proofs.Theorems.Brushes.{size, text_for, state_for, element_for, brush, Permit, FineText, FineElement, Fine}

-- ## Places of a list

at_drop : (k : ℕ) (ss : List Standing) (i : ℕ) → standing_at (drop k ss) i ≡ standing_at ss (k + i)
unfolding standing_at
at_drop zero ss i = ap (standing_at ss) (sym (zero-add i))
at_drop (suc k) ss i = ap (λ (l : List Standing). standing_at l i) (drop_rest k ss) ∙ at_drop k (rest_of ss) i ∙ ap (standing_at ss) (sym (suc-add k i))

at_take : (k : ℕ) (ss : List Standing) (i : ℕ) → i < k → standing_at (take k ss) i ≡ standing_at ss i
unfolding standing_at
at_take zero ss i h = absurd (omega arith)
at_take (suc k) ss zero h = take_first k ss
at_take (suc k) ss (suc i) h = ap (λ (l : List Standing). standing_at l i) (take_rest k ss) ∙ at_take k (rest_of ss) i (omega arith)

pub at_fitted : (v : Value) (ss ts : List Standing) (i : ℕ) → i < length v → standing_at (fitted v ss ++ ts) i ≡ standing_at ss i
unfolding standing_at fitted
at_fitted [] ss ts i h = absurd (omega arith)
at_fitted (x ∷ v) ss ts zero h = refl
at_fitted (x ∷ v) ss ts (suc i) h = at_fitted v (rest_of ss) ts i (omega arith)

pub drop_fitted : (v : Value) (ss ts : List Standing) → drop (length v) (fitted v ss ++ ts) ≡ ts
unfolding fitted
drop_fitted [] ss ts = refl
drop_fitted (x ∷ v) ss ts = drop_fitted v (rest_of ss) ts

at_nothing : (i : ℕ) → standing_at [] i ≡ untouched
unfolding standing_at
at_nothing zero = refl
at_nothing (suc i) = at_nothing i

pub at_untouched : (v : Value) (i : ℕ) → standing_at (all_over untouched v) i ≡ untouched
unfolding standing_at all_over
at_untouched [] i = at_nothing i
at_untouched (x ∷ v) zero = refl
at_untouched (x ∷ v) (suc i) = at_untouched v i

-- equal in the first n places
abbrev pub SameFirst : ℕ → List Standing → List Standing → Type 0
SameFirst n ss ts = (i : ℕ) → i < n → standing_at ss i ≡ standing_at ts i

alike_first : (n : ℕ) (ss ts : List Standing) → SameFirst (suc n) ss ts → first_of ss ≡ first_of ts
unfolding standing_at
alike_first n ss ts h = h 0 (omega arith)

alike_rest : (n : ℕ) (ss ts : List Standing) → SameFirst (suc n) ss ts → SameFirst n (rest_of ss) (rest_of ts)
unfolding standing_at
alike_rest n ss ts h i k = h (suc i) (omega arith)

alike_left : (a b : ℕ) (ss ts : List Standing) → SameFirst (a + b) ss ts → SameFirst a ss ts
alike_left a b ss ts h i k = h i (omega arith)

alike_right : (a b : ℕ) (ss ts : List Standing) → SameFirst (a + b) ss ts → SameFirst b (drop a ss) (drop a ts)
alike_right a b ss ts h i k = at_drop a ss i ∙ h (a + i) (omega arith) ∙ sym (at_drop a ts i)

pub alike_take : (k : ℕ) (ss : List Standing) → SameFirst k ss (take k ss)
alike_take k ss i h = sym (at_take k ss i h)

pub brush_alike : (look : Lookup) (f : Trees) (s t : List Standing) → SameFirst (size f) s t → brush look f s ≡ brush look f t
brush_alike look nil s t h = refl
brush_alike look (txt o r) s t h = rw (alike_first (size r) s t h, brush_alike look r (rest_of s) (rest_of t) (alike_rest (size r) s t h))
brush_alike look (elm o k r) s t h =
    let h' = alike_rest (size k + size r) s t h in
    rw (
      alike_first (size k + size r) s t h,
      brush_alike look k (rest_of s) (rest_of t) (alike_left (size k) (size r) (rest_of s) (rest_of t) h'),
      brush_alike look r (drop (size k) (rest_of s)) (drop (size k) (rest_of t)) (alike_right (size k) (size r) (rest_of s) (rest_of t) h'),
    )

-- ## Trees joined

-- behind an element
pub drop_behind : (a b : ℕ) (ss : List Standing) → drop (suc (a + b)) ss ≡ drop b (drop a (rest_of ss))
drop_behind a b ss = drop_rest (a + b) ss ∙ sym (drop-drop b a (rest_of ss))

pub brush_append : (look : Lookup) (f g : Trees) (ss : List Standing) → brush look (f ⊹ g) ss ≡ brush look f ss ⧺ brush look g (drop (size f) ss)
brush_append look nil g ss = refl
brush_append look (txt o r) g ss = rw (brush_append look r g (rest_of ss), drop_rest (size r) ss)
brush_append look (elm o k r) g ss = rw (brush_append look r g (drop (size k) (rest_of ss)), drop_behind (size k) (size r) ss)

module _ (permit : Permit) where
  pub fine_alike : (f : Trees) (s t : List Standing) → SameFirst (size f) s t → Fine permit f s → Fine permit f t
  fine_alike nil s t h p = tt
  fine_alike (txt o r) s t h p = (subst (FineText permit o) (alike_first (size r) s t h) p.0, fine_alike r (rest_of s) (rest_of t) (alike_rest (size r) s t h) p.1)
  fine_alike (elm o k r) s t h p =
      let h' = alike_rest (size k + size r) s t h in (
        subst (FineElement permit o) (alike_first (size k + size r) s t h) p.0,
        fine_alike k (rest_of s) (rest_of t) (alike_left (size k) (size r) (rest_of s) (rest_of t) h') p.1,
        fine_alike r (drop (size k) (rest_of s)) (drop (size k) (rest_of t)) (alike_right (size k) (size r) (rest_of s) (rest_of t) h') p.2,
      )

  pub fine_parts : (f g : Trees) (ss : List Standing) → Fine permit (f ⊹ g) ss → Fine permit f ss × Fine permit g (drop (size f) ss)
  fine_parts nil g ss h = (tt, h)
  fine_parts (txt o r) g ss h =
      let i = fine_parts r g (rest_of ss) h.1 in
      ((h.0, i.0), rw (drop_rest (size r) ss) i.1)
  fine_parts (elm o k r) g ss h =
      let i = fine_parts r g (drop (size k) (rest_of ss)) h.2 in
      ((h.0, h.1, i.0), rw (drop_behind (size k) (size r) ss) i.1)

  pub fine_append : (f g : Trees) (ss : List Standing) → Fine permit f ss → Fine permit g (drop (size f) ss) → Fine permit (f ⊹ g) ss
  fine_append nil g ss h k = k
  fine_append (txt o r) g ss h k = (h.0, fine_append r g (rest_of ss) h.1 (rw (drop_rest (size r) ss) at k))
  fine_append (elm o k' r) g ss h k = (h.0, h.1, fine_append r g (drop (size k') (rest_of ss)) h.2 (rw (drop_behind (size k') (size r) ss) at k))

-- ## The source as it was

-- no line carries a mark
abbrev pub no_marks : ℕ → ℕ
no_marks n = untouched_mark

text_still : (look : Lookup) (o : Origin) → text_for look o untouched ≡ bytes_of look o
unfolding bytes_of
text_still look (master n) = refl
text_still look (program e b t) = refl

state_still : (o : Origin) → state_for o untouched ≡ updating_of (mark_for no_marks o)
state_still (master n) = refl
state_still (program e b t) = refl

pub element_still : (o : Origin) → element_for o untouched ≡ element_updating_of (mark_for no_marks o)
element_still (master n) = refl
element_still (program e b t) = refl

module _ (permit : Permit) where
  fine_text_still : (o : Origin) → FineText permit o untouched
  unfolding is_clash sort
  fine_text_still (master n) = (refl, permit.untouched_permitted n)
  fine_text_still (program e b t) = tt

  pub fine_element_still : (o : Origin) → FineElement permit o untouched
  fine_element_still (master n) = refl
  fine_element_still (program e b t) = tt

  -- where nothing is said
  pub still : (look : Lookup) (f : Trees) (ss : List Standing) → ((i : ℕ) → standing_at ss i ≡ untouched) → (brush look f ss ≡ paint look no_marks f) × Fine permit f ss
  unfolding standing_at
  still look nil ss h = (refl, tt)
  still look (txt o r) ss h =
      let i = still look r (rest_of ss) (λ j. h (suc j)) in
      (rw (h 0, text_still look o, state_still o, i.0), (subst⁻¹ (FineText permit o) (h 0) (fine_text_still o), i.1))
  still look (elm o k r) ss h =
      let i = still look k (rest_of ss) (λ j. h (suc j)) in
      let j = still look r (drop (size k) (rest_of ss)) (λ j. at_drop (size k) (rest_of ss) j ∙ h (suc (size k + j))) in
      (rw (h 0, element_still o, i.0, j.0), (subst⁻¹ (FineElement permit o) (h 0) (fine_element_still o), i.1, j.1))
