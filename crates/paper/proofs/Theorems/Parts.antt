-- What is said of a node when a view is put together of parts, and a view cut into them by the paper's `split`.
use Rattle.std.specs.Prelude.{◌≡◌, refl, List, [], ◌∷◌, ◌++◌, ℕ, length, take, drop}
use Rattle.std.proofs.Common.{sym, ap, ◌∙◌}
use Rattle.values.specs.Values.{Value, Lookup}
use Rattle.values.specs.Standings.{Standing, ◌⋓◌, rest_of, gathered}
use Rattle.values.proofs.Theorems.MergeLaws.{merge_comm, merge_assoc, merge_left_comm}
use Rattle.values.proofs.Theorems.Gathering.{gathered_cut}
use Rattle.runs.specs.Showing.{Shown}
use Rattle.runs.specs.PuttingBack.{SlotStandings, gathered_slots}
use Rattle.runs.specs.Theorems.Inversion.{both}
use Rattle.runs.proofs.Theorems.Conservation.{lock, lock_append}
use Rattle.paper.specs.Data.{Sequence, none, ◌⧺◌, len, got}
use Rattle.paper.specs.Operators.{cut, split}
use Rattle.paper.specs.Theorems.Trees.{seq_none, Trees, nil, txt, elm, Scope, flat_slots, paint}
use Rattle.paper.proofs.Theorems.Brushes.{size, brush}
use Rattle.paper.proofs.Theorems.Places.{no_marks}
use Rattle.paper.proofs.Theorems.Ends.{said}

-- ## What is said, put together

pub said_noted : (n : ℕ) (C : Scope) (ss : List Standing) (us : SlotStandings) (v : Value) (c d : List ℕ)
    → said C (record { value = v; compared = c ++ d }) ss us n ≡ said C (record { value = v; compared = d }) ss us n ⋓ lock n c
said_noted n C ss us v c d = rw (lock_append n c d) (turn (gathered n v ss ⋓ gathered_slots n (flat_slots C) us) (lock n c) (lock n d))
  where
    turn : (s x y : Standing) → s ⋓ (x ⋓ y) ≡ s ⋓ y ⋓ x
    turn s x y = simp (merge_assoc, merge_comm)

-- a view of two parts, the first of k nodes
pub said_both : (n k : ℕ) (C : Scope) (a c : Shown) (ss : List Standing) (us : SlotStandings) → length a.value ≡ k
    → said C (both a c) ss us n
    ≡ (gathered n a.value (take k ss) ⋓ gathered n c.value (drop k ss)) ⋓ gathered_slots n (flat_slots C) us ⋓ (lock n a.compared ⋓ lock n c.compared)
said_both n k C a c ss us e = rw (gathered_cut n a.value c.value ss, lock_append n a.compared c.compared, e)

pub regroup_first : (a c e l m : Standing) → (a ⋓ c) ⋓ e ⋓ (l ⋓ m) ≡ (a ⋓ e ⋓ l) ⋓ (c ⋓ m)
regroup_first a c e l m = simp (merge_assoc, merge_left_comm)

pub regroup_second : (a c e l m : Standing) → (a ⋓ c) ⋓ e ⋓ (l ⋓ m) ≡ (c ⋓ e ⋓ m) ⋓ (a ⋓ l)
regroup_second a c e l m = simp (merge_assoc, merge_comm, merge_left_comm)

pub regroup_slots : (s e a l : Standing) → (s ⋓ e) ⋓ (a ⋓ l) ≡ (a ⋓ e ⋓ l) ⋓ s
regroup_slots s e a l = simp (merge_assoc, merge_comm, merge_left_comm)

pub regroup_sources : (r e s : Standing) → (r ⋓ e) ⋓ s ≡ (r ⋓ s) ⋓ e
regroup_sources r e s = simp (merge_assoc, merge_comm)

-- ## Cutting

module _ (look : Lookup) where
  cut_brush : (g : Trees) (ss : List Standing) (T : Sequence) → cut (len (paint look no_marks g)) (brush look g ss ⧺ T) ≡ got (brush look g ss, T)
  cut_brush nil ss T = refl
  cut_brush (txt o r) ss T = rw (cut_brush r (rest_of ss) T)
  cut_brush (elm o k r) ss T = rw (cut_brush r (drop (size k) (rest_of ss)) T)

  pub split_brush : (g : Trees) (ss : List Standing) (T : Sequence) (ls : List ℕ) (l : List Sequence) → split T ls ≡ got l
      → split (brush look g ss ⧺ T) (len (paint look no_marks g) ∷ ls) ≡ got (brush look g ss ∷ l)
  split_brush g ss T ls l h = rw (cut_brush g ss T, h)

  pub split_two : (g h : Trees) (ss ts : List Standing)
      → split (brush look g ss ⧺ brush look h ts) (len (paint look no_marks g) ∷ len (paint look no_marks h) ∷ []) ≡ got (brush look g ss ∷ brush look h ts ∷ [])
  split_two g h ss ts =
      split_brush g ss (brush look h ts) (len (paint look no_marks h) ∷ []) (brush look h ts ∷ [])
      (ap (λ (Z : Sequence). split Z (len (paint look no_marks h) ∷ [])) (sym (seq_none (brush look h ts))) ∙ split_brush h ts none [] [] refl)
