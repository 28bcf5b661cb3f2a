-- The lines that go are exactly those that the request names, "told from the marks and depths alone".
use Rattle.std.specs.Prelude.{◌≡◌, refl, Bool, false, cond, ◌&&◌, ◌||◌, ◌↔◌, ltb, length, get_or, Option, Some, None}
use Rattle.std.proofs.Common.{sym, ap, ◌∙◌, inl, inr, arith}
use Rattle.std.proofs.Math.Bool.{true}
use mathlib.Core.List.{List, [], ◌∷◌}
use Prim.Native.Nat.{ℕ, zero, suc, ◌≤◌, ◌<◌}
use borrow.Author.Tests.{ltb-true, lt-ltb, eqb-true, eq-eqb}
use Rattle.lines.specs.Nodes.{Line, deleted_mark, line_at}
use Rattle.lines.specs.Theorems.Bools.{never, and_left, and_right, and_both, or_cases, or_left, or_right}
use Rattle.sweeping.specs.Sweeping.{is_under, is_deleted, goes, behind, removed_under, removed, new_numbers}
use Rattle.sweeping.specs.Demands.{LiesUnder, IsRemoved, IsKept}

-- ## The walk, and the same without what it carries along

-- what stands above the list reaches down to line i
covered : Option ℕ → List Line → ℕ → Bool
covered above [] i = false
covered above (l ∷ ls) zero = is_under above l.depth
covered above (l ∷ ls) (suc i) = is_under above l.depth && covered above ls i

-- line i is deleted, or an earlier line of the list is and reaches down to it
reached : List Line → ℕ → Bool
reached [] i = false
reached (l ∷ ls) zero = is_deleted l
reached (l ∷ ls) (suc i) = (is_deleted l && covered (Some l.depth) ls i) || reached ls i

nothing_covers : (ls : List Line) (i : ℕ) → covered None ls i ≡ false
unfolding covered is_under
nothing_covers [] i = refl
nothing_covers (l ∷ ls) zero = refl
nothing_covers (l ∷ ls) (suc i) = refl

-- what stands above a line covers what the line covers
module _ (above : Option ℕ) (d : ℕ) (u : is_under above d ≡ true) where
  under_through : (depth : ℕ) → is_under (Some d) depth ≡ true → is_under above depth ≡ true
  unfolding is_under
  under_through depth h = go above u
    where
      go : (a : Option ℕ) → is_under a d ≡ true → is_under a depth ≡ true
      go None q = q
      go (Some a) q = lt-ltb a depth (omega (arith, ltb-true a d q, ltb-true d depth h))

  covers_through : (ls : List Line) (i : ℕ) → covered (Some d) ls i ≡ true → covered above ls i ≡ true
  unfolding covered
  covers_through [] i c = c
  covers_through (l ∷ ls) zero c = under_through l.depth c
  covers_through (l ∷ ls) (suc i) c =
      and_both (is_under above l.depth) _ (under_through l.depth (and_left (is_under (Some d) l.depth) _ c))
      (covers_through ls i (and_right (is_under (Some d) l.depth) _ c))

walk : (above : Option ℕ) (ls : List Line) (i : ℕ) → get_or (removed_under above ls) i false ≡ (covered above ls i || reached ls i)
unfolding removed_under goes behind covered reached
walk above [] i = refl
walk above (l ∷ ls) zero = refl
walk above (l ∷ ls) (suc i) = walk (behind above l) ls i ∙ go (is_under above l.depth) (is_deleted l) refl
  where
    absorbed : (a b r : Bool) → (b ≡ true → a ≡ true) → (a || r) ≡ (a || (b || r))
    absorbed true b r f = refl
    absorbed false true r f = never (f refl)
    absorbed false false r f = refl

    go : (u d : Bool) → is_under above l.depth ≡ u
        → (covered (cond u above (cond d (Some l.depth) None)) ls i || reached ls i)
        ≡ ((u && covered above ls i) || ((d && covered (Some l.depth) ls i) || reached ls i))
    go true true e = absorbed (covered above ls i) (covered (Some l.depth) ls i) (reached ls i) (covers_through above l.depth e ls i)
    go true false e = refl
    go false true e = refl
    go false false e = ap (λ (c : Bool). c || reached ls i) (nothing_covers ls i)

-- ## The same as the request has it

covered_deeper : (d : ℕ) (ls : List Line) (i : ℕ) → covered (Some d) ls i ≡ true → (k : ℕ) → k ≤ i → d < (line_at ls k).depth
unfolding covered is_under
covered_deeper d [] i c k h = never c
covered_deeper d (l ∷ ls) zero c zero h = ltb-true d l.depth c
covered_deeper d (l ∷ ls) zero c (suc k) h = absurd (omega arith)
covered_deeper d (l ∷ ls) (suc i) c zero h = ltb-true d l.depth (and_left (ltb d l.depth) _ c)
covered_deeper d (l ∷ ls) (suc i) c (suc k) h = covered_deeper d ls i (and_right (ltb d l.depth) _ c) k (omega arith)

deeper_covered : (d : ℕ) (ls : List Line) (i : ℕ) → i < length ls → ((k : ℕ) → k ≤ i → d < (line_at ls k).depth) → covered (Some d) ls i ≡ true
unfolding covered is_under
deeper_covered d [] i b f = absurd (omega arith)
deeper_covered d (l ∷ ls) zero b f = lt-ltb d l.depth (f 0 (omega arith))
deeper_covered d (l ∷ ls) (suc i) b f =
    and_both (ltb d l.depth) _ (lt-ltb d l.depth (f 0 (omega arith))) (deeper_covered d ls i (omega arith) (λ k h. f (suc k) (omega arith)))

-- a line further down
further : (l : Line) (ls : List Line) (m i : ℕ) → LiesUnder ls m i ↔ LiesUnder (l ∷ ls) (suc m) (suc i)
further l ls m i = (down, λ u. record { earlier = let h = u.earlier in omega arith; deeper = λ k g h. u.deeper (suc k) (omega arith) (omega arith) })
  where
    down : LiesUnder ls m i → LiesUnder (l ∷ ls) (suc m) (suc i)
    down u = record { earlier = let h = u.earlier in omega arith; deeper = deeper }
      where
        deeper : (k : ℕ) → suc m < k → k ≤ suc i → (line_at ls m).depth < (line_at (l ∷ ls) k).depth
        deeper zero g h = absurd (omega arith)
        deeper (suc k) g h = u.deeper k (omega arith) (omega arith)

under_first : (l : Line) (ls : List Line) (i : ℕ) → covered (Some l.depth) ls i ≡ true → LiesUnder (l ∷ ls) 0 (suc i)
under_first l ls i c = record { earlier = omega arith; deeper = deeper }
  where
    deeper : (k : ℕ) → 0 < k → k ≤ suc i → l.depth < (line_at (l ∷ ls) k).depth
    deeper zero g h = absurd (omega arith)
    deeper (suc k) g h = covered_deeper l.depth ls i c k (omega arith)

deleted_mark_is : (l : Line) → is_deleted l ≡ true → l.mark ≡ deleted_mark
unfolding is_deleted
deleted_mark_is l d = eqb-true l.mark deleted_mark d

mark_deleted : (l : Line) → l.mark ≡ deleted_mark → is_deleted l ≡ true
unfolding is_deleted
mark_deleted l e = eq-eqb l.mark deleted_mark e

reached_removed : (ls : List Line) (i : ℕ) → reached ls i ≡ true → IsRemoved ls i
unfolding reached
reached_removed [] i r = never r
reached_removed (l ∷ ls) zero r = inl (deleted_mark_is l r)
reached_removed (l ∷ ls) (suc i) r =
    or_cases (is_deleted l && covered (Some l.depth) ls i) (reached ls i)
    (λ c. inr (0, under_first l ls i (and_right (is_deleted l) _ c), deleted_mark_is l (and_left (is_deleted l) _ c)))
    (λ q. later (reached_removed ls i q)) r
  where
    later : IsRemoved ls i → IsRemoved (l ∷ ls) (suc i)
    later (inl d) = inl d
    later (inr (m, u, d)) = inr (suc m, (further l ls m i).0 u, d)

removed_reached : (ls : List Line) (i : ℕ) → i < length ls → IsRemoved ls i → reached ls i ≡ true
unfolding reached
removed_reached [] i b r = absurd (omega arith)
removed_reached (l ∷ ls) zero b (inl d) = mark_deleted l d
removed_reached (l ∷ ls) zero b (inr (m, u, d)) = absurd (let h = u.earlier in omega arith)
removed_reached (l ∷ ls) (suc i) b (inl d) = or_right (is_deleted l && covered (Some l.depth) ls i) _ (removed_reached ls i (omega arith) (inl d))
removed_reached (l ∷ ls) (suc i) b (inr (zero, u, d)) =
    or_left (is_deleted l && covered (Some l.depth) ls i) _
    (and_both (is_deleted l) _ (mark_deleted l d) (deeper_covered l.depth ls i (omega arith) (λ k h. u.deeper (suc k) (omega arith) (omega arith))))
removed_reached (l ∷ ls) (suc i) b (inr (suc m, u, d)) =
    or_right (is_deleted l && covered (Some l.depth) ls i) _ (removed_reached ls i (omega arith) (inr (m, (further l ls m i).1 u, d)))

-- ## The theorems

goes_reached : (ls : List Line) (i : ℕ) → get_or (removed ls) i false ≡ reached ls i
unfolding removed
goes_reached ls i = walk None ls i ∙ ap (λ (c : Bool). c || reached ls i) (nothing_covers ls i)

-- "every node that is deleted, or lies under a deleted one, goes"
pub removed_exactly : (ls : List Line) (i : ℕ) → i < length ls → (get_or (removed ls) i false ≡ true) ↔ IsRemoved ls i
removed_exactly ls i b = (λ e. reached_removed ls i (sym (goes_reached ls i) ∙ e), λ r. goes_reached ls i ∙ removed_reached ls i b r)

-- and the rest stay
module _ (ls : List Line) (i : ℕ) (b : i < length ls) where
  pub removed_kept : get_or (removed ls) i false ≡ false → IsKept ls i
  removed_kept e r = never (sym e ∙ (removed_exactly ls i b).1 r)

  pub kept_removed : IsKept ls i → get_or (removed ls) i false ≡ false
  kept_removed k = go (get_or (removed ls) i false) refl
    where
      go : (t : Bool) → get_or (removed ls) i false ≡ t → t ≡ false
      go true e = absurd (k ((removed_exactly ls i b).0 e))
      go false e = refl

-- ## "removed being told from the marks and depths alone"

-- lines alike in marks and depths
abbrev pub SameMarksAndDepths : List Line → List Line → Type 0
SameMarksAndDepths [] [] = Unit
SameMarksAndDepths [] (m ∷ ms) = ⊥
SameMarksAndDepths (l ∷ ls) [] = ⊥
SameMarksAndDepths (l ∷ ls) (m ∷ ms) = (l.depth ≡ m.depth) × (l.mark ≡ m.mark) × SameMarksAndDepths ls ms

walk_alone : (above : Option ℕ) (ls ms : List Line) → SameMarksAndDepths ls ms → removed_under above ls ≡ removed_under above ms
unfolding removed_under goes behind is_deleted
walk_alone above [] [] h = refl
walk_alone above [] (m ∷ ms) h = absurd h
walk_alone above (l ∷ ls) [] h = absurd h
walk_alone above (l ∷ ls) (m ∷ ms) h = rw (h.0, h.1) (ap (λ (bs : List Bool). goes above m ∷ bs) (walk_alone (behind above m) ls ms h.2))

module _ (ls ms : List Line) (same : SameMarksAndDepths ls ms) where
  pub removed_alone : removed ls ≡ removed ms
  unfolding removed
  removed_alone = walk_alone None ls ms same

  pub numbers_alone : new_numbers ls ≡ new_numbers ms
  unfolding new_numbers
  numbers_alone = rw removed_alone
