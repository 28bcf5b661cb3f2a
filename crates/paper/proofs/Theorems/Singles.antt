-- Putting back, one lemma a combinator with at most one part: 01 to 07, and 0C.
use Rattle.std.specs.Prelude.{◌≡◌, Bool, ℕ}
use Rattle.std.proofs.Math.Path.{refl, sym, ap}
use Rattle.std.proofs.Common.{◌∙◌}
use Rattle.std.proofs.Math.Bool.{true}
use mathlib.Core.List.{List, [], ◌∷◌, ◌++◌, append-nil}
use Rattle.lines.specs.Theorems.SameTexts.{same_text_refl}
use Rattle.values.specs.Values.{Origin, Value, Lookup, bytes_of, is_from, among, lowered, raised}
use Rattle.values.specs.Standings.{Standing, untouched, is_clash, ◌⋓◌, first_of, rest_of, all_over, gathered}
use Rattle.values.proofs.Theorems.MergeLaws.{unit_left, unit_right, merge_assoc}
use Rattle.values.proofs.Theorems.Gathering.{only, gathered_untouched, gathered_raised}
use Rattle.runs.specs.declared.stop.Stop.TheVariants.{Source}
use Rattle.runs.specs.Results.{gives}
use Rattle.runs.specs.Showing.{value_in, Shown}
use Rattle.runs.specs.PuttingBack.{SlotStandings, merged_into, gathered_slots, back, inside}
use Rattle.runs.specs.Theorems.Combinators.{Run, Putting, source_run, made_run, slot_run, contents_run, within_run, bound, bind_run}
use Rattle.runs.specs.Theorems.Combinators.{source_put, made_put, slot_put, contents_put, within_put, bind_put}
use Rattle.runs.specs.Theorems.Inversion.{no_gives, on_gives, on_bind, on_bounded}
use Rattle.runs.proofs.Theorems.Conservation.{lock}
use Rattle.paper.specs.Data.{Sequence, none, elt, got, ◌>>=◌, ◌>>◌, provided, same_sequence}
use Rattle.paper.specs.Contexts.{Context}
use Rattle.paper.specs.Operators.{Forward, Backward}
use Rattle.paper.specs.Semantics.{updated}
use Rattle.paper.specs.Theorems.Constructs.{xid_forward, xvar_forward, xchild_forward, xsetcnt_forward, xlet_forward, xid_backward, xvar_backward}
use Rattle.paper.specs.Theorems.Constructs.{xchild_backward, xsetcnt_backward, xlet_backward}
use Rattle.paper.specs.Theorems.Trees.{trees_in, value_trees, right_trees, find_trees, on_elm, Trees, nil, elm, at, flat}
use Rattle.paper.specs.Theorems.Trees.{Scope, flat_slots, names, flat_raised, flat_lowered, from_origin, paint, paint_all, Right}
use Rattle.paper.proofs.Theorems.Brushes.{element_for, brush, Permit, FineElement, clash_joins, same_from_refl}
use Rattle.paper.proofs.Theorems.Places.{at_untouched, no_marks, element_still, fine_element_still, still}
use Rattle.paper.proofs.Theorems.Ends.{Watched, pairs, said, Ends, went, failed, Backs, PutsBack, ends_at, ends_then, Takes, takes, refuses, slot_takes_in}

module _ (look : Lookup) (permit : Permit) (watch : ℕ → Bool) where
  abbrev pt : Trees → Sequence
  pt f = paint look no_marks f

  abbrev pc : Scope → Context
  pc C = paint_all look no_marks C

  pub source_back : (ns : List ℕ) → PutsBack look permit watch ns source_run source_put xid_forward xid_backward
  source_back ns C s R f F o h W =
      on_gives (λ z. Backs look permit C f z source_put xid_forward xid_backward) (record { value = flat 0 f; compared = [] }) o h
      (record { g = f; right = F; flat_is = refl; forth = refl; back = λ ss us A B. went refl A B })

  -- 02, 03, 04
  pub made_back : (ns : List ℕ) (w : Trees) → Right look w → ((ss : List Standing) → same_sequence (pt w) (brush look w ss) ≡ true)
      → PutsBack look permit watch ns (made_run (flat 0 w)) made_put (λ D S. got (pt w)) (λ E S T. provided (same_sequence (pt w) T) >> got (S, E))
  made_back ns w Rw same C s R f F o h W =
      on_gives (λ z. Backs look permit C f z made_put (λ D S. got (pt w)) (λ E S T. provided (same_sequence (pt w) T) >> got (S, E))) (record { value = flat 0 w; compared = [] }) o h
      (record {
        g = w;
        right = Rw;
        flat_is = refl;
        forth = refl;
        back = λ ss us A B. let u = still permit look f (all_over untouched (flat 0 f)) (at_untouched (flat 0 f)) in went (rw (same ss, u.0)) u.1 B;
      })

  pub slot_back : (ns : List ℕ) (k : ℕ) → among k ns ≡ true → PutsBack look permit watch ns (slot_run k) (slot_put k) (xvar_forward k) (xvar_backward k)
  unfolding among
  slot_back ns k b C s R f F o h W =
      let b' : among k (names C) ≡ true = rw s b in
      on_gives (λ z. Backs look permit C f z (slot_put k) (xvar_forward k) (xvar_backward k)) (record { value = value_in k (flat_slots C); compared = [] }) o h
      (record {
        g = trees_in k C;
        right = right_trees look k C R;
        flat_is = value_trees k C;
        forth = find_trees look no_marks k C b';
        back = λ ss us A B. go ss us (slot_takes_in look permit k C ss us b' A B);
      })
    where
      go : (ss : List Standing) (us : SlotStandings)
          → Takes look permit C (updated k (brush look (trees_in k C) ss) (pairs look C us))
          (merged_into k (flat_slots C) ss us) (λ n. gathered n (flat 0 (trees_in k C)) ss ⋓ gathered_slots n (flat_slots C) us)
          → Ends look permit C none f (slot_put k (flat_slots C) (flat 0 f) ss us)
          (xvar_backward k (pairs look C us) (pt f) (brush look (trees_in k C) ss))
          (said C (record { value = value_in k (flat_slots C); compared = [] }) ss us)
      go ss us (takes e B) = let u = still permit look f (all_over untouched (flat 0 f)) (at_untouched (flat 0 f)) in went (rw (e, u.0)) u.1 B
      go ss us (refuses e n c) = failed (rw e) n (rw (value_trees k C, unit_right (gathered n (flat 0 (trees_in k C)) ss ⋓ gathered_slots n (flat_slots C) us)) c)

  pub contents_back : (ns : List ℕ) (e : ℕ) → PutsBack look permit watch ns (contents_run look e) contents_put xchild_forward xchild_backward
  contents_back ns e C s R f F o h W =
      on_elm look no_marks e
      (λ f. contents_run look e (flat_slots C) (flat 0 f) ≡ gives o → Backs look permit C f o contents_put xchild_forward xchild_backward)
      (λ f p h. absurd (no_gives (Source e) o (rw p at h)))
      (λ w k i n K p h.
      on_gives (λ z. Backs look permit C (elm w k nil) z contents_put xchild_forward xchild_backward)
      (record { value = flat 0 k; compared = [] }) o (rw p at h)
      (record {
        g = k;
        right = K;
        flat_is = refl;
        forth = refl;
        back = λ ss us A B. went (rw (element_still w)) (fine_element_still permit w, A, tt) B;
      }))
      f F h

  pub within_back : (ns : List ℕ) (e : ℕ) (run : Run) (put : Putting) (fwd : Forward) (bwd : Backward) → PutsBack look permit watch ns run put fwd bwd
      → PutsBack look permit watch ns (within_run look e run) (within_put put) (xsetcnt_forward fwd) (xsetcnt_backward bwd)
  unfolding inside gathered
  within_back ns e run put fwd bwd X C s R f F o h W =
      on_elm look no_marks e
      (λ f. within_run look e run (flat_slots C) (flat 0 f) ≡ gives o → Backs look permit C f o (within_put put) (xsetcnt_forward fwd) (xsetcnt_backward bwd))
      (λ f p h. absurd (no_gives (Source e) o (rw p at h)))
      (λ w k i n K p h.
      on_bind (run (flat_slots C) (flat 0 k)) _ o (rw p at h) λ a r h₂.
      on_bounded (λ z. Watched watch z.compared → Backs look permit C (elm w k nil) z (within_put put) (xsetcnt_forward fwd) (xsetcnt_backward bwd))
      e (at 0 w ∷ raised a.value) a.compared o h₂ (λ _ W.
      let A = X C s R k K a r W in
      record {
        g = elm w A.g nil;
        right = (i, n, A.right, tt);
        flat_is = ap (λ (z : Value). at 0 w ∷ z) (ap raised A.flat_is ∙ flat_raised 0 A.g ∙ sym (append-nil (flat 1 A.g)));
        forth = rw A.forth;
        back = λ ss us G E. inner w k a A.g ss us G.0 (A.back (rest_of ss) us G.1 E);
      })
      W)
      f F h
    where
      inner : (w : Origin) (k : Trees) (a : Shown) (g : Trees) (ss : List Standing) (us : SlotStandings) → FineElement permit w (first_of ss)
          → Ends look permit C none k (put (flat_slots C) (flat 0 k) (rest_of ss) us) (bwd (pairs look C us) (pt k) (brush look g (rest_of ss))) (said C a (rest_of ss) us)
          → Ends look permit C none (elm w k nil) (within_put put (flat_slots C) (flat 0 (elm w k nil)) ss us)
          (xsetcnt_backward bwd (pairs look C us) (pt (elm w k nil)) (brush look (elm w g nil) ss))
          (said C (record { value = at 0 w ∷ raised a.value; compared = a.compared }) ss us)
      inner w k a g ss us G E =
          let b = put (flat_slots C) (flat 0 k) (rest_of ss) us in
          let v : lowered (flat 1 k ++ []) ≡ flat 0 k = ap lowered (append-nil (flat 1 k)) ∙ flat_lowered 0 k in
          ends_at look permit C none (elm w k nil) (within_put put (flat_slots C) (flat 0 (elm w k nil)) ss us) (back (first_of ss ∷ b.in_source) b.in_slots)
          (xsetcnt_backward bwd (pairs look C us) (pt (elm w k nil)) (brush look (elm w g nil) ss))
          (bwd (pairs look C us) (pt k) (brush look g (rest_of ss)) >>= λ r. got (elt (bytes_of look w) (element_for w (first_of ss)) (from_origin w) r.0 none, r.1))
          (said C (record { value = at 0 w ∷ raised a.value; compared = a.compared }) ss us)
          (ap (λ (z : Value). back (first_of ss ∷ (put (flat_slots C) z (rest_of ss) us).in_source) (put (flat_slots C) z (rest_of ss) us).in_slots) v)
          (rw (same_text_refl (bytes_of look w), same_from_refl w))
          (ends_then look permit C none k (elm w k nil) b (back (first_of ss ∷ b.in_source) b.in_slots)
          (bwd (pairs look C us) (pt k) (brush look g (rest_of ss))) (said C a (rest_of ss) us)
          (said C (record { value = at 0 w ∷ raised a.value; compared = a.compared }) ss us)
          (λ r. got (elt (bytes_of look w) (element_for w (first_of ss)) (from_origin w) r.0 none, r.1)) E
          (λ n c.
          let own = only (is_from n w) (first_of ss) in
          rw (gathered_raised n a.value (rest_of ss))
          (ap is_clash (outward own (gathered n a.value (rest_of ss)) (gathered_slots n (flat_slots C) us) (lock n a.compared)) ∙ clash_joins own (said C a (rest_of ss) us n) c))
          (λ F' E'. went refl (G, F', tt) E'))
        where
          outward : (p t u l : Standing) → p ⋓ t ⋓ u ⋓ l ≡ p ⋓ (t ⋓ u ⋓ l)
          outward p t u l = simp merge_assoc

  -- ## 0C

  pub bind_back : (ns : List ℕ) (k : ℕ) (run : Run) (put : Putting) (fwd : Forward) (bwd : Backward) → PutsBack look permit watch (k ∷ ns) run put fwd bwd
      → PutsBack look permit watch ns (bind_run k run) (bind_put k put) (xlet_forward k fwd) (xlet_backward k bwd)
  unfolding gathered_slots
  bind_back ns k run put fwd bwd X C s R f F o h W =
      let A = X ((k, f) ∷ C) (ap (λ (l : List ℕ). k ∷ l) s) (F, R) nil tt o h W in
      let u = still permit look f (all_over untouched (flat 0 f)) (at_untouched (flat 0 f)) in
      record {
        g = A.g;
        right = A.right;
        flat_is = A.flat_is;
        forth = A.forth;
        back = λ ss us K E. released ss us A.g (rw u.0 at (A.back ss (all_over untouched (flat 0 f) ∷ us) K (u.1, E)));
      }
    where
      released : (ss : List Standing) (us : SlotStandings) (g : Trees)
          → Ends look permit ((k, f) ∷ C) none nil (put (bound k (flat_slots C) (flat 0 f)) [] ss (all_over untouched (flat 0 f) ∷ us))
          (bwd ((k, (pt f, pt f)) ∷ pairs look C us) none (brush look g ss)) (said ((k, f) ∷ C) o ss (all_over untouched (flat 0 f) ∷ us))
          → Ends look permit C none f (bind_put k put (flat_slots C) (flat 0 f) ss us) (xlet_backward k bwd (pairs look C us) (pt f) (brush look g ss)) (said C o ss us)
      released ss us g (went q Ks Es) = went (rw q) Es.0 Es.1
      released ss us g (failed q n c) = failed (rw q) n (rw (gathered_untouched n (flat 0 f) (flat 0 f), unit_left (gathered_slots n (flat_slots C) us)) at c)
