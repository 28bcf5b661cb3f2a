-- Putting back 0A: the items from the left, as the paper's `iter` goes over them.
use Rattle.std.specs.Prelude.{◌≡◌, Bool, true, ℕ, ◌+◌, ◌<◌, take, drop}
use Rattle.std.proofs.Math.Path.{refl, sym, ap, ap₂, subst⁻¹}
use Rattle.std.proofs.Common.{◌∙◌}
use mathlib.Core.List.{List, [], ◌∷◌, ◌++◌, map}
use Rattle.std.proofs.Math.ListN.{length}
use Rattle.values.specs.Values.{Value, Lookup}
use Rattle.values.specs.Standings.{Standing, is_clash, ◌⋓◌, fitted, gathered}
use Rattle.runs.specs.declared.stop.Stop.{Stop}
use Rattle.runs.specs.Results.{Result, gives}
use Rattle.runs.specs.Showing.{Shown, in_turn}
use Rattle.runs.specs.PuttingBack.{SlotStandings, gathered_slots, Back, back, value_of, over_items}
use Rattle.runs.specs.Theorems.Combinators.{Run, Putting, each_run}
use Rattle.runs.specs.Theorems.Combinators.{items_put, each_put}
use Rattle.runs.specs.Theorems.Inversion.{on_gives, both, on_turn}
use Rattle.runs.proofs.Theorems.Conservation.{lock, Law}
use Rattle.paper.specs.Data.{Sequence, none, ◌⧺◌, len, May, got, ◌>>=◌}
use Rattle.paper.specs.Contexts.{Context, PairContext}
use Rattle.paper.specs.Operators.{split, Forward, Backward, iter}
use Rattle.paper.specs.Semantics.{on_each, lengths}
use Rattle.paper.specs.Theorems.Constructs.{xmap_forward, xmap_backward}
use Rattle.paper.specs.Theorems.Trees.{seq_none, seq_assoc, Trees, nil, txt, elm, flat, ◌⊹◌, Scope, flat_slots, names, flat_append}
use Rattle.paper.specs.Theorems.Trees.{items_of, items_flat, paint, paint_all, paint_append, Right, RightAll, right_append}
use Rattle.paper.proofs.Theorems.Brushes.{size, length_flat, brush, Permit, Fine, FineAll, clash_stays}
use Rattle.paper.proofs.Theorems.Places.{at_fitted, drop_fitted, SameFirst, alike_take, brush_alike, brush_append, fine_alike, fine_parts, fine_append, no_marks}
use Rattle.paper.proofs.Theorems.Ends.{Watched, watched_left, watched_right, pairs, firsts_pairs, said, Ends, went, failed, Backs, PutsBack, ends_at, ends_then}
use Rattle.paper.proofs.Theorems.Parts.{said_both, regroup_first, regroup_slots, split_brush}

module _ (look : Lookup) (permit : Permit) (watch : ℕ → Bool) where
  abbrev pt : Trees → Sequence
  pt f = paint look no_marks f

  abbrev pc : Scope → Context
  pc C = paint_all look no_marks C

  -- the items of f; `before` stands in front of what they hand back
  record Listed (run : Run) (put : Putting) (fwd : Forward) (bwd : Backward) (C : Scope) (f : Trees) (o : Shown) : Type 0 where
    gs : Trees
    rights : Right look gs
    flats : o.value ≡ flat 0 gs
    forths : on_each (fwd (paint_all look no_marks C)) (paint look no_marks f) ≡ got (paint look no_marks gs)
    ls : List ℕ
    lengths_are : lengths (fwd (paint_all look no_marks C)) (paint look no_marks f) ≡ got ls
    parts : List Standing → List Sequence
    split_is : (ss : List Standing) → split (brush look gs ss) ls ≡ got (parts ss)
    backs : (ss : List Standing) (us : SlotStandings) → Fine permit gs ss → FineAll permit C us → (before : Sequence)
        → Ends look permit C before f (items_put run put (items_of f) (flat_slots C) ss us) (iter bwd (parts ss) (paint look no_marks f) before (pairs look C us)) (said C o ss us)

  -- the first item's putting back and that of the others
  item_ends : (put : Putting) (bwd : Backward) (C : Scope) (h r : Trees) (a c : Shown) (gh gr : Trees) → length a.value ≡ size gh
      → ((n : ℕ) (ss : List Standing) (us : SlotStandings) → let b = put (flat_slots C) (flat 0 h) ss us in
      gathered n (flat 0 h) b.in_source ⋓ gathered_slots n (flat_slots C) b.in_slots ≡ said C a ss us n)
      → (rest : List Standing → SlotStandings → Back) (parts : List Standing → List Sequence)
      → ((ss : List Standing) (us : SlotStandings) → Fine permit gh ss → FineAll permit C us
      → Ends look permit C none h (put (flat_slots C) (flat 0 h) ss us) (bwd (pairs look C us) (pt h) (brush look gh ss)) (said C a ss us))
      → ((ss : List Standing) (us : SlotStandings) → Fine permit gr ss → FineAll permit C us
      → (before : Sequence) → Ends look permit C before r (rest ss us) (iter bwd (parts ss) (pt r) before (pairs look C us)) (said C c ss us))
      → (ss : List Standing) (us : SlotStandings) → Fine permit (gh ⊹ gr) ss → FineAll permit C us → (before : Sequence)
      → Ends look permit C before (h ⊹ r)
      (let b = put (flat_slots C) (flat 0 h) (take (size gh) ss) us in
      let d = rest (drop (size gh) ss) b.in_slots in
      back (fitted (flat 0 h) b.in_source ++ d.in_source) d.in_slots)
      (bwd (pairs look C us) (pt h) (brush look gh (take (size gh) ss)) >>= λ z. iter bwd (parts (drop (size gh) ss)) (pt r) (before ⧺ z.0) z.1) (said C (both a c) ss us)
  item_ends put bwd C h r a c gh gr la L rest parts H T ss us K E before =
      let k = size gh in
      let i = fine_parts permit gh gr ss K in
      let b = put (flat_slots C) (flat 0 h) (take k ss) us in
      let d = rest (drop k ss) b.in_slots in
      let all = said C (both a c) ss us in
      let first : (n : ℕ) → all n ≡ said C a (take k ss) us n ⋓ (gathered n c.value (drop k ss) ⋓ lock n c.compared)
      = λ n. said_both n k C a c ss us la
      ∙ regroup_first (gathered n a.value (take k ss)) (gathered n c.value (drop k ss)) (gathered_slots n (flat_slots C) us) (lock n a.compared) (lock n c.compared) in
      let second : (n : ℕ) → all n ≡ said C c (drop k ss) b.in_slots n ⋓ gathered n (flat 0 h) b.in_source
      = λ n. first n ∙ ap (λ (z : Standing). z ⋓ (gathered n c.value (drop k ss) ⋓ lock n c.compared)) (sym (L n (take k ss) us))
      ∙ regroup_slots (gathered n (flat 0 h) b.in_source) (gathered_slots n (flat_slots C) b.in_slots) (gathered n c.value (drop k ss)) (lock n c.compared) in
      ends_then look permit C before h (h ⊹ r) b (back (fitted (flat 0 h) b.in_source ++ d.in_source) d.in_slots)
      (bwd (pairs look C us) (pt h) (brush look gh (take k ss))) (said C a (take k ss) us) all
      (λ z. iter bwd (parts (drop k ss)) (pt r) (before ⧺ z.0) z.1)
      (H (take k ss) us (fine_alike permit gh ss (take k ss) (alike_take k ss) i.0) E)
      (λ n u. ap is_clash (first n) ∙ clash_stays (said C a (take k ss) us n) (gathered n c.value (drop k ss) ⋓ lock n c.compared) u)
      (λ Kb Eb. others b d (iter bwd (parts (drop k ss)) (pt r) (before ⧺ brush look h b.in_source) (pairs look C b.in_slots)) all (said C c (drop k ss) b.in_slots) Kb
      (λ n u. ap is_clash (second n) ∙ clash_stays (said C c (drop k ss) b.in_slots n) (gathered n (flat 0 h) b.in_source) u)
      (T (drop k ss) b.in_slots i.1 Eb (before ⧺ brush look h b.in_source)))
    where
      others : (b d : Back) (p : May (Sequence × PairContext)) (all all' : ℕ → Standing)
          → Fine permit h b.in_source → ((n : ℕ) → is_clash (all' n) ≡ true → is_clash (all n) ≡ true)
          → Ends look permit C (before ⧺ brush look h b.in_source) r d p all'
          → Ends look permit C before (h ⊹ r) (back (fitted (flat 0 h) b.in_source ++ d.in_source) d.in_slots) p all
      others b d p all all' Kb m (failed e n u) = failed e n (m n u)
      others b d p all all' Kb m (went e Kd Ed) =
          let l = fitted (flat 0 h) b.in_source ++ d.in_source in
          let al : SameFirst (size h) b.in_source l = λ i j. sym (at_fitted (flat 0 h) b.in_source d.in_source i (subst⁻¹ (λ (n : ℕ). i < n) (length_flat 0 h) j)) in
          let dr : drop (size h) l ≡ d.in_source = ap (λ (n : ℕ). drop n l) (sym (length_flat 0 h)) ∙ drop_fitted (flat 0 h) b.in_source d.in_source in
          went
          (e ∙ ap (λ (S : Sequence). got (S, pairs look C d.in_slots))
          (seq_assoc before (brush look h b.in_source) (brush look r d.in_source)
          ∙ ap (λ (S : Sequence). before ⧺ S)
          (ap₂ (λ (S T : Sequence). S ⧺ T) (brush_alike look h b.in_source l al) (ap (brush look r) (sym dr)) ∙ sym (brush_append look h r l))))
          (fine_append permit h r l (fine_alike permit h b.in_source l al Kb) (subst⁻¹ (λ (q : List Standing). Fine permit r q) dr Kd)) Ed

  -- an item h in front of r, which the last four equations say
  item_listed : (run : Run) (put : Putting) (fwd : Forward) (bwd : Backward) → ((n : ℕ) → Law n run put)
      → (C : Scope) (h r : Trees) (a c : Shown) → run (flat_slots C) (flat 0 h) ≡ gives a
      → Backs look permit C h a put fwd bwd → Listed run put fwd bwd C r c
      → items_of (h ⊹ r) ≡ flat 0 h ∷ items_of r
      → on_each (fwd (pc C)) (pt (h ⊹ r)) ≡ (fwd (pc C) (pt h) >>= λ A. on_each (fwd (pc C)) (pt r) >>= λ B. got (A ⧺ B))
      → lengths (fwd (pc C)) (pt (h ⊹ r)) ≡ (fwd (pc C) (pt h) >>= λ A. lengths (fwd (pc C)) (pt r) >>= λ l. got (len A ∷ l))
      → ((T : Sequence) (l : List Sequence) (before : Sequence) (E : PairContext)
      → iter bwd (T ∷ l) (pt (h ⊹ r)) before E ≡ (bwd E (pt h) T >>= λ z. iter bwd l (pt r) (before ⧺ z.0) z.1))
      → Listed run put fwd bwd C (h ⊹ r) (both a c)
  unfolding over_items value_of
  item_listed run put fwd bwd L C h r a c p A R is on ln it =
      let la : length a.value ≡ size A.g = ap length A.flat_is ∙ length_flat 0 A.g in
      record {
        gs = A.g ⊹ R.gs;
        rights = right_append look A.g R.gs A.right R.rights;
        flats = ap₂ (λ (v w : Value). v ++ w) A.flat_is R.flats ∙ sym (flat_append 0 A.g R.gs);
        forths = on ∙ rw (A.forth, R.forths, paint_append look no_marks A.g R.gs);
        ls = len (pt A.g) ∷ R.ls;
        lengths_are = ln ∙ rw (A.forth, R.lengths_are);
        parts = λ ss. brush look A.g (take (size A.g) ss) ∷ R.parts (drop (size A.g) ss);
        split_is = λ ss. rw (brush_append look A.g R.gs ss, brush_alike look A.g ss (take (size A.g) ss) (alike_take (size A.g) ss))
            (split_brush look A.g (take (size A.g) ss) (brush look R.gs (drop (size A.g) ss))
            R.ls (R.parts (drop (size A.g) ss)) (R.split_is (drop (size A.g) ss)));
        backs = λ ss us K E before.
            ends_at look permit C before (h ⊹ r) (items_put run put (items_of (h ⊹ r)) (flat_slots C) ss us)
            (let b = put (flat_slots C) (flat 0 h) (take (size A.g) ss) us in
            let d = items_put run put (items_of r) (flat_slots C) (drop (size A.g) ss) b.in_slots in
            back (fitted (flat 0 h) b.in_source ++ d.in_source) d.in_slots)
            (iter bwd (brush look A.g (take (size A.g) ss) ∷ R.parts (drop (size A.g) ss)) (pt (h ⊹ r)) before (pairs look C us))
            (bwd (pairs look C us) (pt h) (brush look A.g (take (size A.g) ss))
            >>= λ z. iter bwd (R.parts (drop (size A.g) ss)) (pt r) (before ⧺ z.0) z.1)
            (said C (both a c) ss us)
            (ap (λ (l : List Value). items_put run put l (flat_slots C) ss us) is
            ∙ ap (λ (m : ℕ).
            let b = put (flat_slots C) (flat 0 h) (take m ss) us in
            let d = items_put run put (items_of r) (flat_slots C) (drop m ss) b.in_slots in
            back (fitted (flat 0 h) b.in_source ++ d.in_source) d.in_slots) (ap (λ (z : Result Stop Shown). length (value_of z)) p ∙ la))
            (it (brush look A.g (take (size A.g) ss)) (R.parts (drop (size A.g) ss)) before (pairs look C us))
            (item_ends put bwd C h r a c A.g R.gs la (λ n ts vs. L n (flat_slots C) (flat 0 h) a p ts vs)
            (items_put run put (items_of r) (flat_slots C)) R.parts A.back R.backs ss us K E before);
      }

  items_listed : (ns : List ℕ) (e : ℕ) (run : Run) (put : Putting) (fwd : Forward) (bwd : Backward) → PutsBack look permit watch ns run put fwd bwd → ((n : ℕ) → Law n run put)
      → (C : Scope) → names C ≡ ns → RightAll look C → (f : Trees) → Right look f → (m : ℕ) (o : Shown)
      → in_turn e m (map (run (flat_slots C)) (items_of f)) ≡ gives o → Watched watch o.compared
      → Listed run put fwd bwd C f o
  unfolding in_turn over_items
  items_listed ns e run put fwd bwd X L C s R nil F m o h W =
      on_gives (λ z. Listed run put fwd bwd C nil z) (record { value = []; compared = [] }) o h
      (record {
        gs = nil;
        rights = tt;
        flats = refl;
        forths = refl;
        ls = [];
        lengths_are = refl;
        parts = λ ss. [];
        split_is = λ ss. refl;
        backs = λ ss us K E before. went (rw (seq_none before)) tt E;
      })
  items_listed ns e run put fwd bwd X L C s R (txt w r) F m o h W =
      on_turn (λ z. Watched watch z.compared → Listed run put fwd bwd C (txt w r) z) e m
      (run (flat_slots C) (flat 0 (txt w nil))) (map (run (flat_slots C)) (items_of r)) o h (λ a c p _ q W.
      item_listed run put fwd bwd L C (txt w nil) r a c p (X C s R (txt w nil) (F.0, F.1, tt) a p (watched_left watch a.compared c.compared W))
      (items_listed ns e run put fwd bwd X L C s R r F.2 (m + length a.value) c q (watched_right watch a.compared c.compared W)) refl refl refl (λ T l before E. refl))
      W
  items_listed ns e run put fwd bwd X L C s R (elm w k r) F m o h W =
      on_turn (λ z. Watched watch z.compared → Listed run put fwd bwd C (elm w k r) z) e m
      (run (flat_slots C) (flat 0 (elm w k nil))) (map (run (flat_slots C)) (items_of r)) o h (λ a c p _ q W.
      item_listed run put fwd bwd L C (elm w k nil) r a c p (X C s R (elm w k nil) (F.0, F.1, F.2, tt) a p (watched_left watch a.compared c.compared W))
      (items_listed ns e run put fwd bwd X L C s R r F.3 (m + length a.value) c q (watched_right watch a.compared c.compared W)) refl refl refl (λ T l before E. refl))
      W

  pub each_back : (ns : List ℕ) (e : ℕ) (run : Run) (put : Putting) (fwd : Forward) (bwd : Backward) → PutsBack look permit watch ns run put fwd bwd → ((n : ℕ) → Law n run put)
      → PutsBack look permit watch ns (each_run e run) (each_put run put) (xmap_forward fwd) (xmap_backward fwd bwd)
  each_back ns e run put fwd bwd X L C s R f F o h W =
      let I = items_listed ns e run put fwd bwd X L C s R f F 0 o (ap (λ (is : List Value). in_turn e 0 (map (run (flat_slots C)) is)) (sym (items_flat f)) ∙ h) W in
      record {
        g = I.gs;
        right = I.rights;
        flat_is = I.flats;
        forth = I.forths;
        back = λ ss us K E.
            ends_at look permit C none f (each_put run put (flat_slots C) (flat 0 f) ss us) (items_put run put (items_of f) (flat_slots C) ss us)
            (xmap_backward fwd bwd (pairs look C us) (pt f) (brush look I.gs ss)) (iter bwd (I.parts ss) (pt f) none (pairs look C us)) (said C o ss us)
            (ap (λ (is : List Value). items_put run put is (flat_slots C) ss us) (items_flat f))
            (rw (firsts_pairs look C us, I.lengths_are, I.split_is ss)) (I.backs ss us K E none);
      }
