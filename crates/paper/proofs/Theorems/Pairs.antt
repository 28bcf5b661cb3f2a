-- Putting back, one lemma a combinator with two parts: 08, 09 and 0B. The conservation law says what the first part to be put back leaves to the second.
use Rattle.std.specs.Prelude.{◌≡◌, Bool, true, false, length, take, drop}
use Rattle.std.proofs.Math.Path.{sym, ap, ap₂}
use Rattle.std.proofs.Common.{◌∙◌}
use mathlib.Core.List.{List, ◌++◌}
use Prim.Native.Nat.{ℕ}
use Rattle.values.specs.Values.{Value, Lookup}
use Rattle.values.specs.Standings.{Standing, is_clash, ◌⋓◌, merged, gathered}
use Rattle.values.proofs.Theorems.Gathering.{gathered_take}
use Rattle.runs.specs.declared.stop.Stop.{Stop}
use Rattle.runs.specs.Results.{Result, gives}
use Rattle.runs.specs.Showing.{Shown, Answer}
use Rattle.runs.specs.PuttingBack.{SlotStandings, gathered_slots, Back, back, value_of, says_yes}
use Rattle.runs.specs.Theorems.Combinators.{Run, Asking, Putting, then_run, beside_run, branch_run, choose_run}
use Rattle.runs.specs.Theorems.Combinators.{then_put, beside_put, branch_put, choose_put}
use Rattle.runs.specs.Theorems.Inversion.{on_gives, on_bind, both, on_pair}
use Rattle.runs.proofs.Theorems.Conservation.{lock, Law}
use Rattle.paper.specs.Data.{Sequence, none, got, ◌>>=◌}
use Rattle.paper.specs.Contexts.{Context}
use Rattle.paper.specs.Operators.{mg, Forward, Backward}
use Rattle.paper.specs.Semantics.{branch}
use Rattle.paper.specs.Theorems.Constructs.{xseq_forward, xpar_forward, xif_forward, xseq_backward, xpar_backward, xif_backward}
use Rattle.paper.specs.Theorems.Constructs.{Asking as Predicated}
use Rattle.paper.specs.Theorems.Trees.{Trees, flat, ◌⊹◌, Scope, flat_slots, flat_append, paint, paint_all, paint_append, right_append}
use Rattle.paper.proofs.Theorems.Brushes.{size, length_flat, brush, Permit, Fine, FineAll, told, gathered_flat, clash_stays, Merging, whole, torn, merging}
use Rattle.paper.proofs.Theorems.Places.{alike_take, brush_alike, brush_append, fine_alike, fine_parts, no_marks}
use Rattle.paper.proofs.Theorems.Ends.{Watched, watched_left, watched_right, pairs, firsts_pairs, said, Ends, went, failed}
use Rattle.paper.proofs.Theorems.Ends.{Backs, TestBacks, PutsBack, TestPutsBack, ends_at, ends_all, ends_then, shown_again}
use Rattle.paper.proofs.Theorems.Parts.{said_noted, said_both, regroup_second, regroup_slots, regroup_sources, split_two}

module _ (look : Lookup) (permit : Permit) (watch : ℕ → Bool) where
  abbrev pt : Trees → Sequence
  pt f = paint look no_marks f

  abbrev pc : Scope → Context
  pc C = paint_all look no_marks C

  pub then_back : (ns : List ℕ) (f g : Run) (f' g' : Putting) (F G : Forward) (F' G' : Backward)
      → PutsBack look permit watch ns f f' F F' → PutsBack look permit watch ns g g' G G' → ((n : ℕ) → Law n g g')
      → PutsBack look permit watch ns (then_run f g) (then_put f f' g') (xseq_forward F G) (xseq_backward F F' G')
  unfolding value_of
  then_back ns f g f' g' F G F' G' X Y L C s R h H o eq W =
      on_bind (f (flat_slots C) (flat 0 h)) _ o eq λ a p h₁.
      on_bind (g (flat_slots C) a.value) _ o h₁ λ c q h₂.
      on_gives (λ z. Watched watch z.compared → Backs look permit C h z (then_put f f' g') (xseq_forward F G) (xseq_backward F F' G'))
      (record { value = c.value; compared = a.compared ++ c.compared }) o h₂ (λ W.
      let A = X C s R h H a p (watched_left watch a.compared c.compared W) in
      let q' : g (flat_slots C) (flat 0 A.g) ≡ gives c = ap (g (flat_slots C)) (sym A.flat_is) ∙ q in
      let B = Y C s R A.g A.right c q' (watched_right watch a.compared c.compared W) in
      record {
        g = B.g;
        right = B.right;
        flat_is = B.flat_is;
        forth = rw A.forth B.forth;
        back = λ ss us K E.
            let r = g' (flat_slots C) (flat 0 A.g) ss us in
            let whole = said C (record { value = c.value; compared = a.compared ++ c.compared }) ss us in
            ends_at look permit C none h (then_put f f' g' (flat_slots C) (flat 0 h) ss us) (f' (flat_slots C) (flat 0 h) r.in_source r.in_slots)
            (xseq_backward F F' G' (pairs look C us) (pt h) (brush look B.g ss)) (G' (pairs look C us) (pt A.g) (brush look B.g ss) >>= λ r. F' r.1 (pt h) r.0) whole
            (ap (λ (z : Value). let r = g' (flat_slots C) z ss us in f' (flat_slots C) (flat 0 h) r.in_source r.in_slots) (ap value_of p ∙ A.flat_is))
            (shown_again look permit C F h A.g A.forth us (λ W. G' (pairs look C us) W (brush look B.g ss) >>= λ r. F' r.1 (pt h) r.0))
            (ends_then look permit C none A.g h r (f' (flat_slots C) (flat 0 h) r.in_source r.in_slots)
            (G' (pairs look C us) (pt A.g) (brush look B.g ss)) (said C c ss us) whole (λ r. F' r.1 (pt h) r.0)
            (B.back ss us K E) (λ n k. ap is_clash (said_noted n C ss us c.value a.compared c.compared) ∙ clash_stays (said C c ss us n) (lock n a.compared) k)
            (λ K' E'. ends_all look permit C none h (f' (flat_slots C) (flat 0 h) r.in_source r.in_slots)
            (F' (pairs look C r.in_slots) (pt h) (brush look A.g r.in_source)) whole (said C a r.in_source r.in_slots)
            (λ n k. ap is_clash (said_noted n C ss us c.value a.compared c.compared ∙ ap (λ (z : Standing). z ⋓ lock n a.compared)
            (sym (L n (flat_slots C) (flat 0 A.g) c q' ss us)
            ∙ ap (λ (z : Value). gathered n z r.in_source ⋓ gathered_slots n (flat_slots C) r.in_slots) (sym A.flat_is))) ∙ k)
            (A.back r.in_source r.in_slots K' E')));
      })
      W

  -- X2 first, then X1 into the slots that it leaves; then both sources merge
  pub beside_back : (ns : List ℕ) (e : ℕ) (f g : Run) (f' g' : Putting) (F G : Forward) (F' G' : Backward)
      → PutsBack look permit watch ns f f' F F' → PutsBack look permit watch ns g g' G G'
      → ((n : ℕ) → Law n f f') → ((n : ℕ) → Law n g g') → PutsBack look permit watch ns (beside_run e f g) (beside_put f g f' g') (xpar_forward F G) (xpar_backward F G F' G')
  unfolding value_of
  beside_back ns e f g f' g' F G F' G' X Y LX LY C s R h H o eq W =
      on_pair (λ z. Watched watch z.compared → Backs look permit C h z (beside_put f g f' g') (xpar_forward F G) (xpar_backward F G F' G'))
      e (f (flat_slots C) (flat 0 h)) (g (flat_slots C) (flat 0 h)) o eq (λ a c p q _ W.
      let A = X C s R h H a p (watched_left watch a.compared c.compared W) in
      let B = Y C s R h H c q (watched_right watch a.compared c.compared W) in
      record {
        g = A.g ⊹ B.g;
        right = right_append look A.g B.g A.right B.right;
        flat_is = ap₂ (λ (v w : Value). v ++ w) A.flat_is B.flat_is ∙ sym (flat_append 0 A.g B.g);
        forth = rw (A.forth, B.forth, paint_append look no_marks A.g B.g);
        back = λ ss us K E. parts a c p q A B ss us K E;
      })
      W
    where
      ends : (r t : Back) (all : ℕ → Standing)
          → ((n : ℕ) → all n ≡ (gathered n (flat 0 h) r.in_source ⋓ gathered n (flat 0 h) t.in_source) ⋓ gathered_slots n (flat_slots C) r.in_slots)
          → FineAll permit C r.in_slots → Merging look permit h r.in_source t.in_source
          → Ends look permit C none h (back (merged r.in_source t.in_source) r.in_slots)
          (mg (brush look h r.in_source) (brush look h t.in_source) >>= λ Q. got (Q, pairs look C r.in_slots)) all
      ends r t all k E (whole e K) = went (rw e) K E
      ends r t all k E (torn e n u) =
          failed (rw e) n
          (rw (k n, gathered_flat n 0 h r.in_source, gathered_flat n 0 h t.in_source)
          (clash_stays (told n h r.in_source ⋓ told n h t.in_source) (gathered_slots n (flat_slots C) r.in_slots) u))

      parts : (a c : Shown) → f (flat_slots C) (flat 0 h) ≡ gives a → g (flat_slots C) (flat 0 h) ≡ gives c
          → (A : Backs look permit C h a f' F F') (B : Backs look permit C h c g' G G')
          → (ss : List Standing) (us : SlotStandings) → Fine permit (A.g ⊹ B.g) ss → FineAll permit C us
          → Ends look permit C none h (beside_put f g f' g' (flat_slots C) (flat 0 h) ss us)
          (xpar_backward F G F' G' (pairs look C us) (pt h) (brush look (A.g ⊹ B.g) ss)) (said C (both a c) ss us)
      parts a c p q A B ss us K E =
          let k = size A.g in
          let j = size B.g in
          let la : length a.value ≡ k = ap length A.flat_is ∙ length_flat 0 A.g in
          let lc : length c.value ≡ j = ap length B.flat_is ∙ length_flat 0 B.g in
          let mine = take k ss in
          let theirs = take j (drop k ss) in
          let t = g' (flat_slots C) (flat 0 h) theirs us in
          let r = f' (flat_slots C) (flat 0 h) mine t.in_slots in
          let all = said C (both a c) ss us in
          let ours : ℕ → Standing = λ n. gathered n a.value mine in
          let i = fine_parts permit A.g B.g ss K in
          let first : (n : ℕ) → all n ≡ said C c theirs us n ⋓ (ours n ⋓ lock n a.compared)
          = λ n. said_both n k C a c ss us la
          ∙ regroup_second (ours n) (gathered n c.value (drop k ss)) (gathered_slots n (flat_slots C) us) (lock n a.compared) (lock n c.compared)
          ∙ ap (λ (z : Standing). z ⋓ gathered_slots n (flat_slots C) us ⋓ lock n c.compared ⋓ (ours n ⋓ lock n a.compared))
          (sym (ap (λ (m : ℕ). gathered n c.value (take m (drop k ss))) (sym lc) ∙ gathered_take n c.value (drop k ss))) in
          let second : (n : ℕ) → all n ≡ said C a mine t.in_slots n ⋓ gathered n (flat 0 h) t.in_source
          = λ n. first n ∙ ap (λ (z : Standing). z ⋓ (ours n ⋓ lock n a.compared)) (sym (LY n (flat_slots C) (flat 0 h) c q theirs us))
          ∙ regroup_slots (gathered n (flat 0 h) t.in_source) (gathered_slots n (flat_slots C) t.in_slots) (ours n) (lock n a.compared) in
          let third : (n : ℕ) → all n ≡ (gathered n (flat 0 h) r.in_source ⋓ gathered n (flat 0 h) t.in_source) ⋓ gathered_slots n (flat_slots C) r.in_slots
          = λ n. second n ∙ ap (λ (z : Standing). z ⋓ gathered n (flat 0 h) t.in_source) (sym (LX n (flat_slots C) (flat 0 h) a p mine t.in_slots))
          ∙ regroup_sources (gathered n (flat 0 h) r.in_source) (gathered_slots n (flat_slots C) r.in_slots) (gathered n (flat 0 h) t.in_source) in
          ends_at look permit C none h (beside_put f g f' g' (flat_slots C) (flat 0 h) ss us) (back (merged r.in_source t.in_source) r.in_slots)
          (xpar_backward F G F' G' (pairs look C us) (pt h) (brush look (A.g ⊹ B.g) ss))
          (G' (pairs look C us) (pt h) (brush look B.g theirs) >>= λ b. F' b.1 (pt h) (brush look A.g mine) >>= λ a. mg a.0 b.0 >>= λ Q. got (Q, a.1)) all
          (ap₂ (λ (m n : ℕ).
          let b = g' (flat_slots C) (flat 0 h) (take n (drop m ss)) us in
          let a = f' (flat_slots C) (flat 0 h) (take m ss) b.in_slots in
          back (merged a.in_source b.in_source) a.in_slots)
          (ap (λ (z : Result Stop Shown). length (value_of z)) p ∙ la) (ap (λ (z : Result Stop Shown). length (value_of z)) q ∙ lc))
          (rw (
            firsts_pairs look C us,
            A.forth,
            B.forth,
            brush_append look A.g B.g ss,
            brush_alike look A.g ss mine (alike_take k ss),
            brush_alike look B.g (drop k ss) theirs (alike_take j (drop k ss)),
            split_two look A.g B.g mine theirs,
          ))
          (ends_then look permit C none h h t (back (merged r.in_source t.in_source) r.in_slots)
          (G' (pairs look C us) (pt h) (brush look B.g theirs)) (said C c theirs us) all
          (λ b. F' b.1 (pt h) (brush look A.g mine) >>= λ a. mg a.0 b.0 >>= λ Q. got (Q, a.1))
          (B.back theirs us (fine_alike permit B.g (drop k ss) theirs (alike_take j (drop k ss)) i.1) E)
          (λ n u. ap is_clash (first n) ∙ clash_stays (said C c theirs us n) (ours n ⋓ lock n a.compared) u)
          (λ Kt Et. ends_then look permit C none h h r (back (merged r.in_source t.in_source) r.in_slots)
          (F' (pairs look C t.in_slots) (pt h) (brush look A.g mine)) (said C a mine t.in_slots) all
          (λ a. mg a.0 (brush look h t.in_source) >>= λ Q. got (Q, a.1))
          (A.back mine t.in_slots (fine_alike permit A.g ss mine (alike_take k ss) i.0) Et)
          (λ n u. ap is_clash (second n) ∙ clash_stays (said C a mine t.in_slots n) (gathered n (flat 0 h) t.in_source) u)
          (λ Kr Er. ends r t all third Er (merging look permit h r.in_source t.in_source Kr Kt))))

  -- ## 0B

  branch_back : (ns : List ℕ) (t : Bool) (f g : Run) (f' g' : Putting) (F G : Forward) (F' G' : Backward)
      → PutsBack look permit watch ns f f' F F' → PutsBack look permit watch ns g g' G G'
      → PutsBack look permit watch ns (branch_run t f g) (branch_put t f' g') (λ D S. branch t (F D S) (G D S)) (λ E S T. branch t (F' E S T) (G' E S T))
  branch_back ns true f g f' g' F G F' G' X Y = X
  branch_back ns false f g f' g' F G F' G' X Y = Y

  branch_law : (n : ℕ) (t : Bool) (f g : Run) (f' g' : Putting) → Law n f f' → Law n g g' → Law n (branch_run t f g) (branch_put t f' g')
  branch_law n true f g f' g' F G = F
  branch_law n false f g f' g' F G = G

  pub choose_back : (ns : List ℕ) (ask : Asking) (t' : Putting) (P : Predicated) (P' : Backward) (f g : Run) (f' g' : Putting) (F G : Forward) (F' G' : Backward)
      → TestPutsBack look permit watch ns ask t' P P' → PutsBack look permit watch ns f f' F F'
      → PutsBack look permit watch ns g g' G G' → ((n : ℕ) → Law n f f') → ((n : ℕ) → Law n g g')
      → PutsBack look permit watch ns (choose_run ask f g) (choose_put ask t' f' g') (xif_forward P F G) (xif_backward P P' F' G')
  unfolding says_yes
  choose_back ns ask t' P P' f g f' g' F G F' G' T X Y LX LY C s R h H o eq W =
      on_bind (ask (flat_slots C) (flat 0 h)) _ o eq λ p q h₁.
      on_bind (branch_run p.yes f g (flat_slots C) (flat 0 h)) _ o h₁ λ a r h₂.
      on_gives (λ z. Watched watch z.compared → Backs look permit C h z (choose_put ask t' f' g') (xif_forward P F G) (xif_backward P P' F' G'))
      (record { value = a.value; compared = p.compared ++ a.compared }) o h₂ (λ W.
      chosen p a q (T C s R h H p q (watched_left watch p.compared a.compared W))
      (branch_back ns p.yes f g f' g' F G F' G' X Y C s R h H a r (watched_right watch p.compared a.compared W))
      (λ n ss us. branch_law n p.yes f g f' g' (LX n) (LY n) (flat_slots C) (flat 0 h) a r ss us))
      W
    where
      chosen : (p : Answer) (a : Shown) → ask (flat_slots C) (flat 0 h) ≡ gives p
          → TestBacks look permit C h p t' P P'
          → Backs look permit C h a (branch_put p.yes f' g') (λ D S. branch p.yes (F D S) (G D S)) (λ E S T. branch p.yes (F' E S T) (G' E S T))
          → ((n : ℕ) (ss : List Standing) (us : SlotStandings) → let b = branch_put p.yes f' g' (flat_slots C) (flat 0 h) ss us in
          gathered n (flat 0 h) b.in_source ⋓ gathered_slots n (flat_slots C) b.in_slots ≡ said C a ss us n)
          → Backs look permit C h (record { value = a.value; compared = p.compared ++ a.compared }) (choose_put ask t' f' g') (xif_forward P F G) (xif_backward P P' F' G')
      chosen p a q T A L =
          record {
            g = A.g;
            right = A.right;
            flat_is = A.flat_is;
            forth = rw T.forth A.forth;
            back = λ ss us K E.
                let b = branch_put p.yes f' g' (flat_slots C) (flat 0 h) ss us in
                let all = said C (record { value = a.value; compared = p.compared ++ a.compared }) ss us in
                let taken = branch p.yes (F' (pairs look C us) (pt h) (brush look A.g ss)) (G' (pairs look C us) (pt h) (brush look A.g ss)) in
                ends_at look permit C none h (choose_put ask t' f' g' (flat_slots C) (flat 0 h) ss us) (t' (flat_slots C) (flat 0 h) b.in_source b.in_slots)
                (xif_backward P P' F' G' (pairs look C us) (pt h) (brush look A.g ss)) (taken >>= λ r. P' r.1 (pt h) r.0) all
                (ap (λ (z : Result Stop Answer). let b = branch_put (says_yes z) f' g' (flat_slots C) (flat 0 h) ss us in t' (flat_slots C) (flat 0 h) b.in_source b.in_slots) q)
                (rw (firsts_pairs look C us, T.forth))
                (ends_then look permit C none h h b (t' (flat_slots C) (flat 0 h) b.in_source b.in_slots) taken
                (said C a ss us) all (λ r. P' r.1 (pt h) r.0) (A.back ss us K E)
                (λ n c. ap is_clash (said_noted n C ss us a.value p.compared a.compared) ∙ clash_stays (said C a ss us n) (lock n p.compared) c)
                (λ Kb Eb. ends_all look permit C none h (t' (flat_slots C) (flat 0 h) b.in_source b.in_slots)
                (P' (pairs look C b.in_slots) (pt h) (brush look h b.in_source)) all
                (said C (record { value = flat 0 h; compared = p.compared }) b.in_source b.in_slots)
                (λ n c. ap is_clash (said_noted n C ss us a.value p.compared a.compared ∙ ap (λ (z : Standing). z ⋓ lock n p.compared) (sym (L n ss us))) ∙ c)
                (T.back b.in_source b.in_slots Kb Eb)));
          }
