-- Putting back the tests: 12 and 13 do nothing; a comparison, whatever its judge, locks both texts by any guard that locks or clashes.
use Rattle.std.specs.Prelude.{◌≡◌, Bool, true}
use Rattle.std.proofs.Math.Path.{refl, ap, subst⁻¹}
use Rattle.std.proofs.Common.{sym, subst, ◌∙◌}
use mathlib.Core.List.{List, [], ◌∷◌, ◌++◌}
use Prim.Native.Nat.{ℕ}
use Rattle.lines.specs.Texts.{same_text}
use Rattle.values.specs.Values.{Origin, master, program, Node, Value, Lookup, element_of, bytes_of, is_from, master_number}
use Rattle.values.specs.Standings.{Standing, untouched, locked, sort, is_clash, ◌⋓◌, first_of, all_over, merged, gathered}
use Rattle.values.proofs.Theorems.MergeLaws.{unit_right, merge_comm, merge_assoc, merge_left_comm}
use Rattle.values.proofs.Theorems.Gathering.{only, merged_first}
use Rattle.runs.specs.declared.stop.Stop.{Stop}
use Rattle.runs.specs.declared.stop.Stop.TheVariants.{Source}
use Rattle.runs.specs.Results.{Result, gives}
use Rattle.runs.specs.Showing.{Shown, Answer, one_top, one_element, one_text}
use Rattle.runs.specs.PuttingBack.{SlotStandings, gathered_slots, Back, back}
use Rattle.runs.specs.Theorems.Combinators.{Run, Putting, compares_ask, plain_ask}
use Rattle.runs.specs.Theorems.Combinators.{source_put, compares_put}
use Rattle.runs.specs.Theorems.Inversion.{no_gives, gives_inj, on_gives, on_bind}
use Rattle.runs.proofs.Theorems.Conservation.{lock, lock_append, lock_number}
use Rattle.paper.specs.Data.{Sequence, none, got, ◌>>=◌, ◌>>◌, provided, is_none}
use Rattle.paper.specs.Language.{Judge}
use Rattle.paper.specs.Contexts.{Context}
use Rattle.paper.specs.Operators.{Forward, Backward, Guard}
use Rattle.paper.specs.Semantics.{judged_forward, judged_backward}
use Rattle.paper.specs.Theorems.Constructs.{xwithtag_forward, xiselement_forward, xwithtag_backward, xiselement_backward}
use Rattle.paper.specs.Theorems.Judges.{Judged, Judges}
use Rattle.paper.specs.Theorems.Trees.{on_elm, on_txt, Trees, nil, txt, at, flat, Scope, flat_slots, paint, paint_all}
use Rattle.paper.specs.Theorems.Trees.{TextView, is_txt, not_txt, text_view, ItemView, is_item, not_item, item_view}
use Rattle.paper.proofs.Theorems.Brushes.{brush, Permit, FineText, Fine, FineAll, clash_stays, clash_joins}
use Rattle.paper.proofs.Theorems.Places.{no_marks}
use Rattle.paper.proofs.Theorems.Ends.{Watched, watched_left, watched_right, pairs, firsts_pairs, said, Ends, went, failed, Backs}
use Rattle.paper.proofs.Theorems.Ends.{TestBacks, PutsBack, TestPutsBack, Guarded, passes, stopped, Guarding, ends_at, ends_then}

module _ (look : Lookup) (permit : Permit) (watch : ℕ → Bool) where
  abbrev pt : Trees → Sequence
  pt f = paint look no_marks f

  abbrev pc : Scope → Context
  pc C = paint_all look no_marks C

  pub tagged_back : (ns : List ℕ) (e : ℕ) (t : List ℕ)
      → TestPutsBack look permit watch ns (plain_ask (one_element look e) (λ x. same_text (bytes_of look x.top.origin) t)) source_put (xwithtag_forward t) xwithtag_backward
  tagged_back ns e t C s R f F p h W =
      on_elm look no_marks e
      (λ f. plain_ask (one_element look e) (λ x. same_text (bytes_of look x.top.origin) t) (flat_slots C) (flat 0 f) ≡ gives p
      → TestBacks look permit C f p source_put (xwithtag_forward t) xwithtag_backward)
      (λ f u h. absurd (no_gives (Source e) p (rw u at h)))
      (λ w k i n K u h.
      let z = gives_inj (record { yes = same_text (bytes_of look w) t; compared = [] }) p (rw u at h) in
      record { forth = ap (λ (q : Answer). got q.yes) z; back = λ rs us G E. went refl G E })
      f F h

  pub element_back : (ns : List ℕ) (e : ℕ)
      → TestPutsBack look permit watch ns (plain_ask (one_top e) (λ x. element_of look x.top.origin)) source_put xiselement_forward xiselement_backward
  element_back ns e C s R f F p h W = go (item_view look no_marks e f F)
    where
      go : ItemView look no_marks e f → TestBacks look permit C f p source_put xiselement_forward xiselement_backward
      go (is_item w v u q) =
          let z = gives_inj (record { yes = element_of look w; compared = [] }) p (rw u at h) in
          record { forth = q ∙ ap (λ (a : Answer). got a.yes) z; back = λ rs us G E. went (rw q) G E }
      go (not_item u q) = absurd (no_gives (Source e) p (rw u at h))

  lockable : (w : Origin) → FineText permit w locked
  unfolding is_clash sort
  lockable (master n) = (refl, permit.locked_permitted n)
  lockable (program e b t) = tt

  -- the answer of a comparison of two texts, where X was shown as a
  abbrev answered : Shown → Origin → Origin → Bool → Answer
  answered a w w' b = record { yes = b; compared = a.compared ++ (master_number w ++ master_number w') }

  module _ (guard : Guard) (G : Guarding look permit watch guard) where
    -- the source text is w, X's is w'
    texts_back : (C : Scope) (put : Putting) (judge : Judge) (fwd : Forward) (bwd : Backward) (w w' : Origin) (a : Shown) (t : Bool)
        → (A : Backs look permit C nil a put fwd bwd) → A.g ≡ txt w' nil → judge (bytes_of look w) (bytes_of look w') ≡ got t → Watched watch (answered a w w' t).compared
        → TestBacks look permit C (txt w nil) (answered a w w' t) (compares_put put) (judged_forward judge fwd) (judged_backward guard fwd bwd)
    unfolding gathered all_over
    texts_back C put judge fwd bwd w w' a t A z j W =
        record {
          forth = rw (A.forth, z) j;
          back = λ rs us K E.
              let b = put (flat_slots C) [] (locked ∷ []) us in
              let end = back (merged rs (locked ∷ [])) b.in_slots in
              let all = said C (record { value = flat 0 (txt w nil); compared = (answered a w w' t).compared }) rs us in
              let own : ℕ → Standing = λ n. only (is_from n w) (first_of rs) ⋓ only (is_from n w) locked in
              let inner = said C a (locked ∷ []) us in
              let split : (n : ℕ) → all n ≡ own n ⋓ inner n = λ n. parts n rs us in
              ends_at look permit C none (txt w nil) end end (judged_backward guard fwd bwd (pairs look C us) (pt (txt w nil)) (brush look (txt w nil) rs))
              (bwd (pairs look C us) none (brush look A.g (locked ∷ []))
              >>= λ r. provided (is_none r.0) >> (guard (brush look (txt w nil) rs) (bytes_of look w) >>= λ Q. got (Q, r.1)))
              all refl
              (rw (firsts_pairs look C us, A.forth, z, G.fresh w'))
              (ends_then look permit C none nil (txt w nil) b end (bwd (pairs look C us) none (brush look A.g (locked ∷ []))) inner all
              (λ r. provided (is_none r.0) >> (guard (brush look (txt w nil) rs) (bytes_of look w) >>= λ Q. got (Q, r.1)))
              (A.back (locked ∷ []) us (subst⁻¹ (λ (f : Trees). Fine permit f (locked ∷ [])) z (lockable w', tt)) E)
              (λ n c. ap is_clash (split n) ∙ clash_joins (own n) (inner n) c)
              (λ _ Eb. guarded rs b all (λ n c. ap is_clash (split n) ∙ clash_stays (own n) (inner n) c) Eb (G.guarded w (first_of rs) K.0 ours)));
        }
      where
        ours : Watched watch (master_number w)
        ours =
            watched_left watch (master_number w) (master_number w') (watched_right watch a.compared (master_number w ++ master_number w') W)

        guarded : (rs : List Standing) (b : Back) (all : ℕ → Standing)
            → ((n : ℕ) → is_clash (only (is_from n w) (first_of rs) ⋓ only (is_from n w) locked) ≡ true → is_clash (all n) ≡ true)
            → FineAll permit C b.in_slots → Guarded look permit watch guard w (first_of rs)
            → Ends look permit C none (txt w nil) (back (merged rs (locked ∷ [])) b.in_slots)
            (guard (brush look (txt w nil) rs) (bytes_of look w) >>= λ Q. got (Q, pairs look C b.in_slots)) all
        guarded rs b all m E (passes e K) =
            let first = merged_first rs (locked ∷ []) in
            went (rw (e, first)) (subst⁻¹ (FineText permit w) first K, tt) E
        guarded rs b all m E (stopped e n c) = failed (rw e) n (m n c)

        parts : (n : ℕ) (rs : List Standing) (us : SlotStandings)
            → said C (record { value = flat 0 (txt w nil); compared = (answered a w w' t).compared }) rs us n
            ≡ (only (is_from n w) (first_of rs) ⋓ only (is_from n w) locked) ⋓ said C a (locked ∷ []) us n
        parts n rs us =
            rw (
              lock_append n a.compared (master_number w ++ master_number w'),
              lock_append n (master_number w) (master_number w'),
              lock_number n w,
              lock_number n w',
              ap (λ (v : Value). gathered n v (locked ∷ [])) (A.flat_is ∙ ap (flat 0) z),
            )
            (settle (only (is_from n w) (first_of rs)) (only (is_from n w) locked) (only (is_from n w') locked) (gathered_slots n (flat_slots C) us) (lock n a.compared))
          where
            settle : (s x y e l : Standing) → s ⋓ untouched ⋓ e ⋓ (l ⋓ (x ⋓ y)) ≡ (s ⋓ x) ⋓ (y ⋓ untouched ⋓ e ⋓ l)
            settle s x y e l = rw (unit_right s, unit_right y) (simp (merge_assoc, merge_comm, merge_left_comm))

    pub compares_back : (ns : List ℕ) (e : ℕ) (says : List ℕ → List ℕ → Result Stop Bool) (judge : Judge) → Judges says judge
        → (run : Run) (put : Putting) (fwd : Forward) (bwd : Backward) → PutsBack look permit watch ns run put fwd bwd
        → TestPutsBack look permit watch ns (compares_ask look says e run) (compares_put put) (judged_forward judge fwd) (judged_backward guard fwd bwd)
    compares_back ns e says judge J run put fwd bwd X C s R f F p h W =
        on_txt look no_marks e (λ f. compares_ask look says e run (flat_slots C) (flat 0 f) ≡ gives p → Holds f p)
        (λ f u h. absurd (no_gives (Source e) p (rw u at h)))
        (λ w u h.
        on_bind (run (flat_slots C) []) _ p (rw u at h) λ a q h₂.
        on_bind (one_text look e a.value) _ p h₂ λ y t h₃.
        on_bind (says (bytes_of look w) (bytes_of look y.origin)) _ p h₃ λ b v h₄.
        on_gives (λ z. Watched watch z.compared → Holds (txt w nil) z) (answered a w y.origin b) p h₄
        (λ W. one w a y b (X C s R nil tt a q (watched_left watch a.compared (master_number w ++ master_number y.origin) W)) t v W)
        W)
        f F h
      where
        Holds : Trees → Answer → Type 0
        Holds f p = TestBacks look permit C f p (compares_put put) (judged_forward judge fwd) (judged_backward guard fwd bwd)

        -- if b is said of the texts of w and x
        Told : Origin → Shown → Bool → Node → Type 0
        Told w a b x =
            says (bytes_of look w) (bytes_of look x.origin) ≡ gives b → Watched watch (answered a w x.origin b).compared → Holds (txt w nil) (answered a w x.origin b)

        one : (w : Origin) (a : Shown) (y : Node) (b : Bool) (A : Backs look permit C nil a put fwd bwd) → one_text look e a.value ≡ gives y → Told w a b y
        one w a y b A t = go (text_view look no_marks e A.g A.right)
          where
            go : TextView look no_marks e A.g → Told w a b y
            go (not_txt u q) = absurd (no_gives (Source e) y (sym u ∙ ap (one_text look e) (sym A.flat_is) ∙ t))
            go (is_txt w' z u q) =
                subst (Told w a b) (gives_inj (at 0 w') y (sym u ∙ ap (one_text look e) (sym A.flat_is) ∙ t))
                (λ v. texts_back C put judge fwd bwd w w' a b A z (subst (λ (r : Result Stop Bool). Judged r (judge (bytes_of look w) (bytes_of look w'))) v (J _ _)))
