-- Showing and the paper's forward semantics: the same trees; a stop for the source is `fail`; of a stop for size the paper knows nothing.
use Rattle.std.specs.Prelude.{◌≡◌, refl, Bool, true, false, ℕ, ◌+◌, leb}
use Rattle.std.proofs.Math.Path.{sym, ap, subst⁻¹}
use Rattle.std.proofs.Common.{◌∙◌}
use mathlib.Core.List.{List, [], ◌∷◌, ◌++◌, map, append-nil}
use Rattle.std.proofs.Math.ListN.{length}
use Rattle.lines.specs.Texts.{same_text}
use Rattle.values.specs.Values.{Origin, program, Value, Lookup, element_of, bytes_of, master_number, among, raised, most_nodes, within_bounds}
use Rattle.runs.specs.declared.stop.Stop.{Stop}
use Rattle.runs.specs.declared.stop.Stop.TheVariants.{Source, Size}
use Rattle.runs.specs.Results.{Result, gives, stops, ensure}
use Rattle.runs.specs.Results.{◌>>=◌ as ◌⊳◌, ◌>>◌ as ◌⊵◌}
use Rattle.runs.specs.Programs.{Transformation, source, nothing, text, tag, slot, contents, within}
use Rattle.runs.specs.Programs.{and_then, beside, each, choose, bind, Test, compares, tagged, is_element}
use Rattle.runs.specs.Showing.{Shown, Answer, shown, answer, one_top, one_element, one_text, bounded, in_turn, verdict, show, test}
use Rattle.runs.specs.Reading.{Room}
use Rattle.runs.specs.Theorems.Combinators.{Run, Asking, source_run, made_run, slot_run, contents_run, within_run}
use Rattle.runs.specs.Theorems.Combinators.{then_run, beside_run, each_run, choose_run, bind_run, compares_ask, plain_ask}
use Rattle.runs.specs.Engine.Trees.{Sound, SoundTest}
use Rattle.paper.specs.Data.{Sequence, none, ◌⧺◌, May, fail, got, ◌>>=◌, the_string, the_item}
use Rattle.paper.specs.Language.{Judge}
use Rattle.paper.specs.Operators.{Forward}
use Rattle.paper.specs.Semantics.{on_each, branch, judged_forward, forward, asks}
use Rattle.paper.specs.Theorems.Constructs.{xid_forward, xvar_forward, xchild_forward, xsetcnt_forward, xseq_forward, xpar_forward, xmap_forward, xif_forward}
use Rattle.paper.specs.Theorems.Constructs.{xlet_forward, xwithtag_forward, xiselement_forward}
use Rattle.paper.specs.Theorems.Constructs.{Asking as Predicated}
use Rattle.paper.specs.Programs.{worded, judge_of, in_paper, asked}
use Rattle.paper.specs.Theorems.Judges.{Judged, Judges, judges_verdict}
use Rattle.paper.specs.Theorems.Trees.{trees_in, value_trees, right_trees, find_trees, Trees, nil, txt, elm, at, flat, ◌⊹◌}
use Rattle.paper.specs.Theorems.Trees.{Scope, flat_slots, names, flat_append, flat_raised, items_of, items_flat, paint}
use Rattle.paper.specs.Theorems.Trees.{paint_all, paint_append, Right, RightAll, right_append, ElementView, is_elm, not_elm}
use Rattle.paper.specs.Theorems.Trees.{element_view, TextView, is_txt, not_txt, text_view, ItemView, is_item, not_item, item_view}

module _ (look : Lookup) (marks : ℕ → ℕ) where
  abbrev pt : Trees → Sequence
  pt f = paint look marks f

  -- ## When the two results agree

  abbrev pub Agrees : Result Stop Shown → May Sequence → Type 0
  Agrees (gives o) p = (g : Trees) × Right look g × (o.value ≡ flat 0 g) × (p ≡ got (paint look marks g))
  Agrees (stops (Source e)) p = p ≡ fail
  Agrees (stops (Size e)) p = Unit {0}

  abbrev pub TestAgrees : Result Stop Answer → May Bool → Type 0
  TestAgrees r p = Judged (r ⊳ λ a. gives a.yes) p

  -- of a run, with slots of these names bound
  abbrev pub Shows : List ℕ → Run → Forward → Type 0
  Shows ns run fwd =
      (C : Scope) → names C ≡ ns → RightAll look C → (f : Trees) → Right look f
      → Agrees (run (flat_slots C) (flat 0 f)) (fwd (paint_all look marks C) (paint look marks f))

  abbrev pub Answers : List ℕ → Asking → Predicated → Type 0
  Answers ns ask asks =
      (C : Scope) → names C ≡ ns → RightAll look C → (f : Trees) → Right look f
      → TestAgrees (ask (flat_slots C) (flat 0 f)) (asks (paint_all look marks C) (paint look marks f))

  abbrev seen : Trees → List ℕ → Shown
  seen g c = record { value = flat 0 g; compared = c }

  -- one after the other
  then_agrees : (r : Result Stop Shown) (p : May Sequence) (k : Shown → Result Stop Shown) (q : Sequence → May Sequence) → Agrees r p
      → ((g : Trees) (c : List ℕ) → Right look g → Agrees (k (seen g c)) (q (pt g))) → Agrees (r ⊳ k) (p >>= q)
  then_agrees (gives o) p k q (g, G, e, h) K =
      rw h (subst⁻¹ (λ (v : Value). Agrees (k (record { value = v; compared = o.compared })) (q (pt g))) e (K g o.compared G))
  then_agrees (stops (Source e)) p k q h K = rw h
  then_agrees (stops (Size e)) p k q h K = tt

  then_test_agrees : (r : Result Stop Shown) (p : May Sequence) (k : Shown → Result Stop Answer) (q : Sequence → May Bool) → Agrees r p
      → ((g : Trees) (c : List ℕ) → Right look g → TestAgrees (k (seen g c)) (q (pt g))) → TestAgrees (r ⊳ k) (p >>= q)
  then_test_agrees (gives o) p k q (g, G, e, h) K =
      rw h (subst⁻¹ (λ (v : Value). TestAgrees (k (record { value = v; compared = o.compared })) (q (pt g))) e (K g o.compared G))
  then_test_agrees (stops (Source e)) p k q h K = rw h
  then_test_agrees (stops (Size e)) p k q h K = tt

  seen_agrees : (g : Trees) (c : List ℕ) → Right look g → Agrees (gives (seen g c)) (got (pt g))
  seen_agrees g c G = (g, G, refl, refl)

  -- a bound in front
  sized_agrees : (b : Bool) (e : ℕ) (r : Result Stop Shown) (p : May Sequence) → Agrees r p → Agrees (ensure b (Size e) ⊵ r) p
  sized_agrees true e r p h = h
  sized_agrees false e r p h = tt

  -- what was compared says nothing of the value
  noted_agrees : (r : Result Stop Shown) (p : May Sequence) (c : List ℕ) → Agrees r p → Agrees (r ⊳ λ a. shown a.value (c ++ a.compared)) p
  noted_agrees (gives o) p c h = h
  noted_agrees (stops (Source e)) p c h = h
  noted_agrees (stops (Size e)) p c h = h

  -- two parts joined
  both_agree : (g h : Trees) (c : List ℕ) → Right look g → Right look h → Agrees (shown (flat 0 g ++ flat 0 h) c) (got (pt g ⧺ pt h))
  both_agree g h c G H = (g ⊹ h, right_append look g h G H, sym (flat_append 0 g h), rw (paint_append look marks g h))

  turn_agrees : (e n : ℕ) (r : Result Stop Shown) (rs : List (Result Stop Shown)) (p q : May Sequence) → Agrees r p
      → ((m : ℕ) → Agrees (in_turn e m rs) q) → Agrees (in_turn e n (r ∷ rs)) (p >>= λ A. q >>= λ B. got (A ⧺ B))
  unfolding in_turn
  turn_agrees e n r rs p q h k =
      then_agrees r p _ (λ A. q >>= λ B. got (A ⧺ B)) h λ g c G.
      sized_agrees (leb (n + length (flat 0 g)) most_nodes) e _ _
      (then_agrees (in_turn e (n + length (flat 0 g)) rs) q _ (λ B. got (pt g ⧺ B)) (k (n + length (flat 0 g))) λ g' c' G'.
      both_agree g g' (c ++ c') G G')

  last_agrees : (e n : ℕ) (r : Result Stop Shown) (p : May Sequence) → Agrees r p → Agrees (in_turn e n (r ∷ [])) p
  unfolding in_turn
  last_agrees e n (gives o) p (g, G, u, h) =
      sized_agrees (leb (n + length o.value) most_nodes) e (shown (o.value ++ []) (o.compared ++ [])) p (g, G, append-nil o.value ∙ u, h)
  last_agrees e n (stops (Source x)) p h = h
  last_agrees e n (stops (Size x)) p h = tt

  -- ## One lemma a combinator

  source_agrees : (ns : List ℕ) → Shows ns source_run xid_forward
  source_agrees ns C s E f F = seen_agrees f [] F

  made_agrees : (ns : List ℕ) (w : Trees) → Right look w → Shows ns (made_run (flat 0 w)) (λ D S. got (pt w))
  made_agrees ns w W C s E f F = seen_agrees w [] W

  slot_agrees : (ns : List ℕ) (k : ℕ) → among k ns ≡ true → Shows ns (slot_run k) (xvar_forward k)
  slot_agrees ns k h C s E f F = (trees_in k C, right_trees look k C E, value_trees k C, find_trees look marks k C (rw s h))

  contents_agrees : (ns : List ℕ) (e : ℕ) → Shows ns (contents_run look e) xchild_forward
  contents_agrees ns e C s E f F = go (element_view look marks e f F)
    where
      go : ElementView look marks e f → Agrees (contents_run look e (flat_slots C) (flat 0 f)) (xchild_forward (paint_all look marks C) (pt f))
      go (is_elm o k z i n K p q) = rw (p, q) (seen_agrees k [] K)
      go (not_elm p q) = rw (p, q)

  within_agrees : (ns : List ℕ) (e : ℕ) (run : Run) (fwd : Forward) → Shows ns run fwd → Shows ns (within_run look e run) (xsetcnt_forward fwd)
  unfolding bounded
  within_agrees ns e run fwd X C s E f F = go (element_view look marks e f F)
    where
      go : ElementView look marks e f → Agrees (within_run look e run (flat_slots C) (flat 0 f)) (xsetcnt_forward fwd (paint_all look marks C) (pt f))
      go (is_elm o k z i n K p q) =
          rw (p, q)
          (then_agrees (run (flat_slots C) (flat 0 k)) (fwd (paint_all look marks C) (pt k)) _ _ (X C s E k K) λ g c G.
          sized_agrees (within_bounds (at 0 o ∷ raised (flat 0 g))) e _ _
          (elm o g nil, (i, n, G, tt), ap (λ (v : Value). at 0 o ∷ v) (flat_raised 0 g ∙ sym (append-nil (flat 1 g))), refl))
      go (not_elm p q) = rw (p, q)

  sequel_agrees : (ns : List ℕ) (f g : Run) (f' g' : Forward) → Shows ns f f' → Shows ns g g' → Shows ns (then_run f g) (xseq_forward f' g')
  sequel_agrees ns f g f' g' X Y C s E h H =
      then_agrees (f (flat_slots C) (flat 0 h)) (f' (paint_all look marks C) (pt h)) _ _ (X C s E h H) λ k c K.
      noted_agrees (g (flat_slots C) (flat 0 k)) (g' (paint_all look marks C) (pt k)) c (Y C s E k K)

  beside_agrees : (ns : List ℕ) (e : ℕ) (f g : Run) (f' g' : Forward) → Shows ns f f' → Shows ns g g' → Shows ns (beside_run e f g) (xpar_forward f' g')
  beside_agrees ns e f g f' g' X Y C s E h H =
      turn_agrees e 0 (f (flat_slots C) (flat 0 h)) (g (flat_slots C) (flat 0 h) ∷ []) (f' (paint_all look marks C) (pt h)) (g' (paint_all look marks C) (pt h)) (X C s E h H)
      (λ m. last_agrees e m (g (flat_slots C) (flat 0 h)) (g' (paint_all look marks C) (pt h)) (Y C s E h H))

  items_agree : (e : ℕ) (f : Value → Result Stop Shown) (q : Sequence → May Sequence) → ((h : Trees) → Right look h → Agrees (f (flat 0 h)) (q (pt h)))
      → (g : Trees) → Right look g → (n : ℕ) → Agrees (in_turn e n (map f (items_of g))) (on_each q (pt g))
  unfolding in_turn
  items_agree e f q H nil G n = seen_agrees nil [] tt
  items_agree e f q H (txt o r) G n =
      turn_agrees e n (f (flat 0 (txt o nil))) (map f (items_of r)) (q (pt (txt o nil))) (on_each q (pt r)) (H (txt o nil) (G.0, G.1, tt)) (items_agree e f q H r G.2)
  items_agree e f q H (elm o k r) G n =
      turn_agrees e n (f (flat 0 (elm o k nil))) (map f (items_of r)) (q (pt (elm o k nil)))
      (on_each q (pt r)) (H (elm o k nil) (G.0, G.1, G.2, tt)) (items_agree e f q H r G.3)

  each_agrees : (ns : List ℕ) (e : ℕ) (run : Run) (fwd : Forward) → Shows ns run fwd → Shows ns (each_run e run) (xmap_forward fwd)
  each_agrees ns e run fwd X C s E f F = rw (items_flat f) (items_agree e (run (flat_slots C)) (fwd (paint_all look marks C)) (X C s E) f F 0)

  branch_agrees : (b : Bool) (x y : Result Stop Shown) (p q : May Sequence) → Agrees x p → Agrees y q
      → Agrees (branch b x y) (branch b p q)
  branch_agrees true x y p q h k = h
  branch_agrees false x y p q h k = k

  choice_agrees : (t : Result Stop Answer) (u : May Bool) (x y : Result Stop Shown) (p q : May Sequence) → TestAgrees t u → Agrees x p → Agrees y q
      → Agrees (t ⊳ λ a. branch {A = Result Stop Shown} a.yes x y ⊳ λ z. shown z.value (a.compared ++ z.compared)) (u >>= λ b. branch b p q)
  choice_agrees (gives a) u x y p q t h k = rw t (noted_agrees (branch a.yes x y) (branch a.yes p q) a.compared (branch_agrees a.yes x y p q h k))
  choice_agrees (stops (Source e)) u x y p q t h k = rw t
  choice_agrees (stops (Size e)) u x y p q t h k = tt

  choose_agrees : (ns : List ℕ) (ask : Asking) (ask' : Predicated) (f g : Run) (f' g' : Forward) → Answers ns ask ask' → Shows ns f f' → Shows ns g g'
      → Shows ns (choose_run ask f g) (xif_forward ask' f' g')
  choose_agrees ns ask ask' f g f' g' P X Y C s E h H =
      choice_agrees (ask (flat_slots C) (flat 0 h)) (ask' (paint_all look marks C) (pt h)) (f (flat_slots C) (flat 0 h)) (g (flat_slots C) (flat 0 h))
      (f' (paint_all look marks C) (pt h)) (g' (paint_all look marks C) (pt h)) (P C s E h H) (X C s E h H) (Y C s E h H)

  bind_agrees : (ns : List ℕ) (k : ℕ) (run : Run) (fwd : Forward) → Shows (k ∷ ns) run fwd → Shows ns (bind_run k run) (xlet_forward k fwd)
  bind_agrees ns k run fwd X C s E f F = X ((k, f) ∷ C) (ap (λ (l : List ℕ). k ∷ l) s) (F, E) nil tt

  -- ## Tests

  answer_agrees : (r : Result Stop Bool) (p : May Bool) (c : List ℕ) → Judged r p → TestAgrees (r ⊳ λ b. answer b c) p
  answer_agrees (gives b) p c h = h
  answer_agrees (stops (Source e)) p c h = h
  answer_agrees (stops (Size e)) p c h = tt

  compares_agrees : (ns : List ℕ) (e : ℕ) (says : List ℕ → List ℕ → Result Stop Bool) (judge : Judge) → Judges says judge
      → (run : Run) (fwd : Forward) → Shows ns run fwd → Answers ns (compares_ask look says e run) (judged_forward judge fwd)
  compares_agrees ns e says judge J run fwd X C s E f F = go (text_view look marks e f F)
    where
      second : (o : Origin) (g : Trees) (c : List ℕ) → TextView look marks e g
          → TestAgrees (one_text look e (flat 0 g) ⊳ λ y. says (bytes_of look o) (bytes_of look y.origin) ⊳ λ b. answer b (c ++ (master_number o ++ master_number y.origin)))
          (the_string (pt g) >>= judge (bytes_of look o))
      second o g c (is_txt o' z u w) = rw (u, w) (answer_agrees (says (bytes_of look o) (bytes_of look o')) _ _ (J (bytes_of look o) (bytes_of look o')))
      second o g c (not_txt u w) = rw (u, w)

      go : TextView look marks e f → TestAgrees (compares_ask look says e run (flat_slots C) (flat 0 f)) (judged_forward judge fwd (paint_all look marks C) (pt f))
      go (is_txt o z u w) =
          rw (u, w)
          (then_test_agrees (run (flat_slots C) []) (fwd (paint_all look marks C) none) _ _ (X C s E nil tt) λ g c G. second o g c (text_view look marks e g G))
      go (not_txt u w) = rw (u, w)

  tagged_agrees : (ns : List ℕ) (e : ℕ) (t : List ℕ) → Answers ns (plain_ask (one_element look e) (λ x. same_text (bytes_of look x.top.origin) t)) (xwithtag_forward t)
  tagged_agrees ns e t C s E f F = go (element_view look marks e f F)
    where
      go : ElementView look marks e f
          → TestAgrees (one_element look e (flat 0 f) ⊳ λ x. answer (same_text (bytes_of look x.top.origin) t) []) (xwithtag_forward t (paint_all look marks C) (pt f))
      go (is_elm o k z i n K p q) = rw (p, q)
      go (not_elm p q) = rw (p, q)

  element_agrees : (ns : List ℕ) (e : ℕ) → Answers ns (plain_ask (one_top e) (λ x. element_of look x.top.origin)) xiselement_forward
  element_agrees ns e C s E f F = go (item_view look marks e f F)
    where
      go : ItemView look marks e f → TestAgrees (one_top e (flat 0 f) ⊳ λ x. answer (element_of look x.top.origin) []) (the_item (pt f))
      go (is_item o v p q) = rw p q
      go (not_item p q) = rw p q

  -- ## The language

  mutual
    unfolding show forward worded Sound bytes_of element_of

    pub shows_forward : (X : Transformation) (room : Room) → Sound X room → Shows room.slots (show look X) (forward (in_paper X))
    shows_forward (source e) room s = source_agrees room.slots
    shows_forward (nothing e) room s = made_agrees room.slots nil tt
    shows_forward (text e b) room s = made_agrees room.slots (txt (program e false b) nil) (refl, tt, tt)
    shows_forward (tag e b) room s = made_agrees room.slots (elm (program e true b) nil nil) (refl, tt, tt, tt)
    shows_forward (slot e k) room s = slot_agrees room.slots k s
    shows_forward (contents e) room s = contents_agrees room.slots e
    shows_forward (within e X) room s = within_agrees room.slots e (show look X) (forward (in_paper X)) (shows_forward X room s)
    shows_forward (and_then e X Y) room s =
        sequel_agrees room.slots (show look X) (show look Y) (forward (in_paper X)) (forward (in_paper Y)) (shows_forward X room s.0) (shows_forward Y room s.1)
    shows_forward (beside e X Y) room s =
        beside_agrees room.slots e (show look X) (show look Y) (forward (in_paper X)) (forward (in_paper Y)) (shows_forward X room s.0) (shows_forward Y room s.1)
    shows_forward (each e X) room s = each_agrees room.slots e (show look X) (forward (in_paper X)) (shows_forward X _ s.1)
    shows_forward (choose e P X Y) room s =
        choose_agrees room.slots (test look P) (asks (asked P)) (show look X) (show look Y) (forward (in_paper X))
        (forward (in_paper Y)) (tests_forward P room s.0) (shows_forward X room s.1) (shows_forward Y room s.2)
    shows_forward (bind e k X) room s = bind_agrees room.slots k (show look X) (forward (in_paper X)) (shows_forward X _ s.1)

    pub tests_forward : (P : Test) (room : Room) → SoundTest P room → Answers room.slots (test look P) (asks (asked P))
    tests_forward (compares e c X) room s =
        compares_agrees room.slots e (verdict c e) (judge_of c) (judges_verdict c e) (show look X) (forward (in_paper X)) (shows_forward X room s)
    tests_forward (tagged e t) room s = tagged_agrees room.slots e t
    tests_forward (is_element e) room s = element_agrees room.slots e
