-- How putting back ends: in the paper as in the rules, or the paper fails and some node's standing is clash. What that says of a call, and of a slot.
use Rattle.std.proofs.Math.Path.{◌≡◌}
use Rattle.std.specs.Prelude.{refl, Bool, true, false, cond, ◌||◌, ℕ, eqb}
use Rattle.std.proofs.Common.{sym, ap, ◌∙◌, arith}
use mathlib.Core.List.{List, [], ◌∷◌, ◌++◌}
use Rattle.lines.specs.Theorems.Bools.{or_left, or_right}
use Rattle.values.specs.Values.{Origin, Lookup, bytes_of, is_from, master_number, among}
use Rattle.values.specs.Standings.{Standing, locked, is_clash, ◌⋓◌, merged, gathered}
use Rattle.values.proofs.Theorems.MergeLaws.{merge_comm, merge_assoc, merge_left_comm}
use Rattle.values.proofs.Theorems.Gathering.{only}
use Rattle.runs.specs.Results.{gives}
use Rattle.runs.specs.Showing.{Shown, Answer}
use Rattle.runs.specs.PuttingBack.{SlotStandings, first_slot, rest_slots, merged_into, gathered_slots, Back}
use Rattle.runs.specs.Theorems.Combinators.{Run, Asking, Putting}
use Rattle.runs.proofs.Theorems.Conservation.{lock, among_append}
use Rattle.paper.specs.Data.{Sequence, none, str, ◌⧺◌, May, fail, got, ◌>>=◌}
use Rattle.paper.specs.Contexts.{Context, PairContext, firsts}
use Rattle.paper.specs.Operators.{mg, Forward, Backward, Guard}
use Rattle.paper.specs.Semantics.{updated}
use Rattle.paper.specs.Theorems.Constructs.{Asking as Predicated}
use Rattle.paper.specs.Theorems.Trees.{trees_in, Trees, nil, txt, flat, Scope, flat_slots, names, from_origin, paint, paint_all, Right, RightAll}
use Rattle.paper.proofs.Theorems.Brushes.{text_for, state_for, brush, Permit, FineText, Fine, FineAll, told}
use Rattle.paper.proofs.Theorems.Brushes.{gathered_flat, clash_stays, clash_joins, Merging, whole, torn, merging}
use Rattle.paper.proofs.Theorems.Places.{no_marks}

-- ## Numbers that are watched

abbrev pub Watched : (ℕ → Bool) → List ℕ → Type 0
Watched watch c = (n : ℕ) → among n c ≡ true → watch n ≡ true

pub watched_left : (watch : ℕ → Bool) (c d : List ℕ) → Watched watch (c ++ d) → Watched watch c
watched_left watch c d w n h = w n (among_append n c d ∙ or_left (among n c) (among n d) h)

pub watched_right : (watch : ℕ → Bool) (c d : List ℕ) → Watched watch (c ++ d) → Watched watch d
watched_right watch c d w n h = w n (among_append n c d ∙ or_right (among n c) (among n d) h)

module _ (look : Lookup) where
  -- the backward context: each slot's value, and the value with its standings
  abbrev pub pairs : Scope → SlotStandings → PairContext
  pairs [] us = []
  pairs (b ∷ C) us = (b.0, (paint look no_marks b.1, brush look b.1 (first_slot us))) ∷ pairs C (rest_slots us)

  pub firsts_pairs : (C : Scope) (us : SlotStandings) → firsts (pairs C us) ≡ paint_all look no_marks C
  firsts_pairs [] us = refl
  firsts_pairs (b ∷ C) us = ap (λ (K : Context). (b.0, paint look no_marks b.1) ∷ K) (firsts_pairs C (rest_slots us))

-- all that is said of node n when o is put back: the right side of the conservation law
abbrev pub said : Scope → Shown → List Standing → SlotStandings → ℕ → Standing
said C o ss us n = gathered n o.value ss ⋓ gathered_slots n (flat_slots C) us ⋓ lock n o.compared

module _ (look : Lookup) (permit : Permit) where
  -- b over the source f; `before` stands in front of it
  pub data Ends (C : Scope) (before : Sequence) (f : Trees) (b : Back) (p : May (Sequence × PairContext)) (all : ℕ → Standing) : Type 0 where
    went : p ≡ got (before ⧺ brush look f b.in_source, pairs look C b.in_slots) → Fine permit f b.in_source → FineAll permit C b.in_slots → Ends C before f b p all
    failed : p ≡ fail → (n : ℕ) → is_clash (all n) ≡ true → Ends C before f b p all

  -- ## Of a call

  -- over the source f the rules showed o, the paper's forward semantics yields its trees, and putting back ends alike
  pub record Backs (C : Scope) (f : Trees) (o : Shown) (put : Putting) (fwd : Forward) (bwd : Backward) : Type 0 where
    pub g : Trees
    pub right : Right look g
    pub flat_is : o.value ≡ flat 0 g
    pub forth : fwd (paint_all look no_marks C) (paint look no_marks f) ≡ got (paint look no_marks g)
    pub back : (ss : List Standing) (us : SlotStandings) → Fine permit g ss → FineAll permit C us
        → Ends C none f (put (flat_slots C) (flat 0 f) ss us) (bwd (pairs look C us) (paint look no_marks f) (brush look g ss)) (said C o ss us)

  -- of a test: it shows its source as it is
  pub record TestBacks (C : Scope) (f : Trees) (p : Answer) (put : Putting) (asks : Predicated) (bwd : Backward) : Type 0 where
    pub forth : asks (paint_all look no_marks C) (paint look no_marks f) ≡ got p.yes
    pub back : (rs : List Standing) (us : SlotStandings) → Fine permit f rs → FineAll permit C us
        → Ends C none f (put (flat_slots C) (flat 0 f) rs us) (bwd (pairs look C us) (paint look no_marks f) (brush look f rs))
        (said C (record { value = flat 0 f; compared = p.compared }) rs us)

  module _ (watch : ℕ → Bool) where
    -- of a run with slots of these names bound, if all that it compares is watched
    abbrev pub PutsBack : List ℕ → Run → Putting → Forward → Backward → Type 0
    PutsBack ns run put fwd bwd =
        (C : Scope) → names C ≡ ns → RightAll look C → (f : Trees) → Right look f → (o : Shown) → run (flat_slots C) (flat 0 f) ≡ gives o → Watched watch o.compared
        → Backs C f o put fwd bwd

    abbrev pub TestPutsBack : List ℕ → Asking → Putting → Predicated → Backward → Type 0
    TestPutsBack ns ask put asks bwd =
        (C : Scope) → names C ≡ ns → RightAll look C → (f : Trees) → Right look f → (p : Answer) → ask (flat_slots C) (flat 0 f) ≡ gives p → Watched watch p.compared
        → TestBacks C f p put asks bwd

    -- ## What is asked of a guard

    -- on a text of origin w with standing s: it locks it, or it fails and that is a clash
    pub data Guarded (g : Guard) (w : Origin) (s : Standing) : Type 0 where
      passes : g (str (text_for look w s) (state_for w s) (from_origin w) none) (bytes_of look w)
          ≡ got (str (text_for look w (s ⋓ locked)) (state_for w (s ⋓ locked)) (from_origin w) none)
          → FineText permit w (s ⋓ locked) → Guarded g w s
      stopped : g (str (text_for look w s) (state_for w s) (from_origin w) none) (bytes_of look w) ≡ fail
          → (n : ℕ) → is_clash (only (is_from n w) s ⋓ only (is_from n w) locked) ≡ true → Guarded g w s

    pub record Guarding (g : Guard) : Type 0 where
      pub fresh : (w : Origin) → g (paint look no_marks (txt w nil)) (bytes_of look w) ≡ got (brush look (txt w nil) (locked ∷ []))
      pub guarded : (w : Origin) (s : Standing) → FineText permit w s → Watched watch (master_number w) → Guarded g w s

  -- ## One call after another

  module _ (C : Scope) where
    pub ends_at : (before : Sequence) (f : Trees) (b b' : Back) (p p' : May (Sequence × PairContext)) (all : ℕ → Standing)
        → b ≡ b' → p ≡ p' → Ends C before f b' p' all → Ends C before f b p all
    ends_at before f b b' p p' all e q h = rw (e, q) h

    pub ends_all : (before : Sequence) (f : Trees) (b : Back) (p : May (Sequence × PairContext)) (all all' : ℕ → Standing)
        → ((n : ℕ) → is_clash (all' n) ≡ true → is_clash (all n) ≡ true)
        → Ends C before f b p all' → Ends C before f b p all
    ends_all before f b p all all' m (went e F E) = went e F E
    ends_all before f b p all all' m (failed e n c) = failed e n (m n c)

    pub ends_then : (before : Sequence) (f₁ f : Trees) (b₁ b : Back) (p₁ : May (Sequence × PairContext))
        (all₁ all : ℕ → Standing) (k : Sequence × PairContext → May (Sequence × PairContext))
        → Ends C none f₁ b₁ p₁ all₁ → ((n : ℕ) → is_clash (all₁ n) ≡ true → is_clash (all n) ≡ true)
        → (Fine permit f₁ b₁.in_source → FineAll permit C b₁.in_slots → Ends C before f b (k (brush look f₁ b₁.in_source, pairs look C b₁.in_slots)) all)
        → Ends C before f b (p₁ >>= k) all
    ends_then before f₁ f b₁ b p₁ all₁ all k (went e F E) m K = rw e (K F E)
    ends_then before f₁ f b₁ b p₁ all₁ all k (failed e n c) m K = failed (rw e) n (m n c)

    -- a forward run inside a backward one
    pub shown_again : (F : Forward) (f g : Trees) → F (paint_all look no_marks C) (paint look no_marks f) ≡ got (paint look no_marks g) → (us : SlotStandings)
        → (k : Sequence → May (Sequence × PairContext)) → (F (firsts (pairs look C us)) (paint look no_marks f) >>= k) ≡ k (paint look no_marks g)
    shown_again F f g h us k = rw (firsts_pairs look C us, h)

  -- ## A slot

  -- the slot takes the view in, or fails
  pub data Takes (C : Scope) (p : May PairContext) (us : SlotStandings) (all : ℕ → Standing) : Type 0 where
    takes : p ≡ got (pairs look C us) → FineAll permit C us → Takes C p us all
    refuses : p ≡ fail → (n : ℕ) → is_clash (all n) ≡ true → Takes C p us all

  pub slot_takes_in : (k : ℕ) (C : Scope) (ss : List Standing) (us : SlotStandings) → among k (names C) ≡ true → Fine permit (trees_in k C) ss → FineAll permit C us
      → Takes C (updated k (brush look (trees_in k C) ss) (pairs look C us)) (merged_into k (flat_slots C) ss us)
      (λ n. gathered n (flat 0 (trees_in k C)) ss ⋓ gathered_slots n (flat_slots C) us)
  unfolding among merged_into gathered_slots
  slot_takes_in k [] ss us h F E = absurd (let z : ◌≡◌ {A = ℕ} 0 1 = cc in omega arith)
  slot_takes_in k (b ∷ C) ss us h F E = go (eqb k b.0) h F (λ r F'. slot_takes_in k C ss (rest_slots us) r F' E.1)
    where
      own : Sequence → May Sequence
      own Q = mg (brush look b.1 (first_slot us)) Q

      all : Trees → ℕ → Standing
      all f n = gathered n (flat 0 f) ss ⋓ (gathered n (flat 0 b.1) (first_slot us) ⋓ gathered_slots n (flat_slots C) (rest_slots us))

      here : Merging look permit b.1 (first_slot us) ss
          → Takes (b ∷ C) (own (brush look b.1 ss) >>= λ Q. got ((b.0, (paint look no_marks b.1, Q)) ∷ pairs look C (rest_slots us)))
          (merged (first_slot us) ss ∷ rest_slots us) (all b.1)
      here (whole e f) = takes (rw e) (f, E.1)
      here (torn e n c) =
          let ours = gathered n (flat 0 b.1) ss in
          let had = gathered n (flat 0 b.1) (first_slot us) in
          refuses (rw e) n
          (ap is_clash (sym (merge_assoc ours had (gathered_slots n (flat_slots C) (rest_slots us))))
          ∙ clash_stays (ours ⋓ had) (gathered_slots n (flat_slots C) (rest_slots us))
          (rw (gathered_flat n 0 b.1 ss, gathered_flat n 0 b.1 (first_slot us))
          (ap is_clash (merge_comm (told n b.1 ss) (told n b.1 (first_slot us))) ∙ c)))

      there : Takes C (updated k (brush look (trees_in k C) ss) (pairs look C (rest_slots us))) (merged_into k (flat_slots C) ss (rest_slots us))
          (λ n. gathered n (flat 0 (trees_in k C)) ss ⋓ gathered_slots n (flat_slots C) (rest_slots us))
          → Takes (b ∷ C)
          (updated k (brush look (trees_in k C) ss) (pairs look C (rest_slots us))
          >>= λ E'. got ((b.0, (paint look no_marks b.1, brush look b.1 (first_slot us))) ∷ E'))
          (first_slot us ∷ merged_into k (flat_slots C) ss (rest_slots us)) (all (trees_in k C))
      there (takes e f) = takes (rw e) (E.0, f)
      there (refuses e n c) =
          let ours = gathered n (flat 0 (trees_in k C)) ss in
          let had = gathered n (flat 0 b.1) (first_slot us) in
          refuses (rw e) n
          (ap is_clash (merge_left_comm ours had (gathered_slots n (flat_slots C) (rest_slots us)))
          ∙ clash_joins had (ours ⋓ gathered_slots n (flat_slots C) (rest_slots us)) c)

      go : (t : Bool) → (t || among k (names C)) ≡ true → Fine permit (cond t b.1 (trees_in k C)) ss
          → (among k (names C) ≡ true → Fine permit (trees_in k C) ss
          → Takes C (updated k (brush look (trees_in k C) ss) (pairs look C (rest_slots us))) (merged_into k (flat_slots C) ss (rest_slots us))
          (λ n. gathered n (flat 0 (trees_in k C)) ss ⋓ gathered_slots n (flat_slots C) (rest_slots us)))
          → Takes (b ∷ C) (cond t (own (brush look (cond t b.1 (trees_in k C)) ss) >>= λ Q. got ((b.0, (paint look no_marks b.1, Q)) ∷ pairs look C (rest_slots us)))
          (updated k (brush look (cond t b.1 (trees_in k C)) ss) (pairs look C (rest_slots us))
          >>= λ E'. got ((b.0, (paint look no_marks b.1, brush look b.1 (first_slot us))) ∷ E')))
          (cond t (merged (first_slot us) ss ∷ rest_slots us) (first_slot us ∷ merged_into k (flat_slots C) ss (rest_slots us)))
          (all (cond t b.1 (trees_in k C)))
      go true h F r = here (merging look permit b.1 (first_slot us) ss E.0 F)
      go false h F r = there (r h F)
