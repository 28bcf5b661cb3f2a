-- Sections 3.4 and 3.5: the forward and the backward semantics of each construct and predicate, in the paper's order and letters.
use Rattle.std.specs.Prelude.{ℕ, Bool, true, false, cond, ◌&&◌, List, [], ◌∷◌, eqb}
use Rattle.lines.specs.Texts.{same_text}
use Rattle.paper.specs.Data.{ori, non, mod', del, ori_e, del_e, src, code, Sequence, none, str, elt, ◌⧺◌, len, May, fail}
use Rattle.paper.specs.Data.{got, ◌>>=◌, ◌>>◌, provided, is_none, the_string, the_element, the_item, same_from, same_sequence}
use Rattle.paper.specs.Language.{Judge, Construct, xid, xconst, xvar, xchild, xsetcnt, xseq, xpar, xmap, xif, xlet, Predicate, xeq, xjudged, xwithtag, xiselement}
use Rattle.paper.specs.Contexts.{Context, PairContext, firsts, find}
use Rattle.paper.specs.Operators.{mg, split, in_two, Forward, Backward, iter, Guard}

-- ## What the clauses speak of

-- (), str^(ori,c) or <tag^(ori,c)>[()]
abbrev pub is_constant : Sequence → Bool
is_constant none = true
is_constant (str t ori code S) = is_none S
is_constant (str t ori (src n) S) = false
is_constant (str t non o S) = false
is_constant (str t mod' o S) = false
is_constant (str t del o S) = false
is_constant (elt t ori_e code K S) = is_none K && is_none S
is_constant (elt t ori_e (src n) K S) = false
is_constant (elt t del_e o K S) = false

-- E1, Var ↦ (S1, mg(S2, T')), E2
abbrev pub updated : ℕ → Sequence → PairContext → May PairContext
updated k T [] = fail
updated k T (b ∷ E) =
    cond (eqb k b.0) (mg b.1.1 T >>= λ Q. got ((b.0, (b.1.0, Q)) ∷ E))
    (updated k T E >>= λ E'. got (b ∷ E'))

-- [[X]](v1), .., [[X]](vn)
abbrev pub on_each : (Sequence → May Sequence) → Sequence → May Sequence
on_each X none = got none
on_each X (str t u o S) = do
  A ← X (str t u o none)
  B ← on_each X S
  got (A ⧺ B)
on_each X (elt t w o K S) = do
  A ← X (elt t w o K none)
  B ← on_each X S
  got (A ⧺ B)

-- [len([[X]](v1)), .., len([[X]](vn))]
abbrev pub lengths : (Sequence → May Sequence) → Sequence → May (List ℕ)
lengths X none = got []
lengths X (str t u o S) = do
  A ← X (str t u o none)
  l ← lengths X S
  got (len A ∷ l)
lengths X (elt t w o K S) = do
  A ← X (elt t w o K none)
  l ← lengths X S
  got (len A ∷ l)

abbrev pub branch : {A : Type 0} → Bool → A → A → A
branch {A} b x y = elim b [ true ↦ x | false ↦ y ]

-- ((), E', Var ↦ (S, S')): S' and E'
abbrev pub taken : Sequence × PairContext → May (Sequence × PairContext)
taken (S, []) = fail
taken (S, b ∷ E) = provided (is_none S) >> got (b.1.1, E)

-- ## A comparison by a judge, over the semantics of its X. Not the paper's: as `xeq`, but for the answer

abbrev pub judged_forward : Judge → Forward → Context → Sequence → May Bool
judged_forward judge X C S = do
  t ← the_string S
  T ← X C none
  t' ← the_string T
  judge t t'

abbrev pub judged_backward : Guard → Forward → Backward → Backward
judged_backward g X X' E S S' = do
  t ← the_string S
  T ← X (firsts E) none
  t' ← the_string T
  T' ← g T t'
  (N, E') ← X' E none T'
  provided (is_none N)
  S'' ← g S' t
  got (S'', E')

-- ## Forward

unfoldable mutual
  -- [[X]]_C(S) = T
  pub forward : Construct → Context → Sequence → May Sequence
  -- Identity transformation
  forward xid C S = got S
  -- Constant transformation
  forward (xconst Tc) C S = do
    provided (is_constant Tc)
    got Tc
  -- Variable reference
  forward (xvar Var) C S = find Var C
  -- Element deconstruction
  forward xchild C S = do
    e ← the_element S
    got e.contents
  -- Element construction
  forward (xsetcnt X) C S = do
    e ← the_element S
    T ← forward X C e.contents
    got (elt e.tag e.state e.origin T none)
  -- Sequential composition
  forward (xseq X₁ X₂) C S = do
    T ← forward X₁ C S
    forward X₂ C T
  -- Parallel composition
  forward (xpar X₁ X₂) C S = do
    T₁ ← forward X₁ C S
    T₂ ← forward X₂ C S
    got (T₁ ⧺ T₂)
  -- Mapping transformation
  forward (xmap X) C S = on_each (λ v. forward X C v) S
  -- Conditional transformation
  forward (xif P X₁ X₂) C S = do
    b ← asks P C S
    branch b (forward X₁ C S) (forward X₂ C S)
  -- Variable binding
  forward (xlet Var X) C S = forward X ((Var, S) ∷ C) none

  -- [[P]]_C(S): true^(ori,c) and false^(ori,c) "cannot appear in views"
  pub asks : Predicate → Context → Sequence → May Bool
  -- Comparison
  asks (xeq X) C S = do
    t ← the_string S
    T ← forward X C none
    t' ← the_string T
    got (same_text t t')
  -- Comparison by a judge
  asks (xjudged judge X) C S = judged_forward judge (λ D U. forward X D U) C S
  -- Element selection
  asks (xwithtag t) C S = do
    e ← the_element S
    got (same_text e.tag t)
  -- Content filter
  asks xiselement C S = the_item S

-- ## Backward, over any guard, so that Fig. 7's can be held against a stricter one

module _ (g : Guard) where
  unfoldable mutual
    -- [[X]]_E(S, T') = (S', E')
    pub backward : Construct → PairContext → Sequence → Sequence → May (Sequence × PairContext)
    -- Identity transformation
    backward xid E S T = got (T, E)
    -- Constant transformation
    backward (xconst Tc) E S T = do
      provided (same_sequence Tc T)
      got (S, E)
    -- Variable reference
    backward (xvar Var) E S T' = do
      E' ← updated Var T' E
      got (S, E')
    -- Element deconstruction
    backward xchild E S T = do
      e ← the_element S
      got (elt e.tag e.state e.origin T none, E)
    -- Element construction
    backward (xsetcnt X) E S T = do
      e ← the_element S
      f ← the_element T
      provided (same_text e.tag f.tag && same_from e.origin f.origin)
      (S'', E') ← backward X E e.contents f.contents
      got (elt e.tag f.state e.origin S'' none, E')
    -- Sequential composition
    backward (xseq X₁ X₂) E S T = do
      W ← forward X₁ (firsts E) S
      (T', E') ← backward X₂ E W T
      backward X₁ E' S T'
    -- Parallel composition
    backward (xpar X₁ X₂) E S T = do
      A ← forward X₁ (firsts E) S
      B ← forward X₂ (firsts E) S
      ST ← split T (len A ∷ len B ∷ [])
      (T₁, T₂) ← in_two ST
      (S₂', E'') ← backward X₂ E S T₂
      (S₁', E') ← backward X₁ E'' S T₁
      S' ← mg S₁' S₂'
      got (S', E')
    -- Mapping transformation
    backward (xmap X) E S T = do
      l ← lengths (λ v. forward X (firsts E) v) S
      ST ← split T l
      iter (λ F v U. backward X F v U) ST S none E
    -- Conditional transformation
    backward (xif P X₁ X₂) E S T = do
      b ← asks P (firsts E) S
      (S', E') ← branch b (backward X₁ E S T) (backward X₂ E S T)
      holds P E' S S'
    -- Variable binding
    backward (xlet Var X) E S T = do
      r ← backward X ((Var, (S, S)) ∷ E) none T
      taken r

    -- [[P]]_E(S, S')
    pub holds : Predicate → PairContext → Sequence → Sequence → May (Sequence × PairContext)
    -- Comparison
    holds (xeq X) E S S' = do
      t ← the_string S
      T ← forward X (firsts E) none
      t' ← the_string T
      T' ← g T t'
      (N, E') ← backward X E none T'
      provided (is_none N)
      S'' ← g S' t
      got (S'', E')
    -- Comparison by a judge
    holds (xjudged judge X) E S S' = judged_backward g (λ D U. forward X D U) (λ F U W. backward X F U W) E S S'
    -- Element selection
    holds (xwithtag t) E S S' = do
      e ← the_element S
      got (S', E)
    -- Content filter
    holds xiselement E S S' = do
      b ← the_item S
      got (S', E)
