-- Figs. 5, 6 and 7: mg, split, iter and guard.
use Rattle.std.specs.Prelude.{ℕ, zero, suc, Bool, ◌&&◌, List, [], ◌∷◌}
use Rattle.lines.specs.Texts.{same_text}
use Rattle.paper.specs.Data.{Updating, ori, non, mod', del, ElementUpdating, ori_e, del_e, From, src, code, Sequence}
use Rattle.paper.specs.Data.{none, str, elt, ◌⧺◌, May, fail, got, ◌>>=◌, ◌>>◌, provided, is_none, same_from}
use Rattle.paper.specs.Contexts.{Context, PairContext}

-- ## Fig. 5

-- mg of two strings of one origin: the text and the state
abbrev pub mg_string : From → List ℕ → Updating → List ℕ → Updating → May (List ℕ × Updating)
mg_string o t ori t' ori = provided (same_text t t') >> got (t, ori)
mg_string o t non t' non = provided (same_text t t') >> got (t, non)
mg_string o t mod' t' mod' = provided (same_text t t') >> got (t, mod')
mg_string o t del t' del = provided (same_text t t') >> got (t, del)
mg_string (src n) t ori t' non = provided (same_text t t') >> got (t, non)
mg_string (src n) t ori t' del = provided (same_text t t') >> got (t, del)
mg_string (src n) t ori t' mod' = got (t', mod')
mg_string (src n) t non t' ori = provided (same_text t t') >> got (t, non)
mg_string (src n) t del t' ori = provided (same_text t t') >> got (t, del)
mg_string (src n) t mod' t' ori = got (t, mod')
mg_string code t ori t' non = fail
mg_string code t ori t' del = fail
mg_string code t ori t' mod' = fail
mg_string code t non t' ori = fail
mg_string code t del t' ori = fail
mg_string code t mod' t' ori = fail
mg_string o t non t' mod' = fail
mg_string o t non t' del = fail
mg_string o t mod' t' non = fail
mg_string o t mod' t' del = fail
mg_string o t del t' non = fail
mg_string o t del t' mod' = fail

-- of two elements of one origin: the state
abbrev pub mg_element : From → ElementUpdating → ElementUpdating → May ElementUpdating
mg_element o ori_e ori_e = got ori_e
mg_element o del_e del_e = got del_e
mg_element (src n) ori_e del_e = got del_e
mg_element (src n) del_e ori_e = got del_e
mg_element code ori_e del_e = fail
mg_element code del_e ori_e = fail

abbrev pub mg : Sequence → Sequence → May Sequence
mg none none = got none
mg (str t u o S) (str t' u' o' S') = do
  provided (same_from o o')
  a ← mg_string o t u t' u'
  Q ← mg S S'
  got (str a.0 a.1 o Q)
mg (elt t w o K S) (elt t' w' o' K' S') = do
  provided (same_text t t' && same_from o o')
  x ← mg_element o w w'
  L ← mg K K'
  Q ← mg S S'
  got (elt t x o L Q)
-- "fail, if no other case applies"
mg none (str t u o S) = fail
mg none (elt t w o K S) = fail
mg (str t u o S) none = fail
mg (str t u o S) (elt t' w o' K S') = fail
mg (elt t w o K S) none = fail
mg (elt t w o K S) (str t' u o' S') = fail

-- ## Fig. 6

-- T = T1, T2 and len(T1) = l
abbrev pub cut : ℕ → Sequence → May (Sequence × Sequence)
cut zero T = got (none, T)
cut (suc l) none = fail
cut (suc l) (str t u o S) = do
  p ← cut l S
  got (str t u o p.0, p.1)
cut (suc l) (elt t w o K S) = do
  p ← cut l S
  got (elt t w o K p.0, p.1)

abbrev pub split : Sequence → List ℕ → May (List Sequence)
split T [] = provided (is_none T) >> got []
split T (l ∷ ls) = do
  p ← cut l T
  r ← split p.1 ls
  got (p.0 ∷ r)

-- T1, T2 = split(T, [l1, l2])
abbrev pub in_two : List Sequence → May (Sequence × Sequence)
in_two [] = fail
in_two (A ∷ []) = fail
in_two (A ∷ B ∷ []) = got (A, B)
in_two (A ∷ B ∷ D ∷ l) = fail

-- forward and backward semantics, as `iter` and the constructs take them
abbrev pub Forward : Type 0
Forward = Context → Sequence → May Sequence

abbrev pub Backward : Type 0
Backward = PairContext → Sequence → Sequence → May (Sequence × PairContext)

abbrev pub iter : Backward → List Sequence → Sequence → Sequence → PairContext → May (Sequence × PairContext)
iter X [] none S' E = got (S', E)
iter X (T ∷ ls) (str t u o S) S' E = do
  r ← X E (str t u o none) T
  iter X ls S (S' ⧺ r.0) r.1
iter X (T ∷ ls) (elt t w o K S) S' E = do
  r ← X E (elt t w o K none) T
  iter X ls S (S' ⧺ r.0) r.1
iter X (T ∷ ls) none S' E = fail
iter X [] (str t u o S) S' E = fail
iter X [] (elt t w o K S) S' E = fail

-- ## Fig. 7

-- of one string
abbrev pub guard_string : List ℕ → Updating → From → Bool → May Sequence
guard_string t ori (src n) same = provided same >> got (str t non (src n) none)
guard_string t non (src n) same = provided same >> got (str t non (src n) none)
guard_string t mod' (src n) same = provided same >> got (str t mod' (src n) none)
guard_string t del (src n) same = provided same >> got (str t del (src n) none)
guard_string t ori code same = provided same >> got (str t ori code none)
guard_string t non code same = fail
guard_string t mod' code same = fail
guard_string t del code same = fail

abbrev pub Guard : Type 0
Guard = Sequence → List ℕ → May Sequence

abbrev pub guard : Guard
guard none t' = fail
guard (str t u o S) t' = provided (is_none S) >> guard_string t u o (same_text t t')
guard (elt t w o K S) t' = fail
