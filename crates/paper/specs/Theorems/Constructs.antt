-- The semantics of each construct and predicate over those of its parts: what the proofs speak of where `forward` and `backward` are taken apart.
-- Those of a comparison are `judged_forward` and `judged_backward` of `Semantics`.
use Rattle.std.specs.Prelude.{ℕ, Bool, ◌&&◌, List, [], ◌∷◌}
use Rattle.lines.specs.Texts.{same_text}
use Rattle.paper.specs.Data.{Sequence, none, elt, ◌⧺◌, len, May, got, ◌>>=◌, ◌>>◌, provided, the_element, the_item, same_from}
use Rattle.paper.specs.Contexts.{Context, firsts, find}
use Rattle.paper.specs.Operators.{mg, split, in_two, Forward, Backward, iter}
use Rattle.paper.specs.Semantics.{updated, on_each, lengths, branch, taken}

-- a predicate's
abbrev pub Asking : Type 0
Asking = Context → Sequence → May Bool

-- ## Identity transformation

abbrev pub xid_forward : Forward
xid_forward C S = got S

abbrev pub xid_backward : Backward
xid_backward E S T = got (T, E)

-- ## Variable reference

abbrev pub xvar_forward : ℕ → Forward
xvar_forward k C S = find k C

abbrev pub xvar_backward : ℕ → Backward
xvar_backward k E S T = do
  E' ← updated k T E
  got (S, E')

-- ## Element deconstruction

abbrev pub xchild_forward : Forward
xchild_forward C S = do
  a ← the_element S
  got a.contents

abbrev pub xchild_backward : Backward
xchild_backward E S T = do
  a ← the_element S
  got (elt a.tag a.state a.origin T none, E)

-- ## Element construction

abbrev pub xsetcnt_forward : Forward → Forward
xsetcnt_forward X C S = do
  a ← the_element S
  T ← X C a.contents
  got (elt a.tag a.state a.origin T none)

abbrev pub xsetcnt_backward : Backward → Backward
xsetcnt_backward X E S T = do
  a ← the_element S
  b ← the_element T
  provided (same_text a.tag b.tag && same_from a.origin b.origin)
  r ← X E a.contents b.contents
  got (elt a.tag b.state a.origin r.0 none, r.1)

-- ## Sequential composition

abbrev pub xseq_forward : Forward → Forward → Forward
xseq_forward X1 X2 C S = do
  T ← X1 C S
  X2 C T

abbrev pub xseq_backward : Forward → Backward → Backward → Backward
xseq_backward X1 X1' X2' E S T = do
  W ← X1 (firsts E) S
  r ← X2' E W T
  X1' r.1 S r.0

-- ## Parallel composition

abbrev pub xpar_forward : Forward → Forward → Forward
xpar_forward X1 X2 C S = do
  A ← X1 C S
  B ← X2 C S
  got (A ⧺ B)

abbrev pub xpar_backward : Forward → Forward → Backward → Backward → Backward
xpar_backward X1 X2 X1' X2' E S T = do
  A ← X1 (firsts E) S
  B ← X2 (firsts E) S
  l ← split T (len A ∷ len B ∷ [])
  p ← in_two l
  b ← X2' E S p.1
  a ← X1' b.1 S p.0
  Q ← mg a.0 b.0
  got (Q, a.1)

-- ## Mapping transformation

abbrev pub xmap_forward : Forward → Forward
xmap_forward X C S = on_each (X C) S

abbrev pub xmap_backward : Forward → Backward → Backward
xmap_backward X X' E S T = do
  l ← lengths (X (firsts E)) S
  ST ← split T l
  iter X' ST S none E

-- ## Conditional transformation

abbrev pub xif_forward : Asking → Forward → Forward → Forward
xif_forward P X1 X2 C S = do
  b ← P C S
  branch b (X1 C S) (X2 C S)

abbrev pub xif_backward : Asking → Backward → Backward → Backward → Backward
xif_backward P P' X1' X2' E S T = do
  b ← P (firsts E) S
  r ← branch b (X1' E S T) (X2' E S T)
  P' r.1 S r.0

-- ## Variable binding

abbrev pub xlet_forward : ℕ → Forward → Forward
xlet_forward k X C S = X ((k, S) ∷ C) none

abbrev pub xlet_backward : ℕ → Backward → Backward
xlet_backward k X E S T = do
  r ← X ((k, (S, S)) ∷ E) none T
  taken r

-- ## Element selection

abbrev pub xwithtag_forward : List ℕ → Asking
xwithtag_forward t C S = do
  a ← the_element S
  got (same_text a.tag t)

abbrev pub xwithtag_backward : Backward
xwithtag_backward E S S' = do
  a ← the_element S
  got (S', E)

-- ## Content filter

abbrev pub xiselement_forward : Asking
xiselement_forward C S = the_item S

abbrev pub xiselement_backward : Backward
xiselement_backward E S S' = do
  b ← the_item S
  got (S', E)
