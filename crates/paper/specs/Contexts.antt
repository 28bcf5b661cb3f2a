-- Section 3.3: the two evaluation contexts. The paper adds a binding at the right end; here the last one added stands first.
use Rattle.std.specs.Prelude.{ℕ, cond, List, [], ◌∷◌, eqb}
use Rattle.paper.specs.Data.{Sequence, May, fail, got}

-- C: Var ↦ S
abbrev pub Context : Type 0
Context = List (ℕ × Sequence)

-- E: Var ↦ (S, S'), the original value and the updated one
abbrev pub PairContext : Type 0
PairContext = List (ℕ × (Sequence × Sequence))

-- E.1
abbrev pub firsts : PairContext → Context
firsts [] = []
firsts (b ∷ E) = (b.0, b.1.0) ∷ firsts E

-- T, if C = C1, Var ↦ T, C2 and Var is not in C2
abbrev pub find : ℕ → Context → May Sequence
find k [] = fail
find k (b ∷ C) = cond (eqb k b.0) (got b.1) (find k C)
