-- Section 3.2, Fig. 4: the language, without xfunapp.
-- One addition: beside `xeq` stands a comparison by a judge of two strings, of which `xeq` is the one whose judge is equality.
use Rattle.std.specs.Prelude.{ℕ, Bool, List}
use Rattle.paper.specs.Data.{Sequence, May}

-- what it says of two strings: yes, no, or `fail`
abbrev pub Judge : Type 0
Judge = List ℕ → List ℕ → May Bool

mutual
  -- X
  pub data Construct : Type 0 where
    xid : Construct
    xconst : Sequence → Construct
    xvar : ℕ → Construct
    xchild : Construct
    xsetcnt : Construct → Construct
    xseq : Construct → Construct → Construct  -- X1; X2
    xpar : Construct → Construct → Construct  -- X1 || X2
    xmap : Construct → Construct
    xif : Predicate → Construct → Construct → Construct
    xlet : ℕ → Construct → Construct

  -- P
  pub data Predicate : Type 0 where
    xeq : Construct → Predicate
    xjudged : Judge → Construct → Predicate  -- not the paper's
    xwithtag : List ℕ → Predicate
    xiselement : Predicate
