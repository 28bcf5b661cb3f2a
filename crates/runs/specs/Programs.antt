-- A program as a tree. The first number of each constructor is its entry's place.
use Rattle.std.specs.Prelude.{ℕ, List}

-- how a test compares the source text with another one
pub data Comparison : Type 0 where
  equals : Comparison  -- 11

mutual
  pub data Transformation : Type 0 where
    source : ℕ → Transformation  -- 01 the source itself
    nothing : ℕ → Transformation  -- 02 nothing, the empty sequence
    text : ℕ → List ℕ → Transformation  -- 03 a text from the program
    tag : ℕ → List ℕ → Transformation  -- 04 an empty element from the program
    slot : ℕ → ℕ → Transformation  -- 05 the value of the slot
    contents : ℕ → Transformation  -- 06 the contents of an element
    within : ℕ → Transformation → Transformation  -- 07 X: an element with contents run through X
    and_then : ℕ → Transformation → Transformation → Transformation  -- 08 X1 X2: X1, then X2 on its result
    beside : ℕ → Transformation → Transformation → Transformation  -- 09 X1 X2: both on the same source, joined
    each : ℕ → Transformation → Transformation  -- 0A X: X on each top node, joined
    choose : ℕ → Test → Transformation → Transformation → Transformation  -- 0B P X1 X2: if P then X1 else X2
    bind : ℕ → ℕ → Transformation → Transformation  -- 0C X: bind the slot to the source, run X on nothing

  pub data Test : Type 0 where
    compares : ℕ → Comparison → Transformation → Test  -- 11 X: source text equals X run on nothing
    tagged : ℕ → List ℕ → Test  -- 12 element with this tag
    is_element : ℕ → Test  -- 13 is an element
