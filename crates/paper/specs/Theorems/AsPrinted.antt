-- That where no text of the master and of the program ends in 20, the paper as printed gives the same.
use Rattle.std.specs.Prelude.{◌≡◌, false, List, [], ℕ}
use Rattle.lines.specs.Nodes.{Line, is_element as isElementKind, line_at}
use Rattle.lines.proofs.Theorems.TrimmedTexts.{Unpadded}
use Rattle.runs.specs.Programs.{Transformation, source, nothing, text, tag, slot, contents, within}
use Rattle.runs.specs.Programs.{and_then, beside, each, choose, bind, Test, compares, tagged, is_element}
use Rattle.paper.specs.Data.{Sequence}
use Rattle.paper.specs.Operators.{Guard}
use Rattle.paper.specs.Semantics.{forward, backward}
use Rattle.paper.specs.Programs.{in_paper, in_print}
use Rattle.paper.specs.Lines.{sequence}

-- ## No text ends in 20

-- of a master's lines
abbrev pub UnpaddedLines : List Line → Type 0
UnpaddedLines ls = (i : ℕ) → isElementKind (line_at ls i).kind ≡ false → Unpadded (line_at ls i).text

-- of a program: those of its 03
unfoldable mutual
  pub UnpaddedTexts : Transformation → Type 0
  UnpaddedTexts (source e) = Unit {0}
  UnpaddedTexts (nothing e) = Unit {0}
  UnpaddedTexts (text e b) = Unpadded b
  UnpaddedTexts (tag e b) = Unit {0}
  UnpaddedTexts (slot e k) = Unit {0}
  UnpaddedTexts (contents e) = Unit {0}
  UnpaddedTexts (within e X) = UnpaddedTexts X
  UnpaddedTexts (and_then e X Y) = UnpaddedTexts X × UnpaddedTexts Y
  UnpaddedTexts (beside e X Y) = UnpaddedTexts X × UnpaddedTexts Y
  UnpaddedTexts (each e X) = UnpaddedTexts X
  UnpaddedTexts (choose e P X Y) = UnpaddedTest P × UnpaddedTexts X × UnpaddedTexts Y
  UnpaddedTexts (bind e k X) = UnpaddedTexts X

  pub UnpaddedTest : Test → Type 0
  UnpaddedTest (compares e c X) = UnpaddedTexts X
  UnpaddedTest (tagged e t) = Unit {0}
  UnpaddedTest (is_element e) = Unit {0}

-- ## The same is shown of a whole master, and put back, whatever the view and the guard

pub record AsPrinted (X : Transformation) (ls : List Line) : Type 0 where
  pub shows : forward (in_print X) [] (sequence ls) ≡ forward (in_paper X) [] (sequence ls)
  pub puts_back : (g : Guard) (T : Sequence) → backward g (in_print X) [] (sequence ls) T ≡ backward g (in_paper X) [] (sequence ls) T
