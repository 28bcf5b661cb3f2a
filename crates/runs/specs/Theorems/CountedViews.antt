-- A view brings what it brings with the marks that count, so every node has the same standing.
use Rattle.std.specs.Prelude.{◌≡◌, refl, ℕ}
use Rattle.std.proofs.Common.{ap, ap₂}
use mathlib.Core.List.{List, [], ◌∷◌}
use Rattle.lines.specs.Nodes.{Line}
use Rattle.lines.specs.Views.{counted_lines}
use Rattle.lines.proofs.Theorems.CountedMarks.{counted_again}
use Rattle.values.specs.Values.{Origin, master, program, Value, bytes_of}
use Rattle.values.specs.Standings.{Standing, says, brings}
use Rattle.runs.specs.Results.{gives}
use Rattle.runs.specs.Programs.{Transformation}
use Rattle.runs.specs.Showing.{Shown}
use Rattle.runs.specs.PuttingBack.{value_of}
use Rattle.runs.specs.Grounds.{Numbered, lookup_in, Ground, showing, shown_line, view, brought, standing, standing_for}

-- a shown line has its node's bytes
pub shown_text : (ls : List Numbered) (d : ℕ) (o : Origin) → (shown_line ls d o).text ≡ bytes_of (lookup_in ls) o
unfolding shown_line bytes_of
shown_text ls d (master n) = refl
shown_text ls d (program e b t) = refl

pub brought_counted : (G : Ground) (v : Value) (es : List Line) → brought (lookup_in G.lines) v (counted_lines (view G v) es) ≡ brought (lookup_in G.lines) v es
unfolding brought counted_lines view brings
brought_counted G [] es = refl
brought_counted G (x ∷ v) [] = refl
brought_counted G (x ∷ v) (l ∷ es) =
    let fresh = shown_text G.lines x.depth x.origin in
    ap₂ (λ (s : Standing) (ss : List Standing). s ∷ ss)
    (rw fresh (ap (λ (m : ℕ). says m l.text) (counted_again (bytes_of (lookup_in G.lines) x.origin) l.mark l.text))) (brought_counted G v es)

module _ (G : Ground) (X : Transformation) (o : Shown) (shows : showing G X ≡ gives o) (es : List Line) where
  standing_counted : (n : ℕ) → standing_for G X (counted_lines (view G o.value) es) n ≡ standing_for G X es n
  unfolding standing_for value_of
  standing_counted n = rw shows (ap (λ (ss : List Standing). standing G X ss n) (brought_counted G o.value es))

  pub standings_counted : standing_for G X (counted_lines (view G o.value) es) ≡ standing_for G X es
  standings_counted = λ i n. standing_counted n i
