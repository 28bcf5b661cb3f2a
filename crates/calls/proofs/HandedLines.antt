-- A master's line as it is handed back: its head and its text by the word of its standing; and the lines of a master, one by one.
use mathlib.Core.Path.{◌≡◌, refl, sym, ◌∙◌, ap, ap₂}
use mathlib.Core.Bool.{Bool, true, false}
use lib.Dec.{leb}
use mathlib.Core.List.{List, [], ◌∷◌}
use Prim.Native.Nat.{ℕ, zero, suc, ◌+◌, ◌-◌, ◌≤◌, ◌<◌}
use native.Mathlib.Nat.{not-suc-le-zero, le_of_suc-le-suc}
use native.Mathlib.Omega.{arith}
use lib.ListN.{length, get_or}
use borrow.Author.Tests.{le-leb, leb-true, leb-false, ne_eqb}
use Rattle.lines.specs.declared.write.Head.{Head}
use Rattle.lines.specs.Nodes.{Line, no_line}
use Rattle.lines.specs.Theorems.LinesAt.{line_at_map}
use Rattle.lines.specs.Theorems.WritingLines.{Fitting}
use Rattle.lines.specs.Engine.Writes.{headed}
use Rattle.values.specs.Standings.{Standing, untouched, hands_back, rest_of}
use Rattle.values.specs.Engine.Words.{part, standing_of, standings_at}
use Rattle.values.specs.Theorems.Extents.{length_part, get_d_part}
use Rattle.values.proofs.Theorems.WordLaws.{length_standings}
use Rattle.calls.specs.Engine.Parts.{mark_left, handed_over, texts_of, handed_lines, HandingRoom}

-- ## One line

-- the fields before the text
abbrev pub handed_head : Line → ℕ → Head
handed_head l x = record { depth = l.depth; kind = l.kind; mark = mark_left l.mark x; number = l.number }

module _ (texts : ℕ → List ℕ) (l : Line) where
  kept : (x : ℕ) → x < 4 → headed (handed_head l x) l.text ≡ hands_back l (standing_of texts x)
  unfolding hands_back standing_of mark_left
  kept zero h = refl
  kept (suc zero) h = refl
  kept (suc (suc zero)) h = refl
  kept (suc (suc (suc zero))) h = refl
  kept (suc (suc (suc (suc x)))) h = absurd (omega arith)

  changed_line : (x : ℕ) → 4 ≤ x → headed (handed_head l x) (texts (x - 4)) ≡ hands_back l (standing_of texts x)
  unfolding hands_back standing_of mark_left
  changed_line x h = rw (le-leb 4 x h, ne_eqb x 0 (λ e. omega arith), ne_eqb x 1 (λ e. omega arith), ne_eqb x 2 (λ e. omega arith), ne_eqb x 3 (λ e. omega arith))

  -- a text of the line's own, or of a view line
  pub keeps_text : (x : ℕ) → x < 4 → l.text ≡ (hands_back l (standing_of texts x)).text
  keeps_text x below = ap (λ (m : Line). m.text) (kept x below)

  pub takes_text : (x : ℕ) → 4 ≤ x → texts (x - 4) ≡ (hands_back l (standing_of texts x)).text
  takes_text x from = ap (λ (m : Line). m.text) (changed_line x from)

  -- the head before the text
  pub head_handed : (x : ℕ) {h : Head} {t : List ℕ} → h ≡ handed_head l x → t ≡ (hands_back l (standing_of texts x)).text → headed h t ≡ hands_back l (standing_of texts x)
  head_handed x e q = ap₂ headed e q ∙ go (leb 4 x) refl
    where
      go : (b : Bool) → leb 4 x ≡ b → headed (handed_head l x) (hands_back l (standing_of texts x)).text ≡ hands_back l (standing_of texts x)
      go true f = let from = leb-true 4 x f in ap (headed (handed_head l x)) (sym (takes_text x from)) ∙ changed_line x from
      go false f = let below = leb-false 4 x f in ap (headed (handed_head l x)) (sym (keeps_text x below)) ∙ kept x below

-- ## The lines of a master

handed_long : (L : List Line) (ss : List Standing) → length (handed_over L ss) ≡ length L
unfolding handed_over
handed_long [] ss = refl
handed_long (l ∷ L) ss = ap suc (handed_long L (rest_of ss))

handed_at : (L : List Line) (ss : List Standing) (i : ℕ) → i < length L → i < length ss
    → get_or (handed_over L ss) i no_line ≡ hands_back (get_or L i no_line) (get_or ss i untouched)
unfolding handed_over
handed_at [] ss i h g = absurd (not-suc-le-zero h)
handed_at (l ∷ L) [] i h g = absurd (not-suc-le-zero g)
handed_at (l ∷ L) (s ∷ ss) zero h g = refl
handed_at (l ∷ L) (s ∷ ss) (suc i) h g = handed_at L ss i (le_of_suc-le-suc h) (le_of_suc-le-suc g)

module _ {L es : List Line} {w out : List ℕ} (r : HandingRoom L es w out) where
  pub master_fits : Fitting (handed_lines L es w) out (length L)
  master_fits = record { all = handed_long L _; room = r.room }

  standing_is : (i : ℕ) → i < length L → get_or (standings_at (texts_of es) w 256 (length L)) i untouched ≡ standing_of (texts_of es) (get_or w (256 + i) 0)
  unfolding standings_at
  standing_is i h =
      line_at_map (standing_of (texts_of es)) (part w 256 (length L)) i untouched (omega (arith, length_part w 256 (length L) r.inside))
      ∙ ap (standing_of (texts_of es)) (get_d_part w 256 (length L) i h)

  -- a line a node
  pub master_at : (i : ℕ) → i < length L → {l : Line} → l ≡ get_or L i no_line
      → get_or (handed_lines L es w) i no_line ≡ hands_back l (standing_of (texts_of es) (get_or w (256 + i) 0))
  master_at i h e =
      handed_at L (standings_at (texts_of es) w 256 (length L)) i h (omega (arith, length_standings (texts_of es) w 256 (length L) r.inside))
      ∙ ap₂ hands_back (sym e) (standing_is i h)
