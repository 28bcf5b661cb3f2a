-- Lines read as the paper's data are the trees beside which they stand, drawn with the lines' own texts and marks.
use Rattle.std.specs.Prelude.{◌≡◌, refl, true, false, ℕ, zero, suc, ◌+◌, ◌<◌, length}
use Rattle.std.proofs.Common.{sym, subst, ◌∙◌, arith, drop-drop, lt-ltb, le-ltb, eq-eqb, ne_eqb}
use Rattle.std.proofs.Math.Path.{ap, subst⁻¹}
use mathlib.Core.List.{List, [], ◌∷◌, ◌++◌, append-nil, append_assoc}
use Rattle.std.proofs.Math.ListN.{drop}
use Rattle.lines.specs.Nodes.{Line, is_element, no_line}
use Rattle.values.specs.Values.{Origin, master, program, Value, Lookup, element_of, bytes_of}
use Rattle.values.specs.Standings.{Standing, first_of, rest_of}
use Rattle.values.proofs.Theorems.Gathering.{drop_rest}
use Rattle.runs.specs.Grounds.{Numbered, Ground, line_of, lookup_in, shown_line, view}
use Rattle.runs.specs.Theorems.ViewLines.{shown_line_depth}
use Rattle.paper.specs.Data.{Updating, ori, non, mod', del, ElementUpdating, From, Sequence, none, str, elt, ◌⧺◌}
use Rattle.paper.specs.Lines.{updating_of, element_updating_of, from_of, item_of, items_at, sequence}
use Rattle.paper.specs.Theorems.Trees.{seq_none, Trees, nil, txt, elm, flat, from_origin, mark_for, paint, Right, Numbering}
use Rattle.paper.proofs.Theorems.Brushes.{size, length_flat, text_for, state_for, element_for, brush}

-- ## Lines beside a value: as deep as its nodes, and of their kinds

abbrev pub first_line : List Line → Line
first_line [] = no_line
first_line (l ∷ ls) = l

abbrev pub rest_lines : List Line → List Line
rest_lines [] = []
rest_lines (l ∷ ls) = ls

pub drop_lines : (k : ℕ) (ws : List Line) → drop (suc k) ws ≡ drop k (rest_lines ws)
drop_lines zero [] = refl
drop_lines (suc k) [] = refl
drop_lines k (w ∷ ws) = refl

abbrev pub Beside : Lookup → Value → List Line → Type 0
Beside look [] [] = Unit {0}
Beside look [] (w ∷ ws) = ⊥
Beside look (x ∷ v) [] = ⊥
Beside look (x ∷ v) (w ∷ ws) = (w.depth ≡ x.depth) × (is_element w.kind ≡ element_of look x.origin) × Beside look v ws

beside_drop : (look : Lookup) (v u : Value) (ws : List Line) → Beside look (v ++ u) ws → Beside look u (drop (length v) ws)
beside_drop look [] u ws B = B
beside_drop look (x ∷ v) u [] B = absurd B
beside_drop look (x ∷ v) u (w ∷ ws) B = beside_drop look v u ws B.2

-- the trees with the lines' own texts and marks
abbrev pub drawn : Trees → List Line → Sequence
drawn nil ws = none
drawn (txt o r) ws = str (first_line ws).text (updating_of (first_line ws).mark) (from_of (first_line ws).number) (drawn r (rest_lines ws))
drawn (elm o k r) ws =
    elt (first_line ws).text (element_updating_of (first_line ws).mark) (from_of (first_line ws).number) (drawn k (rest_lines ws)) (drawn r (drop (size k) (rest_lines ws)))

-- ## Reading them

pub item_here : (d : ℕ) (w : Line) (ws : List Line) → w.depth ≡ d → items_at d (w ∷ ws) ≡ item_of w (items_at (suc d) ws) (items_at d ws)
unfolding items_at
item_here d w ws h = rw (h, le-ltb d d (omega arith), eq-eqb d d refl)

pub item_below : (d : ℕ) (w : Line) (ws : List Line) → d < w.depth → items_at d (w ∷ ws) ≡ items_at d ws
unfolding items_at
item_below d w ws h = rw (le-ltb w.depth d (omega arith), ne_eqb w.depth d (λ e. omega arith))

item_above : (d : ℕ) (w : Line) (ws : List Line) → w.depth < d → items_at d (w ∷ ws) ≡ none
unfolding items_at
item_above d w ws h = rw (lt-ltb w.depth d h)

module _ (look : Lookup) where
  -- behind an element's own line: its contents, then what follows
  contents_first : (d : ℕ) (k r : Trees) (u : Value) (ws : List Line) → Beside look ((flat (suc d) k ++ flat d r) ++ u) ws
      → Beside look (flat (suc d) k ++ (flat d r ++ u)) ws × Beside look (flat d r ++ u) (drop (size k) ws)
  contents_first d k r u ws B =
      let B' = subst (λ (v : Value). Beside look v ws) (append_assoc (flat (suc d) k) (flat d r) u) B in
      (B', subst (λ (n : ℕ). Beside look (flat d r ++ u) (drop n ws)) (length_flat (suc d) k) (beside_drop look (flat (suc d) k) (flat d r ++ u) ws B'))

  -- what is deeper is passed over
  skips : (d e : ℕ) → d < e → (k : Trees) (u : Value) (ws : List Line) → Beside look (flat e k ++ u) ws → items_at d ws ≡ items_at d (drop (size k) ws)
  skips d e h nil u ws B = refl
  skips d e h (txt o r) u [] B = absurd B
  skips d e h (txt o r) u (w ∷ ws) B = let z = B.0 in item_below d w ws (omega arith) ∙ skips d e h r u ws B.2
  skips d e h (elm o k r) u [] B = absurd B
  skips d e h (elm o k r) u (w ∷ ws) B =
      let z = B.0 in
      let c = contents_first e k r u ws B.2 in
      item_below d w ws (omega arith) ∙ skips d (suc e) (omega arith) k (flat e r ++ u) ws c.0 ∙ skips d e h r u (drop (size k) ws) c.1
      ∙ ap (items_at d) (drop-drop (size r) (size k) ws)

  -- nothing is read there at a depth over d
  abbrev Stops : ℕ → List Line → Type 0
  Stops d ws = (e : ℕ) → d < e → items_at e ws ≡ none

  stops_before : (d : ℕ) (r : Trees) (u : Value) (ws : List Line) → Beside look (flat d r ++ u) ws → Stops d (drop (size r) ws) → Stops d ws
  stops_before d nil u ws B S = S
  stops_before d (txt o r) u [] B S = absurd B
  stops_before d (txt o r) u (w ∷ ws) B S = λ e h. let z = B.0 in item_above e w ws (omega arith)
  stops_before d (elm o k r) u [] B S = absurd B
  stops_before d (elm o k r) u (w ∷ ws) B S = λ e h. let z = B.0 in item_above e w ws (omega arith)

  items_drawn : (d : ℕ) (f : Trees) (u : Value) (ws : List Line) → Right look f → Beside look (flat d f ++ u) ws → Stops d (drop (size f) ws)
      → items_at d ws ≡ drawn f ws ⧺ items_at d (drop (size f) ws)
  items_drawn d nil u ws F B S = refl
  items_drawn d (txt o r) u [] F B S = absurd B
  items_drawn d (txt o r) u (w ∷ ws) F B S = item_here d w ws B.0 ∙ rw (B.1, F.0, items_drawn d r u ws F.2 B.2 S)
  items_drawn d (elm o k r) u [] F B S = absurd B
  items_drawn d (elm o k r) u (w ∷ ws) F B S =
      let c = contents_first d k r u ws B.2 in
      let S' : Stops d (drop (size r) (drop (size k) ws)) = λ e h. ap (items_at e) (drop-drop (size r) (size k) ws) ∙ S e h in
      let behind : Stops d (drop (size k) ws) = stops_before d r u (drop (size k) ws) c.1 S' in
      let inner : items_at (suc d) ws ≡ drawn k ws
      = items_drawn (suc d) k (flat d r ++ u) ws F.2 c.0 (λ e h. behind e (omega arith))
      ∙ ap (λ (T : Sequence). drawn k ws ⧺ T) (behind (suc d) (omega arith)) ∙ seq_none (drawn k ws) in
      let others : items_at d ws ≡ drawn r (drop (size k) ws) ⧺ items_at d (drop (size k + size r) ws)
      = skips d (suc d) (omega arith) k (flat d r ++ u) ws c.0 ∙ items_drawn d r u (drop (size k) ws) F.3 c.1 S'
      ∙ ap (λ (l : List Line). drawn r (drop (size k) ws) ⧺ items_at d l) (drop-drop (size r) (size k) ws) in
      item_here d w ws B.0 ∙ rw (B.1, F.0, inner, others)

  ended : (ws : List Line) → Beside look [] ws → ws ≡ []
  ended [] B = refl
  ended (w ∷ ws) B = absurd B

  pub sequence_drawn : (f : Trees) (ws : List Line) → Right look f → Beside look (flat 0 f) ws → sequence ws ≡ drawn f ws
  unfolding sequence items_at
  sequence_drawn f ws F B =
      let B' = subst⁻¹ (λ (v : Value). Beside look v ws) (append-nil (flat 0 f)) B in
      let end : drop (size f) ws ≡ [] = ended (drop (size f) ws) (subst (λ (n : ℕ). Beside look [] (drop n ws)) (length_flat 0 f) (beside_drop look (flat 0 f) [] ws B')) in
      items_drawn 0 f [] ws F B' (λ e h. ap (items_at e) end) ∙ ap (λ (l : List Line). drawn f ws ⧺ items_at 0 l) end ∙ seq_none (drawn f ws)

-- ## `non` read as untouched

abbrev pub unlocked_state : Updating → Updating
unlocked_state ori = ori
unlocked_state non = ori
unlocked_state mod' = mod'
unlocked_state del = del

abbrev pub unlocked : Sequence → Sequence
unlocked none = none
unlocked (str t u o S) = str t (unlocked_state u) o (unlocked S)
unlocked (elt t w o K S) = elt t w o (unlocked K) (unlocked S)

-- ## Lines that say what standings say; h is what is made of an updating state

pub record Inked (look : Lookup) (h : Updating → Updating) (o : Origin) (w : Line) (s : Standing) : Type 0 where
  pub from : from_of w.number ≡ from_origin o
  pub as_text : element_of look o ≡ false → (w.text ≡ text_for look o s) × (updating_of w.mark ≡ h (state_for o s))
  pub as_element : element_of look o ≡ true → (w.text ≡ bytes_of look o) × (element_updating_of w.mark ≡ element_for o s)

module _ (look : Lookup) (h : Updating → Updating) where
  abbrev pub InkedAll : Value → List Line → List Standing → Type 0
  InkedAll [] ws ss = Unit {0}
  InkedAll (x ∷ v) ws ss = Inked look h x.origin (first_line ws) (first_of ss) × InkedAll v (rest_lines ws) (rest_of ss)

  inked_drop : (v u : Value) (ws : List Line) (ss : List Standing) → InkedAll (v ++ u) ws ss → InkedAll u (drop (length v) ws) (drop (length v) ss)
  inked_drop [] u ws ss I = I
  inked_drop (x ∷ v) u ws ss I = rw (drop_lines (length v) ws, drop_rest (length v) ss) (inked_drop v u (rest_lines ws) (rest_of ss) I.1)

  -- over a whole sequence
  module _ (H : Sequence → Sequence) (at_none : H none ≡ none) (at-str : (t : List ℕ) (u : Updating) (o : From) (S : Sequence) → H (str t u o S) ≡ str t (h u) o (H S))
      (at-elt : (t : List ℕ) (w : ElementUpdating) (o : From) (K S : Sequence) → H (elt t w o K S) ≡ elt t w o (H K) (H S)) where
    pub drawn_brush : (d : ℕ) (f : Trees) (u : Value) (ws : List Line) (ss : List Standing) → Right look f → InkedAll (flat d f ++ u) ws ss → drawn f ws ≡ H (brush look f ss)
    drawn_brush d nil u ws ss F I = sym at_none
    drawn_brush d (txt o r) u ws ss F I =
        let t = I.0.as_text F.0 in
        rw (t.0, t.1, I.0.from, drawn_brush d r u (rest_lines ws) (rest_of ss) F.2 I.1)
        (sym (at-str (text_for look o (first_of ss)) (state_for o (first_of ss)) (from_origin o) (brush look r (rest_of ss))))
    drawn_brush d (elm o k r) u ws ss F I =
        let t = I.0.as_element F.0 in
        let inner : InkedAll (flat (suc d) k ++ (flat d r ++ u)) (rest_lines ws) (rest_of ss) = rw (← (append_assoc (flat (suc d) k) (flat d r) u)) I.1 in
        let others : InkedAll (flat d r ++ u) (drop (size k) (rest_lines ws)) (drop (size k) (rest_of ss))
        = rw (← (length_flat (suc d) k)) (inked_drop (flat (suc d) k) (flat d r ++ u) (rest_lines ws) (rest_of ss) inner) in
        rw (
          t.0,
          t.1,
          I.0.from,
          drawn_brush (suc d) k (flat d r ++ u) (rest_lines ws) (rest_of ss) F.2 inner,
          drawn_brush d r u (drop (size k) (rest_lines ws)) (drop (size k) (rest_of ss)) F.3 others,
        )
        (sym (at-elt (bytes_of look o) (element_for o (first_of ss)) (from_origin o) (brush look k (rest_of ss)) (brush look r (drop (size k) (rest_of ss)))))

-- ## Views

abbrev pub marks_in : List Numbered → ℕ → ℕ
marks_in ls n = (line_of ls n).mark

view_drop : (G : Ground) (v u : Value) → drop (length v) (view G (v ++ u)) ≡ view G u
unfolding view
view_drop G [] u = refl
view_drop G (x ∷ v) u = view_drop G v u

-- a shown line is that of its origin
pub shown_ink : (ls : List Numbered) (d : ℕ) (o : Origin) → Numbering o
    → ((shown_line ls d o).text ≡ bytes_of (lookup_in ls) o) × ((shown_line ls d o).mark ≡ mark_for (marks_in ls) o) × (from_of (shown_line ls d o).number ≡ from_origin o)
unfolding shown_line bytes_of
shown_ink ls d (master n) h = (refl, refl, rw h)
shown_ink ls d (program e b t) h = (refl, refl, refl)

pub shown_kind : (ls : List Numbered) (d : ℕ) (o : Origin) → is_element (shown_line ls d o).kind ≡ element_of (lookup_in ls) o
unfolding shown_line element_of is_element
shown_kind ls d (master n) = refl
shown_kind ls d (program e true t) = refl
shown_kind ls d (program e false t) = refl

view_beside : (G : Ground) (v : Value) → Beside (lookup_in G.lines) v (view G v)
unfolding view
view_beside G [] = tt
view_beside G (x ∷ v) = (shown_line_depth G.lines x.depth x.origin, shown_kind G.lines x.depth x.origin, view_beside G v)

view_drawn : (G : Ground) (d : ℕ) (f : Trees) (u : Value) → Right (lookup_in G.lines) f → drawn f (view G (flat d f ++ u)) ≡ paint (lookup_in G.lines) (marks_in G.lines) f
unfolding view
view_drawn G d nil u F = refl
view_drawn G d (txt o r) u F = let i = shown_ink G.lines d o F.1 in rw (i.0, i.1, i.2, view_drawn G d r u F.2)
view_drawn G d (elm o k r) u F =
    let i = shown_ink G.lines d o F.1 in
    let e = append_assoc (flat (suc d) k) (flat d r) u in
    let inner : drawn k (view G ((flat (suc d) k ++ flat d r) ++ u)) ≡ paint (lookup_in G.lines) (marks_in G.lines) k = rw e (view_drawn G (suc d) k (flat d r ++ u) F.2) in
    let others : drop (size k) (view G ((flat (suc d) k ++ flat d r) ++ u)) ≡ view G (flat d r ++ u)
    = rw (e, ← (length_flat (suc d) k)) (view_drop G (flat (suc d) k) (flat d r ++ u)) in
    rw (i.0, i.1, i.2, inner, others, view_drawn G d r u F.3)

-- the shown trees, read from their lines
pub sequence_view : (G : Ground) (f : Trees) → Right (lookup_in G.lines) f → sequence (view G (flat 0 f)) ≡ paint (lookup_in G.lines) (marks_in G.lines) f
sequence_view G f F =
    sequence_drawn (lookup_in G.lines) f (view G (flat 0 f)) F (view_beside G (flat 0 f))
    ∙ ap (λ (v : Value). drawn f (view G v)) (sym (append-nil (flat 0 f))) ∙ view_drawn G 0 f [] F
