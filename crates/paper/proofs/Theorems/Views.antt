-- The lines of an edited view in which replies 9 and 10 find no fault, with the marks that count, and the lines that are handed back: both say what their standings say.
use Rattle.std.proofs.Math.Path.{◌≡◌, refl, sym, ap, subst⁻¹}
use Rattle.std.proofs.Common.{◌∙◌, arith}
use Rattle.std.specs.Prelude.{Bool, ◌&&◌, not, eqb, leb, length, drop, get_or, None, Some}
use Rattle.std.proofs.Math.Bool.{true, false, cond}
use mathlib.Core.List.{List, [], ◌∷◌, ◌++◌, append_assoc}
use Prim.Native.Nat.{ℕ, zero, suc, ◌+◌, ◌<◌}
use borrow.Author.Tests.{eqb-true, eqb-false, eq-eqb}
use Rattle.lines.specs.Nodes.{Line, untouched_mark, changed_mark, deleted_mark, is_element, is_marked, kind_rule, program_number, line_at, no_line}
use Rattle.lines.specs.Verdicts.{first_from}
use Rattle.lines.specs.Views.{same_line, difference_from, program_marked, counted_line, counted_lines}
use Rattle.lines.specs.Masters.{depth_after, placed, bounds_from}
use Rattle.lines.specs.Theorems.Bools.{never, and_parts}
use Rattle.lines.specs.Theorems.KindRules.{element_mark}
use Rattle.lines.proofs.Theorems.CountedMarks.{counted_same, counted_free, counted_rule}
use Rattle.values.specs.Values.{Origin, master, program, Node, Value, Lookup, element_of, bytes_of}
use Rattle.values.specs.Standings.{Standing, untouched, locked, changed, deleted, clash, sort, is_clash, first_of, rest_of, says, brings, hands_back}
use Rattle.values.proofs.Theorems.Gathering.{drop_rest}
use Rattle.values.specs.Theorems.Copies.{standing_at}
use Rattle.values.proofs.Theorems.Edits.{by_mark, brings_from_line, hands_back_head}
use Rattle.runs.specs.Grounds.{Numbered, numbered_from, line_of, lines_in, lookup_in, whole, Ground, shown_line, view, brought, handed_back}
use Rattle.runs.specs.Theorems.ViewLines.{shown_line_depth}
use Rattle.calls.specs.Theorems.ViewEdits.{Alike, same_alike}
use Rattle.paper.specs.Data.{ori, mod', del, ori_e, del_e}
use Rattle.paper.specs.Lines.{updating_of, element_updating_of}
use Rattle.paper.specs.Theorems.Trees.{Trees, nil, txt, elm, flat, Numbering, Right}
use Rattle.paper.proofs.Theorems.Brushes.{size, length_flat, text_with, state_with, element_with, is_plain, Permit, FineText, FineElement, Fine}
use Rattle.paper.proofs.Theorems.Places.{drop_behind}
use Rattle.paper.proofs.Theorems.Lines.{Beside, unlocked_state, Inked, InkedAll, shown_kind}
use Rattle.paper.proofs.Theorems.Masters.{AllNumbering}

-- ## Standings that the paper can write, along a value

module _ (look : Lookup) (permit : Permit) where
  abbrev pub FineNode : Origin → Standing → Type 0
  FineNode o s = (element_of look o ≡ false → FineText permit o s) × (element_of look o ≡ true → FineElement permit o s)

  abbrev pub FineAlong : Value → List Standing → Type 0
  FineAlong [] ss = Unit {0}
  FineAlong (x ∷ v) ss = FineNode x.origin (first_of ss) × FineAlong v (rest_of ss)

  along_drop : (v u : Value) (ss : List Standing) → FineAlong (v ++ u) ss → FineAlong u (drop (length v) ss)
  along_drop [] u ss h = h
  along_drop (x ∷ v) u ss h = rw (drop_rest (length v) ss) (along_drop v u (rest_of ss) h.1)

  pub along_fine : (d : ℕ) (f : Trees) (u : Value) (ss : List Standing) → Right look f → FineAlong (flat d f ++ u) ss → Fine permit f ss
  along_fine d nil u ss F h = tt
  along_fine d (txt o r) u ss F h = (h.0.0 F.0, along_fine d r u (rest_of ss) F.2 h.1)
  along_fine d (elm o k r) u ss F h =
      let inner : FineAlong (flat (suc d) k ++ (flat d r ++ u)) (rest_of ss) = rw (← (append_assoc (flat (suc d) k) (flat d r) u)) h.1 in (
        h.0.1 F.0,
        along_fine (suc d) k (flat d r ++ u) (rest_of ss) F.2 inner,
        along_fine d r u (drop (size k) (rest_of ss)) F.3 (rw (← (length_flat (suc d) k)) (along_drop (flat (suc d) k) (flat d r ++ u) (rest_of ss) inner)),
      )

  text_node : (o : Origin) (s : Standing) → element_of look o ≡ false → FineText permit o s → FineNode o s
  text_node o s e p = (λ _. p, λ q. let z : ◌≡◌ {A = ℕ} 0 1 = cc in absurd (omega arith))

  element_node : (o : Origin) (s : Standing) → element_of look o ≡ true → FineElement permit o s → FineNode o s
  element_node o s e p = (λ q. let z : ◌≡◌ {A = ℕ} 0 1 = cc in absurd (omega arith), λ _. p)

  pub fine_along : (d : ℕ) (f : Trees) (u : Value) (ss : List Standing) → Right look f → Fine permit f ss → FineAlong u (drop (size f) ss) → FineAlong (flat d f ++ u) ss
  fine_along d nil u ss F h k = k
  fine_along d (txt o r) u ss F h k = (text_node o (first_of ss) F.0 h.0, fine_along d r u (rest_of ss) F.2 h.1 (rw (drop_rest (size r) ss) at k))
  fine_along d (elm o c r) u ss F h k = (
    element_node o (first_of ss) F.0 h.0,
    rw (append_assoc (flat (suc d) c) (flat d r) u)
        (fine_along (suc d) c (flat d r ++ u) (rest_of ss) F.2 h.1 (fine_along d r u (drop (size c) (rest_of ss)) F.3 h.2 (rw (drop_behind (size c) (size r) ss) at k))),
  )

  plain_no_clash : (s : Standing) → is_plain s ≡ true → is_clash s ≡ false
  unfolding is_clash sort
  plain_no_clash untouched h = refl
  plain_no_clash locked h = refl
  plain_no_clash (changed t) h = refl
  plain_no_clash deleted h = refl
  plain_no_clash clash h = sym h

  -- no clash in a master
  pub along_no_clash : (k : ℕ) (ls : List Line) (ss : List Standing) → FineAlong (whole (numbered_from k ls)) ss → (i : ℕ) → i < length ls → is_clash (standing_at ss i) ≡ false
  unfolding whole numbered_from standing_at
  along_no_clash k [] ss h i b = absurd (omega arith)
  along_no_clash k (l ∷ ls) ss h zero b = go (element_of look (master k)) refl
    where
      go : (t : Bool) → element_of look (master k) ≡ t → is_clash (first_of ss) ≡ false
      go true e = plain_no_clash (first_of ss) (h.0.1 e)
      go false e = (h.0.0 e).0
  along_no_clash k (l ∷ ls) ss h (suc i) b = along_no_clash (suc k) ls (rest_of ss) h.1 i (omega arith)

-- ## Permitted standings

abbrev pub Permitted : Permit → Origin → Standing → Type 0
Permitted permit (master n) s = permit.permits n s ≡ true
Permitted permit (program e b t) s = Unit {0}

abbrev pub AllPermitted : Permit → Value → List Standing → Type 0
AllPermitted permit [] ss = Unit {0}
AllPermitted permit (x ∷ v) ss = Permitted permit x.origin (first_of ss) × AllPermitted permit v (rest_of ss)

-- ## An edited line

program_unmarked : (w : Line) → program_marked w ≡ false → w.number ≡ program_number → w.mark ≡ untouched_mark
unfolding program_marked is_marked
program_unmarked w h n = go (eqb w.mark untouched_mark) refl (rw n at h)
  where
    go : (b : Bool) → eqb w.mark untouched_mark ≡ b → not b ≡ false → w.mark ≡ untouched_mark
    go true e q = eqb-true w.mark untouched_mark e
    go false e q = let z : ◌≡◌ {A = ℕ} 0 1 = cc in absurd (omega arith)

module _ (all : List Numbered) where
  -- what the mark of a line of node n says
  master_inked : (n d : ℕ) (w : Line) → eqb n program_number ≡ false → Alike w (shown_line all d (master n)) → kind_rule w.kind w.mark w.text ≡ true
      → Inked (lookup_in all) (λ u. u) (master n) w (says w.mark w.text)
  unfolding says bytes_of element_of shown_line
  master_inked n d w h e form =
      record {
        from = rw (e.number, h);
        as_text = λ _. text (eqb w.mark changed_mark) (eqb w.mark deleted_mark) plain;
        as_element = λ i. element (eqb w.mark changed_mark) (eqb w.mark deleted_mark) (element_mark w.kind w.mark w.text (ap is_element e.kind ∙ i) form) plain;
      }
    where
      t : List ℕ
      t = (line_of all n).text

      plain : eqb w.mark changed_mark ≡ false → w.text ≡ t
      plain m = e.text (eqb-false w.mark changed_mark m)

      said : Bool → Bool → Standing
      said a b = cond a (changed w.text) (cond b deleted untouched)

      text : (a b : Bool) → (a ≡ false → w.text ≡ t) → (w.text ≡ text_with t (said a b)) × (cond a mod' (cond b del ori) ≡ state_with (said a b))
      text true b k = (refl, refl)
      text false true k = (k refl, refl)
      text false false k = (k refl, refl)

      element : (a b : Bool) → a ≡ false → (a ≡ false → w.text ≡ t) → (w.text ≡ t) × (cond b del_e ori_e ≡ element_with (said a b))
      element true b q k = let z : ◌≡◌ {A = ℕ} 0 1 = cc in absurd (omega arith)
      element false true q k = (k refl, refl)
      element false false q k = (k refl, refl)

  program_inked : (e : ℕ) (b : Bool) (t : List ℕ) (d : ℕ) (w : Line) (s : Standing) → Alike w (shown_line all d (program e b t)) → program_marked w ≡ false
      → Inked (lookup_in all) (λ u. u) (program e b t) w s
  unfolding bytes_of element_of shown_line
  program_inked e b t d w s p q =
      let m = program_unmarked w q p.number in
      let same : w.text ≡ t = p.text (λ c. let z : ◌≡◌ {A = ℕ} 0 1 = cc in omega arith) in
      record { from = rw p.number; as_text = λ _. (same, rw m); as_element = λ _. (same, rw m) }

  -- with the mark that counts a line says what it brings
  edit_inked : (o : Origin) (d : ℕ) (w : Line) → let f = shown_line all d o in Numbering o → same_line w f ≡ true → program_marked w ≡ false
      → kind_rule w.kind w.mark w.text ≡ true → Inked (lookup_in all) (λ u. u) o (counted_line f w) (brings (bytes_of (lookup_in all) o) w.mark w.text)
  unfolding brings bytes_of shown_line
  edit_inked (master n) d w h s q form =
      let f = shown_line all d (master n) in
      master_inked n d (counted_line f w) h (same_alike (counted_line f w) f (counted_same f w s)) (counted_rule f w form)
  edit_inked (program x b t) d w h s q form =
      let f = shown_line all d (program x b t) in
      program_inked x b t d (counted_line f w) _ (same_alike (counted_line f w) f (counted_same f w s)) (counted_free f w q)

  -- and the paper can write it
  edit_fine : (permit : Permit) (o : Origin) (d : ℕ) (w : Line) → Alike w (shown_line all d o) → kind_rule w.kind w.mark w.text ≡ true
      → Permitted permit o (brings (bytes_of (lookup_in all) o) w.mark w.text) → FineNode (lookup_in all) permit o (brings (bytes_of (lookup_in all) o) w.mark w.text)
  unfolding element_of shown_line
  edit_fine permit (program x b t) d w e form p = (λ _. tt, λ _. tt)
  edit_fine permit (master n) d w e form p =
      let fresh = bytes_of (lookup_in all) (master n) in (
        λ _. ((brings_from_line fresh w.mark w.text).0, p),
        λ i. by_mark (λ _ s. is_plain s ≡ true) fresh w.mark w.text
            (λ m _. never (sym (element_mark w.kind w.mark w.text (ap is_element e.kind ∙ i) form) ∙ eq-eqb w.mark changed_mark m)) (λ _. refl) refl,
      )

-- ## The edited view

-- with the marks that count, every line stands beside its node and says what it brings
pub record Read (G : Ground) (v : Value) (ws : List Line) : Type 0 where
  pub beside : Beside (lookup_in G.lines) v (counted_lines (view G v) ws)
  pub inked : InkedAll (lookup_in G.lines) (λ u. u) v (counted_lines (view G v) ws) (brought (lookup_in G.lines) v ws)
  pub fine : (permit : Permit) → AllPermitted permit v (brought (lookup_in G.lines) v ws) → FineAlong (lookup_in G.lines) permit v (brought (lookup_in G.lines) v ws)

module _ (G : Ground) where
  read_line : (x : Node) (v : Value) (w : Line) (ws : List Line) → Numbering x.origin → same_line w (shown_line G.lines x.depth x.origin) ≡ true → program_marked w ≡ false
      → kind_rule w.kind w.mark w.text ≡ true → Read G v ws → Read G (x ∷ v) (w ∷ ws)
  unfolding view counted_lines brought
  read_line x v w ws n s q form r =
      let e = same_alike w (shown_line G.lines x.depth x.origin) s in
      record {
        beside = (e.depth ∙ shown_line_depth G.lines x.depth x.origin, ap is_element e.kind ∙ shown_kind G.lines x.depth x.origin, r.beside);
        inked = (edit_inked G.lines x.origin x.depth w n s q form, r.inked);
        fine = λ permit p. (edit_fine G.lines permit x.origin x.depth w e form p.0, r.fine permit p.1);
      }

  pub edited_read : (k j : ℕ) (v : Value) (ws : List Line) → AllNumbering v → difference_from k ws (view G v) ≡ None → first_from program_marked j ws ≡ None
      → ((i : ℕ) → kind_rule (line_at ws i).kind (line_at ws i).mark (line_at ws i).text ≡ true) → Read G v ws
  unfolding difference_from first_from view counted_lines brought
  edited_read k j [] [] n d p form = record { beside = tt; inked = tt; fine = λ permit q. tt }
  edited_read k j [] (w ∷ ws) n d p form = let z : ◌≡◌ {A = ℕ} 0 1 = cc in absurd (omega arith)
  edited_read k j (x ∷ v) [] n d p form = let z : ◌≡◌ {A = ℕ} 0 1 = cc in absurd (omega arith)
  edited_read k j (x ∷ v) (w ∷ ws) n d p form =
      go (same_line w (shown_line G.lines x.depth x.origin)) (program_marked w) refl refl d p
      (λ d' p'. edited_read (suc k) (suc j) v ws n.1 d' p' (λ i. form (suc i)))
    where
      go : (a b : Bool) → same_line w (shown_line G.lines x.depth x.origin) ≡ a → program_marked w ≡ b
          → cond a (difference_from (suc k) ws (view G v)) (Some k) ≡ None → cond b (Some j) (first_from program_marked (suc j) ws) ≡ None
          → (difference_from (suc k) ws (view G v) ≡ None → first_from program_marked (suc j) ws ≡ None → Read G v ws) → Read G (x ∷ v) (w ∷ ws)
      go true false s q d p ih = read_line x v w ws n.0 s q (form 0) (ih d p)
      go true true s q d p ih = let z : ◌≡◌ {A = ℕ} 0 1 = cc in absurd (omega arith)
      go false b s q d p ih = let z : ◌≡◌ {A = ℕ} 0 1 = cc in absurd (omega arith)

-- ## The lines handed back

handed_inked : (look : Lookup) (permit : Permit) (n : ℕ) (l : Line) (s : Standing) → look.bytes n ≡ l.text → l.mark ≡ untouched_mark → l.number ≡ n → eqb n program_number ≡ false
    → FineNode look permit (master n) s → Inked look unlocked_state (master n) (hands_back l s) s
unfolding hands_back bytes_of
handed_inked look permit n l s t m k h f =
    record { from = rw ((hands_back_head l s).2, k, h); as_text = λ _. text s; as_element = λ e. element s (f.1 e) }
  where
    text : (s : Standing) → ((hands_back l s).text ≡ text_with (look.bytes n) s) × (updating_of (hands_back l s).mark ≡ unlocked_state (state_with s))
    text untouched = (sym t, rw m)
    text locked = (sym t, rw m)
    text (changed u) = (refl, refl)
    text deleted = (sym t, refl)
    text clash = (sym t, rw m)

    element : (s : Standing) → is_plain s ≡ true → ((hands_back l s).text ≡ look.bytes n) × (element_updating_of (hands_back l s).mark ≡ element_with s)
    element untouched q = (sym t, rw m)
    element locked q = (sym t, rw m)
    element (changed u) q = let z : ◌≡◌ {A = ℕ} 0 1 = cc in absurd (omega arith)
    element deleted q = (sym t, refl)
    element clash q = (sym t, rw m)

-- from number k on; `s` gives each number the standing at its place
pub handed_read : (all : List Numbered) (permit : Permit) (s : ℕ → Standing) (most k : ℕ) (ls : List Line) (rs : List Standing) → bounds_from most k ls ≡ None
    → AllNumbering (whole (numbered_from k ls)) → ((i : ℕ) → i < length ls → line_of all (k + i) ≡ get_or ls i no_line) → ((i : ℕ) → (get_or ls i no_line).mark ≡ untouched_mark)
    → ((i : ℕ) → i < length ls → s (k + i) ≡ standing_at rs i) → FineAlong (lookup_in all) permit (whole (numbered_from k ls)) rs
    → Beside (lookup_in all) (whole (numbered_from k ls)) (lines_in (handed_back s (numbered_from k ls)))
    × InkedAll (lookup_in all) unlocked_state (whole (numbered_from k ls)) (lines_in (handed_back s (numbered_from k ls))) rs
unfolding bounds_from placed whole numbered_from lines_in handed_back standing_at element_of
handed_read all permit s most k [] rs h n f m g F = (tt, tt)
handed_read all permit s most k (l ∷ ls) rs h n f m g F =
    go (placed most k l) refl h (λ q.
    handed_read all permit s (depth_after l) (suc k) ls (rest_of rs) q n.1
    (λ i b. ap (line_of all) (let e : suc k + i ≡ k + suc i = omega arith in e) ∙ f (suc i) (omega arith)) (λ i. m (suc i))
    (λ i b. ap s (let e : suc k + i ≡ k + suc i = omega arith in e) ∙ g (suc i) (omega arith)) F.1)
  where
    here : k ≡ k + 0
    here = omega arith

    own : line_of all k ≡ l
    own = ap (line_of all) here ∙ f 0 (omega arith)

    stands : s k ≡ first_of rs
    stands = ap s here ∙ g 0 (omega arith)

    go : (b : Bool) → placed most k l ≡ b → cond b (bounds_from (depth_after l) (suc k) ls) (Some k) ≡ None
        → (bounds_from (depth_after l) (suc k) ls ≡ None
        → Beside (lookup_in all) (whole (numbered_from (suc k) ls)) (lines_in (handed_back s (numbered_from (suc k) ls)))
        × InkedAll (lookup_in all) unlocked_state (whole (numbered_from (suc k) ls)) (lines_in (handed_back s (numbered_from (suc k) ls))) (rest_of rs))
        → Beside (lookup_in all) (whole (numbered_from k (l ∷ ls))) (lines_in (handed_back s (numbered_from k (l ∷ ls))))
        × InkedAll (lookup_in all) unlocked_state (whole (numbered_from k (l ∷ ls))) (lines_in (handed_back s (numbered_from k (l ∷ ls)))) rs
    go true e q ih =
        let p = and_parts (leb l.depth most) (leb l.depth 7 && eqb l.number k) e in
        let num = eqb-true l.number k (and_parts (leb l.depth 7) (eqb l.number k) p.1).1 in
        let r = ih q in
        let hd = hands_back_head l (s k) in (
          (hd.0, ap is_element hd.1 ∙ ap (λ (z : Line). is_element z.kind) (sym own), r.0),
          (
            subst⁻¹ (λ (z : Standing). Inked (lookup_in all) unlocked_state (master k) (hands_back l z) (first_of rs)) stands
                (handed_inked (lookup_in all) permit k l (first_of rs) (ap (λ (z : Line). z.text) own) (m 0) num n.0 F.0),
            r.1,
          ),
        )
    go false e q ih = let z : ◌≡◌ {A = ℕ} 0 1 = cc in absurd (omega arith)
