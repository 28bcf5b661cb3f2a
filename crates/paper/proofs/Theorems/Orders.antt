-- The lines of a judged master, of what is shown of it, of a view put back and of what is handed back are in order.
use Rattle.std.proofs.Math.Path.{◌≡◌, refl}
use Rattle.std.proofs.Common.{sym, ap, subst, ◌∙◌}
use Rattle.std.specs.Prelude.{Bool, ℕ, suc, ◌+◌, ◌≤◌, length, None, Some}
use Rattle.std.proofs.Math.Bool.{true, false, cond}
use mathlib.Core.List.{List, [], ◌∷◌}
use native.Mathlib.Omega.{arith}
use Rattle.lines.specs.Nodes.{Line, is_element, kind_rule, line_at}
use Rattle.lines.specs.Masters.{depth_after, master_bounds}
use Rattle.lines.specs.Views.{same_line, difference_from}
use Rattle.lines.specs.Theorems.KindRules.{rule_mark, element_mark}
use Rattle.values.specs.Values.{Origin, master, program, Node, Value, element_of, most_nodes}
use Rattle.values.specs.Standings.{Standing, hands_back}
use Rattle.values.proofs.Theorems.Edits.{hands_back_head}
use Rattle.values.specs.Theorems.Forests.{Walk, Forest}
use Rattle.runs.specs.Grounds.{numbered_from, lookup_in, whole, one_master, shown_line, view, lines_in, handed_back}
use Rattle.runs.proofs.Theorems.Bounds.{master_good}
use Rattle.runs.specs.Theorems.ViewLines.{shown_line_depth}
use Rattle.calls.specs.Theorems.ShownNumbers.{line_is}
use Rattle.calls.specs.Theorems.ViewEdits.{same_alike}
use Rattle.paper.specs.Lines.{from_of, text_kind, kinds_in}
use Rattle.paper.specs.Theorems.Trees.{Numbering}
use Rattle.paper.proofs.Theorems.Lines.{shown_kind}
use Rattle.paper.proofs.Theorems.Masters.{AllNumbering, whole_numbering, view_whole}
use Rattle.paper.proofs.Theorems.Printing.{Sayable, InOrder}
use Rattle.paper.specs.Agreement.{Formed}

-- a formed line with another's kind and number
sayable_like : (kinds : ℕ → ℕ) (w l : Line) → w.kind ≡ l.kind → w.number ≡ l.number → kind_rule w.kind w.mark w.text ≡ true → Sayable kinds l → Sayable kinds w
sayable_like kinds w l k n form s =
    record {
      mark = rule_mark w.kind w.mark w.text form;
      element = λ e. element_mark w.kind w.mark w.text e form;
      text = λ e. ap (λ (m : ℕ). text_kind kinds (from_of m)) n ∙ s.text (ap is_element (sym k) ∙ e) ∙ sym k;
    }

after_like : (w l : Line) → w.depth ≡ l.depth → w.kind ≡ l.kind → depth_after w ≡ depth_after l
unfolding depth_after
after_like w l d k = rw (d, k)

-- ## A master and what is shown of it

module _ (ls : List Line) (formed : Formed ls) where
  shown_sayable : (d : ℕ) (o : Origin) → Numbering o → Sayable (kinds_in ls) (shown_line (numbered_from 0 ls) d o)
  unfolding shown_line is_element
  shown_sayable d (master n) h =
      rw (line_is ls n)
      (let l = line_at ls n in
      record {
        mark = rule_mark l.kind l.mark l.text (formed n);
        element = λ e. element_mark l.kind l.mark l.text e (formed n);
        text = λ e. rw (h, e);
      })
  shown_sayable d (program e b t) h = record { mark = omega arith; element = λ _. refl; text = λ q. made b q }
    where
      made : (b : Bool) → is_element (cond b 2 1) ≡ false → ◌≡◌ {A = ℕ} 1 (cond b 2 1)
      made true q = let z : ◌≡◌ {A = ℕ} 0 1 = cc in absurd (omega arith)
      made false q = refl

  shown_after : (d : ℕ) (o : Origin) → depth_after (shown_line (numbered_from 0 ls) d o) ≡ cond (element_of (lookup_in (numbered_from 0 ls)) o) (suc d) d
  unfolding depth_after
  shown_after d o = rw (shown_kind (numbered_from 0 ls) d o, shown_line_depth (numbered_from 0 ls) d o) (go (element_of (lookup_in (numbered_from 0 ls)) o))
    where
      go : (b : Bool) → cond b (d + 1) d ≡ cond b (suc d) d
      go true = omega arith
      go false = refl

  walk_ordered : (x : Node) (v : Value) → Walk (lookup_in (numbered_from 0 ls)) x v → AllNumbering v
      → InOrder (kinds_in ls) (depth_after (shown_line (numbered_from 0 ls) x.depth x.origin)) (view (one_master ls) v)
  unfolding view
  walk_ordered x [] w n = tt
  walk_ordered x (y ∷ v) w n = (
    rw (shown_line_depth (numbered_from 0 ls) y.depth y.origin, shown_after x.depth x.origin) w.0,
    shown_sayable y.depth y.origin n.0,
    walk_ordered y v w.1 n.1,
  )

  pub forest_ordered : (v : Value) → Forest (lookup_in (numbered_from 0 ls)) v → AllNumbering v → InOrder (kinds_in ls) 0 (view (one_master ls) v)
  unfolding view
  forest_ordered [] f n = tt
  forest_ordered (x ∷ v) f n =
      let z = f.0 in
      (rw (shown_line_depth (numbered_from 0 ls) x.depth x.origin) (omega arith), shown_sayable x.depth x.origin n.0, walk_ordered x v f.1 n.1)

  -- a master is shown as it is
  pub master_ordered : length ls ≤ most_nodes → master_bounds ls ≡ None → InOrder (kinds_in ls) 0 ls
  master_ordered few h =
      subst (InOrder (kinds_in ls) 0) (view_whole ls h)
      (forest_ordered (whole (numbered_from 0 ls)) (master_good ls few h).trees (whole_numbering 0 ls (omega arith)))

-- ## A view put back, and what is handed back

module _ (kinds : ℕ → ℕ) where
  -- a formed view that does not differ from lines in order
  pub same_ordered : (k most : ℕ) (ws fs : List Line) → difference_from k ws fs ≡ None → Formed ws → InOrder kinds most fs → InOrder kinds most ws
  unfolding difference_from
  same_ordered k most [] fs h form o = tt
  same_ordered k most (w ∷ ws) [] h form o = let z : ◌≡◌ {A = ℕ} 0 1 = cc in absurd (omega arith)
  same_ordered k most (w ∷ ws) (f ∷ fs) h form o = go (same_line w f) refl h (λ q. same_ordered (suc k) (depth_after f) ws fs q (λ i. form (suc i)) o.2)
    where
      go : (b : Bool) → same_line w f ≡ b → cond b (difference_from (suc k) ws fs) (Some k) ≡ None
          → (difference_from (suc k) ws fs ≡ None → InOrder kinds (depth_after f) ws) → InOrder kinds most (w ∷ ws)
      go true s q ih =
          let e = same_alike w f s in
          (rw e.depth o.0, sayable_like kinds w f e.kind e.number (form 0) o.1, rw (after_like w f e.depth e.kind) (ih q))
      go false s q ih = let z : ◌≡◌ {A = ℕ} 0 1 = cc in absurd (omega arith)

  -- lines in order, as they are handed back, if those are formed
  pub handed_ordered : (s : ℕ → Standing) (k most : ℕ) (ls : List Line) → Formed (lines_in (handed_back s (numbered_from k ls))) → InOrder kinds most ls
      → InOrder kinds most (lines_in (handed_back s (numbered_from k ls)))
  unfolding lines_in handed_back numbered_from
  handed_ordered s k most [] form o = tt
  handed_ordered s k most (l ∷ ls) form o =
      let e = hands_back_head l (s k) in (
        rw e.0 o.0,
        sayable_like kinds (hands_back l (s k)) l e.1 e.2 (form 0) o.1,
        rw (after_like (hands_back l (s k)) l e.0 e.1) (handed_ordered s (suc k) (depth_after l) ls (λ i. form (suc i)) o.2),
      )
