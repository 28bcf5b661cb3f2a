-- A view beside the fresh one, in which reply 9 finds no difference: each line of a node has the
-- node's kind and, unless it is marked 01, its bytes; and mark 01 stands on no element.
use Rattle.std.specs.Prelude.{◌≡◌, refl, Bool, true, false, cond, ◌&&◌, ◌||◌, List, [], ◌∷◌, ℕ, zero, suc, eqb, None, Some}
use Rattle.std.proofs.Common.{ap, ◌∙◌, eqb-true}
use Rattle.lines.specs.Nodes.{Line, changed_mark, is_element, kind_rule, line_at}
use Rattle.lines.specs.Texts.{same_text}
use Rattle.lines.specs.Views.{same_head, same_line, difference_from, first_difference}
use Rattle.lines.specs.Theorems.Bools.{and_parts, or_other}
use Rattle.lines.specs.Theorems.SameTexts.{same_text_sound}
use Rattle.lines.specs.Theorems.KindRules.{element_mark}
use Rattle.values.specs.Theorems.Copies.{is_copy}
use Rattle.runs.specs.Showing.{Shown}
use Rattle.runs.specs.Grounds.{line_of, Ground, view}
use Rattle.runs.specs.Theorems.ViewLines.{view_shows}
use Rattle.runs.proofs.Theorems.Demand3.{FormedLike, TextMarks}

-- no difference: the same line at each place
same_at : (k : ℕ) (ls fs : List Line) → difference_from k ls fs ≡ None → (i : ℕ) → same_line (line_at ls i) (line_at fs i) ≡ true
unfolding difference_from same_line same_head same_text
same_at k [] [] h i = refl
same_at k [] (f ∷ fs) h i = cc
same_at k (l ∷ ls) [] h i = cc
same_at k (l ∷ ls) (f ∷ fs) h zero = go (same_line l f) h
  where
    go : (b : Bool) → cond b (difference_from (suc k) ls fs) (Some k) ≡ None → b ≡ true
    go true q = refl
    go false q = cc
same_at k (l ∷ ls) (f ∷ fs) h (suc i) = same_at (suc k) ls fs (go (same_line l f) h) i
  where
    go : (b : Bool) → cond b (difference_from (suc k) ls fs) (Some k) ≡ None → difference_from (suc k) ls fs ≡ None
    go true q = q
    go false q = cc

pub same_formed : (rule : ℕ → ℕ → List ℕ → Bool) (G : Ground) (o : Shown) (ls : List Line) → first_difference ls (view G o.value) ≡ None
    → ((i : ℕ) → rule (line_at ls i).kind (line_at ls i).mark (line_at ls i).text ≡ true)
    → (n i : ℕ) → is_copy n o.value i ≡ true → FormedLike rule (line_at ls i) (line_of G.lines n)
unfolding first_difference same_line same_head
same_formed rule G o ls h forms n i c =
    let w = line_at ls i in
    let f = line_at (view G o.value) i in
    let v = view_shows G o.value n i c in
    let s = and_parts (same_head w f) (eqb w.mark changed_mark || same_text w.text f.text) (same_at 0 ls (view G o.value) h i) in
    let t = and_parts (eqb w.depth f.depth) (eqb w.kind f.kind && eqb w.number f.number) s.0 in
    let k = and_parts (eqb w.kind f.kind) (eqb w.number f.number) t.1 in
    record {
      formed = forms i;
      kind = eqb-true w.kind f.kind k.0 ∙ v.kind;
      text = λ m. same_text_sound w.text f.text (or_other (eqb w.mark changed_mark) (same_text w.text f.text) m s.1) ∙ v.text;
    }

pub same_text_marks : (G : Ground) (o : Shown) (ls : List Line) → ((n i : ℕ) → is_copy n o.value i ≡ true → FormedLike kind_rule (line_at ls i) (line_of G.lines n))
    → TextMarks G o ls
same_text_marks G o ls f n i e c =
    let w = f n i c in
    element_mark (line_at ls i).kind (line_at ls i).mark (line_at ls i).text (ap is_element w.kind ∙ e) w.formed
