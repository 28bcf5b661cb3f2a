-- An edited line: as request #101 has it, and by what it brings as the rules have it.
use Rattle.std.specs.Prelude.{ℕ, ◌≡◌, refl, Bool, false, ◌||◌, List, ◌⊎◌}
use Rattle.std.proofs.Common.{sym, ap₂, ◌∙◌, inl, inr, arith, eqb-true}
use Rattle.std.proofs.Math.Path.{ap}
use Rattle.std.proofs.Math.Bool.{true}
use Rattle.std.proofs.Math.Dec.{eqb}
use Rattle.lines.specs.Nodes.{Line, untouched_mark, changed_mark, deleted_mark}
use Rattle.lines.specs.Views.{mark_counted}
use Rattle.lines.specs.Theorems.Bools.{never}
use Rattle.lines.proofs.Theorems.CountedMarks.{counted_written}
use Rattle.lines.specs.Theorems.SameTexts.{unlike_texts, told_unlike}
use Rattle.values.specs.Standings.{changed, deleted, sort, says, brings, is_edit, hands_back}
use Rattle.values.proofs.Theorems.Edits.{by_mark}
use Rattle.calls.specs.Demands.{IsEdited, SameEdit, with_edit}

-- ## Its mark counts as written

module _ (f v : Line) where
  edit_counts : IsEdited f v → mark_counted f.text v.mark v.text ≡ v.mark
  edit_counts (inl d) = counted_written f.text v.mark v.text (λ c. absurd (omega arith))
  edit_counts (inr e) = counted_written f.text v.mark v.text (λ _. unlike_texts v.text f.text e.1)

  pub edited_edit : IsEdited f v → is_edit f.text v.mark v.text ≡ true
  unfolding is_edit
  edited_edit e = ap (λ (m : ℕ). eqb m changed_mark || eqb m deleted_mark) (edit_counts e) ∙ marked e
    where
      marked : IsEdited f v → (eqb v.mark changed_mark || eqb v.mark deleted_mark) ≡ true
      marked (inl d) = rw d
      marked (inr c) = rw c.0

  pub edit_edited : is_edit f.text v.mark v.text ≡ true → IsEdited f v
  edit_edited =
      by_mark (λ b s. b ≡ true → IsEdited f v) f.text v.mark v.text (λ m t _. inr (m, told_unlike v.text f.text t)) (λ m _. inl m) (λ e. never e)

  -- it brings what its mark says
  pub edit_says : IsEdited f v → brings f.text v.mark v.text ≡ says v.mark v.text
  unfolding brings
  edit_says e = ap (λ (m : ℕ). says m v.text) (edit_counts e)

-- ## The same edit

unlike : (t : List ℕ) → changed t ≡ deleted → ⊥
unfolding sort
unlike t e = let z : ◌≡◌ {A = ℕ} 4 2 = ap sort e in omega arith

-- deleted or changed
abbrev pub Edits : ℕ → Type 0
Edits mark = (mark ≡ deleted_mark) ⊎ (mark ≡ changed_mark)

pub edits_marked : {mark : ℕ} → Edits mark → mark ≡ untouched_mark → ⊥
edits_marked (inl d) u = omega arith
edits_marked (inr c) u = omega arith

pub edited_marks : (f v : Line) → IsEdited f v → Edits v.mark
edited_marks f v (inl d) = inl d
edited_marks f v (inr c) = inr c.0

pub says_same : (v w : Line) → Edits v.mark → Edits w.mark
    → says v.mark v.text ≡ says w.mark w.text → SameEdit v w
unfolding says
says_same v w (inl p) (inl q) e = record { mark = p ∙ sym q; text = λ m. absurd (omega arith) }
says_same v w (inl p) (inr q) e =
    let t : deleted ≡ changed w.text = (rw (p, q) at e) in absurd (unlike w.text (sym t))
says_same v w (inr p) (inl q) e =
    let t : changed v.text ≡ deleted = (rw (p, q) at e) in absurd (unlike v.text t)
says_same v w (inr p) (inr q) e =
    let t : changed v.text ≡ changed w.text = (rw (p, q) at e) in record { mark = p ∙ sym q; text = λ _. cc }

pub same_says : (v w : Line) → SameEdit v w → says v.mark v.text ≡ says w.mark w.text
unfolding says
same_says v w s = go (eqb v.mark changed_mark) refl
  where
    go : (b : Bool) → eqb v.mark changed_mark ≡ b → says v.mark v.text ≡ says w.mark w.text
    go true e = ap₂ (λ (m : ℕ) (t : List ℕ). says m t) s.mark (s.text (eqb-true v.mark changed_mark e))
    go false e = rw (← s.mark, e)

-- what it leaves of a line
pub edit_leaves : (l v : Line) → Edits v.mark → hands_back l (says v.mark v.text) ≡ with_edit l v
unfolding says hands_back
edit_leaves l v (inl e) = rw e
edit_leaves l v (inr e) = rw e
