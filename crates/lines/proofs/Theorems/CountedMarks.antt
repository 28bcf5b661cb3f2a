-- The mark that counts, and the view with these marks: what passed 8 to 10 passes again.
use Rattle.std.specs.Prelude.{◌≡◌, refl, Bool, true, false, cond, ◌&&◌, ◌||◌, List, [], ◌∷◌, ℕ, zero, suc, ◌<◌, eqb, length, None, Some}
use Rattle.std.proofs.Common.{sym, ap, ◌∙◌, not-suc-le-zero, arith, eqb-true, eq-eqb}
use Rattle.std.proofs.Math.Bool.{not, and-false}
use Rattle.lines.specs.Nodes.{Line, untouched_mark, changed_mark, program_number, is_marked, kind_rule, line_at}
use Rattle.lines.specs.Texts.{same_text}
use Rattle.lines.specs.Verdicts.{first_from}
use Rattle.lines.specs.Views.{same_head, same_line, difference_from, program_marked, mark_counted, counted_line, counted_lines}
use Rattle.lines.specs.Theorems.Bools.{never, and_left, and_right, and_both}
use Rattle.lines.specs.Theorems.KindRules.{rule_without_mark}
use Rattle.lines.specs.Theorems.LineRules.{Fields, rule_made, rule_kind, rule_short, writable_fields, fields_writable}
use Rattle.lines.specs.Engine.Writes.{AllWritable}

-- ## One line

-- a line is saved, and counts as untouched, or its mark counts as written
pub by_counted : (P : ℕ → Type 0) (fresh : List ℕ) (mark : ℕ) (bytes : List ℕ)
    → (mark ≡ changed_mark → same_text bytes fresh ≡ true → P untouched_mark) → ((mark ≡ changed_mark → same_text bytes fresh ≡ false) → P mark)
    → P (mark_counted fresh mark bytes)
unfolding mark_counted
by_counted P fresh mark bytes saved written = go (eqb mark changed_mark) (same_text bytes fresh) refl refl
  where
    go : (a b : Bool) → eqb mark changed_mark ≡ a → same_text bytes fresh ≡ b → P (cond (a && b) untouched_mark mark)
    go true true p q = saved (eqb-true mark changed_mark p) q
    go true false p q = written (λ _. q)
    go false b p q = written (λ m. never (sym p ∙ eq-eqb mark changed_mark m))

module _ (fresh : List ℕ) (mark : ℕ) (bytes : List ℕ) where
  pub counted_saved : mark ≡ changed_mark → same_text bytes fresh ≡ true → mark_counted fresh mark bytes ≡ untouched_mark
  counted_saved p q = by_counted (λ m. m ≡ untouched_mark) fresh mark bytes (λ _ _. refl) (λ w. never (sym (w p) ∙ q))

  pub counted_written : (mark ≡ changed_mark → same_text bytes fresh ≡ false) → mark_counted fresh mark bytes ≡ mark
  counted_written w = by_counted (λ m. m ≡ mark) fresh mark bytes (λ p q. never (sym (w p) ∙ q)) (λ _. refl)

-- the mark that counts counts as itself
pub counted_again : (fresh : List ℕ) (mark : ℕ) (bytes : List ℕ) → mark_counted fresh (mark_counted fresh mark bytes) bytes ≡ mark_counted fresh mark bytes
counted_again fresh mark bytes =
    by_counted (λ m. mark_counted fresh m bytes ≡ m) fresh mark bytes (λ _ _. counted_written fresh untouched_mark bytes (λ z. cc)) (counted_written fresh mark bytes)

module _ (f v : Line) where
  pub counted_same : same_line v f ≡ true → same_line (counted_line f v) f ≡ true
  unfolding same_line same_head
  counted_same h =
      and_both (same_head v f) (eqb (mark_counted f.text v.mark v.text) changed_mark || same_text v.text f.text) (and_left (same_head v f) _ h)
      (by_counted (λ m. (eqb m changed_mark || same_text v.text f.text) ≡ true) f.text v.mark v.text (λ _ s. s) (λ _. and_right (same_head v f) _ h))

  pub counted_free : program_marked v ≡ false → program_marked (counted_line f v) ≡ false
  unfolding program_marked is_marked
  counted_free h =
      by_counted (λ m. (eqb v.number program_number && not (eqb m untouched_mark)) ≡ false) f.text v.mark v.text
      (λ _ _. and-false (eqb v.number program_number)) (λ _. h)

  pub counted_rule : kind_rule v.kind v.mark v.text ≡ true → kind_rule v.kind (mark_counted f.text v.mark v.text) v.text ≡ true
  counted_rule h =
      by_counted (λ m. kind_rule v.kind m v.text ≡ true) f.text v.mark v.text (λ _ _. rule_without_mark v.kind v.mark v.text h) (λ _. h)

  counted_fields : Fields v → Fields (counted_line f v)
  counted_fields g =
      record {
        depth = g.depth;
        number = g.number;
        rule = rule_made v.kind _ v.text (counted_rule (rule_kind v.kind v.mark v.text g.rule)) (rule_short v.kind v.mark v.text g.rule);
      }

-- ## All lines

pub counted_length : (fs vs : List Line) → length (counted_lines fs vs) ≡ length vs
unfolding counted_lines
counted_length [] vs = refl
counted_length (f ∷ fs) [] = refl
counted_length (f ∷ fs) (v ∷ vs) = ap suc (counted_length fs vs)

pub counted_at : (fs vs : List Line) (i : ℕ) → i < length fs → i < length vs → line_at (counted_lines fs vs) i ≡ counted_line (line_at fs i) (line_at vs i)
unfolding counted_lines
counted_at [] vs i h k = absurd (not-suc-le-zero h)
counted_at (f ∷ fs) [] i h k = absurd (not-suc-le-zero k)
counted_at (f ∷ fs) (v ∷ vs) zero h k = refl
counted_at (f ∷ fs) (v ∷ vs) (suc i) h k = counted_at fs vs i (omega arith) (omega arith)

-- the texts are as they were
pub counted_text : (fs vs : List Line) (i : ℕ) → (line_at (counted_lines fs vs) i).text ≡ (line_at vs i).text
unfolding counted_lines
counted_text [] vs i = refl
counted_text (f ∷ fs) [] i = refl
counted_text (f ∷ fs) (v ∷ vs) zero = refl
counted_text (f ∷ fs) (v ∷ vs) (suc i) = counted_text fs vs i

-- 8
pub counted_writable : (fs vs : List Line) → AllWritable vs → AllWritable (counted_lines fs vs)
unfolding counted_lines
counted_writable [] vs g = g
counted_writable (f ∷ fs) [] g = g
counted_writable (f ∷ fs) (v ∷ vs) g = (fields_writable (counted_line f v) (counted_fields f v (writable_fields v g.0)), counted_writable fs vs g.1)

-- 9
pub counted_fresh : (k : ℕ) (fs vs : List Line) → difference_from k vs fs ≡ None → difference_from k (counted_lines fs vs) fs ≡ None
unfolding counted_lines difference_from
counted_fresh k [] vs h = h
counted_fresh k (f ∷ fs) [] h = h
counted_fresh k (f ∷ fs) (v ∷ vs) h = go (same_line v f) refl h (counted_fresh (suc k) fs vs)
  where
    go : (b : Bool) → same_line v f ≡ b → cond b (difference_from (suc k) vs fs) (Some k) ≡ None
        → (difference_from (suc k) vs fs ≡ None → difference_from (suc k) (counted_lines fs vs) fs ≡ None)
        → cond (same_line (counted_line f v) f) (difference_from (suc k) (counted_lines fs vs) fs) (Some k) ≡ None
    go true s q ih = rw (counted_same f v s) (ih q)
    go false s q ih = cc

-- 10
pub counted_unmarked : (k : ℕ) (fs vs : List Line) → first_from program_marked k vs ≡ None → first_from program_marked k (counted_lines fs vs) ≡ None
unfolding counted_lines first_from
counted_unmarked k [] vs h = h
counted_unmarked k (f ∷ fs) [] h = h
counted_unmarked k (f ∷ fs) (v ∷ vs) h = go (program_marked v) refl h (counted_unmarked (suc k) fs vs)
  where
    go : (b : Bool) → program_marked v ≡ b → cond b (Some k) (first_from program_marked (suc k) vs) ≡ None
        → (first_from program_marked (suc k) vs ≡ None → first_from program_marked (suc k) (counted_lines fs vs) ≡ None)
        → cond (program_marked (counted_line f v)) (Some k) (first_from program_marked (suc k) (counted_lines fs vs)) ≡ None
    go true s q ih = cc
    go false s q ih = rw (counted_free f v s) (ih q)
