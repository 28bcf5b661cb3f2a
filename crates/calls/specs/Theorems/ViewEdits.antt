-- A view differs from the fresh one only by edits exactly if it passes 9 and 10.
use Rattle.std.specs.Prelude.{ℕ, zero, suc, ◌≡◌, Bool, true, false, cond, ◌&&◌, ◌||◌, List, [], ◌∷◌, eqb, length, get_or, None, Some}
use Rattle.std.proofs.Math.Path.{refl, sym}
use Rattle.std.proofs.Common.{ap, ◌∙◌, arith, eqb-true, eq-eqb, ne_eqb}
use Rattle.std.proofs.lemmas.Bool.{eqb-false, not-false}
use Rattle.lines.specs.Nodes.{Line, untouched_mark, changed_mark, program_number, is_marked, line_at}
use Rattle.lines.specs.Texts.{same_text}
use Rattle.lines.specs.Verdicts.{first_from}
use Rattle.lines.specs.Views.{same_head, same_line, difference_from, first_difference, program_marked, program_mark}
use Rattle.lines.specs.Theorems.Bools.{and_parts, or_other}
use Rattle.lines.specs.Theorems.SameTexts.{same_text_sound, same_text_refl}
use Rattle.calls.specs.Demands.{FromProgram, OnlyEdits}

-- ## No fault from a line on: none at any place, what stands for a missing one counted

none_faulty : {A : Type 0} (fault : A → Bool) (k : ℕ) (xs : List A) (d : A) → fault d ≡ false → first_from fault k xs ≡ None → (i : ℕ) → fault (get_or xs i d) ≡ false
unfolding first_from
none_faulty fault k [] d e h i = e
none_faulty {A = A} fault k (x ∷ xs) d e h i = go (fault x) refl h (λ q. none_faulty fault (suc k) xs d e q) i
  where
    go : (b : Bool) → fault x ≡ b → cond b (Some k) (first_from fault (suc k) xs) ≡ None
        → (first_from fault (suc k) xs ≡ None → (i : ℕ) → fault (get_or xs i d) ≡ false) → (i : ℕ) → fault (get_or (x ∷ xs) i d) ≡ false
    go true f q ih i = let z : ◌≡◌ {A = ℕ} 0 1 = cc in absurd (omega arith)
    go false f q ih zero = f
    go false f q ih (suc i) = ih q i

faulty_none : {A : Type 0} (fault : A → Bool) (k : ℕ) (xs : List A) (d : A) → ((i : ℕ) → fault (get_or xs i d) ≡ false) → first_from fault k xs ≡ None
unfolding first_from
faulty_none fault k [] d f = refl
faulty_none fault k (x ∷ xs) d f = rw (f 0) (faulty_none fault (suc k) xs d (λ i. f (suc i)))

-- ## 9

same_from : (k : ℕ) (es fs : List Line) → difference_from k es fs ≡ None → (length es ≡ length fs) × ((i : ℕ) → same_line (line_at es i) (line_at fs i) ≡ true)
unfolding difference_from same_line same_head same_text
same_from k [] [] h = (refl, λ i. refl)
same_from k [] (f ∷ fs) h = let z : ◌≡◌ {A = ℕ} 0 1 = cc in absurd (omega arith)
same_from k (e ∷ es) [] h = let z : ◌≡◌ {A = ℕ} 0 1 = cc in absurd (omega arith)
same_from k (e ∷ es) (f ∷ fs) h = go (same_line e f) refl h (λ q. same_from (suc k) es fs q)
  where
    go : (b : Bool) → same_line e f ≡ b → cond b (difference_from (suc k) es fs) (Some k) ≡ None
        → (difference_from (suc k) es fs ≡ None → (length es ≡ length fs) × ((i : ℕ) → same_line (line_at es i) (line_at fs i) ≡ true))
        → (suc (length es) ≡ suc (length fs)) × ((i : ℕ) → same_line (line_at (e ∷ es) i) (line_at (f ∷ fs) i) ≡ true)
    go true s q ih = let r = ih q in (ap suc r.0, λ i. elim i as (λ n. same_line (line_at (e ∷ es) n) (line_at (f ∷ fs) n) ≡ true) [ zero ↦ s | suc j ↦ r.1 j ])
    go false s q ih = let z : ◌≡◌ {A = ℕ} 0 1 = cc in absurd (omega arith)

from_same : (k : ℕ) (es fs : List Line) → length es ≡ length fs → ((i : ℕ) → same_line (line_at es i) (line_at fs i) ≡ true) → difference_from k es fs ≡ None
unfolding difference_from
from_same k [] [] c s = refl
from_same k [] (f ∷ fs) c s = absurd (omega arith)
from_same k (e ∷ es) [] c s = absurd (omega arith)
from_same k (e ∷ es) (f ∷ fs) c s = rw (s 0) (from_same (suc k) es fs (omega arith) (λ i. s (suc i)))

-- one line: depth, kind and number, and unless it is marked changed, the text
pub record Alike (e f : Line) : Type 0 where
  pub depth : e.depth ≡ f.depth
  pub kind : e.kind ≡ f.kind
  pub number : e.number ≡ f.number
  pub text : (e.mark ≡ changed_mark → ⊥) → e.text ≡ f.text

pub same_alike : (e f : Line) → same_line e f ≡ true → Alike e f
unfolding same_line same_head
same_alike e f h =
    let s = and_parts (same_head e f) (eqb e.mark changed_mark || same_text e.text f.text) h in
    let t = and_parts (eqb e.depth f.depth) (eqb e.kind f.kind && eqb e.number f.number) s.0 in
    let k = and_parts (eqb e.kind f.kind) (eqb e.number f.number) t.1 in
    record {
      depth = eqb-true e.depth f.depth t.0;
      kind = eqb-true e.kind f.kind k.0;
      number = eqb-true e.number f.number k.1;
      text = λ m. same_text_sound e.text f.text (or_other (eqb e.mark changed_mark) (same_text e.text f.text) (ne_eqb e.mark changed_mark m) s.1);
    }

alike_same : (e f : Line) → Alike e f → same_line e f ≡ true
unfolding same_line same_head
alike_same e f a =
    rw (eq-eqb e.depth f.depth a.depth, eq-eqb e.kind f.kind a.kind, eq-eqb e.number f.number a.number) (text (eqb e.mark changed_mark) refl)
  where
    text : (b : Bool) → eqb e.mark changed_mark ≡ b → (b || same_text e.text f.text) ≡ true
    text true m = refl
    text false m = rw (a.text (eqb-false e.mark changed_mark m)) (same_text_refl f.text)

-- ## 10

unmarked_zero : (l : Line) → is_marked l ≡ false → l.mark ≡ untouched_mark
unfolding is_marked
unmarked_zero l h = eqb-true l.mark untouched_mark (not-false _ h)

zero_unmarked : (l : Line) → l.mark ≡ untouched_mark → is_marked l ≡ false
unfolding is_marked
zero_unmarked l h = rw h

free_mark : (l : Line) → program_marked l ≡ false → FromProgram l → l.mark ≡ untouched_mark
unfolding program_marked
free_mark l h n = unmarked_zero l (rw (eq-eqb l.number program_number n) at h)

mark_free : (l : Line) → (FromProgram l → l.mark ≡ untouched_mark) → program_marked l ≡ false
unfolding program_marked
mark_free l f = go (eqb l.number program_number) refl
  where
    go : (b : Bool) → eqb l.number program_number ≡ b → (b && is_marked l) ≡ false
    go true e = zero_unmarked l (f (eqb-true l.number program_number e))
    go false e = refl

-- ## Both, beside a fresh view whose program lines are unmarked

module _ (edited fresh : List Line) (plain : (i : ℕ) → FromProgram (line_at fresh i) → (line_at fresh i).mark ≡ untouched_mark) where
  pub edits_pass : OnlyEdits edited fresh → (first_difference edited fresh ≡ None) × (program_mark edited ≡ None)
  unfolding first_difference program_mark
  edits_pass o = (
    from_same 0 edited fresh o.count (λ i.
        alike_same (line_at edited i) (line_at fresh i) (record { depth = o.depth i; kind = o.kind i; number = o.number i; text = o.text i })),
    faulty_none program_marked 0 edited _ (λ i. mark_free (line_at edited i) (λ n. let m = sym (o.number i) ∙ n in o.mark i m ∙ plain i m)),
  )

  pub pass_edits : first_difference edited fresh ≡ None → program_mark edited ≡ None → OnlyEdits edited fresh
  unfolding first_difference program_mark program_marked is_marked
  pass_edits d p =
      let s = same_from 0 edited fresh d in
      let a : (i : ℕ) → Alike (line_at edited i) (line_at fresh i) = λ i. same_alike (line_at edited i) (line_at fresh i) (s.1 i) in
      record {
        count = s.0;
        depth = λ i. (a i).depth;
        kind = λ i. (a i).kind;
        number = λ i. (a i).number;
        mark = λ i n. free_mark (line_at edited i) (none_faulty program_marked 0 edited _ refl p i) ((a i).number ∙ n) ∙ sym (plain i n);
        text = λ i. (a i).text;
      }
