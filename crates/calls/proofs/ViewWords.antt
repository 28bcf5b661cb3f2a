-- Steps of the loops over a view's lines: the sums of their texts, the first line with a text, and the word of what a line brings.
use mathlib.Core.Path.{◌≡◌, refl, sym, ap, ◌∙◌}
use mathlib.Core.Bool.{Bool, true, false, cond}
use Rattle.std.specs.Prelude.{Some, unwrap_or}
use Rattle.std.specs.List.{find, range_with_len}
use mathlib.Core.List.{List, ◌∷◌}
use Prim.Native.Nat.{ℕ, zero, suc, ◌+◌, ◌≤◌, ◌<◌}
use native.Mathlib.Numerals.{add-one}
use native.Mathlib.Omega.{arith}
use borrow.Author.Tests.{eq-eqb, ne_eqb}
use lib.ListN.{length, get_or, drop, length-map}
use Rattle.lines.specs.Texts.{same_text}
use Rattle.lines.specs.Nodes.{Line, no_line, line_at}
use Rattle.lines.specs.Views.{counted_line, counted_lines}
use Rattle.lines.proofs.Theorems.CountedMarks.{counted_length, counted_at}
use Rattle.lines.specs.Theorems.Lists.{drop_one, map_at}
use Rattle.lines.specs.Engine.Sums.{text_sum}
use Rattle.lines.specs.Theorems.SameTexts.{unlike_texts}
use Rattle.calls.specs.Engine.Parts.{Summed, first_with, brought_word, brought_words}

-- ## The first line with a text

module _ (text : List ℕ) (k : ℕ) (l : Line) (ls : List Line) where
  with_here : same_text l.text text ≡ true → first_with text k (l ∷ ls) ≡ k
  unfolding first_with
  with_here e = rw e

  with_later : same_text l.text text ≡ false → first_with text k (l ∷ ls) ≡ first_with text (k + 1) ls
  unfolding first_with
  with_later e = rw (e, add-one)

module _ (es : List Line) where
  -- texts with different sums are not the same
  pub sums_differ : (i j : ℕ) → i < length es → j < length es → (sums : List ℕ) → Summed es sums → (get_or sums j 0 ≡ get_or sums i 0 → ⊥)
      → same_text (line_at es j).text (line_at es i).text ≡ false
  sums_differ i j inside h sums s n = unlike_texts _ _ (λ e. n (s.1 j h ∙ (ap text_sum e ∙ sym (s.1 i inside))))

  module _ (text : List ℕ) where
    abbrev pub has : ℕ → Bool
    has j = same_text (line_at es j).text text

    -- the n places from j on, and then line i, which has it
    pub found_first : (n j i : ℕ) → j + n ≡ i → i < length es → has i ≡ true → unwrap_or (find has (range_with_len j n)) i ≡ first_with text j (drop j es)
    found_first zero j i e h t =
        let q : i ≡ j = omega arith in
        q ∙ sym (rw (drop_one es j no_line (omega arith)) (with_here text j _ _ (rw q at t)))
    found_first (suc n) j i e h t = go (has j) refl (found_first n (j + 1) i (omega arith) h t)
      where
        go : (b : Bool) → has j ≡ b → unwrap_or (find has (range_with_len (j + 1) n)) i ≡ first_with text (j + 1) (drop (j + 1) es)
            → unwrap_or (cond b (Some j) (find has (range_with_len (j + 1) n))) i ≡ first_with text j (drop j es)
        go true f later = sym (rw (drop_one es j no_line (omega arith)) (with_here text j _ _ f))
        go false f later = later ∙ sym (rw (drop_one es j no_line (omega arith)) (with_later text j _ _ f))

    pub found_low : (n j i : ℕ) → j + n ≡ i → unwrap_or (find has (range_with_len j n)) i ≤ i
    found_low zero j i e = omega arith
    found_low (suc n) j i e = go (has j) (found_low n (j + 1) i (omega arith))
      where
        go : (b : Bool) → unwrap_or (find has (range_with_len (j + 1) n)) i ≤ i → unwrap_or (cond b (Some j) (find has (range_with_len (j + 1) n))) i ≤ i
        go true later = omega arith
        go false later = later

-- ## The word of a line

-- the mark that the code reads
pub mark_read : (es : List Line) (fresh : Line) (i : ℕ) {v : Line} → v ≡ line_at es i → {m : ℕ} → m ≡ (counted_line fresh v).mark → m ≡ (counted_line fresh (line_at es i)).mark
mark_read es fresh i q e = e ∙ ap (λ (v : Line). (counted_line fresh v).mark) q

module _ (es : List Line) (l : Line) where
  pub word_changed : {n : ℕ} → l.mark ≡ 1 → n ≡ first_with l.text 0 es → 4 + n ≡ brought_word es l
  unfolding brought_word
  word_changed m e = rw (eq-eqb l.mark 1 m, e)

  pub word_deleted : (l.mark ≡ 1 → ⊥) → l.mark ≡ 2 → 2 ≡ brought_word es l
  unfolding brought_word
  word_deleted c m = rw (ne_eqb l.mark 1 c, eq-eqb l.mark 2 m)

  pub word_untouched : (l.mark ≡ 1 → ⊥) → (l.mark ≡ 2 → ⊥) → 0 ≡ brought_word es l
  unfolding brought_word
  word_untouched c d = rw (ne_eqb l.mark 1 c, ne_eqb l.mark 2 d)

-- ## The words of all lines

pub length_brought : (fs es : List Line) → length (brought_words fs es) ≡ length es
length_brought fs es = length-map (counted_lines fs es) (brought_word es) ∙ counted_length fs es

module _ (fs es : List Line) where
  pub word_at : (i : ℕ) → i < length es → i < length fs → get_or (brought_words fs es) i 0 ≡ brought_word es (counted_line (line_at fs i) (line_at es i))
  word_at i h k =
      map_at (brought_word es) (counted_lines fs es) i 0 no_line (omega (arith, counted_length fs es))
      ∙ ap (brought_word es) (counted_at fs es i k h)
