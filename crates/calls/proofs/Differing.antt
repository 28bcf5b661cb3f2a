-- Steps of the comparison of a view's lines with the fresh ones, which are known by their words.
use mathlib.Core.Path.{◌≡◌, sym, ap₂, ◌∙◌}
use Rattle.std.specs.Prelude.{Option, None, Some}
use mathlib.Core.Bool.{true, false}
use mathlib.Core.List.{List, [], ◌∷◌}
use Prim.Native.Nat.{ℕ, ◌+◌, ◌≤◌, ◌<◌}
use lib.ListN.{length, get_or, drop, drop_of_length-le}
use Rattle.lines.specs.Entries.{Entry}
use Rattle.lines.specs.Nodes.{Line, no_line, line_at}
use Rattle.lines.specs.Texts.{same_text}
use Rattle.lines.specs.Views.{same_head, same_line, difference_from}
use Rattle.lines.specs.Theorems.Comparing.{line_text, no_difference, view_short, view_long, difference_here, difference_later}
use Rattle.lines.specs.Theorems.Lists.{drop_one}
use Rattle.values.specs.Values.{bytes_of}
use Rattle.values.specs.Engine.Words.{node_of}
use Rattle.runs.specs.Engine.Runs.{made_by, lookup_of}
use Rattle.calls.specs.Engine.Parts.{word_line, view_lines}
use Rattle.calls.proofs.WordLines.{word_text, view_one, view_none}

-- at line i of a comparison that comes to this answer: what each outcome there says of it
pub record Here (E : List Entry) (L : List Line) (w : List ℕ) (len : ℕ) (vs : List Line) (i : ℕ) (answer : Option ℕ) : Type 0 where
  pub both_end : length vs ≤ i → len ≤ i → None ≡ answer
  pub view_ends : length vs ≤ i → i < len → Some i ≡ answer
  pub fresh_ends : i < length vs → len ≤ i → Some i ≡ answer
  pub differs : i < length vs → i < len → {v : Line} → v ≡ line_at vs i → same_line v (word_line E L (get_or w (128 + i) 0)) ≡ false → Some i ≡ answer
  pub goes_on : i < length vs → i < len → {v : Line} → v ≡ line_at vs i → same_line v (word_line E L (get_or w (128 + i) 0)) ≡ true
      → difference_from (i + 1) (drop (i + 1) vs) (drop (i + 1) (view_lines E L w len)) ≡ answer

pub here : (E : List Entry) (L : List Line) (w : List ℕ) (len : ℕ) → 128 + len ≤ length w → (vs : List Line) (i : ℕ) {answer : Option ℕ}
    → difference_from i (drop i vs) (drop i (view_lines E L w len)) ≡ answer → Here E L w len vs i answer
here E L w len inside vs i e =
    let v-none : length vs ≤ i → drop i vs ≡ [] = λ h. drop_of_length-le vs h in
    let v-one : i < length vs → drop i vs ≡ line_at vs i ∷ drop (i + 1) vs = λ h. drop_one vs i no_line h in
    let f-none = view_none E L w len inside i in
    let f-one = view_one E L w len inside i in
    record {
      both_end = λ a b. sym (rw (v-none a, f-none b) (no_difference i)) ∙ e;
      view_ends = λ a b. sym (rw (v-none a, f-one b) (view_short i _ _)) ∙ e;
      fresh_ends = λ a b. sym (rw (v-one a, f-none b) (view_long i _ _)) ∙ e;
      differs = λ a b q d. sym (rw (v-one a, f-one b) (difference_here i _ _ _ _ (rw q at d))) ∙ e;
      goes_on = λ a b q d. sym (rw (v-one a, f-one b) (difference_later i _ _ _ _ (rw q at d))) ∙ e;
    }

-- a line with the head of the fresh one that is not marked changed goes by its text
pub text_decides : (E : List Entry) (L : List Line) (x : ℕ) (v : Line) → same_head v (word_line E L x) ≡ true → (v.mark ≡ 1 → ⊥)
    → {s t : List ℕ} → s ≡ v.text → t ≡ bytes_of (lookup_of L) (node_of (made_by E) x).origin → same_line v (word_line E L x) ≡ same_text s t
text_decides E L x v head plain p q = line_text v (word_line E L x) head plain ∙ sym (ap₂ same_text p (word_text E L x q))
