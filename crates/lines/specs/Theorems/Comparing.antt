-- Steps of the comparisons: of two texts, and of a view's lines with the fresh ones.
use Rattle.std.specs.Prelude.{◌≡◌, refl, true, false, List, [], ◌∷◌, ℕ, ◌+◌, ◌-◌, ◌≤◌, ◌<◌, get_or, drop, None, Some}
use Rattle.std.proofs.Common.{sym, ap, ◌∙◌, add-one}
use native.Mathlib.Omega.{arith}
use Rattle.std.proofs.Math.ListN.{length, drop_of_length-le}
use borrow.Author.Tests.{eq-eqb, ne_eqb}
use Rattle.lines.specs.Nodes.{Line}
use Rattle.lines.specs.Texts.{same_text}
use Rattle.lines.specs.Views.{same_head, same_line, difference_from}
use Rattle.lines.specs.Theorems.Lists.{drop_one}
use Rattle.lines.specs.Theorems.SameTexts.{unlike_texts}

-- two texts are not the same if what is read off them differs: their lengths, or their bytes at one place
reading_differs : (read : List ℕ → ℕ) (a b : List ℕ) {m n : ℕ} → m ≡ read a → n ≡ read b → (m ≡ n → ⊥) → same_text a b ≡ false
reading_differs read a b p q h = unlike_texts a b (λ e. h (p ∙ (ap read e ∙ sym q)))

pub length_differs : (a b : List ℕ) {m n : ℕ} → m ≡ length a → n ≡ length b → (m ≡ n → ⊥) → same_text a b ≡ false
length_differs = reading_differs length

pub byte_differs : (a b : List ℕ) (j : ℕ) {m n : ℕ} → m ≡ get_or a j 0 → n ≡ get_or b j 0 → (m ≡ n → ⊥) → same_text a b ≡ false
byte_differs a b j = reading_differs (λ (t : List ℕ). get_or t j 0) a b

-- texts that are the same from byte j on: at their end, one byte further to the front, and from the first byte on
module _ (a b : List ℕ) (j : ℕ) where
  pub text_ends : j ≡ length a → j ≡ length b → same_text (drop j a) (drop j b) ≡ true
  unfolding same_text
  text_ends h k = let p : length a ≤ j = omega arith in let q : length b ≤ j = omega arith in rw (drop_of_length-le a p, drop_of_length-le b q)

  pub text_goes_back : {m n : ℕ} → 0 < j → j ≤ length a → j ≤ length b → m ≡ get_or a (j - 1) 0 → n ≡ get_or b (j - 1) 0 → m ≡ n
      → same_text (drop j a) (drop j b) ≡ true → same_text (drop (j - 1) a) (drop (j - 1) b) ≡ true
  unfolding same_text
  text_goes_back s h k p q e t =
      let z : j - 1 + 1 ≡ j = omega arith in
      rw (drop_one a (j - 1) 0 (omega arith), drop_one b (j - 1) 0 (omega arith), z, eq-eqb _ _ (sym p ∙ (e ∙ q))) t

  pub text_whole : j ≤ 0 → same_text (drop j a) (drop j b) ≡ true → same_text a b ≡ true
  text_whole h t = let z : j ≡ 0 = omega arith in rw z at t

-- one line: what decides it
module _ (v f : Line) where
  pub line_head : same_head v f ≡ false → same_line v f ≡ false
  unfolding same_line
  line_head e = rw e

  pub line_changed : same_head v f ≡ true → v.mark ≡ 1 → same_line v f ≡ true
  unfolding same_line
  line_changed e m = rw (e, eq-eqb v.mark 1 m)

  pub line_text : same_head v f ≡ true → (v.mark ≡ 1 → ⊥) → same_line v f ≡ same_text v.text f.text
  unfolding same_line
  line_text e m = rw (e, ne_eqb v.mark 1 m)

-- lines from line n on
pub no_difference : (n : ℕ) → difference_from n [] [] ≡ None
unfolding difference_from
no_difference n = refl

pub view_short : (n : ℕ) (f : Line) (fs : List Line) → difference_from n [] (f ∷ fs) ≡ Some n
unfolding difference_from
view_short n f fs = refl

pub view_long : (n : ℕ) (v : Line) (vs : List Line) → difference_from n (v ∷ vs) [] ≡ Some n
unfolding difference_from
view_long n v vs = refl

module _ (n : ℕ) (v f : Line) (vs fs : List Line) where
  pub difference_here : same_line v f ≡ false → difference_from n (v ∷ vs) (f ∷ fs) ≡ Some n
  unfolding difference_from
  difference_here e = rw e

  pub difference_later : same_line v f ≡ true → difference_from n (v ∷ vs) (f ∷ fs) ≡ difference_from (n + 1) vs fs
  unfolding difference_from
  difference_later e = rw (e, add-one)
