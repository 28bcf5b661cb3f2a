-- Texts are the same exactly if they are equal.
use Rattle.std.specs.Prelude.{◌≡◌, refl, Bool, true, false, List, [], ◌∷◌, ℕ, eqb}
use Rattle.std.proofs.Common.{sym, ap, ◌∙◌, eqb-true, eq-eqb}
use Rattle.lines.specs.Texts.{same_text}
use Rattle.lines.specs.Theorems.Bools.{never, and_parts}

pub same_text_sound : (s t : List ℕ) → same_text s t ≡ true → s ≡ t
unfolding same_text
same_text_sound [] [] e = refl
same_text_sound [] (y ∷ t) e = cc
same_text_sound (x ∷ s) [] e = cc
same_text_sound (x ∷ s) (y ∷ t) e =
    let p = and_parts (eqb x y) (same_text s t) e in
    let q = eqb-true x y p.0 in
    let r = same_text_sound s t p.1 in
    cc

pub same_text_refl : (s : List ℕ) → same_text s s ≡ true
unfolding same_text
same_text_refl [] = refl
same_text_refl (x ∷ s) = rw (eq-eqb x x refl) (same_text_refl s)

pub unlike_texts : (s t : List ℕ) → (s ≡ t → ⊥) → same_text s t ≡ false
unlike_texts s t n = go (same_text s t) refl
  where
    go : (b : Bool) → same_text s t ≡ b → b ≡ false
    go true e = absurd (n (same_text_sound s t e))
    go false e = refl

pub told_unlike : (s t : List ℕ) → same_text s t ≡ false → s ≡ t → ⊥
told_unlike s t e p = never (sym e ∙ (ap (same_text s) (sym p) ∙ same_text_refl s))

pub same_text_comm : (s t : List ℕ) → same_text s t ≡ same_text t s
same_text_comm s t = go (same_text t s) refl
  where
    go : (b : Bool) → same_text t s ≡ b → same_text s t ≡ b
    go true e = ap (same_text s) (same_text_sound t s e) ∙ same_text_refl s
    go false e = unlike_texts s t (λ p. told_unlike t s e (sym p))
