-- A trimmed text, and when two texts agree.
use Rattle.std.specs.Prelude.{◌≡◌, refl, Bool, true, false, cond, List, [], ◌∷◌, ◌++◌, ℕ, zero, suc, ◌≤◌, eqb, length, take, replicate}
use Rattle.std.proofs.Common.{ap, ◌∙◌, arith, length-append, eqb-true, ne_eqb}
use Rattle.std.proofs.Math.Path.{ap₂}
use Rattle.std.proofs.Math.Seq.{take-append_seam}
use Rattle.std.proofs.lemmas.Bool.{eqb-false}
use Rattle.lines.specs.Texts.{same_text, space, kept_before, trimmed, agree}
use Rattle.lines.specs.Theorems.SameTexts.{same_text_sound, same_text_refl}

-- so many spaces
abbrev pub spaces : ℕ → List ℕ
spaces n = replicate n space

abbrev pub EndsInSpace : List ℕ → Type 0
EndsInSpace t = (u : List ℕ) × (t ≡ u ++ (space ∷ []))

abbrev pub Unpadded : List ℕ → Type 0
Unpadded t = EndsInSpace t → ⊥

-- ## Spaces behind a text

pub spaces_alone : (n : ℕ) → trimmed (spaces n) ≡ []
unfolding trimmed kept_before
spaces_alone zero = refl
spaces_alone (suc n) = rw (spaces_alone n)

pub spaces_behind : (t : List ℕ) (n : ℕ) → trimmed (t ++ spaces n) ≡ trimmed t
unfolding trimmed
spaces_behind [] n = spaces_alone n
spaces_behind (x ∷ t) n = ap (kept_before x) (spaces_behind t n)

-- ## Another byte behind a text

kept_more : (y : ℕ) (t : List ℕ) (x : ℕ) → kept_before y (t ++ (x ∷ [])) ≡ y ∷ (t ++ (x ∷ []))
unfolding kept_before
kept_more y [] x = refl
kept_more y (z ∷ t) x = refl

pub other_behind : (t : List ℕ) (x : ℕ) → (x ≡ space → ⊥) → trimmed (t ++ (x ∷ [])) ≡ t ++ (x ∷ [])
unfolding trimmed kept_before
other_behind [] x h = rw (ne_eqb x space h)
other_behind (y ∷ t) x h = ap (kept_before y) (other_behind t x h) ∙ kept_more y t x

-- ## The front part of a text that does not end in a space, with nothing but spaces behind it

kept_front : (x : ℕ) (r : List ℕ) (n : ℕ) → (m : ℕ) × (x ∷ (r ++ spaces n) ≡ kept_before x r ++ spaces m)
unfolding kept_before
kept_front x (y ∷ r) n = (n, refl)
kept_front x [] n = go (eqb x space) refl
  where
    go : (b : Bool) → eqb x space ≡ b → (m : ℕ) × (x ∷ spaces n ≡ cond b [] (x ∷ []) ++ spaces m)
    go true p = (suc n, ap (λ (y : ℕ). y ∷ spaces n) (eqb-true x space p))
    go false p = (n, refl)

pub trimmed_front : (t : List ℕ) → (n : ℕ) × (t ≡ trimmed t ++ spaces n)
unfolding trimmed
trimmed_front [] = (0, refl)
trimmed_front (x ∷ t) =
    let (n, e) = trimmed_front t in
    let (m, k) = kept_front x (trimmed t) n in
    (m, ap (λ (u : List ℕ). x ∷ u) e ∙ k)

nothing_ends : Unpadded []
nothing_ends (u, e) = let z : 0 ≡ length (u ++ (space ∷ [])) = ap length e in omega (arith, length-append u (space ∷ []))

kept_ends : (x : ℕ) (r : List ℕ) → Unpadded r → Unpadded (kept_before x r)
unfolding kept_before
kept_ends x (y ∷ r) h ([], e) = let z : suc (suc (length r)) ≡ 1 = ap length e in omega arith
kept_ends x (y ∷ r) h (z ∷ u, e) = h (u, cc)
kept_ends x [] h k = go (eqb x space) refl k
  where
    go : (b : Bool) → eqb x space ≡ b → Unpadded (cond b [] (x ∷ []))
    go true p k = h k
    go false p ([], e) = eqb-false x space p cc
    go false p (y ∷ u, e) = h (u, cc)

pub trimmed_ends : (t : List ℕ) → Unpadded (trimmed t)
unfolding trimmed
trimmed_ends [] = nothing_ends
trimmed_ends (x ∷ t) = kept_ends x (trimmed t) (trimmed_ends t)

-- ## A text that does not end in a space is trimmed

unpadded_kept : (x : ℕ) (t : List ℕ) → Unpadded (x ∷ t) → kept_before x t ≡ x ∷ t
unfolding kept_before
unpadded_kept x (y ∷ t) h = refl
unpadded_kept x [] h = rw (ne_eqb x space (λ e. h ([], ap (λ (y : ℕ). y ∷ []) e)))

pub unpadded_trimmed : (t : List ℕ) → Unpadded t → trimmed t ≡ t
unfolding trimmed
unpadded_trimmed [] h = refl
unpadded_trimmed (x ∷ t) h =
    ap (kept_before x) (unpadded_trimmed t (λ (u, e). h (x ∷ u, ap (λ (s : List ℕ). x ∷ s) e))) ∙ unpadded_kept x t h

pub trimmed_twice : (t : List ℕ) → trimmed (trimmed t) ≡ trimmed t
trimmed_twice t = unpadded_trimmed (trimmed t) (trimmed_ends t)

-- nothing else is a front part as above
pub trimmed_only : (t u : List ℕ) (n : ℕ) → t ≡ u ++ spaces n → Unpadded u → trimmed t ≡ u
trimmed_only t u n e h = ap trimmed e ∙ (spaces_behind u n ∙ unpadded_trimmed u h)

-- ## As the code reads it: by its length

pub trimmed_take : (t : List ℕ) → take (length (trimmed t)) t ≡ trimmed t
trimmed_take t = let (n, e) = trimmed_front t in ap (take (length (trimmed t))) e ∙ take-append_seam (trimmed t) (spaces n)

pub trimmed_length : (t : List ℕ) → length (trimmed t) ≤ length t
trimmed_length t = let (n, e) = trimmed_front t in omega (arith, ap length e, length-append (trimmed t) (spaces n))

-- ## Texts that agree

module _ (s t : List ℕ) where
  -- exactly if they are equal when trimmed
  pub agree_sound : agree s t ≡ true → trimmed s ≡ trimmed t
  unfolding agree
  agree_sound = same_text_sound (trimmed s) (trimmed t)

  pub agree_complete : trimmed s ≡ trimmed t → agree s t ≡ true
  unfolding agree
  agree_complete e = rw e (same_text_refl (trimmed t))

  -- whatever spaces stand behind either
  pub agree_padded : (m n : ℕ) → agree (s ++ spaces m) (t ++ spaces n) ≡ agree s t
  unfolding agree
  agree_padded m n = ap₂ same_text (spaces_behind s m) (spaces_behind t n)

  -- where neither ends in one, byte for byte
  pub agree_unpadded : Unpadded s → Unpadded t → agree s t ≡ same_text s t
  unfolding agree
  agree_unpadded h k = ap₂ same_text (unpadded_trimmed s h) (unpadded_trimmed t k)
