-- A file cut into lines: the first line, the lines behind it, and where each begins.
use Rattle.std.specs.Prelude.{◌≡◌, refl, Bool, true, false, cond, List, [], ◌∷◌, ◌++◌, ℕ, suc, ◌+◌, ◌-◌, ◌≤◌, ◌<◌, eqb, ltb, length, take, drop}
use Rattle.std.proofs.Common.{◌∙◌, ap, subst, not-suc-le-zero, arith, length-drop, drop_of_length-le, drop-drop, length-take-le, ltb-true, ltb-false}
use Rattle.lines.specs.Lines.{push, cut}
use Rattle.lines.specs.Engine.Starts.{line_length, first_line, starts_from}

-- the first line is the first line_length bytes, and the others are cut from what is behind
pub cut_first : (s : List ℕ) → 0 < length s → cut s ≡ first_line s ∷ cut (drop (line_length s) s)
unfolding cut line_length push
cut_first [] h = absurd (not-suc-le-zero h)
cut_first (x ∷ []) h = go (eqb x 0x0A) refl
  where
    go : (t : Bool) → eqb x 0x0A ≡ t → cut (x ∷ []) ≡ take (line_length (x ∷ [])) (x ∷ []) ∷ cut (drop (line_length (x ∷ [])) (x ∷ []))
    go true e = rw e
    go false e = rw e
cut_first (x ∷ y ∷ s) h = go (eqb x 0x0A) refl (cut_first (y ∷ s) (omega arith))
  where
    go : (t : Bool) → eqb x 0x0A ≡ t → cut (y ∷ s) ≡ take (line_length (y ∷ s)) (y ∷ s) ∷ cut (drop (line_length (y ∷ s)) (y ∷ s))
        → cut (x ∷ y ∷ s) ≡ take (line_length (x ∷ y ∷ s)) (x ∷ y ∷ s) ∷ cut (drop (line_length (x ∷ y ∷ s)) (x ∷ y ∷ s))
    go true e ih = rw e
    go false e ih = rw e (ap (push x) ih)

pub first_within : (s : List ℕ) → line_length s ≤ length s
unfolding line_length
first_within [] = omega arith
first_within (x ∷ s) = go (eqb x 0x0A) (first_within s)
  where
    go : (t : Bool) → line_length s ≤ length s → cond t 1 (suc (line_length s)) ≤ suc (length s)
    go true h = omega arith
    go false h = omega arith

pub first_some : (s : List ℕ) → 0 < length s → 0 < line_length s
unfolding line_length
first_some [] h = absurd (not-suc-le-zero h)
first_some (x ∷ s) h = go (eqb x 0x0A)
  where
    go : (t : Bool) → 0 < cond t 1 (suc (line_length s))
    go true = omega arith
    go false = omega arith

module _ (s : List ℕ) (i : ℕ) where
  pub cut_from : i < length s → cut (drop i s) ≡ first_line (drop i s) ∷ cut (drop (line_length (drop i s)) (drop i s))
  cut_from h = cut_first (drop i s) (omega (arith, length-drop i s))

  pub cut_none : length s ≤ i → cut (drop i s) ≡ []
  unfolding cut
  cut_none h = rw (drop_of_length-le s h)

  -- where there is a line, there is a byte
  pub line_inside : 0 < length (cut (drop i s)) → i < length s
  line_inside h = go (ltb i (length s)) refl
    where
      go : (t : Bool) → ltb i (length s) ≡ t → i < length s
      go true e = ltb-true i (length s) e
      go false e = absurd (not-suc-le-zero (subst (λ (k : ℕ). 0 < k) (ap length (cut_none (ltb-false i (length s) e))) h))

-- the line that begins at `at` ends before e
module _ (s : List ℕ) (at : ℕ) (h : at < length s) (e : ℕ) (q : e ≡ at + line_length (drop at s)) where
  pub end_within : e ≤ length s
  end_within = omega (arith, first_within (drop at s), length-drop at s)

  pub end_beyond : at < e
  end_beyond = omega (arith, first_some (drop at s) (omega (arith, length-drop at s)))

  pub line_long : length (take (e - at) (drop at s)) ≡ e - at
  line_long = length-take-le (e - at) (drop at s) (omega (arith, length-drop at s, first_within (drop at s)))

  pub cut_at : cut (drop at s) ≡ take (e - at) (drop at s) ∷ cut (drop e s)
  cut_at =
      let d : line_length (drop at s) ≡ e - at = omega arith in
      let b : at + (e - at) ≡ e = omega (arith, first_within (drop at s)) in
      (rw d at (cut_from s at h))
      ∙ ap (λ (l : List ℕ). take (e - at) (drop at s) ∷ cut l) (drop-drop (e - at) at s ∙ ap (λ (k : ℕ). drop k s) b)

pub length_starts : (p : ℕ) (cs : List (List ℕ)) → length (starts_from p cs) ≡ length cs
unfolding starts_from
length_starts p [] = refl
length_starts p (c ∷ cs) = ap suc (length_starts (p + length c) cs)

-- lines put together again are the file
unfoldable pub joined : List (List ℕ) → List ℕ
joined [] = []
joined (c ∷ cs) = c ++ joined cs

pub joined_cut : (s : List ℕ) → joined (cut s) ≡ s
unfolding joined cut push
joined_cut [] = refl
joined_cut (x ∷ s) = go (eqb x 0x0A) (cut s) (joined_cut s)
  where
    go : (t : Bool) (cs : List (List ℕ)) → joined cs ≡ s → joined (cond t ((x ∷ []) ∷ cs) (push x cs)) ≡ x ∷ s
    go true cs e = ap (λ (r : List ℕ). x ∷ r) e
    go false [] e = ap (λ (r : List ℕ). x ∷ r) e
    go false (c ∷ cs) e = ap (λ (r : List ℕ). x ∷ r) e
