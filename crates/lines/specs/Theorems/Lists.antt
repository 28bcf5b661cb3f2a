-- Lists in the code's terms (i + 1, i + 2), and tests computed over a whole table.
use Rattle.std.specs.Prelude.{◌≡◌, refl, Bool, true, ◌&&◌, List, [], ◌∷◌, map, ℕ, zero, suc, ◌+◌, ◌-◌, ◌<◌, T, length, get_or, take, drop}
use Rattle.std.proofs.Common.{◌∙◌, ap, subst, not-suc-le-zero, le_of_suc-le-suc, add-one, arith, length-drop, drop-cons, take_all}
use Rattle.std.proofs.Math.Numerals.{add-two}
use Rattle.std.proofs.lemmas.List.{length-map}
use Rattle.std.proofs.Math.ListN.{get_or-map}
use Rattle.lines.specs.Theorems.Bools.{and_left, and_right, is_true}

module _ {A : Type 0} where
  pub drop_one : (l : List A) (i : ℕ) (d : A) → i < length l → drop i l ≡ get_or l i d ∷ drop (i + 1) l
  drop_one l i d h = rw add-one (drop-cons l i d h)

  pub drop_two : (l : List A) (i : ℕ) (d : A) → i + 1 < length l → drop i l ≡ get_or l i d ∷ (get_or l (i + 1) d ∷ drop (i + 2) l)
  drop_two l i d h =
      drop_one l i d (omega arith)
      ∙ ap (λ (r : List A). get_or l i d ∷ r) (rw (add-one, add-two) (drop-cons l (suc i) d (omega (arith, add-one i))))

  pub get_d_any : (l : List A) (i : ℕ) (d e : A) → i < length l → get_or l i d ≡ get_or l i e
  get_d_any [] i d e h = absurd (not-suc-le-zero h)
  get_d_any (x ∷ l) zero d e h = refl
  get_d_any (x ∷ l) (suc i) d e h = get_d_any l i d e (le_of_suc-le-suc h)

  -- what `&l[k..]` is
  pub take_rest : (k : ℕ) (l : List A) → take (length l - k) (drop k l) ≡ drop k l
  take_rest k l = take_all (length l - k) (drop k l) (omega (arith, length-drop k l))

  -- a test at each place of a list, counted from i
  abbrev pub every : (ℕ → A → Bool) → ℕ → List A → Bool
  every f i [] = true
  every f i (x ∷ xs) = f i x && every f (suc i) xs

  every_from : (f : ℕ → A → Bool) (xs : List A) (d : A) (i k : ℕ) → every f i xs ≡ true → k < length xs → f (i + k) (get_or xs k d) ≡ true
  every_from f [] d i k t h = absurd (not-suc-le-zero h)
  every_from f (x ∷ xs) d i zero t h =
      let z : i ≡ i + 0 = omega arith in
      subst (λ (m : ℕ). f m x ≡ true) z (and_left (f i x) (every f (suc i) xs) t)
  every_from f (x ∷ xs) d i (suc k) t h =
      let z : suc i + k ≡ i + suc k = omega arith in
      subst (λ (m : ℕ). f m (get_or xs k d) ≡ true) z (every_from f xs d (suc i) k (and_right (f i x) (every f (suc i) xs) t) (le_of_suc-le-suc h))

  -- a table's rule at one of its places, from the test over the whole table
  pub every_at : (f : ℕ → A → Bool) (xs : List A) (d : A) → T (every f 0 xs) → (k : ℕ) → k < length xs → f k (get_or xs k d) ≡ true
  every_at f xs d t k h =
      let z : 0 + k ≡ k = omega arith in
      subst (λ (m : ℕ). f m (get_or xs k d) ≡ true) z (every_from f xs d 0 k (is_true (every f 0 xs) t) h)

-- one of the images, whatever stands for those that are missing
pub map_at : {A B : Type 0} (f : A → B) (l : List A) (i : ℕ) (d : B) (e : A) → i < length l → get_or (map f l) i d ≡ f (get_or l i e)
map_at f l i d e h = get_d_any (map f l) i d (f e) (omega (arith, length-map l f)) ∙ get_or-map f l i e
