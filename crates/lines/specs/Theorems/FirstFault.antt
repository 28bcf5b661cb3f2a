-- The first of a list of which a fault is true: none in an empty list, here, or later; and as `position` finds it.
use Rattle.std.specs.Prelude.{◌≡◌, Bool, true, false, cond, ltb, List, [], ◌∷◌, map, ℕ, ◌+◌, length, Option, None, Some}
use Rattle.std.specs.List.{position_from, position_or_len}
use Rattle.std.proofs.Common.{◌∙◌, refl, ap, add-one}
use Rattle.std.proofs.lemmas.Iterator.Adapters.{position_from-zero}
use Rattle.lines.specs.Verdicts.{first_from}

module _ {A : Type 0} (fault : A → Bool) (k : ℕ) where
  pub first_none : first_from fault k [] ≡ None
  unfolding first_from
  first_none = refl

  pub first_here : (x : A) (xs : List A) → fault x ≡ true → first_from fault k (x ∷ xs) ≡ Some k
  unfolding first_from
  first_here x xs e = rw e

  pub first_later : (x : A) (xs : List A) → fault x ≡ false → first_from fault k (x ∷ xs) ≡ first_from fault (k + 1) xs
  unfolding first_from
  first_later x xs e = rw (e, add-one)

-- in a list that was read from another
module _ {A B : Type 0} (fault : A → Bool) (read : B → A) where
  position_from_is : (k : ℕ) (xs : List B) → position_from (λ x. fault (read x)) k xs ≡ first_from fault k (map read xs)
  unfolding first_from
  position_from_is k [] = refl
  position_from_is k (x ∷ xs) = ap (cond (fault (read x)) (Some k)) (rw add-one (rw add-one at (position_from_is (k + 1) xs)))

  pub first_by_position : (xs : List B) {r : Option ℕ} → let n = position_or_len (λ x. fault (read x)) xs in
      r ≡ cond (ltb n (length xs)) (Some n) None → r ≡ first_from fault 0 (map read xs)
  first_by_position xs e = e ∙ (position_from-zero (λ x. fault (read x)) xs ∙ position_from_is 0 xs)
