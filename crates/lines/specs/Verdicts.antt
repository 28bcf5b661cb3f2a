-- What a check answers, and a refusal: a number and a place.
use Rattle.std.specs.Prelude.{ℕ, suc, Bool, cond, List, [], ◌∷◌, leb, Option, None, Some}

pub record Reply : Type 0 where
  pub number : ℕ
  pub place : ℕ

abbrev pub reply : ℕ → ℕ → Reply
reply number place = record { number = number; place = place }

-- the first line from line k on of which a fault is true
unfoldable pub first_from : {A : Type 0} → (A → Bool) → ℕ → List A → Option ℕ
first_from fault k [] = None
first_from fault k (x ∷ xs) = cond (fault x) (Some k) (first_from fault (suc k) xs)

-- the fault that stands first
unfoldable pub earlier : Option ℕ → Option ℕ → Option ℕ
earlier None w = w
earlier (Some i) None = Some i
earlier (Some i) (Some j) = cond (leb i j) (Some i) (Some j)
