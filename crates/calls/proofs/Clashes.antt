-- The word of a clash.
use mathlib.Core.Path.{◌≡◌, refl, sym, ◌∙◌}
use mathlib.Core.Bool.{Bool, true, false, cond}
use mathlib.Core.List.{List}
use Prim.Native.Nat.{ℕ, ◌-◌}
use native.Mathlib.Omega.{arith}
use lib.Dec.{eqb}
use borrow.Author.Tests.{ne_eqb, eqb-true}
use Rattle.values.specs.Standings.{untouched, locked, deleted, clash, changed, sort, is_clash}
use Rattle.values.specs.Engine.Words.{standing_of}

module _ (texts : ℕ → List ℕ) where
  pub clash_word : (x : ℕ) → is_clash (standing_of texts x) ≡ eqb x 3
  unfolding is_clash standing_of sort
  clash_word x = go (eqb x 0) (eqb x 1) (eqb x 2) (eqb x 3) refl refl refl refl
    where
      other : (y : ℕ) (d : Bool) → eqb x y ≡ true → (y ≡ 3 → ⊥) → eqb x 3 ≡ d → false ≡ d
      other y d p ne s = sym (ne_eqb x 3 (λ e. ne (sym (eqb-true x y p) ∙ e))) ∙ s

      go : (a b c d : Bool) → eqb x 0 ≡ a → eqb x 1 ≡ b → eqb x 2 ≡ c → eqb x 3 ≡ d
          → eqb (sort (cond a untouched (cond b locked (cond c deleted (cond d clash (changed (texts (x - 4)))))))) 3 ≡ d
      go true b c d p q r s = other 0 d p (λ e. omega arith) s
      go false true c d p q r s = other 1 d q (λ e. omega arith) s
      go false false true d p q r s = other 2 d r (λ e. omega arith) s
      go false false false true p q r s = refl
      go false false false false p q r s = refl
