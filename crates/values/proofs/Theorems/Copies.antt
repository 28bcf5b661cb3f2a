-- The copies of a node in a value, and what their standings come to when they are gathered.
use Rattle.std.specs.Prelude.{◌≡◌, Bool, true, false, ◌⊎◌}
use Rattle.std.proofs.Math.Path.{refl}
use Rattle.std.proofs.Common.{sym, ap, ◌∙◌}
use mathlib.Core.List.{List, [], ◌∷◌}
use Rattle.std.proofs.Math.Logic.{inl, inr}
use Prim.Native.Nat.{ℕ, zero, suc}
use Rattle.values.specs.Values.{Value, is_from}
use Rattle.values.specs.Standings.{Standing, untouched, is_untouched, is_clash, ◌⋓◌, first_of, rest_of, gathered}
use Rattle.values.specs.Theorems.Copies.{is_copy, standing_at}
use Rattle.values.proofs.Theorems.MergeLaws.{by_untouched, unit_left, unit_right, merge_idem, merge_comm, merge_keeps, no_clash_right}
use Rattle.values.proofs.Theorems.Gathering.{only}

pub bool_cases : (b : Bool) → (b ≡ true) ⊎ (b ≡ false)
bool_cases true = inl refl
bool_cases false = inr refl

pub untouched_cases : (s : Standing) → (s ≡ untouched) ⊎ (is_untouched s ≡ false)
untouched_cases s = by_untouched (λ z. (z ≡ untouched) ⊎ (is_untouched z ≡ false)) s (inl refl) (λ p. inr p)

module _ (n : ℕ) where
  -- no copy says anything
  abbrev pub Silent : Value → List Standing → Type 0
  Silent v ss = (i : ℕ) → is_copy n v i ≡ true → standing_at ss i ≡ untouched

  -- copy i says something
  abbrev pub Speaks : Value → List Standing → ℕ → Type 0
  Speaks v ss i = (is_copy n v i ≡ true) × (is_untouched (standing_at ss i) ≡ false)

  pub silent_or_speaks : (v : Value) (ss : List Standing) → Silent v ss ⊎ ((i : ℕ) × Speaks v ss i)
  unfolding is_copy standing_at
  silent_or_speaks [] ss = inl (λ i h. cc)
  silent_or_speaks (x ∷ v) ss = go (bool_cases (is_from n x.origin)) (untouched_cases (first_of ss)) (silent_or_speaks v (rest_of ss))
    where
      go : (is_from n x.origin ≡ true) ⊎ (is_from n x.origin ≡ false) → (first_of ss ≡ untouched) ⊎ (is_untouched (first_of ss) ≡ false)
          → Silent v (rest_of ss) ⊎ ((i : ℕ) × Speaks v (rest_of ss) i) → Silent (x ∷ v) ss ⊎ ((i : ℕ) × Speaks (x ∷ v) ss i)
      go p q (inr r) = inr (suc r.0, r.1)
      go (inl p) (inr q) (inl r) = inr (zero, (p, q))
      go (inl p) (inl q) (inl r) = inl (λ i. elim i as (λ k. is_copy n (x ∷ v) k ≡ true → standing_at ss k ≡ untouched) [ zero ↦ λ h. q | suc j ↦ λ h. r j h ])
      go (inr p) q (inl r) = inl (λ i. elim i as (λ k. is_copy n (x ∷ v) k ≡ true → standing_at ss k ≡ untouched) [ zero ↦ λ h. cc | suc j ↦ λ h. r j h ])

  -- without a clash, each copy that says something says what they come to
  pub gathered_says : (v : Value) (ss : List Standing) (i : ℕ) → Speaks v ss i → is_clash (gathered n v ss) ≡ false → gathered n v ss ≡ standing_at ss i
  unfolding is_copy standing_at gathered
  gathered_says [] ss i h k = let p = h.0 in cc
  gathered_says (x ∷ v) ss zero h k =
      let own : only (is_from n x.origin) (first_of ss) ≡ first_of ss = rw h.0 in
      merge_keeps (only (is_from n x.origin) (first_of ss)) (gathered n v (rest_of ss)) k (ap is_untouched own ∙ h.1) ∙ own
  gathered_says (x ∷ v) ss (suc i) h k =
      let own = only (is_from n x.origin) (first_of ss) in
      let there = gathered_says v (rest_of ss) i h (no_clash_right own (gathered n v (rest_of ss)) k) in
      let turned = merge_comm own (gathered n v (rest_of ss)) in
      turned ∙ merge_keeps (gathered n v (rest_of ss)) own (ap is_clash (sym turned) ∙ k) (ap is_untouched there ∙ h.1) ∙ there

  -- if each copy says s or nothing, they come to s or nothing
  pub gathered_agrees : (s : Standing) (v : Value) (ss : List Standing) → ((i : ℕ) → is_copy n v i ≡ true → (standing_at ss i ≡ untouched) ⊎ (standing_at ss i ≡ s))
      → (gathered n v ss ≡ untouched) ⊎ (gathered n v ss ≡ s)
  unfolding is_copy standing_at gathered
  gathered_agrees s [] ss h = inl refl
  gathered_agrees s (x ∷ v) ss h = go (is_from n x.origin) (λ p. h zero p) (gathered_agrees s v (rest_of ss) (λ i. h (suc i)))
    where
      both : (a b : Standing) → (a ≡ untouched) ⊎ (a ≡ s) → (b ≡ untouched) ⊎ (b ≡ s) → (a ⋓ b ≡ untouched) ⊎ (a ⋓ b ≡ s)
      both a b (inl p) (inl q) = inl (rw (p, q) (unit_left untouched))
      both a b (inl p) (inr q) = inr (rw (p, q) (unit_left s))
      both a b (inr p) (inl q) = inr (rw (p, q) (unit_right s))
      both a b (inr p) (inr q) = inr (rw (p, q) (merge_idem s))

      go : (b : Bool) → (b ≡ true → (first_of ss ≡ untouched) ⊎ (first_of ss ≡ s)) → (gathered n v (rest_of ss) ≡ untouched) ⊎ (gathered n v (rest_of ss) ≡ s)
          → (only b (first_of ss) ⋓ gathered n v (rest_of ss) ≡ untouched) ⊎ (only b (first_of ss) ⋓ gathered n v (rest_of ss) ≡ s)
      go true f r = both (first_of ss) (gathered n v (rest_of ss)) (f refl) r
      go false f r = both untouched (gathered n v (rest_of ss)) (inl refl) r

  pub gathered_silent : (v : Value) (ss : List Standing) → Silent v ss → gathered n v ss ≡ untouched
  gathered_silent v ss h = go (gathered_agrees untouched v ss (λ i p. inl (h i p)))
    where
      go : (gathered n v ss ≡ untouched) ⊎ (gathered n v ss ≡ untouched) → gathered n v ss ≡ untouched
      go (inl p) = p
      go (inr p) = p
