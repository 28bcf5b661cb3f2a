-- When a node's standing is no clash: all its edited lines carry the same edit, and if one is edited its text was not compared. And which standing it then is.
use Rattle.std.specs.Prelude.{◌≡◌, Bool, List, ◌⊎◌, ℕ}
use Rattle.std.proofs.Math.Path.{refl, sym}
use Rattle.std.proofs.Common.{ap, ap₂, ◌∙◌}
use Rattle.std.proofs.Math.Bool.{true, false}
use Rattle.std.proofs.Math.Logic.{inl, inr}
use Rattle.values.specs.Values.{Value, among}
use Rattle.values.specs.Standings.{Standing, untouched, locked, sort, is_untouched, is_clash, ◌⋓◌, gathered}
use Rattle.values.proofs.Theorems.MergeLaws.{unit_left, unit_right, differ, no_clash_left}
use Rattle.values.proofs.Theorems.Gathering.{only}
use Rattle.values.specs.Theorems.Copies.{is_copy, standing_at}
use Rattle.values.proofs.Theorems.Copies.{untouched_cases, Silent, Speaks, silent_or_speaks, gathered_says, gathered_agrees, gathered_silent}
use Rattle.values.proofs.Theorems.Edits.{FromLine}
use Rattle.runs.proofs.Theorems.Conservation.{lock}

-- of node n, by the standings ss that a view brings and the numbers compared
pub record Agreed (n : ℕ) (v : Value) (ss : List Standing) (compared : List ℕ) : Type 0 where
  pub alike : (i j : ℕ) → Speaks n v ss i → Speaks n v ss j → standing_at ss i ≡ standing_at ss j
  pub uncompared : (i : ℕ) → Speaks n v ss i → among n compared ≡ false

module _ (n : ℕ) (v : Value) (ss : List Standing) (compared : List ℕ) (fromLines : (i : ℕ) → FromLine (standing_at ss i)) where
  pub no_clash_agreed : is_clash (gathered n v ss ⋓ lock n compared) ≡ false → Agreed n v ss compared
  unfolding is_clash is_untouched sort
  no_clash_agreed h =
      let plain = no_clash_left (gathered n v ss) (lock n compared) h in
      record {
        alike = λ i j p q. sym (gathered_says n v ss i p plain) ∙ gathered_says n v ss j q plain;
        uncompared = λ i p. free i p (among n compared) refl (gathered_says n v ss i p plain);
      }
    where
      -- an edit beside a lock is a clash
      free : (i : ℕ) → Speaks n v ss i → (b : Bool) → among n compared ≡ b → gathered n v ss ≡ standing_at ss i → b ≡ false
      free i p false e s = refl
      free i p true e s = sym (ap is_clash (ap₂ (λ (x : Standing) (b : Bool). x ⋓ only b locked) s e ∙ differ (standing_at ss i) locked p.1 refl (fromLines i).1)) ∙ h

  -- the edit of its lines
  pub agreed_edit : Agreed n v ss compared → (i : ℕ) → Speaks n v ss i → gathered n v ss ⋓ lock n compared ≡ standing_at ss i
  unfolding is_clash sort
  agreed_edit k i p =
      rw (k.uncompared i p) (unit_right (gathered n v ss) ∙ gathered_says n v ss i p
      (plain (gathered_agrees n (standing_at ss i) v ss (λ j h. each j h (untouched_cases (standing_at ss j))))))
    where
      each : (j : ℕ) → is_copy n v j ≡ true → (standing_at ss j ≡ untouched) ⊎ (is_untouched (standing_at ss j) ≡ false)
          → (standing_at ss j ≡ untouched) ⊎ (standing_at ss j ≡ standing_at ss i)
      each j h (inl q) = inl q
      each j h (inr q) = inr (k.alike j i (h, q) p)

      plain : (gathered n v ss ≡ untouched) ⊎ (gathered n v ss ≡ standing_at ss i) → is_clash (gathered n v ss) ≡ false
      plain (inl q) = ap is_clash q
      plain (inr q) = ap is_clash q ∙ (fromLines i).0

  -- nothing but a lock
  pub silent_lock : Silent n v ss → gathered n v ss ⋓ lock n compared ≡ lock n compared
  silent_lock h = rw (gathered_silent n v ss h) (unit_left (lock n compared))

  pub agreed_no_clash : Agreed n v ss compared → is_clash (gathered n v ss ⋓ lock n compared) ≡ false
  unfolding is_clash sort
  agreed_no_clash k = go (silent_or_speaks n v ss)
    where
      plain : (b : Bool) → is_clash (only b locked) ≡ false
      plain true = refl
      plain false = refl

      go : Silent n v ss ⊎ ((i : ℕ) × Speaks n v ss i) → is_clash (gathered n v ss ⋓ lock n compared) ≡ false
      go (inl h) = ap is_clash (silent_lock h) ∙ plain (among n compared)
      go (inr (i, p)) = ap is_clash (agreed_edit k i p) ∙ (fromLines i).0
