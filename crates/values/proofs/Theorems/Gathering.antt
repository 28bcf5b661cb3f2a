-- What is said of a node, through everything that is done to a value and to the standings beside it.
use Rattle.std.specs.Prelude.{◌≡◌, Bool, true, false, cond, ℕ, zero, suc, length, take, drop}
use Rattle.std.proofs.Math.Path.{refl, sym}
use mathlib.Core.List.{List, [], ◌∷◌, ◌++◌}
use Rattle.values.specs.Values.{Value, is_from, lowered, raised}
use Rattle.values.specs.Standings.{Standing, untouched, ◌⋓◌, first_of, rest_of, fitted, all_over, merged, gathered}
use Rattle.values.proofs.Theorems.MergeLaws.{unit_left, unit_right, merge_assoc, merge_swap}

-- a part that counts only if b holds
abbrev pub only : Bool → Standing → Standing
only b s = cond b s untouched

pub only_untouched : (b : Bool) → only b untouched ≡ untouched
only_untouched true = refl
only_untouched false = refl

pub only_merge : (b : Bool) (s t : Standing) → only b (s ⋓ t) ≡ only b s ⋓ only b t
only_merge true s t = refl
only_merge false s t = sym (unit_left untouched)

-- ## Lists of standings

pub merged_first : (ss ts : List Standing) → first_of (merged ss ts) ≡ first_of ss ⋓ first_of ts
unfolding merged
merged_first [] ts = sym (unit_left (first_of ts))
merged_first (s ∷ ss) [] = sym (unit_right s)
merged_first (s ∷ ss) (t ∷ ts) = refl

pub merged_rest : (ss ts : List Standing) → rest_of (merged ss ts) ≡ merged (rest_of ss) (rest_of ts)
unfolding merged
merged_rest [] ts = refl
merged_rest (s ∷ []) [] = refl
merged_rest (s ∷ r ∷ ss) [] = refl
merged_rest (s ∷ ss) (t ∷ ts) = refl

pub take_first : (k : ℕ) (ss : List Standing) → first_of (take (suc k) ss) ≡ first_of ss
take_first k [] = refl
take_first k (s ∷ ss) = refl

pub take_rest : (k : ℕ) (ss : List Standing) → rest_of (take (suc k) ss) ≡ take k (rest_of ss)
take_rest zero [] = refl
take_rest (suc k) [] = refl
take_rest k (s ∷ ss) = refl

pub drop_rest : (k : ℕ) (ss : List Standing) → drop (suc k) ss ≡ drop k (rest_of ss)
drop_rest zero [] = refl
drop_rest (suc k) [] = refl
drop_rest k (s ∷ ss) = refl

-- ## What is said of node n

module _ (n : ℕ) where
  pub gathered_nil : (v : Value) → gathered n v [] ≡ untouched
  unfolding gathered
  gathered_nil [] = refl
  gathered_nil (x ∷ v) = rw (only_untouched (is_from n x.origin), gathered_nil v) (unit_left untouched)

  -- also where the list belongs to another value
  pub gathered_untouched : (v w : Value) → gathered n v (all_over untouched w) ≡ untouched
  unfolding gathered all_over
  gathered_untouched [] w = refl
  gathered_untouched (x ∷ v) [] = gathered_nil (x ∷ v)
  gathered_untouched (x ∷ v) (y ∷ w) = rw (only_untouched (is_from n x.origin), gathered_untouched v w) (unit_left untouched)

  pub gathered_merged : (v : Value) (ss ts : List Standing) → gathered n v (merged ss ts) ≡ gathered n v ss ⋓ gathered n v ts
  unfolding gathered
  gathered_merged [] ss ts = sym (unit_left untouched)
  gathered_merged (x ∷ v) ss ts =
      let b = is_from n x.origin in
      rw (merged_first ss ts, merged_rest ss ts, only_merge b (first_of ss) (first_of ts), gathered_merged v (rest_of ss) (rest_of ts))
      (merge_swap (only b (first_of ss)) (only b (first_of ts)) (gathered n v (rest_of ss)) (gathered n v (rest_of ts)))

  -- a view, cut where the first part ends
  pub gathered_cut : (v w : Value) (ss : List Standing) → gathered n (v ++ w) ss ≡ gathered n v (take (length v) ss) ⋓ gathered n w (drop (length v) ss)
  unfolding gathered
  gathered_cut [] w ss = sym (unit_left (gathered n w ss))
  gathered_cut (x ∷ v) w ss =
      rw (take_first (length v) ss, take_rest (length v) ss, drop_rest (length v) ss, gathered_cut v w (rest_of ss))
      (sym (merge_assoc (only (is_from n x.origin) (first_of ss)) (gathered n v (take (length v) (rest_of ss))) (gathered n w (drop (length v) (rest_of ss)))))

  -- standings behind the value's end say nothing
  pub gathered_take : (v : Value) (ss : List Standing) → gathered n v (take (length v) ss) ≡ gathered n v ss
  unfolding gathered
  gathered_take [] ss = refl
  gathered_take (x ∷ v) ss = rw (take_first (length v) ss, take_rest (length v) ss, gathered_take v (rest_of ss))

  pub gathered_fitted : (v w : Value) (ss ts : List Standing) → gathered n (v ++ w) (fitted v ss ++ ts) ≡ gathered n v ss ⋓ gathered n w ts
  unfolding gathered fitted
  gathered_fitted [] w ss ts = sym (unit_left (gathered n w ts))
  gathered_fitted (x ∷ v) w ss ts =
      rw (gathered_fitted v w (rest_of ss) ts) (sym (merge_assoc (only (is_from n x.origin) (first_of ss)) (gathered n v (rest_of ss)) (gathered n w ts)))

  -- depths do not matter
  pub gathered_lowered : (v : Value) (ss : List Standing) → gathered n (lowered v) ss ≡ gathered n v ss
  unfolding gathered lowered
  gathered_lowered [] ss = refl
  gathered_lowered (x ∷ v) ss = rw (gathered_lowered v (rest_of ss))

  pub gathered_raised : (v : Value) (ss : List Standing) → gathered n (raised v) ss ≡ gathered n v ss
  unfolding gathered raised
  gathered_raised [] ss = refl
  gathered_raised (x ∷ v) ss = rw (gathered_raised v (rest_of ss))
