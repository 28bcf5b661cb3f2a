-- A list that a loop goes over: what is left of it.
use mathlib.Core.Path.{◌≡◌, ap}
use mathlib.Core.List.{List, ◌∷◌}
use Prim.Native.Nat.{ℕ, ◌+◌, ◌<◌}
use native.Mathlib.Omega.{arith}
use lib.ListN.{length, get_or, drop, length-drop}
use Rattle.lines.specs.Theorems.Lists.{drop_one}

pub drop_some : {A : Type 0} (l : List A) (k : ℕ) (d x : A) (xs : List A) → drop k l ≡ x ∷ xs → (k < length l) × (get_or l k d ≡ x) × (drop (k + 1) l ≡ xs)
drop_some l k d x xs e =
    let h : k < length l = omega (arith, ap length e, length-drop k l) in
    let o = drop_one l k d h in
    (h, cc, cc)
