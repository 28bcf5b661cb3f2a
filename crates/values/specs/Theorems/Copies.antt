-- The copies of a node in a value, and the standings beside them.
use Rattle.std.specs.Prelude.{Bool, false}
use mathlib.Core.List.{List, [], ◌∷◌}
use Prim.Native.Nat.{ℕ, zero, suc}
use Rattle.values.specs.Values.{Value, is_from}
use Rattle.values.specs.Standings.{Standing, first_of, rest_of}

-- whether the value's node i is a copy of the master's node n
unfoldable pub is_copy : ℕ → Value → ℕ → Bool
is_copy n [] i = false
is_copy n (x ∷ v) zero = is_from n x.origin
is_copy n (x ∷ v) (suc i) = is_copy n v i

-- the standing beside node i
unfoldable pub standing_at : List Standing → ℕ → Standing
standing_at ss zero = first_of ss
standing_at ss (suc i) = standing_at (rest_of ss) i
