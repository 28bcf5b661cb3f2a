-- The rules' answers by the answers of the runs below, the numbers compared left out.
use mathlib.Core.Path.{◌≡◌, refl, sym, ◌∙◌, ap}
use mathlib.Core.Bool.{Bool, true, false}
use mathlib.Core.List.{List, [], ◌∷◌, ◌++◌, append_assoc}
use Prim.Native.Nat.{ℕ, ◌+◌, ◌≤◌, ◌<◌}
use native.Mathlib.Omega.{arith}
use lib.ListN.{length}
use borrow.Author.Tests.{le-leb, lt-leb}
use Rattle.lines.specs.Texts.{agree}
use Rattle.values.specs.Values.{Value, Node, Lookup, bytes_of, raised, within_bounds}
use Rattle.runs.specs.declared.stop.Stop.{Stop}
use Rattle.runs.specs.declared.stop.Stop.TheVariants.{Size}
use Rattle.runs.specs.Results.{Result, gives, stops, ◌>>=◌}
use Rattle.runs.specs.Programs.{equals}
use Rattle.runs.specs.Showing.{Slots, Single, Shown, Answer, shown, one_element, one_text, bounded, in_turn, verdict}
use Rattle.runs.specs.Engine.Runs.{value_only, yes_only}
use Rattle.runs.specs.Theorems.RunAnswers.{Gave}
use Rattle.runs.specs.Theorems.Combinators.{Run, Asking, within_run, then_run, choose_run, branch_run, compares_ask}

-- ## 07

module _ (look : Lookup) (e : ℕ) (run : Run) (S : Slots) (v : Value) (x : Single) (p : one_element look e v ≡ gives x) where
  pub within_stops : (s : Stop) → run S x.inner ≡ stops s → stops s ≡ value_only (within_run look e run S v)
  within_stops s h = rw (p, h)

  module _ (u : Value) (g : Gave (run S x.inner) u) where
    within_bounded : value_only (within_run look e run S v) ≡ value_only (bounded e (x.top ∷ raised u) g.all.compared)
    within_bounded = rw (p, g.is, g.value)

    pub within_large : within_bounds (x.top ∷ raised u) ≡ false → stops (Size e) ≡ value_only (within_run look e run S v)
    unfolding bounded
    within_large h = sym (within_bounded ∙ rw h)

    pub within_gives : within_bounds (x.top ∷ raised u) ≡ true → gives (x.top ∷ raised u) ≡ value_only (within_run look e run S v)
    unfolding bounded
    within_gives h = sym (within_bounded ∙ rw h)

-- ## 08

module _ (f g : Run) (S : Slots) (v : Value) where
  pub then_first_stops : (s : Stop) → f S v ≡ stops s → stops s ≡ value_only (then_run f g S v)
  then_first_stops s h = rw h

  module _ (u : Value) (a : Gave (f S v) u) where
    pub then_stops : (s : Stop) → g S u ≡ stops s → stops s ≡ value_only (then_run f g S v)
    then_stops s h = rw (a.is, a.value, h)

    pub then_gives : (o : Value) → Gave (g S u) o → gives o ≡ value_only (then_run f g S v)
    then_gives o b = rw (a.is, a.value, b.is) (ap gives (sym b.value))

-- ## 09 and 0A: parts in turn

abbrev pub behind : Value → Result Stop Value → Result Stop Value
behind u (gives v) = gives (u ++ v)
behind u (stops s) = stops s

module _ (e sofar : ℕ) where
  pub turn_ends : gives [] ≡ value_only (in_turn e sofar [])
  unfolding in_turn
  turn_ends = refl

  module _ (r : Result Stop Shown) (rs : List (Result Stop Shown)) where
    pub turn_stops : (s : Stop) → r ≡ stops s → value_only (in_turn e sofar (r ∷ rs)) ≡ stops s
    unfolding in_turn
    turn_stops s h = rw h

    module _ (u : Value) (a : Gave r u) where
      pub turn_large : 128 < sofar + length u → value_only (in_turn e sofar (r ∷ rs)) ≡ stops (Size e)
      unfolding in_turn
      turn_large h = rw (a.is, a.value, lt-leb (sofar + length u) 128 h)

      pub turn_goes_on : sofar + length u ≤ 128 → value_only (in_turn e sofar (r ∷ rs)) ≡ behind u (value_only (in_turn e (sofar + length u) rs))
      unfolding in_turn
      turn_goes_on h = rw (a.is, a.value, le-leb (sofar + length u) 128 h) (rest (in_turn e (sofar + length u) rs))
        where
          rest : (z : Result Stop Shown) → value_only (z >>= λ b. shown (u ++ b.value) (a.all.compared ++ b.compared)) ≡ behind u (value_only z)
          rest (gives b) = refl
          rest (stops s) = refl

pub behind_nothing : (r : Result Stop Value) → behind [] r ≡ r
behind_nothing (gives v) = refl
behind_nothing (stops s) = refl

pub behind_behind : (u v : Value) (r : Result Stop Value) → behind u (behind v r) ≡ behind (u ++ v) r
behind_behind u v (gives o) = ap gives (sym (append_assoc u v o))
behind_behind u v (stops s) = refl

-- ## 0B

module _ (ask : Asking) (f g : Run) (S : Slots) (v : Value) where
  pub choose_stops : (s : Stop) → stops s ≡ yes_only (ask S v) → stops s ≡ value_only (choose_run ask f g S v)
  choose_stops s h = go (ask S v) h
    where
      go : (r : Result Stop Answer) → stops s ≡ yes_only r
          → stops s ≡ value_only (r >>= λ p. branch_run p.yes f g S v >>= λ a. shown a.value (p.compared ++ a.compared))
      go (gives p) h = let z : ◌≡◌ {A = ℕ} 0 1 = cc in absurd (omega arith)
      go (stops t) h = cc

  pub choose_says : (b : Bool) → gives b ≡ yes_only (ask S v) → value_only (branch_run b f g S v) ≡ value_only (choose_run ask f g S v)
  choose_says b h = go (ask S v) h
    where
      same : (c : List ℕ) (z : Result Stop Shown) → value_only z ≡ value_only (z >>= λ a. shown a.value (c ++ a.compared))
      same c (gives a) = refl
      same c (stops s) = refl

      go : (r : Result Stop Answer) → gives b ≡ yes_only r
          → value_only (branch_run b f g S v) ≡ value_only (r >>= λ p. branch_run p.yes f g S v >>= λ a. shown a.value (p.compared ++ a.compared))
      go (gives p) h = let e : b ≡ p.yes = cc in rw e (same p.compared (branch_run p.yes f g S v))
      go (stops t) h = let z : ◌≡◌ {A = ℕ} 0 1 = cc in absurd (omega arith)

-- ## 11

module _ (look : Lookup) (e : ℕ) (run : Run) (S : Slots) (v : Value) where
  abbrev asked : Result Stop Bool
  asked = yes_only (compares_ask look (verdict equals e) e run S v)

  pub equals_no_source : (s : Stop) → one_text look e v ≡ stops s → stops s ≡ asked
  equals_no_source s h = rw h

  module _ (x : Node) (p : one_text look e v ≡ gives x) where
    pub equals_stops : (s : Stop) → run S [] ≡ stops s → stops s ≡ asked
    equals_stops s h = rw (p, h)

    module _ (u : Value) (a : Gave (run S []) u) where
      pub equals_no_other : (s : Stop) → one_text look e u ≡ stops s → stops s ≡ asked
      equals_no_other s h = rw (p, a.is, a.value, h)

      pub equals_says : (y : Node) → one_text look e u ≡ gives y → gives (agree (bytes_of look x.origin) (bytes_of look y.origin)) ≡ asked
      unfolding verdict
      equals_says y h = rw (p, a.is, a.value, h)
