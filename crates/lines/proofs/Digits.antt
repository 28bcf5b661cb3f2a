-- What the code of digits and pairs stands on: a value is small, nothing, or no digit, has the value 0, and a pair is read off what is behind it.
use Rattle.std.specs.Prelude.{◌≡◌, refl, ℕ, ◌+◌, ◌*◌, ◌≤◌, List, length, get_or}
use Rattle.std.proofs.Common.{◌∙◌, add-one, arith, get_or-drop}
use Rattle.std.proofs.Math.ListN.{get_or-eq_default}
use Rattle.std.specs.List.{slice_range}
use Rattle.std.proofs.lemmas.Bool.Decides.{nat_tests}
use Rattle.lines.specs.Hex.{hex_value}
use Rattle.lines.specs.Engine.Starts.{pair_at}
use Rattle.lines.specs.Theorems.Lists.{take_rest}
use Rattle.lines.proofs.Theorems.Pairs.{value_small, no_value, digit_value}

pub nothing : hex_value 0 ≡ 0
unfolding hex_value
nothing = refl

module _ (s : List ℕ) (p : ℕ) where
  no_digit : (i : ℕ) → length s ≤ i → hex_value (get_or s i 0) ≡ 0
  no_digit i h = rw (get_or-eq_default s 0 h) nothing

  pub pair_whole : pair_at s p ≡ 16 * hex_value (get_or s p 0) + hex_value (get_or s (p + 1) 0)
  unfolding pair_at
  pair_whole = rw (add-one p) refl

  pub pair_half : length s ≡ p + 1 → pair_at s p ≡ 16 * hex_value (get_or s p 0)
  pair_half h = pair_whole ∙ rw (no_digit (p + 1) (omega arith)) (omega arith)

  pub pair_none : length s ≤ p → pair_at s p ≡ 0
  pair_none h = pair_whole ∙ rw (no_digit p h, no_digit (p + 1) (omega arith)) refl

  pub read_behind : (i d : ℕ) → get_or (slice_range s p (length s)) i d ≡ get_or s (p + i) d
  read_behind i d = rw (take_rest p s) (get_or-drop p s i d)

pub ruleset digits = (value_small, no_value, digit_value, nothing, nat_tests)

pub ruleset pair_reads = (value_small, pair_whole, pair_half, pair_none, read_behind)
