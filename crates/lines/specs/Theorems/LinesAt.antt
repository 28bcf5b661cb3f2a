-- A file's lines, by where they begin: those from line k on, line i, and a node's text.
use Rattle.std.specs.Prelude.{◌≡◌, List, [], ◌∷◌, map, ℕ, ◌+◌, ◌≤◌, ◌<◌, length, get_or, drop}
use Rattle.std.proofs.Common.{ap, arith, drop_of_length-le}
use Rattle.std.proofs.lemmas.List.{length-map}
use Rattle.std.proofs.Math.ListN.{get_or-eq_default}
use Rattle.lines.specs.Theorems.Lists.{drop_one, map_at}
use Rattle.lines.specs.Engine.Starts.{node_at, text_at}

-- lines from line k on, read at their places
module _ {A : Type 0} (read : ℕ → A) (places : List ℕ) (k : ℕ) where
  pub nodes_none : length places ≤ k → map read (drop k places) ≡ []
  nodes_none h = rw (drop_of_length-le places h)

  pub nodes_one : k < length places → map read (drop k places) ≡ read (get_or places k 0) ∷ map read (drop (k + 1) places)
  nodes_one h = rw (drop_one places k 0 h)

-- one line, and none
module _ {A : Type 0} (f : ℕ → A) (starts : List ℕ) (i : ℕ) (d : A) where
  pub line_at_map : i < length starts → get_or (map f starts) i d ≡ f (get_or starts i 0)
  line_at_map h = map_at f starts i d 0 h

  pub no_line_at : length starts ≤ i → get_or (map f starts) i d ≡ d
  no_line_at h = let l : length (map f starts) ≤ i = omega (arith, length-map starts f) in get_or-eq_default (map f starts) d l

-- a node's text stands ten bytes behind the start of its line
pub text_at_place : (s : List ℕ) (p : ℕ) {r : ℕ} → r ≡ p + 10 → text_at s r ≡ (node_at s p).text
unfolding node_at
text_at_place s p e = ap (text_at s) e
