-- What the tests of one line's bytes share, and what they say of the line.
use mathlib.Core.Path.{◌≡◌, refl, sym, ◌∙◌, ap}
use mathlib.Core.Bool.{Bool, true, false, ◌&&◌}
use mathlib.Core.List.{List, [], ◌∷◌}
use Prim.Native.Nat.{ℕ, ◌+◌, ◌-◌, ◌*◌, ◌/◌, ◌≤◌, ◌<◌}
use native.Mathlib.Omega.{arith}
use lib.Dec.{leb}
use lib.ListN.{length, get_or, drop, take}
use borrow.Author.Tests.{le-leb}
use Rattle.std.proofs.lemmas.Bool.Decides.{nat_tests}
use Rattle.std.proofs.lemmas.List.Folds.{list_all-map}
use Rattle.std.proofs.lemmas.List.FromFn.{fill_by_all}
use Rattle.std.specs.List.{list_all, range_with_len}
use Rattle.lines.specs.declared.scan.File.{File}
use Rattle.lines.specs.declared.scan.File.TheVariants.{Program, Master, View}
use Rattle.lines.specs.Hex.{decode}
use Rattle.lines.specs.Lines.{pairs_then_end, is_line}
use Rattle.lines.specs.Nodes.{all_of, node_form, node_line}
use Rattle.lines.specs.Entries.{rows, row_of, text_form, operand_form, entry_form, entry_line}
use Rattle.lines.specs.Files.{form_of}
use Rattle.lines.specs.Theorems.Lists.{take_rest}
use Rattle.lines.proofs.Theorems.Widths.{text_some}
use Rattle.lines.proofs.Theorems.Pairs.{length_decode, get_d_decode, decode_end, drop_decode}
use Rattle.lines.specs.Engine.Starts.{pair_at}

-- a line of whole pairs and 0A has the form if its bytes have it: no byte at all is no form
fields_decide : (form : List ℕ → Bool) → form [] ≡ false → (c : List ℕ) → pairs_then_end c ≡ true → (is_line c && form (decode c)) ≡ form (decode c)
unfolding is_line
fields_decide form none c e = rw e (go (decode c))
  where
    go : (b : List ℕ) → (leb 1 (length b) && form b) ≡ form b
    go [] = sym none
    go (x ∷ b) = rw (le-leb 1 (length (x ∷ b)) (omega arith))

pub node_decides : (c : List ℕ) → pairs_then_end c ≡ true → node_line c ≡ node_form (decode c)
unfolding node_line node_form
node_decides c e = fields_decide node_form refl c e

pub no_entry : entry_form [] ≡ false
unfolding entry_form row_of rows operand_form
no_entry = refl

pub entry_decides : (c : List ℕ) → pairs_then_end c ≡ true → entry_line c ≡ entry_form (decode c)
unfolding entry_line
entry_decides c e = fields_decide entry_form no_entry c e

pub ruleset decides = (node_decides, entry_decides)

-- any other line has no form
pub formless : (file : File) (c : List ℕ) → pairs_then_end c ≡ false → form_of file c ≡ false
unfolding form_of entry_line node_line is_line
formless Program c e = rw e
formless Master c e = rw e
formless View c e = rw e

-- what is behind a line's or a text's first pair, and behind a node's six
pub behind_one : (s : List ℕ) → decode (take (length s - 2) (drop 2 s)) ≡ drop 1 (decode s)
behind_one s = rw (take_rest 2 s, drop_decode 1 s)

pub behind_six : (s : List ℕ) → decode (take (length s - 12) (drop 12 s)) ≡ drop 6 (decode s)
behind_six s = rw (take_rest 12 s, drop_decode 6 s)

pub no_pair : (s : List ℕ) → length s < 2 → decode s ≡ []
no_pair s h = decode_end s 0 (omega arith)

-- a byte by the place of its pair
pub byte_by_place : (s : List ℕ) (k p : ℕ) → p ≡ 2 * k → p + 2 ≤ length s → get_or (decode s) k 0 ≡ pair_at s p
byte_by_place s k p e h = get_d_decode s k (omega (arith, length_decode s)) ∙ ap (pair_at s) (sym e)

pub text_two : (d : List ℕ) → text_form (decode d) ≡ true → 2 ≤ length d
text_two d e = omega (arith, text_some (decode d) e, length_decode d)

pub ruleset pairs = (behind_one, behind_six, byte_by_place, text_two, length_decode, no_pair, no_entry, nat_tests)

-- a test of every byte, pair by pair
pub all_pairs : (f : ℕ → Bool) (s : List ℕ) (n : ℕ) → n ≡ length s / 2 → list_all (λ i. f (pair_at s (2 * i))) (range_with_len 0 n) ≡ all_of f (decode s)
unfolding all_of
all_pairs f s n e =
    let bytes = fill_by_all (λ i. pair_at s (2 * i)) (decode s) n 0 (length_decode s ∙ sym e) (λ k h. get_d_decode s k (omega (arith, length_decode s))) in
    sym (list_all-map f (λ i. pair_at s (2 * i)) (range_with_len 0 n)) ∙ (ap (list_all f) (sym bytes) ∙ go (decode s))
  where
    go : (t : List ℕ) → list_all f t ≡ all_of f t
    go [] = refl
    go (x ∷ t) = rw (go t)
