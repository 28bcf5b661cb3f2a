-- A line that has its file's form is at most as wide as the widest, and a file whose lines all have it is no longer than the longest.
use Rattle.std.proofs.Math.Path.{◌≡◌, refl}
use Rattle.std.proofs.Common.{ap, mul_comm, length-drop}
use Rattle.std.specs.Prelude.{Bool, ◌&&◌, eqb, leb, get_or, drop, Option, None, Some, Ok, Err}
use Rattle.std.proofs.Math.Bool.{true, false, cond}
use mathlib.Core.List.{List, [], ◌∷◌, ◌++◌}
use Prim.Native.Nat.{ℕ, suc, ◌+◌, ◌*◌, ◌-◌, ◌≤◌, ◌<◌}
use Rattle.std.proofs.Math.Nat.{mul-suc}
use native.Mathlib.Omega.{arith}
use Rattle.std.proofs.Math.Dec.{ltb}
use Rattle.std.proofs.Math.ListN.{length, length-append}
use borrow.Author.Tests.{leb-true, eqb-true, ltb-true}
use Rattle.lines.specs.declared.scan.File.{File}
use Rattle.lines.specs.declared.scan.File.TheVariants.{Program, Master, View}
use Rattle.lines.specs.declared.table.Shape.{Shape}
use Rattle.lines.specs.declared.table.Shape.TheVariants.{Nothing, Text, Tag, Slot}
use Rattle.lines.specs.Hex.{decode}
use Rattle.lines.specs.Lines.{pairs_then_end, is_line, cut}
use Rattle.lines.specs.Nodes.{Line, node_form, node_line}
use Rattle.lines.specs.Entries.{text_form, operand_form, entry_form, entry_line, operand_shape}
use Rattle.lines.specs.Files.{form_of, limit_of, widest_of, longest_of, scan_from, scan}
use Rattle.lines.specs.Writing.{file_of}
use Rattle.lines.specs.Theorems.Bools.{never, and_left, and_right}
use Rattle.lines.proofs.Theorems.Pairs.{line_length_is}
use Rattle.lines.specs.Theorems.Cutting.{joined, joined_cut}
use Rattle.lines.proofs.Theorems.RoundTrip.{view_of_nodes, scan_written}
use Rattle.lines.specs.Engine.Starts.{taken}
use Rattle.lines.specs.Engine.Writes.{AllWritable}

text_short : (b : List ℕ) → text_form b ≡ true → length b ≤ 33
unfolding text_form
text_short b e =
    let r = and_right (leb 1 (length b)) _ e in
    let x = leb-true (get_or b 0 0) 32 (and_left (leb (get_or b 0 0) 32) _ r) in
    let y = eqb-true (length b) (1 + get_or b 0 0) (and_right (leb (get_or b 0 0) 32) _ r) in
    omega arith

pub text_some : (b : List ℕ) → text_form b ≡ true → 1 ≤ length b
unfolding text_form
text_some b e = leb-true 1 (length b) (and_left (leb 1 (length b)) _ e)

operand_short : (shape : Option Shape) (b : List ℕ) → operand_form shape b ≡ true → length b ≤ 33
unfolding operand_form
operand_short (Some Nothing) b e = let y = eqb-true (length b) 0 e in omega arith
operand_short (Some Text) b e = text_short b e
operand_short (Some Tag) b e = text_short b (and_left (text_form b) _ e)
operand_short (Some Slot) b e = let y = eqb-true (length b) 1 e in omega arith
operand_short None b e = never e

line_width : (c : List ℕ) → is_line c ≡ true → length c ≡ 1 + 2 * length (decode c)
unfolding is_line
line_width c e = line_length_is c (and_left (pairs_then_end c) _ e)

entry_width : (c : List ℕ) → entry_line c ≡ true → length c ≤ 69
unfolding entry_line entry_form
entry_width c e =
    let b = decode c in
    let x = operand_short (operand_shape (get_or b 0 0)) (drop 1 b) (and_right (is_line c) _ e) in
    omega (arith, line_width c (and_left (is_line c) _ e), length-drop 1 b)

node_width : (c : List ℕ) → node_line c ≡ true → length c ≤ 77
unfolding node_line node_form
node_width c e =
    let b = decode c in
    let x = and_right (leb 6 (length b)) _ (and_right (is_line c) _ e) in
    let y = eqb-true (length b) (6 + get_or b 5 0) (and_left (eqb (length b) (6 + get_or b 5 0)) _ x) in
    let z = leb-true (get_or b 5 0) 32 (and_left (leb (get_or b 5 0) 32) _ (and_right (eqb (length b) (6 + get_or b 5 0)) _ x)) in
    omega (arith, line_width c (and_left (is_line c) _ e))

pub form_width : (file : File) (c : List ℕ) → form_of file c ≡ true → length c ≤ widest_of file
unfolding form_of widest_of
form_width Program c e = entry_width c e
form_width Master c e = node_width c e
form_width View c e = node_width c e

pub limit_small : (file : File) → limit_of file ≤ 128
unfolding limit_of
limit_small Program = omega arith
limit_small Master = omega arith
limit_small View = omega arith

pub width_small : (file : File) → widest_of file ≤ 77
unfolding widest_of
width_small Program = omega arith
width_small Master = omega arith
width_small View = omega arith

-- ## Whole scans, over any form and width

module _ (form : List ℕ → Bool) (limit width : ℕ) (wide : (c : List ℕ) → form c ≡ true → length c ≤ width) where
  -- what a scan took is within the limit
  pub taken_few : (n : ℕ) (cs : List (List ℕ)) → n ≤ limit → taken (scan_from form limit n cs) ≤ limit
  unfolding scan_from
  taken_few n [] h = h
  taken_few n (c ∷ cs) h = go (ltb n limit) (form c) refl (λ g. taken_few (suc n) cs g)
    where
      go : (t u : Bool) → ltb n limit ≡ t → (suc n ≤ limit → taken (scan_from form limit (suc n) cs) ≤ limit)
          → taken (cond (t && u) (scan_from form limit (suc n) cs) (Err n)) ≤ limit
      go true true q ih = ih (ltb-true n limit q)
      go true false q ih = h
      go false u q ih = h

  -- a scan that took all lines took few bytes
  pub joined_short : (n : ℕ) (cs : List (List ℕ)) (k : ℕ) → n ≤ limit → scan_from form limit n cs ≡ Ok k → length (joined cs) ≤ width * (limit - n)
  unfolding scan_from joined
  joined_short n [] k h e = omega arith
  joined_short n (c ∷ cs) k h e = go (ltb n limit) (form c) refl refl e (λ g r. joined_short (suc n) cs k g r)
    where
      go : (t u : Bool) → ltb n limit ≡ t → form c ≡ u → cond (t && u) (scan_from form limit (suc n) cs) (Err n) ≡ Ok k
          → (suc n ≤ limit → scan_from form limit (suc n) cs ≡ Ok k → length (joined cs) ≤ width * (limit - suc n)) → length (c ++ joined cs) ≤ width * (limit - n)
      go true true q f r ih =
          let l : n < limit = ltb-true n limit q in
          let z : limit - n ≡ suc (limit - suc n) = omega arith in
          rw z (omega (arith, length-append c (joined cs), wide c f, ih l r, mul-suc width (limit - suc n)))
      go true false q f r ih = absurd (let z : ◌≡◌ {A = ℕ} 0 1 = cc in omega arith)
      go false u q f r ih = absurd (let z : ◌≡◌ {A = ℕ} 0 1 = cc in omega arith)

-- ## The theorems

pub scan_few : (file : File) (s : List ℕ) → taken (scan file s) ≤ limit_of file
unfolding scan
scan_few file s = taken_few (form_of file) (limit_of file) (widest_of file) (form_width file) 0 (cut s) (omega arith)

-- a file that scans is within the longest legal one
pub scanned_short : (file : File) (s : List ℕ) (n : ℕ) → scan file s ≡ Ok n → length s ≤ longest_of file
unfolding scan longest_of
scanned_short file s n e =
    let h = joined_short (form_of file) (limit_of file) (widest_of file) (form_width file) 0 (cut s) n (omega arith) e in
    let z : limit_of file - 0 ≡ limit_of file = omega arith in
    let m : widest_of file * (limit_of file - 0) ≡ limit_of file * widest_of file = rw z (mul_comm (widest_of file) (limit_of file)) in
    omega (arith, ap length (joined_cut s), h, m)

-- as is the file of 128 lines that can be written
pub file_short : (ls : List Line) → AllWritable ls → length ls ≤ 128 → length (file_of ls) ≤ 9856
unfolding longest_of limit_of widest_of
file_short ls form few = scanned_short View (file_of ls) (length ls) (scan_written View view_of_nodes ls form few)
