-- The scanner at a line's start: the rest scans as the whole file does, the rest's lines begin where the whole file's do, and the places before are noted.
use Rattle.std.specs.Prelude.{◌≡◌, ℕ, ◌+◌, ◌*◌, ◌-◌, ◌≤◌, ◌<◌, true, List, ◌∷◌, ◌++◌, length, take, drop, Result}
use Rattle.std.proofs.Common.{sym, ◌∙◌, ap, add-one, arith}
use native.Mathlib.Numerals.{lt_of_le_of_ne}
use lib.ListN.{set, length-set}
use Rattle.lines.specs.declared.scan.File.{File}
use Rattle.lines.specs.Lines.{cut}
use Rattle.lines.specs.Files.{form_of, limit_of, scan_from, scan}
use Rattle.lines.specs.Engine.Starts.{taken, Scanned, starts_from, starts}
use Rattle.lines.proofs.Theorems.Widths.{form_width, limit_small, width_small, scan_few}
use Rattle.lines.proofs.Scans.{Ended, scan_more, drop_next, note_more}

pub record At (file : File) (s before : List ℕ) (limit : ℕ) (noted : List ℕ) (n at : ℕ) : Type 0 where
  pub limited : limit ≡ limit_of file
  pub within : at ≤ length s
  pub short : at ≤ 77 * n
  pub below : n ≤ limit
  pub long : length noted ≡ length before
  pub answer : scan_from (form_of file) limit n (cut (drop at s)) ≡ scan_from (form_of file) limit 0 (cut s)
  pub places : starts_from at (cut (drop at s)) ≡ drop n (starts_from 0 (cut s))
  pub so_far : noted ≡ take n (starts_from 0 (cut s)) ++ drop n before

-- room for one more line, and for its place
pub record Room (before : List ℕ) (limit n : ℕ) : Type 0 where
  pub fits : n < limit
  pub few : n < 128
  pub space : n < length before

module _ {file : File} {s before : List ℕ} {limit : ℕ} {noted : List ℕ} {n at : ℕ} (here : At file s before limit noted n at) where
  -- what the lines from here on answer, with what was noted by then
  pub answered : {cs : List (List ℕ)} {r : Result ℕ ℕ} → cut (drop at s) ≡ cs → scan_from (form_of file) limit n cs ≡ r → taken r ≡ n → Scanned file s before noted r
  unfolding scan starts
  answered {cs} {r} first e k =
      let x : r ≡ scan file s = rw (← here.limited) (sym (ap (scan_from (form_of file) limit n) first ∙ e) ∙ here.answer) in
      record { answer = x; few = rw x (scan_few file s); places = rw k here.so_far }

  pub roomy : 128 ≤ length before → (n ≡ limit → ⊥) → Room before limit n
  roomy h other =
      let fits = lt_of_le_of_ne here.below other in
      let few : n < 128 = omega (arith, limit_small file) in
      record { fits = fits; few = few; space = omega arith }

  -- a line more
  pub one_more : {end : ℕ} → Room before limit n → Ended s at end → form_of file (take (end - at) (drop at s)) ≡ true → At file s before limit (set noted n at) (n + 1) end
  unfolding starts_from
  one_more {end} room line good =
      let c = take (end - at) (drop at s) in
      let next : at + length c ≡ end = omega arith in
      let first : drop n (starts_from 0 (cut s)) ≡ at ∷ starts_from (at + length c) (cut (drop end s)) = sym here.places ∙ ap (starts_from at) line.first in
      record {
        limited = here.limited;
        within = line.within;
        short = omega (arith, form_width file _ good, width_small file);
        below = omega arith;
        long = length-set noted n at ∙ here.long;
        answer = sym (ap (scan_from (form_of file) limit n) line.first ∙ scan_more (form_of file) limit n _ _ room.fits good) ∙ here.answer;
        places = rw (add-one, drop_next n _ _ _ first, next);
        so_far = rw (add-one, here.so_far) (note_more n _ before at _ first room.space);
      }
