-- Where the loop over the numbers stands: so many lines of five bytes are written, and what is left are the numbers of the lines to come.
use Rattle.std.specs.Prelude.{Option, None}
use mathlib.Core.Path.{◌≡◌, refl, sym, ap, ◌∙◌}
use mathlib.Core.Bool.{Bool, true, false, cond}
use mathlib.Core.List.{List, [], ◌∷◌, ◌++◌, append_assoc, append-nil}
use Prim.Native.Nat.{ℕ, suc, ◌+◌, ◌*◌, ◌/◌, ◌%◌, ◌≤◌, ◌<◌}
use native.Mathlib.Numerals.{add-one}
use native.Mathlib.Omega.{arith}
use lib.ListN.{length, get_or, take, drop, set}
use lib.Seq.{sets, sets-eq, take-suc, take_all, length-take-le}
use Rattle.lines.specs.Hex.{encode}
use Rattle.lines.specs.Nodes.{Line, no_line}
use Rattle.lines.specs.Writing.{put_at}
use Rattle.lines.specs.Theorems.Lists.{drop_one}
use Rattle.lines.specs.Theorems.PutAt.{length_put, put_none, put_join}
use Rattle.sweeping.specs.Sweeping.{goes, behind, removed_under, removed, no_number, numbers_from, new_numbers, number_line, number_file}
use Rattle.sweeping.specs.Theorems.Counting.{one_each, five_each}
use Rattle.sweeping.specs.Engine.Parts.{NumbersRoom}
use Rattle.sweeping.proofs.Lists.{drop_some}

-- ## One line

pub number_stored : (out : List ℕ) (pos n : ℕ) {bytes with_bytes : List ℕ} → bytes ≡ n / 256 % 256 ∷ n % 256 ∷ [] → n < 0x10000 → with_bytes ≡ sets out pos (encode bytes)
    → pos + 5 ≤ length out → set with_bytes (pos + 4) 0x0A ≡ put_at out pos (number_line n)
unfolding put_at number_line encode
number_stored out pos n e small f fits =
    let four : pos + 4 ≡ suc (suc (suc (suc pos))) = omega arith in
    let high : n / 256 % 256 ≡ n / 256 = omega arith in
    rw (f, e, high, four) (sets-eq (number_line n) out pos fits)

-- ## The loop

file_append : (a b : List ℕ) → number_file (a ++ b) ≡ number_file a ++ number_file b
unfolding number_file
file_append [] b = refl
file_append (n ∷ a) b = ap (λ (r : List ℕ). number_line n ++ r) (file_append a b) ∙ sym (append_assoc (number_line n) (number_file a) (number_file b))

file_one : (n : ℕ) → number_file (n ∷ []) ≡ number_line n
unfolding number_file
file_one n = append-nil (number_line n)

numbers_one : (k : ℕ) (g : Bool) (gs : List Bool) → numbers_from k (g ∷ gs) ≡ cond g no_number k ∷ numbers_from (cond g k (k + 1)) gs
unfolding numbers_from
numbers_one k true gs = refl
numbers_one k false gs = rw add-one refl

-- the line of a node, gone or not, and the number for the next one that stays
pub record Numbered (gone : Bool) (next pos : ℕ) (out out' : List ℕ) (next' : ℕ) : Type 0 where
  pub line : out' ≡ put_at out pos (number_line (cond gone no_number next))
  pub following : next' ≡ cond gone next (next + 1)

pub record Numbering (ls : List Line) (out₀ out : List ℕ) (above : Option ℕ) (next i : ℕ) : Type 0 where
  pub long : length out ≡ length out₀
  pub so_far : out ≡ put_at out₀ 0 (number_file (take i (new_numbers ls)))
  pub left : drop i (new_numbers ls) ≡ numbers_from next (removed_under above (drop i ls))
  pub few : next ≤ i

module _ {ls : List Line} {out₀ : List ℕ} (r : NumbersRoom ls out₀) where
  pub numbering_starts : Numbering ls out₀ out₀ None 0 0
  unfolding new_numbers removed number_file
  numbering_starts = record { long = refl; so_far = put_none out₀ 0; left = refl; few = omega arith }

  -- line i, where the loop stands
  module _ {out : List ℕ} {above : Option ℕ} {next i : ℕ} (p : Numbering ls out₀ out above next i) where
    module _ (h : i < length ls) {l : Line} (here : l ≡ get_or ls i no_line) where
      left_one : drop i (new_numbers ls)
          ≡ cond (goes above l) no_number next ∷ numbers_from (cond (goes above l) next (next + 1)) (removed_under (behind above l) (drop (i + 1) ls))
      unfolding removed_under
      left_one = p.left ∙ rw (drop_one ls i no_line h, ← here) (numbers_one next (goes above l) (removed_under (behind above l) (drop (i + 1) ls)))

      some : (i < length (new_numbers ls)) × (get_or (new_numbers ls) i 0 ≡ cond (goes above l) no_number next)
          × (drop (i + 1) (new_numbers ls) ≡ numbers_from (cond (goes above l) next (next + 1)) (removed_under (behind above l) (drop (i + 1) ls)))
      some = drop_some (new_numbers ls) i 0 _ _ left_one

      pub numbering_goes_on : {out' : List ℕ} {next' : ℕ} → Numbered (goes above l) next (5 * i) out out' next'
          → Numbering ls out₀ out' (behind above l) next' (i + 1)
      numbering_goes_on {out'} {next'} g =
          let before = number_file (take i (new_numbers ls)) in
          let line = number_line (cond (goes above l) no_number next) in
          let all = one_each ls in
          let five : 5 * i ≡ 0 + length before = omega (arith, five_each (take i (new_numbers ls)), length-take-le i (new_numbers ls) (omega arith)) in
          let more : before ++ line ≡ number_file (take (i + 1) (new_numbers ls)) =
          sym (rw (add-one, take-suc (new_numbers ls) i 0 some.0, some.1) (file_append (take i (new_numbers ls)) _ ∙ ap (λ (b : List ℕ). before ++ b) (file_one _))) in
          let put : out' ≡ put_at out₀ 0 (number_file (take (i + 1) (new_numbers ls))) =
          g.line ∙ (ap (λ (o : List ℕ). put_at o (5 * i) line) p.so_far ∙ (put_join out₀ 0 before line (5 * i) five (omega arith) ∙ ap (put_at out₀ 0) more)) in
          let fits : 0 + length (number_file (take (i + 1) (new_numbers ls))) ≤ length out₀ =
          omega (arith, r.room, five_each (take (i + 1) (new_numbers ls)), length-take-le (i + 1) (new_numbers ls) (omega arith)) in
          record {
            long = ap length put ∙ length_put out₀ 0 _ fits;
            so_far = put;
            left = rw g.following some.2;
            few = few_more (goes above l) g.following;
          }
        where
          few_more : (t : Bool) → next' ≡ cond t next (next + 1) → next' ≤ i + 1
          few_more true e = let f = p.few in omega arith
          few_more false e = let f = p.few in omega arith

    pub numbering_ends : length ls ≤ i → out ≡ put_at out₀ 0 (number_file (new_numbers ls))
    numbering_ends h = p.so_far ∙ ap (λ (ns : List ℕ). put_at out₀ 0 (number_file ns)) (take_all i (new_numbers ls) (omega (arith, one_each ls)))
