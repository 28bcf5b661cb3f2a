-- What std's words for the bodies are in the words of the contracts.
use Rattle.std.specs.Prelude.{◌≡◌, refl, ◌⊎◌, Bool, true, false, cond, not, ◌&&◌, List, [], ◌∷◌, ◌++◌, map, ℕ, zero, suc, ◌+◌, ◌-◌, ◌/◌, ◌≤◌, ◌<◌, length, get_or, take, drop, nat_le, nat_lt, unwrap_or, Some, None}
use Rattle.std.proofs.Common.{inl, inr, sym, ap, ap₂, ◌∙◌, arith, take-take, take-append-drop, length-take-le, append_assoc, ltb, take_all}
use Rattle.std.proofs.lemmas.Bool.{cases_lt}
use Rattle.std.proofs.lemmas.Bool.Decides.{nat_tests}
use Rattle.std.proofs.lemmas.List.{length-map, drop-append-le}
use Rattle.std.proofs.lemmas.Grind.{same_number_lists}
use Rattle.std.specs.List.{list_all, position_or_len}
use Rattle.std.proofs.lemmas.Slice.{put_mid-paste}
use borrow.Rule.Slice.PartMut.{put_mid}
use Rattle.lines.specs.Writing.{put_at}
use Rattle.lines.specs.Theorems.PutAt.{put_frame, put_part, put_behind, put_reads, length_put}
use Rattle.values.specs.Values.{no_top, under, shallow}
use Rattle.values.specs.Engine.Words.{Made, part, node_of, value_of, merged_word, merged_words}
use Rattle.values.specs.Theorems.Extents.{length_part, get_d_part, part_below}
use Rattle.values.proofs.Theorems.WordLaws.{top_word, merged_length}

-- ## Words put into a slice

-- words brought from a list, place by place
pub brought_put : (w s w' : List ℕ) (from len to : ℕ) → from + len ≤ length s → to + len ≤ length w → length w' ≡ length w
    → ((k : ℕ) → k < len → get_or w' (to + k) 0 ≡ get_or s (from + k) 0)
    → ((k : ℕ) → (k < to) ⊎ (to + len ≤ k) → get_or w' k 0 ≡ get_or w k 0) → w' ≡ put_at w to (part s from len)
brought_put w s w' from len to inside room long brings keeps =
    same_number_lists w' both (long ∙ sym (length_put w to new (omega (arith, n)))) (λ k h. each k (cases_lt k to) (cases_lt k (to + len)))
  where
    new : List ℕ
    new = part s from len

    both : List ℕ
    both = put_at w to new

    n : length new ≡ len
    n = length_part s from len inside

    outside : (k : ℕ) → (k < to) ⊎ (to + length new ≤ k) → get_or w' k 0 ≡ get_or both k 0
    outside k side =
        keeps k (rw n at side)
        ∙ sym (rw (take_all (length new) new (omega arith)) at (put_reads w to new (length new) (omega arith) (omega (arith, n)) k side))

    within : (j : ℕ) → j < len → get_or w' (to + j) 0 ≡ get_or both (to + j) 0
    within j h =
        brings j h ∙ sym (get_d_part s from len j h)
        ∙ ap (λ (l : List ℕ). get_or l j 0) (sym (put_part w to new (omega arith)) ∙ ap (λ (m : ℕ). take m (drop to both)) n) ∙ get_d_part both to len j h

    each : (k : ℕ) → (k < to) ⊎ (to ≤ k) → (k < to + len) ⊎ (to + len ≤ k) → get_or w' k 0 ≡ get_or both k 0
    each k (inl before) _ = outside k (inl before)
    each k (inr after) (inr behind) = outside k (inr (omega (arith, n)))
    each k (inr after) (inl before) =
        ap (λ (m : ℕ). get_or w' m 0) (let z : k ≡ to + (k - to) = omega arith in z) ∙ within (k - to) (omega arith)
        ∙ ap (λ (m : ℕ). get_or both m 0) (let z : to + (k - to) ≡ k = omega arith in z)

pub mid_put : (w : List ℕ) (to k : ℕ) (ys new : List ℕ) → ys ≡ new → k ≡ length new → put_mid to k w ys ≡ put_at w to new
unfolding put_at
mid_put w to k ys new e l =
    put_mid-paste to k w ys new k e refl l ∙ rw (l, take_all (length new) new (omega arith))

-- put over what was put
put_again : (w : List ℕ) (to : ℕ) (old new : List ℕ) → to ≤ length w → length new ≡ length old → put_at (put_at w to old) to new ≡ put_at w to new
unfolding put_at
put_again w to old new inside long =
    ap₂ (λ (x y : List ℕ). (x ++ new) ++ y) (put_frame w to old inside)
    (ap (λ (k : ℕ). drop (to + k) (put_at w to old)) long ∙ (put_behind w to old inside ∙ ap (λ (k : ℕ). drop (to + k) w) (sym long)))

-- an extent copied, and then changed where it went
pub changed_put : (f : ℕ → ℕ) (w w' : List ℕ) (from len to k : ℕ) (new : List ℕ) → from + len ≤ length w → to + len ≤ length w → k ≡ len
    → w' ≡ put_at w to (part w from len) → new ≡ map f (take k (drop to w')) → put_mid to k w' new ≡ put_at w to (map f (part w from len))
changed_put f w w' from len to k new inside room whole copied changed =
    let p = part w from len in
    let n : length p ≡ len = length_part w from len inside in
    let m : length (map f p) ≡ length p = length-map p f in
    let same : new ≡ map f p =
    changed ∙ ap (map f) (ap (λ (v : List ℕ). take k (drop to v)) copied ∙ ap (λ (j : ℕ). take j (drop to (put_at w to p))) (whole ∙ sym n) ∙ put_part w to p (omega arith)) in
    mid_put w' to k new (map f p) same (omega arith) ∙ ap (λ (v : List ℕ). put_at v to (map f p)) copied ∙ put_again w to p (map f p) (omega arith) m

-- words merged, place by place
merged_at : (k l : List ℕ) (i : ℕ) → i < length k → i < length l → get_or (merged_words k l) i 0 ≡ merged_word (get_or k i 0) (get_or l i 0)
unfolding merged_words
merged_at [] l i h g = absurd (omega arith)
merged_at (a ∷ k) [] i h g = absurd (omega arith)
merged_at (a ∷ k) (b ∷ l) zero h g = refl
merged_at (a ∷ k) (b ∷ l) (suc i) h g = merged_at k l i (omega arith) (omega arith)

pub merged_each : (k l new : List ℕ) → length k ≡ length l → length new ≡ length k
    → ((i : ℕ) → i < length new → get_or new i 0 ≡ merged_word (get_or k i 0) (get_or l i 0)) → new ≡ merged_words k l
merged_each k l new even long each =
    same_number_lists new _ (long ∙ sym (merged_length k l even)) (λ i h. each i h ∙ sym (merged_at k l i (omega arith) (omega arith)))

-- an extent merged with other words
pub merged_put : (w other new : List ℕ) (to len k : ℕ) → to + len ≤ length w → length other ≡ len → k ≡ len
    → new ≡ merged_words (take k (drop to w)) other → put_mid to k w new ≡ put_at w to (merged_words (part w to len) other)
merged_put w other new to len k room even whole e =
    let n = length_part w to len room in
    let m = merged_length (part w to len) other (n ∙ sym even) in
    mid_put w to k new _ (e ∙ ap (λ (j : ℕ). merged_words (take j (drop to w)) other) whole) (omega arith)

-- put into the part of a slice before a cut
put_before : (w : List ℕ) (at to : ℕ) (new : List ℕ) → to + length new ≤ at → at ≤ length w → put_at (take at w) to new ++ drop at w ≡ put_at w to new
unfolding put_at
put_before w at to new h fits =
    let n = to + length new in
    let high : drop n (take at w) ++ drop at w ≡ drop n w =
    sym (drop-append-le n (take at w) (drop at w) (omega (arith, length-take-le at w fits))) ∙ ap (drop n) (take-append-drop at w) in
    append_assoc (take to (take at w) ++ new) (drop n (take at w)) (drop at w) ∙ ap₂ (λ (x y : List ℕ). (x ++ new) ++ y) (take-take to at w (omega arith)) high

-- an extent of a slice merged into another one, over a cut between the two
module _ (w front back new : List ℕ) (from to len k n : ℕ) (whole : k ≡ len) (all : n ≡ len) (inside : from + len ≤ length w) (room : to + len ≤ length w) where
  abbrev both : List ℕ
  both = merged_words (part w to len) (part w from len)

  both_long : length both ≡ len
  both_long = let p = length_part w to len room in let q = length_part w from len inside in merged_length (part w to len) (part w from len) (p ∙ sym q) ∙ p

  pub merged_behind : (others : List ℕ) → front ≡ take to w → back ≡ drop to w → from + len ≤ to → others ≡ part front from len
      → new ≡ merged_words (take k back) others → front ++ (new ++ drop n back) ≡ put_at w to both
  merged_behind others f b apart o e =
      let same : new ≡ both = e ∙ ap₂ merged_words (ap₂ take whole b) (o ∙ ap (λ (x : List ℕ). part x from len) f ∙ part_below w to from len apart) in
      ap₂ (λ (x y : List ℕ). x ++ (new ++ drop n y)) f b ∙ mid_put w to n new both same (all ∙ sym both_long)

  pub merged_before : front ≡ take from w → back ≡ drop from w → to + len ≤ from
      → new ≡ merged_words (take k (drop to front)) (take n back) → put_mid to k front new ++ back ≡ put_at w to both
  merged_before f b apart e =
      let same : new ≡ both =
      e ∙ ap₂ merged_words (ap₂ (λ (j : ℕ) (x : List ℕ). take j (drop to x)) whole f ∙ part_below w from to len apart) (ap₂ take all b) in
      ap₂ (λ (x y : List ℕ). x ++ y) (mid_put front to k new both same (whole ∙ sym both_long) ∙ ap (λ (x : List ℕ). put_at x to both) f) b
      ∙ put_before w from to both (omega (arith, both_long)) (omega arith)

-- ## What is read of words

-- where the search for a place ends
pub found_or_end : (i len : ℕ) → i ≤ len → unwrap_or (cond (ltb i len) (Some i) None) len ≡ i
found_or_end i len h = grind (arith, nat_tests)

module _ (made : Made) where
  pub all_under : (words : List ℕ) → position_or_len (λ x. nat_lt x 0x10000) words ≡ length (under (value_of made words))
  unfolding under
  all_under [] = refl
  all_under (x ∷ words) = rw (top_word made x) (go (ltb x 0x10000) (all_under words))
    where
      go : (b : Bool) → position_or_len (λ x. nat_lt x 0x10000) words ≡ length (under (value_of made words))
          → cond (not b) (1 + position_or_len (λ x. nat_lt x 0x10000) words) 0 ≡ length (cond b [] (node_of made x ∷ under (value_of made words)))
      go true h = refl
      go false h = omega (arith, h)

  pub all_below : (words : List ℕ) → list_all (λ x. nat_le 0x10000 x) words ≡ no_top (value_of made words)
  unfolding no_top
  all_below [] = refl
  all_below (x ∷ words) =
      let top : nat_le 0x10000 x ≡ not (ltb x 0x10000) = grind (arith, nat_tests) in
      rw (top_word made x, top) (ap (◌&&◌ (not (ltb x 0x10000))) (all_below words))

  pub all_shallow : (words : List ℕ) → list_all (λ x. nat_le (x / 0x10000) 9) words ≡ shallow (value_of made words)
  unfolding shallow node_of
  all_shallow [] = refl
  all_shallow (x ∷ words) = ap (λ b. nat_le (x / 0x10000) 9 && b) (all_shallow words)
