-- A file cut behind the longest legal one, by one byte or more, scans as the whole file does: a program need read no further.
use Rattle.std.proofs.Math.Path.{◌≡◌, refl, sym, ap}
use Rattle.std.proofs.Common.{◌∙◌, mul-suc, mul_comm, not-suc-le-zero, le_of_suc-le-suc, arith, length-take}
use Rattle.std.specs.Prelude.{Bool, cond, ◌&&◌, eqb, ltb, drop, Err}
use Rattle.std.proofs.Math.Bool.{true, false}
use mathlib.Core.List.{List, [], ◌∷◌}
use Prim.Native.Nat.{ℕ, zero, suc, ◌+◌, ◌*◌, ◌-◌, ◌≤◌, ◌<◌}
use Rattle.std.proofs.Math.Dec.{leb}
use Rattle.std.proofs.Math.ListN.{length, take}
use lib.Seq.{take-nil, take-take, length-take-le}
use borrow.Author.Tests.{ltb-true, leb-true, leb-false}
use Rattle.lines.specs.declared.scan.File.{File}
use Rattle.lines.specs.Lines.{cut}
use Rattle.lines.specs.Files.{form_of, limit_of, widest_of, longest_of, scan_from, scan}
use Rattle.lines.specs.Theorems.Cutting.{cut_first, first_some, first_within, joined, joined_cut}
use Rattle.lines.proofs.Theorems.Widths.{form_width}
use Rattle.lines.specs.Engine.Starts.{line_length}

-- the first line of a file that was cut: whole, or the whole of what is left
first_kept : (k : ℕ) (s : List ℕ) → line_length s ≤ k → line_length (take k s) ≡ line_length s
unfolding line_length
first_kept zero [] h = refl
first_kept (suc k) [] h = refl
first_kept zero (x ∷ s) h = absurd (let z = first_some (x ∷ s) (omega arith) in omega arith)
first_kept (suc k) (x ∷ s) h = go (eqb x 0x0A) h (λ g. first_kept k s g)
  where
    go : (t : Bool) → cond t 1 (suc (line_length s)) ≤ suc k → (line_length s ≤ k → line_length (take k s) ≡ line_length s)
        → cond t 1 (suc (line_length (take k s))) ≡ cond t 1 (suc (line_length s))
    go true g ih = refl
    go false g ih = ap suc (ih (le_of_suc-le-suc g))

first_cut : (k : ℕ) (s : List ℕ) → k ≤ line_length s → line_length (take k s) ≡ k
unfolding line_length
first_cut zero [] h = refl
first_cut (suc k) [] h = absurd (not-suc-le-zero h)
first_cut zero (x ∷ s) h = refl
first_cut (suc k) (x ∷ s) h = go (eqb x 0x0A) h (λ g. first_cut k s g)
  where
    go : (t : Bool) → suc k ≤ cond t 1 (suc (line_length s)) → (k ≤ line_length s → line_length (take k s) ≡ k) → cond t 1 (suc (line_length (take k s))) ≡ suc k
    go true g ih = omega arith
    go false g ih = ap suc (ih (le_of_suc-le-suc g))

drop_take : (l k : ℕ) (s : List ℕ) → l ≤ k → drop l (take k s) ≡ take (k - l) (drop l s)
drop_take zero k s h = ap (λ (m : ℕ). take m s) (let z : k ≡ k - 0 = omega arith in z)
drop_take (suc l) zero s h = absurd (not-suc-le-zero h)
drop_take (suc l) (suc k) [] h = sym (lib.Seq.take-nil (suc k - suc l))
drop_take (suc l) (suc k) (x ∷ s) h = drop_take l k s (le_of_suc-le-suc h) ∙ ap (λ (m : ℕ). take m (drop l s)) (let z : k - l ≡ suc k - suc l = omega arith in z)

-- where the first line of what is left is whole, the lines behind it are those of what is left behind it
cut_kept : (k : ℕ) (s : List ℕ) → 0 < length s → line_length s ≤ k → cut (take k s) ≡ take (line_length s) s ∷ cut (take (k - line_length s) (drop (line_length s) s))
cut_kept k s some h =
    let l = line_length s in
    let left : 0 < length (take k s) = omega (arith, length-take k s, first_some s some) in
    (rw (first_kept k s h) at (cut_first (take k s) left))
    ∙ rw (take-take l k s h, drop_take l k s h)

module _ (form : List ℕ → Bool) (limit width : ℕ) (wide : (c : List ℕ) → form c ≡ true → length c ≤ width) where
  -- room for one line more
  room : (n : ℕ) → n < limit → width * (limit - n) ≡ width * (limit - suc n) + width
  room n h = ap (λ (m : ℕ). width * m) (let z : limit - n ≡ suc (limit - suc n) = omega arith in z) ∙ mul-suc width (limit - suc n)

  -- a line as long as all the room is refused
  too_wide : (n k : ℕ) (c : List ℕ) → length c ≡ k → width * (limit - n) < k → (ltb n limit && form c) ≡ false
  too_wide n k c e far = go (ltb n limit) (form c) refl refl
    where
      go : (t u : Bool) → ltb n limit ≡ t → form c ≡ u → (t && u) ≡ false
      go true true q f = absurd (omega (arith, wide c f, room n (ltb-true n limit q)))
      go true false q f = refl
      go false u q f = refl

  -- a first line that is refused is refused where the file was cut
  refused : (n k : ℕ) (s : List ℕ) → 0 < length s → width * (limit - n) < k
      → (ltb n limit && form (take (line_length s) s)) ≡ false → scan_from form limit n (cut (take k s)) ≡ Err n
  unfolding scan_from
  refused n k s some far bad = go (leb (line_length s) k) refl
    where
      go : (t : Bool) → leb (line_length s) k ≡ t → scan_from form limit n (cut (take k s)) ≡ Err n
      go true e = rw (cut_kept k s some (leb-true (line_length s) k e), bad)
      go false e =
          let h : k < line_length s = leb-false (line_length s) k e in
          let left : length (take k s) ≡ k = length-take-le k s (omega (arith, first_within s)) in
          let u = rw (first_cut k s (omega arith)) at (cut_first (take k s) (omega arith)) in
          let long : length (take k (take k s)) ≡ k = length-take-le k (take k s) (omega arith) in
          rw (u, too_wide n k (take k (take k s)) long far)

  scan_cut : (cs : List (List ℕ)) (s : List ℕ) (n k : ℕ) → cut s ≡ cs → width * (limit - n) < k
      → scan_from form limit n (cut (take k s)) ≡ scan_from form limit n cs
  unfolding scan_from joined cut
  scan_cut [] s n k e far =
      let none : s ≡ [] = sym (joined_cut s) ∙ ap joined e in
      rw (none, take-nil k)
  scan_cut (c ∷ cs) [] n k e far = absurd (let z : ◌≡◌ {A = ℕ} 0 1 = cc in omega arith)
  scan_cut (c ∷ cs) (x ∷ s) n k e far =
      let u = cut_first (x ∷ s) (omega arith) in
      let first : take (line_length (x ∷ s)) (x ∷ s) ≡ c = cc in
      let rest : cut (drop (line_length (x ∷ s)) (x ∷ s)) ≡ cs = cc in
      go first rest (ltb n limit) (form c) refl refl (λ m g. scan_cut cs (drop (line_length (x ∷ s)) (x ∷ s)) (suc n) m rest g)
    where
      l : ℕ
      l = line_length (x ∷ s)

      go : take l (x ∷ s) ≡ c → cut (drop l (x ∷ s)) ≡ cs → (t u : Bool) → ltb n limit ≡ t → form c ≡ u
          → ((m : ℕ) → width * (limit - suc n) < m → scan_from form limit (suc n) (cut (take m (drop l (x ∷ s)))) ≡ scan_from form limit (suc n) cs)
          → scan_from form limit n (cut (take k (x ∷ s))) ≡ cond (ltb n limit && form c) (scan_from form limit (suc n) cs) (Err n)
      go first rest true true q f ih =
          let long : length (take l (x ∷ s)) ≡ l = length-take-le l (x ∷ s) (first_within (x ∷ s)) in
          let short : l ≤ width = omega (arith, wide c f, ap length first) in
          let more = room n (ltb-true n limit q) in
          rw (cut_kept k (x ∷ s) (omega arith) (omega arith), first, q, f) (ih (k - l) (omega arith))
      go first rest true false q f ih = rw (refused n k (x ∷ s) (omega arith) far (rw (first, q, f)), q, f)
      go first rest false u q f ih = rw (refused n k (x ∷ s) (omega arith) far (rw q), q)

-- ## The theorem

pub cut_long : (file : File) (s : List ℕ) (k : ℕ) → longest_of file < k → scan file (take k s) ≡ scan file s
unfolding scan longest_of
cut_long file s k h =
    let z : limit_of file - 0 ≡ limit_of file = omega arith in
    let far : widest_of file * (limit_of file - 0) < k = rw (z, mul_comm (widest_of file) (limit_of file)) h in
    scan_cut (form_of file) (limit_of file) (widest_of file) (form_width file) (cut s) s 0 k refl far
