-- What stands in a slice after something was put into it: whole, from the front, and word by word.
use Rattle.std.specs.Prelude.{◌≡◌, refl, ◌⊎◌, ℕ, suc, ◌+◌, ◌-◌, ◌≤◌, ◌<◌, get_or, set}
use Rattle.std.proofs.Common.{sym, ◌∙◌, ap₂, subst, inl, inr, zero-add, add-one, arith, length-append, length-drop, length-set, take-append-drop, length-take-le, take_all, drop-drop, get_or-take, get_or-drop, get_or-append-add, take-suc, drop-cons}
use Rattle.std.proofs.Math.Path.{ap}
use mathlib.Core.List.{List, [], ◌++◌, append_assoc, append-nil}
use Rattle.std.proofs.Math.ListN.{length, take, drop, get_or-append}
use Rattle.std.proofs.Math.Seq.{take-append-le, take_at, drop_at, drop-length}
use Rattle.std.proofs.lemmas.List.{set_at}
use Rattle.lines.specs.Writing.{put_at}

-- ## Put at a place inside

module _ (w : List ℕ) (to : ℕ) (new : List ℕ) (inside : to ≤ length w) where
  low_long : length (take to w) ≡ to
  low_long = length-take-le to w inside

  head_long : length (take to w ++ new) ≡ to + length new
  head_long = simp length-append (omega (arith, low_long))

  -- what stands before it
  pub put_frame : take to (put_at w to new) ≡ take to w
  unfolding put_at
  put_frame = take-append-le to (take to w ++ new) _ (omega (arith, head_long)) ∙ take_at (take to w) new to low_long

  -- itself
  pub put_part : take (length new) (drop to (put_at w to new)) ≡ new
  unfolding put_at
  put_part =
      ap (λ (l : List ℕ). take (length new) (drop to l)) (append_assoc (take to w) new (drop (to + length new) w))
      ∙ (ap (take (length new)) (drop_at (take to w) (new ++ drop (to + length new) w) to low_long) ∙ take_at new (drop (to + length new) w) (length new) refl)

  -- what stands behind it
  pub put_behind : drop (to + length new) (put_at w to new) ≡ drop (to + length new) w
  unfolding put_at
  put_behind = drop_at (take to w ++ new) (drop (to + length new) w) (to + length new) head_long

pub length_put : (w : List ℕ) (to : ℕ) (new : List ℕ) → to + length new ≤ length w → length (put_at w to new) ≡ length w
unfolding put_at
length_put w to new fits = simp (length-append, length-drop) (omega (arith, low_long w to new (omega arith)))

pub put_none : (w : List ℕ) (to : ℕ) → w ≡ put_at w to []
unfolding put_at
put_none w to = sym (rw append-nil (ap (λ (k : ℕ). take to w ++ drop k w) (let z : to + 0 ≡ to = omega arith in z) ∙ take-append-drop to w))

-- bytes c behind the bytes b that were put
pub put_join : (w : List ℕ) (to : ℕ) (b c : List ℕ) (p : ℕ) → p ≡ to + length b → to ≤ length w → put_at (put_at w to b) p c ≡ put_at w to (b ++ c)
unfolding put_at
put_join w to b c p e inside =
    let low : take p (put_at w to b) ≡ take to w ++ b = take_at (take to w ++ b) (drop (to + length b) w) p (head_long w to b inside ∙ sym e) in
    let end : p + length c ≡ to + length (b ++ c) = omega (arith, length-append b c) in
    let behind : drop p (put_at w to b) ≡ drop p w = rw e (put_behind w to b inside) in
    let high : drop (p + length c) (put_at w to b) ≡ drop (to + length (b ++ c)) w =
    sym (drop-drop (length c) p (put_at w to b)) ∙ (ap (drop (length c)) behind ∙ (drop-drop (length c) p w ∙ ap (λ (k : ℕ). drop k w) end)) in
    ap₂ (λ (x y : List ℕ). (x ++ c) ++ y) low high ∙ ap (λ (x : List ℕ). x ++ drop (to + length (b ++ c)) w) (append_assoc (take to w) b c)

-- ## Put at the front

module _ (w new : List ℕ) where
  pub put_front : take (length new) (put_at w 0 new) ≡ new
  put_front = put_part w 0 new (omega arith)

  pub front_behind : drop (length new) (put_at w 0 new) ≡ drop (length new) w
  front_behind = rw zero-add at (put_behind w 0 new (omega arith))

-- a buffer that begins with it and is as before behind
pub front_is : (before after new : List ℕ) (k : ℕ) → length new ≡ k → take k after ≡ new → drop k after ≡ drop k before → after ≡ put_at before 0 new
unfolding put_at
front_is before after new k e begins behind =
    sym (take-append-drop k after) ∙ (ap₂ (λ (x y : List ℕ). x ++ y) begins behind ∙ ap (λ (m : ℕ). new ++ drop m before) (sym (zero-add (length new) ∙ e)))

-- what stands behind the places that are put over decides
pub front_same : (v w new : List ℕ) → drop (length new) v ≡ drop (length new) w → put_at v 0 new ≡ put_at w 0 new
unfolding put_at
front_same v w new h = rw zero-add (ap (λ (r : List ℕ). new ++ r) h)

-- what is put over itself is left
pub put_over : (w : List ℕ) → put_at w 0 w ≡ w
unfolding put_at
put_over w = ap (λ (k : ℕ). w ++ drop k w) (zero-add (length w)) ∙ ap (λ (t : List ℕ). w ++ t) (drop-length w) ∙ append-nil w

-- ## Put word by word

-- after i of the words that are to be put: `head` is what stands before the next place
module _ (w₀ : List ℕ) (to : ℕ) (new : List ℕ) (i : ℕ) (h : i ≤ length new) (fits : to + i ≤ length w₀) where
  some : length (take i new) ≡ i
  some = length-take-le i new h

  head : length (take to w₀ ++ take i new) ≡ to + i
  head = head_long w₀ to (take i new) (omega arith) ∙ ap (λ (k : ℕ). to + k) some

  so_far_put : put_at w₀ to (take i new) ≡ (take to w₀ ++ take i new) ++ drop (to + i) w₀
  unfolding put_at
  so_far_put = rw some

  -- words that are still to be read: they stand before the place, or behind what was put so far
  pub put_reads : (k : ℕ) → (k < to) ⊎ (to + i ≤ k) → get_or (put_at w₀ to (take i new)) k 0 ≡ get_or w₀ k 0
  put_reads k (inl below) =
      let low : length (take to w₀) ≡ to = length-take-le to w₀ (omega arith) in
      rw so_far_put
      (get_or-append (take to w₀ ++ take i new) _ 0 k (omega (arith, head))
      ∙ (get_or-append (take to w₀) (take i new) 0 k (omega arith) ∙ get_or-take to w₀ k 0 below))
  put_reads k (inr above) =
      let z : k ≡ length (take to w₀ ++ take i new) + (k - (to + i)) = omega (arith, head) in
      rw so_far_put
      (ap (λ (m : ℕ). get_or ((take to w₀ ++ take i new) ++ drop (to + i) w₀) m 0) z
      ∙ (get_or-append-add (take to w₀ ++ take i new) (drop (to + i) w₀) (k - (to + i)) 0
      ∙ (get_or-drop (to + i) w₀ (k - (to + i)) 0 ∙ ap (λ (m : ℕ). get_or w₀ m 0) (let y : to + i + (k - (to + i)) ≡ k = omega arith in y))))

-- one word more
pub put_more : (w₀ : List ℕ) (to : ℕ) (new : List ℕ) (i : ℕ) {w : List ℕ} {x : ℕ} → i < length new → to + length new ≤ length w₀
    → w ≡ put_at w₀ to (take i new) → x ≡ get_or new i 0 → set w (to + i) x ≡ put_at w₀ to (take (i + 1) new)
put_more w₀ to new i {w} {x} h fits e q =
    let a : i ≤ length new = omega arith in
    let b : to + i ≤ length w₀ = omega arith in
    let c : i + 1 ≤ length new = omega arith in
    let d : to + (i + 1) ≤ length w₀ = omega arith in
    let far : to + (i + 1) ≡ suc (to + i) = omega arith in
    rw (e, so_far_put w₀ to new i a b, so_far_put w₀ to new (i + 1) c d, q, far, add-one, take-suc new i 0 h)
    (ap (λ (l : List ℕ). set ((take to w₀ ++ take i new) ++ l) (to + i) (get_or new i 0)) (drop-cons w₀ (to + i) 0 (omega arith))
    ∙ (set_at (take to w₀ ++ take i new) (get_or w₀ (to + i) 0) (drop (suc (to + i)) w₀) (get_or new i 0) (to + i) (head w₀ to new i a b)
    ∙ sym (simp append_assoc)))

-- where a loop stands that puts len words: i of them are put
pub record Putting (w₀ : List ℕ) (to : ℕ) (new : List ℕ) (len : ℕ) (w : List ℕ) (i : ℕ) : Type 0 where
  pub most : i ≤ len
  pub long : length w ≡ length w₀
  pub so_far : w ≡ put_at w₀ to (take i new)

-- the new words, one for each of len; they fit
module _ (w₀ : List ℕ) (to : ℕ) (new : List ℕ) (len : ℕ) (all : length new ≡ len) (fits : to + len ≤ length w₀) where
  pub putting_starts : Putting w₀ to new len w₀ 0
  putting_starts = record { most = omega arith; long = refl; so_far = put_none w₀ to }

  pub putting_goes_on : {w : List ℕ} {i x : ℕ} → Putting w₀ to new len w i → i < len → x ≡ get_or new i 0 → Putting w₀ to new len (set w (to + i) x) (i + 1)
  putting_goes_on {w} {i} {x} p h e =
      record { most = omega arith; long = length-set w (to + i) x ∙ p.long; so_far = put_more w₀ to new i (omega arith) (omega arith) p.so_far e }

  -- at the front, where the code counts from 0
  pub putting_front : to ≡ 0 → {w : List ℕ} {i x : ℕ} → Putting w₀ to new len w i → i < len → x ≡ get_or new i 0 → Putting w₀ to new len (set w i x) (i + 1)
  putting_front z {w} {i} {x} p h e =
      subst (λ (k : ℕ). Putting w₀ to new len (set w k x) (i + 1)) (ap (λ (n : ℕ). n + i) z ∙ zero-add i) (putting_goes_on p h e)

  pub putting_ends : {w : List ℕ} {i : ℕ} → Putting w₀ to new len w i → len ≤ i → w ≡ put_at w₀ to new
  putting_ends {w} {i} p h = p.so_far ∙ ap (put_at w₀ to) (take_all i new (omega arith))

  -- a word that is still to be read is as it was
  pub putting_reads : {w : List ℕ} {i : ℕ} → Putting w₀ to new len w i → (k : ℕ) → (k < to) ⊎ (to + i ≤ k) → get_or w k 0 ≡ get_or w₀ k 0
  putting_reads {w} {i} p k side =
      let m = p.most in
      ap (λ (l : List ℕ). get_or l k 0) p.so_far ∙ put_reads w₀ to new i (omega arith) (omega arith) k side
