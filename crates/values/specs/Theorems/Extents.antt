-- Extents of words: what is read of them after something was put into the slice, and how they join.
use Rattle.std.specs.Prelude.{◌≡◌, refl, List, [], ◌∷◌, ◌++◌, ◌⊎◌, ℕ, zero, suc, ◌+◌, ◌-◌, ◌≤◌, ◌<◌, length, get_or, take, drop}
use Rattle.std.proofs.Common.{sym, ◌∙◌, ap, inl, inr, add-one, arith, length-take, length-drop, take-take, drop-drop, take-add, get_or-take, get_or-drop, drop-cons}
use Rattle.std.proofs.lemmas.Slice.{between_is}
use Rattle.lines.specs.Writing.{put_at}
use Rattle.lines.specs.Theorems.PutAt.{put_frame, put_behind}
use Rattle.values.specs.Values.{under}
use Rattle.values.specs.Engine.Words.{Made, part, value_at, FirstItem}

-- ## Parts

pub length_part : (w : List ℕ) (start len : ℕ) → start + len ≤ length w → length (part w start len) ≡ len
length_part w start len h = simp (length-take, length-drop) (omega arith)

pub get_d_part : (w : List ℕ) (start len k : ℕ) → k < len → get_or (part w start len) k 0 ≡ get_or w (start + k) 0
get_d_part w start len k h = rw (get_or-take, get_or-drop)

-- an extent in two
pub part_join : (w : List ℕ) (start a b : ℕ) → part w start (a + b) ≡ part w start a ++ part w (start + a) b
part_join w start a b = take-add a b (drop start w) ∙ ap (λ (l : List ℕ). take a (drop start w) ++ take b l) (drop-drop a start w)

-- its first word and the others
pub part_cons : (w : List ℕ) (start len : ℕ) → start + len < length w → part w start (len + 1) ≡ get_or w start 0 ∷ part w (start + 1) len
part_cons w start len h =
    let s : start < length w = omega arith in
    rw (add-one, add-one, drop-cons w start 0 s)

-- without its first word
pub part_rest : (w : List ℕ) (start len : ℕ) → drop 1 (part w start len) ≡ part w (start + 1) (len - 1)
part_rest w start len = sym (between_is (drop start w) 1 len) ∙ ap (take (len - 1)) (drop-drop 1 start w)

-- what `&w[start..start + len]` is
pub slice_part : (w : List ℕ) (start len : ℕ) → take (start + len - start) (drop start w) ≡ part w start len
slice_part w start len = ap (λ (n : ℕ). take n (drop start w)) (omega arith)

-- ## Words of an extent as a value

pub first_item_at : (w : List ℕ) (start len r : ℕ) → start + len ≤ length w → FirstItem (part w start len) r
    → ((made : Made) → r ≡ 1 + length (under (value_at made w (start + 1) (len - 1)))) × (r ≤ len)
unfolding value_at
first_item_at w start len r fits f = (λ made. rw part_rest at (f.long made), rw (length_part w start len fits) at f.within)

-- ## A frame: below `top` nothing has changed

pub part_below : (w : List ℕ) (top start len : ℕ) → start + len ≤ top → part (take top w) start len ≡ part w start len
part_below w top zero len h = take-take len top w (omega arith)
part_below w zero (suc start) len h = absurd (omega arith)
part_below [] (suc top) (suc start) len h = refl
part_below (x ∷ w) (suc top) (suc start) len h = part_below w top start len (omega arith)

pub frame_part : (w w' : List ℕ) (top start len : ℕ) → take top w' ≡ take top w → start + len ≤ top → part w' start len ≡ part w start len
frame_part w w' top start len f h = sym (part_below w' top start len h) ∙ (ap (λ (l : List ℕ). part l start len) f ∙ part_below w top start len h)

pub frame_less : (w w' : List ℕ) (top low : ℕ) → take top w' ≡ take top w → low ≤ top → take low w' ≡ take low w
frame_less w w' top low f h = sym (take-take low top w' h) ∙ (ap (take low) f ∙ take-take low top w h)

-- ## What was put into a slice

-- another extent: before it, or behind it
pub put_other : (w : List ℕ) (to : ℕ) (new : List ℕ) → to + length new ≤ length w → (start len : ℕ) → (start + len ≤ to) ⊎ (to + length new ≤ start)
    → part (put_at w to new) start len ≡ part w start len
put_other w to new fits start len (inl h) = frame_part w (put_at w to new) to start len (put_frame w to new (omega arith)) h
put_other w to new fits start len (inr h) =
    let k = start - (to + length new) in
    let e : to + length new + k ≡ start = omega arith in
    let far : (l : List ℕ) → drop start l ≡ drop k (drop (to + length new) l) = λ l. ap (λ (m : ℕ). drop m l) (sym e) ∙ sym (drop-drop k (to + length new) l) in
    ap (take len) (far (put_at w to new) ∙ (ap (drop k) (put_behind w to new (omega arith)) ∙ sym (far w)))
