-- Lines written by a run of stores.
use mathlib.Core.Path.{◌≡◌, sym, ◌∙◌, ap}
use mathlib.Core.List.{List, [], ◌∷◌, ◌++◌}
use Prim.Native.Nat.{ℕ, suc, ◌+◌, ◌*◌, ◌≤◌, ◌<◌}
use native.Mathlib.Nat.{add-zero}
use native.Mathlib.Numerals.{add-one}
use native.Mathlib.Omega.{arith}
use lib.ListN.{length, get_or, take, set}
use lib.Seq.{sets, sets-eq, take-suc, length-take-le}
use Rattle.lines.specs.Hex.{encode}
use Rattle.lines.specs.Nodes.{Line}
use Rattle.lines.specs.Writing.{bytes_of, line_bytes, put_at}
use Rattle.lines.proofs.Theorems.Pairs.{length_encode, encode_append}

sets_append : (l : List ℕ) (i : ℕ) (a b : List ℕ) → sets (sets l i a) (i + length a) b ≡ sets l i (a ++ b)
sets_append l i [] b = ap (λ (k : ℕ). sets l k b) (add-zero i)
sets_append l i (x ∷ a) b = ap (λ (k : ℕ). sets (sets (set l i x) (suc i) a) k b) (omega arith) ∙ sets_append (set l i x) (suc i) a b

-- bytes b behind the bytes a that stand from i on
pub put_more : (l : List ℕ) (i : ℕ) (a b : List ℕ) {o o' : List ℕ} → o ≡ sets l i (encode a)
    → (p : ℕ) → p ≡ i + 2 * length a → o' ≡ sets o p (encode b) → o' ≡ sets l i (encode (a ++ b))
put_more l i a b e p q h =
    h
    ∙ (ap (λ (x : List ℕ). sets x p (encode b)) e
    ∙ (ap (λ (k : ℕ). sets (sets l i (encode a)) k (encode b)) (q ∙ ap (λ (k : ℕ). i + k) (sym (length_encode a)))
    ∙ (sets_append l i (encode a) (encode b) ∙ ap (sets l i) (sym (encode_append a b)))))

-- one more behind those that stand from i on
pub put_next : (l : List ℕ) (i : ℕ) (v : List ℕ) (j : ℕ) {o : List ℕ} {x : ℕ} → j < length v → o ≡ sets l i (take j v) → x ≡ get_or v j 0
    → set o (i + j) x ≡ sets l i (take (j + 1) v)
put_next l i v j {x = x} h e q =
    let more : take (j + 1) v ≡ take j v ++ (get_or v j 0 ∷ []) = rw add-one (take-suc v j 0 h) in
    ap (λ (w : List ℕ). set w (i + j) x) e
    ∙ (ap (λ (k : ℕ). sets (sets l i (take j v)) (i + k) (x ∷ [])) (sym (length-take-le j v (omega arith)))
    ∙ (sets_append l i (take j v) (x ∷ []) ∙ ap (sets l i) (ap (λ (y : ℕ). take j v ++ (y ∷ [])) q ∙ sym more)))

-- the line's end
pub put_end : (n : Line) (l : List ℕ) (i : ℕ) {o : List ℕ} → o ≡ sets l i (encode (bytes_of n))
    → (p : ℕ) → p ≡ i + (12 + 2 * length n.text) → i + length (line_bytes n) ≤ length l → set o p 0x0A ≡ put_at l i (line_bytes n)
unfolding put_at line_bytes bytes_of
put_end n l i e p q h =
    let b = bytes_of n in
    let z : length (encode b) ≡ 12 + 2 * length n.text = length_encode b ∙ omega arith in
    ap (λ (x : List ℕ). set x p 0x0A) e
    ∙ (ap (λ (k : ℕ). sets (sets l i (encode b)) k (0x0A ∷ [])) (omega (arith, z))
    ∙ (sets_append l i (encode b) (0x0A ∷ []) ∙ sets-eq (encode b ++ (0x0A ∷ [])) l i h))
