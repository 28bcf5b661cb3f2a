-- The bytes that pairs are, and the pairs that bytes are.
use Rattle.std.specs.Prelude.{◌≡◌, refl, Bool, true, false, cond, ◌&&◌, ◌||◌, not, List, [], ◌∷◌, ◌++◌, ℕ, zero, suc, ◌+◌, ◌*◌, ◌-◌, ◌/◌, ◌%◌, ◌≤◌, ◌<◌, eqb, leb}
use Rattle.std.proofs.Common.{sym, ◌∙◌, ap, ap₂, subst, not-suc-le-zero, le_of_suc-le-suc, add-one, arith, get_or-take, get_or-drop}
use lib.ListN.{length, get_or, take, drop, replicate, length-drop}
use borrow.Author.Tests.{leb-true, le-leb, lt-leb, lt-ltb, le-ltb, eqb-true, ne_eqb}
use Rattle.lines.specs.Hex.{between, is_hex, hex_value, decode, hex_digit, encode}
use Rattle.lines.specs.Lines.{pairs_then_end}
use Rattle.lines.specs.Theorems.Bools.{never, and_left, and_right, or_cases}
use Rattle.lines.specs.Theorems.Lists.{drop_two, every_at}
use Rattle.lines.specs.Engine.Starts.{pair_at}
use Rattle.lines.specs.Engine.Writes.{Bytes}

-- ## Digits

small_in : (t : Bool) (a b k : ℕ) → (t ≡ true → a ≤ k) → b ≤ k → cond t a b ≤ k
small_in true a b k f g = f refl
small_in false a b k f g = g

pub value_small : (b : ℕ) → hex_value b ≤ 15
unfolding hex_value
value_small b =
    small_in (between 0x30 0x39 b) (b - 0x30) _ 15
    (λ e. let h : b ≤ 0x39 = leb-true b 0x39 (and_right (leb 0x30 b) (leb b 0x39) e) in omega arith)
    (small_in (between 0x41 0x46 b) (b - 0x37) 0 15 (λ e. let h : b ≤ 0x46 = leb-true b 0x46 (and_right (leb 0x41 b) (leb b 0x46) e) in omega arith) (omega arith))

-- a digit is the digit of its value
pub digit_value : (x : ℕ) → is_hex x ≡ true → hex_digit (hex_value x) ≡ x
unfolding is_hex hex_value hex_digit
digit_value x e =
    or_cases (between 0x30 0x39 x) (between 0x41 0x46 x)
    (λ q.
    let lo = leb-true 0x30 x (and_left (leb 0x30 x) (leb x 0x39) q) in
    let hi = leb-true x 0x39 (and_right (leb 0x30 x) (leb x 0x39) q) in
    rw (q, lt-ltb (x - 0x30) 10 (omega arith)) (omega arith))
    (λ q.
    let lo = leb-true 0x41 x (and_left (leb 0x41 x) (leb x 0x46) q) in
    let hi = leb-true x 0x46 (and_right (leb 0x41 x) (leb x 0x46) q) in
    rw (le-leb 0x30 x (omega arith), lt-leb x 0x39 (omega arith), q, le-ltb (x - 0x37) 10 (omega arith), lt-ltb (x - 0x37) 16 (omega arith)) (omega arith))
    e

-- 0A is no digit
pub digit_goes_on : (x : ℕ) → is_hex x ≡ true → eqb x 0x0A ≡ false
unfolding is_hex
digit_goes_on x e = ne_eqb x 0x0A (λ q. never (rw q at e))

-- what is no digit has the value 0
pub no_value : (x : ℕ) → is_hex x ≡ false → hex_value x ≡ 0
unfolding is_hex hex_value
no_value x e = go (between 0x30 0x39 x) (between 0x41 0x46 x) e
  where
    go : (s t : Bool) → (s || t) ≡ false → cond s (x - 0x30) (cond t (x - 0x37) 0) ≡ 0
    go true t e = cc
    go false true e = cc
    go false false e = refl

-- the sixteen digits: each has its value, is a digit, and ends no line
digit_fine : ℕ → ℕ → Bool
digit_fine k x = eqb (hex_value (hex_digit k)) k && (is_hex (hex_digit k) && not (eqb (hex_digit k) 0x0A))

fine : (k : ℕ) → k < 16 → digit_fine k 0 ≡ true
unfolding digit_fine hex_value hex_digit is_hex
fine k h = subst (λ (x : ℕ). digit_fine k x ≡ true) (lib.ListN.get_or-replicate 16 k 0 0 h) (every_at digit_fine (replicate 16 0) 0 tt k h)

module _ (k : ℕ) (h : k < 16) where
  pub value_digit : hex_value (hex_digit k) ≡ k
  unfolding digit_fine
  value_digit = eqb-true _ _ (and_left (eqb (hex_value (hex_digit k)) k) _ (fine k h))

  pub digit_is_hex : is_hex (hex_digit k) ≡ true
  unfolding digit_fine
  digit_is_hex = and_left (is_hex (hex_digit k)) _ (and_right (eqb (hex_value (hex_digit k)) k) _ (fine k h))

  pub digit_ends_nothing : eqb (hex_digit k) 0x0A ≡ false
  unfolding digit_fine
  digit_ends_nothing = borrow.Author.Tests.not-true _ (and_right (is_hex (hex_digit k)) _ (and_right (eqb (hex_value (hex_digit k)) k) _ (fine k h)))

-- ## Pairs

pub pair_small : (s : List ℕ) (p : ℕ) → pair_at s p < 256
unfolding pair_at
pair_small s p = omega (arith, value_small (get_or s p 0), value_small (get_or s (suc p) 0))

module _ (s : List ℕ) (p : ℕ) where
  pub high_digit : pair_at s p / 16 ≡ hex_value (get_or s p 0)
  unfolding pair_at
  high_digit = omega (arith, value_small (get_or s (suc p) 0))

  pub low_digit : pair_at s p % 16 ≡ hex_value (get_or s (suc p) 0)
  unfolding pair_at
  low_digit = omega (arith, value_small (get_or s (suc p) 0))

pub length_decode : (s : List ℕ) → length (decode s) ≡ length s / 2
unfolding decode
length_decode [] = refl
length_decode (x ∷ []) = refl
length_decode (x ∷ y ∷ r) = omega (arith, length_decode r)

pub length_encode : (b : List ℕ) → length (encode b) ≡ 2 * length b
unfolding encode
length_encode [] = refl
length_encode (x ∷ b) = omega (arith, length_encode b)

pub encode_append : (a b : List ℕ) → encode (a ++ b) ≡ encode a ++ encode b
unfolding encode
encode_append [] b = refl
encode_append (x ∷ a) b = ap (λ (r : List ℕ). hex_digit (x / 16) ∷ (hex_digit (x % 16) ∷ r)) (encode_append a b)

-- the rest's bytes: at a pair, and at the end
pub decode_pair : (s : List ℕ) (i : ℕ) → i + 1 < length s → decode (drop i s) ≡ pair_at s i ∷ decode (drop (i + 2) s)
unfolding decode pair_at
decode_pair s i h = rw (drop_two s i 0 h, add-one)

pub decode_end : (s : List ℕ) (i : ℕ) → length s ≤ i + 1 → decode (drop i s) ≡ []
unfolding decode
decode_end s i h = go (drop i s) (omega (arith, length-drop i s))
  where
    go : (l : List ℕ) → length l ≤ 1 → decode l ≡ []
    go [] h = refl
    go (x ∷ []) h = refl
    go (x ∷ y ∷ r) h = absurd (not-suc-le-zero (le_of_suc-le-suc h))

-- twice k, by steps of two
dbl : ℕ → ℕ
dbl zero = zero
dbl (suc k) = suc (suc (dbl k))

dbl_twice : (k : ℕ) → dbl k ≡ 2 * k
unfolding dbl
dbl_twice zero = refl
dbl_twice (suc k) = omega (arith, dbl_twice k)

drop_dbl : (k : ℕ) (s : List ℕ) → drop k (decode s) ≡ decode (drop (dbl k) s)
unfolding decode dbl
drop_dbl zero s = refl
drop_dbl (suc k) [] = refl
drop_dbl (suc k) (x ∷ []) = refl
drop_dbl (suc k) (x ∷ y ∷ r) = drop_dbl k r

pub drop_decode : (k : ℕ) (s : List ℕ) → drop k (decode s) ≡ decode (drop (2 * k) s)
drop_decode k s = drop_dbl k s ∙ ap (λ (n : ℕ). decode (drop n s)) (dbl_twice k)

get_d_dbl : (s : List ℕ) (k : ℕ) → k < length (decode s) → get_or (decode s) k 0 ≡ pair_at s (dbl k)
unfolding decode pair_at dbl
get_d_dbl [] k h = absurd (not-suc-le-zero h)
get_d_dbl (x ∷ []) k h = absurd (not-suc-le-zero h)
get_d_dbl (x ∷ y ∷ r) zero h = refl
get_d_dbl (x ∷ y ∷ r) (suc k) h = get_d_dbl r k (le_of_suc-le-suc h)

pub get_d_decode : (s : List ℕ) (k : ℕ) → k < length (decode s) → get_or (decode s) k 0 ≡ pair_at s (2 * k)
get_d_decode s k h = get_d_dbl s k h ∙ ap (pair_at s) (dbl_twice k)

-- a pair of a part is the whole's
pub pair_part : (s : List ℕ) (p m q : ℕ) → q + 1 < m → pair_at (take m (drop p s)) q ≡ pair_at s (p + q)
unfolding pair_at
pair_part s p m q h =
    ap₂ (λ (a b : ℕ). 16 * hex_value a + hex_value b) (rw (get_or-take m (drop p s) q 0 (omega arith), get_or-drop))
    (rw (get_or-take m (drop p s) (suc q) 0 (omega arith), get_or-drop) (ap (λ (k : ℕ). get_or s k 0) (omega arith)))

-- ## Whole lines

pub line_length_is : (c : List ℕ) → pairs_then_end c ≡ true → length c ≡ 1 + 2 * length (decode c)
unfolding pairs_then_end decode
line_length_is [] e = never e
line_length_is (x ∷ []) e = refl
line_length_is (x ∷ y ∷ r) e =
    omega (arith, line_length_is r (and_right (is_hex y) (pairs_then_end r) (and_right (is_hex x) (is_hex y && pairs_then_end r) e)))

pub decode_bytes : (s : List ℕ) → Bytes (decode s)
unfolding decode
decode_bytes [] = tt
decode_bytes (x ∷ []) = tt
decode_bytes (x ∷ y ∷ r) = (omega (arith, value_small x, value_small y), decode_bytes r)

-- bytes written as a line are read again, and a line that was read is written again
pub decode_encode : (b : List ℕ) → Bytes b → decode (encode b ++ (0x0A ∷ [])) ≡ b
unfolding decode encode
decode_encode [] g = refl
decode_encode (x ∷ b) g =
    ap₂ (λ (y : ℕ) (r : List ℕ). y ∷ r)
    (let h = g.0 in omega (arith, value_digit (x / 16) (omega arith), value_digit (x % 16) (omega arith)))
    (decode_encode b g.1)

pub encode_decode : (c : List ℕ) → pairs_then_end c ≡ true → encode (decode c) ++ (0x0A ∷ []) ≡ c
unfolding pairs_then_end decode encode
encode_decode [] e = never e
encode_decode (x ∷ []) e = ap (λ (z : ℕ). z ∷ []) (sym (eqb-true x 0x0A e))
encode_decode (x ∷ y ∷ r) e =
    let a = and_left (is_hex x) _ e in
    let b = and_left (is_hex y) _ (and_right (is_hex x) _ e) in
    let q = encode_decode r (and_right (is_hex y) _ (and_right (is_hex x) _ e)) in
    let u : (16 * hex_value x + hex_value y) / 16 ≡ hex_value x = omega (arith, value_small y) in
    let v : (16 * hex_value x + hex_value y) % 16 ≡ hex_value y = omega (arith, value_small y) in
    rw (u, v, digit_value x a, digit_value y b, q)

pub pairs_encode : (b : List ℕ) → Bytes b → pairs_then_end (encode b ++ (0x0A ∷ [])) ≡ true
unfolding pairs_then_end encode
pairs_encode [] g = refl
pairs_encode (x ∷ b) g =
    let h = g.0 in
    rw (digit_is_hex (x / 16) (omega arith), digit_is_hex (x % 16) (omega arith)) (pairs_encode b g.1)
