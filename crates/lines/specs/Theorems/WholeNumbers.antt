-- Whole numbers: exactly the texts of the form have one, minus zero is zero, leading zeros change nothing, and none is large.
use Rattle.std.specs.Prelude.{◌≡◌, refl, Bool, true, false, List, [], ◌∷◌, ℕ, zero, suc, ◌+◌, ◌*◌, ◌-◌, ◌≤◌, ◌<◌, leb, ℤ, pos, neg_ℤ, nat_abs, length, None, Some, is_some}
use Rattle.std.proofs.Common.{sym, ap, ◌∙◌, le_trans, arith}
use borrow.Author.Tests.{leb-true, le-leb, ne_eqb}
use Rattle.lines.specs.Hex.{between}
use Rattle.lines.specs.Nodes.{all_of}
use Rattle.lines.specs.Numbers.{minus, has_minus, digits_in, are_digits, digits_value, signed, whole_number}
use Rattle.lines.specs.Theorems.Bools.{never, and_left, and_right, and_parts}

-- ## Digits

abbrev is_digit : ℕ → Bool
is_digit = between 0x30 0x39

digit_range : (d : ℕ) → is_digit d ≡ true → (0x30 ≤ d) × (d ≤ 0x39)
digit_range d t = let p = and_parts (leb 0x30 d) (leb d 0x39) t in (leb-true 0x30 d p.0, leb-true d 0x39 p.1)

pub digits_parts : (ds : List ℕ) → are_digits ds ≡ true → (1 ≤ length ds) × (length ds ≤ 9) × (all_of is_digit ds ≡ true)
unfolding are_digits
digits_parts ds t =
    let p = and_parts (between 1 9 (length ds)) (all_of is_digit ds) t in
    let q = and_parts (leb 1 (length ds)) (leb (length ds) 9) p.0 in
    (leb-true 1 (length ds) q.0, leb-true (length ds) 9 q.1, p.1)

pub first_digit : (d : ℕ) (ds : List ℕ) → all_of is_digit (d ∷ ds) ≡ true → (0x30 ≤ d) × (d ≤ 0x39)
unfolding all_of
first_digit d ds t = digit_range d (and_left (is_digit d) (all_of is_digit ds) t)

pub more_digits : (d : ℕ) (ds : List ℕ) → all_of is_digit (d ∷ ds) ≡ true → all_of is_digit ds ≡ true
unfolding all_of
more_digits d ds t = and_right (is_digit d) (all_of is_digit ds) t

-- ## How large

pub digits_grow : (front : ℕ) (ds : List ℕ) → front ≤ digits_value front ds
unfolding digits_value
digits_grow front [] = omega arith
digits_grow front (d ∷ ds) = let h = digits_grow (10 * front + (d - 0x30)) ds in omega arith

-- n with k zeros behind it
behind_zeros : ℕ → ℕ → ℕ
behind_zeros zero n = n
behind_zeros (suc k) n = behind_zeros k (10 * n)

zeros_grow : (k : ℕ) {m n : ℕ} → m ≤ n → behind_zeros k m ≤ behind_zeros k n
unfolding behind_zeros
zeros_grow zero h = h
zeros_grow (suc k) h = zeros_grow k (omega arith)

digits_below : (front : ℕ) (ds : List ℕ) → all_of is_digit ds ≡ true → digits_value front ds < behind_zeros (length ds) (suc front)
unfolding digits_value behind_zeros
digits_below front [] t = omega arith
digits_below front (d ∷ ds) t =
    let b = first_digit d ds t in
    le_trans (digits_below (10 * front + (d - 0x30)) ds (more_digits d ds t)) (zeros_grow (length ds) (omega arith))

nine_zeros : (k j : ℕ) → k + j ≡ 9 → behind_zeros k 1 ≤ 1000000000
unfolding behind_zeros
nine_zeros k zero e = let z : k ≡ 9 = omega arith in rw z (omega arith)
nine_zeros k (suc j) e = le_trans (zeros_grow k (omega arith)) (nine_zeros (suc k) j (omega arith))

pub digits_most : (ds : List ℕ) → are_digits ds ≡ true → digits_value 0 ds < 1000000000
digits_most ds t =
    let p = digits_parts ds t in
    let few = p.1 in
    le_trans (digits_below 0 ds p.2) (nine_zeros (length ds) (9 - length ds) (omega arith))

signed_size : (b : Bool) (n : ℕ) → nat_abs (signed b n) ≡ n
unfolding signed
signed_size true zero = refl
signed_size true (suc n) = refl
signed_size false n = refl

-- "one to nine digits", with a minus or without
pub whole_most : (text : List ℕ) (n : ℤ) → whole_number text ≡ Some n → nat_abs n ≤ 999999999
unfolding whole_number
whole_most text n e = go (are_digits (digits_in text)) refl
  where
    go : (t : Bool) → are_digits (digits_in text) ≡ t → nat_abs n ≤ 999999999
    go true h =
        let same : signed (has_minus text) (digits_value 0 (digits_in text)) ≡ n = let e' = rw h at e in cc in
        let size : nat_abs n ≡ digits_value 0 (digits_in text) = ap nat_abs (sym same) ∙ signed_size (has_minus text) (digits_value 0 (digits_in text)) in
        let most = digits_most (digits_in text) h in
        omega arith
    go false h = never (ap is_some (rw h at e))

-- ## The form

-- a text has a number exactly if it has the form
pub none_outside : (text : List ℕ) → are_digits (digits_in text) ≡ false → whole_number text ≡ None
unfolding whole_number
none_outside text h = rw h

pub some_inside : (text : List ℕ) → are_digits (digits_in text) ≡ true → whole_number text ≡ Some (signed (has_minus text) (digits_value 0 (digits_in text)))
unfolding whole_number
some_inside text h = rw h

-- digits alone have no minus
digits_plain : (ds : List ℕ) → are_digits ds ≡ true → has_minus ds ≡ false
unfolding has_minus
digits_plain [] t = refl
digits_plain (d ∷ ds) t = let b = first_digit d ds (digits_parts (d ∷ ds) t).2 in ne_eqb d minus (λ z. omega arith)

-- ## The value

module _ (ds : List ℕ) (t : are_digits ds ≡ true) where
  pub digits_whole : whole_number ds ≡ Some (pos (digits_value 0 ds))
  unfolding digits_in signed
  digits_whole = let p = digits_plain ds t in rw p at (some_inside ds (rw p t))

  pub minus_whole : whole_number (minus ∷ ds) ≡ Some (neg_ℤ (pos (digits_value 0 ds)))
  unfolding digits_in has_minus signed
  minus_whole = some_inside (minus ∷ ds) t

  -- "minus zero equal to zero"
  pub minus_zero : digits_value 0 ds ≡ 0 → whole_number (minus ∷ ds) ≡ whole_number ds
  minus_zero z = minus_whole ∙ (ap (λ (n : ℕ). Some (neg_ℤ (pos n))) z ∙ sym (digits_whole ∙ ap (λ (n : ℕ). Some (pos n)) z))

  module _ (short : length ds ≤ 8) where
    longer : are_digits (0x30 ∷ ds) ≡ true
    unfolding are_digits all_of
    longer =
        let p = digits_parts ds t in
        let few = p.0 in
        rw (le-leb 1 (suc (length ds)) (omega arith), le-leb (suc (length ds)) 9 (omega arith), p.2)

-- "leading zeros allowed"
pub leading_zero : (ds : List ℕ) → are_digits ds ≡ true → length ds ≤ 8 → whole_number (0x30 ∷ ds) ≡ whole_number ds
unfolding digits_value
leading_zero ds t short = digits_whole (0x30 ∷ ds) (longer ds t short) ∙ sym (digits_whole ds t)

pub leading_zero_minus : (ds : List ℕ) → are_digits ds ≡ true → length ds ≤ 8 → whole_number (minus ∷ 0x30 ∷ ds) ≡ whole_number (minus ∷ ds)
unfolding digits_value
leading_zero_minus ds t short = minus_whole (0x30 ∷ ds) (longer ds t short) ∙ sym (minus_whole ds t)
