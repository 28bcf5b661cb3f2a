-- Steps of the scanner: two digits more of a line, one line more, and one place more noted.
use mathlib.Core.Path.{◌≡◌, refl, sym, ap, ◌∙◌}
use Rattle.std.specs.Prelude.{Ok, Err, None, Some, not, ◌&&◌, ltb, ◌%◌}
use Rattle.std.specs.List.{position_or_len}
use Rattle.std.proofs.Common.{get_or-drop}
use Rattle.std.proofs.lemmas.Bool.Decides.{nat_tests}
use mathlib.Core.Bool.{Bool, true, false, cond}
use mathlib.Core.List.{List, [], ◌∷◌, ◌++◌}
use Prim.Native.Nat.{ℕ, zero, suc, ◌+◌, ◌-◌, ◌≤◌, ◌<◌}
use native.Mathlib.Nat.{not-suc-le-zero, le_of_suc-le-suc}
use native.Mathlib.Numerals.{add-one}
use native.Mathlib.Omega.{arith}
use lib.Dec.{eqb}
use lib.ListN.{length, get_or, take, drop, set}
use borrow.Author.Tests.{lt-ltb, le-ltb, eq-eqb, ne_eqb}
use lib.ListN.{length-drop, drop_of_length-le}
use Rattle.lines.specs.Theorems.Lists.{drop_one}
use Rattle.lines.specs.Hex.{is_hex}
use Rattle.lines.specs.Lines.{cut, pairs_then_end}
use Rattle.lines.specs.Files.{scan_from}
use Rattle.lines.proofs.Theorems.Pairs.{digit_goes_on}
use Rattle.lines.specs.Theorems.Cutting.{end_within, end_beyond, line_long, cut_at}
use Rattle.lines.specs.Engine.Starts.{line_length, first_line, pairs_end}

-- ## The end of one line

strange : (x : ℕ) (r : List ℕ) → is_hex x ≡ false → eqb x 0x0A ≡ false → pairs_then_end (x ∷ r) ≡ false
unfolding pairs_then_end
strange x [] e q = q
strange x (y ∷ r) e q = rw e

-- a digit is followed by what is no digit, be it 0A or not
odd : (x y : ℕ) (r : List ℕ) (t : Bool) (k : ℕ) → is_hex x ≡ true → is_hex y ≡ false → pairs_then_end (x ∷ take (cond t 1 (suc k)) (y ∷ r)) ≡ false
unfolding pairs_then_end
odd x y r true k e q = rw (e, q)
odd x y r false k e q = rw (e, q)

-- without a digit it is whole if 0A stands there
bare : (x : ℕ) (r : List ℕ) (k : ℕ) → is_hex x ≡ false → (t : Bool) → eqb x 0x0A ≡ t → pairs_then_end (take (cond t 1 (suc k)) (x ∷ r)) ≡ t
unfolding pairs_then_end
bare x r k d true e = e
bare x r k d false e = strange _ _ d e

-- how many digits a line begins with
abbrev pub digits : List ℕ → ℕ
digits t = position_or_len (λ b. not (is_hex b)) t

-- whether so many digits are pairs, and 0A is behind them
ends : ℕ → List ℕ → Bool
ends n t = ltb n (length t) && (eqb (n % 2) 0 && eqb (get_or t n 0) 0x0A)

two_more : (x y n : ℕ) (t : List ℕ) → ends (1 + (1 + n)) (x ∷ y ∷ t) ≡ ends n t
unfolding ends
two_more x y n t =
    let l : ltb (1 + (1 + n)) (length (x ∷ y ∷ t)) ≡ ltb n (length t) = grind (arith, nat_tests) in
    let e : (1 + (1 + n)) % 2 ≡ n % 2 = omega arith in
    let z : 1 + (1 + n) ≡ suc (suc n) = omega arith in
    let g : get_or (x ∷ y ∷ t) (1 + (1 + n)) 0 ≡ get_or t n 0 = rw z refl in
    cc

pairs_by_digits : (t : List ℕ) → pairs_then_end (first_line t) ≡ ends (digits t) t
unfolding line_length pairs_then_end ends
pairs_by_digits [] = refl
pairs_by_digits (x ∷ []) = go (is_hex x) refl
  where
    go : (d : Bool) → is_hex x ≡ d → pairs_then_end (first_line (x ∷ [])) ≡ ends (digits (x ∷ [])) (x ∷ [])
    go true d = rw (d, digit_goes_on x d) (digit_goes_on x d)
    go false d = rw d (bare x [] 0 d (eqb x 0x0A) refl)
pairs_by_digits (x ∷ y ∷ t) = go (is_hex x) refl (is_hex y) refl (pairs_by_digits t)
  where
    go : (d : Bool) → is_hex x ≡ d → (e : Bool) → is_hex y ≡ e → pairs_then_end (first_line t) ≡ ends (digits t) t
        → pairs_then_end (first_line (x ∷ y ∷ t)) ≡ ends (digits (x ∷ y ∷ t)) (x ∷ y ∷ t)
    go false d e q r = rw (d, lt-ltb 0 (length (x ∷ y ∷ t)) (omega arith)) (bare x (y ∷ t) (line_length (y ∷ t)) d (eqb x 0x0A) refl)
    go true d false q r = rw (digit_goes_on x d, odd _ _ _ _ _ d q, d, q, lt-ltb 1 (length (x ∷ y ∷ t)) (omega arith)) refl
    go true d true q r = rw (digit_goes_on x d, digit_goes_on y q, d, q) (r ∙ sym (two_more x y (digits t) t))

-- where 0A is behind them, the line ends there
line_behind : (t : List ℕ) → digits t < length t → get_or t (digits t) 0 ≡ 0x0A → line_length t ≡ digits t + 1
unfolding line_length
line_behind [] h e = absurd (not-suc-le-zero h)
line_behind (x ∷ t) h e = go (is_hex x) refl (line_behind t) h e
  where
    go : (d : Bool) → is_hex x ≡ d → (digits t < length t → get_or t (digits t) 0 ≡ 0x0A → line_length t ≡ digits t + 1)
        → digits (x ∷ t) < suc (length t) → get_or (x ∷ t) (digits (x ∷ t)) 0 ≡ 0x0A → line_length (x ∷ t) ≡ digits (x ∷ t) + 1
    go true d r h e =
        let z : digits (x ∷ t) ≡ suc (digits t) = rw d (omega arith) in
        let k = r (omega arith) (rw z at e) in
        rw (digit_goes_on x d) (omega arith)
    go false d r h e =
        let z : digits (x ∷ t) ≡ 0 = rw d refl in
        rw (eq-eqb x 0x0A (rw z at e)) (omega arith)

-- the digits from place i on, by the byte there
module _ (s : List ℕ) (i : ℕ) where
  pub digits_more : i < length s → is_hex (get_or s i 0) ≡ true → digits (drop i s) ≡ 1 + digits (drop (i + 1) s)
  digits_more h e = rw (drop_one s i 0 h, e) refl

  pub digits_stop : i < length s → is_hex (get_or s i 0) ≡ false → digits (drop i s) ≡ 0
  digits_stop h e = rw (drop_one s i 0 h, e) refl

  pub digits_none : length s ≤ i → digits (drop i s) ≡ 0
  digits_none h = rw (drop_of_length-le s h) refl

module _ (s : List ℕ) (at : ℕ) where
  pub no_line_end : length s ≤ at + digits (drop at s) → None ≡ pairs_end s at
  unfolding pairs_end ends
  no_line_end h =
      let k : length (drop at s) ≤ digits (drop at s) = omega (arith, length-drop at s) in
      rw (pairs_by_digits (drop at s), le-ltb _ _ k) refl

  module _ (i : ℕ) (e : i ≡ at + digits (drop at s)) (h : i < length s) where
    whole : (v : Bool) → ends (digits (drop at s)) (drop at s) ≡ v → pairs_then_end (first_line (drop at s)) ≡ v
    whole v q = pairs_by_digits (drop at s) ∙ q

    same : i - at ≡ digits (drop at s)
    same = omega arith

    inside : digits (drop at s) < length (drop at s)
    inside = omega (arith, length-drop at s)

    here : get_or (drop at s) (digits (drop at s)) 0 ≡ get_or s i 0
    here = rw e (get_or-drop at s (digits (drop at s)) 0)

    pub line_end_at : (i - at) % 2 ≡ 0 → get_or s i 0 ≡ 0x0A → Some (i + 1) ≡ pairs_end s at
    unfolding pairs_end ends
    line_end_at p q =
        let l = line_behind (drop at s) inside (here ∙ q) in
        rw (whole true (rw (lt-ltb _ _ inside, eq-eqb _ 0 (rw same at p), eq-eqb _ 0x0A (here ∙ q)) refl)) (ap (λ (n : ℕ). Some n) (omega arith))

    pub line_odd : ((i - at) % 2 ≡ 0 → ⊥) → None ≡ pairs_end s at
    unfolding pairs_end ends
    line_odd p = rw (whole false (rw (lt-ltb _ _ inside, ne_eqb _ 0 (rw same at p)) refl)) refl

    pub line_strange : (i - at) % 2 ≡ 0 → (get_or s i 0 ≡ 0x0A → ⊥) → None ≡ pairs_end s at
    unfolding pairs_end ends
    line_strange p q = rw (whole false (rw (lt-ltb _ _ inside, eq-eqb _ 0 (rw same at p), ne_eqb _ 0x0A (λ z. q (sym here ∙ z))) refl)) refl

-- a line of whole pairs and 0A, from `at` to before `end`
pub record Ended (s : List ℕ) (at end : ℕ) : Type 0 where
  pub within : end ≤ length s
  pub beyond : at < end
  pub long : length (take (end - at) (drop at s)) ≡ end - at
  pub pairs : pairs_then_end (take (end - at) (drop at s)) ≡ true
  pub first : cut (drop at s) ≡ take (end - at) (drop at s) ∷ cut (drop end s)

-- what an end says of the line, and what it says that there is none
module _ (s : List ℕ) (at : ℕ) (h : at < length s) where
  pub ended : (end : ℕ) → Some end ≡ pairs_end s at → Ended s at end
  unfolding pairs_end
  ended end e = go (pairs_then_end (first_line (drop at s))) refl e
    where
      go : (t : Bool) → pairs_then_end (first_line (drop at s)) ≡ t → Some end ≡ cond t (Some (at + line_length (drop at s))) None → Ended s at end
      go false p q = cc
      go true p q =
          let k : end ≡ at + line_length (drop at s) = cc in
          let l : end - at ≡ line_length (drop at s) = omega arith in
          record {
            within = end_within s at h end k;
            beyond = end_beyond s at h end k;
            long = line_long s at h end k;
            pairs = rw l p;
            first = cut_at s at h end k;
          }

  pub not_ended : None ≡ pairs_end s at → pairs_then_end (first_line (drop at s)) ≡ false
  unfolding pairs_end
  not_ended e = go (pairs_then_end (first_line (drop at s))) e
    where
      go : (t : Bool) → None ≡ cond t (Some (at + line_length (drop at s))) None → t ≡ false
      go false q = refl
      go true q = cc

-- ## Lines and places

module _ (form : List ℕ → Bool) (limit n : ℕ) (c : List ℕ) (cs : List (List ℕ)) where
  pub scan_full : limit ≤ n → scan_from form limit n (c ∷ cs) ≡ Err n
  unfolding scan_from
  scan_full h = rw (le-ltb n limit h)

  pub scan_wrong : n < limit → form c ≡ false → scan_from form limit n (c ∷ cs) ≡ Err n
  unfolding scan_from
  scan_wrong h e = rw (lt-ltb n limit h, e)

  pub scan_more : n < limit → form c ≡ true → scan_from form limit n (c ∷ cs) ≡ scan_from form limit (n + 1) cs
  unfolding scan_from
  scan_more h e = rw (lt-ltb n limit h, e, add-one)

pub scan_end : (form : List ℕ → Bool) (limit n : ℕ) → scan_from form limit n [] ≡ Ok n
unfolding scan_from
scan_end form limit n = refl

-- the places from the next one on
pub drop_next : (n : ℕ) (s : List ℕ) (a : ℕ) (r : List ℕ) → drop n s ≡ a ∷ r → drop (suc n) s ≡ r
drop_next zero s a r e = rw e
drop_next (suc n) [] a r e = cc
drop_next (suc n) (x ∷ s) a r e = drop_next n s a r e

-- a place noted
pub note_more : (n : ℕ) (s t : List ℕ) (a : ℕ) (r : List ℕ) → drop n s ≡ a ∷ r → n < length t
    → set (take n s ++ drop n t) n a ≡ take (suc n) s ++ drop (suc n) t
note_more n s [] a r e h = absurd (not-suc-le-zero h)
note_more zero s (x ∷ t) a r e h = rw e
note_more (suc n) [] (x ∷ t) a r e h = absurd (let z : ◌≡◌ {A = ℕ} 0 1 = cc in omega arith)
note_more (suc n) (y ∷ s) (x ∷ t) a r e h = ap (λ (l : List ℕ). y ∷ l) (note_more n s t a r e (le_of_suc-le-suc h))
