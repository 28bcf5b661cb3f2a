-- What an operation needs of its source, found out of the words of its extent.
use mathlib.Core.Path.{◌≡◌, refl, sym, ◌∙◌, ap}
use mathlib.Core.Bool.{Bool, true, false, ◌&&◌, not}
use mathlib.Core.List.{List, [], ◌∷◌}
use Prim.Native.Nat.{ℕ, zero, suc, ◌+◌, ◌-◌, ◌≤◌, ◌<◌}
use native.Mathlib.Omega.{arith}
use lib.ListN.{length, get_or, drop}
use Rattle.values.specs.Values.{Node, Value, Lookup, element_of, no_top}
use Rattle.values.specs.Engine.Words.{part, Made, node_of, value_of, value_at}
use Rattle.values.proofs.Theorems.WordLaws.{length_value, value_none, value_cons}
use Rattle.lines.specs.Theorems.Bools.{and_left, and_right}
use Rattle.runs.specs.declared.stop.Stop.TheVariants.{Source}
use Rattle.runs.specs.Results.{gives, stops}
use Rattle.runs.specs.Showing.{single, one_top, one_element, one_text}
use Rattle.runs.specs.Engine.Leaves.{is_one_top, is_one_element, is_one_text}

-- what was found of an extent's words, as said of its value
pub of_words : {A : Type 0} (made : Made) (words w : List ℕ) (start len : ℕ) (f : Value → A) {b : A}
    → b ≡ f (value_of made words) → words ≡ part w start len → f (value_at made w start len) ≡ b
unfolding value_at
of_words made words w start len f e p = sym (e ∙ ap (λ (l : List ℕ). f (value_of made l)) p)

-- ## The rules' needs, by the tests

pub no_top_one : (e : ℕ) (v : Value) → is_one_top v ≡ false → one_top e v ≡ stops (Source e)
unfolding is_one_top one_top
no_top_one e [] h = refl
no_top_one e (x ∷ v) h = rw h

pub top_one : (e : ℕ) (x : Node) (v : Value) → is_one_top (x ∷ v) ≡ true → one_top e (x ∷ v) ≡ gives (single x v)
unfolding is_one_top one_top
top_one e x v h = rw h

module _ (look : Lookup) where
  pub no_element_one : (e : ℕ) (v : Value) → is_one_element look v ≡ false → one_element look e v ≡ stops (Source e)
  unfolding is_one_element one_element one_top
  no_element_one e [] h = refl
  no_element_one e (x ∷ v) h = go (no_top v) refl (element_of look x.origin) refl h
    where
      go : (s : Bool) → no_top v ≡ s → (t : Bool) → element_of look x.origin ≡ t → (s && t) ≡ false → one_element look e (x ∷ v) ≡ stops (Source e)
      go true p true q k = let z : ◌≡◌ {A = ℕ} 0 1 = cc in absurd (omega arith)
      go true p false q k = rw (p, q)
      go false p t q k = rw p

  element_one : (e : ℕ) (x : Node) (v : Value) → is_one_element look (x ∷ v) ≡ true → one_element look e (x ∷ v) ≡ gives (single x v)
  unfolding is_one_element one_element one_top
  element_one e x v h = rw (and_left (no_top v) (element_of look x.origin) h, and_right (no_top v) (element_of look x.origin) h)

  pub no_text_one : (e : ℕ) (v : Value) → is_one_text look v ≡ false → one_text look e v ≡ stops (Source e)
  unfolding is_one_text one_text
  no_text_one e [] h = refl
  no_text_one e (x ∷ []) h = rw h
  no_text_one e (x ∷ y ∷ v) h = refl

  text_one : (e : ℕ) (x : Node) → is_one_text look (x ∷ []) ≡ true → one_text look e (x ∷ []) ≡ gives x
  unfolding is_one_text one_text
  text_one e x h = rw h

-- ## The same of words

module _ (made : Made) where
  pub no_word : (words : List ℕ) → length words < 1 → false ≡ is_one_top (value_of made words)
  unfolding is_one_top
  no_word [] h = refl
  no_word (x ∷ l) h = absurd (omega arith)

  pub first_word : (words : List ℕ) → 1 ≤ length words → {r : Bool} → r ≡ no_top (value_of made (drop 1 words)) → r ≡ is_one_top (value_of made words)
  unfolding is_one_top
  first_word [] h e = absurd (omega arith)
  first_word (x ∷ l) h e = e

  pub some_word : (words : List ℕ) → true ≡ is_one_top (value_of made words) → 0 < length words
  unfolding is_one_top
  some_word [] h = let z : ◌≡◌ {A = ℕ} 0 1 = cc in absurd (omega arith)
  some_word (x ∷ l) h = omega arith

  module _ (look : Lookup) where
    pub element_word : (words : List ℕ) → true ≡ is_one_top (value_of made words)
        → {r : Bool} → r ≡ element_of look (node_of made (get_or words 0 0)).origin → r ≡ is_one_element look (value_of made words)
    unfolding is_one_top is_one_element
    element_word [] h e = let z : ◌≡◌ {A = ℕ} 0 1 = cc in absurd (omega arith)
    element_word (x ∷ l) h e = rw (sym h) e

    pub no_element_word : (words : List ℕ) → false ≡ is_one_top (value_of made words) → false ≡ is_one_element look (value_of made words)
    unfolding is_one_top is_one_element
    no_element_word [] h = refl
    no_element_word (x ∷ l) h = rw (sym h)

    pub text_word : (words : List ℕ) → length words ≡ 1
        → {r : Bool} → r ≡ element_of look (node_of made (get_or words 0 0)).origin → not r ≡ is_one_text look (value_of made words)
    unfolding is_one_text
    text_word [] h e = absurd (omega arith)
    text_word (x ∷ []) h e = ap not e
    text_word (x ∷ y ∷ l) h e = absurd (omega arith)

    pub no_text_word : (words : List ℕ) → (length words ≡ 1 → ⊥) → false ≡ is_one_text look (value_of made words)
    unfolding is_one_text
    no_text_word [] h = refl
    no_text_word (x ∷ []) h = absurd (h refl)
    no_text_word (x ∷ y ∷ l) h = refl

-- ## The same of an extent

module _ (made : Made) (w : List ℕ) (start len : ℕ) (fits : start + len ≤ length w) where
  pub none_first : len ≡ 0 → value_at made w start len ≡ []
  none_first h = rw h (value_none made w start)

  pub first_rest : 0 < len → value_at made w start len ≡ node_of made (get_or w start 0) ∷ value_at made w (start + 1) (len - 1)
  first_rest h = let e : len ≡ len - 1 + 1 = omega arith in ap (value_at made w start) e ∙ value_cons made w start (len - 1) (omega arith)

  pub top_words : is_one_top (value_at made w start len) ≡ true → 0 < len
  unfolding is_one_top
  top_words h = go len refl
    where
      go : (n : ℕ) → len ≡ n → 0 < len
      go zero q = let z : is_one_top [] ≡ true = rw (none_first q) at h in let y : ◌≡◌ {A = ℕ} 0 1 = cc in absurd (omega arith)
      go (suc n) q = omega arith

  pub words_top : (e : ℕ) → is_one_top (value_at made w start len) ≡ true
      → one_top e (value_at made w start len) ≡ gives (single (node_of made (get_or w start 0)) (value_at made w (start + 1) (len - 1)))
  words_top e h = let q = first_rest (top_words h) in rw q (top_one e _ _ (rw q at h))

  module _ (look : Lookup) where
    pub element_words : is_one_element look (value_at made w start len) ≡ true → 0 < len
    unfolding is_one_element
    element_words h = go len refl
      where
        go : (n : ℕ) → len ≡ n → 0 < len
        go zero q = let z : is_one_element look [] ≡ true = rw (none_first q) at h in let y : ◌≡◌ {A = ℕ} 0 1 = cc in absurd (omega arith)
        go (suc n) q = omega arith

    pub words_element : (e : ℕ) → is_one_element look (value_at made w start len) ≡ true
        → one_element look e (value_at made w start len) ≡ gives (single (node_of made (get_or w start 0)) (value_at made w (start + 1) (len - 1)))
    words_element e h = let q = first_rest (element_words h) in rw q (element_one look e _ _ (rw q at h))

    one_word : len ≡ 1 → value_at made w start len ≡ node_of made (get_or w start 0) ∷ []
    one_word h = first_rest (omega arith) ∙ ap (λ (v : Value). node_of made (get_or w start 0) ∷ v) (rw h (value_none made w (start + 1)))

    pub text_words : is_one_text look (value_at made w start len) ≡ true → len ≡ 1
    unfolding is_one_text
    text_words h = sym (length_value made w start len fits) ∙ go (value_at made w start len) h
      where
        go : (v : Value) → is_one_text look v ≡ true → length v ≡ 1
        go [] k = let y : ◌≡◌ {A = ℕ} 0 1 = cc in absurd (omega arith)
        go (x ∷ []) k = refl
        go (x ∷ y ∷ v) k = let z : ◌≡◌ {A = ℕ} 0 1 = cc in absurd (omega arith)

    pub words_text : (e : ℕ) → is_one_text look (value_at made w start len) ≡ true → one_text look e (value_at made w start len) ≡ gives (node_of made (get_or w start 0))
    words_text e h = let q = one_word (text_words h) in rw q (text_one look e _ (rw q at h))
