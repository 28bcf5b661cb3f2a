-- A run that did not stop, taken apart: what its parts gave and what they found.
use Rattle.std.specs.Prelude.{◌≡◌, refl, Bool, false, not, ℕ, ◌+◌, leb, length}
use Rattle.std.proofs.Common.{subst, zero-add, arith}
use Rattle.std.proofs.Math.Bool.{true}
use mathlib.Core.List.{List, [], ◌∷◌, ◌++◌, append-nil}
use Rattle.std.proofs.lemmas.Bool.{not-true}
use Rattle.values.specs.Values.{Node, Value, Lookup, element_of, no_top, most_nodes, within_bounds}
use Rattle.runs.specs.declared.stop.Stop.{Stop}
use Rattle.runs.specs.declared.stop.Stop.TheVariants.{Source, Size}
use Rattle.runs.specs.Results.{Result, gives, stops, ◌>>=◌, ◌>>◌, ensure}
use Rattle.runs.specs.Showing.{Single, single, Shown, shown, one_top, one_element, one_text, bounded, in_turn}

-- ## Results

pub no_gives : {E A : Type 0} (e : E) (a : A) → stops e ≡ gives a → ⊥
no_gives e a h = let z : ◌≡◌ {A = ℕ} 0 1 = cc in omega arith

pub gives_inj : {E A : Type 0} (a b : A) → ◌≡◌ {A = Result E A} (gives a) (gives b) → a ≡ b
gives_inj a b h = cc

pub on_gives : {E A : Type 0} (P : A → Type 0) (a b : A) → ◌≡◌ {A = Result E A} (gives a) (gives b) → P a → P b
on_gives P a b h p = subst P (gives_inj a b h) p

pub on_bind : {E A B C : Type 0} (r : Result E A) (f : A → Result E B) (b : B) → (r >>= f) ≡ gives b → ((a : A) → r ≡ gives a → f a ≡ gives b → C) → C
on_bind (gives a) f b h k = k a refl h
on_bind (stops e) f b h k = absurd (no_gives e b h)

pub on_ensure : {E A C : Type 0} (t : Bool) (e : E) (r : Result E A) (a : A) → (ensure t e >> r) ≡ gives a → (t ≡ true → r ≡ gives a → C) → C
on_ensure true e r a h k = k refl h
on_ensure false e r a h k = absurd (no_gives e a h)

-- ## What an operation needs of its source

pub on_top : (P : Value → Single → Type 0) → ((x : Node) (w : Value) → no_top w ≡ true → P (x ∷ w) (single x w))
    → (e : ℕ) (v : Value) (p : Single) → one_top e v ≡ gives p → P v p
unfolding one_top
on_top P k e [] p h = absurd (no_gives (Source e) p h)
on_top P k e (x ∷ w) p h =
    on_ensure (no_top w) (Source e) (gives (single x w)) p h λ t g. on_gives (λ z. P (x ∷ w) z) (single x w) p g (k x w t)

module _ (look : Lookup) where
  pub on_element : (P : Value → Single → Type 0)
      → ((x : Node) (w : Value) → no_top w ≡ true → element_of look x.origin ≡ true → P (x ∷ w) (single x w))
      → (e : ℕ) (v : Value) (p : Single) → one_element look e v ≡ gives p → P v p
  unfolding one_element
  on_element P k e v p h =
      on_bind (one_top e v) (λ x. ensure (element_of look x.top.origin) (Source e) >> gives x) p h λ x q h₁.
      on_ensure (element_of look x.top.origin) (Source e) (gives x) p h₁ λ t g.
      on_gives (λ z. P v z) x p g (on_top (λ w z. element_of look z.top.origin ≡ true → P w z) k e v x q t)

  pub on_text : (P : Value → Node → Type 0) → ((x : Node) → element_of look x.origin ≡ false → P (x ∷ []) x)
      → (e : ℕ) (v : Value) (x : Node) → one_text look e v ≡ gives x → P v x
  unfolding one_text
  on_text P k e [] x h = absurd (no_gives (Source e) x h)
  on_text P k e (y ∷ []) x h =
      on_ensure (not (element_of look y.origin)) (Source e) (gives y) x h λ t g.
      on_gives (λ z. P (y ∷ []) z) y x g (k y (not-true (element_of look y.origin) t))
  on_text P k e (y ∷ z ∷ v) x h = absurd (no_gives (Source e) x h)

-- ## Values made by an entry

pub on_bounded : (P : Shown → Type 0) (e : ℕ) (v : Value) (c : List ℕ) (o : Shown) → bounded e v c ≡ gives o
    → (within_bounds v ≡ true → P (record { value = v; compared = c })) → P o
unfolding bounded
on_bounded P e v c o h k =
    on_ensure (within_bounds v) (Size e) (shown v c) o h λ t g. on_gives P (record { value = v; compared = c }) o g (k t)

-- the first part, and the others in turn
abbrev pub both : Shown → Shown → Shown
both a b = record { value = a.value ++ b.value; compared = a.compared ++ b.compared }

pub on_turn : (P : Shown → Type 0) (e n : ℕ) (r : Result Stop Shown) (rs : List (Result Stop Shown)) (o : Shown) → in_turn e n (r ∷ rs) ≡ gives o
    → ((a b : Shown) → r ≡ gives a → leb (n + length a.value) most_nodes ≡ true → in_turn e (n + length a.value) rs ≡ gives b → P (both a b)) → P o
unfolding in_turn
on_turn P e n r rs o h k =
    on_bind r _ o h λ a p h₁.
    on_ensure (leb (n + length a.value) most_nodes) (Size e) _ o h₁ λ t h₂.
    on_bind (in_turn e (n + length a.value) rs) _ o h₂ λ b q g.
    on_gives P (both a b) o g (k a b p t q)

pub on_pair : (P : Shown → Type 0) (e : ℕ) (r s : Result Stop Shown) (o : Shown) → in_turn e 0 (r ∷ s ∷ []) ≡ gives o
    → ((a b : Shown) → r ≡ gives a → s ≡ gives b → leb (length a.value + length b.value) most_nodes ≡ true → P (both a b)) → P o
unfolding in_turn
on_pair P e r s o h k =
    on_turn P e 0 r (s ∷ []) o h λ a c p _ q.
    on_turn (λ z. P (both a z)) e (length a.value) s [] c (rw zero-add at q) λ b d u t w.
    on_gives (λ z. P (both a (both b z))) (record { value = []; compared = [] }) d w (rw (append-nil b.value, append-nil b.compared) (k a b p u t))
