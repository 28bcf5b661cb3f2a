-- Same sub-runs, same run: where two runs are put together of parts that agree.
use Rattle.std.specs.Prelude.{◌≡◌, refl, Bool, true, false, List, [], ◌∷◌, map, ℕ, take, drop}
use Rattle.std.proofs.Common.{sym, ap, ◌∙◌}
use Rattle.values.specs.Values.{Value}
use Rattle.values.specs.Standings.{Standing}
use Rattle.runs.specs.declared.stop.Stop.{Stop}
use Rattle.runs.specs.Results.{Result, gives, stops, ◌>>=◌}
use Rattle.runs.specs.Showing.{Shown, in_turn}
use Rattle.runs.specs.PuttingBack.{SlotStandings, Back, over_items}

-- one after the other: the second parts need agree only on what the first gives
pub bind_same : {E A B : Type 0} (r r' : Result E A) (f f' : A → Result E B) → r ≡ r' → ((a : A) → r ≡ gives a → f a ≡ f' a) → (r >>= f) ≡ (r' >>= f')
bind_same r r' f f' p q = go r refl ∙ ap (λ (z : Result _ _). z >>= f') p
  where
    go : (z : Result _ _) → r ≡ z → (z >>= f) ≡ (z >>= f')
    go (gives a) e = q a e
    go (stops s) e = refl

-- the same branch
pub branch_same : {A : Type 0} (b b' : Bool) (x x' y y' : A) → b ≡ b' → (b ≡ true → x ≡ x') → (b ≡ false → y ≡ y')
    → ◌≡◌ {A = A} (elim b [ true ↦ x | false ↦ y ]) (elim b' [ true ↦ x' | false ↦ y' ])
branch_same true b' x x' y y' e p q = rw (sym e) (p refl)
branch_same false b' x x' y y' e p q = rw (sym e) (q refl)

-- the same on each item
pub map_same : {A B : Type 0} (f f' : A → B) → ((a : A) → f a ≡ f' a) → (l : List A) → map f l ≡ map f' l
map_same f f' h [] = refl
map_same f f' h (a ∷ l) = rw (h a, map_same f f' h l)

pub items_same : (e n : ℕ) (f f' : Value → Result Stop Shown) → ((i : Value) → f i ≡ f' i) → (is : List Value) → in_turn e n (map f is) ≡ in_turn e n (map f' is)
items_same e n f f' h is = ap (in_turn e n) (map_same f f' h is)

pub over_items_same : (put put' : Value → List Standing → SlotStandings → Back) (size size' : Value → ℕ)
    → ((i : Value) (ss : List Standing) (us : SlotStandings) → put i ss us ≡ put' i ss us)
    → ((i : Value) → size i ≡ size' i) → (is : List Value) (ss : List Standing) (us : SlotStandings) → over_items put size is ss us ≡ over_items put' size' is ss us
unfolding over_items
over_items_same put put' size size' p q [] ss us = refl
over_items_same put put' size size' p q (i ∷ is) ss us =
    rw (q i, p i (take (size' i) ss) us, over_items_same put put' size size' p q is (drop (size' i) ss) (put' i (take (size' i) ss) us).in_slots)
