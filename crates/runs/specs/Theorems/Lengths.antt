-- Putting back keeps lengths: as many standings come back as the source and the slots have nodes. So nothing is ever filled up with untouched in a run.
use Rattle.std.specs.Prelude.{◌≡◌, refl, Bool, true, false, cond, List, [], ◌∷◌, ◌++◌, map, ℕ, suc, ◌+◌, eqb, length, take, drop}
use Rattle.std.proofs.Common.{sym, ap, subst, ◌∙◌, arith, length-append, length-take, length-drop}
use Rattle.std.proofs.lemmas.List.{length-map}
use Rattle.values.specs.Values.{Value, Lookup, made, lowered, raised, items, joined}
use Rattle.values.specs.Standings.{Standing, untouched, locked, rest_of, fitted, all_over, merged}
use Rattle.values.specs.Theorems.Items.{joined_items}
use Rattle.values.specs.Theorems.Forests.{length_lowered, length_raised}
use Rattle.runs.specs.declared.stop.Stop.{Stop}
use Rattle.runs.specs.Results.{Result, gives}
use Rattle.runs.specs.Programs.{Transformation, source, nothing, text, tag, slot, contents, within, and_then, beside, each, choose, bind, Test, compares, tagged, is_element}
use Rattle.runs.specs.Showing.{Slots, value_in, Shown, Answer, one_element, one_text, in_turn, verdict, show, test}
use Rattle.runs.specs.PuttingBack.{SlotStandings, first_slot, rest_slots, merged_into, Back, back, value_of, says_yes, inside, over_items, put_back, put_back_test}
use Rattle.runs.specs.Theorems.Combinators.{Run, Asking, Putting, source_run, made_run, slot_run, contents_run, within_run}
use Rattle.runs.specs.Theorems.Combinators.{then_run, beside_run, each_run, branch_run, choose_run, bound, bind_run, compares_ask}
use Rattle.runs.specs.Theorems.Combinators.{source_put, made_put, slot_put, contents_put, within_put, then_put, beside_put}
use Rattle.runs.specs.Theorems.Combinators.{items_put, each_put, branch_put, choose_put, bind_put, compares_put}
use Rattle.runs.specs.Theorems.Inversion.{on_gives, on_bind, on_element, on_text, on_bounded, on_turn, on_pair}

-- ## Lists of standings

pub fitted_same : (v : Value) (ss : List Standing) → length ss ≡ length v → fitted v ss ≡ ss
unfolding fitted
fitted_same [] [] h = refl
fitted_same [] (s ∷ ss) h = absurd (omega arith)
fitted_same (x ∷ v) [] h = absurd (omega arith)
fitted_same (x ∷ v) (s ∷ ss) h = ap (λ (t : List Standing). s ∷ t) (fitted_same v ss (omega arith))

length_fitted : (v : Value) (ss : List Standing) → length (fitted v ss) ≡ length v
unfolding fitted
length_fitted [] ss = refl
length_fitted (x ∷ v) ss = ap suc (length_fitted v (rest_of ss))

length_all_over : (s : Standing) (v : Value) → length (all_over s v) ≡ length v
unfolding all_over
length_all_over s v = length-map v (λ x. s)

length_merged : (ss ts : List Standing) → length ss ≡ length ts → length (merged ss ts) ≡ length ss
unfolding merged
length_merged [] [] h = refl
length_merged [] (t ∷ ts) h = absurd (omega arith)
length_merged (s ∷ ss) [] h = refl
length_merged (s ∷ ss) (t ∷ ts) h = ap suc (length_merged ss ts (omega arith))

length_rest_of : (ss : List Standing) (n : ℕ) → length ss ≡ suc n → length (rest_of ss) ≡ n
length_rest_of [] n h = absurd (omega arith)
length_rest_of (s ∷ ss) n h = omega arith

-- a view cut at the first part's length
cut_lengths : (v w : Value) (ss : List Standing) → length ss ≡ length (v ++ w) → (length (take (length v) ss) ≡ length v) × (length (drop (length v) ss) ≡ length w)
cut_lengths v w ss h =
    let t = length-take (length v) ss in
    let d = length-drop (length v) ss in
    let s = length-append v w in
    (omega arith, omega arith)

-- ## The law of lengths

-- one list a slot, as long as the slot's value
abbrev pub Fits : Slots → SlotStandings → Type 0
Fits [] [] = Unit {0}
Fits [] (ss ∷ us) = ⊥
Fits (b ∷ slots) [] = ⊥
Fits (b ∷ slots) (ss ∷ us) = (length ss ≡ length b.value) × Fits slots us

abbrev pub Sized : Slots → Value → Back → Type 0
Sized slots v b = (length b.in_source ≡ length v) × Fits slots b.in_slots

-- of one call, where o had been shown
abbrev pub SizedFor : Slots → Value → Back → Shown → List Standing → SlotStandings → Type 0
SizedFor slots v b o ss us = length ss ≡ length o.value → Fits slots us → Sized slots v b

abbrev pub Fitting : Run → Putting → Type 0
Fitting run put =
    (slots : Slots) (v : Value) (o : Shown) → run slots v ≡ gives o → (ss : List Standing) (us : SlotStandings)
    → SizedFor slots v (put slots v ss us) o ss us

abbrev pub TestFitting : Asking → Putting → Type 0
TestFitting ask put =
    (slots : Slots) (v : Value) (p : Answer) → ask slots v ≡ gives p → (ss : List Standing) (us : SlotStandings)
    → SizedFor slots v (put slots v ss us) (record { value = v; compared = p.compared }) ss us

merged_fits : (k : ℕ) (slots : Slots) (ss : List Standing) (us : SlotStandings) → length ss ≡ length (value_in k slots) → Fits slots us
    → Fits slots (merged_into k slots ss us)
unfolding value_in merged_into
merged_fits k [] ss us h f = f
merged_fits k (b ∷ slots) ss [] h f = absurd f
merged_fits k (b ∷ slots) ss (u ∷ us) h f = go (eqb k b.byte) h (λ h'. merged_fits k slots ss us h' f.1)
  where
    go : (t : Bool) → length ss ≡ length (cond t b.value (value_in k slots)) → (length ss ≡ length (value_in k slots) → Fits slots (merged_into k slots ss us))
        → Fits (b ∷ slots) (cond t (merged u ss ∷ us) (u ∷ merged_into k slots ss us))
    go true h r = (length_merged u ss (f.0 ∙ sym h) ∙ f.0, f.1)
    go false h r = (f.0, r h)

source_fits : Fitting source_run source_put
source_fits slots v o h ss us = on_gives (λ z. SizedFor slots v (back ss us) z ss us) (record { value = v; compared = [] }) o h (λ l f. (l, f))

made_fits : (w : Value) → Fitting (made_run w) made_put
made_fits w slots v o h ss us l f = (length_all_over untouched v, f)

slot_fits : (k : ℕ) → Fitting (slot_run k) (slot_put k)
slot_fits k slots v o h ss us =
    on_gives (λ z. SizedFor slots v (slot_put k slots v ss us) z ss us) (record { value = value_in k slots; compared = [] }) o h
    (λ l f. (length_all_over untouched v, merged_fits k slots ss us l f))

contents_fits : (look : Lookup) (e : ℕ) → Fitting (contents_run look e) contents_put
contents_fits look e slots v o h ss us =
    on_bind (one_element look e v) _ o h λ x q h₁.
    on_gives (λ z. SizedFor slots v (contents_put slots v ss us) z ss us) (record { value = x.inner; compared = [] }) o h₁
    (on_element look (λ w z. SizedFor slots w (contents_put slots w ss us) (record { value = z.inner; compared = [] }) ss us)
    (λ y w _ _ l f. (ap suc (l ∙ length_lowered w), f)) e v x q)

within_fits : (look : Lookup) (e : ℕ) (run : Run) (put : Putting) → Fitting run put → Fitting (within_run look e run) (within_put put)
unfolding inside
within_fits look e run put fits slots v o h ss us =
    on_bind (one_element look e v) _ o h λ x q h₁.
    on_bind (run slots x.inner) _ o h₁ λ a r h₂.
    on_bounded (λ z. SizedFor slots v (within_put put slots v ss us) z ss us) e (x.top ∷ raised a.value) a.compared o h₂ λ _.
    on_element look
    (λ w z. run slots z.inner ≡ gives a
    → SizedFor slots w (within_put put slots w ss us) (record { value = z.top ∷ raised a.value; compared = a.compared }) ss us)
    (λ y w _ _ r l f.
    let s = fits slots (lowered w) a r (rest_of ss) us (length_rest_of ss (length a.value) (l ∙ ap suc (length_raised a.value))) f in
    (ap suc (s.0 ∙ length_lowered w), s.1)) e v x q r

then_fits : (f g : Run) (f' g' : Putting) → Fitting f f' → Fitting g g' → Fitting (then_run f g) (then_put f f' g')
unfolding value_of
then_fits f g f' g' F G slots v o h ss us =
    on_bind (f slots v) _ o h λ a p h₁.
    on_bind (g slots a.value) _ o h₁ λ c q h₂.
    on_gives (λ z. SizedFor slots v (then_put f f' g' slots v ss us) z ss us) (record { value = c.value; compared = a.compared ++ c.compared }) o h₂
    (rw (p, then_put) λ l k. let s = G slots a.value c q ss us l k in F slots v a p _ _ s.0 s.1)

beside_fits : (e : ℕ) (f g : Run) (f' g' : Putting) → Fitting f f' → Fitting g g' → Fitting (beside_run e f g) (beside_put f g f' g')
unfolding value_of
beside_fits e f g f' g' F G slots v o h ss us =
    on_pair (λ z. SizedFor slots v (beside_put f g f' g' slots v ss us) z ss us) e (f slots v) (g slots v) o h λ a c p q _.
    rw (p, q, beside_put) λ l k.
    let z = cut_lengths a.value c.value ss l in
    let w = length-take (length c.value) (drop (length a.value) ss) in
    let s = G slots v c q (take (length c.value) (drop (length a.value) ss)) us (omega arith) k in
    let t = F slots v a p (take (length a.value) ss) _ z.0 s.1 in
    (length_merged _ _ (t.0 ∙ sym s.0) ∙ t.0, t.1)

items_fit : (e : ℕ) (run : Run) (put : Putting) → Fitting run put → (slots : Slots) (is : List Value) (m : ℕ) (o : Shown)
    → in_turn e m (map (run slots) is) ≡ gives o → (ss : List Standing) (us : SlotStandings) → SizedFor slots (joined is) (items_put run put is slots ss us) o ss us
unfolding joined over_items value_of
items_fit e run put fits slots [] m o h ss us = λ l k. (refl, k)
items_fit e run put fits slots (i ∷ is) m o h ss us =
    on_turn (λ z. SizedFor slots (i ++ joined is) (items_put run put (i ∷ is) slots ss us) z ss us) e m (run slots i) (map (run slots) is) o h λ a c p _ q.
    rw p λ l k.
    let z = cut_lengths a.value c.value ss l in
    let s = fits slots i a p (take (length a.value) ss) us z.0 k in
    let t = items_fit e run put fits slots is (m + length a.value) c q (drop (length a.value) ss) _ z.1 s.1 in
    (beside_length i _ (joined is) _ t.0, t.1)
  where
    beside_length : (i : Value) (ss : List Standing) (w : Value) (ts : List Standing) → length ts ≡ length w → length (fitted i ss ++ ts) ≡ length (i ++ w)
    beside_length i ss w ts h =
        let x = length-append (fitted i ss) ts in
        let y = length-append i w in
        let z = length_fitted i ss in
        omega arith

each_fits : (e : ℕ) (run : Run) (put : Putting) → Fitting run put → Fitting (each_run e run) (each_put run put)
each_fits e run put fits slots v o h ss us =
    subst (λ (w : Value). SizedFor slots w (each_put run put slots v ss us) o ss us) (joined_items v) (items_fit e run put fits slots (items v) 0 o h ss us)

bind_fits : (k : ℕ) (run : Run) (put : Putting) → Fitting run put → Fitting (bind_run k run) (bind_put k put)
bind_fits k run put fits slots v o h ss us l w =
    inner (put (bound k slots v) [] ss (all_over untouched v ∷ us)).in_slots
    (fits (bound k slots v) [] o h ss (all_over untouched v ∷ us) l (length_all_over untouched v, w)).1
  where
    inner : (us : SlotStandings) → Fits (bound k slots v) us → (length (first_slot us) ≡ length v) × Fits slots (rest_slots us)
    inner [] f = absurd f
    inner (ss ∷ us) f = f

branch_fits : (t : Bool) (f g : Run) (f' g' : Putting) → Fitting f f' → Fitting g g' → Fitting (branch_run t f g) (branch_put t f' g')
branch_fits true f g f' g' F G = F
branch_fits false f g f' g' F G = G

choose_fits : (ask : Asking) (t' : Putting) (f g : Run) (f' g' : Putting) → TestFitting ask t' → Fitting f f' → Fitting g g'
    → Fitting (choose_run ask f g) (choose_put ask t' f' g')
unfolding says_yes
choose_fits ask t' f g f' g' T F G slots v o h ss us =
    on_bind (ask slots v) _ o h λ p q h₁.
    on_bind (branch_run p.yes f g slots v) _ o h₁ λ a r h₂.
    on_gives (λ z. SizedFor slots v (choose_put ask t' f' g' slots v ss us) z ss us) (record { value = a.value; compared = p.compared ++ a.compared }) o h₂
    (rw (q, choose_put) λ l k. let s = branch_fits p.yes f g f' g' F G slots v a r ss us l k in T slots v p q _ _ s.0 s.1)

compares_fits : (look : Lookup) (judge : List ℕ → List ℕ → Result Stop Bool) (e : ℕ) (run : Run) (put : Putting) → Fitting run put
    → TestFitting (compares_ask look judge e run) (compares_put put)
compares_fits look judge e run put fits slots v o h rs us l k =
    on_bind (one_text look e v) _ o h λ x p h₁.
    on_bind (run slots []) _ o h₁ λ a q h₂.
    on_bind (one_text look e a.value) _ o h₂ λ y r h₃.
    let one = on_text look (λ w _. 1 ≡ length w) (λ _ _. refl) e a.value y r in
    (length_merged rs (all_over locked v) (l ∙ sym (length_all_over locked v)) ∙ l, (fits slots [] a q (locked ∷ []) us one k).1)

module _ (look : Lookup) where
  mutual
    unfolding show put_back

    pub lengths : (X : Transformation) → Fitting (show look X) (put_back look X)
    lengths (source e) = source_fits
    lengths (nothing e) = made_fits []
    lengths (text e b) = made_fits (made e false b ∷ [])
    lengths (tag e b) = made_fits (made e true b ∷ [])
    lengths (slot e k) = slot_fits k
    lengths (contents e) = contents_fits look e
    lengths (within e X) = within_fits look e (show look X) (put_back look X) (lengths X)
    lengths (and_then e X Y) = then_fits (show look X) (show look Y) (put_back look X) (put_back look Y) (lengths X) (lengths Y)
    lengths (beside e X Y) = beside_fits e (show look X) (show look Y) (put_back look X) (put_back look Y) (lengths X) (lengths Y)
    lengths (each e X) = each_fits e (show look X) (put_back look X) (lengths X)
    lengths (choose e P X Y) = choose_fits (test look P) (put_back_test look P) (show look X) (show look Y) (put_back look X) (put_back look Y) (test_lengths P) (lengths X) (lengths Y)
    lengths (bind e k X) = bind_fits k (show look X) (put_back look X) (lengths X)

    pub test_lengths : (P : Test) → TestFitting (test look P) (put_back_test look P)
    test_lengths (compares e c X) = compares_fits look (verdict c e) e (show look X) (put_back look X) (lengths X)
    test_lengths (tagged e t) = λ slots v p h ss us l f. (l, f)
    test_lengths (is_element e) = λ slots v p h ss us l f. (l, f)
