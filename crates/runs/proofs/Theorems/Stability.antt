-- Showing depends on the kinds, on the tags and on the texts that were compared: where these are the same, so are the value and the numbers compared.
use Rattle.std.specs.Prelude.{◌≡◌, Bool, true, ℕ, ◌+◌, eqb}
use Rattle.std.proofs.Math.Path.{refl}
use Rattle.std.proofs.Common.{◌∙◌, eq-eqb}
use Rattle.std.proofs.Math.Bool.{false}
use mathlib.Core.List.{List, [], ◌∷◌, ◌++◌, map}
use Rattle.std.proofs.Math.ListN.{length}
use Rattle.lines.specs.Texts.{same_text}
use Rattle.lines.specs.Theorems.Bools.{or_left, or_right}
use Rattle.values.specs.Values.{Origin, master, program, Value, Lookup, element_of, bytes_of, master_number, among, raised, items}
use Rattle.runs.specs.declared.stop.Stop.{Stop}
use Rattle.runs.specs.Results.{Result, gives}
use Rattle.runs.specs.Programs.{Transformation, source, nothing, text, tag, slot, contents, within, and_then, beside, each, choose, bind, Test, compares, tagged, is_element}
use Rattle.runs.specs.Showing.{Slots, Shown, Answer, one_top, one_element, one_text, in_turn, verdict, show, test}
use Rattle.runs.specs.Theorems.Combinators.{Run, Asking, within_run, then_run, branch_run, choose_run, compares_ask, plain_ask}
use Rattle.runs.specs.Theorems.Inversion.{on_gives, on_bind, on_element, on_bounded, on_turn}
use Rattle.runs.proofs.Theorems.Conservation.{among_append}

-- ## An old lookup and a new one

module _ (old new : Lookup) where
  abbrev pub SameKinds : Type 0
  SameKinds = (n : ℕ) → old.element n ≡ new.element n

  abbrev pub SameTags : Type 0
  SameTags = (n : ℕ) → old.element n ≡ true → old.bytes n ≡ new.bytes n

  -- the same texts at these numbers
  abbrev pub SameAt : List ℕ → Type 0
  SameAt c = (n : ℕ) → among n c ≡ true → old.bytes n ≡ new.bytes n

  at_left : (c d : List ℕ) → SameAt (c ++ d) → SameAt c
  at_left c d w n h = w n (among_append n c d ∙ or_left (among n c) (among n d) h)

  at_right : (c d : List ℕ) → SameAt (c ++ d) → SameAt d
  at_right c d w n h = w n (among_append n c d ∙ or_right (among n c) (among n d) h)

  -- what r gives, r' gives, if the texts compared are the same
  abbrev pub Follows : Result Stop Shown → Result Stop Shown → Type 0
  Follows r r' = (o : Shown) → r ≡ gives o → SameAt o.compared → r' ≡ gives o

  abbrev pub Stable : Run → Run → Type 0
  Stable f f' = (slots : Slots) (v : Value) → Follows (f slots v) (f' slots v)

  abbrev pub StableTest : Asking → Asking → Type 0
  StableTest t t' = (slots : Slots) (v : Value) (p : Answer) → t slots v ≡ gives p → SameAt p.compared → t' slots v ≡ gives p

  -- ## One lemma a combinator

  then_stable : (f g f' g' : Run) → Stable f f' → Stable g g' → Stable (then_run f g) (then_run f' g')
  then_stable f g f' g' F G slots v o h =
      on_bind (f slots v) _ o h λ a p h₁.
      on_bind (g slots a.value) _ o h₁ λ b q h₂.
      on_gives (λ z. SameAt z.compared → then_run f' g' slots v ≡ gives z) (record { value = b.value; compared = a.compared ++ b.compared }) o h₂ λ w.
      rw (F slots v a p (at_left a.compared b.compared w), then_run, G slots a.value b q (at_right a.compared b.compared w))

  -- part by part
  abbrev AllFollow : List (Result Stop Shown) → List (Result Stop Shown) → Type 0
  AllFollow [] [] = Unit {0}
  AllFollow [] (r ∷ rs) = ⊥
  AllFollow (r ∷ rs) [] = ⊥
  AllFollow (r ∷ rs) (r' ∷ rs') = Follows r r' × AllFollow rs rs'

  turn_follows : (e n : ℕ) (rs rs' : List (Result Stop Shown)) → AllFollow rs rs' → Follows (in_turn e n rs) (in_turn e n rs')
  unfolding in_turn
  turn_follows e n [] [] F o h w = h
  turn_follows e n [] (r' ∷ rs') F o h w = absurd F
  turn_follows e n (r ∷ rs) [] F o h w = absurd F
  turn_follows e n (r ∷ rs) (r' ∷ rs') F o h w =
      on_turn (λ z. SameAt z.compared → in_turn e n (r' ∷ rs') ≡ gives z) e n r rs o h
      (λ a b p t q w. rw (F.0 a p (at_left a.compared b.compared w), t, turn_follows e (n + length a.value) rs rs' F.1 b q (at_right a.compared b.compared w))) w

  items_follow : (f f' : Value → Result Stop Shown) → ((i : Value) → Follows (f i) (f' i)) → (is : List Value) → AllFollow (map f is) (map f' is)
  items_follow f f' F [] = tt
  items_follow f f' F (i ∷ is) = (F i, items_follow f f' F is)

  branch_stable : (t : Bool) (f g f' g' : Run) → Stable f f' → Stable g g' → Stable (branch_run t f g) (branch_run t f' g')
  branch_stable true f g f' g' F G = F
  branch_stable false f g f' g' F G = G

  choose_stable : (t t' : Asking) (f g f' g' : Run) → StableTest t t' → Stable f f' → Stable g g' → Stable (choose_run t f g) (choose_run t' f' g')
  choose_stable t t' f g f' g' T F G slots v o h =
      on_bind (t slots v) _ o h λ p q h₁.
      on_bind (branch_run p.yes f g slots v) _ o h₁ λ a r h₂.
      on_gives (λ z. SameAt z.compared → choose_run t' f' g' slots v ≡ gives z) (record { value = a.value; compared = p.compared ++ a.compared }) o h₂ λ w.
      rw (T slots v p q (at_left p.compared a.compared w), choose_run, branch_stable p.yes f g f' g' F G slots v a r (at_right p.compared a.compared w))

  -- a node whose number, if it has one, was compared
  bytes_same : (o : Origin) → SameAt (master_number o) → bytes_of old o ≡ bytes_of new o
  unfolding bytes_of master_number among
  bytes_same (master n) w = w n (or_left (eqb n n) false (eq-eqb n n refl))
  bytes_same (program e b t) w = refl

  module _ (kinds : SameKinds) where
    element_same : (o : Origin) → element_of old o ≡ element_of new o
    unfolding element_of
    element_same (master n) = kinds n
    element_same (program e b t) = refl

    one_element_same : (e : ℕ) (v : Value) → one_element old e v ≡ one_element new e v
    unfolding one_element
    one_element_same e v = simp element_same

    one_text_same : (e : ℕ) (v : Value) → one_text old e v ≡ one_text new e v
    unfolding one_text
    one_text_same e [] = refl
    one_text_same e (x ∷ []) = rw (element_same x.origin)
    one_text_same e (x ∷ y ∷ v) = refl

    within_stable : (e : ℕ) (f f' : Run) → Stable f f' → Stable (within_run old e f) (within_run new e f')
    within_stable e f f' F slots v o h w =
        on_bind (one_element old e v) _ o h λ x q h₁.
        on_bind (f slots x.inner) _ o h₁ λ a r h₂.
        let c = on_bounded (λ z. SameAt z.compared → SameAt a.compared) e (x.top ∷ raised a.value) a.compared o h₂ (λ _ u. u) w in
        rw (← (one_element_same e v), within_run, q, F slots x.inner a r c) h₂

    compares_stable : (judge : List ℕ → List ℕ → Result Stop Bool) (e : ℕ) (f f' : Run) → Stable f f'
        → StableTest (compares_ask old judge e f) (compares_ask new judge e f')
    compares_stable judge e f f' F slots v o h w =
        on_bind (one_text old e v) _ o h λ x p h₁.
        on_bind (f slots []) _ o h₁ λ a q h₂.
        on_bind (one_text old e a.value) _ o h₂ λ y r h₃.
        on_bind (judge (bytes_of old x.origin) (bytes_of old y.origin)) _ o h₃ λ b _ h₄.
        let ours = master_number x.origin in
        let theirs = master_number y.origin in
        let c = on_gives (λ z. SameAt z.compared → SameAt (a.compared ++ (ours ++ theirs))) (record { yes = b; compared = a.compared ++ (ours ++ theirs) }) o h₄ (λ u. u) w in
        let d = at_right a.compared (ours ++ theirs) c in
        rw (
          ← (one_text_same e v),
          compares_ask,
          p,
          F slots [] a q (at_left a.compared (ours ++ theirs) c),
          ← (one_text_same e a.value),
          r,
          ← (bytes_same x.origin (at_left ours theirs d)),
          ← (bytes_same y.origin (at_right ours theirs d)),
        ) h₃

    is_element_stable : (e : ℕ) → StableTest (plain_ask (one_top e) (λ x. element_of old x.top.origin)) (plain_ask (one_top e) (λ x. element_of new x.top.origin))
    is_element_stable e slots v o h w = on_bind (one_top e v) _ o h λ x q h₁. rw (q, plain_ask, ← (element_same x.top.origin)) h₁

    module _ (tags : SameTags) where
      tag_same : (o : Origin) → element_of old o ≡ true → bytes_of old o ≡ bytes_of new o
      unfolding element_of bytes_of
      tag_same (master n) h = tags n h
      tag_same (program e b t) h = refl

      tagged_stable : (e : ℕ) (t : List ℕ)
          → StableTest (plain_ask (one_element old e) (λ x. same_text (bytes_of old x.top.origin) t)) (plain_ask (one_element new e) (λ x. same_text (bytes_of new x.top.origin) t))
      tagged_stable e t slots v o h w =
          on_bind (one_element old e v) _ o h λ x q h₁.
          let s = on_element old (λ _ z. bytes_of old z.top.origin ≡ bytes_of new z.top.origin) (λ y _ _ is. tag_same y.origin is) e v x q in
          rw (← (one_element_same e v), plain_ask, q, ← s) h₁

      mutual
        unfolding show

        pub stable : (X : Transformation) → Stable (show old X) (show new X)
        stable (source e) = λ slots v o h w. h
        stable (nothing e) = λ slots v o h w. h
        stable (text e b) = λ slots v o h w. h
        stable (tag e b) = λ slots v o h w. h
        stable (slot e k) = λ slots v o h w. h
        stable (contents e) = λ slots v o h w. rw (← (one_element_same e v)) h
        stable (within e X) = within_stable e (show old X) (show new X) (stable X)
        stable (and_then e X Y) = then_stable (show old X) (show old Y) (show new X) (show new Y) (stable X) (stable Y)
        stable (beside e X Y) = λ slots v.
            turn_follows e 0 (show old X slots v ∷ show old Y slots v ∷ []) (show new X slots v ∷ show new Y slots v ∷ []) (stable X slots v, (stable Y slots v, tt))
        stable (each e X) = λ slots v.
            turn_follows e 0 (map (show old X slots) (items v)) (map (show new X slots) (items v)) (items_follow (show old X slots) (show new X slots) (stable X slots) (items v))
        stable (choose e P X Y) = choose_stable (test old P) (test new P) (show old X) (show old Y) (show new X) (show new Y) (stable_test P) (stable X) (stable Y)
        stable (bind e k X) = λ slots v. stable X (record { byte = k; value = v } ∷ slots) []

        pub stable_test : (P : Test) → StableTest (test old P) (test new P)
        stable_test (compares e c X) = compares_stable (verdict c e) e (show old X) (show new X) (stable X)
        stable_test (tagged e t) = tagged_stable e t
        stable_test (is_element e) = is_element_stable e
