-- What the paper accepts with Fig. 7's guard it accepts as well with the edits of node n alone, all other nodes' copies as they were.
use Rattle.std.specs.Prelude.{◌≡◌, refl, Bool, true, false, cond, ◌&&◌, not, List, [], ◌∷◌, ℕ, eqb}
use Rattle.std.proofs.Common.{sym, ap, subst, ◌∙◌, arith}
use Rattle.std.proofs.Math.Path.{subst⁻¹}
use Rattle.lines.specs.Texts.{same_text}
use Rattle.lines.specs.Theorems.SameTexts.{same_text_refl}
use Rattle.paper.specs.Data.{Updating, ori, non, mod', del, ElementUpdating, ori_e, del_e, From, src, code, Sequence, none, str, elt, ◌⧺◌, len, May}
use Rattle.paper.specs.Data.{fail, got, ◌>>=◌, ◌>>◌, provided, is_none, the_string, Element, the_element, the_item, same_from, same_sequence}
use Rattle.paper.specs.Language.{Construct, xid, xconst, xvar, xchild, xsetcnt, xseq, xpar, xmap, xif, xlet, Predicate, xeq, xjudged, xwithtag, xiselement}
use Rattle.paper.specs.Contexts.{Context, PairContext, firsts, find}
use Rattle.paper.specs.Operators.{mg_string, mg_element, mg, cut, split, Forward, Backward, iter, guard_string, guard}
use Rattle.paper.specs.Semantics.{is_constant, updated, on_each, lengths, branch, taken, judged_backward, forward, asks, backward, holds}
use Rattle.paper.specs.Theorems.Trees.{seq_none, seq_assoc}

-- ## Executions side by side: where p yields, q yields, and the two are in the relation

abbrev pub Follows : {A : Type 0} → (A → A → Type 0) → May A → May A → Type 0
Follows {A} L p q = (r : A) → p ≡ got r → (z : A) × (q ≡ got z) × L r z

follows_got : {A : Type 0} (L : A → A → Type 0) (a b : A) → L a b → Follows L (got a) (got b)
follows_got {A} L a b x r h = let e : a ≡ r = cc in (b, refl, subst (λ (c : A). L c b) e x)

follows_then : {A B : Type 0} (L : A → A → Type 0) (M : B → B → Type 0) (p q : May A) (k l : A → May B)
    → Follows L p q → ((a b : A) → L a b → Follows M (k a) (l b)) → Follows M (p >>= k) (q >>= l)
follows_then L M fail q k l H K r h = let z : ◌≡◌ {A = ℕ} 0 1 = cc in absurd (omega arith)
follows_then L M (got a) q k l H K r h = let w = H a refl in rw w.1 (K a w.0 w.2 r h)

follows_after : {A B : Type 0} (M : B → B → Type 0) (p : May A) (k l : A → May B) → ((a : A) → p ≡ got a → Follows M (k a) (l a)) → Follows M (p >>= k) (p >>= l)
follows_after M fail k l K r h = let z : ◌≡◌ {A = ℕ} 0 1 = cc in absurd (omega arith)
follows_after M (got a) k l K r h = K a refl r h

follows_provided : {A : Type 0} (M : A → A → Type 0) (b c : Bool) (p q : May A) → (b ≡ true → c ≡ true) → Follows M p q → Follows M (provided b >> p) (provided c >> q)
follows_provided M true c p q i H = rw (i refl) H
follows_provided M false c p q i H = λ r h. let z : ◌≡◌ {A = ℕ} 0 1 = cc in absurd (omega arith)

follows_branch : {A B : Type 0} (M : B → B → Type 0) (b : Bool) (f g : May A) (w : A) (p q p' q' : May B) → branch b f g ≡ got w
    → (f ≡ got w → Follows M p p') → (g ≡ got w → Follows M q q') → Follows M (branch b p q) (branch b p' q')
follows_branch M true f g w p q p' q' h H K = H h
follows_branch M false f g w p q p' q' h H K = K h

-- where both are known to yield
follows_at : {A B : Type 0} (M : B → B → Type 0) (p q : May A) (k l : A → May B) (a b : A) → p ≡ got a → q ≡ got b → Follows M (k a) (l b) → Follows M (p >>= k) (q >>= l)
follows_at M p q k l a b e f H = rw (e, f) H

-- where both are the same as p
follows_again : {A B : Type 0} (M : B → B → Type 0) (p p₁ p₂ : May A) (k l : A → May B) → p₁ ≡ p → p₂ ≡ p
    → ((a : A) → p ≡ got a → Follows M (k a) (l a)) → Follows M (p₁ >>= k) (p₂ >>= l)
follows_again M p p₁ p₂ k l e f K = rw (e, f) (follows_after M p k l K)

-- what follows on what p yields
at_got : {A B : Type 0} (p : May A) (k : A → May B) (a : A) (r : B) → p ≡ got a → (p >>= k) ≡ got r → k a ≡ got r
at_got p k a r e h = rw e at h

on_got : {A B G : Type 0} (p : May A) (k : A → May B) (r : B) → (p >>= k) ≡ got r → ((a : A) → p ≡ got a → k a ≡ got r → G) → G
on_got fail k r h K = let z : ◌≡◌ {A = ℕ} 0 1 = cc in absurd (omega arith)
on_got (got a) k r h K = K a refl h

provided_got : {A : Type 0} (b : Bool) (a r : A) → (provided b >> got a) ≡ got r → (b ≡ true) × (a ≡ r)
provided_got true a r h = (refl, cc)
provided_got false a r h = let z : ◌≡◌ {A = ℕ} 0 1 = cc in absurd (omega arith)

the_element_is : (S : Sequence) (a : Element) → the_element S ≡ got a → S ≡ elt a.tag a.state a.origin a.contents none
the_element_is none a h = let z : ◌≡◌ {A = ℕ} 0 1 = cc in absurd (omega arith)
the_element_is (str t u o S) a h = let z : ◌≡◌ {A = ℕ} 0 1 = cc in absurd (omega arith)
the_element_is (elt t w o K (str a b c d)) e h = let z : ◌≡◌ {A = ℕ} 0 1 = cc in absurd (omega arith)
the_element_is (elt t w o K (elt a b c d f)) e h = let z : ◌≡◌ {A = ℕ} 0 1 = cc in absurd (omega arith)
the_element_is (elt t w o K none) a h =
    let e = (provided_got true (record { tag = t; state = w; origin = o; contents = K }) a h).1 in ap (λ (z : Element). elt z.tag z.state z.origin z.contents none) e

module _ (n : ℕ) where
  -- a master's node, and not n
  abbrev is_other : From → Bool
  is_other (src m) = not (eqb n m)
  is_other code = false

  -- ## Copies of one original: the updated one, and the one with the edits of n alone

  -- of a string t^(u,o): a^(x,o) and b^(y,o)
  pub data Strings (o : From) (t : List ℕ) (u : Updating) (a : List ℕ) (x : Updating) (b : List ℕ) (y : Updating) : Type 0 where
    edited : is_other o ≡ false → b ≡ a → y ≡ x → Strings o t u a x b y
    still : is_other o ≡ true → b ≡ t → y ≡ u → Strings o t u a x b y
    guarded : is_other o ≡ true → b ≡ t → u ≡ ori → y ≡ non → Strings o t u a x b y

  -- of an element in state w: its state x, and y
  pub data Tags (o : From) (w x y : ElementUpdating) : Type 0 where
    edited : is_other o ≡ false → y ≡ x → Tags o w x y
    still : is_other o ≡ true → y ≡ w → Tags o w x y

  abbrev pub Copies : Sequence → Sequence → Sequence → Type 0
  Copies none T R = (T ≡ none) × (R ≡ none)
  Copies (str t u o S) T R =
      (a : List ℕ) × (x : Updating) × (T₁ : Sequence) × (b : List ℕ) × (y : Updating) × (R₁ : Sequence)
      × (T ≡ str a x o T₁) × (R ≡ str b y o R₁) × Strings o t u a x b y × Copies S T₁ R₁
  Copies (elt t w o K S) T R =
      (x : ElementUpdating) × (L : Sequence) × (T₁ : Sequence) × (y : ElementUpdating) × (M : Sequence) × (R₁ : Sequence)
      × (T ≡ elt t x o L T₁) × (R ≡ elt t y o M R₁) × Tags o w x y × Copies K L M × Copies S T₁ R₁

  abbrev pub CopiesAll : Context → PairContext → PairContext → Type 0
  CopiesAll [] E F = (E ≡ []) × (F ≡ [])
  CopiesAll ((k, S) ∷ C) E F =
      (T : Sequence) × (E₁ : PairContext) × (R : Sequence) × (F₁ : PairContext)
      × (E ≡ (k, (S, T)) ∷ E₁) × (F ≡ (k, (S, R)) ∷ F₁) × Copies S T R × CopiesAll C E₁ F₁

  abbrev pub Both : Context → Sequence → Sequence × PairContext → Sequence × PairContext → Type 0
  Both C S r z = Copies S r.0 z.0 × CopiesAll C r.1 z.1

  firsts_copies : (C : Context) (E F : PairContext) → CopiesAll C E F → (firsts E ≡ C) × (firsts F ≡ C)
  firsts_copies [] E F (p, q) = rw (p, q) (refl, refl)
  firsts_copies ((k, S) ∷ C) E F (T, E₁, R, F₁, p, q, c, d) = let i = firsts_copies C E₁ F₁ d in rw (p, q, i.0, i.1) (refl, refl)

  strings_same : (o : From) (t : List ℕ) (u : Updating) → Strings o t u t u t u
  strings_same o t u = go (is_other o) refl
    where
      go : (b : Bool) → is_other o ≡ b → Strings o t u t u t u
      go true e = still e refl refl
      go false e = edited e refl refl

  tags_same : (o : From) (w : ElementUpdating) → Tags o w w w
  tags_same o w = go (is_other o) refl
    where
      go : (b : Bool) → is_other o ≡ b → Tags o w w w
      go true e = still e refl
      go false e = edited e refl

  copies_same : (S : Sequence) → Copies S S S
  copies_same none = (refl, refl)
  copies_same (str t u o S) = (t, u, S, t, u, S, refl, refl, strings_same o t u, copies_same S)
  copies_same (elt t w o K S) = (w, K, S, w, K, S, refl, refl, tags_same o w, copies_same K, copies_same S)

  copies_append : (A B T T' R R' : Sequence) → Copies A T R → Copies B T' R' → Copies (A ⧺ B) (T ⧺ T') (R ⧺ R')
  copies_append none B T T' R R' (p, q) d = rw (p, q) d
  copies_append (str t u o A) B T T' R R' (a, x, T₁, b, y, R₁, p, q, e, c) d =
      (a, x, T₁ ⧺ T', b, y, R₁ ⧺ R', rw p, rw q, e, copies_append A B T₁ T' R₁ R' c d)
  copies_append (elt t w o K A) B T T' R R' (x, L, T₁, y, M, R₁, p, q, e, k, c) d =
      (x, L, T₁ ⧺ T', y, M, R₁ ⧺ R', rw p, rw q, e, k, copies_append A B T₁ T' R₁ R' c d)

  -- ## mg

  mg_string_same : (o : From) (t : List ℕ) (u : Updating) → mg_string o t u t u ≡ got (t, u)
  mg_string_same o t ori = rw (same_text_refl t)
  mg_string_same o t non = rw (same_text_refl t)
  mg_string_same o t mod' = rw (same_text_refl t)
  mg_string_same o t del = rw (same_text_refl t)

  mg_held : (o : From) (t : List ℕ) → is_other o ≡ true → (mg_string o t ori t non ≡ got (t, non)) × (mg_string o t non t ori ≡ got (t, non))
  mg_held (src m) t h = (rw (same_text_refl t), rw (same_text_refl t))
  mg_held code t h = (cc, cc)

  mg_strings : (o : From) (t : List ℕ) (u : Updating) (a : List ℕ) (x : Updating) (b : List ℕ) (y : Updating)
      (a' : List ℕ) (x' : Updating) (b' : List ℕ) (y' : Updating) → Strings o t u a x b y → Strings o t u a' x' b' y'
      → Follows (λ r z. Strings o t u r.0 r.1 z.0 z.1) (mg_string o a x a' x') (mg_string o b y b' y')
  mg_strings o t u a x b y a' x' b' y' (edited h p q) (edited h' p' q') = λ r e. (r, rw (p, q, p', q') e, edited h refl refl)
  mg_strings o t u a x b y a' x' b' y' (edited h p q) (still h' p' q') = λ r e. let z : ◌≡◌ {A = ℕ} 0 1 = cc in absurd (omega arith)
  mg_strings o t u a x b y a' x' b' y' (edited h p q) (guarded h' p' i' q') = λ r e. let z : ◌≡◌ {A = ℕ} 0 1 = cc in absurd (omega arith)
  mg_strings o t u a x b y a' x' b' y' (still h p q) (edited h' p' q') = λ r e. let z : ◌≡◌ {A = ℕ} 0 1 = cc in absurd (omega arith)
  mg_strings o t u a x b y a' x' b' y' (guarded h p i q) (edited h' p' q') = λ r e. let z : ◌≡◌ {A = ℕ} 0 1 = cc in absurd (omega arith)
  mg_strings o t u a x b y a' x' b' y' (still h p q) (still h' p' q') = λ r e. ((t, u), rw (p, q, p', q') (mg_string_same o t u), still h refl refl)
  mg_strings o t u a x b y a' x' b' y' (still h p q) (guarded h' p' i' q') = λ r e. ((t, non), rw (p, q, p', q', i') (mg_held o t h).0, guarded h refl i' refl)
  mg_strings o t u a x b y a' x' b' y' (guarded h p i q) (still h' p' q') = λ r e. ((t, non), rw (p, q, p', q', i) (mg_held o t h).1, guarded h refl i refl)
  mg_strings o t u a x b y a' x' b' y' (guarded h p i q) (guarded h' p' i' q') = λ r e. ((t, non), rw (p, q, p', q') (mg_string_same o t non), guarded h refl i refl)

  mg_element_same : (o : From) (w : ElementUpdating) → mg_element o w w ≡ got w
  mg_element_same o ori_e = refl
  mg_element_same o del_e = refl

  mg_tags : (o : From) (w x y x' y' : ElementUpdating) → Tags o w x y → Tags o w x' y' → Follows (Tags o w) (mg_element o x x') (mg_element o y y')
  mg_tags o w x y x' y' (edited h p) (edited h' p') = λ r e. (r, rw (p, p') e, edited h refl)
  mg_tags o w x y x' y' (edited h p) (still h' p') = λ r e. let z : ◌≡◌ {A = ℕ} 0 1 = cc in absurd (omega arith)
  mg_tags o w x y x' y' (still h p) (edited h' p') = λ r e. let z : ◌≡◌ {A = ℕ} 0 1 = cc in absurd (omega arith)
  mg_tags o w x y x' y' (still h p) (still h' p') = λ r e. (w, rw (p, p') (mg_element_same o w), still h refl)

  mg_str : (t : List ℕ) (u : Updating) (o : From) (S T R T' R' : Sequence) (c : Copies (str t u o S) T R) (d : Copies (str t u o S) T' R')
      → Follows (Copies S) (mg c.2 d.2) (mg c.5 d.5) → Follows (Copies (str t u o S)) (mg T T') (mg R R')
  mg_str t u o S T R T' R' c d I =
      rw (c.6, c.7, d.6, d.7)
      (follows_provided (Copies (str t u o S)) (same_from o o) (same_from o o) _ _ (λ h. h)
      (follows_then (λ r z. Strings o t u r.0 r.1 z.0 z.1) (Copies (str t u o S)) (mg_string o c.0 c.1 d.0 d.1) (mg_string o c.3 c.4 d.3 d.4) _ _
      (mg_strings o t u c.0 c.1 c.3 c.4 d.0 d.1 d.3 d.4 c.8 d.8) λ r z i.
      follows_then (Copies S) (Copies (str t u o S)) (mg c.2 d.2) (mg c.5 d.5) _ _ I λ Q U k.
      follows_got (Copies (str t u o S)) (str r.0 r.1 o Q) (str z.0 z.1 o U) (r.0, r.1, Q, z.0, z.1, U, refl, refl, i, k)))

  mg_elt : (t : List ℕ) (w : ElementUpdating) (o : From) (K S T R T' R' : Sequence) (c : Copies (elt t w o K S) T R) (d : Copies (elt t w o K S) T' R')
      → Follows (Copies K) (mg c.1 d.1) (mg c.4 d.4) → Follows (Copies S) (mg c.2 d.2) (mg c.5 d.5)
      → Follows (Copies (elt t w o K S)) (mg T T') (mg R R')
  mg_elt t w o K S T R T' R' c d J I =
      rw (c.6, c.7, d.6, d.7)
      (follows_provided (Copies (elt t w o K S)) (same_text t t && same_from o o) (same_text t t && same_from o o) _ _ (λ h. h)
      (follows_then (Tags o w) (Copies (elt t w o K S)) (mg_element o c.0 d.0) (mg_element o c.3 d.3) _ _ (mg_tags o w c.0 c.3 d.0 d.3 c.8 d.8) λ r z i.
      follows_then (Copies K) (Copies (elt t w o K S)) (mg c.1 d.1) (mg c.4 d.4) _ _ J λ G H j.
      follows_then (Copies S) (Copies (elt t w o K S)) (mg c.2 d.2) (mg c.5 d.5) _ _ I λ Q U k.
      follows_got (Copies (elt t w o K S)) (elt t r o G Q) (elt t z o H U) (r, G, Q, z, H, U, refl, refl, i, j, k)))

  mg_none : (T R T' R' : Sequence) → Copies none T R → Copies none T' R' → Follows (Copies none) (mg T T') (mg R R')
  mg_none T R T' R' c d = rw (c.0, c.1, d.0, d.1) (follows_got (Copies none) none none (refl, refl))

  mg_copies : (S T R T' R' : Sequence) → Copies S T R → Copies S T' R' → Follows (Copies S) (mg T T') (mg R R')
  mg_copies none T R T' R' c d = mg_none T R T' R' c d
  mg_copies (str t u o S) T R T' R' c d = mg_str t u o S T R T' R' c d (mg_copies S c.2 c.5 d.2 d.5 c.9 d.9)
  mg_copies (elt t w o K S) T R T' R' c d =
      mg_elt t w o K S T R T' R' c d (mg_copies K c.1 c.4 d.1 d.4 c.9 d.9) (mg_copies S c.2 c.5 d.2 d.5 c.10 d.10)

  -- ## split and iter

  record Cut (A B T R : Sequence) : Type 0 where
    front : Sequence
    behind : Sequence
    front' : Sequence
    behind' : Sequence
    cuts : cut (len A) T ≡ got (front, behind)
    cuts' : cut (len A) R ≡ got (front', behind')
    fronts : Copies A front front'
    behinds : Copies B behind behind'

  cut_copies : (A B T R : Sequence) → Copies (A ⧺ B) T R → Cut A B T R
  cut_copies none B T R c = record { front = none; behind = T; front' = none; behind' = R; cuts = refl; cuts' = refl; fronts = (refl, refl); behinds = c }
  cut_copies (str t u o A) B T R (a, x, T', b, y, R', p, q, e, c) =
      let k = cut_copies A B T' R' c in
      record {
        front = str a x o k.front;
        behind = k.behind;
        front' = str b y o k.front';
        behind' = k.behind';
        cuts = rw (p, k.cuts);
        cuts' = rw (q, k.cuts');
        fronts = (a, x, k.front, b, y, k.front', refl, refl, e, k.fronts);
        behinds = k.behinds;
      }
  cut_copies (elt t w o K A) B T R (x, L, T', y, M, R', p, q, e, m, c) =
      let k = cut_copies A B T' R' c in
      record {
        front = elt t x o L k.front;
        behind = k.behind;
        front' = elt t y o M k.front';
        behind' = k.behind';
        cuts = rw (p, k.cuts);
        cuts' = rw (q, k.cuts');
        fronts = (x, L, k.front, y, M, k.front', refl, refl, e, m, k.fronts);
        behinds = k.behinds;
      }

  module _ (C : Context) (fwd : Sequence → May Sequence) (bwd : Backward)
      (H : (E F : PairContext) (S W T R : Sequence) → CopiesAll C E F → fwd S ≡ got W → Copies W T R → Follows (Both C S) (bwd E S T) (bwd F S R)) where
    record Each (S T R : Sequence) : Type 0 where
      ls : List ℕ
      lengths_are : lengths fwd S ≡ got ls
      parts : List Sequence
      parts' : List Sequence
      splits : split T ls ≡ got parts
      splits' : split R ls ≡ got parts'
      iters : (P before before' : Sequence) (E F : PairContext) → Copies P before before' → CopiesAll C E F
          → Follows (Both C (P ⧺ S)) (iter bwd parts S before E) (iter bwd parts' S before' F)

    -- the item v in front
    each_item : (v S A B W T R : Sequence) → fwd v ≡ got A → got (A ⧺ B) ≡ got W → Copies W T R
        → (lengths fwd (v ⧺ S) ≡ (fwd v >>= λ D. (lengths fwd S >>= λ l. got (len D ∷ l))))
        → ((D : Sequence) (l : List Sequence) (before : Sequence) (E : PairContext)
        → iter bwd (D ∷ l) (v ⧺ S) before E ≡ (bwd E v D >>= λ r. iter bwd l S (before ⧺ r.0) r.1))
        → ((T₂ R₂ : Sequence) → Copies B T₂ R₂ → Each S T₂ R₂) → Each (v ⧺ S) T R
    each_item v S A B W T R p h c lg it rest =
        let e : A ⧺ B ≡ W = cc in
        let k = cut_copies A B T R (subst⁻¹ (λ (Z : Sequence). Copies Z T R) e c) in
        let I = rest k.behind k.behind' k.behinds in
        record {
          ls = len A ∷ I.ls;
          lengths_are = lg ∙ rw (p, I.lengths_are);
          parts = k.front ∷ I.parts;
          parts' = k.front' ∷ I.parts';
          splits = rw (k.cuts, I.splits);
          splits' = rw (k.cuts', I.splits');
          iters = λ P before before' E F cs d.
              rw (it k.front I.parts before E, it k.front' I.parts' before' F)
              (follows_then (Both C v) (Both C (P ⧺ (v ⧺ S))) (bwd E v k.front) (bwd F v k.front') _ _ (H E F v A k.front k.front' d p k.fronts) λ r z b.
              subst (λ (Z : Sequence). Follows (Both C Z) (iter bwd I.parts S (before ⧺ r.0) r.1) (iter bwd I.parts' S (before' ⧺ z.0) z.1)) (seq_assoc P v S)
              (I.iters (P ⧺ v) (before ⧺ r.0) (before' ⧺ z.0) r.1 z.1 (copies_append P v before r.0 before' z.0 cs b.0) b.1));
        }

    each_copies : (S W T R : Sequence) → on_each fwd S ≡ got W → Copies W T R → Each S T R
    each_copies none W T R h c =
        let e : none ≡ W = cc in
        let d = subst⁻¹ (λ (Z : Sequence). Copies Z T R) e c in
        record {
          ls = [];
          lengths_are = refl;
          parts = [];
          parts' = [];
          splits = rw d.0;
          splits' = rw d.1;
          iters = λ P before before' E F cs d. rw (seq_none P) (follows_got (Both C P) (before, E) (before', F) (cs, d));
        }
    each_copies (str t u o S) W T R h c =
        on_got (fwd (str t u o none)) _ W h λ A p h₁. on_got (on_each fwd S) _ W h₁ λ B q h₂.
        each_item (str t u o none) S A B W T R p h₂ c refl (λ D l before E. refl) (λ T₂ R₂ d. each_copies S B T₂ R₂ q d)
    each_copies (elt t w o K S) W T R h c =
        on_got (fwd (elt t w o K none)) _ W h λ A p h₁. on_got (on_each fwd S) _ W h₁ λ B q h₂.
        each_item (elt t w o K none) S A B W T R p h₂ c refl (λ D l before E. refl) (λ T₂ R₂ d. each_copies S B T₂ R₂ q d)

  -- ## guard

  guard_form : (a : List ℕ) (x : Updating) (o : From) (same : Bool) (Q : Sequence) → guard_string a x o same ≡ got Q → (v : Updating) × (Q ≡ str a v o none)
  guard_form a ori (src m) same Q h = (non, sym (provided_got same (str a non (src m) none) Q h).1)
  guard_form a non (src m) same Q h = (non, sym (provided_got same (str a non (src m) none) Q h).1)
  guard_form a mod' (src m) same Q h = (mod', sym (provided_got same (str a mod' (src m) none) Q h).1)
  guard_form a del (src m) same Q h = (del, sym (provided_got same (str a del (src m) none) Q h).1)
  guard_form a ori code same Q h = (ori, sym (provided_got same (str a ori code none) Q h).1)
  guard_form a non code same Q h = let z : ◌≡◌ {A = ℕ} 0 1 = cc in absurd (omega arith)
  guard_form a mod' code same Q h = let z : ◌≡◌ {A = ℕ} 0 1 = cc in absurd (omega arith)
  guard_form a del code same Q h = let z : ◌≡◌ {A = ℕ} 0 1 = cc in absurd (omega arith)

  -- another node's text as it was, and once more
  guard_still : (o : From) (t : List ℕ) (u : Updating) (a : List ℕ) (v : Updating) → is_other o ≡ true
      → (y : Updating) × (guard_string t u o true ≡ got (str t y o none)) × Strings o t u a v t y
  guard_still (src m) t ori a v h = (non, refl, guarded h refl refl refl)
  guard_still (src m) t non a v h = (non, refl, still h refl refl)
  guard_still (src m) t mod' a v h = (mod', refl, still h refl refl)
  guard_still (src m) t del a v h = (del, refl, still h refl refl)
  guard_still code t u a v h = let z : ◌≡◌ {A = ℕ} 0 1 = cc in absurd (omega arith)

  guard_guarded : (o : From) (t : List ℕ) → is_other o ≡ true → guard_string t non o true ≡ got (str t non o none)
  guard_guarded (src m) t h = refl
  guard_guarded code t h = cc

  guard_strings : (o : From) (t : List ℕ) (u : Updating) (a : List ℕ) (x : Updating) (b : List ℕ) (y : Updating) → Strings o t u a x b y
      → Follows (Copies (str t u o none)) (guard_string a x o (same_text a t)) (guard_string b y o (same_text b t))
  guard_strings o t u a x b y (edited h p q) = λ Q e.
      let f = guard_form a x o (same_text a t) Q e in
      (Q, rw (p, q) e, (a, f.0, none, a, f.0, none, f.1, f.1, edited h refl refl, (refl, refl)))
  guard_strings o t u a x b y (still h p q) = λ Q e.
      let f = guard_form a x o (same_text a t) Q e in
      let k = guard_still o t u a f.0 h in
      (str t k.0 o none, rw (p, q, same_text_refl t) k.1, (a, f.0, none, t, k.0, none, f.1, refl, k.2, (refl, refl)))
  guard_strings o t u a x b y (guarded h p i q) = λ Q e.
      let f = guard_form a x o (same_text a t) Q e in
      (str t non o none, rw (p, q, same_text_refl t) (guard_guarded o t h), (a, f.0, none, t, non, none, f.1, refl, guarded h refl i refl, (refl, refl)))

  guard_copies : (S T R : Sequence) (s : List ℕ) → the_string S ≡ got s → Copies S T R → Follows (Copies S) (guard T s) (guard R s)
  guard_copies none T R s h c = let z : ◌≡◌ {A = ℕ} 0 1 = cc in absurd (omega arith)
  guard_copies (elt t w o K S) T R s h c = let z : ◌≡◌ {A = ℕ} 0 1 = cc in absurd (omega arith)
  guard_copies (str t u o (str t' u' o' S)) T R s h c = let z : ◌≡◌ {A = ℕ} 0 1 = cc in absurd (omega arith)
  guard_copies (str t u o (elt t' w o' K S)) T R s h c = let z : ◌≡◌ {A = ℕ} 0 1 = cc in absurd (omega arith)
  guard_copies (str t u o none) T R s h (a, x, T₁, b, y, R₁, p, q, e, (i, j)) =
      subst (λ (z : List ℕ). Follows (Copies (str t u o none)) (guard T z) (guard R z)) (provided_got true t s h).1 (rw (p, q, i, j) (guard_strings o t u a x b y e))

  -- ## Constants, elements and slots

  code_strings : (t : List ℕ) (u : Updating) (a : List ℕ) (x : Updating) (b : List ℕ) (y : Updating) → Strings code t u a x b y → (b ≡ a) × (y ≡ x)
  code_strings t u a x b y (edited h p q) = (p, q)
  code_strings t u a x b y (still h p q) = let z : ◌≡◌ {A = ℕ} 0 1 = cc in absurd (omega arith)
  code_strings t u a x b y (guarded h p i q) = let z : ◌≡◌ {A = ℕ} 0 1 = cc in absurd (omega arith)

  code_tags : (w x y : ElementUpdating) → Tags code w x y → y ≡ x
  code_tags w x y (edited h p) = p
  code_tags w x y (still h p) = let z : ◌≡◌ {A = ℕ} 0 1 = cc in absurd (omega arith)

  constant_copies : (K T R : Sequence) → is_constant K ≡ true → Copies K T R → R ≡ T
  constant_copies none T R h (p, q) = q ∙ sym p
  constant_copies (str t ori code none) T R h (a, x, T₁, b, y, R₁, p, q, e, (i, j)) = let s = code_strings t ori a x b y e in rw (p, q, i, j, s.0, s.1)
  constant_copies (str t ori code (str a b c d)) T R h k = let z : ◌≡◌ {A = ℕ} 0 1 = cc in absurd (omega arith)
  constant_copies (str t ori code (elt a b c d e)) T R h k = let z : ◌≡◌ {A = ℕ} 0 1 = cc in absurd (omega arith)
  constant_copies (str t ori (src m) S) T R h k = let z : ◌≡◌ {A = ℕ} 0 1 = cc in absurd (omega arith)
  constant_copies (str t non o S) T R h k = let z : ◌≡◌ {A = ℕ} 0 1 = cc in absurd (omega arith)
  constant_copies (str t mod' o S) T R h k = let z : ◌≡◌ {A = ℕ} 0 1 = cc in absurd (omega arith)
  constant_copies (str t del o S) T R h k = let z : ◌≡◌ {A = ℕ} 0 1 = cc in absurd (omega arith)
  constant_copies (elt t ori_e code none none) T R h (x, L, T₁, y, M, R₁, p, q, e, (k, l), (i, j)) = let s = code_tags ori_e x y e in rw (p, q, k, l, i, j, s)
  constant_copies (elt t ori_e code none (str a b c d)) T R h k = let z : ◌≡◌ {A = ℕ} 0 1 = cc in absurd (omega arith)
  constant_copies (elt t ori_e code none (elt a b c d e)) T R h k = let z : ◌≡◌ {A = ℕ} 0 1 = cc in absurd (omega arith)
  constant_copies (elt t ori_e code (str a b c d) S) T R h k = let z : ◌≡◌ {A = ℕ} 0 1 = cc in absurd (omega arith)
  constant_copies (elt t ori_e code (elt a b c d e) S) T R h k = let z : ◌≡◌ {A = ℕ} 0 1 = cc in absurd (omega arith)
  constant_copies (elt t ori_e (src m) K S) T R h k = let z : ◌≡◌ {A = ℕ} 0 1 = cc in absurd (omega arith)
  constant_copies (elt t del_e o K S) T R h k = let z : ◌≡◌ {A = ℕ} 0 1 = cc in absurd (omega arith)

  element_copies : (a : Element) (C : Context) (E F : PairContext) (S A T R : Sequence) (bwd : Backward) → S ≡ elt a.tag a.state a.origin a.contents none
      → Copies (elt a.tag a.state a.origin A none) T R
      → ((L M : Sequence) → Copies A L M → Follows (Both C a.contents) (bwd E a.contents L) (bwd F a.contents M))
      → Follows (Both C S)
      (the_element T >>= λ b. (provided (same_text a.tag b.tag && same_from a.origin b.origin)
      >> (bwd E a.contents b.contents >>= λ r. got (elt a.tag b.state a.origin r.0 none, r.1))))
      (the_element R >>= λ b. (provided (same_text a.tag b.tag && same_from a.origin b.origin)
      >> (bwd F a.contents b.contents >>= λ r. got (elt a.tag b.state a.origin r.0 none, r.1))))
  element_copies a C E F S A T R bwd s (x, L, T₁, y, M, R₁, p, q, e, k, (i, j)) H =
      rw (p, q, i, j, s)
      (follows_provided (Both C (elt a.tag a.state a.origin a.contents none)) (same_text a.tag a.tag && same_from a.origin a.origin)
      (same_text a.tag a.tag && same_from a.origin a.origin) _ _ (λ h. h)
      (follows_then (Both C a.contents) (Both C (elt a.tag a.state a.origin a.contents none)) (bwd E a.contents L) (bwd F a.contents M) _ _ (H L M k) λ r z b.
      follows_got (Both C (elt a.tag a.state a.origin a.contents none)) (elt a.tag x a.origin r.0 none, r.1) (elt a.tag y a.origin z.0 none, z.1)
      ((x, r.0, none, y, z.0, none, refl, refl, e, b.0, (refl, refl)), b.1)))

  updated_copies : (k : ℕ) (C : Context) (E F : PairContext) (W T R : Sequence) → CopiesAll C E F → find k C ≡ got W → Copies W T R
      → Follows (CopiesAll C) (updated k T E) (updated k R F)
  updated_copies k [] E F W T R d h c = let z : ◌≡◌ {A = ℕ} 0 1 = cc in absurd (omega arith)
  updated_copies k ((j, S) ∷ C) E F W T R (Q, E₁, U, F₁, p, q, i, d) h c = rw (p, q) (go (eqb k j) h (λ h'. updated_copies k C E₁ F₁ W T R d h' c))
    where
      go : (t : Bool) → cond t (got S) (find k C) ≡ got W → (find k C ≡ got W → Follows (CopiesAll C) (updated k T E₁) (updated k R F₁))
          → Follows (CopiesAll ((j, S) ∷ C)) (cond t (mg Q T >>= λ G. got ((j, (S, G)) ∷ E₁)) (updated k T E₁ >>= λ G. got ((j, (S, Q)) ∷ G)))
          (cond t (mg U R >>= λ G. got ((j, (S, G)) ∷ F₁)) (updated k R F₁ >>= λ G. got ((j, (S, U)) ∷ G)))
      go true e K =
          let w : S ≡ W = cc in
          follows_then (Copies S) (CopiesAll ((j, S) ∷ C)) (mg Q T) (mg U R) _ _ (mg_copies S Q U T R i (subst⁻¹ (λ (Z : Sequence). Copies Z T R) w c)) λ G H m.
          follows_got (CopiesAll ((j, S) ∷ C)) ((j, (S, G)) ∷ E₁) ((j, (S, H)) ∷ F₁) (G, E₁, H, F₁, refl, refl, m, d)
      go false e K =
          follows_then (CopiesAll C) (CopiesAll ((j, S) ∷ C)) (updated k T E₁) (updated k R F₁) _ _ (K e) λ G H m.
          follows_got (CopiesAll ((j, S) ∷ C)) ((j, (S, Q)) ∷ G) ((j, (S, U)) ∷ H) (Q, G, U, H, refl, refl, i, m)

  taken_copies : (k : ℕ) (C : Context) (S A B : Sequence) (E F : PairContext) → Copies none A B → CopiesAll ((k, S) ∷ C) E F → Follows (Both C S) (taken (A, E)) (taken (B, F))
  taken_copies k C S A B E F (p, q) (T, E₁, R, F₁, e, f, c, d) = rw (e, f, p, q) (follows_got (Both C S) (T, E₁) (R, F₁) (c, d))

  compared_copies : (C : Context) (E F : PairContext) (fwd : Forward) (bwd : Backward)
      → ((W J J' : Sequence) → fwd C none ≡ got W → Copies W J J' → Follows (Both C none) (bwd E none J) (bwd F none J'))
      → (S T R : Sequence) → CopiesAll C E F → Copies S T R
      → Follows (Both C S) (judged_backward guard fwd bwd E S T) (judged_backward guard fwd bwd F S R)
  compared_copies C E F fwd bwd H S T R d c =
      let f = firsts_copies C E F d in
      follows_after (Both C S) (the_string S) _ _ λ x p.
      follows_again (Both C S) (fwd C none) (fwd (firsts E) none) (fwd (firsts F) none) _ _
      (ap (λ (D : Context). fwd D none) f.0) (ap (λ (D : Context). fwd D none) f.1) λ U q.
      follows_after (Both C S) (the_string U) _ _ λ y u.
      follows_then (Copies U) (Both C S) (guard U y) (guard U y) _ _ (guard_copies U U U y u (copies_same U)) λ J J' i.
      follows_then (Both C none) (Both C S) (bwd E none J) (bwd F none J') _ _ (H U J J' q i) λ r z j.
      follows_provided (Both C S) (is_none r.0) (is_none z.0) _ _ (λ _. ap is_none j.0.1)
      (follows_then (Copies S) (Both C S) (guard T x) (guard R x) _ _ (guard_copies S T R x p c) λ Q Q' m.
      follows_got (Both C S) (Q, r.1) (Q', z.1) (m, j.1))

  -- ## The language

  mutual
    unfolding forward backward

    pub alone : (X : Construct) (C : Context) (E F : PairContext) (S W T R : Sequence) → CopiesAll C E F → forward X C S ≡ got W → Copies W T R
        → Follows (Both C S) (backward guard X E S T) (backward guard X F S R)
    alone xid C E F S W T R d h c = let e : S ≡ W = cc in follows_got (Both C S) (T, E) (R, F) (subst⁻¹ (λ (Z : Sequence). Copies Z T R) e c, d)
    alone (xconst K) C E F S W T R d h c =
        let k = provided_got (is_constant K) K W h in
        let e = constant_copies K T R k.0 (subst⁻¹ (λ (Z : Sequence). Copies Z T R) k.1 c) in
        follows_provided (Both C S) (same_sequence K T) (same_sequence K R) _ _ (λ s. ap (same_sequence K) e ∙ s) (follows_got (Both C S) (S, E) (S, F) (copies_same S, d))
    alone (xvar k) C E F S W T R d h c =
        follows_then (CopiesAll C) (Both C S) (updated k T E) (updated k R F) _ _ (updated_copies k C E F W T R d h c) λ G H i.
        follows_got (Both C S) (S, G) (S, H) (copies_same S, i)
    alone xchild C E F S W T R d h c =
        follows_after (Both C S) (the_element S) _ _ λ a p.
        let h₁ : got a.contents ≡ got W = at_got (the_element S) _ a W p h in
        let e : a.contents ≡ W = cc in
        follows_got (Both C S) (elt a.tag a.state a.origin T none, E) (elt a.tag a.state a.origin R none, F) (
          subst⁻¹ (λ (Z : Sequence). Copies Z (elt a.tag a.state a.origin T none) (elt a.tag a.state a.origin R none)) (the_element_is S a p)
              (a.state, T, none, a.state, R, none, refl, refl, tags_same a.origin a.state, subst⁻¹ (λ (Z : Sequence). Copies Z T R) e c, (refl, refl)),
          d,
        )
    alone (xsetcnt X) C E F S W T R d h c =
        follows_after (Both C S) (the_element S) _ _ λ a p.
        on_got (forward X C a.contents) _ W (at_got (the_element S) _ a W p h) λ A q h₁.
        let e : elt a.tag a.state a.origin A none ≡ W = cc in
        element_copies a C E F S A T R (backward guard X) (the_element_is S a p) (subst⁻¹ (λ (Z : Sequence). Copies Z T R) e c)
        (λ L M k. alone X C E F a.contents A L M d q k)
    alone (xseq X Y) C E F S W T R d h c =
        let f = firsts_copies C E F d in
        follows_again (Both C S) (forward X C S) (forward X (firsts E) S) (forward X (firsts F) S) _ _
        (ap (λ (D : Context). forward X D S) f.0) (ap (λ (D : Context). forward X D S) f.1) λ A p.
        follows_then (Both C A) (Both C S) (backward guard Y E A T) (backward guard Y F A R) _ _ (alone Y C E F A W T R d (at_got (forward X C S) _ A W p h) c) λ r z b.
        alone X C r.1 z.1 S A r.0 z.0 b.1 p b.0
    alone (xpar X Y) C E F S W T R d h c =
        let f = firsts_copies C E F d in
        follows_again (Both C S) (forward X C S) (forward X (firsts E) S) (forward X (firsts F) S) _ _
        (ap (λ (D : Context). forward X D S) f.0) (ap (λ (D : Context). forward X D S) f.1) λ A p.
        follows_again (Both C S) (forward Y C S) (forward Y (firsts E) S) (forward Y (firsts F) S) _ _
        (ap (λ (D : Context). forward Y D S) f.0) (ap (λ (D : Context). forward Y D S) f.1) λ B q.
        let h₁ : got (A ⧺ B) ≡ got W = at_got (forward Y C S) _ B W q (at_got (forward X C S) _ A W p h) in
        let e : A ⧺ B ≡ W = cc in
        let k = cut_copies A B T R (subst⁻¹ (λ (Z : Sequence). Copies Z T R) e c) in
        let l = cut_copies B none k.behind k.behind' (subst⁻¹ (λ (Z : Sequence). Copies Z k.behind k.behind') (seq_none B) k.behinds) in
        follows_at (Both C S) (split T (len A ∷ len B ∷ [])) (split R (len A ∷ len B ∷ [])) _ _ (k.front ∷ l.front ∷ []) (k.front' ∷ l.front' ∷ [])
        (rw (k.cuts, l.cuts, l.behinds.0)) (rw (k.cuts', l.cuts', l.behinds.1))
        (follows_then (Both C S) (Both C S) (backward guard Y E S l.front) (backward guard Y F S l.front') _ _
        (alone Y C E F S B l.front l.front' d q l.fronts) λ b b' i.
        follows_then (Both C S) (Both C S) (backward guard X b.1 S k.front) (backward guard X b'.1 S k.front') _ _
        (alone X C b.1 b'.1 S A k.front k.front' i.1 p k.fronts) λ a a' j.
        follows_then (Copies S) (Both C S) (mg a.0 b.0) (mg a'.0 b'.0) _ _ (mg_copies S a.0 a'.0 b.0 b'.0 j.0 i.0) λ Q U m.
        follows_got (Both C S) (Q, a.1) (U, a'.1) (m, j.1))
    alone (xmap X) C E F S W T R d h c =
        let f = firsts_copies C E F d in
        let I = each_copies C (forward X C) (backward guard X) (alone X C) S W T R h c in
        follows_at (Both C S) (lengths (forward X (firsts E)) S) (lengths (forward X (firsts F)) S) _ _ I.ls I.ls
        (ap (λ (D : Context). lengths (forward X D) S) f.0 ∙ I.lengths_are) (ap (λ (D : Context). lengths (forward X D) S) f.1 ∙ I.lengths_are)
        (follows_at (Both C S) (split T I.ls) (split R I.ls) _ _ I.parts I.parts' I.splits I.splits' (I.iters none none none E F (refl, refl) d))
    alone (xif P X Y) C E F S W T R d h c =
        let f = firsts_copies C E F d in
        follows_again (Both C S) (asks P C S) (asks P (firsts E) S) (asks P (firsts F) S) _ _
        (ap (λ (D : Context). asks P D S) f.0) (ap (λ (D : Context). asks P D S) f.1) λ b p.
        follows_then (Both C S) (Both C S) (branch b (backward guard X E S T) (backward guard Y E S T)) (branch b (backward guard X F S R) (backward guard Y F S R)) _ _
        (follows_branch (Both C S) b (forward X C S) (forward Y C S) W (backward guard X E S T) (backward guard Y E S T) (backward guard X F S R) (backward guard Y F S R)
        (at_got (asks P C S) _ b W p h) (λ q. alone X C E F S W T R d q c) (λ q. alone Y C E F S W T R d q c)) λ r z i.
        test_alone P C r.1 z.1 S r.0 z.0 i.1 i.0
    alone (xlet k X) C E F S W T R d h c =
        follows_then (Both ((k, S) ∷ C) none) (Both C S) (backward guard X ((k, (S, S)) ∷ E) none T) (backward guard X ((k, (S, S)) ∷ F) none R) taken taken
        (alone X ((k, S) ∷ C) ((k, (S, S)) ∷ E) ((k, (S, S)) ∷ F) none W T R (S, E, S, F, refl, refl, copies_same S, d) h c) λ r z i.
        taken_copies k C S r.0 z.0 r.1 z.1 i.0 i.1

    test_alone : (P : Predicate) (C : Context) (E F : PairContext) (S T R : Sequence) → CopiesAll C E F → Copies S T R
        → Follows (Both C S) (holds guard P E S T) (holds guard P F S R)
    test_alone (xeq X) C E F S T R d c = compared_copies C E F (forward X) (backward guard X) (λ W J J' q i. alone X C E F none W J J' d q i) S T R d c
    test_alone (xjudged j X) C E F S T R d c = compared_copies C E F (forward X) (backward guard X) (λ W J J' q i. alone X C E F none W J J' d q i) S T R d c
    test_alone (xwithtag t) C E F S T R d c = follows_after (Both C S) (the_element S) _ _ λ a p. follows_got (Both C S) (T, E) (R, F) (c, d)
    test_alone xiselement C E F S T R d c = follows_after (Both C S) (the_item S) _ _ λ a p. follows_got (Both C S) (T, E) (R, F) (c, d)
