-- Where no text of the master and of the program ends in 20, the paper as printed gives the same.
use Rattle.std.specs.Prelude.{◌≡◌, refl, Bool, true, false, cond, ◌&&◌, List, [], ◌∷◌, ℕ, suc, eqb, ltb}
use Rattle.std.proofs.Common.{sym, ap, subst, ◌∙◌, arith}
use Rattle.std.proofs.Math.Path.{subst⁻¹}
use Rattle.lines.specs.Nodes.{Line, is_element as isElementKind}
use Rattle.lines.specs.Texts.{same_text}
use Rattle.lines.proofs.Theorems.TrimmedTexts.{Unpadded, agree_unpadded}
use Rattle.runs.specs.Programs.{equals, Transformation, source, nothing, text, tag, slot, contents, within}
use Rattle.runs.specs.Programs.{and_then, beside, each, choose, bind, Test, compares, tagged, is_element}
use Rattle.paper.specs.Data.{ori, ori_e, code, Sequence, none, str, elt, ◌⧺◌, len, May, fail, got, ◌>>=◌, ◌>>◌, provided}
use Rattle.paper.specs.Data.{is_none, the_string, Element, the_element, the_item, same_from, same_sequence}
use Rattle.paper.specs.Language.{Judge}
use Rattle.paper.specs.Contexts.{Context, PairContext, firsts, find}
use Rattle.paper.specs.Operators.{mg, split, in_two, Forward, Backward, iter, Guard}
use Rattle.paper.specs.Semantics.{updated, on_each, lengths, branch, taken, judged_forward, judged_backward, forward, asks, backward, holds}
use Rattle.paper.specs.Programs.{worded, judge_of, in_paper, asked, in_print, asked_in_print}
use Rattle.paper.specs.Lines.{item_of, items_at, sequence}
use Rattle.paper.specs.Theorems.Judges.{equality}
use Rattle.paper.specs.Theorems.AsPrinted.{UnpaddedLines, UnpaddedTexts, UnpaddedTest, AsPrinted}

-- ## Unpadded data and contexts of the paper

abbrev UnpaddedIn : Sequence → Type 0
UnpaddedIn none = Unit {0}
UnpaddedIn (str t u o S) = Unpadded t × UnpaddedIn S
UnpaddedIn (elt t w o K S) = UnpaddedIn K × UnpaddedIn S

abbrev UnpaddedAll : Context → Type 0
UnpaddedAll [] = Unit {0}
UnpaddedAll (b ∷ C) = UnpaddedIn b.1 × UnpaddedAll C

-- ## Executions that are the same, and a property of what they yield

abbrev Same : {A : Type 0} → (A → Type 0) → May A → May A → Type 0
Same {A} P p q = (p ≡ q) × ((a : A) → p ≡ got a → P a)

-- of one execution, the property alone
abbrev Known : {A : Type 0} → (A → Type 0) → May A → Type 0
Known P p = Same P p p

abbrev Any : {A : Type 0} → A → Type 0
Any a = Unit {0}

no_got : {A : Type 0} (a : A) → fail ≡ got a → ⊥
no_got a h = let z : ◌≡◌ {A = ℕ} 0 1 = cc in omega arith

same_got : {A : Type 0} (P : A → Type 0) (a : A) → P a → Known P (got a)
same_got P a h = (refl, λ b e. let z : a ≡ b = cc in subst P z h)

same_fail : {A : Type 0} {P : A → Type 0} → Known P fail
same_fail = (refl, λ a z. absurd (no_got a z))

same_any : {A : Type 0} (p : May A) → Known Any p
same_any p = (refl, λ a e. tt)

same_then : {A B : Type 0} {P : A → Type 0} {Q : B → Type 0} {p q : May A} {k l : A → May B}
    → Same P p q → ((a : A) → P a → Same Q (k a) (l a)) → Same Q (p >>= k) (q >>= l)
same_then {A} {B} {P = P} {Q = Q} {p = p} {q = q} {k = k} {l = l} H K = go p q H
  where
    go : (p q : May A) → Same P p q → Same Q (p >>= k) (q >>= l)
    go fail q (e, h) = (rw (sym e) refl, λ b z. absurd (no_got b z))
    go (got a) q (e, h) = rw (sym e) (K a (h a refl))

same_provided : {A : Type 0} {P : A → Type 0} (b : Bool) {p q : May A} → Same P p q → Same P (provided b >> p) (provided b >> q)
same_provided true H = H
same_provided false H = same_fail

same_branch : {A : Type 0} {P : A → Type 0} (b : Bool) {p q p' q' : May A} → Same P p p' → Same P q q' → Same P (branch b p q) (branch b p' q')
same_branch true H K = H
same_branch false H K = K

-- ## What is unpadded stays so

unpadded_append : (S T : Sequence) → UnpaddedIn S → UnpaddedIn T → UnpaddedIn (S ⧺ T)
unpadded_append none T s t = t
unpadded_append (str x u o S) T s t = (s.0, unpadded_append S T s.1 t)
unpadded_append (elt x w o K S) T s t = (s.0, unpadded_append S T s.1 t)

unpadded_found : (k : ℕ) (C : Context) → UnpaddedAll C → Known UnpaddedIn (find k C)
unpadded_found k [] c = same_fail
unpadded_found k (b ∷ C) c = go (eqb k b.0) (unpadded_found k C c.1)
  where
    go : (t : Bool) → Known UnpaddedIn (find k C) → Known UnpaddedIn (cond t (got b.1) (find k C))
    go true H = same_got UnpaddedIn b.1 c.0
    go false H = H

unpadded_string : (S : Sequence) → UnpaddedIn S → Known Unpadded (the_string S)
unpadded_string none s = same_fail
unpadded_string (str t u o S) s = same_provided (is_none S) (same_got Unpadded t s.0)
unpadded_string (elt t w o K S) s = same_fail

abbrev UnpaddedWithin : Element → Type 0
UnpaddedWithin a = UnpaddedIn a.contents

unpadded_element : (S : Sequence) → UnpaddedIn S → Known UnpaddedWithin (the_element S)
unpadded_element none s = same_fail
unpadded_element (str t u o S) s = same_fail
unpadded_element (elt t w o K S) s = same_provided (is_none S) (same_got UnpaddedWithin (record { tag = t; state = w; origin = o; contents = K }) s.0)

unpadded_items : (d : ℕ) (ls : List Line) → UnpaddedLines ls → UnpaddedIn (items_at d ls)
unfolding items_at
unpadded_items d [] h = tt
unpadded_items d (l ∷ ls) h =
    go (ltb l.depth d) (eqb l.depth d) (isElementKind l.kind) refl (unpadded_items (suc d) ls (λ i. h (suc i))) (unpadded_items d ls (λ i. h (suc i)))
  where
    go : (less here element : Bool) → isElementKind l.kind ≡ element → UnpaddedIn (items_at (suc d) ls) → UnpaddedIn (items_at d ls)
        → UnpaddedIn (cond less none (cond here (item_of l (items_at (suc d) ls) (items_at d ls)) (items_at d ls)))
    go true here element e k s = tt
    go false false element e k s = s
    go false true true e k s = rw e (k, s)
    go false true false e k s = rw e (h 0 e, s)

-- ## Items

abbrev ItemsAlike : (Sequence → May Sequence) → (Sequence → May Sequence) → Type 0
ItemsAlike X Y = (v : Sequence) → UnpaddedIn v → Same UnpaddedIn (X v) (Y v)

-- one part and the rest, put together
same_more : {D B : Type 0} {P : D → Type 0} {Q : B → Type 0} (join : Sequence → D → B) {p q : May Sequence} {r r' : May D} → Same UnpaddedIn p q → Same P r r'
    → ((A : Sequence) (d : D) → UnpaddedIn A → P d → Q (join A d)) → Same Q (p >>= λ A. r >>= λ d. got (join A d)) (q >>= λ A. r' >>= λ d. got (join A d))
same_more {Q = Q} join H K J = same_then H λ A a. same_then K λ d b. same_got Q (join A d) (J A d a b)

same_each : (X Y : Sequence → May Sequence) → ItemsAlike X Y → (S : Sequence) → UnpaddedIn S → Same UnpaddedIn (on_each X S) (on_each Y S)
same_each X Y H none s = same_got UnpaddedIn none tt
same_each X Y H (str t u o S) s = same_more ◌⧺◌ (H (str t u o none) (s.0, tt)) (same_each X Y H S s.1) unpadded_append
same_each X Y H (elt t w o K S) s = same_more ◌⧺◌ (H (elt t w o K none) (s.0, tt)) (same_each X Y H S s.1) unpadded_append

same_lengths : (X Y : Sequence → May Sequence) → ItemsAlike X Y → (S : Sequence) → UnpaddedIn S → Same Any (lengths X S) (lengths Y S)
same_lengths X Y H none s = same_any (got [])
same_lengths X Y H (str t u o S) s =
    same_more (λ A l. len A ∷ l) (H (str t u o none) (s.0, tt)) (same_lengths X Y H S s.1) (λ A l a b. tt)
same_lengths X Y H (elt t w o K S) s =
    same_more (λ A l. len A ∷ l) (H (elt t w o K none) (s.0, tt)) (same_lengths X Y H S s.1) (λ A l a b. tt)

-- ## Showing

-- a comparison by one of two judges that say the same of unpadded texts
same_judged : (j k : Judge) → ((s t : List ℕ) → Unpadded s → Unpadded t → j s t ≡ k s t) → (X Y : Forward) (C : Context) → Same UnpaddedIn (X C none) (Y C none)
    → (S : Sequence) → UnpaddedIn S → Same Any (judged_forward j X C S) (judged_forward k Y C S)
same_judged j k J X Y C H S s =
    same_then (unpadded_string S s) λ t p. same_then H λ T q. same_then (unpadded_string T q) λ t' p'. (J t t' p p', λ b z. tt)

mutual
  unfolding forward worded UnpaddedTexts

  same_forward : (X : Transformation) → UnpaddedTexts X → (C : Context) → UnpaddedAll C → (S : Sequence) → UnpaddedIn S
      → Same UnpaddedIn (forward (in_paper X) C S) (forward (in_print X) C S)
  same_forward (source e) x C c S s = same_got UnpaddedIn S s
  same_forward (nothing e) x C c S s = same_got UnpaddedIn none tt
  same_forward (text e b) x C c S s = same_got UnpaddedIn (str b ori code none) (x, tt)
  same_forward (tag e b) x C c S s = same_got UnpaddedIn (elt b ori_e code none none) (tt, tt)
  same_forward (slot e k) x C c S s = unpadded_found k C c
  same_forward (contents e) x C c S s = same_then (unpadded_element S s) λ a p. same_got UnpaddedIn a.contents p
  same_forward (within e X) x C c S s =
      same_then (unpadded_element S s) λ a p. same_then (same_forward X x C c a.contents p) λ T t.
      same_got UnpaddedIn (elt a.tag a.state a.origin T none) (t, tt)
  same_forward (and_then e X Y) x C c S s = same_then (same_forward X x.0 C c S s) λ T t. same_forward Y x.1 C c T t
  same_forward (beside e X Y) x C c S s = same_more ◌⧺◌ (same_forward X x.0 C c S s) (same_forward Y x.1 C c S s) unpadded_append
  same_forward (each e X) x C c S s = same_each (forward (in_paper X) C) (forward (in_print X) C) (λ v p. same_forward X x C c v p) S s
  same_forward (choose e P X Y) x C c S s =
      same_then (same_asks P x.0 C c S s) λ b _. same_branch b (same_forward X x.1 C c S s) (same_forward Y x.2 C c S s)
  same_forward (bind e k X) x C c S s = same_forward X x ((k, S) ∷ C) (s, c) none tt

  same_asks : (P : Test) → UnpaddedTest P → (C : Context) → UnpaddedAll C → (S : Sequence) → UnpaddedIn S → Same Any (asks (asked P) C S) (asks (asked_in_print P) C S)
  same_asks (compares e equals X) x C c S s =
      same_judged (judge_of equals) equality (λ t t' p p'. ap (λ (b : Bool). got b) (agree_unpadded t t' p p')) (forward (in_paper X)) (forward (in_print X)) C
      (same_forward X x C c none tt) S s
  same_asks (tagged e t) x C c S s = same_any _
  same_asks (is_element e) x C c S s = same_any _

-- ## Putting back

abbrev Keeps : Context → Sequence × PairContext → Type 0
Keeps C r = firsts r.1 ≡ C

keeps_updated : (k : ℕ) (T : Sequence) (E : PairContext) → Known (λ E'. firsts E' ≡ firsts E) (updated k T E)
keeps_updated k T [] = same_fail
keeps_updated k T (b ∷ E) = go (eqb k b.0) (keeps_updated k T E)
  where
    Kept : PairContext → Type 0
    Kept E' = firsts E' ≡ firsts (b ∷ E)

    go : (t : Bool) → Known (λ E'. firsts E' ≡ firsts E) (updated k T E)
        → Known Kept (cond t (mg b.1.1 T >>= λ Q. got ((b.0, (b.1.0, Q)) ∷ E)) (updated k T E >>= λ E'. got (b ∷ E')))
    go true H = same_then (same_any (mg b.1.1 T)) λ Q _. same_got Kept ((b.0, (b.1.0, Q)) ∷ E) refl
    go false H = same_then H λ E' e. same_got Kept (b ∷ E') (ap (λ (D : Context). (b.0, b.1.0) ∷ D) e)

keeps_taken : (k : ℕ) (C : Context) (S T : Sequence) (E : PairContext) → firsts E ≡ (k, S) ∷ C → Known (Keeps C) (taken (T, E))
keeps_taken k C S T [] e = same_fail
keeps_taken k C S T (b ∷ E) e = same_provided (is_none T) (same_got (Keeps C) (b.1.1, E) cc)

same_iter : (C : Context) (X Y : Backward)
    → ((E : PairContext) → firsts E ≡ C → (v : Sequence) → UnpaddedIn v → (T : Sequence) → Same (Keeps C) (X E v T) (Y E v T))
    → (l : List Sequence) (S before : Sequence) (E : PairContext) → UnpaddedIn S → firsts E ≡ C → Same (Keeps C) (iter X l S before E) (iter Y l S before E)
same_iter C X Y H [] none before E s f = same_got (Keeps C) (before, E) f
same_iter C X Y H [] (str t u o S) before E s f = same_fail
same_iter C X Y H [] (elt t w o K S) before E s f = same_fail
same_iter C X Y H (T ∷ l) none before E s f = same_fail
same_iter C X Y H (T ∷ l) (str t u o S) before E s f =
    same_then (H E f (str t u o none) (s.0, tt) T) λ r e.
    same_iter C X Y H l S (before ⧺ r.0) r.1 s.1 e
same_iter C X Y H (T ∷ l) (elt t w o K S) before E s f =
    same_then (H E f (elt t w o K none) (s.0, tt) T) λ r e.
    same_iter C X Y H l S (before ⧺ r.0) r.1 s.1 e

-- a comparison, whoever judges
same_guarded : (g : Guard) (C : Context) (X Y : Forward) (X' Y' : Backward) (E : PairContext) → Same UnpaddedIn (X (firsts E) none) (Y (firsts E) none)
    → ((T : Sequence) → Same (Keeps C) (X' E none T) (Y' E none T)) → (S S' : Sequence) → Same (Keeps C) (judged_backward g X X' E S S') (judged_backward g Y Y' E S S')
same_guarded g C X Y X' Y' E H K S S' =
    same_then (same_any (the_string S)) λ t _. same_then H λ T _. same_then (same_any (the_string T)) λ t' _. same_then (same_any (g T t')) λ T' _.
    same_then (K T') λ r h. same_provided (is_none r.0) (same_then (same_any (g S' t)) λ Q _. same_got (Keeps C) (Q, r.1) h)

module _ (g : Guard) where
  mutual
    unfolding backward worded UnpaddedTexts

    same_backward : (X : Transformation) → UnpaddedTexts X → (C : Context) → UnpaddedAll C → (E : PairContext) → firsts E ≡ C → (S : Sequence) → UnpaddedIn S → (T : Sequence)
        → Same (Keeps C) (backward g (in_paper X) E S T) (backward g (in_print X) E S T)
    same_backward (source e) x C c E f S s T = same_got (Keeps C) (T, E) f
    same_backward (nothing e) x C c E f S s T = same_provided (same_sequence none T) (same_got (Keeps C) (S, E) f)
    same_backward (text e b) x C c E f S s T = same_provided (same_sequence (str b ori code none) T) (same_got (Keeps C) (S, E) f)
    same_backward (tag e b) x C c E f S s T = same_provided (same_sequence (elt b ori_e code none none) T) (same_got (Keeps C) (S, E) f)
    same_backward (slot e k) x C c E f S s T = same_then (keeps_updated k T E) λ E' h. same_got (Keeps C) (S, E') (h ∙ f)
    same_backward (contents e) x C c E f S s T =
        same_then (same_any (the_element S)) λ a _.
        same_got (Keeps C) (elt a.tag a.state a.origin T none, E) f
    same_backward (within e X) x C c E f S s T =
        same_then (unpadded_element S s) λ a p.
        same_then (same_any (the_element T)) λ b _.
        same_provided (same_text a.tag b.tag && same_from a.origin b.origin)
        (same_then (same_backward X x C c E f a.contents p b.contents) λ r h.
        same_got (Keeps C) (elt a.tag b.state a.origin r.0 none, r.1) h)
    same_backward (and_then e X Y) x C c E f S s T =
        same_then (same_forward X x.0 (firsts E) (subst⁻¹ UnpaddedAll f c) S s) λ W w.
        same_then (same_backward Y x.1 C c E f W w T) λ r h.
        same_backward X x.0 C c r.1 h S s r.0
    same_backward (beside e X Y) x C c E f S s T =
        same_then (same_forward X x.0 (firsts E) (subst⁻¹ UnpaddedAll f c) S s) λ A _.
        same_then (same_forward Y x.1 (firsts E) (subst⁻¹ UnpaddedAll f c) S s) λ B _.
        same_then (same_any (split T (len A ∷ len B ∷ []))) λ l _.
        same_then (same_any (in_two l)) λ p _.
        same_then (same_backward Y x.1 C c E f S s p.1) λ b h.
        same_then (same_backward X x.0 C c b.1 h S s p.0) λ a i.
        same_then (same_any (mg a.0 b.0)) λ Q _. same_got (Keeps C) (Q, a.1) i
    same_backward (each e X) x C c E f S s T =
        same_then (same_lengths (forward (in_paper X) (firsts E)) (forward (in_print X) (firsts E)) (λ v p. same_forward X x (firsts E) (subst⁻¹ UnpaddedAll f c) v p) S s) λ l _.
        same_then (same_any (split T l)) λ ST _.
        same_iter C (backward g (in_paper X)) (backward g (in_print X)) (λ F h v p U. same_backward X x C c F h v p U) ST S none E s f
    same_backward (choose e P X Y) x C c E f S s T =
        same_then (same_asks P x.0 (firsts E) (subst⁻¹ UnpaddedAll f c) S s) λ b _.
        same_then (same_branch b (same_backward X x.1 C c E f S s T) (same_backward Y x.2 C c E f S s T)) λ r h.
        same_holds P x.0 C c r.1 h S s r.0
    same_backward (bind e k X) x C c E f S s T =
        same_then (same_backward X x ((k, S) ∷ C) (s, c) ((k, (S, S)) ∷ E) (ap (λ (D : Context). (k, S) ∷ D) f) none tt T) λ r h.
        keeps_taken k C S r.0 r.1 h

    same_holds : (P : Test) → UnpaddedTest P → (C : Context) → UnpaddedAll C → (E : PairContext) → firsts E ≡ C → (S : Sequence) → UnpaddedIn S → (S' : Sequence)
        → Same (Keeps C) (holds g (asked P) E S S') (holds g (asked_in_print P) E S S')
    same_holds (compares e equals X) x C c E f S s S' =
        same_guarded g C (forward (in_paper X)) (forward (in_print X)) (backward g (in_paper X)) (backward g (in_print X)) E
        (same_forward X x (firsts E) (subst⁻¹ UnpaddedAll f c) none tt) (λ T. same_backward X x C c E f none tt T) S S'
    same_holds (tagged e t) x C c E f S s S' = same_then (same_any (the_element S)) λ a _. same_got (Keeps C) (S', E) f
    same_holds (is_element e) x C c E f S s S' = same_then (same_any (the_item S)) λ a _. same_got (Keeps C) (S', E) f

-- ## The whole

pub as_printed : (X : Transformation) (ls : List Line) → UnpaddedTexts X → UnpaddedLines ls → AsPrinted X ls
unfolding sequence
as_printed X ls x h =
    let s = unpadded_items 0 ls h in
    record { shows = sym (same_forward X x [] tt (sequence ls) s).0; puts_back = λ g T. sym (same_backward g X x [] tt [] refl (sequence ls) s T).0 }
