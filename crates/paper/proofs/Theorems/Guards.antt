-- The two guards: the strict one locks or clashes on every text; Fig. 7's does so where no compared text was deleted or changed to its own text;
-- and whatever passes with the strict one passes with Fig. 7's, with the same result.
use Rattle.std.specs.Prelude.{◌≡◌, refl, Bool, true, false, cond, ◌&&◌, ◌||◌, not, List, [], ◌∷◌, ℕ}
use Rattle.std.proofs.Common.{eq-eqb}
use Rattle.std.proofs.lemmas.Bool.{not-true}
use Rattle.lines.specs.Texts.{same_text}
use Rattle.lines.specs.Theorems.Bools.{or_right, or_other}
use Rattle.lines.specs.Theorems.SameTexts.{same_text_refl}
use Rattle.values.specs.Values.{Origin, master, program, Lookup, bytes_of, is_from, master_number, among}
use Rattle.values.specs.Standings.{Standing, untouched, locked, changed, deleted, clash, sort, new_text, is_untouched, is_clash, same_standing, ◌⋓◌}
use Rattle.paper.specs.Data.{ori, non, mod', del, src, code, Sequence, none, str, elt, ◌⧺◌, len, May}
use Rattle.paper.specs.Data.{fail, got, ◌>>=◌, ◌>>◌, provided, is_none, the_string, the_element, same_from}
use Rattle.paper.specs.Language.{Construct, xid, xconst, xvar, xchild, xsetcnt, xseq, xpar, xmap, xif, xlet, Predicate, xeq, xjudged, xwithtag, xiselement}
use Rattle.paper.specs.Contexts.{PairContext, firsts}
use Rattle.paper.specs.Operators.{split, in_two, Forward, Backward, iter, guard}
use Rattle.paper.specs.Strict.{strict_guard}
use Rattle.paper.specs.Semantics.{lengths, branch, taken, judged_backward, forward, asks, backward, holds}
use Rattle.paper.specs.Theorems.Trees.{nil, txt, paint}
use Rattle.paper.proofs.Theorems.Places.{no_marks}
use Rattle.paper.proofs.Theorems.Brushes.{Permit, FineText, brush}
use Rattle.paper.proofs.Theorems.Ends.{Watched, Guarded, passes, stopped, Guarding}

-- ## The strict guard

-- every standing
abbrev pub any_standing : Permit
any_standing =
    record {
      permits = λ n s. true;
      untouched_permitted = λ n. refl;
      locked_permitted = λ n. refl;
      merge_permitted = λ n s t p q. refl;
    }

abbrev pub every_number : ℕ → Bool
every_number n = true

strict_guarded : (look : Lookup) (w : Origin) (s : Standing) → FineText any_standing w s → Guarded look any_standing every_number strict_guard w s
unfolding bytes_of is_from ◌⋓◌ is_untouched is_clash same_standing sort new_text same_text
strict_guarded look (program e b t) s h = passes (rw (same_text_refl t)) tt
strict_guarded look (master n) untouched h = passes (rw (same_text_refl (look.bytes n))) (refl, refl)
strict_guarded look (master n) locked h = passes (rw (same_text_refl (look.bytes n))) (refl, refl)
strict_guarded look (master n) (changed u) h = stopped refl n (rw (eq-eqb n n refl))
strict_guarded look (master n) deleted h = stopped refl n (rw (eq-eqb n n refl))
strict_guarded look (master n) clash h = let c = h.0 in passes (cc) (cc, refl)

pub strict_guarding : (look : Lookup) → Guarding look any_standing every_number strict_guard
unfolding bytes_of
strict_guarding look =
    record {
      fresh = λ w. elim w as (λ z. strict_guard (paint look no_marks (txt z nil)) (bytes_of look z) ≡ got (brush look (txt z nil) (locked ∷ []))) [ master n ↦ rw (same_text_refl (look.bytes n)) | program e b t ↦ rw (same_text_refl t) ];
      guarded = λ w s h _. strict_guarded look w s h;
    }

-- ## Fig. 7's guard

-- not deleted, and not changed to the own text t
abbrev pub is_kept : List ℕ → Standing → Bool
is_kept t untouched = true
is_kept t locked = true
is_kept t (changed u) = not (same_text u t)
is_kept t deleted = false
is_kept t clash = true

-- a merge is one of its parts, or a clash
pub merge_either : (P : Standing → Type 0) (s t : Standing) → P s → P t → P clash → P (s ⋓ t)
unfolding ◌⋓◌
merge_either P s t p q c = go (is_untouched s) (is_untouched t) (same_standing s t)
  where
    go : (x y z : Bool) → P (cond x t (cond y s (cond z s clash)))
    go true y z = q
    go false true z = p
    go false false true = p
    go false false false = c

-- of a watched number
abbrev pub kept_where : Lookup → (ℕ → Bool) → Permit
kept_where look watch =
    record {
      permits = λ n s. not (watch n) || is_kept (look.bytes n) s;
      untouched_permitted = λ n. or_right (not (watch n)) true refl;
      locked_permitted = λ n. or_right (not (watch n)) true refl;
      merge_permitted = λ n s t p q. merge_either (λ z. (not (watch n) || is_kept (look.bytes n) z) ≡ true) s t p q (or_right (not (watch n)) true refl);
    }

printed_text : (look : Lookup) (watch : ℕ → Bool) (n : ℕ) (s : Standing) → is_clash s ≡ false
    → is_kept (look.bytes n) s ≡ true → (not (watch n) || is_kept (look.bytes n) locked) ≡ true
    → Guarded look (kept_where look watch) watch guard (master n) s
unfolding bytes_of is_from ◌⋓◌ is_untouched is_clash same_standing sort new_text same_text
printed_text look watch n untouched h k l = passes (rw (same_text_refl (look.bytes n))) (refl, l)
printed_text look watch n locked h k l = passes (rw (same_text_refl (look.bytes n))) (refl, l)
printed_text look watch n (changed u) h k l = stopped (rw (not-true (same_text u (look.bytes n)) k)) n (rw (eq-eqb n n refl))
printed_text look watch n deleted h k l = passes (cc) (cc, cc)
printed_text look watch n clash h k l = passes (cc) (cc, cc)

pub printed_guarding : (look : Lookup) (watch : ℕ → Bool) → Guarding look (kept_where look watch) watch guard
unfolding bytes_of master_number among
printed_guarding look watch =
    record {
      fresh = λ w. elim w as (λ z. guard (paint look no_marks (txt z nil)) (bytes_of look z) ≡ got (brush look (txt z nil) (locked ∷ []))) [ master n ↦ rw (same_text_refl (look.bytes n)) | program e b t ↦ rw (same_text_refl t) ];
      guarded = λ w s. elim w as (λ z. FineText (kept_where look watch) z s → Watched watch (master_number z) → Guarded look (kept_where look watch) watch guard z s) [ master n ↦ λ h W. watched n s h (W n (rw (eq-eqb n n refl))) | program e b t ↦ λ h W. passes (rw (same_text_refl t)) tt ];
    }
  where
    watched : (n : ℕ) (s : Standing) → FineText (kept_where look watch) (master n) s → watch n ≡ true → Guarded look (kept_where look watch) watch guard (master n) s
    watched n s h w =
        printed_text look watch n s h.0 (or_other (not (watch n)) (is_kept (look.bytes n) s) (rw w) h.1) ((kept_where look watch).locked_permitted n)

-- ## What the strict guard lets pass, Fig. 7's does

-- what p yields, q yields
abbrev pub Yields : {A : Type 0} → May A → May A → Type 0
Yields {A} p q = (r : A) → p ≡ got r → q ≡ got r

yields_then : {A B : Type 0} (p q : May A) (k l : A → May B) → Yields p q → ((a : A) → Yields (k a) (l a)) → Yields (p >>= k) (q >>= l)
yields_then fail q k l H K r h = cc
yields_then (got a) q k l H K r h = rw (H a refl) (K a r h)

yields_after : {A B : Type 0} (p : May A) (k l : A → May B) → ((a : A) → Yields (k a) (l a)) → Yields (p >>= k) (p >>= l)
yields_after p k l K = yields_then p p k l (λ r h. h) K

yields_provided : {A : Type 0} (b : Bool) (p q : May A) → Yields p q → Yields (provided b >> p) (provided b >> q)
yields_provided true p q H = H
yields_provided false p q H = λ r h. h

guard_yields : (S : Sequence) (t : List ℕ) → Yields (strict_guard S t) (guard S t)
guard_yields none t = λ r h. h
guard_yields (elt u w o K S) t = λ r h. h
guard_yields (str u ori (src n) S) t = λ r h. h
guard_yields (str u ori code S) t = λ r h. h
guard_yields (str u non (src n) S) t = λ r h. h
guard_yields (str u non code S) t = λ r h. h
guard_yields (str u mod' (src n) none) t = λ r h. cc
guard_yields (str u mod' (src n) (str a b c d)) t = λ r h. h
guard_yields (str u mod' (src n) (elt a b c d e)) t = λ r h. h
guard_yields (str u mod' code S) t = λ r h. h
guard_yields (str u del (src n) none) t = λ r h. cc
guard_yields (str u del (src n) (str a b c d)) t = λ r h. h
guard_yields (str u del (src n) (elt a b c d e)) t = λ r h. h
guard_yields (str u del code S) t = λ r h. h

iter_yields : (X Y : Backward) → ((E : PairContext) (v T : Sequence) → Yields (X E v T) (Y E v T)) → (l : List Sequence) (S before : Sequence) (E : PairContext)
    → Yields (iter X l S before E) (iter Y l S before E)
iter_yields X Y H [] none before E = λ r h. h
iter_yields X Y H [] (str t u o S) before E = λ r h. h
iter_yields X Y H [] (elt t w o K S) before E = λ r h. h
iter_yields X Y H (T ∷ l) none before E = λ r h. h
iter_yields X Y H (T ∷ l) (str t u o S) before E =
    yields_then (X E (str t u o none) T) (Y E (str t u o none) T) _ _ (H E (str t u o none) T) λ z. iter_yields X Y H l S (before ⧺ z.0) z.1
iter_yields X Y H (T ∷ l) (elt t w o K S) before E =
    yields_then (X E (elt t w o K none) T) (Y E (elt t w o K none) T) _ _ (H E (elt t w o K none) T) λ z. iter_yields X Y H l S (before ⧺ z.0) z.1

branch_yields : {A : Type 0} (b : Bool) (p q p' q' : May A) → Yields p p' → Yields q q' → Yields (branch b p q) (branch b p' q')
branch_yields true p q p' q' H K = H
branch_yields false p q p' q' H K = K

compared_yields : (fwd : Forward) (X Y : Backward) → ((E : PairContext) (v T : Sequence) → Yields (X E v T) (Y E v T)) → (E : PairContext) (S T : Sequence)
    → Yields (judged_backward strict_guard fwd X E S T) (judged_backward guard fwd Y E S T)
compared_yields fwd X Y H E S T =
    yields_after (the_string S) _ _ λ x. yields_after (fwd (firsts E) none) _ _ λ U. yields_after (the_string U) _ _ λ y.
    yields_then (strict_guard U y) (guard U y) _ _ (guard_yields U y) λ J.
    yields_then (X E none J) (Y E none J) _ _ (H E none J) λ r.
    yields_provided (is_none r.0) _ _ (yields_then (strict_guard T x) (guard T x) _ _ (guard_yields T x) λ Q z h. h)

mutual
  unfolding backward

  pub strict_yields : (X : Construct) (E : PairContext) (S T : Sequence) → Yields (backward strict_guard X E S T) (backward guard X E S T)
  strict_yields xid E S T = λ r h. h
  strict_yields (xconst C) E S T = λ r h. h
  strict_yields (xvar k) E S T = λ r h. h
  strict_yields xchild E S T = λ r h. h
  strict_yields (xsetcnt X) E S T =
      yields_after (the_element S) _ _ λ a. yields_after (the_element T) _ _ λ b. yields_provided (same_text a.tag b.tag && same_from a.origin b.origin) _ _
      (yields_then (backward strict_guard X E a.contents b.contents) (backward guard X E a.contents b.contents) _ _
      (strict_yields X E a.contents b.contents) λ r z h. h)
  strict_yields (xseq X Y) E S T =
      yields_after (forward X (firsts E) S) _ _ λ W.
      yields_then (backward strict_guard Y E W T) (backward guard Y E W T) _ _ (strict_yields Y E W T) λ r. strict_yields X r.1 S r.0
  strict_yields (xpar X Y) E S T =
      yields_after (forward X (firsts E) S) _ _ λ A. yields_after (forward Y (firsts E) S) _ _ λ B.
      yields_after (split T (len A ∷ len B ∷ [])) _ _ λ l. yields_after (in_two l) _ _ λ p.
      yields_then (backward strict_guard Y E S p.1) (backward guard Y E S p.1) _ _ (strict_yields Y E S p.1) λ b.
      yields_then (backward strict_guard X b.1 S p.0) (backward guard X b.1 S p.0) _ _ (strict_yields X b.1 S p.0) λ a z h. h
  strict_yields (xmap X) E S T =
      yields_after (lengths (forward X (firsts E)) S) _ _ λ l.
      yields_after (split T l) _ _ λ ST. iter_yields (backward strict_guard X) (backward guard X) (strict_yields X) ST S none E
  strict_yields (xif P X Y) E S T =
      yields_after (asks P (firsts E) S) _ _ λ b.
      yields_then (branch b (backward strict_guard X E S T) (backward strict_guard Y E S T)) (branch b (backward guard X E S T) (backward guard Y E S T)) _ _
      (branch_yields b (backward strict_guard X E S T) (backward strict_guard Y E S T)
      (backward guard X E S T) (backward guard Y E S T) (strict_yields X E S T) (strict_yields Y E S T)) λ r.
      strict_holds P r.1 S r.0
  strict_yields (xlet k X) E S T =
      yields_then (backward strict_guard X ((k, (S, S)) ∷ E) none T) (backward guard X ((k, (S, S)) ∷ E) none T) taken taken (strict_yields X ((k, (S, S)) ∷ E) none T) λ r z h. h

  pub strict_holds : (P : Predicate) (E : PairContext) (S T : Sequence) → Yields (holds strict_guard P E S T) (holds guard P E S T)
  strict_holds (xeq X) E S T = compared_yields (forward X) (backward strict_guard X) (backward guard X) (λ F v U. strict_yields X F v U) E S T
  strict_holds (xjudged j X) E S T = compared_yields (forward X) (backward strict_guard X) (backward guard X) (λ F v U. strict_yields X F v U) E S T
  strict_holds (xwithtag t) E S T = λ r h. h
  strict_holds xiselement E S T = λ r h. h
