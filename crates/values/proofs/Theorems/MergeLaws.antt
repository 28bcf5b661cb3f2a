-- Merging is a join: untouched is its unit, it is commutative, associative and idempotent, and a clash stays.
use Rattle.std.specs.Prelude.{◌≡◌, refl, Bool, true, false, cond, List, ℕ, eqb}
use Rattle.std.proofs.Common.{sym, ap, subst, ◌∙◌, eqb-true, eq-eqb}
use Rattle.lines.specs.Texts.{same_text}
use Rattle.lines.specs.Theorems.Bools.{and_parts}
use Rattle.lines.specs.Theorems.SameTexts.{same_text_sound, same_text_refl}
use Rattle.values.specs.Standings.{Standing, untouched, locked, changed, deleted, clash, sort, new_text, is_untouched, is_clash, same_standing, ◌⋓◌}

-- ## Equal standings

-- a standing is its sort and its text
of_sort : ℕ → List ℕ → Standing
of_sort k t = cond (eqb k 0) untouched (cond (eqb k 1) locked (cond (eqb k 2) deleted (cond (eqb k 3) clash (changed t))))

of_sort_is : (s : Standing) → of_sort (sort s) (new_text s) ≡ s
unfolding of_sort sort new_text
of_sort_is untouched = refl
of_sort_is locked = refl
of_sort_is (changed t) = refl
of_sort_is deleted = refl
of_sort_is clash = refl

pub same_sound : (s t : Standing) → same_standing s t ≡ true → s ≡ t
unfolding same_standing
same_sound s t e =
    let p = and_parts (eqb (sort s) (sort t)) (same_text (new_text s) (new_text t)) e in
    let q = eqb-true (sort s) (sort t) p.0 in
    let r = same_text_sound (new_text s) (new_text t) p.1 in
    let a = of_sort_is s in
    let b = of_sort_is t in
    cc

pub same_refl : (s : Standing) → same_standing s s ≡ true
unfolding same_standing
same_refl s = rw (eq-eqb (sort s) (sort s) refl) (same_text_refl (new_text s))

pub clash_is : (s : Standing) → is_clash s ≡ true → s ≡ clash
unfolding is_clash of_sort
clash_is s e = sym (of_sort_is s) ∙ ap (λ (k : ℕ). of_sort k (new_text s)) (eqb-true (sort s) 3 e)

-- ## By cases

pub by_untouched : (P : Standing → Type 0) (s : Standing) → P untouched → (is_untouched s ≡ false → P s) → P s
unfolding is_untouched sort
by_untouched P untouched u k = u
by_untouched P locked u k = k refl
by_untouched P (changed t) u k = k refl
by_untouched P deleted u k = k refl
by_untouched P clash u k = k refl

pub by_same : (P : Standing → Type 0) (s t : Standing) → P s → (same_standing s t ≡ false → P t) → P t
by_same P s t alike apart = go (same_standing s t) refl
  where
    go : (b : Bool) → same_standing s t ≡ b → P t
    go true e = subst P (same_sound s t e) alike
    go false e = apart e

-- ## The laws

pub unit_left : (s : Standing) → untouched ⋓ s ≡ s
unfolding ◌⋓◌ is_untouched sort
unit_left s = refl

pub unit_right : (s : Standing) → s ⋓ untouched ≡ s
unfolding ◌⋓◌ is_untouched sort
unit_right s = by_untouched (λ z. z ⋓ untouched ≡ z) s refl (λ p. rw p)

pub merge_idem : (s : Standing) → s ⋓ s ≡ s
unfolding ◌⋓◌
merge_idem s = by_untouched (λ z. z ⋓ z ≡ z) s (unit_left untouched) (λ p. rw (p, same_refl s))

-- two standings that differ, neither of them untouched
pub differ : (s t : Standing) → is_untouched s ≡ false → is_untouched t ≡ false → same_standing s t ≡ false → s ⋓ t ≡ clash
unfolding ◌⋓◌
differ s t p q r = rw (p, q, r)

pub merge_comm : (s t : Standing) → s ⋓ t ≡ t ⋓ s
merge_comm s t =
    by_untouched (λ z. z ⋓ t ≡ t ⋓ z) s (unit_left t ∙ sym (unit_right t)) λ p.
    by_untouched (λ z. s ⋓ z ≡ z ⋓ s) t (unit_right s ∙ sym (unit_left s)) λ q.
    by_same (λ z. s ⋓ z ≡ z ⋓ s) s t refl λ n. differ s t p q n ∙ sym (differ t s q p (other (same_standing t s) refl n))
  where
    other : (b : Bool) → same_standing t s ≡ b → same_standing s t ≡ false → b ≡ false
    other false e n = refl
    other true e n = let d = same_sound t s e in let r = same_refl s in sym r ∙ ap (λ (z : Standing). same_standing s z) (sym d) ∙ n

pub clash_left : (s : Standing) → clash ⋓ s ≡ clash
unfolding is_untouched sort
clash_left s =
    by_untouched (λ z. clash ⋓ z ≡ clash) s (unit_right clash) λ p.
    by_same (λ z. clash ⋓ z ≡ clash) clash s (merge_idem clash) λ n. differ clash s refl p n

pub clash_right : (s : Standing) → s ⋓ clash ≡ clash
clash_right s = merge_comm s clash ∙ clash_left s

pub merge_assoc : (s t u : Standing) → s ⋓ t ⋓ u ≡ s ⋓ (t ⋓ u)
merge_assoc s t u =
    by_untouched (λ z. z ⋓ t ⋓ u ≡ z ⋓ (t ⋓ u)) s (rw (unit_left t) (sym (unit_left (t ⋓ u)))) λ p.
    by_untouched (λ z. s ⋓ z ⋓ u ≡ s ⋓ (z ⋓ u)) t (rw (unit_right s, unit_left u)) λ q.
    by_untouched (λ z. s ⋓ t ⋓ z ≡ s ⋓ (t ⋓ z)) u (rw (unit_right (s ⋓ t), unit_right t)) λ r.
    by_same (λ z. is_untouched z ≡ false → s ⋓ z ⋓ u ≡ s ⋓ (z ⋓ u)) s t
    (λ _. rw (merge_idem s) (by_same (λ z. s ⋓ z ≡ s ⋓ (s ⋓ z)) s u (rw (merge_idem s) (sym (merge_idem s))) λ n. rw (differ s u p r n) (sym (clash_right s))))
    (λ n q'. rw (differ s t p q n)
    (clash_left u ∙ sym (by_same (λ z. s ⋓ (t ⋓ z) ≡ clash) t u (rw (merge_idem t) (differ s t p q n)) λ m. rw (differ t u q r m) (clash_right s)))) q

pub merge_left_comm : (s t u : Standing) → s ⋓ (t ⋓ u) ≡ t ⋓ (s ⋓ u)
merge_left_comm s t u = sym (merge_assoc s t u) ∙ ap (λ (z : Standing). z ⋓ u) (merge_comm s t) ∙ merge_assoc t s u

pub merge_swap : (s t u w : Standing) → (s ⋓ t) ⋓ (u ⋓ w) ≡ (s ⋓ u) ⋓ (t ⋓ w)
merge_swap s t u w = simp (merge_assoc, merge_left_comm)

-- ## A merge that is no clash

-- it is each of its parts that is not untouched
pub merge_keeps : (s t : Standing) → is_clash (s ⋓ t) ≡ false → is_untouched s ≡ false → s ⋓ t ≡ s
unfolding is_clash sort
merge_keeps s t h p =
    by_untouched (λ z. is_clash (s ⋓ z) ≡ false → s ⋓ z ≡ s) t (λ _. unit_right s)
    (λ q. by_same (λ z. is_clash (s ⋓ z) ≡ false → s ⋓ z ≡ s) s t (λ _. merge_idem s)
    (λ n k. let z : ◌≡◌ {A = Bool} true false = sym (ap is_clash (differ s t p q n)) ∙ k in cc)) h

pub no_clash_right : (s t : Standing) → is_clash (s ⋓ t) ≡ false → is_clash t ≡ false
unfolding is_clash sort
no_clash_right s t h = go (is_clash t) refl
  where
    go : (b : Bool) → is_clash t ≡ b → b ≡ false
    go false e = refl
    go true e = sym (ap is_clash (ap (λ (z : Standing). s ⋓ z) (clash_is t e) ∙ clash_right s)) ∙ h

pub no_clash_left : (s t : Standing) → is_clash (s ⋓ t) ≡ false → is_clash s ≡ false
no_clash_left s t h = no_clash_right t s (ap is_clash (merge_comm t s) ∙ h)
