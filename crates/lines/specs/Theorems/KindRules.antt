-- What is known of a kind's rule: which kinds there are, and what each has. Elsewhere only the proof of `form::kind_rule` and computed cases look into it.
use Rattle.std.specs.Prelude.{◌≡◌, Bool, not, ◌&&◌, List, ℕ, ◌≤◌, ◌<◌, leb}
use Rattle.std.proofs.Math.Path.{refl, subst}
use Rattle.std.proofs.Common.{sym, arith}
use Rattle.std.proofs.Math.Bool.{true, false, cond}
use Rattle.std.proofs.Math.Dec.{eqb}
use borrow.Author.Tests.{leb-true, eqb-true, not-true}
use Rattle.lines.specs.Nodes.{untouched_mark, changed_mark, deleted_mark, is_element, is_tag, hi_lo, lo_hi, is_order, kind_rule}
use Rattle.lines.specs.Texts.{same_text}
use Rattle.lines.specs.Theorems.Bools.{never, and_left, and_right, or_cases}
use Rattle.lines.specs.Theorems.SameTexts.{same_text_sound}

-- ## Each kind's lines

module _ (text : List ℕ) where
  pub text_rule : kind_rule 1 untouched_mark text ≡ true
  unfolding kind_rule
  text_rule = refl

  pub tag_rule : is_tag text ≡ true → kind_rule 2 untouched_mark text ≡ true
  unfolding kind_rule is_element
  tag_rule h = h

  pub order_rule : is_order text ≡ true → kind_rule 3 untouched_mark text ≡ true
  unfolding kind_rule is_element
  order_rule h = h

  -- an order is one of the two words
  pub order_word : {P : Type 0} → is_order text ≡ true → (text ≡ hi_lo → P) → (text ≡ lo_hi → P) → P
  unfolding is_order
  order_word h first second =
      or_cases (same_text text hi_lo) (same_text text lo_hi) (λ e. first (same_text_sound text hi_lo e)) (λ e. second (same_text_sound text lo_hi e)) h

-- and each of them is one
pub words_are_orders : (is_order hi_lo ≡ true) × (is_order lo_hi ≡ true)
unfolding is_order same_text
words_are_orders = (refl, refl)

-- ## A line that keeps the rule

module _ (kind mark : ℕ) (text : List ℕ) (h : kind_rule kind mark text ≡ true) where
  -- "Mark 00 untouched, 01 changed, 02 deleted": the form has no other
  pub rule_mark : mark ≤ deleted_mark
  unfolding kind_rule
  rule_mark = leb-true mark deleted_mark (and_left (leb mark deleted_mark) _ h)

  -- what holds of each kind's lines holds of it
  pub by_kind : (Goal : ℕ → Type 0) → Goal 1 → (eqb mark changed_mark ≡ false → is_tag text ≡ true → Goal 2) → (is_order text ≡ true → Goal 3) → Goal kind
  unfolding kind_rule is_element
  by_kind Goal as_text as_element asOrder = go (eqb kind 1) (eqb kind 2) (eqb kind 3) refl refl refl (and_right (leb mark deleted_mark) _ h)
    where
      go : (a b c : Bool) → eqb kind 1 ≡ a → eqb kind 2 ≡ b → eqb kind 3 ≡ c
          → cond a true (cond b (not (eqb mark changed_mark) && is_tag text) (cond c (is_order text) false)) ≡ true → Goal kind
      go true b c e f g q = subst Goal (sym (eqb-true kind 1 e)) as_text
      go false true c e f g q =
          subst Goal (sym (eqb-true kind 2 f)) (as_element (not-true _ (and_left (not (eqb mark changed_mark)) _ q)) (and_right (not (eqb mark changed_mark)) _ q))
      go false false true e f g q = subst Goal (sym (eqb-true kind 3 g)) (asOrder q)
      go false false false e f g q = never q

  pub rule_small : (kind < 256) × (mark < 256)
  rule_small = let m = rule_mark in (by_kind (λ k. k < 256) (omega arith) (λ _ _. omega arith) (λ _. omega arith), omega arith)

  -- what a kind asks of the bytes it asks without a mark too
  pub rule_without_mark : kind_rule kind untouched_mark text ≡ true
  rule_without_mark = by_kind (λ k. kind_rule k untouched_mark text ≡ true) (text_rule text) (λ _ t. tag_rule text t) (order_rule text)

  -- kind 03: "exactly `hi-lo` or `lo-hi`"
  pub rule_order : kind ≡ 3 → is_order text ≡ true
  rule_order = by_kind (λ k. k ≡ 3 → is_order text ≡ true) (λ e. absurd (omega arith)) (λ _ _ e. absurd (omega arith)) (λ o _. o)

-- "Mark 01 stands only on a text"
pub element_mark : (kind mark : ℕ) (text : List ℕ) → is_element kind ≡ true → kind_rule kind mark text ≡ true → eqb mark changed_mark ≡ false
unfolding is_element
element_mark kind mark text e h = by_kind kind mark text h (λ k. is_element k ≡ true → eqb mark changed_mark ≡ false) (λ e. never e) (λ m _ _. m) (λ _ e. never e) e
