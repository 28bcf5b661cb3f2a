-- Where a tree ends: at one place only, and that is where reading at its entry ends, whatever is asked for and however much room there is.
use Rattle.std.specs.Prelude.{◌≡◌, refl, Bool, List, ltb, length, get_or}
use Rattle.std.proofs.Common.{sym, ap, ◌∙◌, arith, ltb-true, ltb-false}
use Rattle.std.proofs.Math.Bool.{true, false}
use Prim.Native.Nat.{ℕ, zero, suc, ◌<◌}
use Rattle.std.proofs.Math.ListN.{get_or-eq_default}
use Rattle.lines.specs.Entries.{Entry, class_of, rows, row_of, subs_of}
use Rattle.runs.specs.Results.{gives}
use Rattle.runs.specs.Programs.{equals, Transformation, source, nothing, text, tag, slot, contents, within}
use Rattle.runs.specs.Programs.{and_then, beside, each, choose, bind, Test, compares, tagged, is_element}
use Rattle.runs.specs.Reading.{Room, below, no_entry}
use Rattle.runs.specs.Theorems.Inversion.{no_gives, gives_inj, on_bind, on_ensure}
use Rattle.runs.specs.Engine.Ends.{stands, end_of, end_below, end_at}
use Rattle.runs.specs.Engine.Trees.{Stands, StandsTest}

module _ (entries : List Entry) where
  -- where reading at p ends, it ends at q
  abbrev Only : ℕ → ℕ → Type 0
  Only p q = (k : ℕ) (room : Room) (asked : Bool) (r : ℕ) → end_at entries k room asked p ≡ gives r → q ≡ r

  pub record OneEnd (p q : ℕ) : Type 0 where
    pub inside : p < length entries
    pub only : Only p q

  module _ (b p q : ℕ) (some : 0 ≡ b → ⊥) (o : (get_or entries p no_entry).operation ≡ b) where
    -- behind the last line stands no operation
    one_inside : p < length entries
    one_inside = go (ltb p (length entries)) refl
      where
        go : (t : Bool) → ltb p (length entries) ≡ t → p < length entries
        go true e = ltb-true p (length entries) e
        go false e = absurd (some (ap (λ (x : Entry). x.operation) (sym (get_or-eq_default entries no_entry (ltb-false p (length entries) e))) ∙ o))

    -- by the number of sub-entries
    one_end : (n : ℕ) → subs_of b ≡ n
        → ((k : ℕ) (room : Room) (r : ℕ) → end_below (end_at entries k room false) (end_at entries k room true) n (suc p) ≡ gives r → q ≡ r)
        → OneEnd p q
    unfolding end_at
    one_end n s f = record { inside = one_inside; only = go }
      where
        go : Only p q
        go zero room asked r h = absurd (no_gives p r h)
        go (suc k) room asked r h =
            on_bind (below (get_or entries p no_entry) p room) _ r h λ inner _ h₁.
            on_ensure (stands asked (class_of (get_or entries p no_entry).operation)) p _ r h₁ λ _ h₂.
            f k inner r (rw (o, s) at h₂)

    leaf_end : subs_of b ≡ 0 → q ≡ suc p → OneEnd p q
    unfolding end_below end_of
    leaf_end s e = one_end 0 s λ k room r h. e ∙ gives_inj (suc p) r h

    sub_end : subs_of b ≡ 1 → OneEnd (suc p) q → OneEnd p q
    unfolding end_below end_of
    sub_end s x = one_end 1 s λ k room r h.
        on_bind (end_at entries k room false (suc p)) _ r h λ a g h₁.
        x.only k room false a g ∙ gives_inj a r h₁

    two_end : (m : ℕ) → subs_of b ≡ 2 → OneEnd (suc p) m → OneEnd m q → OneEnd p q
    unfolding end_below end_of
    two_end m s x y = one_end 2 s λ k room r h.
        on_bind (end_at entries k room false (suc p)) _ r h λ a g h₁.
        on_bind (end_at entries k room false a) _ r h₁ λ d i h₂.
        y.only k room false d (rw (x.only k room false a g) i) ∙ gives_inj d r h₂

    choice_end : (l m : ℕ) → subs_of b ≡ 3 → OneEnd (suc p) l → OneEnd l m → OneEnd m q → OneEnd p q
    unfolding end_below end_of
    choice_end l m s t x y = one_end 3 s λ k room r h.
        on_bind (end_at entries k room true (suc p)) _ r h λ a g h₁.
        on_bind (end_at entries k room false a) _ r h₁ λ d i h₂.
        on_bind (end_at entries k room false d) _ r h₂ λ f j h₃.
        let i' = rw (← (t.only k room true a g)) at i in
        y.only k room false f (rw (x.only k room false d i') j) ∙ gives_inj f r h₃

  mutual
    unfolding Stands row_of rows

    pub one_end_of : (X : Transformation) (p q : ℕ) → Stands entries X p q → OneEnd p q
    one_end_of (source e) = λ p q s. leaf_end 0x01 p q (λ z. omega arith) s.0.1 refl s.1
    one_end_of (nothing e) = λ p q s. leaf_end 0x02 p q (λ z. omega arith) s.0.1 refl s.1
    one_end_of (text e b) = λ p q s. leaf_end 0x03 p q (λ z. omega arith) s.0.1 refl s.2
    one_end_of (tag e b) = λ p q s. leaf_end 0x04 p q (λ z. omega arith) s.0.1 refl s.2
    one_end_of (slot e k) = λ p q s. leaf_end 0x05 p q (λ z. omega arith) s.0.1 refl s.2
    one_end_of (contents e) = λ p q s. leaf_end 0x06 p q (λ z. omega arith) s.0.1 refl s.1
    one_end_of (within e X) = λ p q s. sub_end 0x07 p q (λ z. omega arith) s.0.1 refl (one_end_of X (suc p) q s.1)
    one_end_of (and_then e X Y) = λ p q s.
        two_end 0x08 p q (λ z. omega arith) s.0.1 s.1.0 refl (one_end_of X (suc p) s.1.0 s.1.1) (one_end_of Y s.1.0 q s.1.2)
    one_end_of (beside e X Y) = λ p q s.
        two_end 0x09 p q (λ z. omega arith) s.0.1 s.1.0 refl (one_end_of X (suc p) s.1.0 s.1.1) (one_end_of Y s.1.0 q s.1.2)
    one_end_of (each e X) = λ p q s. sub_end 0x0A p q (λ z. omega arith) s.0.1 refl (one_end_of X (suc p) q s.1)
    one_end_of (choose e P X Y) = λ p q s.
        choice_end 0x0B p q (λ z. omega arith) s.0.1 s.1.0 s.1.1 refl
        (one_test_end P (suc p) s.1.0 s.1.2) (one_end_of X s.1.0 s.1.1 s.1.3) (one_end_of Y s.1.1 q s.1.4)
    one_end_of (bind e k X) = λ p q s. sub_end 0x0C p q (λ z. omega arith) s.0.1 refl (one_end_of X (suc p) q s.2)

    pub one_test_end : (P : Test) (p q : ℕ) → StandsTest entries P p q → OneEnd p q
    one_test_end (compares e equals X) = λ p q s. sub_end 0x11 p q (λ z. omega arith) s.0.1 refl (one_end_of X (suc p) q s.1)
    one_test_end (tagged e t) = λ p q s. leaf_end 0x12 p q (λ z. omega arith) s.0.1 refl s.2
    one_test_end (is_element e) = λ p q s. leaf_end 0x13 p q (λ z. omega arith) s.0.1 refl s.1
