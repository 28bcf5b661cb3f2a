-- A tree whose lines in prefix order are those of a file stands there; and what the lines are if the entries have their form.
use Rattle.std.specs.Prelude.{◌≡◌, refl, true, leb, Option, Some}
use Rattle.std.proofs.Common.{sym, subst, drop_of_length-le, drop-cons, eqb-true}
use Rattle.std.proofs.Math.Path.{ap}
use mathlib.Core.List.Memᴰ
use mathlib.Core.List.{List, [], ◌∷◌, ◌++◌, flatten, append-nil}
use Prim.Native.Nat.{ℕ, suc, ◌+◌, ◌≤◌, zero, ◌<◌}
use native.Mathlib.Omega.{arith}
use Rattle.std.proofs.Math.ListN.{length, get_or, drop}
use Rattle.lines.specs.Entries.{Entry, slot_of, operand_shape, text_form, operand_form, text_of}
use Rattle.lines.specs.Theorems.Bools.{and_left, and_right}
use Rattle.lines.specs.declared.table.Shape.{Shape}
use Rattle.lines.specs.declared.table.Shape.TheVariants.{Nothing, Text, Tag, Slot}
use Rattle.lines.specs.Nodes.{is_tag}
use Rattle.runs.specs.Programs.{equals, Transformation, source, nothing, text, tag, slot, contents, within}
use Rattle.runs.specs.Programs.{and_then, beside, each, choose, bind, Test, compares, tagged, is_element}
use Rattle.runs.specs.Reading.{no_entry}
use Rattle.runs.specs.Engine.Trees.{entry_at, Head, Stands, StandsTest}
use Rattle.programs.specs.SoundPrograms.{◌∈◌, entry, fold, fold_test, Placing, lines_from, prefix, counted, Formed}
use Rattle.runs.specs.Theorems.WholePrograms.{head_within}

abbrev test_prefix : Test → List Placing
test_prefix = fold_test lines_from

-- ## Lines in the entries

module _ (entries : List Entry) where
  -- these lines stand there from p on, up to q
  abbrev Lies : List Placing → ℕ → ℕ → Type 0
  Lies [] p q = q ≡ p
  Lies (l ∷ ls) p q = (l ≡ (p, entry_at entries p)) × Lies ls (suc p) q

  -- one list behind the other
  abbrev LieInTurn : List (List Placing) → ℕ → ℕ → Type 0
  LieInTurn [] p q = q ≡ p
  LieInTurn (ls ∷ []) p q = Lies ls p q
  LieInTurn (ls ∷ ks ∷ lss) p q = (m : ℕ) × Lies ls p m × LieInTurn (ks ∷ lss) m q

  append_lies : (ls ks : List Placing) (p q : ℕ) → Lies (ls ++ ks) p q → (m : ℕ) × Lies ls p m × Lies ks m q
  append_lies [] ks p q a = (p, refl, a)
  append_lies (l ∷ ls) ks p q a = let r = append_lies ls ks (suc p) q a.1 in (r.0, (a.0, r.1), r.2)

  flatten_lies : (lss : List (List Placing)) (p q : ℕ) → Lies (flatten lss) p q → LieInTurn lss p q
  unfolding flatten
  flatten_lies [] p q a = a
  flatten_lies (ls ∷ []) p q a = rw (append-nil ls) at a
  flatten_lies (ls ∷ ks ∷ lss) p q a = let r = append_lies ls (flatten (ks ∷ lss)) p q a in (r.0, r.1, flatten_lies (ks ∷ lss) r.0 q r.2)

  -- ## All of them

  counted_lies : (n p : ℕ) → p + n ≡ length entries → Lies (counted p (drop p entries)) p (length entries)
  unfolding counted
  counted_lies zero p e = rw (drop_of_length-le entries (let z : length entries ≤ p = omega arith in z)) (omega arith)
  counted_lies (suc n) p e = rw (drop-cons entries p no_entry (omega arith)) (refl, counted_lies n (suc p) (omega arith))

  -- ## A tree's lines

  module _ (e p b : ℕ) (o : List ℕ) (h : ◌≡◌ {A = Placing} (e, entry b o) (p, entry_at entries p)) where
    head_of : Head entries b e p
    head_of = (ap (λ (l : Placing). l.0) h, ap (λ (l : Placing). l.1.operation) (sym h))

    operand_of : o ≡ (entry_at entries p).operand
    operand_of = ap (λ (l : Placing). l.1.operand) h

  text_is : (e p b : ℕ) (t : List ℕ) → ◌≡◌ {A = Placing} (e, entry b (length t ∷ t)) (p, entry_at entries p) → t ≡ text_of (entry_at entries p)
  unfolding text_of
  text_is e p b t h = ap (λ (o : List ℕ). drop 1 o) (operand_of e p b (length t ∷ t) h)

  slot_is : (e p b k : ℕ) → ◌≡◌ {A = Placing} (e, entry b (k ∷ [])) (p, entry_at entries p) → k ≡ slot_of (entry_at entries p)
  unfolding slot_of
  slot_is e p b k h = ap (λ (o : List ℕ). get_or o 0 0) (operand_of e p b (k ∷ []) h)

  mutual
    unfolding fold Stands

    prefix_stands : (X : Transformation) (p q : ℕ) → Lies (prefix X) p q → Stands entries X p q
    prefix_stands (source e) = λ p q a. (head_of e p 0x01 [] a.0, flatten_lies [] (suc p) q a.1)
    prefix_stands (nothing e) = λ p q a. (head_of e p 0x02 [] a.0, flatten_lies [] (suc p) q a.1)
    prefix_stands (text e b) = λ p q a. (head_of e p 0x03 (length b ∷ b) a.0, text_is e p 0x03 b a.0, flatten_lies [] (suc p) q a.1)
    prefix_stands (tag e b) = λ p q a. (head_of e p 0x04 (length b ∷ b) a.0, text_is e p 0x04 b a.0, flatten_lies [] (suc p) q a.1)
    prefix_stands (slot e k) = λ p q a. (head_of e p 0x05 (k ∷ []) a.0, slot_is e p 0x05 k a.0, flatten_lies [] (suc p) q a.1)
    prefix_stands (contents e) = λ p q a. (head_of e p 0x06 [] a.0, flatten_lies [] (suc p) q a.1)
    prefix_stands (within e X) = λ p q a. (head_of e p 0x07 [] a.0, prefix_stands X (suc p) q (flatten_lies (prefix X ∷ []) (suc p) q a.1))
    prefix_stands (and_then e X Y) = λ p q a.
        let r = flatten_lies (prefix X ∷ prefix Y ∷ []) (suc p) q a.1 in
        (head_of e p 0x08 [] a.0, (r.0, prefix_stands X (suc p) r.0 r.1, prefix_stands Y r.0 q r.2))
    prefix_stands (beside e X Y) = λ p q a.
        let r = flatten_lies (prefix X ∷ prefix Y ∷ []) (suc p) q a.1 in
        (head_of e p 0x09 [] a.0, (r.0, prefix_stands X (suc p) r.0 r.1, prefix_stands Y r.0 q r.2))
    prefix_stands (each e X) = λ p q a. (head_of e p 0x0A [] a.0, prefix_stands X (suc p) q (flatten_lies (prefix X ∷ []) (suc p) q a.1))
    prefix_stands (choose e P X Y) = λ p q a.
        let r = flatten_lies (test_prefix P ∷ prefix X ∷ prefix Y ∷ []) (suc p) q a.1 in
        let s = r.2 in
        (head_of e p 0x0B [] a.0, (r.0, s.0, prefix_stands_test P (suc p) r.0 r.1, prefix_stands X r.0 s.0 s.1, prefix_stands Y s.0 q s.2))
    prefix_stands (bind e k X) = λ p q a.
        (head_of e p 0x0C (k ∷ []) a.0, slot_is e p 0x0C k a.0, prefix_stands X (suc p) q (flatten_lies (prefix X ∷ []) (suc p) q a.1))

    prefix_stands_test : (P : Test) (p q : ℕ) → Lies (test_prefix P) p q → StandsTest entries P p q
    prefix_stands_test (compares e equals X) = λ p q a.
        (head_of e p 0x11 [] a.0, prefix_stands X (suc p) q (flatten_lies (prefix X ∷ []) (suc p) q a.1))
    prefix_stands_test (tagged e t) = λ p q a. (head_of e p 0x12 (length t ∷ t) a.0, text_is e p 0x12 t a.0, flatten_lies [] (suc p) q a.1)
    prefix_stands_test (is_element e) = λ p q a. (head_of e p 0x13 [] a.0, flatten_lies [] (suc p) q a.1)

  pub written_stands : (X : Transformation) → prefix X ≡ counted 0 entries → Stands entries X 0 (length entries)
  written_stands X h = prefix_stands X 0 (length entries) (rw h (counted_lies (length entries) 0 (omega arith)))

-- ## Operands of the right form

nothing_operand : (o : List ℕ) → operand_form (Some Nothing) o ≡ true → o ≡ []
unfolding operand_form
nothing_operand [] h = refl
nothing_operand (x ∷ o) h = let l = eqb-true (suc (length o)) 0 h in absurd (omega arith)

slot_operand : (o : List ℕ) → operand_form (Some Slot) o ≡ true → o ≡ get_or o 0 0 ∷ []
unfolding operand_form
slot_operand [] h = let l = eqb-true 0 1 h in absurd (omega arith)
slot_operand (x ∷ []) h = refl
slot_operand (x ∷ y ∷ o) h = let l = eqb-true (suc (suc (length o))) 1 h in absurd (omega arith)

text_operand : (o : List ℕ) → text_form o ≡ true → o ≡ length (drop 1 o) ∷ drop 1 o
unfolding text_form
text_operand [] h = let z : ◌≡◌ {A = ℕ} 0 1 = cc in absurd (omega arith)
text_operand (x ∷ o) h =
    let l = eqb-true (suc (length o)) (1 + x) (and_right (leb x 32) _ (and_right (leb 1 (suc (length o))) _ h)) in
    let z : x ≡ length o = omega arith in
    rw z

tag_text : (o : List ℕ) → operand_form (Some Tag) o ≡ true → operand_form (Some Text) o ≡ true
unfolding operand_form
tag_text o h = and_left (text_form o) (is_tag (drop 1 o)) h

-- what stands before the end is among them
get_d_in : {A : Type 0} (xs : List A) (p : ℕ) (d : A) → p < length xs → get_or xs p d ∈ xs
get_d_in [] p d h = absurd (omega arith)
get_d_in (x ∷ xs) zero d h = Memᴰ.head refl
get_d_in (x ∷ xs) (suc p) d h = Memᴰ.tail (get_d_in xs p d (omega arith))

-- ## Lines of entries that have their form

module _ (entries : List Entry) (formed : Formed entries) where
  -- the line of an entry, if its operand is known
  line_is : (b e p : ℕ) (o : List ℕ) → Head entries b e p → (entry_at entries p).operand ≡ o → ◌≡◌ {A = Placing} (e, entry b o) (p, entry_at entries p)
  line_is b e p o h k = rw (h.0, ← h.1, ← k)

  -- an operand has the shape of its row
  pub shape_of : (shape : Option Shape) (b e p : ℕ) → operand_shape b ≡ shape → (0 ≡ b → ⊥) → Head entries b e p → operand_form shape (entry_at entries p).operand ≡ true
  shape_of shape b e p r some h =
      rw r at (subst (λ (c : ℕ). operand_form (operand_shape c) (entry_at entries p).operand ≡ true) h.1
      (formed (entry_at entries p) (get_d_in entries p no_entry (head_within entries b p some h.1))))

  pub plain_line : (b e p : ℕ) → operand_shape b ≡ Some Nothing → (0 ≡ b → ⊥) → Head entries b e p → ◌≡◌ {A = Placing} (e, entry b []) (p, entry_at entries p)
  plain_line b e p r some h = line_is b e p [] h (nothing_operand (entry_at entries p).operand (shape_of (Some Nothing) b e p r some h))

  pub slot_line : (b e p k : ℕ) → operand_shape b ≡ Some Slot → (0 ≡ b → ⊥) → Head entries b e p → k ≡ slot_of (entry_at entries p)
      → ◌≡◌ {A = Placing} (e, entry b (k ∷ [])) (p, entry_at entries p)
  unfolding slot_of
  slot_line b e p k r some h s = line_is b e p (k ∷ []) h (rw s (slot_operand (entry_at entries p).operand (shape_of (Some Slot) b e p r some h)))

  pub text_line : (b e p : ℕ) (t : List ℕ) → operand_form (Some Text) (entry_at entries p).operand ≡ true → Head entries b e p → t ≡ text_of (entry_at entries p)
      → ◌≡◌ {A = Placing} (e, entry b (length t ∷ t)) (p, entry_at entries p)
  unfolding operand_form text_of
  text_line b e p t f h s = line_is b e p (length t ∷ t) h (rw s (text_operand (entry_at entries p).operand f))

  pub tag_line : (b e p : ℕ) (t : List ℕ) → operand_shape b ≡ Some Tag → (0 ≡ b → ⊥) → Head entries b e p → t ≡ text_of (entry_at entries p)
      → ◌≡◌ {A = Placing} (e, entry b (length t ∷ t)) (p, entry_at entries p)
  tag_line b e p t r some h = text_line b e p t (tag_text (entry_at entries p).operand (shape_of (Some Tag) b e p r some h)) h
