-- Whole programs: one is read exactly if its tree stands in all its lines, with twelve levels and in the whole room.
use Rattle.std.specs.Prelude.{◌≡◌, refl, Bool, true, false, List, ℕ, suc, ◌≤◌, ◌<◌, leb, ltb, get_or, length}
use Rattle.std.proofs.Common.{sym, ap, subst, ◌∙◌, arith, ltb-true, ltb-false, leb-true, le-leb}
use Rattle.std.proofs.Math.ListN.{get_or-eq_default}
use Rattle.lines.specs.Entries.{Entry}
use Rattle.runs.specs.Results.{gives}
use Rattle.runs.specs.Programs.{equals, Transformation, source, nothing, text, tag, slot, contents, within}
use Rattle.runs.specs.Programs.{and_then, beside, each, choose, bind, Test, compares, tagged, is_element}
use Rattle.runs.specs.Reading.{whole_room, most_levels, no_entry, transformation_at, read_in, read_program}
use Rattle.runs.specs.Theorems.Inversion.{on_gives, on_bind, on_ensure}
use Rattle.runs.specs.Engine.Trees.{Stands, StandsTest, Placed}
use Rattle.runs.specs.Theorems.Soundness.{read_placed, placed_read}

-- ## Nothing missing, nothing left over

-- behind the last line stands no operation
pub head_within : (entries : List Entry) (b p : ℕ) → (0 ≡ b → ⊥) → (get_or entries p no_entry).operation ≡ b → p < length entries
head_within entries b p n h = go (ltb p (length entries)) refl
  where
    go : (t : Bool) → ltb p (length entries) ≡ t → p < length entries
    go true e = ltb-true p (length entries) e
    go false e = absurd (n (ap (λ (x : Entry). x.operation) (sym (get_or-eq_default entries no_entry (ltb-false p (length entries) e))) ∙ h))

module _ (entries : List Entry) where
  abbrev Within : ℕ → ℕ → Type 0
  Within p q = (p < q) × (q ≤ length entries)

  leaf_within : (b p q : ℕ) → (0 ≡ b → ⊥) → (get_or entries p no_entry).operation ≡ b → q ≡ suc p → Within p q
  leaf_within b p q n o e = let h = head_within entries b p n o in (omega arith, omega arith)

  mutual
    unfolding Stands

    stands_within : (X : Transformation) (p q : ℕ) → Stands entries X p q → Within p q
    stands_within (source e) = λ p q s. leaf_within 0x01 p q (λ z. omega arith) s.0.1 s.1
    stands_within (nothing e) = λ p q s. leaf_within 0x02 p q (λ z. omega arith) s.0.1 s.1
    stands_within (text e b) = λ p q s. leaf_within 0x03 p q (λ z. omega arith) s.0.1 s.2
    stands_within (tag e b) = λ p q s. leaf_within 0x04 p q (λ z. omega arith) s.0.1 s.2
    stands_within (slot e k) = λ p q s. leaf_within 0x05 p q (λ z. omega arith) s.0.1 s.2
    stands_within (contents e) = λ p q s. leaf_within 0x06 p q (λ z. omega arith) s.0.1 s.1
    stands_within (within e X) = λ p q s. let x = stands_within X (suc p) q s.1 in (omega arith, x.1)
    stands_within (and_then e X Y) = λ p q s. let x = stands_within X (suc p) s.1.0 s.1.1 in let y = stands_within Y s.1.0 q s.1.2 in (omega arith, y.1)
    stands_within (beside e X Y) = λ p q s. let x = stands_within X (suc p) s.1.0 s.1.1 in let y = stands_within Y s.1.0 q s.1.2 in (omega arith, y.1)
    stands_within (each e X) = λ p q s. let x = stands_within X (suc p) q s.1 in (omega arith, x.1)
    stands_within (choose e P X Y) = λ p q s.
        let t = test_within P (suc p) s.1.0 s.1.2 in
        let x = stands_within X s.1.0 s.1.1 s.1.3 in
        let y = stands_within Y s.1.1 q s.1.4 in
        (omega arith, y.1)
    stands_within (bind e k X) = λ p q s. let x = stands_within X (suc p) q s.2 in (omega arith, x.1)

    test_within : (P : Test) (p q : ℕ) → StandsTest entries P p q → Within p q
    test_within (compares e equals X) = λ p q s. let x = stands_within X (suc p) q s.1 in (omega arith, x.1)
    test_within (tagged e t) = λ p q s. leaf_within 0x12 p q (λ z. omega arith) s.0.1 s.2
    test_within (is_element e) = λ p q s. leaf_within 0x13 p q (λ z. omega arith) s.0.1 s.1

pub program_placed : (entries : List Entry) (X : Transformation) → read_program entries ≡ gives X → Placed entries X 0 (length entries) most_levels whole_room
unfolding read_program read_in
program_placed entries X h =
    on_bind (transformation_at entries most_levels whole_room 0) _ X h λ x r h₁.
    on_ensure (leb (length entries) x.next) x.next (gives x.tree) X h₁ λ t g.
    let d = read_placed entries most_levels whole_room 0 x r in
    let w = stands_within entries x.tree 0 x.next d.stands in
    let l = leb-true (length entries) x.next t in
    on_gives (λ z. Placed entries z 0 (length entries) most_levels whole_room) x.tree X g
    (subst (λ (q : ℕ). Placed entries x.tree 0 q most_levels whole_room) (let e : x.next ≡ length entries = omega arith in e) d)

pub placed_program : (entries : List Entry) (X : Transformation) → Placed entries X 0 (length entries) most_levels whole_room → read_program entries ≡ gives X
unfolding read_program read_in
placed_program entries X d = rw (placed_read entries X most_levels whole_room 0 (length entries) d, le-leb (length entries) (length entries) (omega arith))
