-- Reading without the tree ends where the tree that is read ends, and faults where it faults.
use Rattle.std.specs.Prelude.{◌≡◌, Bool, true, false, List, ℕ, zero, suc, leb, get_or, length}
use Rattle.std.proofs.Math.Path.{refl, fun_ext}
use Rattle.std.proofs.Common.{ap, ◌∙◌}
use Rattle.lines.specs.Entries.{Entry}
use Rattle.runs.specs.Results.{Result, gives, stops, ◌>>=◌, ◌>>◌, ensure}
use Rattle.runs.specs.Programs.{Transformation, Test}
use Rattle.runs.specs.Reading.{Makes, leaf, one, two, choice, test_leaf, test_one, unknown, makes, Room, below, Read, read, Reader}
use Rattle.runs.specs.Reading.{transformation_from, test_from, no_entry, transformation_at, test_at, most_levels, whole_room, read_in, read_program, fault_of}
use Rattle.runs.specs.Theorems.Congruence.{bind_same}
use Rattle.runs.specs.Theorems.Table.{sub_entries, class_made, reads_sub_entries, reads_class}
use Rattle.runs.specs.Engine.Ends.{stands, end_of, end_below, end_at}

-- ## It is where the tree that is read ends

-- what was read, without its tree
abbrev pub end : {A : Type 0} → Result ℕ (Read A) → Result ℕ ℕ
end r = r >>= λ x. gives x.next

end_bind : {A B : Type 0} (r : Result ℕ A) (f : A → Result ℕ (Read B)) → end (r >>= f) ≡ (r >>= λ a. end (f a))
end_bind (gives a) f = refl
end_bind (stops p) f = refl

one_end : {A B : Type 0} (r : Result ℕ (Read A)) (f : A → B) → end (r >>= λ x. read (f x.tree) x.next) ≡ (end r >>= λ q. gives q)
one_end (gives x) f = refl
one_end (stops p) f = refl

two_end : {A B : Type 0} (r : Result ℕ (Read A)) (sub : Reader A) (f : A → A → B)
    → end (r >>= λ x. sub x.next >>= λ y. read (f x.tree y.tree) y.next) ≡ (end r >>= λ q. end (sub q) >>= λ q. gives q)
two_end (gives x) sub f = one_end (sub x.next) (f x.tree)
two_end (stops p) sub f = refl

three_end : {A B C : Type 0} (r : Result ℕ (Read A)) (sub : Reader B) (f : A → B → B → C)
    → end (r >>= λ t. sub t.next >>= λ x. sub x.next >>= λ y. read (f t.tree x.tree y.tree) y.next)
    ≡ (end r >>= λ q. end (sub q) >>= λ q. end (sub q) >>= λ q. gives q)
three_end (gives t) sub f = two_end (sub t.next) sub (f t.tree)
three_end (stops p) sub f = refl

module _ (sub : Reader Transformation) (subTest : Reader Test) (p : ℕ) where
  transformation_end : (m : Makes) → end (transformation_from sub subTest m p)
      ≡ (ensure (stands false (class_made m)) p >> end_below (λ q. end (sub q)) (λ q. end (subTest q)) (sub_entries m) (suc p))
  unfolding transformation_from stands class_made sub_entries end_below end_of
  transformation_end (leaf t) = refl
  transformation_end (one f) = one_end (sub (suc p)) f
  transformation_end (two f) = two_end (sub (suc p)) sub f
  transformation_end (choice f) = three_end (subTest (suc p)) sub f
  transformation_end (test_leaf t) = refl
  transformation_end (test_one f) = refl
  transformation_end unknown = refl

  test_end : (m : Makes) → end (test_from sub m p)
      ≡ (ensure (stands true (class_made m)) p >> end_below (λ q. end (sub q)) (λ q. end (subTest q)) (sub_entries m) (suc p))
  unfolding test_from stands class_made sub_entries end_below end_of
  test_end (leaf t) = refl
  test_end (one f) = refl
  test_end (two f) = refl
  test_end (choice f) = refl
  test_end (test_leaf t) = refl
  test_end (test_one f) = one_end (sub (suc p)) f
  test_end unknown = refl

module _ (entries : List Entry) where
  mutual
    unfolding transformation_at end_at

    pub ends_transformation : (k : ℕ) (room : Room) → (λ p. end (transformation_at entries k room p)) ≡ end_at entries k room false
    ends_transformation zero room = fun_ext (λ p. refl)
    ends_transformation (suc k) room = fun_ext λ p.
        let e = get_or entries p no_entry in
        end_bind (below e p room) _ ∙ bind_same (below e p room) (below e p room) _ _ refl λ inner _.
        transformation_end (transformation_at entries k inner) (test_at entries k inner) p (makes e p)
        ∙ rw (reads_class e p, reads_sub_entries e p, ends_transformation k inner, ends_test k inner)

    pub ends_test : (k : ℕ) (room : Room) → (λ p. end (test_at entries k room p)) ≡ end_at entries k room true
    ends_test zero room = fun_ext (λ p. refl)
    ends_test (suc k) room = fun_ext λ p.
        let e = get_or entries p no_entry in
        end_bind (below e p room) _ ∙ bind_same (below e p room) (below e p room) _ _ refl λ inner _.
        test_end (transformation_at entries k inner) (test_at entries k inner) p (makes e p)
        ∙ rw (reads_class e p, reads_sub_entries e p, ends_transformation k inner, ends_test k inner)

-- the whole program: its fault, by the table alone
pub fault_by_table : (entries : List Entry)
    → fault_of (read_program entries) ≡ fault_of (end_at entries most_levels whole_room false 0 >>= λ q. ensure (leb (length entries) q) q)
unfolding read_program read_in fault_of
fault_by_table entries =
    go (transformation_at entries most_levels whole_room 0)
    ∙ ap (λ (f : ℕ → Result ℕ ℕ). fault_of (f 0 >>= λ q. ensure (leb (length entries) q) q)) (ends_transformation entries most_levels whole_room)
  where
    left : (b : Bool) (q : ℕ) (X : Transformation) → fault_of (ensure b q >> gives X) ≡ fault_of (ensure b q)
    left true q X = refl
    left false q X = refl

    go : (r : Result ℕ (Read Transformation))
        → fault_of (r >>= λ x. ensure (leb (length entries) x.next) x.next >> gives x.tree) ≡ fault_of (end r >>= λ q. ensure (leb (length entries) q) q)
    go (gives x) = left (leb (length entries) x.next) x.next x.tree
    go (stops p) = refl
