-- What reading builds: a tree whose entries are there, each with a way that keeps the room; and so up to where it stops.
use Rattle.std.specs.Prelude.{◌≡◌, ℕ, suc, ◌+◌, ◌≤◌, zero, length, Some}
use Rattle.std.proofs.Math.Path.{refl, ap}
use Rattle.std.proofs.Common.{sym, ◌∙◌, subst, eqb-true}
use mathlib.Core.List.{List, [], ◌∷◌, ◌++◌}
use native.Mathlib.Omega.{arith}
use Rattle.lines.specs.Entries.{Entry, slot_of, rows, row_of, operand_shape, text_of}
use Rattle.lines.specs.declared.table.Shape.TheVariants.{Nothing, Text, Tag, Slot}
use Rattle.runs.specs.Results.{gives, Result, stops, ◌>>=◌}
use Rattle.runs.specs.Programs.{Transformation, source, Test, is_element}
use Rattle.runs.specs.Reading.{Room, most_levels, below, Makes, leaf, one, two, choice, test_leaf, test_one, unknown, Row, operations, makes, Read, read}
use Rattle.runs.specs.Reading.{Reader, transformation_from, test_from, transformation_at, test_at}
use Rattle.runs.specs.Engine.Trees.{entry_at}
use Rattle.programs.specs.SoundPrograms.{entry, fold, Placing, Formed}
use Rattle.runs.specs.Theorems.Soundness.{◌▹◌, Rows, at_row}
use Rattle.programs.specs.Theorems.Ways.{keeps_none}
use Rattle.programs.specs.Theorems.Prefix.{shape_of, plain_line, slot_line, text_line, tag_line}
use Rattle.programs.specs.Theorems.Sights.{Sight, sights_from, sights, test_sights, Shaped, Steps, step_of, To, InTurn, to_past, below_to, past, sights_past}
use Rattle.programs.specs.Theorems.Onward.{after, below_place}

-- ## Where reading stops, what stands before belongs to a tree

in_turn_append : (entries : List Entry) (n d : ℕ) (room : Room) (xs ys : List (List Sight)) (p : ℕ)
    → InTurn entries n d room xs p → InTurn entries n d room ys (past xs p) → InTurn entries n d room (xs ++ ys) p
in_turn_append entries n d room [] ys p a b = b
in_turn_append entries n d room (x ∷ xs) ys p a b = (a.0, in_turn_append entries n d room xs ys (p + length x) a.1 b)

past_append : (xs ys : List (List Sight)) (p : ℕ) → past (xs ++ ys) p ≡ past ys (past xs p)
past_append [] ys p = refl
past_append (x ∷ xs) ys p = past_append xs ys (p + length x)

module _ (entries : List Entry) (p : ℕ) where
  -- the sights of an entry and of those below it
  abbrev sights_at : List (List Sight) → List Sight
  sights_at subs = sights_from p (entry_at entries p) subs

  -- the tree that an entry makes has its sub-entries' sights below its own
  abbrev Folds : Makes → Type 0
  Folds (leaf t) = sights t ≡ sights_at []
  Folds (one f) = (X : Transformation) → sights (f X) ≡ sights_at (sights X ∷ [])
  Folds (two f) = (X Y : Transformation) → sights (f X Y) ≡ sights_at (sights X ∷ sights Y ∷ [])
  Folds (choice f) = (P : Test) (X Y : Transformation) → sights (f P X Y) ≡ sights_at (test_sights P ∷ sights X ∷ sights Y ∷ [])
  Folds (test_leaf t) = test_sights t ≡ sights_at []
  Folds (test_one f) = (X : Transformation) → test_sights (f X) ≡ sights_at (sights X ∷ [])
  Folds unknown = Unit {0}

module _ (entries : List Entry) where
  module _ (d : ℕ) (room : Room) (p : ℕ) {A : Type 0} (seen : A → List Sight) where
    -- what is given is there and keeps the room; what stands before a stop is begun so
    abbrev pub Built : Result ℕ (Read A) → Type 0
    Built (gives x) = ((n : ℕ) → To entries n d room (seen x.tree) p) × (x.next ≡ p + length (seen x.tree))
    Built (stops s) = (X : A) × To entries s d room (seen X) p × (s ≤ p + length (seen X))

    built_here : A → Built (stops p)
    built_here t = (t, to_past entries p d room (seen t) p (omega arith), omega arith)

    on_built : {B : Type 0} (P : Result ℕ B → Type 0) (r : Result ℕ (Read A)) (f : Read A → Result ℕ B) → Built r
        → ((x : Read A) → Built (gives x) → P (f x)) → ((s : ℕ) → Built (stops s) → P (stops s)) → P (r >>= f)
    on_built P (gives x) f b g h = g x b
    on_built P (stops s) f b g h = h s b

  module _ (d : ℕ) (room inner : Room) (p : ℕ) (low : suc d ≤ most_levels) (step : Steps (entry_at entries p) d room inner) where
    made : (n : ℕ) (subs : List (List Sight)) → InTurn entries n (suc d) inner subs (suc p) → To entries n d room (sights_at entries p subs) p
    made n subs a = (λ l. (refl, step.up [] (keeps_none (suc d) inner low)), below_to entries n d room inner (entry_at entries p) step subs (suc p) a)

    module _ {A : Type 0} (seen : A → List Sight) where
      full : (t : A) (q : ℕ) (subs : List (List Sight)) → seen t ≡ sights_at entries p subs
          → ((n : ℕ) → InTurn entries n (suc d) inner subs (suc p)) → q ≡ past subs (suc p) → Built d room p seen (read t q)
      full t q subs e a h = (λ n. rw e (made n subs (a n)), rw e (h ∙ sym (sights_past p (entry_at entries p) subs p)))

      part : (t : A) (s : ℕ) (subs : List (List Sight)) → seen t ≡ sights_at entries p subs
          → InTurn entries s (suc d) inner subs (suc p) → s ≤ past subs (suc p) → Built d room p seen (stops s)
      part t s subs e a h = (t, rw e (made s subs a), rw e (let z = sights_past p (entry_at entries p) subs p in omega arith))

    module _ (sub : Reader Transformation) (subTest : Reader Test)
        (S : (q : ℕ) → Built (suc d) inner q sights (sub q)) (T : (q : ℕ) → Built (suc d) inner q test_sights (subTest q)) where
      one_built : {A : Type 0} (seen : A → List Sight) (f : Transformation → A) → ((X : Transformation) → seen (f X) ≡ sights_at entries p (sights X ∷ []))
          → Built d room p seen (sub (suc p) >>= λ x. read (f x.tree) x.next)
      one_built seen f F = on_built (suc d) inner (suc p) sights (Built d room p seen) (sub (suc p)) _ (S (suc p))
          (λ x b. full seen (f x.tree) x.next (sights x.tree ∷ []) (F x.tree) (λ n. (b.0 n, tt)) b.1)
          (λ s b. part seen (f b.0) s (sights b.0 ∷ []) (F b.0) (b.1, tt) b.2)

      -- two transformations behind what is read already
      pair_built : (front : List (List Sight)) (m : ℕ) → ((n : ℕ) → InTurn entries n (suc d) inner front (suc p)) → m ≡ past front (suc p)
          → (f : Transformation → Transformation → Transformation)
          → ((X Y : Transformation) → sights (f X Y) ≡ sights_at entries p (front ++ (sights X ∷ sights Y ∷ [])))
          → Built d room p sights (sub m >>= λ x. sub x.next >>= λ y. read (f x.tree y.tree) y.next)
      pair_built front m a e f F = on_built (suc d) inner m sights (Built d room p sights) (sub m) _ (S m)
          (λ x b. on_built (suc d) inner x.next sights (Built d room p sights) (sub x.next) _ (S x.next)
          (λ y c. full sights (f x.tree y.tree) y.next (front ++ (sights x.tree ∷ sights y.tree ∷ [])) (F x.tree y.tree)
          (λ n. joined x.tree y.tree n (b.0 n) (moved x.tree y.tree x.next n b.1 (c.0 n)))
          (let z = ending x.tree y.tree in let u = b.1 in let v = c.1 in omega arith))
          (λ s c. part sights (f x.tree c.0) s (front ++ (sights x.tree ∷ sights c.0 ∷ [])) (F x.tree c.0)
          (joined x.tree c.0 s (b.0 s) (moved x.tree c.0 x.next s b.1 c.1))
          (let z = ending x.tree c.0 in let u = b.1 in let v = c.2 in omega arith)))
          (λ s b. part sights (f b.0 (source 0)) s (front ++ (sights b.0 ∷ sights (source 0) ∷ [])) (F b.0 (source 0))
          (joined b.0 (source 0) s b.1 (to_past entries s (suc d) inner (sights (source 0)) (m + length (sights b.0)) b.2))
          (let z = ending b.0 (source 0) in let v = b.2 in omega arith))
        where
          joined : (X Y : Transformation) (n : ℕ) → To entries n (suc d) inner (sights X) m → To entries n (suc d) inner (sights Y) (m + length (sights X))
              → InTurn entries n (suc d) inner (front ++ (sights X ∷ sights Y ∷ [])) (suc p)
          joined X Y n x y = in_turn_append entries n (suc d) inner front (sights X ∷ sights Y ∷ []) (suc p) (a n)
              (subst (λ (z : ℕ). InTurn entries n (suc d) inner (sights X ∷ sights Y ∷ []) z) e (x, (y, tt)))

          moved : (X Y : Transformation) (q n : ℕ) → q ≡ m + length (sights X) → To entries n (suc d) inner (sights Y) q
              → To entries n (suc d) inner (sights Y) (m + length (sights X))
          moved X Y q n h t = subst (λ (z : ℕ). To entries n (suc d) inner (sights Y) z) h t

          ending : (X Y : Transformation) → past (front ++ (sights X ∷ sights Y ∷ [])) (suc p) ≡ m + length (sights X) + length (sights Y)
          ending X Y = past_append front (sights X ∷ sights Y ∷ []) (suc p) ∙ ap (λ (z : ℕ). z + length (sights X) + length (sights Y)) (sym e)

      built_transformation : (m : Makes) → Folds entries p m → Built d room p sights (transformation_from sub subTest m p)
      unfolding transformation_from
      built_transformation (leaf t) F = full sights t (suc p) [] F (λ n. tt) refl
      built_transformation (one f) F = one_built sights f F
      built_transformation (two f) F = pair_built [] (suc p) (λ n. tt) refl f F
      built_transformation (choice f) F = on_built (suc d) inner (suc p) test_sights (Built d room p sights) (subTest (suc p)) _ (T (suc p))
          (λ t b. pair_built (test_sights t.tree ∷ []) t.next (λ n. (b.0 n, tt)) b.1 (f t.tree) (F t.tree))
          (λ s b. let l = b.2 in part sights (f b.0 (source 0) (source 0)) s (test_sights b.0 ∷ sights (source 0) ∷ sights (source 0) ∷ []) (F b.0 (source 0) (source 0))
          (b.1, (to_past entries s (suc d) inner (sights (source 0)) _ l, (to_past entries s (suc d) inner (sights (source 0)) _ (omega arith), tt))) (omega arith))
      built_transformation (test_leaf t) F = built_here d room p sights (source 0)
      built_transformation (test_one f) F = built_here d room p sights (source 0)
      built_transformation unknown F = built_here d room p sights (source 0)

      built_test : (m : Makes) → Folds entries p m → Built d room p test_sights (test_from sub m p)
      unfolding test_from
      built_test (test_leaf t) F = full test_sights t (suc p) [] F (λ n. tt) refl
      built_test (test_one f) F = one_built test_sights f F
      built_test (leaf t) F = built_here d room p test_sights (is_element 0)
      built_test (one f) F = built_here d room p test_sights (is_element 0)
      built_test (two f) F = built_here d room p test_sights (is_element 0)
      built_test (choice f) F = built_here d room p test_sights (is_element 0)
      built_test unknown F = built_here d room p test_sights (is_element 0)

-- ## Entries that have their form

module _ (entries : List Entry) (formed : Formed entries) where
  module _ (p : ℕ) where
    same_sights : (e : Entry) → ◌≡◌ {A = Placing} (p, e) (p, entry_at entries p) → (subs : List (List Sight)) → sights_from p e subs ≡ sights_at entries p subs
    same_sights e h subs = ap (λ (l : Placing). sights_from l.0 l.1 subs) h

    plain_sights : (b : ℕ) → operand_shape b ≡ Some Nothing → (0 ≡ b → ⊥) → (entry_at entries p).operation ≡ b → (subs : List (List Sight))
        → sights_from p (entry b []) subs ≡ sights_at entries p subs
    plain_sights b r some o = same_sights (entry b []) (plain_line entries formed b p p r some (refl, o))

    slot_is : (b : ℕ) → operand_shape b ≡ Some Slot → (0 ≡ b → ⊥) → (entry_at entries p).operation ≡ b
        → ◌≡◌ {A = Placing} (p, entry b (slot_of (entry_at entries p) ∷ [])) (p, entry_at entries p)
    slot_is b r some o = slot_line entries formed b p p (slot_of (entry_at entries p)) r some (refl, o) refl

    text_is : (b : ℕ) → operand_shape b ≡ Some Text → (0 ≡ b → ⊥) → (entry_at entries p).operation ≡ b
        → ◌≡◌ {A = Placing} (p, entry b (length (text_of (entry_at entries p)) ∷ text_of (entry_at entries p))) (p, entry_at entries p)
    text_is b r some o = text_line entries formed b p p (text_of (entry_at entries p)) (shape_of entries formed (Some Text) b p p r some (refl, o)) (refl, o) refl

    tag_is : (b : ℕ) → operand_shape b ≡ Some Tag → (0 ≡ b → ⊥) → (entry_at entries p).operation ≡ b
        → ◌≡◌ {A = Placing} (p, entry b (length (text_of (entry_at entries p)) ∷ text_of (entry_at entries p))) (p, entry_at entries p)
    tag_is b r some o = tag_line entries formed b p p (text_of (entry_at entries p)) r some (refl, o) refl

    abbrev RowFolds : ℕ → Row → Type 0
    RowFolds b row = (entry_at entries p).operation ≡ b → Folds entries p (row p (entry_at entries p))

    rows_fold : Rows RowFolds 0 operations
    unfolding operations fold row_of rows
    rows_fold =
        (λ o. tt) ▹  -- 00
        (λ o. plain_sights 0x01 refl (λ z. omega arith) o []) ▹  -- 01
        (λ o. plain_sights 0x02 refl (λ z. omega arith) o []) ▹  -- 02
        (λ o. same_sights _ (text_is 0x03 refl (λ z. omega arith) o) []) ▹  -- 03
        (λ o. same_sights _ (tag_is 0x04 refl (λ z. omega arith) o) []) ▹  -- 04
        (λ o. same_sights _ (slot_is 0x05 refl (λ z. omega arith) o) []) ▹  -- 05
        (λ o. plain_sights 0x06 refl (λ z. omega arith) o []) ▹  -- 06
        (λ o X. plain_sights 0x07 refl (λ z. omega arith) o (sights X ∷ [])) ▹  -- 07
        (λ o X Y. plain_sights 0x08 refl (λ z. omega arith) o (sights X ∷ sights Y ∷ [])) ▹  -- 08
        (λ o X Y. plain_sights 0x09 refl (λ z. omega arith) o (sights X ∷ sights Y ∷ [])) ▹  -- 09
        (λ o X. plain_sights 0x0A refl (λ z. omega arith) o (sights X ∷ [])) ▹  -- 0A
        (λ o P X Y. plain_sights 0x0B refl (λ z. omega arith) o (test_sights P ∷ sights X ∷ sights Y ∷ [])) ▹  -- 0B
        (λ o X. same_sights _ (slot_is 0x0C refl (λ z. omega arith) o) (sights X ∷ [])) ▹  -- 0C
        (λ o. tt) ▹  -- 0D
        (λ o. tt) ▹  -- 0E
        (λ o. tt) ▹  -- 0F
        (λ o. tt) ▹  -- 10
        (λ o X. plain_sights 0x11 refl (λ z. omega arith) o (sights X ∷ [])) ▹  -- 11
        (λ o. same_sights _ (tag_is 0x12 refl (λ z. omega arith) o) []) ▹  -- 12
        (λ o. plain_sights 0x13 refl (λ z. omega arith) o []) ▹  -- 13
        tt

    makes_fold : Folds entries p (makes (entry_at entries p) p)
    unfolding makes
    makes_fold =
        let b = (entry_at entries p).operation in
        at_row RowFolds 0 operations rows_fold (λ b o. tt) b (let e : b ≡ 0 + b = omega arith in e)

    shaped_at : Shaped (entry_at entries p)
    unfolding row_of rows
    shaped_at = (
      λ t. ap (λ (l : Placing). l.1) (sym (slot_is 0x0C refl (λ z. omega arith) (eqb-true (entry_at entries p).operation 0x0C t))),
      λ t. ap (λ (l : Placing). l.1) (sym (slot_is 0x05 refl (λ z. omega arith) (eqb-true (entry_at entries p).operation 0x05 t))),
    )

  -- at an entry: its room, or the stop there
  entry_built : {A : Type 0} (seen : A → List Sight) → A → (f : Room → Result ℕ (Read A)) (d : ℕ) (room : Room) (p : ℕ)
      → ((inner : Room) → Steps (entry_at entries p) d room inner → Built entries d room p seen (f inner)) → Built entries d room p seen (below (entry_at entries p) p room >>= f)
  entry_built seen t f d room p g =
      after (Built entries d room p seen) (below (entry_at entries p) p room) f
      (λ inner e. g inner (step_of (entry_at entries p) p d room (shaped_at p) inner e))
      (λ s e. subst (λ (z : ℕ). Built entries d room p seen (stops z)) (sym (below_place (entry_at entries p) p s room e)) (built_here entries d room p seen t))

  mutual
    unfolding transformation_at

    pub built : (k d : ℕ) (room : Room) (p : ℕ) → d + k ≡ most_levels → Built entries d room p sights (transformation_at entries k room p)
    built zero d room p l = built_here entries d room p sights (source 0)
    built (suc k) d room p l = entry_built sights (source 0) _ d room p λ inner s.
        built_transformation entries d room inner p (omega arith) s (transformation_at entries k inner) (test_at entries k inner)
        (λ q. built k (suc d) inner q (omega arith)) (λ q. built_tests k (suc d) inner q (omega arith)) (makes (entry_at entries p) p) (makes_fold p)

    built_tests : (k d : ℕ) (room : Room) (p : ℕ) → d + k ≡ most_levels → Built entries d room p test_sights (test_at entries k room p)
    built_tests zero d room p l = built_here entries d room p test_sights (is_element 0)
    built_tests (suc k) d room p l = entry_built test_sights (is_element 0) _ d room p λ inner s.
        built_test entries d room inner p (omega arith) s (transformation_at entries k inner) (test_at entries k inner)
        (λ q. built k (suc d) inner q (omega arith)) (λ q. built_tests k (suc d) inner q (omega arith)) (makes (entry_at entries p) p) (makes_fold p)
