-- The first fault of a program: reading stops there, and nowhere else.
use Rattle.std.specs.Prelude.{◌≡◌, ◌⊎◌, ◌↔◌, Bool, leb, eqb, Ok}
use Rattle.std.proofs.Math.Path.{refl, ap, subst}
use Rattle.std.proofs.Common.{sym, ◌∙◌, inl, inr, arith}
use Rattle.std.proofs.Math.Bool.{true, false}
use mathlib.Core.List.{List, [], ◌∷◌}
use Prim.Native.Nat.{ℕ, suc, ◌+◌, ◌≤◌, zero, ◌<◌}
use Rattle.std.proofs.Math.Dec.{ltb}
use Rattle.std.proofs.Math.ListN.{length}
use borrow.Author.Tests.{eqb-true, ltb-true, ltb-false, leb-false}
use Rattle.lines.specs.Entries.{Entry, slot_of, rows, row_of, subs_of, class_of}
use Rattle.lines.specs.Entries.{entries as entriesIn}
use Rattle.lines.specs.declared.scan.File.TheVariants.{Program}
use Rattle.lines.specs.Files.{scan}
use Rattle.runs.specs.Results.{gives, Result, stops, ◌>>=◌, ◌>>◌, ensure}
use Rattle.runs.specs.Programs.{Transformation, source, Test, is_element, equals, nothing, text, tag, slot, contents, within, and_then, beside, each}
use Rattle.runs.specs.Programs.{choose, bind, compares, tagged}
use Rattle.runs.specs.Reading.{Room, most_levels, Read, transformation_at, whole_room, read_in, read_program}
use Rattle.runs.specs.Engine.Trees.{entry_at}
use Rattle.runs.specs.Engine.Ends.{stands, end_of, end_below, end_at}
use Rattle.programs.specs.SoundPrograms.{entry, fold, Formed, SoundTo, FirstFault}
use Rattle.programs.specs.Theorems.Sights.{Sight, sights_from, sights, test_sights, Shaped, step_of, To, InTurn, past, sights_past, opens, to_below}
use Rattle.programs.specs.Theorems.Onward.{AheadOf, ends_ahead, end_ahead, ends_so}
use Rattle.programs.specs.Theorems.Built.{Built, built}
use Rattle.programs.proofs.Theorems.SoFar.{to_less, sound_to, to_sound, sound_long, sound_less}
use Rattle.programs.proofs.Theorems.Reading.{program_sound, refused_unsound, scanned_formed}

-- the operand of an 0C or 05 in a tree is its slot byte
plain_shaped : (b : ℕ) (o : List ℕ) → eqb b 0x0C ≡ false → eqb b 0x05 ≡ false → Shaped (entry b o)
plain_shaped b o x y = (λ t. let z : ◌≡◌ {A = ℕ} 0 1 = cc in absurd (omega arith), λ t. let z : ◌≡◌ {A = ℕ} 0 1 = cc in absurd (omega arith))

slot_shaped : (b k : ℕ) → Shaped (entry b (k ∷ []))
unfolding slot_of
slot_shaped b k = (λ t. ap (λ (c : ℕ). entry c (k ∷ [])) (eqb-true b 0x0C t), λ t. ap (λ (c : ℕ). entry c (k ∷ [])) (eqb-true b 0x05 t))

module _ (entries : List Entry) where
  -- ## A tree that is right up to n is not stopped before n

  module _ (n : ℕ) where
    abbrev pub Upto : ℕ → Result ℕ ℕ → Type 0
    Upto q (gives r) = (r ≡ q) ⊎ (n ≤ r)
    Upto q (stops r) = n ≤ r

    upto_past : (q p : ℕ) (r : Result ℕ ℕ) → n ≤ p → AheadOf entries p r → Upto q r
    upto_past q p (gives r) l a = inr (omega arith)
    upto_past q p (stops r) l a = omega arith

    upto_bind : (m q : ℕ) (r : Result ℕ ℕ) (f : ℕ → Result ℕ ℕ) → Upto m r → Upto q (f m) → ((a : ℕ) → AheadOf entries a (f a)) → Upto q (r >>= f)
    upto_bind m q (gives a) f u v h = elim u [ inl e ↦ rw e v | inr l ↦ upto_past q a (f a) l (h a) ]
    upto_bind m q (stops s) f u v h = u

    abbrev Reads : Bool → List Sight → Type 0
    Reads asked ss = (k d : ℕ) (room : Room) (p : ℕ) → d + k ≡ most_levels → To entries n d room ss p → Upto (p + length ss) (end_at entries k room asked p)

    -- so many sub-entries; of three the first is a test
    abbrev ReadsBelow : ℕ → List (List Sight) → Type 0
    ReadsBelow c [] = c ≡ 0
    ReadsBelow c (x ∷ []) = (c ≡ 1) × Reads false x
    ReadsBelow c (x ∷ y ∷ []) = (c ≡ 2) × Reads false x × Reads false y
    ReadsBelow c (x ∷ y ∷ z ∷ []) = (c ≡ 3) × Reads true x × Reads false y × Reads false z
    ReadsBelow c (x ∷ y ∷ z ∷ w ∷ ws) = ⊥

    module _ (k d : ℕ) (room : Room) (l : d + k ≡ most_levels) where
      abbrev ends : ℕ → Result ℕ ℕ
      ends = end_at entries k room false

      abbrev tests : ℕ → Result ℕ ℕ
      tests = end_at entries k room true

      next_ahead : (c a : ℕ) → AheadOf entries a (end_of ends c a)
      next_ahead = ends_ahead entries ends tests (end_ahead entries k room false) (end_ahead entries k room true)

      one_upto : (x : List Sight) → Reads false x → (p : ℕ) → To entries n d room x p → Upto (p + length x) (end_of ends 1 p)
      unfolding end_of
      one_upto x X p a = upto_bind (p + length x) (p + length x) (ends p) (λ q. end_of ends 0 q) (X k d room p l a) (inl refl) (next_ahead 0)

      two_upto : (x y : List Sight) → Reads false x → Reads false y → (p : ℕ) → To entries n d room x p → To entries n d room y (p + length x)
          → Upto (p + length x + length y) (end_of ends 2 p)
      unfolding end_of
      two_upto x y X Y p a b = upto_bind (p + length x) (p + length x + length y) (ends p) (λ q. end_of ends 1 q) (X k d room p l a) (one_upto y Y (p + length x) b) (next_ahead 1)

      below_upto : (c : ℕ) (subs : List (List Sight)) → ReadsBelow c subs → (p : ℕ) → InTurn entries n d room subs p → Upto (past subs p) (end_below ends tests c p)
      unfolding end_below end_of
      below_upto c [] h p a = rw h (inl refl)
      below_upto c (x ∷ []) h p a = rw h.0 (one_upto x h.1 p a.0)
      below_upto c (x ∷ y ∷ []) h p a = rw h.0 (two_upto x y h.1 h.2 p a.0 a.1.0)
      below_upto c (x ∷ y ∷ z ∷ []) h p a = rw h.0
          (upto_bind (p + length x) (p + length x + length y + length z) (tests p) (λ q. end_of ends 2 q) (h.1 k d room p l a.0)
          (two_upto y z h.2 h.3 (p + length x) a.1.0 a.1.1.0) (next_ahead 2))
      below_upto c (x ∷ y ∷ z ∷ w ∷ ws) h p a = absurd h

    node_upto : (asked : Bool) (b : ℕ) (o : List ℕ) (q : ℕ) (subs : List (List Sight)) → Shaped (entry b o) → stands asked (class_of b) ≡ true → ReadsBelow (subs_of b) subs
        → Reads asked (sights_from q (entry b o) subs)
    unfolding end_at
    node_upto asked b o q subs sh st h zero d room p l a = go (ltb p n) refl
      where
        go : (t : Bool) → ltb p n ≡ t → n ≤ p
        go true t = let g = (a.0 (ltb-true p n t)).1.level in absurd (omega arith)
        go false t = ltb-false p n t
    node_upto asked b o q subs sh st h (suc k) d room p l a = go (ltb p n) refl
      where
        go : (t : Bool) → ltb p n ≡ t → Upto (p + length (sights_from q (entry b o) subs)) (end_at entries (suc k) room asked p)
        go false t = upto_past _ p (end_at entries (suc k) room asked p) (ltb-false p n t) (end_ahead entries (suc k) room asked p)
        go true t =
            let g = a.0 (ltb-true p n t) in
            let en : entry_at entries p ≡ entry b o = ap (λ z. z.1) (sym g.0) in
            let r = opens (entry b o) p d room sh g.1 in
            let s = step_of (entry b o) p d room sh r.0 r.1 in
            subst (λ (z : ℕ). Upto z (end_at entries (suc k) room asked p)) (sym (sights_past q (entry b o) subs p))
            (rw (en, r.1, st) (below_upto k (suc d) r.0 (omega arith) (subs_of b) subs h (suc p) (to_below entries n d room r.0 (entry b o) s subs (suc p) a.1)))

    mutual
      unfolding fold stands class_of row_of rows slot_of

      pub tree_upto : (X : Transformation) → Reads false (sights X)
      tree_upto (source e) = node_upto false 0x01 [] e [] (plain_shaped 0x01 [] refl refl) refl refl
      tree_upto (nothing e) = node_upto false 0x02 [] e [] (plain_shaped 0x02 [] refl refl) refl refl
      tree_upto (text e b) = node_upto false 0x03 (length b ∷ b) e [] (plain_shaped 0x03 (length b ∷ b) refl refl) refl refl
      tree_upto (tag e b) = node_upto false 0x04 (length b ∷ b) e [] (plain_shaped 0x04 (length b ∷ b) refl refl) refl refl
      tree_upto (slot e k) = node_upto false 0x05 (k ∷ []) e [] (slot_shaped 0x05 k) refl refl
      tree_upto (contents e) = node_upto false 0x06 [] e [] (plain_shaped 0x06 [] refl refl) refl refl
      tree_upto (within e X) = node_upto false 0x07 [] e (sights X ∷ []) (plain_shaped 0x07 [] refl refl) refl (refl, tree_upto X)
      tree_upto (and_then e X Y) = node_upto false 0x08 [] e (sights X ∷ sights Y ∷ []) (plain_shaped 0x08 [] refl refl) refl (refl, tree_upto X, tree_upto Y)
      tree_upto (beside e X Y) = node_upto false 0x09 [] e (sights X ∷ sights Y ∷ []) (plain_shaped 0x09 [] refl refl) refl (refl, tree_upto X, tree_upto Y)
      tree_upto (each e X) = node_upto false 0x0A [] e (sights X ∷ []) (plain_shaped 0x0A [] refl refl) refl (refl, tree_upto X)
      tree_upto (choose e P X Y) =
          node_upto false 0x0B [] e (test_sights P ∷ sights X ∷ sights Y ∷ []) (plain_shaped 0x0B [] refl refl) refl (refl, test_upto P, tree_upto X, tree_upto Y)
      tree_upto (bind e k X) = node_upto false 0x0C (k ∷ []) e (sights X ∷ []) (slot_shaped 0x0C k) refl (refl, tree_upto X)

      test_upto : (P : Test) → Reads true (test_sights P)
      test_upto (compares e equals X) = node_upto true 0x11 [] e (sights X ∷ []) (plain_shaped 0x11 [] refl refl) refl (refl, tree_upto X)
      test_upto (tagged e t) = node_upto true 0x12 (length t ∷ t) e [] (plain_shaped 0x12 (length t ∷ t) refl refl) refl refl
      test_upto (is_element e) = node_upto true 0x13 [] e [] (plain_shaped 0x13 [] refl refl) refl refl

-- ## The theorems

-- reading stopped in the tree, or behind it
record Behind (entries : List Entry) (p : ℕ) : Type 0 where
  whole : Read Transformation
  read_whole : transformation_at entries most_levels whole_room 0 ≡ gives whole
  place : whole.next ≡ p
  left : p < length entries

stopped : (entries : List Entry) (p : ℕ) → read_program entries ≡ stops p → (transformation_at entries most_levels whole_room 0 ≡ stops p) ⊎ Behind entries p
unfolding read_program read_in
stopped entries p h = go (transformation_at entries most_levels whole_room 0) refl h
  where
    behind : (x : Read Transformation) → transformation_at entries most_levels whole_room 0 ≡ gives x → (t : Bool) → leb (length entries) x.next ≡ t
        → (ensure t x.next >> gives x.tree) ≡ stops p → Behind entries p
    behind x e true t g = let z : ◌≡◌ {A = ℕ} 0 1 = cc in absurd (omega arith)
    behind x e false t g = let q : x.next ≡ p = cc in let l = leb-false (length entries) x.next t in record { whole = x; read_whole = e; place = q; left = omega arith }

    go : (r : Result ℕ (Read Transformation)) → transformation_at entries most_levels whole_room 0 ≡ r
        → (r >>= λ x. ensure (leb (length entries) x.next) x.next >> gives x.tree) ≡ stops p
        → (transformation_at entries most_levels whole_room 0 ≡ stops p) ⊎ Behind entries p
    go (gives x) e g = inr (behind x e (leb (length entries) x.next) refl g)
    go (stops s) e g = inl (e ∙ cc)

module _ (entries : List Entry) where
  stopped_before : Formed entries → (p : ℕ) → read_program entries ≡ stops p → (X : Transformation) × SoundTo p entries X
  stopped_before formed p h = elim (stopped entries p h) [
    | inl e ↦
        let b : Built entries 0 whole_room 0 sights (stops p) = rw e at (built entries formed most_levels 0 whole_room 0 refl) in
        let a : AheadOf entries 0 (stops p) = rw (ends_so entries (stops p) e) at (end_ahead entries most_levels whole_room false 0) in
        (b.0, to_sound entries b.0 p (let l = b.2 in omega arith) (a.1 (omega arith)) (to_less entries 0 whole_room (0 + p) p (sights b.0) 0 (omega arith) b.1))
    | inr k ↦
        let b : Built entries 0 whole_room 0 sights (gives k.whole) = rw k.read_whole at (built entries formed most_levels 0 whole_room 0 refl) in
        let l = b.1 in
        let m = k.place in
        let n = k.left in
        (k.whole.tree, to_sound entries k.whole.tree p (omega arith) (omega arith) (b.0 (0 + p)))
  ]

  stopped_here : (p : ℕ) → read_program entries ≡ stops p → (X : Transformation) → SoundTo (suc p) entries X → ⊥
  stopped_here p h X s =
      let u = tree_upto entries (0 + suc p) X most_levels 0 whole_room 0 refl (sound_to entries X (suc p) s) in
      let l = sound_long entries X (suc p) s in
      elim (stopped entries p h) [
        | inl e ↦
            let v : Upto entries (0 + suc p) (0 + length (sights X)) (stops p) = rw (ends_so entries (stops p) e) at u in
            omega arith
        | inr k ↦
            let v : Upto entries (0 + suc p) (0 + length (sights X)) (gives k.whole.next) = rw (ends_so entries (gives k.whole) k.read_whole) at u in
            let m = k.place in
            elim v [ inl a ↦ omega arith | inr b ↦ omega arith ]
      ]

  pub stops_first : Formed entries → (p : ℕ) → read_program entries ≡ stops p → FirstFault entries p
  stops_first formed p h = record { unsound = refused_unsound entries p h; before = stopped_before formed p h; here = stopped_here p h }

  -- a program has one first fault at most
  not_before : (p q : ℕ) → FirstFault entries p → FirstFault entries q → p < q → ⊥
  not_before p q f g l = f.here g.before.0 (sound_less entries g.before.0 (suc p) q l g.before.1)

  pub one_fault : (p q : ℕ) → FirstFault entries p → FirstFault entries q → p ≡ q
  one_fault p q f g = go (ltb p q) (ltb q p) refl refl
    where
      go : (x y : Bool) → ltb p q ≡ x → ltb q p ≡ y → p ≡ q
      go true y a b = absurd (not_before p q f g (ltb-true p q a))
      go false true a b = absurd (not_before q p g f (ltb-true q p b))
      go false false a b = let c = ltb-false p q a in let d = ltb-false q p b in omega arith

  pub first_stops : Formed entries → (p : ℕ) → FirstFault entries p → read_program entries ≡ stops p
  first_stops formed p f = go (read_program entries) refl
    where
      go : (r : Result ℕ Transformation) → read_program entries ≡ r → r ≡ stops p
      go (gives X) e = absurd (f.unsound X (program_sound entries X formed e))
      go (stops q) e = ap stops (one_fault q p (stops_first formed q e) f)

pub file_fault : (s : List ℕ) (n : ℕ) → scan Program s ≡ Ok n → (p : ℕ) → (read_program (entriesIn s) ≡ stops p) ↔ FirstFault (entriesIn s) p
file_fault s n e p = (stops_first (entriesIn s) (scanned_formed s n e) p, first_stops (entriesIn s) (scanned_formed s n e) p)
