-- Words stand for nodes and standings: what is done to the words is done to what they stand for.
use Rattle.std.specs.Prelude.{◌≡◌, Bool, ◌&&◌, leb, length, get_or, take}
use Rattle.std.proofs.Math.Path.{refl, ap, ap₂}
use Rattle.std.proofs.Common.{sym, ◌∙◌, sub-one}
use Rattle.std.proofs.Math.Bool.{true, false, cond}
use mathlib.Core.List.{List, [], ◌∷◌, ◌++◌, map}
use Prim.Native.Nat.{ℕ, suc, pred, ◌+◌, ◌-◌, ◌/◌, ◌%◌, ◌≤◌, ◌<◌}
use Rattle.std.proofs.Math.Numerals.{lt_of_le_of_ne}
use native.Mathlib.Omega.{arith}
use Rattle.std.proofs.Math.Dec.{eqb, ltb}
use Rattle.std.proofs.lemmas.List.{map-append}
use Rattle.std.proofs.Math.ListN.{length-map}
use borrow.Author.Tests.{ltb-true, ltb-false, lt-ltb, le-ltb, eqb-true, eqb-false, eq-eqb, ne_eqb, leb-true}
use Rattle.lines.specs.Texts.{same_text}
use Rattle.lines.specs.Theorems.Bools.{and_left, and_right}
use Rattle.lines.specs.Theorems.SameTexts.{same_text_comm}
use Rattle.values.specs.Values.{Node, Value, is_top, lowered, raised, shallow}
use Rattle.values.specs.Standings.{Standing, untouched, locked, changed, deleted, clash, sort, new_text, is_untouched, same_standing, ◌⋓◌, merged}
use Rattle.values.specs.Engine.Words.{part, Made, origin_of, node_of, value_at, lowered_word, raised_word, standing_of, standings_at, Named, AllNamed, merged_word, merged_words}
use Rattle.values.proofs.Theorems.MergeLaws.{same_refl}
use Rattle.values.specs.Theorems.Extents.{length_part, part_join, part_cons, frame_part}

-- ## Extents of nodes

module _ (made : Made) where
  pub length_value : (w : List ℕ) (start len : ℕ) → start + len ≤ length w → length (value_at made w start len) ≡ len
  unfolding value_at
  length_value w start len h = length-map (part w start len) (node_of made) ∙ length_part w start len h

  pub value_none : (w : List ℕ) (start : ℕ) → value_at made w start 0 ≡ []
  unfolding value_at
  value_none w start = refl

  pub value_join : (w : List ℕ) (start a b : ℕ) → value_at made w start (a + b) ≡ value_at made w start a ++ value_at made w (start + a) b
  unfolding value_at
  value_join w start a b = rw (part_join w start a b) (map-append (node_of made) (part w start a) (part w (start + a) b))

  pub value_cons : (w : List ℕ) (start len : ℕ) → start + len < length w → value_at made w start (len + 1) ≡ node_of made (get_or w start 0) ∷ value_at made w (start + 1) len
  unfolding value_at
  value_cons w start len h = rw (part_cons w start len h)

  pub value_frame : (w w' : List ℕ) (top start len : ℕ) → take top w' ≡ take top w → start + len ≤ top → value_at made w' start len ≡ value_at made w start len
  unfolding value_at
  value_frame w w' top start len f h = ap (map (node_of made)) (frame_part w w' top start len f h)

  -- a top node is a word below 1 0000
  pub top_word : (x : ℕ) → is_top (node_of made x) ≡ ltb x 0x10000
  unfolding is_top node_of
  top_word x = go (ltb x 0x10000) refl
    where
      go : (t : Bool) → ltb x 0x10000 ≡ t → eqb (x / 0x10000) 0 ≡ ltb x 0x10000
      go true e = let h = ltb-true x 0x10000 e in rw (e, eq-eqb (x / 0x10000) 0 (omega arith))
      go false e = let h = ltb-false x 0x10000 e in rw (e, ne_eqb (x / 0x10000) 0 (λ z. omega arith))

  lowered_node : (x : ℕ) → node_of made (lowered_word x) ≡ record { depth = pred (node_of made x).depth; origin = (node_of made x).origin }
  unfolding node_of lowered_word
  lowered_node x = go (ltb x 0x10000) refl
    where
      go : (t : Bool) → ltb x 0x10000 ≡ t → node_of made (cond t x (x - 0x10000)) ≡ record { depth = pred (x / 0x10000); origin = origin_of made (x % 0x10000) }
      go true e =
          let h = ltb-true x 0x10000 e in
          let d : x / 0x10000 ≡ pred (x / 0x10000) = rw (← sub-one) (omega arith) in
          λ i. record { depth = d i; origin = origin_of made (x % 0x10000) }
      go false e =
          let h = ltb-false x 0x10000 e in
          let d : (x - 0x10000) / 0x10000 ≡ pred (x / 0x10000) = rw (← sub-one) (omega arith) in
          let o : (x - 0x10000) % 0x10000 ≡ x % 0x10000 = omega arith in
          λ i. record { depth = d i; origin = origin_of made (o i) }

  pub lowered_words : (l : List ℕ) → map (node_of made) (map lowered_word l) ≡ lowered (map (node_of made) l)
  unfolding lowered
  lowered_words [] = refl
  lowered_words (x ∷ l) = ap₂ (λ (a : Node) (r : Value). a ∷ r) (lowered_node x) (lowered_words l)

  raised_node : (x : ℕ) → x < 0xFFFF0000 → node_of made (raised_word x) ≡ record { depth = suc (node_of made x).depth; origin = (node_of made x).origin }
  unfolding node_of raised_word
  raised_node x h =
      let d : (x + 0x10000) / 0x10000 ≡ suc (x / 0x10000) = omega arith in
      let o : (x + 0x10000) % 0x10000 ≡ x % 0x10000 = omega arith in
      rw (lt-ltb x 0xFFFF0000 h) (λ i. record { depth = d i; origin = origin_of made (o i) })

  word_room : (x : ℕ) → (node_of made x).depth ≤ 9 → x < 0xFFFF0000
  unfolding node_of
  word_room x h = omega arith

  -- where depths are within the bound there is room for one more
  pub raised_words : (l : List ℕ) → shallow (map (node_of made) l) ≡ true → map (node_of made) (map raised_word l) ≡ raised (map (node_of made) l)
  unfolding raised shallow
  raised_words [] e = refl
  raised_words (x ∷ l) e =
      ap₂ (λ (a : Node) (r : Value). a ∷ r) (raised_node x (word_room x (leb-true _ 9 (and_left (leb (node_of made x).depth 9) _ e))))
      (raised_words l (and_right (leb (node_of made x).depth 9) _ e))

-- ## Standings

module _ (texts : ℕ → List ℕ) where
  pub standings_frame : (w w' : List ℕ) (top start len : ℕ) → take top w' ≡ take top w → start + len ≤ top → standings_at texts w' start len ≡ standings_at texts w start len
  unfolding standings_at
  standings_frame w w' top start len f h = ap (map (standing_of texts)) (frame_part w w' top start len f h)

  pub standings_join : (w : List ℕ) (start a b : ℕ) → standings_at texts w start (a + b) ≡ standings_at texts w start a ++ standings_at texts w (start + a) b
  unfolding standings_at
  standings_join w start a b = rw (part_join w start a b) (map-append (standing_of texts) (part w start a) (part w (start + a) b))

  pub standings_cons : (w : List ℕ) (start len : ℕ) → start + len < length w
      → standings_at texts w start (len + 1) ≡ standing_of texts (get_or w start 0) ∷ standings_at texts w (start + 1) len
  unfolding standings_at
  standings_cons w start len h = rw (part_cons w start len h)

  pub length_standings : (w : List ℕ) (start len : ℕ) → start + len ≤ length w → length (standings_at texts w start len) ≡ len
  unfolding standings_at
  length_standings w start len h = length-map (part w start len) (standing_of texts) ∙ length_part w start len h

  -- which word stands for which
  sort_word : (x : ℕ) → sort (standing_of texts x) ≡ cond (ltb x 4) x 4
  unfolding standing_of sort
  sort_word x = go (eqb x 0) (eqb x 1) (eqb x 2) (eqb x 3) refl refl refl refl
    where
      beyond : (x : ℕ) → (x ≡ 0 → ⊥) → (x ≡ 1 → ⊥) → (x ≡ 2 → ⊥) → (x ≡ 3 → ⊥) → 4 ≤ x
      beyond x a b c d = omega arith

      go : (a b c d : Bool) → eqb x 0 ≡ a → eqb x 1 ≡ b → eqb x 2 ≡ c → eqb x 3 ≡ d
          → sort (cond a untouched (cond b locked (cond c deleted (cond d clash (changed (texts (x - 4))))))) ≡ cond (ltb x 4) x 4
      go true b c d p q r s = let e = eqb-true x 0 p in rw (lt-ltb x 4 (omega arith)) (sym e)
      go false true c d p q r s = let e = eqb-true x 1 q in rw (lt-ltb x 4 (omega arith)) (sym e)
      go false false true d p q r s = let e = eqb-true x 2 r in rw (lt-ltb x 4 (omega arith)) (sym e)
      go false false false true p q r s = let e = eqb-true x 3 s in rw (lt-ltb x 4 (omega arith)) (sym e)
      go false false false false p q r s = rw (le-ltb x 4 (beyond x (eqb-false x 0 p) (eqb-false x 1 q) (eqb-false x 2 r) (eqb-false x 3 s)))

  text_word : (x : ℕ) → 4 ≤ x → new_text (standing_of texts x) ≡ texts (x - 4)
  unfolding standing_of new_text
  text_word x h = rw (ne_eqb x 0 (λ e. omega arith), ne_eqb x 1 (λ e. omega arith), ne_eqb x 2 (λ e. omega arith), ne_eqb x 3 (λ e. omega arith))

  -- two names of one text are one name
  named_apart : (a b : ℕ) → Named texts a → Named texts b → 4 ≤ a → 4 ≤ b → (a ≡ b → ⊥) → same_text (texts (a - 4)) (texts (b - 4)) ≡ false
  unfolding Named
  named_apart a b p q ha hb ne = go (ltb a b) refl
    where
      go : (t : Bool) → ltb a b ≡ t → same_text (texts (a - 4)) (texts (b - 4)) ≡ false
      go true e = let h = ltb-true a b e in q (a - 4) (omega arith)
      go false e = let h = ltb-false a b e in let l : b < a = lt_of_le_of_ne h (λ z. ne (sym z)) in same_text_comm (texts (a - 4)) (texts (b - 4)) ∙ p (b - 4) (omega arith)

  -- different words stand for different standings
  words_apart : (a b : ℕ) → Named texts a → Named texts b → (a ≡ b → ⊥) → same_standing (standing_of texts a) (standing_of texts b) ≡ false
  unfolding same_standing
  words_apart a b p q ne = go (ltb a 4) (ltb b 4) refl refl
    where
      go : (s t : Bool) → ltb a 4 ≡ s → ltb b 4 ≡ t
          → (eqb (sort (standing_of texts a)) (sort (standing_of texts b))
          && same_text (new_text (standing_of texts a)) (new_text (standing_of texts b))) ≡ false
      go true true e f = rw (sort_word a, sort_word b, e, f, ne_eqb a b ne)
      go true false e f = let h = ltb-true a 4 e in rw (sort_word a, sort_word b, e, f, ne_eqb a 4 (λ z. omega arith))
      go false true e f = let h = ltb-true b 4 f in rw (sort_word a, sort_word b, e, f, ne_eqb 4 b (λ z. omega arith))
      go false false e f = let g = ltb-false a 4 e in let h = ltb-false b 4 f in rw (sort_word a, sort_word b, e, f, text_word a g, text_word b h) (named_apart a b p q g h ne)

  untouched_word : (x : ℕ) → is_untouched (standing_of texts x) ≡ eqb x 0
  unfolding is_untouched
  untouched_word x = rw (sort_word x) (go (ltb x 4) refl)
    where
      go : (t : Bool) → ltb x 4 ≡ t → eqb (cond t x 4) 0 ≡ eqb x 0
      go true e = refl
      go false e = let h = ltb-false x 4 e in rw (ne_eqb x 0 (λ z. omega arith))

  clash_word : standing_of texts 3 ≡ clash
  unfolding standing_of
  clash_word = refl

  pub merged_word_standing : (a b : ℕ) → Named texts a → Named texts b → standing_of texts (merged_word a b) ≡ standing_of texts a ⋓ standing_of texts b
  unfolding ◌⋓◌ merged_word
  merged_word_standing a b p q = rw (untouched_word a, untouched_word b) (go (eqb a 0) (eqb b 0) (eqb a b) refl)
    where
      go : (x y z : Bool) → eqb a b ≡ z → standing_of texts (cond x b (cond y a (cond z a 3)))
          ≡ cond x (standing_of texts b) (cond y (standing_of texts a) (cond (same_standing (standing_of texts a) (standing_of texts b)) (standing_of texts a) clash))
      go true y z e = refl
      go false true z e = refl
      go false false true e = rw (← eqb-true a b e, same_refl (standing_of texts a))
      go false false false e = rw (words_apart a b p q (eqb-false a b e)) clash_word

  pub named_merged : (a b : ℕ) → Named texts a → Named texts b → Named texts (merged_word a b)
  unfolding merged_word Named
  named_merged a b p q = go (eqb a 0) (eqb b 0) (eqb a b)
    where
      go : (x y z : Bool) → (i : ℕ) → 4 + i < cond x b (cond y a (cond z a 3)) → same_text (texts i) (texts (cond x b (cond y a (cond z a 3)) - 4)) ≡ false
      go true y z i h = q i h
      go false true z i h = p i h
      go false false true i h = p i h
      go false false false i h = absurd (omega arith)

  pub merged_words_standings : (k l : List ℕ) → length k ≡ length l → AllNamed texts k → AllNamed texts l
      → (map (standing_of texts) (merged_words k l) ≡ merged (map (standing_of texts) k) (map (standing_of texts) l)) × AllNamed texts (merged_words k l)
  unfolding merged_words merged
  merged_words_standings [] [] e p q = (refl, tt)
  merged_words_standings [] (b ∷ l) e p q = absurd (omega arith)
  merged_words_standings (a ∷ k) [] e p q = absurd (omega arith)
  merged_words_standings (a ∷ k) (b ∷ l) e p q =
      let r = merged_words_standings k l (omega arith) p.1 q.1 in
      (ap₂ (λ (s : Standing) (ss : List Standing). s ∷ ss) (merged_word_standing a b p.0 q.0) r.0, (named_merged a b p.0 q.0, r.1))

pub merged_length : (k l : List ℕ) → length k ≡ length l → length (merged_words k l) ≡ length k
unfolding merged_words
merged_length [] l e = refl
merged_length (a ∷ k) [] e = absurd (omega arith)
merged_length (a ∷ k) (b ∷ l) e = ap suc (merged_length k l (omega arith))
