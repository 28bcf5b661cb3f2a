-- A node is acceptable, or its lines show why not: search finds them.
use Rattle.std.specs.Prelude.{ℕ, zero, suc, refl, Bool, false, ◌&&◌, ◌||◌, List, [], ◌∷◌, ◌⊎◌, eqb}
use Rattle.std.proofs.Math.Path.{◌≡◌}
use Rattle.std.proofs.Common.{sym, ap, ◌∙◌, inl, inr, eqb-true, eq-eqb}
use Rattle.std.proofs.Math.Bool.{true, not}
use native.Mathlib.Omega.{arith}
use Rattle.std.proofs.lemmas.Bool.{not-false}
use Rattle.lines.specs.Nodes.{Line, changed_mark, line_at, no_line}
use Rattle.lines.specs.Texts.{same_text}
use Rattle.lines.specs.Views.{mark_counted}
use Rattle.lines.specs.Theorems.Bools.{and_left, and_right, and_both, or_other}
use Rattle.lines.specs.Theorems.SameTexts.{same_text_sound, same_text_refl}
use Rattle.values.specs.Values.{among}
use Rattle.values.specs.Standings.{is_edit}
use Rattle.values.proofs.Theorems.Copies.{bool_cases}
use Rattle.calls.specs.Demands.{EditedLine, SameEdit, Acceptable, Clashes, differ, compare}
use Rattle.calls.specs.Theorems.EditedLines.{edited_edit, edit_edited}

-- a place of which a test is true, or none
abbrev Found : (ℕ → Bool) → Type 0
Found test = ((i : ℕ) × (test i ≡ true)) ⊎ ((i : ℕ) → test i ≡ false)

here_or_later : (test : ℕ → Bool) → Found (λ i. test (suc i)) → Found test
here_or_later test later = go (bool_cases (test 0)) later
  where
    go : (test 0 ≡ true) ⊎ (test 0 ≡ false) → Found (λ i. test (suc i)) → Found test
    go (inl e) r = inl (0, e)
    go (inr e) (inl r) = inl (suc r.0, r.1)
    go (inr e) (inr r) = inr (λ i. elim i as (λ k. test k ≡ false) [ zero ↦ e | suc j ↦ r j ])

-- of the lines of two views at one place; behind the second's last line the test is false
find : (test : Line → Line → Bool) → ((f : Line) → test f no_line ≡ false) → (fs es : List Line) → Found (λ i. test (line_at fs i) (line_at es i))
find test none fs [] = inr (λ i. none (line_at fs i))
find test none [] (e ∷ es) = here_or_later (λ i. test (line_at [] i) (line_at (e ∷ es) i)) (find test none [] es)
find test none (f ∷ fs) (e ∷ es) = here_or_later (λ i. test (line_at (f ∷ fs) i) (line_at (e ∷ es) i)) (find test none fs es)

-- ## The tests

edited_by : ℕ → Line → Line → Bool
edited_by n f l = is_edit f.text l.mark l.text && eqb l.number n

same_edits : Line → Line → Bool
same_edits v w = eqb v.mark w.mark && (not (eqb v.mark changed_mark) || same_text v.text w.text)

-- an edited line of node n with another edit than line v
other_edit : ℕ → Line → Line → Line → Bool
other_edit n v f l = edited_by n f l && not (same_edits v l)

-- a missing line is not edited
none_edited : (n : ℕ) (f : Line) → edited_by n f no_line ≡ false
unfolding edited_by is_edit mark_counted
none_edited n f = refl

test_edited : (fs ls : List Line) (n i : ℕ) → edited_by n (line_at fs i) (line_at ls i) ≡ true → EditedLine fs ls n i
unfolding edited_by
test_edited fs ls n i h =
    let edit = is_edit (line_at fs i).text (line_at ls i).mark (line_at ls i).text in
    record { edit = edit_edited (line_at fs i) (line_at ls i) (and_left edit _ h); number = eqb-true (line_at ls i).number n (and_right edit _ h) }

edited_test : (fs ls : List Line) (n i : ℕ) → EditedLine fs ls n i → edited_by n (line_at fs i) (line_at ls i) ≡ true
unfolding edited_by
edited_test fs ls n i e = and_both _ (eqb (line_at ls i).number n) (edited_edit (line_at fs i) (line_at ls i) e.edit) (eq-eqb (line_at ls i).number n e.number)

test_same : (v w : Line) → same_edits v w ≡ true → SameEdit v w
unfolding same_edits
test_same v w h =
    let r = and_right (eqb v.mark w.mark) _ h in
    record {
      mark = eqb-true v.mark w.mark (and_left (eqb v.mark w.mark) _ h);
      text = λ m. same_text_sound v.text w.text (or_other (not (eqb v.mark changed_mark)) (same_text v.text w.text) (ap not (eq-eqb v.mark changed_mark m)) r);
    }

same_test : (v w : Line) → SameEdit v w → same_edits v w ≡ true
unfolding same_edits
same_test v w s = and_both (eqb v.mark w.mark) _ (eq-eqb v.mark w.mark s.mark) (go (eqb v.mark changed_mark) refl)
  where
    go : (b : Bool) → eqb v.mark changed_mark ≡ b → (not b || same_text v.text w.text) ≡ true
    go true e = rw (s.text (eqb-true v.mark changed_mark e)) (same_text_refl w.text)
    go false e = refl

-- two lines that carry the edit of a third carry the same
same_through : (u v w : Line) → SameEdit u v → SameEdit u w → SameEdit v w
same_through u v w p q = record { mark = sym p.mark ∙ q.mark; text = λ m. let k = p.mark ∙ m in sym (p.text k) ∙ q.text k }

-- ## The search

-- a node has an edited line, or none
abbrev pub EditedOrNot : List Line → List Line → ℕ → Type 0
EditedOrNot fs ls n = ((i : ℕ) × EditedLine fs ls n i) ⊎ ((i : ℕ) → EditedLine fs ls n i → ⊥)

pub edited_or_not : (fs ls : List Line) (n : ℕ) → EditedOrNot fs ls n
edited_or_not fs ls n = go (find (edited_by n) (none_edited n) fs ls)
  where
    go : Found (λ i. edited_by n (line_at fs i) (line_at ls i)) → EditedOrNot fs ls n
    go (inl (i, h)) = inl (i, test_edited fs ls n i h)
    go (inr h) = inr (λ i p. let t = edited_test fs ls n i p in let f = h i in let z : ◌≡◌ {A = ℕ} 0 1 = cc in omega arith)

module _ (fs ls : List Line) (compared : List ℕ) (n : ℕ) where
  -- behind an edited line that no other differs from
  alone : (i : ℕ) → EditedLine fs ls n i → ((j : ℕ) → EditedLine fs ls n j → SameEdit (line_at ls i) (line_at ls j)) → (b : Bool) → among n compared ≡ b
      → Acceptable fs ls compared n ⊎ Clashes fs ls compared n
  alone i e all true c = inr (compare i e c)
  alone i e all false c =
      inl (record { same = λ j k p q. same_through (line_at ls i) (line_at ls j) (line_at ls k) (all j p) (all k q); uncompared = λ j p. c })

  behind : (i : ℕ) → EditedLine fs ls n i → Acceptable fs ls compared n ⊎ Clashes fs ls compared n
  unfolding other_edit
  behind i e = go (find (other_edit n (line_at ls i)) (λ f. rw (none_edited n f)) fs ls)
    where
      both : {b : Bool} → not b ≡ true → b ≡ true → ⊥
      both p q = let r : not true ≡ true = (rw q at p) in let z : ◌≡◌ {A = ℕ} 0 1 = cc in omega arith

      go : Found (λ j. other_edit n (line_at ls i) (line_at fs j) (line_at ls j)) → Acceptable fs ls compared n ⊎ Clashes fs ls compared n
      go (inl (j, h)) =
          inr (differ i j e (test_edited fs ls n j (and_left (edited_by n (line_at fs j) (line_at ls j)) _ h))
          (λ s. both (and_right (edited_by n (line_at fs j) (line_at ls j)) _ h) (same_test (line_at ls i) (line_at ls j) s)))
      go (inr h) =
          alone i e (λ j p. test_same (line_at ls i) (line_at ls j) (not-false _ (rw (edited_test fs ls n j p) at (h j)))) (among n compared) refl

  acceptable_or_clashes : Acceptable fs ls compared n ⊎ Clashes fs ls compared n
  acceptable_or_clashes = go (edited_or_not fs ls n)
    where
      go : EditedOrNot fs ls n → Acceptable fs ls compared n ⊎ Clashes fs ls compared n
      go (inl (i, e)) = behind i e
      go (inr never) = inl (record { same = λ i j p q. absurd (never i p); uncompared = λ i p. absurd (never i p) })

  pub unacceptable_clashes : (Acceptable fs ls compared n → ⊥) → Clashes fs ls compared n
  unacceptable_clashes f = go acceptable_or_clashes
    where
      go : Acceptable fs ls compared n ⊎ Clashes fs ls compared n → Clashes fs ls compared n
      go (inl a) = absurd (f a)
      go (inr c) = c

  pub acceptable_no_clash : Acceptable fs ls compared n → Clashes fs ls compared n → ⊥
  acceptable_no_clash a (differ i j p q d) = d (a.same i j p q)
  acceptable_no_clash a (compare i p c) = let f = a.uncompared i p in let z : ◌≡◌ {A = ℕ} 0 1 = cc in omega arith
