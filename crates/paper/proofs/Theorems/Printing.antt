-- What is read of lines that are in order is printed as the same lines: reading loses nothing of them.
use Rattle.std.specs.Prelude.{◌≡◌, Bool, cond, ℕ, suc, ◌+◌, ◌≤◌, eqb, length}
use Rattle.std.proofs.Math.Path.{refl, ap, ap₂}
use Rattle.std.proofs.Common.{sym, ◌∙◌}
use Rattle.std.proofs.Math.Bool.{true, false}
use mathlib.Core.List.{List, [], ◌∷◌, ◌++◌}
use native.Mathlib.Omega.{arith}
use Rattle.std.proofs.Math.Dec.{ltb}
use borrow.Author.Tests.{eqb-true, eqb-false, ltb-true, ltb-false, lt-ltb, le-ltb}
use Rattle.lines.specs.Nodes.{Line, is_element, changed_mark, deleted_mark, program_number}
use Rattle.lines.specs.Masters.{depth_after}
use Rattle.paper.specs.Data.{Updating, ori, non, mod', del, ori_e, del_e, src, code, Sequence, none, str, elt}
use Rattle.paper.specs.Lines.{updating_of, element_updating_of, from_of, item_of, items_at, sequence, mark_of, element_mark_of, origin_number, text_kind, lines_at, paper_lines}
use Rattle.paper.proofs.Theorems.Lines.{first_line, item_here, item_below, unlocked_state, unlocked}

-- ## Lines in order

-- a line that the paper's data can say: its mark is 00 to 02 and not 01 on an element, and a text has the kind that its node has
pub record Sayable (kinds : ℕ → ℕ) (l : Line) : Type 0 where
  pub mark : l.mark ≤ deleted_mark
  pub element : is_element l.kind ≡ true → eqb l.mark changed_mark ≡ false
  pub text : is_element l.kind ≡ false → text_kind kinds (from_of l.number) ≡ l.kind

-- such lines as trees: the first one at most at depth `most`, each other one at most one deeper than the line before, and deeper only under an element
abbrev pub InOrder : (ℕ → ℕ) → ℕ → List Line → Type 0
InOrder kinds most [] = Unit {0}
InOrder kinds most (l ∷ ls) = (l.depth ≤ most) × Sayable kinds l × InOrder kinds (depth_after l) ls

-- ## One line

mark_back : (mark : ℕ) → mark ≤ deleted_mark → mark_of (updating_of mark) ≡ mark
mark_back mark h = go (eqb mark changed_mark) (eqb mark deleted_mark) refl refl
  where
    go : (a b : Bool) → eqb mark changed_mark ≡ a → eqb mark deleted_mark ≡ b → mark_of (cond a mod' (cond b del ori)) ≡ mark
    go true b p q = sym (eqb-true mark changed_mark p)
    go false true p q = sym (eqb-true mark deleted_mark q)
    go false false p q = let x = eqb-false mark changed_mark p in let y = eqb-false mark deleted_mark q in omega arith

element_mark_back : (mark : ℕ) → mark ≤ deleted_mark → eqb mark changed_mark ≡ false → element_mark_of (element_updating_of mark) ≡ mark
element_mark_back mark h n = go (eqb mark deleted_mark) refl
  where
    go : (b : Bool) → eqb mark deleted_mark ≡ b → element_mark_of (cond b del_e ori_e) ≡ mark
    go true q = sym (eqb-true mark deleted_mark q)
    go false q = let x = eqb-false mark changed_mark n in let y = eqb-false mark deleted_mark q in omega arith

number_back : (number : ℕ) → origin_number (from_of number) ≡ number
number_back number = go (eqb number program_number) refl
  where
    go : (b : Bool) → eqb number program_number ≡ b → origin_number (cond b code (src number)) ≡ number
    go true q = sym (eqb-true number program_number q)
    go false q = refl

-- ## All lines

-- the lines in front that are at depth d or deeper
abbrev front : ℕ → List Line → List Line
front d [] = []
front d (l ∷ ls) = cond (ltb l.depth d) [] (l ∷ front d ls)

-- from the first line on that is not deeper than d
abbrev onward : ℕ → List Line → List Line
onward d [] = []
onward d (l ∷ ls) = cond (ltb d l.depth) (onward d ls) (l ∷ ls)

front_joined : (d : ℕ) (ls : List Line) → front (suc d) ls ++ front d (onward d ls) ≡ front d ls
front_joined d [] = refl
front_joined d (l ∷ ls) = go (ltb d l.depth) refl (front_joined d ls)
  where
    go : (b : Bool) → ltb d l.depth ≡ b → front (suc d) ls ++ front d (onward d ls) ≡ front d ls
        → cond (ltb l.depth (suc d)) [] (l ∷ front (suc d) ls) ++ front d (cond b (onward d ls) (l ∷ ls)) ≡ front d (l ∷ ls)
    go true e ih =
        let h = ltb-true d l.depth e in
        rw (le-ltb l.depth (suc d) (omega arith), le-ltb l.depth d (omega arith)) (ap (λ (w : List Line). l ∷ w) ih)
    go false e ih = let h = ltb-false d l.depth e in rw (lt-ltb l.depth (suc d) (omega arith))

front_all : (ls : List Line) → front 0 ls ≡ ls
front_all [] = refl
front_all (l ∷ ls) = rw (le-ltb l.depth 0 (omega arith), front_all ls)

module _ (kinds : ℕ → ℕ) where
  onward_all : (d most : ℕ) (ls : List Line) → InOrder kinds most ls → most ≤ d → onward d ls ≡ ls
  onward_all d most [] o h = refl
  onward_all d most (l ∷ ls) o h = let a = o.0 in rw (le-ltb d l.depth (omega arith))

  text_back : (d : ℕ) (l : Line) → l.depth ≡ d → Sayable kinds l → is_element l.kind ≡ false
      → record { depth = d; kind = text_kind kinds (from_of l.number); mark = mark_of (updating_of l.mark); number = origin_number (from_of l.number); text = l.text } ≡ l
  text_back d l h s e = rw (← h, s.text e, mark_back l.mark s.mark, number_back l.number)

  element_back : (d : ℕ) (l : Line) → l.depth ≡ d → Sayable kinds l → is_element l.kind ≡ true
      → record { depth = d; kind = 2; mark = element_mark_of (element_updating_of l.mark); number = origin_number (from_of l.number); text = l.text } ≡ l
  unfolding is_element
  element_back d l h s e =
      rw (← h, element_mark_back l.mark s.mark (s.element e), number_back l.number)
      (ap (λ (k : ℕ). record { depth = l.depth; kind = k; mark = l.mark; number = l.number; text = l.text }) (sym (eqb-true l.kind 2 e)))

  -- a line at depth d with what is read behind it
  item_back : (d : ℕ) (l : Line) (ls : List Line) → l.depth ≡ d → Sayable kinds l → InOrder kinds (depth_after l) ls
      → lines_at kinds (suc d) (items_at (suc d) ls) ≡ front (suc d) (onward (suc d) ls)
      → lines_at kinds d (items_at d ls) ≡ front d (onward d ls) → lines_at kinds d (item_of l (items_at (suc d) ls) (items_at d ls)) ≡ l ∷ front d ls
  unfolding lines_at depth_after
  item_back d l ls h s o inner others = go (is_element l.kind) refl o
    where
      go : (b : Bool) → is_element l.kind ≡ b → InOrder kinds (cond b (l.depth + 1) l.depth) ls
          → lines_at kinds d (cond b (elt l.text (element_updating_of l.mark) (from_of l.number) (items_at (suc d) ls) (items_at d ls))
          (str l.text (updating_of l.mark) (from_of l.number) (items_at d ls)))
          ≡ l ∷ front d ls
      go true e o =
          ap₂ (λ (x : Line) (w : List Line). x ∷ w) (element_back d l h s e)
          (ap₂ (λ (v w : List Line). v ++ w) (inner ∙ ap (front (suc d)) (onward_all (suc d) (l.depth + 1) ls o (omega arith))) others ∙ front_joined d ls)
      go false e o = ap₂ (λ (x : Line) (w : List Line). x ∷ w) (text_back d l h s e) (others ∙ ap (front d) (onward_all d l.depth ls o (omega arith)))

  -- the items at depth d, printed: the lines from the first that is not deeper, up to one of less depth
  items_back : (d most : ℕ) (ls : List Line) → InOrder kinds most ls → lines_at kinds d (items_at d ls) ≡ front d (onward d ls)
  unfolding lines_at items_at
  items_back d most [] o = refl
  items_back d most (l ∷ ls) o =
      go (ltb l.depth d) (ltb d l.depth) refl refl (items_back (suc d) (depth_after l) ls o.2) (items_back d (depth_after l) ls o.2)
    where
      go : (a b : Bool) → ltb l.depth d ≡ a → ltb d l.depth ≡ b → lines_at kinds (suc d) (items_at (suc d) ls) ≡ front (suc d) (onward (suc d) ls)
          → lines_at kinds d (items_at d ls) ≡ front d (onward d ls) → lines_at kinds d (items_at d (l ∷ ls)) ≡ front d (cond b (onward d ls) (l ∷ ls))
      go true true p q inner others = let x = ltb-true l.depth d p in let y = ltb-true d l.depth q in absurd (omega arith)
      go true false p q inner others = rw p
      go false true p q inner others = ap (lines_at kinds d) (item_below d l ls (ltb-true d l.depth q)) ∙ others
      go false false p q inner others =
          let x = ltb-false l.depth d p in
          let y = ltb-false d l.depth q in
          let h : l.depth ≡ d = omega arith in
          ap (lines_at kinds d) (item_here d l ls h) ∙ item_back d l ls h o.1 o.2 inner others ∙ rw p refl

  -- lines in order, read and printed, are the same lines
  pub print_read : (ls : List Line) → InOrder kinds 0 ls → paper_lines kinds (sequence ls) ≡ ls
  unfolding paper_lines sequence
  print_read ls o = items_back 0 0 ls o ∙ ap (front 0) (onward_all 0 0 ls o (omega arith)) ∙ front_all ls

  -- a lock is not printed
  lock_unprinted : (d : ℕ) (S : Sequence) → lines_at kinds d (unlocked S) ≡ lines_at kinds d S
  unfolding lines_at
  lock_unprinted d none = refl
  lock_unprinted d (str t u o S) = rw (state u, lock_unprinted d S)
    where
      state : (u : Updating) → mark_of (unlocked_state u) ≡ mark_of u
      state ori = refl
      state non = refl
      state mod' = refl
      state del = refl
  lock_unprinted d (elt t w o K S) = rw (lock_unprinted (suc d) K, lock_unprinted d S)

  pub print_unlocked : (S : Sequence) → paper_lines kinds (unlocked S) ≡ paper_lines kinds S
  unfolding paper_lines
  print_unlocked S = lock_unprinted 0 S

-- ## Lines out of order are not printed as they are

-- a text under a text, a first line too deep, and mark 01 on an element are not in the data that is read
abbrev bare : ℕ → ℕ → ℕ → ℕ → Line
bare depth kind mark number = record { depth = depth; kind = kind; mark = mark; number = number; text = [] }

pub text_under_text : let ls = bare 0 1 0 0 ∷ bare 1 1 0 1 ∷ [] in paper_lines (λ n. 1) (sequence ls) ≡ ls → ⊥
unfolding paper_lines lines_at sequence items_at is_element
text_under_text h = let z : ◌≡◌ {A = ℕ} 1 2 = ap (λ (ls : List Line). length ls) h in omega arith

pub first_too_deep : let ls = bare 3 1 0 0 ∷ bare 0 1 0 1 ∷ [] in paper_lines (λ n. 1) (sequence ls) ≡ ls → ⊥
unfolding paper_lines lines_at sequence items_at is_element
first_too_deep h = let z : ◌≡◌ {A = ℕ} 1 2 = ap (λ (ls : List Line). length ls) h in omega arith

pub changed_element : let ls = bare 0 2 1 0 ∷ [] in paper_lines (λ n. 1) (sequence ls) ≡ ls → ⊥
unfolding paper_lines lines_at sequence items_at is_element
changed_element h = let z : ◌≡◌ {A = ℕ} 0 1 = ap (λ (ls : List Line). (first_line ls).mark) h in omega arith
