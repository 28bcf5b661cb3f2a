-- The numbers of a view's lines: those of the master's nodes, and FFFF exactly where the program made the line.
use Rattle.std.specs.Prelude.{ℕ, zero, suc, ◌+◌, ◌≤◌, ◌≡◌, refl, Bool, true, false, cond, List, [], ◌∷◌, ◌⊎◌, eqb, length}
use Rattle.std.proofs.Common.{sym, ap, ◌∙◌, inl, inr, zero-add, arith, eq-eqb, ne_eqb}
use Rattle.lines.specs.Nodes.{Line, program_number, line_at}
use Rattle.values.specs.Values.{Origin, master, program, Value, among, is_from}
use Rattle.values.specs.Standings.{Standing, untouched, locked, deleted, sort, new_text, is_untouched, is_clash, same_standing, ◌⋓◌, all_over, gathered, hands_back}
use Rattle.values.proofs.Theorems.MergeLaws.{unit_left, no_clash_left}
use Rattle.values.proofs.Theorems.Gathering.{only}
use Rattle.values.specs.Theorems.Copies.{is_copy, standing_at}
use Rattle.values.proofs.Theorems.Copies.{gathered_says}
use Rattle.values.proofs.Theorems.Edits.{hands_back_head}
use Rattle.runs.specs.Results.{gives}
use Rattle.runs.specs.Programs.{Transformation}
use Rattle.runs.specs.Showing.{Shown}
use Rattle.runs.specs.Grounds.{Numbered, numbered_from, line_of, Ground, one_master, showing, shown_line, view, standing, handed_back}
use Rattle.runs.proofs.Theorems.Conservation.{lock}
use Rattle.runs.specs.Theorems.Grounded.{has_line, Covered, absent_gathered, absent_slots}
use Rattle.runs.proofs.Theorems.Demand3.{standing_is}
use Rattle.runs.proofs.Theorems.OneMaster.{one_covered, one_line}

-- ## One master's numbers are places

pub line_is : (ls : List Line) (n : ℕ) → line_of (numbered_from 0 ls) n ≡ line_at ls n
line_is ls n = ap (line_of (numbered_from 0 ls)) (sym (zero-add n)) ∙ one_line 0 ls n

none_beyond : (k : ℕ) (ls : List Line) (n : ℕ) → k + length ls ≤ n → has_line n (numbered_from k ls) ≡ false
unfolding numbered_from has_line
none_beyond k [] n h = refl
none_beyond k (l ∷ ls) n h = rw (ne_eqb n k (λ e. omega arith)) (none_beyond (suc k) ls n (omega arith))

-- ## No other number is shown, by the law: a copy that is deleted would be handed back

deleted_everywhere : (n : ℕ) (v : Value) (i : ℕ) → is_copy n v i ≡ true → standing_at (all_over deleted v) i ≡ deleted
unfolding is_copy standing_at all_over
deleted_everywhere n [] i h = let z : ◌≡◌ {A = ℕ} 0 1 = cc in absurd (omega arith)
deleted_everywhere n (x ∷ v) zero h = refl
deleted_everywhere n (x ∷ v) (suc i) h = deleted_everywhere n v i h

deleted_stays : (b : Bool) → sort (deleted ⋓ only b locked) ≡ 0 → ⊥
unfolding ◌⋓◌ is_untouched same_standing sort new_text
deleted_stays true h = omega arith
deleted_stays false h = omega arith

uncovered : (G : Ground) (X : Transformation) (o : Shown) → showing G X ≡ gives o → Covered G → (n : ℕ) → has_line n G.lines ≡ false
    → (i : ℕ) → is_copy n o.value i ≡ false
unfolding standing is_clash is_untouched sort
uncovered G X o shows covered n h i = go (is_copy n o.value i) refl
  where
    ss : List Standing
    ss = all_over deleted o.value

    nothing : gathered n o.value ss ⋓ lock n o.compared ≡ untouched
    nothing =
        let c = covered n h in
        sym (standing_is G X o shows ss n) ∙ rw (absent_gathered n G.given _ c.0, absent_slots n G.outer _ c.1) (unit_left untouched)

    go : (b : Bool) → is_copy n o.value i ≡ b → b ≡ false
    go false e = refl
    go true e =
        let d = deleted_everywhere n o.value i e in
        let says = gathered_says n o.value ss i (e, ap is_untouched d) (no_clash_left (gathered n o.value ss) (lock n o.compared) (ap is_clash nothing)) ∙ d in
        absurd (deleted_stays (among n o.compared) (ap sort (ap (λ (z : Standing). z ⋓ lock n o.compared) (sym says) ∙ nothing)))

-- ## Lines of a view

-- a line whose number is no FFFF is one of the node of that number
pub number_copy : (G : Ground) (v : Value) (n i : ℕ) → (line_at (view G v) i).number ≡ n → (n ≡ program_number → ⊥) → is_copy n v i ≡ true
unfolding view is_copy shown_line is_from
number_copy G [] n i e f = absurd (f (sym e))
number_copy G (x ∷ v) n zero e f = go x.origin e
  where
    go : (y : Origin) → (shown_line G.lines x.depth y).number ≡ n → is_from n y ≡ true
    go (master m) e = eq-eqb n m (sym e)
    go (program p b t) e = absurd (f (sym e))
number_copy G (x ∷ v) n (suc i) e f = number_copy G v n i e f

-- a line is one of a node, or the program made it
pub copy_or_made : (v : Value) (i : ℕ) → ((n : ℕ) × (is_copy n v i ≡ true)) ⊎ ((n : ℕ) → is_copy n v i ≡ false)
unfolding is_copy is_from
copy_or_made [] i = inr (λ n. refl)
copy_or_made (x ∷ v) zero = go x.origin
  where
    go : (y : Origin) → ((n : ℕ) × (is_from n y ≡ true)) ⊎ ((n : ℕ) → is_from n y ≡ false)
    go (master m) = inl (m, eq-eqb m m refl)
    go (program p b t) = inr (λ n. refl)
copy_or_made (x ∷ v) (suc i) = copy_or_made v i

-- of one master with at most 128 lines no line of a node has number FFFF
pub shown_number : (ls : List Line) (X : Transformation) (o : Shown) → showing (one_master ls) X ≡ gives o → length ls ≤ 128 → (n i : ℕ) → is_copy n o.value i ≡ true
    → n ≡ program_number → ⊥
shown_number ls X o shows few n i c e =
    let q = uncovered (one_master ls) X o shows (one_covered ls) n (none_beyond 0 ls n (omega arith)) i in
    let z : ◌≡◌ {A = ℕ} 0 1 = cc in
    omega arith

-- ## Lines handed back keep their kinds

pub handed_kind : (s : ℕ → Standing) (ls : List Numbered) (n : ℕ) → (line_of (handed_back s ls) n).kind ≡ (line_of ls n).kind
unfolding line_of handed_back
handed_kind s [] n = refl
handed_kind s (a ∷ ls) n = go (eqb n a.number) (handed_kind s ls n)
  where
    go : (b : Bool) → (line_of (handed_back s ls) n).kind ≡ (line_of ls n).kind
        → (cond b (hands_back a.line (s a.number)) (line_of (handed_back s ls) n)).kind ≡ (cond b a.line (line_of ls n)).kind
    go true r = (hands_back_head a.line (s a.number)).1
    go false r = r
