-- One master is a ground whose numbers are covered and rising, and what is handed back is one master again, with the same bounds.
use Rattle.std.specs.Prelude.{◌≡◌, refl, false, List, [], ◌∷◌, ℕ, zero, suc, ◌+◌, eqb, length, get_or}
use Rattle.std.proofs.Common.{sym, ap, ap₂, ◌∙◌, zero-add, arith, eq-eqb, ne_eqb}
use Rattle.lines.specs.Nodes.{Line, no_line}
use Rattle.lines.specs.Theorems.Bools.{neither}
use Rattle.values.specs.Values.{is_from}
use Rattle.values.specs.Standings.{Standing}
use Rattle.values.specs.Theorems.Copies.{is_copy}
use Rattle.values.proofs.Theorems.Edits.{hands_back_head}
use Rattle.runs.specs.Grounds.{Numbered, numbered_from, line_of, lines_in, whole, one_master, handed_back, after}
use Rattle.lines.specs.Masters.{depth_after, placed, bounds_from, master_bounds}
use Rattle.runs.specs.Results.{gives}
use Rattle.runs.specs.Programs.{Transformation}
use Rattle.runs.specs.Showing.{Shown}
use Rattle.runs.specs.Grounds.{Ground, showing, standing_for}
use Rattle.runs.proofs.Theorems.Demand3.{Accepted, TextMarks, Demand3, demand3}
use Rattle.runs.specs.Theorems.Grounded.{has_line, Absent, Covered, Rising, whole_handed_back}

absent_whole : (ls : List Numbered) (n : ℕ) → has_line n ls ≡ false → Absent n (whole ls)
unfolding has_line whole is_copy is_from
absent_whole [] n h i = refl
absent_whole (a ∷ ls) n h zero = (neither (eqb n a.number) (has_line n ls) h).0
absent_whole (a ∷ ls) n h (suc i) = absent_whole ls n (neither (eqb n a.number) (has_line n ls) h).1 i

pub one_covered : (ls : List Line) → Covered (one_master ls)
one_covered ls n h = (absent_whole (numbered_from 0 ls) n h, tt)

pub one_rising : (k : ℕ) (ls : List Line) → Rising k (numbered_from k ls)
unfolding numbered_from
one_rising k [] = tt
one_rising k (l ∷ ls) = (omega arith, one_rising (suc k) ls)

-- the line of a number is the line at its place, and none where there is none
pub one_line : (k : ℕ) (ls : List Line) (n : ℕ) → line_of (numbered_from k ls) (k + n) ≡ get_or ls n no_line
unfolding numbered_from line_of
one_line k [] n = refl
one_line k (l ∷ ls) zero = rw (eq-eqb (k + 0) k (omega arith))
one_line k (l ∷ ls) (suc n) =
    rw (ne_eqb (k + suc n) k (λ e. omega arith))
    (ap (λ (m : ℕ). line_of (numbered_from (suc k) ls) m) (let e : k + suc n ≡ suc k + n = omega arith in e) ∙ one_line (suc k) ls n)

-- what is handed back is one master again
one_numbered : (s : ℕ → Standing) (k : ℕ) (ls : List Line) → numbered_from k (lines_in (handed_back s (numbered_from k ls))) ≡ handed_back s (numbered_from k ls)
unfolding numbered_from lines_in handed_back
one_numbered s k [] = refl
one_numbered s k (l ∷ ls) = rw (one_numbered s (suc k) ls)

pub one_after : (s : ℕ → Standing) (ls : List Line) → one_master (lines_in (handed_back s (numbered_from 0 ls))) ≡ after (one_master ls) s
one_after s ls = rw (one_numbered s 0 ls, whole_handed_back s (numbered_from 0 ls))

pub length_handed_back : (s : ℕ → Standing) (k : ℕ) (ls : List Line) → length (lines_in (handed_back s (numbered_from k ls))) ≡ length ls
unfolding numbered_from lines_in handed_back
length_handed_back s k [] = refl
length_handed_back s k (l ∷ ls) = ap suc (length_handed_back s (suc k) ls)

-- each of its lines, at its place
pub one_handed_back : (s : ℕ → Standing) (ls : List Line) (n : ℕ) → get_or (lines_in (handed_back s (numbered_from 0 ls))) n no_line ≡ line_of (handed_back s (numbered_from 0 ls)) n
one_handed_back s ls n = sym (one_line 0 (lines_in (handed_back s (numbered_from 0 ls))) n) ∙ ap₂ line_of (one_numbered s 0 ls) (zero-add n)

-- reply 5 finds no more in it than before: depths, kinds and numbers stay
bounds_handed_back : (s : ℕ → Standing) (most j k : ℕ) (ls : List Line) → bounds_from most j (lines_in (handed_back s (numbered_from k ls))) ≡ bounds_from most j ls
unfolding bounds_from placed depth_after numbered_from lines_in handed_back
bounds_handed_back s most j k [] = refl
bounds_handed_back s most j k (l ∷ ls) =
    let h = hands_back_head l (s k) in
    rw (h.0, h.1, h.2, bounds_handed_back s (depth_after l) (suc j) (suc k) ls)

pub one_bounds : (s : ℕ → Standing) (ls : List Line) → master_bounds (lines_in (handed_back s (numbered_from 0 ls))) ≡ master_bounds ls
unfolding master_bounds
one_bounds s ls = bounds_handed_back s 0 0 0 ls

-- ## Demand 3 of one master

pub one_demand3 : (ls : List Line) (X : Transformation) (o : Shown) → showing (one_master ls) X ≡ gives o → (edited : List Line) → Demand3 (one_master ls) X o edited
one_demand3 ls X o shows edited = demand3 (one_master ls) X o shows edited (one_covered ls) (one_rising 0 ls)

-- the master that is handed back shows the same again
pub one_again : (ls : List Line) (X : Transformation) (o : Shown) → showing (one_master ls) X ≡ gives o → (edited : List Line) → Accepted (one_master ls) X edited
    → TextMarks (one_master ls) o edited → showing (one_master (lines_in (handed_back (standing_for (one_master ls) X edited) (numbered_from 0 ls)))) X ≡ gives o
one_again ls X o shows edited a t =
    ap (λ (G : Ground). showing G X) (one_after (standing_for (one_master ls) X edited) ls) ∙ (one_demand3 ls X o shows edited).again a t
