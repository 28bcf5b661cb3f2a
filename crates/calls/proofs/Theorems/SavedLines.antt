-- A line that was saved with its old text counts as untouched: a view is put back as the one in which each line has the mark that counts.
use Rattle.std.specs.Prelude.{◌≡◌, true, List, ℕ}
use Rattle.std.proofs.Common.{sym, ap, arith}
use Rattle.lines.specs.Nodes.{Line}
use Rattle.lines.specs.Views.{first_difference, program_mark, counted_lines}
use Rattle.lines.specs.Writing.{file_of}
use Rattle.lines.proofs.Theorems.CountedMarks.{counted_length, counted_writable, counted_fresh, counted_unmarked}
use Rattle.runs.specs.Results.{gives}
use Rattle.runs.specs.Programs.{Transformation}
use Rattle.runs.specs.Showing.{Shown}
use Rattle.runs.specs.Grounds.{Ground, one_master, showing, view}
use Rattle.runs.specs.Theorems.CountedViews.{standings_counted}
use Rattle.calls.specs.Judging.{Judged, ran, judged_program, judged_master, judged_view, judged_standings, judged_put_back}
use Rattle.calls.specs.Outcomes.{called, put_back_call}
use Rattle.calls.specs.Demands.{SavedSame}
use Rattle.calls.proofs.Theorems.Judged.{view_passed, view_passes}

-- ## On lines

-- every node has the same standing: reply 11, and the lines handed back, are the same
judged_counted : (G : Ground) (X : Transformation) (o : Shown) → showing G X ≡ gives o → (es : List Line)
    → judged_standings G X (counted_lines (view G o.value) es) ≡ judged_standings G X es
unfolding judged_standings
judged_counted G X o shows es = rw (standings_counted G X o shows es)

-- what has passed 8 to 10 passes them again
view_counted : (fresh : List Line) (edited : List ℕ) (es : List Line) → judged_view fresh edited ≡ gives es
    → judged_view fresh (file_of (counted_lines fresh es)) ≡ gives (counted_lines fresh es)
unfolding first_difference program_mark
view_counted fresh edited es h =
    let p = view_passed fresh edited es h in
    let few = p.holds.few in
    view_passes fresh (counted_lines fresh es) (counted_writable fresh es p.holds.form) (omega (arith, counted_length fresh es)) (counted_fresh 0 fresh es p.same)
    (counted_unmarked 0 fresh es p.marks)

-- ## On bytes

judged_same : (master program edited : List ℕ) (X : Transformation) → judged_program program ≡ gives X → (ls : List Line) → judged_master true master ≡ gives ls
    → (o : Shown) → showing (one_master ls) X ≡ gives o → let fresh = view (one_master ls) o.value in (es : List Line) → judged_view fresh edited ≡ gives es
    → judged_put_back master program edited ≡ judged_put_back master program (file_of (counted_lines fresh es))
unfolding judged_put_back ran
judged_same master program edited X p ls m o shows es v =
    rw (p, m, shows, v, view_counted (view (one_master ls) o.value) edited es v) (sym (judged_counted (one_master ls) X o shows es))

pub saved_same : SavedSame put_back_call
unfolding put_back_call
saved_same master program edited X p ls m o shows es v out work =
    ap (λ (j : Judged (List Line)). called j out work) (judged_same master program edited X p ls m o shows es v)
