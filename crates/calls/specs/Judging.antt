-- The replies 2 to 11, in the order of document 01's table: "the whole file is judged for one number before the next".
-- Reply 0 and reply 1 are in Outcomes.
--
-- How to read this page and the others of specs/:
--   unfoldable f, abbrev f   f is defined by the lines below; a theorem opens an unfoldable f only where it says `unfolding f`
--   x ← a                    in a `do`: what a gives is x, and the next line goes on; where a stops, the whole stops with what a stopped with
--   a                        as a line of a `do`: the same, without a name for what a gives
--   ensure b s               goes on if b is true, and else stops with s
--   cond b x y               x if b is true, else y
--   elim b [ true ↦ x | .. ] by cases: x if b is true, and so on
--   r.field, p.0, p.1        a field of a record; the first and the second part of a pair
--   leb, ltb, eqb            at most, less, equal, as true or false; get_or l i d is place i of l, and d behind its end
--   A × B, A ⊎ B, A → ⊥      both; one of them; not A. (x : A) × B is: some x, with B of it
use Rattle.std.specs.Prelude.{ℕ, Bool, true, false, List, Option, None, Some, Result as Answer, Ok, Err}
use Rattle.lines.specs.declared.scan.File.TheVariants.{Program, Master, View}
use Rattle.lines.specs.Files.{scan}
use Rattle.lines.specs.Nodes.{Line, nodes}
use Rattle.lines.specs.Entries.{entries}
use Rattle.lines.specs.Masters.{master_bounds, unmarked}
use Rattle.lines.specs.Verdicts.{Reply, reply, earlier}
use Rattle.lines.specs.Views.{first_difference, program_mark}
use Rattle.runs.specs.declared.stop.Stop.{Stop}
use Rattle.runs.specs.Results.{Result, gives, stops, ◌>>=◌, ◌>>◌, stop_number, stop_entry}
use Rattle.runs.specs.Programs.{Transformation}
use Rattle.runs.specs.Reading.{read_program}
use Rattle.runs.specs.Showing.{Shown}
use Rattle.runs.specs.Grounds.{Ground, one_master, showing, view, standing_for, first_clash, handed_back, lines_in}

-- ## A refusal is a number and a place; the first one ends the judging

abbrev pub Judged : Type 0 → Type 0
Judged A = Result Reply A

-- lines of the form, and not too many
unfoldable pub formed : ℕ → Answer ℕ ℕ → Judged (Unit {0})
formed number (Ok n) = gives tt
formed number (Err line) = stops (reply number line)

-- a rule that every line keeps
unfoldable pub keeps : ℕ → Option ℕ → Judged (Unit {0})
keeps number None = gives tt
keeps number (Some place) = stops (reply number place)

-- a program that is a tree
unfoldable pub is_tree : ℕ → Result ℕ Transformation → Judged Transformation
is_tree number (gives X) = gives X
is_tree number (stops place) = stops (reply number place)

-- a run that does not stop. 6: run stops for its source; 7: run stops for size; at the stop's entry
unfoldable pub ran : Result Stop Shown → Judged Shown
ran (gives o) = gives o
ran (stops s) = stops (reply (stop_number s) (stop_entry s))

-- ## Showing and putting back: the output lines, or the refusal

-- the program's tree
unfoldable pub judged_program : List ℕ → Judged Transformation
judged_program program = do
  formed 2 (scan Program program)  -- 2: program line of wrong form, or line 96 present
  is_tree 3 (read_program (entries program))  -- 3: program breaks the tree or a bound

-- what reply 5 asks of a master, by whether a view is put back into it: "A master given to showing may carry marks"
unfoldable pub master_rule : Bool → List Line → Option ℕ
master_rule false ls = master_bounds ls
master_rule true ls = earlier (master_bounds ls) (unmarked ls)

-- the master's lines
unfoldable pub judged_master : Bool → List ℕ → Judged (List Line)
judged_master putting master = do
  formed 4 (scan Master master)  -- 4: master line of wrong form, or line 128 present
  keeps 5 (master_rule putting (nodes master))  -- 5: master breaks a bound or number, or (putting back) carries a mark
  gives (nodes master)

-- the view's lines, beside the fresh ones
unfoldable pub judged_view : List Line → List ℕ → Judged (List Line)
judged_view fresh edited = do
  formed 8 (scan View edited)  -- 8: view line of wrong form, or line 128 present
  keeps 9 (first_difference (nodes edited) fresh)  -- 9: view differs from the fresh one in count, depth, kind, number, or in the bytes of a line not marked 01
  keeps 10 (program_mark (nodes edited))  -- 10: a line with number FFFF has a mark
  gives (nodes edited)

-- the lines handed back
unfoldable pub judged_standings : Ground → Transformation → List Line → Judged (List Line)
judged_standings G X edited = do
  keeps 11 (first_clash (standing_for G X edited) G.lines)  -- 11: a node's standing is clash
  gives (lines_in (handed_back (standing_for G X edited) G.lines))

unfoldable pub judged_show : List ℕ → List ℕ → Judged (List Line)
judged_show master program = do
  X ← judged_program program  -- 2, 3
  ls ← judged_master false master  -- 4, 5
  o ← ran (showing (one_master ls) X)  -- 6, 7
  gives (view (one_master ls) o.value)

unfoldable pub judged_put_back : List ℕ → List ℕ → List ℕ → Judged (List Line)
judged_put_back master program edited = do
  X ← judged_program program  -- 2, 3
  ls ← judged_master true master  -- 4, 5
  o ← ran (showing (one_master ls) X)  -- 6, 7
  es ← judged_view (view (one_master ls) o.value) edited  -- 8, 9, 10
  judged_standings (one_master ls) X es  -- 11
