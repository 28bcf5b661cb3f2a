-- What it means that the rules and section 3 of the paper agree: of showing, and of putting back once the calls have judged a program, a master and a view.
use Rattle.std.specs.Prelude.{◌≡◌, true, List, [], ℕ, ◌≤◌, length, Option, None, Some}
use Rattle.lines.specs.Entries.{Entry}
use Rattle.lines.specs.Nodes.{Line, kind_rule, deleted_mark, line_at}
use Rattle.lines.specs.Views.{first_difference, program_mark, counted_lines}
use Rattle.lines.specs.Masters.{master_bounds, unmarked}
use Rattle.values.specs.Values.{among, most_nodes}
use Rattle.values.specs.Theorems.Copies.{is_copy}
use Rattle.runs.specs.declared.stop.Stop.{Stop}
use Rattle.runs.specs.declared.stop.Stop.TheVariants.{Source, Size}
use Rattle.runs.specs.Results.{Result, gives, stops}
use Rattle.runs.specs.Programs.{Transformation}
use Rattle.runs.specs.Reading.{read_program}
use Rattle.runs.specs.Showing.{Shown}
use Rattle.runs.specs.Grounds.{numbered_from, lines_in, one_master, showing, view, standing_for, first_clash, handed_back}
use Rattle.paper.specs.Data.{Sequence, May, fail, got}
use Rattle.paper.specs.Contexts.{PairContext}
use Rattle.paper.specs.Operators.{Guard, guard}
use Rattle.paper.specs.Strict.{strict_guard}
use Rattle.paper.specs.Semantics.{backward}
use Rattle.paper.specs.Programs.{in_paper}
use Rattle.paper.specs.Lines.{sequence, paper_lines, kinds_in}

-- each line's kind allows its mark and its bytes: of lines that replies 4 and 8 let pass it is so
abbrev pub Formed : List Line → Type 0
Formed ls = (i : ℕ) → kind_rule (line_at ls i).kind (line_at ls i).mark (line_at ls i).text ≡ true

-- ## Showing

-- where a value is shown, the paper yields a T, and the lines shown are T's; a stop for the source is `fail`; a stop for size is the one thing that the paper has not
abbrev pub ShownAlike : List Line → Result Stop Shown → May Sequence → Type 0
ShownAlike ls (gives o) p = (T : Sequence) × (p ≡ got T) × (view (one_master ls) o.value ≡ paper_lines (kinds_in ls) T)
ShownAlike ls (stops (Source e)) p = p ≡ fail
ShownAlike ls (stops (Size e)) p = Unit {0}

-- ## Putting back

-- what the calls have judged before they put a view back
pub record PassedTen (entries : List Entry) (X : Transformation) (ls edited : List Line) (o : Shown) : Type 0 where
  pub program : read_program entries ≡ gives X  -- 3
  pub few : length ls ≤ most_nodes  -- 4
  pub master_formed : Formed ls  -- 4
  pub bounds : master_bounds ls ≡ None  -- 5
  pub plain : unmarked ls ≡ None  -- 5
  pub shows : showing (one_master ls) X ≡ gives o  -- 6, 7
  pub formed : Formed edited  -- 8
  pub same : first_difference edited (view (one_master ls) o.value) ≡ None  -- 9
  pub free : program_mark edited ≡ None  -- 10

-- the rules, on these lines: the first clash, and what is handed back
abbrev pub clash_of : Transformation → List Line → List Line → Option ℕ
clash_of X ls edited = first_clash (standing_for (one_master ls) X edited) (numbered_from 0 ls)

abbrev pub handed_back_by : Transformation → List Line → List Line → List Line
handed_back_by X ls edited = lines_in (handed_back (standing_for (one_master ls) X edited) (numbered_from 0 ls))

-- the paper, on the same lines
abbrev pub put_back_by : Guard → Transformation → List Line → List Line → May (Sequence × PairContext)
put_back_by g X ls edited = backward g (in_paper X) [] (sequence ls) (sequence edited)

-- the view that it is given, with the marks that count: "A line marked 01 whose bytes equal the fresh line's counts as untouched."
abbrev pub counted_view : List Line → Shown → List Line → List Line
counted_view ls o edited = counted_lines (view (one_master ls) o.value) edited

-- a line of node n, whose text was compared, that is marked deleted
pub record Suspect (edited : List Line) (o : Shown) (n : ℕ) : Type 0 where
  pub place : ℕ
  pub copy : is_copy n o.value place ≡ true
  pub compared : among n o.compared ≡ true
  pub edit : (line_at edited place).mark ≡ deleted_mark

-- the rules on a view as written, the paper on that view with the marks that count
pub record PuttingBackAgrees (X : Transformation) (ls edited : List Line) (o : Shown) : Type 0 where
  -- where the rules have no clash, the paper with the strict guard hands back an S, and the lines handed back are S's,
  pub accepted : clash_of X ls edited ≡ None
      → (S : Sequence) × (put_back_by strict_guard X ls (counted_view ls o edited) ≡ got (S, [])) × (handed_back_by X ls edited ≡ paper_lines (kinds_in ls) S)
  -- and where they have one, it fails
  pub refused : (n : ℕ) → clash_of X ls edited ≡ Some n → put_back_by strict_guard X ls (counted_view ls o edited) ≡ fail
  -- as printed it accepts whatever the strict one accepts, with the same result,
  pub printed : (r : Sequence × PairContext) → put_back_by strict_guard X ls (counted_view ls o edited) ≡ got r → put_back_by guard X ls (counted_view ls o edited) ≡ got r
  -- where it fails the rules have a clash,
  pub failing : put_back_by guard X ls (counted_view ls o edited) ≡ fail → (n : ℕ) × (clash_of X ls edited ≡ Some n)
  -- and where it accepts a clash, the text in clash was compared, and deleted
  pub apart : (r : Sequence × PairContext) → put_back_by guard X ls (counted_view ls o edited) ≡ got r → (n : ℕ) → clash_of X ls edited ≡ Some n → Suspect edited o n
