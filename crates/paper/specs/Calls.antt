-- Demand 2 of any calls, on bytes: what they write is what section 3 of the paper yields of the files' lines, a view's with the marks that count,
-- and where they refuse a run or a clash the paper fails. Test 11 is a comparison by a judge (`judge_of`); `as_printed` says where that is `xeq`.
use Rattle.std.specs.Prelude.{ℕ, ◌≤◌, ◌≡◌, List, []}
use Rattle.lines.specs.Nodes.{nodes}
use Rattle.lines.specs.Entries.{entries}
use Rattle.lines.specs.Views.{counted_lines}
use Rattle.lines.specs.Writing.{file_of}
use Rattle.runs.specs.Results.{gives}
use Rattle.runs.specs.Programs.{Transformation}
use Rattle.runs.specs.Reading.{read_program}
use Rattle.calls.specs.Outcomes.{Outcome}
use Rattle.calls.specs.Demands.{ShowLike, PutLike, number_of, written}
use Rattle.paper.specs.Data.{Sequence, May, fail, got}
use Rattle.paper.specs.Contexts.{PairContext}
use Rattle.paper.specs.Operators.{Guard, guard}
use Rattle.paper.specs.Strict.{strict_guard}
use Rattle.paper.specs.Semantics.{forward, backward}
use Rattle.paper.specs.Programs.{in_paper}
use Rattle.paper.specs.Lines.{sequence, paper_lines, kinds_in}

-- ## The files as the paper takes them

-- the paper's data as a file; texts have the kinds that the master gives their nodes
abbrev pub paper_file : List ℕ → Sequence → List ℕ
paper_file master S = file_of (paper_lines (kinds_in (nodes master)) S)

-- nothing of a file is lost: its lines, read as the paper's data and printed, are the file again, byte for byte
abbrev pub Whole : List ℕ → List ℕ → Type 0
Whole master file = paper_file master (sequence (nodes file)) ≡ file

-- a program and a master that the paper can take: the program is a tree, and the master is read whole
pub record OnPaper (master program : List ℕ) : Type 0 where
  pub tree : Transformation
  pub reads : read_program (entries program) ≡ gives tree
  pub whole : Whole master master

-- what the paper shows
abbrev pub shown_by_paper : Transformation → List ℕ → May Sequence
shown_by_paper X master = forward (in_paper X) [] (sequence (nodes master))

-- a view besides: the paper shows something of the master, and the view is read whole
pub record ViewOnPaper (master program edited : List ℕ) : Type 0 where
  pub given : OnPaper master program
  pub shown : Sequence
  pub shows : shown_by_paper given.tree master ≡ got shown
  pub whole : Whole master edited

-- what the paper puts back: the view with the marks that count, "A line marked 01 whose bytes equal the fresh line's counts as untouched",
-- where the fresh lines are those of what the paper itself shows
abbrev pub put_back_by_paper : {master program edited : List ℕ} → Guard → ViewOnPaper master program edited → May (Sequence × PairContext)
put_back_by_paper {master} {program} {edited} g v =
    backward g (in_paper v.given.tree) [] (sequence (nodes master)) (sequence (counted_lines (paper_lines (kinds_in (nodes master)) v.shown) (nodes edited)))

-- ## Showing

pub record ShownAsPaper (master program : List ℕ) (r : Outcome) : Type 0 where
  -- 0: the paper yields a T, and the bytes written are T's
  pub done : number_of r ≡ 0 → (g : OnPaper master program) × (T : Sequence) × (shown_by_paper g.tree master ≡ got T) × (written r ≡ paper_file master T)
  -- 6: the paper fails
  pub stopped : number_of r ≡ 6 → (g : OnPaper master program) × (shown_by_paper g.tree master ≡ fail)
  -- the others are 1 to 5, which judge buffers and files, and 7, for size, which the paper has not
  pub others : number_of r ≤ 7

abbrev pub ShowsAsPaper : ShowLike → Type 0
ShowsAsPaper show = (master program out work : List ℕ) → ShownAsPaper master program (show master program out work)

-- ## Putting back

pub record PutBackAsPaper (master program edited : List ℕ) (r : Outcome) : Type 0 where
  -- 0: the paper hands back an S, with the strict guard and with its own, and the bytes written are S's
  pub done : number_of r ≡ 0
      → (v : ViewOnPaper master program edited)
      × (S : Sequence)
      × (put_back_by_paper strict_guard v ≡ got (S, []))
      × (put_back_by_paper guard v ≡ got (S, []))
      × (written r ≡ paper_file master S)
  -- 6: it fails to show
  pub stopped : number_of r ≡ 6 → (g : OnPaper master program) × (shown_by_paper g.tree master ≡ fail)
  -- 11: with the strict guard it fails to put back
  pub clashed : number_of r ≡ 11 → (v : ViewOnPaper master program edited) × (put_back_by_paper strict_guard v ≡ fail)
  -- the others are 1 to 5 and 8 to 10, which judge buffers and files, and 7, for size, which the paper has not
  pub others : number_of r ≤ 11

abbrev pub PutsBackAsPaper : PutLike → Type 0
PutsBackAsPaper put = (master program edited out work : List ℕ) → PutBackAsPaper master program edited (put master program edited out work)
