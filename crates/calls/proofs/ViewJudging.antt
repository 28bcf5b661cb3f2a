-- What the judging of an edited view says, by what the scanner and the two comparisons answered.
use mathlib.Core.Path.{◌≡◌, sym, ap, subst, ◌∙◌}
use Rattle.std.specs.Prelude.{Option, None, Some, Result, Ok, Err}
use mathlib.Core.List.{List}
use Prim.Native.Nat.{ℕ, ◌-◌, ◌≤◌, ◌<◌}
use native.Mathlib.Omega.{arith}
use lib.ListN.{length, take, length-map}
use Rattle.lines.specs.declared.scan.File.TheVariants.{View}
use Rattle.lines.specs.Files.{limit_of, scan}
use Rattle.lines.specs.Hex.{decode}
use Rattle.lines.specs.Lines.{cut}
use Rattle.lines.specs.Nodes.{Line, nodes, node_of}
use Rattle.lines.specs.Verdicts.{reply}
use Rattle.lines.specs.Views.{first_difference, program_marked, program_mark}
use Rattle.lines.proofs.Theorems.Reading.{reads_view, scan_count, scanned_whole, said_lines}
use Rattle.lines.proofs.Theorems.Places.{first_below, fault_below, difference_inside}
use Rattle.lines.proofs.Theorems.RoundTrip.{nodes_writable, view_of_nodes}
use Rattle.lines.specs.Engine.Starts.{Scanned, node_at, lines_of}
use Rattle.lines.specs.Engine.Writes.{AllWritable}
use native.Mathlib.Nat.{sub-zero}
use Rattle.runs.specs.Results.{stops}
use Rattle.calls.specs.Judging.{formed, keeps, judged_view}
use Rattle.calls.specs.Engine.Parts.{ViewGoes, ViewJudged}
use Rattle.calls.proofs.Noted.{lines_part}

-- ## Answers

-- what the comparison with the fresh lines answered
pub record Differs (fresh : List Line) (s : List ℕ) (v : Option ℕ) : Type 0 where
  pub place : (line : ℕ) → v ≡ Some line → line < 0x10000
  pub judged : (line : ℕ) → v ≡ Some line → judged_view fresh s ≡ stops (reply 9 line)

-- what the search for the program's marks answered
pub record Marked (fresh : List Line) (s noted : List ℕ) (n : ℕ) (u : Option ℕ) : Type 0 where
  pub place : (line : ℕ) → u ≡ Some line → line < 0x10000
  pub judged : (line : ℕ) → u ≡ Some line → judged_view fresh s ≡ stops (reply 10 line)
  pub goes : u ≡ None → ViewJudged fresh s noted (Ok n)

pub view_misformed : (fresh : List Line) (s : List ℕ) (line : ℕ) → scan View s ≡ Err line → judged_view fresh s ≡ stops (reply 8 line)
unfolding judged_view formed
view_misformed fresh s line e = rw e

module _ {s before noted : List ℕ} {r : Result ℕ ℕ} (x : Scanned View s before noted r) (n : ℕ) (e : r ≡ Ok n) where
  view_scans : scan View s ≡ Ok n
  view_scans = sym x.answer ∙ e

  pub view_few : n ≤ 128
  unfolding limit_of
  view_few = (scanned_whole x n e).few

  -- the lines at the part of the places from 0 to n
  module _ {es : List Line} (is : es ≡ lines_of s (take (n - 0) noted)) where
    noted_are : es ≡ lines_of s (take n noted)
    noted_are = lines_part s noted n is

    lines_are : nodes s ≡ es
    lines_are = rw (is, sub-zero n) (said_lines nodes node_at reads_view (scanned_whole x n e))

    few_lines : length es ≤ 128
    unfolding nodes
    few_lines = omega (arith, ap length lines_are, length-map (cut s) (λ c. node_of (decode c)), scan_count View s n view_scans, view_few)

    module _ (fresh : List Line) {v : Option ℕ} (compared : v ≡ first_difference es fresh) where
      view_differs : (line : ℕ) → v ≡ Some line → judged_view fresh s ≡ stops (reply 9 line)
      unfolding judged_view formed keeps
      view_differs line f = rw (view_scans, lines_are, ← compared, f)

      difference_place : (line : ℕ) → v ≡ Some line → line < 0x10000
      unfolding first_difference
      difference_place line f =
          let p = difference_inside 0 es fresh line (sym compared ∙ f) in
          omega (arith, p, few_lines)

      pub differs : Differs fresh s v
      differs = record { place = difference_place; judged = view_differs }

      module _ (same : v ≡ None) {u : Option ℕ} (marks : u ≡ program_mark es) where
        view_marked : (line : ℕ) → u ≡ Some line → judged_view fresh s ≡ stops (reply 10 line)
        unfolding judged_view formed keeps
        view_marked line f = rw (view_scans, lines_are, ← compared, same, ← marks, f)

        mark_place : (line : ℕ) → u ≡ Some line → line < 0x10000
        unfolding program_mark
        mark_place line f =
            let p = fault_below _ (first_below program_marked 0 es) line (sym marks ∙ f) in
            omega (arith, p, few_lines)

        view_goes : u ≡ None → ViewGoes fresh s es
        unfolding judged_view formed keeps
        view_goes f =
            record {
              few = few_lines;
              lines = lines_are;
              form = subst AllWritable lines_are (nodes_writable View view_of_nodes s n view_scans);
              judged = rw (view_scans, lines_are, ← compared, same, ← marks, f);
            }

        pub marked : Marked fresh s noted n u
        marked = record { place = mark_place; judged = view_marked; goes = λ f. (view_few, subst (ViewGoes fresh s) noted_are (view_goes f)) }
