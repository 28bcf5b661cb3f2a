-- Files by the places that were noted: what is judged of the first n of them holds of the part that the code reads.
use mathlib.Core.Path.{◌≡◌, sym, ap, subst, ◌∙◌}
use Rattle.std.specs.Prelude.{Ok}
use mathlib.Core.Bool.{Bool}
use mathlib.Core.List.{List}
use Prim.Native.Nat.{ℕ, ◌-◌}
use native.Mathlib.Nat.{sub-zero}
use lib.ListN.{take}
use Rattle.lines.specs.Nodes.{Line}
use Rattle.lines.specs.Entries.{Entry}
use Rattle.lines.specs.Engine.Starts.{lines_of, entries_of}
use Rattle.runs.specs.Engine.Runs.{Ended}
use Rattle.calls.specs.declared.reach.Reached.{Reached}
use Rattle.calls.specs.Engine.Parts.{ProgramGoes, ProgramJudged, MasterGoes, MasterJudged, ViewGoes, ViewJudged, RunGoes, RunReached}

-- ## The part of the places from 0 to n is the first n

module _ (s starts : List ℕ) (n : ℕ) where
  pub lines_part : {ls : List Line} → ls ≡ lines_of s (take (n - 0) starts) → ls ≡ lines_of s (take n starts)
  lines_part is = is ∙ ap (λ (k : ℕ). lines_of s (take k starts)) (sub-zero n)

  pub entries_part : {es : List Entry} → es ≡ entries_of s (take (n - 0) starts) → es ≡ entries_of s (take n starts)
  entries_part is = is ∙ ap (λ (k : ℕ). entries_of s (take k starts)) (sub-zero n)

-- ## The files, by the lines that are read

module _ (program starts ends : List ℕ) (n : ℕ) (p : ProgramJudged program starts ends (Ok n)) {E : List Entry} (is : E ≡ entries_of program (take n starts)) where
  pub program_noted : ProgramGoes program E
  program_noted = subst (ProgramGoes program) (sym is) p.1

  pub ended_noted : {part : List ℕ} → part ≡ take n ends → Ended E part
  ended_noted at = subst (Ended E) (sym at) (subst (λ (es : List Entry). Ended es (take n ends)) (sym is) p.2)

pub master_noted : (putting : Bool) (master starts : List ℕ) (n : ℕ) → MasterJudged putting master starts (Ok n)
    → {L : List Line} → L ≡ lines_of master (take n starts) → MasterGoes putting master L
master_noted putting master starts n m is = subst (MasterGoes putting master) (sym is) m.1

pub view_noted : (fresh : List Line) (edited starts : List ℕ) (n : ℕ) → ViewJudged fresh edited starts (Ok n)
    → {es : List Line} → es ≡ lines_of edited (take n starts) → ViewGoes fresh edited es
view_noted fresh edited starts n v is = subst (ViewGoes fresh edited) (sym is) v.1

-- ## What was reached, by what is read

pub run_as : {E E' : List Entry} {L L' : List Line} {w : List ℕ} {shown : ℕ} → E ≡ E' → L ≡ L' → RunGoes E L w shown → RunGoes E' L' w shown
run_as {E} {E'} {L} {L'} {w} {shown} e l g =
    subst (λ (ls : List Line). RunGoes E' ls w shown) l (subst (λ (es : List Entry). RunGoes es L w shown) e g)

pub record Read (putting : Bool) (master program w : List ℕ) (E : List Entry) (ends : List ℕ) (L : List Line) (shown : ℕ) : Type 0 where
  pub of_program : ProgramGoes program E
  pub ended : Ended E ends
  pub of_master : MasterGoes putting master L
  pub of_run : RunGoes E L w shown

pub read_at : {putting : Bool} {master program starts ends lines w : List ℕ} {r : Reached} → RunReached putting master program starts ends lines w r
    → {E : List Entry} {part : List ℕ} {L : List Line} → E ≡ entries_of program (take r.entries starts) → part ≡ take r.entries ends
    → L ≡ lines_of master (take r.nodes lines) → Read putting master program w E part L r.shown
read_at {putting} {master} {program} {starts} {ends} {lines} {w} {r} reached {E} {part} {L} e p l =
    record {
      of_program = program_noted program starts ends r.entries reached.of_program e;
      ended = ended_noted program starts ends r.entries reached.of_program e p;
      of_master = master_noted putting master lines r.nodes reached.of_master l;
      of_run = run_as (sym e) (sym l) reached.of_run;
    }
