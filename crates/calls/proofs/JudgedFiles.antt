-- What the judging of the program and of the master says, by what the scanner, the rules and the tree check answered.
use mathlib.Core.Path.{◌≡◌, refl, sym, ap, subst, ◌∙◌}
use Rattle.std.specs.Prelude.{Option, None, Some, Result as Answer, Ok, Err}
use mathlib.Core.Bool.{Bool}
use mathlib.Core.List.{List}
use Prim.Native.Nat.{ℕ, ◌-◌, ◌≤◌, ◌<◌}
use native.Mathlib.Nat.{sub-zero}
use native.Mathlib.Omega.{arith}
use lib.ListN.{length, take, length-map}
use lib.Seq.{length-take-le}
use Rattle.lines.specs.declared.scan.File.TheVariants.{Program, Master}
use Rattle.lines.specs.Nodes.{Line, nodes}
use Rattle.lines.specs.Entries.{Entry, entries}
use Rattle.lines.specs.Files.{limit_of, scan}
use Rattle.lines.specs.Verdicts.{reply}
use Rattle.lines.proofs.Theorems.Reading.{reads_master, reads_program, scanned_whole, said_lines}
use Rattle.lines.proofs.Theorems.RoundTrip.{nodes_writable, master_of_nodes}
use Rattle.lines.proofs.Theorems.Places.{fault_below}
use Rattle.lines.specs.Engine.Writes.{AllWritable}
use Rattle.lines.specs.Engine.Starts.{node_at, lines_of, entry_at, entries_of, Scanned}
use Rattle.runs.specs.Results.{Result, gives, stops}
use Rattle.runs.specs.Reading.{read_program, fault_of}
use Rattle.runs.specs.Engine.Runs.{Ended}
use Rattle.runs.specs.Engine.Checking.{Sized, CheckedWhole}
use Rattle.calls.specs.Judging.{formed, keeps, is_tree, master_rule, judged_master, judged_program}
use Rattle.calls.specs.Engine.Parts.{MasterGoes, MasterJudged, ProgramGoes, ProgramJudged}
use Rattle.calls.proofs.Places.{master_below}
use Rattle.calls.proofs.Noted.{lines_part, entries_part}

-- ## The master

pub master_misformed : (putting : Bool) (s : List ℕ) (line : ℕ) → scan Master s ≡ Err line → judged_master putting s ≡ stops (reply 4 line)
unfolding judged_master formed
master_misformed putting s line e = rw e

module _ (putting : Bool) {s before noted : List ℕ} {r : Answer ℕ ℕ} (x : Scanned Master s before noted r) (n : ℕ) (e : r ≡ Ok n) where
  master_lines : nodes s ≡ lines_of s (take n noted)
  master_lines = said_lines nodes node_at reads_master (scanned_whole x n e)

  master_scans : scan Master s ≡ Ok n
  master_scans = sym x.answer ∙ e

  pub master_few : n ≤ 128
  unfolding limit_of
  master_few = (scanned_whole x n e).few

  -- the rules judge the part of the places from 0 to n
  module _ {ls : List Line} (is : ls ≡ lines_of s (take (n - 0) noted)) where
    noted_are : ls ≡ lines_of s (take n noted)
    noted_are = lines_part s noted n is

    nodes_are : nodes s ≡ ls
    nodes_are = rw (is, sub-zero n) master_lines

    pub master_long : n ≤ length noted → length ls ≤ 128
    master_long h = rw (is, sub-zero n) (simp length-map (omega (arith, length-take-le n noted h, master_few)))

    module _ {v : Option ℕ} (rule : v ≡ master_rule putting ls) where
      pub master_faulty : (line : ℕ) → v ≡ Some line → judged_master putting s ≡ stops (reply 5 line)
      unfolding judged_master formed keeps
      master_faulty line f = rw (master_scans, nodes_are, ← rule, f)

      goes : n ≤ length noted → v ≡ None → MasterGoes putting s ls
      unfolding judged_master formed keeps
      goes h f =
          record {
            few = master_long h;
            lines = nodes_are;
            rule = sym rule ∙ f;
            form = subst AllWritable nodes_are (nodes_writable Master master_of_nodes s n master_scans);
            judged = rw (master_scans, nodes_are, ← rule, f);
          }

      pub master_goes : n ≤ length noted → v ≡ None → MasterJudged putting s noted (Ok n)
      master_goes h f = (master_few, subst (MasterGoes putting s) noted_are (goes h f))

      pub master_place : n ≤ length noted → (line : ℕ) → v ≡ Some line → line < 0x10000
      master_place h line f =
          let p = fault_below (length ls) (master_below putting ls) line (sym rule ∙ f) in
          omega (arith, master_long h)

-- ## The program

pub program_misformed : (s : List ℕ) (line : ℕ) → scan Program s ≡ Err line → judged_program s ≡ stops (reply 2 line)
unfolding judged_program formed
program_misformed s line e = rw e

-- a reading by its fault
fault_stops : {A : Type 0} (a : Result ℕ A) (place : ℕ) → Some place ≡ fault_of a → a ≡ stops place
unfolding fault_of
fault_stops (gives x) place e = absurd (let z : ◌≡◌ {A = ℕ} 0 1 = cc in omega arith)
fault_stops (stops p) place e = cc

fine_gives : {A : Type 0} (a : Result ℕ A) → None ≡ fault_of a → (x : A) × (a ≡ gives x)
unfolding fault_of
fine_gives (gives x) e = (x, refl)
fine_gives (stops p) e = absurd (let z : ◌≡◌ {A = ℕ} 0 1 = cc in omega arith)

module _ {s before noted : List ℕ} {r : Answer ℕ ℕ} (x : Scanned Program s before noted r) (n : ℕ) (e : r ≡ Ok n) where
  program_lines : entries s ≡ entries_of s (take n noted)
  program_lines = said_lines entries entry_at reads_program (scanned_whole x n e)

  program_scans : scan Program s ≡ Ok n
  program_scans = sym x.answer ∙ e

  pub program_few : n ≤ 96
  unfolding limit_of
  program_few = (scanned_whole x n e).few

  module _ {E : List Entry} (is : E ≡ entries_of s (take (n - 0) noted)) where
    noted_entries : E ≡ entries_of s (take n noted)
    noted_entries = entries_part s noted n is

    entries_are : entries s ≡ E
    entries_are = rw (is, sub-zero n) program_lines

    pub program_long : n ≤ length noted → length E ≤ 96
    program_long h = rw (is, sub-zero n) (simp length-map (omega (arith, length-take-le n noted h, program_few)))

    pub program_sized : n ≤ length noted → {ends : List ℕ} → 96 ≤ length ends → Sized E ends
    program_sized h long = record { few = program_long h; long = long }

    pub program_faulty : {ends : List ℕ} (place : ℕ) → CheckedWhole E ends (Err place) → judged_program s ≡ stops (reply 3 place)
    unfolding judged_program formed is_tree
    program_faulty place w = rw (program_scans, entries_are, fault_stops (read_program E) place w.verdict)

    program_sound : n ≤ length noted → {ends : List ℕ} (next : ℕ) → CheckedWhole E ends (Ok next) → ProgramGoes s E
    unfolding judged_program formed is_tree
    program_sound h {ends} next w =
        let g = fine_gives (read_program E) w.verdict in
        let reads : read_program (entries s) ≡ gives g.0 = ap read_program entries_are ∙ g.1 in
        record { few = program_long h; lines = entries_are; tree = g.0; read = g.1; judged = rw (program_scans, reads) }

    -- as many entries as places
    all_noted : n ≤ length noted → length E ≡ n
    all_noted h = ap length noted_entries ∙ length-map (take n noted) (entry_at s) ∙ length-take-le n noted h

    pub program_goes : n ≤ length noted → {ends : List ℕ} (next : ℕ) → CheckedWhole E ends (Ok next) → ProgramJudged s noted ends (Ok n)
    program_goes h {ends} next w =
        let ended = subst (λ (k : ℕ). Ended E (take k ends)) (w.ended.0 ∙ all_noted h) w.ended.1 in
        subst (λ (es : List Entry). (n ≤ 96) × ProgramGoes s es × Ended es (take n ends)) noted_entries (program_few, program_sound h next w, ended)
