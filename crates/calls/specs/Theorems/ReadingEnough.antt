-- Reading one byte more than the longest legal file is enough: the outcome on the bytes read is the outcome on the whole file.
use Rattle.std.specs.Prelude.{◌≡◌, refl, Bool, true, false, List, ℕ, ◌<◌, take, Result, Ok, Err}
use Rattle.std.proofs.Common.{ap, ◌∙◌, arith, take_all}
use Rattle.lines.specs.declared.scan.File.{File}
use Rattle.lines.specs.declared.scan.File.TheVariants.{Program, Master, View}
use Rattle.lines.specs.Files.{limit_of, widest_of, longest_of, scan}
use Rattle.lines.specs.Nodes.{Line}
use Rattle.lines.proofs.Theorems.Widths.{scanned_short}
use Rattle.lines.proofs.Theorems.LongFiles.{cut_long}
use Rattle.runs.specs.Grounds.{one_master, showing, view}
use Rattle.runs.specs.Theorems.Congruence.{bind_same}
use Rattle.calls.specs.Judging.{Judged, formed, ran, judged_program, judged_master, judged_view, judged_show, judged_put_back}
use Rattle.calls.specs.Outcomes.{called, show_call, put_back_call}

-- a judging that refuses a file where its scan does is the same on what was read of it
module _ {A : Type 0} (file : File) (judged : List ℕ → Judged A)
    (refuses : (s t : List ℕ) (line : ℕ) → scan file s ≡ Err line → scan file t ≡ Err line → judged s ≡ judged t) (s : List ℕ) (k : ℕ) (far : longest_of file < k) where
  enough_read : judged (take k s) ≡ judged s
  enough_read = go (scan file s) refl
    where
      go : (r : Result ℕ ℕ) → scan file s ≡ r → judged (take k s) ≡ judged s
      go (Ok n) e = ap judged (take_all k s (omega (arith, scanned_short file s n e)))
      go (Err line) e = refuses (take k s) s line (cut_long file s k far ∙ e) e

program_read : (program : List ℕ) (k : ℕ) → 6624 < k → judged_program (take k program) ≡ judged_program program
unfolding judged_program formed longest_of limit_of widest_of
program_read = enough_read Program judged_program (λ s t line e f. rw (e, f))

pub master_read : (putting : Bool) (master : List ℕ) (k : ℕ) → 9856 < k → judged_master putting (take k master) ≡ judged_master putting master
unfolding judged_master formed longest_of limit_of widest_of
master_read putting = enough_read Master (judged_master putting) (λ s t line e f. rw (e, f))

view_read : (fresh : List Line) (edited : List ℕ) (k : ℕ) → 9856 < k → judged_view fresh (take k edited) ≡ judged_view fresh edited
unfolding judged_view formed longest_of limit_of widest_of
view_read fresh = enough_read View (judged_view fresh) (λ s t line e f. rw (e, f))

-- ## Any bytes more

pub show_read : (m p : ℕ) → 9856 < m → 6624 < p → (master program out work : List ℕ) → show_call (take m master) (take p program) out work ≡ show_call master program out work
unfolding show_call judged_show
show_read m p far near master program out work = rw (program_read program p near, master_read false master m far)

pub put_back_read : (m p v : ℕ) → 9856 < m → 6624 < p → 9856 < v → (master program edited out work : List ℕ)
    → put_back_call (take m master) (take p program) (take v edited) out work ≡ put_back_call master program edited out work
unfolding put_back_call judged_put_back
put_back_read m p v far near wide master program edited out work =
    ap (λ (judged : Judged (List Line)). called judged out work)
    (bind_same (judged_program (take p program)) (judged_program program) _ _ (program_read program p near) λ X _.
    bind_same (judged_master true (take m master)) (judged_master true master) _ _ (master_read true master m far) λ ls _.
    bind_same (ran (showing (one_master ls) X)) (ran (showing (one_master ls) X)) _ _ refl λ o _.
    bind_same (judged_view (view (one_master ls) o.value) (take v edited)) (judged_view (view (one_master ls) o.value) edited) _ _
    (view_read (view (one_master ls) o.value) edited v wide) λ es _. refl)

-- ## One byte more: what the programs read

pub show_reads_enough : (master program out work : List ℕ) → show_call (take 9857 master) (take 6625 program) out work ≡ show_call master program out work
show_reads_enough = show_read 9857 6625 (omega arith) (omega arith)

pub put_back_reads_enough : (master program edited out work : List ℕ)
    → put_back_call (take 9857 master) (take 6625 program) (take 9857 edited) out work ≡ put_back_call master program edited out work
put_back_reads_enough = put_back_read 9857 6625 9857 (omega arith) (omega arith) (omega arith)
