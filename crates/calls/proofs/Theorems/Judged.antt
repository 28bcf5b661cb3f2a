-- What a judging that was passed says of its file; and what passes it.
use Rattle.std.specs.Prelude.{◌≡◌, refl, Bool, true, false, cond, List, ℕ, ◌≤◌, leb, length, Option, None, Some, Result as Answer, Ok, Err}
use Rattle.std.proofs.Common.{sym, ap, subst, ◌∙◌, arith}
use Rattle.std.proofs.lemmas.List.{length-map}
use Rattle.lines.specs.declared.scan.File.TheVariants.{Program, Master, View}
use Rattle.lines.specs.declared.scan.File.{File}
use Rattle.lines.specs.Files.{scan, limit_of}
use Rattle.lines.specs.Hex.{decode}
use Rattle.lines.specs.Lines.{cut}
use Rattle.lines.specs.Nodes.{Line, node_of, nodes}
use Rattle.lines.specs.Entries.{entries}
use Rattle.lines.specs.Masters.{master_bounds, unmarked}
use Rattle.lines.specs.Verdicts.{reply, earlier}
use Rattle.lines.specs.Views.{first_difference, program_mark}
use Rattle.lines.specs.Writing.{file_of}
use Rattle.lines.proofs.Theorems.Reading.{scan_count}
use Rattle.lines.proofs.Theorems.RoundTrip.{OfNodes, master_of_nodes, view_of_nodes, scan_written, rewrite_file, nodes_writable, nodes_written}
use Rattle.lines.proofs.Theorems.Widths.{scan_few}
use Rattle.lines.specs.Engine.Starts.{taken}
use Rattle.lines.specs.Engine.Writes.{AllWritable}
use Rattle.runs.specs.declared.stop.Stop.{Stop}
use Rattle.runs.specs.Results.{Result, gives, stops, ◌>>◌, stop_number, stop_entry}
use Rattle.runs.specs.Programs.{Transformation}
use Rattle.runs.specs.Reading.{read_program}
use Rattle.runs.specs.Showing.{Shown}
use Rattle.runs.specs.Grounds.{Ground, one_master, showing, view, standing_for, first_clash, handed_back, lines_in}
use Rattle.runs.specs.Theorems.Inversion.{no_gives, gives_inj, on_gives, on_bind}
use Rattle.calls.specs.Judging.{formed, keeps, is_tree, ran, judged_program, master_rule, judged_master, judged_view, judged_standings, judged_show, judged_put_back}

-- ## One step

pub on_after : {E A C : Type 0} (r : Result E (Unit {0})) (s : Result E A) (a : A) → (r >> s) ≡ gives a → (r ≡ gives tt → s ≡ gives a → C) → C
on_after (gives u) s a h k = k refl h
on_after (stops e) s a h k = absurd (no_gives e a h)

pub formed_lines : {C : Type 0} (k : ℕ) (s : Answer ℕ ℕ) → formed k s ≡ gives tt → ((n : ℕ) → s ≡ Ok n → C) → C
unfolding formed
formed_lines k (Ok n) h f = f n refl
formed_lines k (Err line) h f = absurd (no_gives (reply k line) tt h)

pub keeps_fine : (k : ℕ) (v : Option ℕ) → keeps k v ≡ gives tt → v ≡ None
unfolding keeps
keeps_fine k None h = refl
keeps_fine k (Some place) h = absurd (no_gives (reply k place) tt h)

pub is_tree_gives : (k : ℕ) (r : Result ℕ Transformation) (X : Transformation) → is_tree k r ≡ gives X → r ≡ gives X
unfolding is_tree
is_tree_gives k (gives Y) X h = ap gives (gives_inj Y X h)
is_tree_gives k (stops place) X h = absurd (no_gives (reply k place) X h)

pub ran_gives : (r : Result Stop Shown) (o : Shown) → ran r ≡ gives o → r ≡ gives o
unfolding ran
ran_gives (gives a) o h = ap gives (gives_inj a o h)
ran_gives (stops s) o h = absurd (no_gives (reply (stop_number s) (stop_entry s)) o h)

-- ## Lines and their file

-- lines that are the whole of a file, and the file theirs
pub record Holds (s : List ℕ) (ls : List Line) : Type 0 where
  pub lines : nodes s ≡ ls
  pub form : AllWritable ls
  pub few : length ls ≤ 128
  pub file : file_of ls ≡ s

length_nodes : (file : File) (s : List ℕ) (n : ℕ) → scan file s ≡ Ok n → length (nodes s) ≡ n
unfolding nodes
length_nodes file s n e = length-map (cut s) (λ c. node_of (decode c)) ∙ sym (scan_count file s n e)

scanned_holds : (file : File) → OfNodes file → limit_of file ≡ 128 → (s : List ℕ) (n : ℕ) → scan file s ≡ Ok n → Holds s (nodes s)
scanned_holds file of limit s n e =
    let few = subst (λ (r : Answer ℕ ℕ). taken r ≤ limit_of file) e (scan_few file s) in
    record { lines = refl; form = nodes_writable file of s n e; few = omega (arith, length_nodes file s n e); file = rewrite_file file of s n e }

pub master_holds : (s : List ℕ) (n : ℕ) → scan Master s ≡ Ok n → Holds s (nodes s)
unfolding limit_of
master_holds = scanned_holds Master master_of_nodes refl

pub view_holds : (s : List ℕ) (n : ℕ) → scan View s ≡ Ok n → Holds s (nodes s)
unfolding limit_of
view_holds = scanned_holds View view_of_nodes refl

-- ## The three files

-- 2 and 3: the program's lines have the form, and the tree is theirs
pub record ProgramPassed (program : List ℕ) (X : Transformation) : Type 0 where
  pub count : ℕ
  pub scanned : scan Program program ≡ Ok count
  pub read : read_program (entries program) ≡ gives X

pub program_passed : (program : List ℕ) (X : Transformation) → judged_program program ≡ gives X → ProgramPassed program X
unfolding judged_program
program_passed program X h =
    on_after (formed 2 (scan Program program)) _ X h λ f t.
    formed_lines 2 (scan Program program) f λ n e.
    record { count = n; scanned = e; read = is_tree_gives 3 (read_program (entries program)) X t }

earlier_fine : (v w : Option ℕ) → earlier v w ≡ None → (v ≡ None) × (w ≡ None)
unfolding earlier
earlier_fine None w h = (refl, h)
earlier_fine (Some i) None h = (h, refl)
earlier_fine (Some i) (Some j) h = go (leb i j) h
  where
    go : (b : Bool) → cond b (Some i) (Some j) ≡ None → (Some i ≡ None) × (Some j ≡ None)
    go true q = (q, cc)
    go false q = (cc, q)

-- the bounds hold whether marks are allowed or not
pub rule_bounds : (putting : Bool) (ls : List Line) → master_rule putting ls ≡ None → master_bounds ls ≡ None
unfolding master_rule
rule_bounds false ls h = h
rule_bounds true ls h = (earlier_fine (master_bounds ls) (unmarked ls) h).0

pub rule_unmarked : (ls : List Line) → master_rule true ls ≡ None → unmarked ls ≡ None
unfolding master_rule
rule_unmarked ls h = (earlier_fine (master_bounds ls) (unmarked ls) h).1

-- 4 and 5
pub record MasterPassed (putting : Bool) (master : List ℕ) (ls : List Line) : Type 0 where
  pub holds : Holds master ls
  pub rule : master_rule putting ls ≡ None
  pub bounds : master_bounds ls ≡ None

pub master_passed : (putting : Bool) (master : List ℕ) (ls : List Line) → judged_master putting master ≡ gives ls → MasterPassed putting master ls
unfolding judged_master
master_passed putting master ls h =
    on_after (formed 4 (scan Master master)) _ ls h λ f h₁.
    on_after (keeps 5 (master_rule putting (nodes master))) _ ls h₁ λ k h₂.
    formed_lines 4 (scan Master master) f λ n e.
    let r = keeps_fine 5 (master_rule putting (nodes master)) k in
    on_gives (λ z. MasterPassed putting master z) (nodes master) ls h₂ (record { holds = master_holds master n e; rule = r; bounds = rule_bounds putting (nodes master) r })

pub master_passes : (putting : Bool) (ls : List Line) → AllWritable ls → length ls ≤ 128 → master_rule putting ls ≡ None → judged_master putting (file_of ls) ≡ gives ls
unfolding judged_master formed keeps limit_of
master_passes putting ls form few rule = rw (scan_written Master master_of_nodes ls form few, nodes_written ls form, rule)

-- a master put back to may also be shown
pub master_shows : (master : List ℕ) (ls : List Line) → judged_master true master ≡ gives ls → judged_master false master ≡ gives ls
unfolding master_rule
master_shows master ls h =
    let m = master_passed true master ls h in
    subst (λ (s : List ℕ). judged_master false s ≡ gives ls) m.holds.file (master_passes false ls m.holds.form m.holds.few m.bounds)

-- 8, 9 and 10
pub record ViewPassed (fresh : List Line) (edited : List ℕ) (es : List Line) : Type 0 where
  pub holds : Holds edited es
  pub same : first_difference es fresh ≡ None
  pub marks : program_mark es ≡ None

pub view_passed : (fresh : List Line) (edited : List ℕ) (es : List Line) → judged_view fresh edited ≡ gives es → ViewPassed fresh edited es
unfolding judged_view
view_passed fresh edited es h =
    on_after (formed 8 (scan View edited)) _ es h λ f h₁.
    on_after (keeps 9 (first_difference (nodes edited) fresh)) _ es h₁ λ d h₂.
    on_after (keeps 10 (program_mark (nodes edited))) _ es h₂ λ m h₃.
    formed_lines 8 (scan View edited) f λ n e.
    on_gives (λ z. ViewPassed fresh edited z) (nodes edited) es h₃
    (record { holds = view_holds edited n e; same = keeps_fine 9 (first_difference (nodes edited) fresh) d; marks = keeps_fine 10 (program_mark (nodes edited)) m })

pub view_passes : (fresh es : List Line) → AllWritable es → length es ≤ 128 → first_difference es fresh ≡ None → program_mark es ≡ None → judged_view fresh (file_of es) ≡ gives es
unfolding judged_view formed keeps limit_of
view_passes fresh es form few same marks = rw (scan_written View view_of_nodes es form few, nodes_written es form, same, marks)

-- 11
pub standings_passed : (G : Ground) (X : Transformation) (es hs : List Line) → judged_standings G X es ≡ gives hs
    → (first_clash (standing_for G X es) G.lines ≡ None) × (lines_in (handed_back (standing_for G X es) G.lines) ≡ hs)
unfolding judged_standings
standings_passed G X es hs h =
    on_after (keeps 11 (first_clash (standing_for G X es) G.lines)) _ hs h λ k h₁.
    (keeps_fine 11 (first_clash (standing_for G X es) G.lines) k, gives_inj _ hs h₁)

pub standings_pass : (G : Ground) (X : Transformation) (es : List Line) → first_clash (standing_for G X es) G.lines ≡ None
    → judged_standings G X es ≡ gives (lines_in (handed_back (standing_for G X es) G.lines))
unfolding judged_standings keeps
standings_pass G X es h = rw h

-- ## Showing and putting back

pub record ShowPassed (master program : List ℕ) (vs : List Line) : Type 0 where
  pub tree : Transformation
  pub ls : List Line
  pub shown : Shown
  pub program_judged : judged_program program ≡ gives tree
  pub master_judged : judged_master false master ≡ gives ls
  pub shows : showing (one_master ls) tree ≡ gives shown
  pub lines : view (one_master ls) shown.value ≡ vs

pub show_passed : (master program : List ℕ) (vs : List Line) → judged_show master program ≡ gives vs → ShowPassed master program vs
unfolding judged_show
show_passed master program vs h =
    on_bind (judged_program program) _ vs h λ X p h₁.
    on_bind (judged_master false master) _ vs h₁ λ ls m h₂.
    on_bind (ran (showing (one_master ls) X)) _ vs h₂ λ o r h₃.
    record { tree = X; ls = ls; shown = o; program_judged = p; master_judged = m; shows = ran_gives (showing (one_master ls) X) o r; lines = gives_inj _ vs h₃ }

pub record PutBackPassed (master program edited : List ℕ) (hs : List Line) : Type 0 where
  pub tree : Transformation
  pub ls : List Line
  pub shown : Shown
  pub es : List Line
  pub program_judged : judged_program program ≡ gives tree
  pub master_judged : judged_master true master ≡ gives ls
  pub shows : showing (one_master ls) tree ≡ gives shown
  pub view_judged : judged_view (view (one_master ls) shown.value) edited ≡ gives es
  pub standings_judged : judged_standings (one_master ls) tree es ≡ gives hs

pub put_back_passed : (master program edited : List ℕ) (hs : List Line) → judged_put_back master program edited ≡ gives hs → PutBackPassed master program edited hs
unfolding judged_put_back
put_back_passed master program edited hs h =
    on_bind (judged_program program) _ hs h λ X p h₁.
    on_bind (judged_master true master) _ hs h₁ λ ls m h₂.
    on_bind (ran (showing (one_master ls) X)) _ hs h₂ λ o r h₃.
    on_bind (judged_view (view (one_master ls) o.value) edited) _ hs h₃ λ es v h₄.
    record {
      tree = X;
      ls = ls;
      shown = o;
      es = es;
      program_judged = p;
      master_judged = m;
      shows = ran_gives (showing (one_master ls) X) o r;
      view_judged = v;
      standings_judged = h₄;
    }
