-- The steps of a call, one after another: what one has promised gives the next what it asks.
use Prim.Native.Nat.{ℕ, ◌≤◌}
use Rattle.std.specs.Prelude.{None, Result as Answer, Ok, Err}
use native.Mathlib.Omega.{arith}
use mathlib.Core.Path.{◌≡◌, refl, sym, ap, subst, ◌∙◌}
use mathlib.Core.Bool.{Bool, true}
use mathlib.Core.List.{List, [], ◌∷◌}
use lib.ListN.{length}
use Rattle.lines.specs.Nodes.{Line}
use Rattle.lines.specs.Entries.{Entry}
use Rattle.lines.specs.Masters.{master_bounds}
use Rattle.lines.specs.Writing.{file_of}
use Rattle.lines.proofs.Theorems.Widths.{file_short}
use Rattle.lines.specs.Engine.Writes.{AllWritable, WroteLines}
use borrow.Author.Tests.{le-leb}
use Rattle.values.specs.Values.{Value, most_nodes, most_depth, shallow, within_bounds}
use Rattle.values.specs.Theorems.Forests.{Shallow}
use Rattle.runs.specs.Engine.Trees.{Stands}
use Rattle.runs.specs.Theorems.WholePrograms.{program_placed}
use Rattle.runs.proofs.Theorems.Bounds.{master_shows_good}
use Rattle.values.specs.Engine.Words.{value_at}
use Rattle.runs.specs.Results.{gives, ◌>>=◌}
use Rattle.runs.specs.Programs.{Transformation}
use Rattle.runs.specs.Reading.{read_program}
use Rattle.runs.specs.Showing.{Shown}
use Rattle.runs.specs.Grounds.{one_master, showing, view}
use Rattle.runs.specs.Engine.Runs.{Ended, made_by}
use Rattle.calls.specs.Judging.{Judged, judged_view, judged_standings, ran}
use Rattle.calls.specs.Outcomes.{settled, out_room}
use Rattle.calls.specs.declared.refusal.Refusal.{Refusal}
use Rattle.calls.specs.Engine.Parts.{show_room, put_back_room, Refuses, SettledBy, ProgramGoes, MasterGoes}
use Rattle.calls.specs.Engine.Parts.{Runnable, RunGoes, after_run, view_lines, ViewRoom, Comparable, ComparedBack}
use Rattle.calls.proofs.Theorems.Judged.{rule_bounds}
use Rattle.calls.proofs.Theorems.FreshLines.{fresh_writable, fresh_few, length_view}

-- ## One step, then the rest

module _ {A B : Type 0} (f : A → Judged B) where
  -- a refusal is the whole judging's
  pub refused_first : (j : Judged A) (r : Refusal) → Refuses j r → Refuses (j >>= f) r
  refused_first j r h = (rw h.0 refl, h.1)

pub refused_settles : (j : Judged (List Line)) (out : List ℕ) (r : Refusal) → Refuses j r → SettledBy j out out (Err r)
unfolding settled
refused_settles j out r h = (h.1, λ work. rw h.0 refl)

pub passed_settles : {A : Type 0} (f : A → Judged (List Line)) (j : Judged A) (a : A) → j ≡ gives a → (out out' : List ℕ) (answer : Answer ℕ Refusal)
    → SettledBy (f a) out out' answer → SettledBy (j >>= f) out out' answer
passed_settles f j a e out out' answer h = rw e h

-- the lines are the answer
pub written_settles : (ls : List Line) (out out' : List ℕ) (end : ℕ) → WroteLines ls out out' end → length (file_of ls) ≤ out_room → SettledBy (gives ls) out out' (Ok end)
unfolding settled
written_settles ls out out' end w short = let end = w.behind in (omega arith, λ work. rw (w.lines, w.behind) refl)

-- ## A value within the bounds

low : (v : Value) → Shallow v → shallow v ≡ true
unfolding shallow
low [] h = refl
low (x ∷ v) h = rw (le-leb x.depth most_depth h.0, low v h.1) refl

within : (v : Value) → length v ≤ most_nodes → Shallow v → within_bounds v ≡ true
unfolding within_bounds
within v a b = rw (le-leb (length v) most_nodes a, low v b) refl

-- ## A master by its lines

module _ {putting : Bool} {master : List ℕ} {L : List Line} (m : MasterGoes putting master L) where
  bounds : master_bounds L ≡ None
  bounds = rule_bounds putting L m.rule

-- ## Program and master, by their lines

module _ {program master : List ℕ} {putting : Bool} {E : List Entry} {L : List Line} (p : ProgramGoes program E) (m : MasterGoes putting master L) where
  pub stands : Stands E p.tree 0 (length E)
  stands = (program_placed E p.tree p.read).stands

  pub runnable : {ends : List ℕ} → Ended E ends → Runnable E ends L
  runnable ended = record { few_entries = p.few; few_lines = m.few; ended = ended; tree = p.tree; read = p.read }

  -- the run is judged on the lines as the code has them
  ran_here : (rest : Transformation → List Line → Shown → Judged (List Line))
      → after_run putting master program rest ≡ (ran (showing (one_master L) p.tree) >>= (λ o. rest p.tree L o))
  ran_here rest = rw (p.judged, m.judged) refl

  pub stopped_reaches : (r : Refusal) → ((X : Transformation) → read_program E ≡ gives X → Refuses (ran (showing (one_master L) X)) r)
      → (rest : Transformation → List Line → Shown → Judged (List Line)) → Refuses (after_run putting master program rest) r
  stopped_reaches r h rest =
      subst (λ (j : Judged (List Line)). Refuses j r) (sym (ran_here rest))
      (refused_first (λ o. rest p.tree L o) (ran (showing (one_master L) p.tree)) r (h p.tree p.read))

  ran_settles : (rest : Transformation → List Line → Shown → Judged (List Line)) (out out' : List ℕ) (answer : Answer ℕ Refusal) (o : Shown)
      → showing (one_master L) p.tree ≡ gives o → SettledBy (rest p.tree L o) out out' answer → SettledBy (after_run putting master program rest) out out' answer
  unfolding ran
  ran_settles rest out out' answer o e h =
      subst (λ (j : Judged (List Line)). SettledBy j out out' answer) (sym (ran_here rest))
      (passed_settles (λ o. rest p.tree L o) (ran (showing (one_master L) p.tree)) o (ap ran e) out out' answer h)

  -- what was shown fits
  module _ {w : List ℕ} {len : ℕ} (g : RunGoes E L w len) where
    abbrev pub o : Shown
    o = (g.shows p.tree (length E) stands).0

    pub shows : showing (one_master L) p.tree ≡ gives o
    shows = (g.shows p.tree (length E) stands).1

    shown_value : value_at (made_by E) w 128 len ≡ o.value
    shown_value = (g.shows p.tree (length E) stands).2

    shown_within : within_bounds (value_at (made_by E) w 128 len) ≡ true
    shown_within =
        let good = master_shows_good L (m.few) (bounds m) p.tree o shows in
        subst (λ v. within_bounds v ≡ true) (sym shown_value) (within o.value good.few good.low)

    fresh_form : AllWritable (view_lines E L w len)
    fresh_form =
        subst (λ v. AllWritable (view (one_master L) v)) (sym shown_value)
        (fresh_writable program p.tree p.judged L (m.form) (m.few) (bounds m) o shows)

    fresh_short : length (file_of (view_lines E L w len)) ≤ out_room
    fresh_short =
        file_short (view_lines E L w len) fresh_form
        (subst (λ k. k ≤ 128) (sym (length_view L (value_at (made_by E) w 128 len) ∙ ap length shown_value)) (fresh_few L (m.few) (bounds m) p.tree o shows))

    pub view_room : (out : List ℕ) → out_room ≤ length out → show_room ≤ length w → ViewRoom E L w len out
    view_room out a b = let k = g.few in let s = fresh_short in record { words = (omega arith, shown_within); room = omega arith }

    pub comparable : {ends : List ℕ} → Ended E ends → (out : List ℕ) → out_room ≤ length out → put_back_room ≤ length w → Comparable E ends L len w out
    comparable ended out a b =
        record { runnable = runnable ended; goes = g; shallow = shown_within; form = m.form; bounds = bounds m; room = a; work_room = b }

    -- the view's lines are what is shown
    pub shown_settles : (out out' : List ℕ) (end : ℕ) → WroteLines (view_lines E L w len) out out' end
        → SettledBy (after_run putting master program (λ X ls o. gives (view (one_master ls) o.value))) out out' (Ok end)
    shown_settles out out' end h =
        ran_settles (λ X ls o. gives (view (one_master ls) o.value)) out out' (Ok end) o shows
        (subst (λ v. SettledBy (gives (view (one_master L) v)) out out' (Ok end)) shown_value
        (written_settles (view_lines E L w len) out out' end h fresh_short))

    -- the edits carried back are what is left of putting back
    pub compared_settles : (edited out out' : List ℕ) (answer : Answer ℕ Refusal) → ComparedBack E L edited out out' answer
        → SettledBy (after_run putting master program (λ X ls o. judged_view (view (one_master ls) o.value) edited >>= (λ es. judged_standings (one_master ls) X es))) out out' answer
    compared_settles edited out out' answer h =
        ran_settles (λ X ls o. judged_view (view (one_master ls) o.value) edited >>= (λ es. judged_standings (one_master ls) X es)) out out' answer o shows (h p.tree p.read o shows)
