-- Showing and putting back do, on bytes, what the paper says: what passes replies 2 to 10 is what the agreements ask.
use Rattle.std.specs.Prelude.{ℕ, ◌≡◌, Bool, false, eqb, Option, None, Some}
use Rattle.std.proofs.Math.Path.{refl}
use Rattle.std.proofs.Common.{sym, ap, subst, ◌∙◌, arith}
use Rattle.std.proofs.Math.Bool.{true}
use mathlib.Core.List.{List, []}
use Rattle.std.proofs.lemmas.Bool.{eqb-false}
use Rattle.lines.specs.Nodes.{Line, nodes}
use Rattle.lines.specs.Entries.{entries}
use Rattle.lines.specs.Verdicts.{Reply}
use Rattle.lines.specs.Writing.{file_of}
use Rattle.runs.specs.declared.stop.Stop.{Stop}
use Rattle.runs.specs.declared.stop.Stop.TheVariants.{Source, Size}
use Rattle.runs.specs.Results.{Result, gives, stops, stop_number, ◌>>◌}
use Rattle.runs.specs.Programs.{Transformation}
use Rattle.runs.specs.Showing.{Shown}
use Rattle.runs.specs.Grounds.{one_master, showing, view}
use Rattle.calls.specs.Judging.{keeps, ran, judged_program, judged_master, judged_view, judged_standings, judged_show, judged_put_back}
use Rattle.calls.specs.Outcomes.{show_call, put_back_call}
use Rattle.calls.proofs.Theorems.Judged.{Holds, program_passed, master_passed, rule_unmarked, ran_gives, view_passed, standings_passed, show_passed, put_back_passed}
use Rattle.lines.specs.Theorems.LineRules.{fields_at, rule_kind}
use Rattle.lines.specs.Theorems.PutAt.{put_front}
use Rattle.calls.proofs.Theorems.Replies.{Refusing, gives_refusing, bind_refusing, program_refusing, master_refusing, ran_refusing, view_refusing, standings_refusing}
use Rattle.calls.proofs.Theorems.Replies.{show_refusals, put_back_refusals, by_outcome}
use Rattle.paper.specs.Data.{Sequence, fail, got}
use Rattle.paper.specs.Operators.{Guard, guard}
use Rattle.paper.specs.Strict.{strict_guard}
use Rattle.paper.specs.Lines.{paper_lines, kinds_in}
use Rattle.paper.specs.Calls.{Whole, OnPaper, shown_by_paper, ViewOnPaper, put_back_by_paper, ShownAsPaper, ShowsAsPaper, PutBackAsPaper, PutsBackAsPaper}
use Rattle.paper.specs.Agreement.{Formed, ShownAlike, PassedTen, PuttingBackAgrees, clash_of, handed_back_by, put_back_by, counted_view}
use Rattle.paper.proofs.Theorems.Adequacy.{showing_agrees, master_read, view_read, putting_back_agrees}

-- ## What was judged is what the agreements ask

holds_formed : (s : List ℕ) (ls : List Line) → Holds s ls → Formed ls
holds_formed s ls h i = rule_kind _ _ _ (fields_at ls h.form i).rule

kinds_held : (s : List ℕ) (ls : List Line) → Holds s ls → (S : Sequence) → paper_lines (kinds_in ls) S ≡ paper_lines (kinds_in (nodes s)) S
kinds_held s ls h S = rw h.lines

-- 6
abbrev Stops : List ℕ → List ℕ → Type 0
Stops master program = (g : OnPaper master program) × (shown_by_paper g.tree master ≡ fail)

module _ (master program : List ℕ) (X : Transformation) (p : judged_program program ≡ gives X) where
  abbrev given : (putting : Bool) (ls : List Line) → judged_master putting master ≡ gives ls → OnPaper master program
  given putting ls m =
      let M = master_passed putting master ls m in
      record {
        tree = X;
        reads = (program_passed program X p).read;
        whole = rw M.holds.lines (ap file_of (master_read ls M.holds.few (holds_formed master ls M.holds) M.bounds) ∙ M.holds.file);
      }

  shown_alike : (putting : Bool) (ls : List Line) → judged_master putting master ≡ gives ls → ShownAlike ls (showing (one_master ls) X) (shown_by_paper X master)
  shown_alike putting ls m =
      let M = master_passed putting master ls m in
      rw M.holds.lines (showing_agrees (entries program) X (program_passed program X p).read ls M.holds.few (holds_formed master ls M.holds) M.bounds)

  shown_lines : (putting : Bool) (ls : List Line) → judged_master putting master ≡ gives ls → (o : Shown) → showing (one_master ls) X ≡ gives o
      → ShownAlike ls (gives o) (shown_by_paper X master)
  shown_lines putting ls m o shows = subst (λ (x : Result Stop Shown). ShownAlike ls x (shown_by_paper X master)) shows (shown_alike putting ls m)

  pub passed_ten : (edited : List ℕ) (ls : List Line) → judged_master true master ≡ gives ls → (o : Shown) → showing (one_master ls) X ≡ gives o
      → (es : List Line) → judged_view (view (one_master ls) o.value) edited ≡ gives es → PassedTen (entries program) X ls es o
  passed_ten edited ls m o shows es v =
      let M = master_passed true master ls m in
      let W = view_passed (view (one_master ls) o.value) edited es v in
      record {
        program = (program_passed program X p).read;
        few = M.holds.few;
        master_formed = holds_formed master ls M.holds;
        bounds = M.bounds;
        plain = rule_unmarked ls M.rule;
        shows = shows;
        formed = holds_formed edited es W.holds;
        same = W.same;
        free = W.marks;
      }

  -- a run that stops for its source
  stopped_fails : (putting : Bool) (ls : List Line) → judged_master putting master ≡ gives ls → (r : Reply) → ran (showing (one_master ls) X) ≡ stops r → r.number ≡ 6
      → Stops master program
  unfolding ran stop_number
  stopped_fails putting ls m r = go (showing (one_master ls) X) (shown_alike putting ls m)
    where
      go : (x : Result Stop Shown) → ShownAlike ls x (shown_by_paper X master) → ran x ≡ stops r → r.number ≡ 6 → Stops master program
      go (gives o) a h n = absurd (gives_refusing (λ _. ⊥) o r h)
      go (stops (Source e)) a h n = (given putting ls m, a)
      go (stops (Size e)) a h n = let z : 7 ≡ r.number = cc in absurd (omega arith)

-- ## Showing

shown_done : (master program : List ℕ) (vs : List Line) → judged_show master program ≡ gives vs
    → (g : OnPaper master program) × (T : Sequence) × (shown_by_paper g.tree master ≡ got T) × (vs ≡ paper_lines (kinds_in (nodes master)) T)
shown_done master program vs h =
    let s = show_passed master program vs h in
    let M = master_passed false master s.ls s.master_judged in
    let a = shown_lines master program s.tree s.program_judged false s.ls s.master_judged _ s.shows in
    (given master program s.tree s.program_judged false s.ls s.master_judged, a.0, a.1, sym s.lines ∙ a.2 ∙ kinds_held master s.ls M.holds a.0)

show_stopped : (master program : List ℕ) → Refusing (λ n. n ≡ 6 → Stops master program) (judged_show master program)
unfolding judged_show
show_stopped master program =
    let S : ℕ → Type 0 = λ n. n ≡ 6 → Stops master program in
    bind_refusing S (judged_program program) _ (program_refusing S program (λ z. absurd (omega arith)) (λ z. absurd (omega arith))) λ X p.
    bind_refusing S (judged_master false master) _ (master_refusing S false master (λ z. absurd (omega arith)) (λ z. absurd (omega arith))) λ ls m.
    bind_refusing S (ran (showing (one_master ls) X)) _ (stopped_fails master program X p false ls m) λ o r.
    gives_refusing S (view (one_master ls) o.value)

pub shows_as_paper : ShowsAsPaper show_call
unfolding show_call
shows_as_paper master program out work =
    by_outcome (ShownAsPaper master program) (judged_show master program) out work
    (λ _. record { done = λ z. absurd (omega arith); stopped = λ z. absurd (omega arith); others = omega arith })
    (λ r _ j.
    let s = show_refusals master program r j in
    record { done = λ z. absurd (omega arith); stopped = show_stopped master program r j; others = s.1 })
    (λ vs _ j.
    let a = shown_done master program vs j in
    record { done = λ _. (a.0, a.1, a.2, put_front out (file_of vs) ∙ ap file_of a.3); stopped = λ z. absurd (omega arith); others = omega arith })

-- ## Putting back

-- 0
abbrev HandsBack : List ℕ → List ℕ → List ℕ → List Line → Type 0
HandsBack master program edited hs =
    (v : ViewOnPaper master program edited)
    × (S : Sequence)
    × (put_back_by_paper strict_guard v ≡ got (S, []))
    × (put_back_by_paper guard v ≡ got (S, []))
    × (hs ≡ paper_lines (kinds_in (nodes master)) S)

-- 11
abbrev Fails : List ℕ → List ℕ → List ℕ → Type 0
Fails master program edited = (v : ViewOnPaper master program edited) × (put_back_by_paper strict_guard v ≡ fail)

module _ (master program edited : List ℕ) (X : Transformation) (p : judged_program program ≡ gives X) (ls : List Line) (m : judged_master true master ≡ gives ls)
    (o : Shown) (shows : showing (one_master ls) X ≡ gives o) (es : List Line) (v : judged_view (view (one_master ls) o.value) edited ≡ gives es) where
  view_whole : Whole master edited
  view_whole =
      let M = master_passed true master ls m in
      let W = view_passed (view (one_master ls) o.value) edited es v in
      rw (M.holds.lines, W.holds.lines) (ap file_of (view_read (entries program) X ls es o (passed_ten master program X p edited ls m o shows es v)) ∙ W.holds.file)

  agrees : PuttingBackAgrees X ls es o
  agrees = putting_back_agrees (entries program) X ls es o (passed_ten master program X p edited ls m o shows es v)

  fresh : ShownAlike ls (gives o) (shown_by_paper X master)
  fresh = shown_lines master program X p true ls m o shows

  abbrev on_paper : ViewOnPaper master program edited
  on_paper = record { given = given master program X p true ls m; shown = fresh.0; shows = fresh.1; whole = view_whole }

  -- the paper's answer is that of the lines, since what it shows are the fresh ones
  on_lines : (g : Guard) → put_back_by_paper g on_paper ≡ put_back_by g X ls (counted_view ls o es)
  on_lines g =
      let M = master_passed true master ls m in
      let W = view_passed (view (one_master ls) o.value) edited es v in
      rw (M.holds.lines, W.holds.lines, fresh.2)

  standings_done : (hs : List Line) → judged_standings (one_master ls) X es ≡ gives hs → HandsBack master program edited hs
  standings_done hs h =
      let s = standings_passed (one_master ls) X es hs h in
      let a = agrees.accepted s.0 in
      let M = master_passed true master ls m in (
        on_paper,
        a.0,
        on_lines strict_guard ∙ a.1,
        on_lines guard ∙ agrees.printed (a.0, []) a.1,
        sym s.1 ∙ a.2 ∙ kinds_held master ls M.holds a.0,
      )

  -- a clash
  clash_fails : (r : Reply) → judged_standings (one_master ls) X es ≡ stops r → Fails master program edited
  unfolding judged_standings keeps
  clash_fails r = go (clash_of X ls es) refl
    where
      go : (c : Option ℕ) → clash_of X ls es ≡ c → (keeps 11 c >> gives (handed_back_by X ls es)) ≡ stops r → Fails master program edited
      go None e h = absurd (gives_refusing (λ _. ⊥) (handed_back_by X ls es) r h)
      go (Some n) e h = (on_paper, on_lines strict_guard ∙ agrees.refused n e)

put_back_done : (master program edited : List ℕ) (hs : List Line) → judged_put_back master program edited ≡ gives hs → HandsBack master program edited hs
put_back_done master program edited hs h =
    let s = put_back_passed master program edited hs h in
    standings_done master program edited s.tree s.program_judged s.ls s.master_judged s.shown s.shows s.es s.view_judged hs s.standings_judged

-- the two refusals that the paper knows
module _ (master program edited : List ℕ) where
  abbrev Refuses : ℕ → Type 0
  Refuses n = (n ≡ 6 → Stops master program) × (n ≡ 11 → Fails master program edited)

  neither : (n : ℕ) → eqb n 6 ≡ false → eqb n 11 ≡ false → Refuses n
  neither n p q = (λ z. absurd (eqb-false n 6 p z), λ z. absurd (eqb-false n 11 q z))

  put_back_refuses : Refusing Refuses (judged_put_back master program edited)
  unfolding judged_put_back
  put_back_refuses =
      bind_refusing Refuses (judged_program program) _ (program_refusing Refuses program (neither 2 refl refl) (neither 3 refl refl)) λ X p.
      bind_refusing Refuses (judged_master true master) _ (master_refusing Refuses true master (neither 4 refl refl) (neither 5 refl refl)) λ ls m.
      bind_refusing Refuses (ran (showing (one_master ls) X)) _ (λ r h. (stopped_fails master program X p true ls m r h, λ z. absurd (ran_number ls X r h z))) λ o shows.
      bind_refusing Refuses (judged_view (view (one_master ls) o.value) edited) _
      (view_refusing Refuses (view (one_master ls) o.value) edited (neither 8 refl refl) (neither 9 refl refl) (neither 10 refl refl)) λ es v.
      (λ r h.
      (λ z. absurd (standings_number ls X es r h z), λ _. clash_fails master program edited X p ls m o (ran_gives (showing (one_master ls) X) o shows) es v r h))
    where
      ran_number : (ls : List Line) (X : Transformation) → Refusing (λ n. n ≡ 11 → ⊥) (ran (showing (one_master ls) X))
      ran_number ls X = ran_refusing (λ n. n ≡ 11 → ⊥) (showing (one_master ls) X) (λ z. omega arith) (λ z. omega arith)

      standings_number : (ls : List Line) (X : Transformation) (es : List Line) → Refusing (λ n. n ≡ 6 → ⊥) (judged_standings (one_master ls) X es)
      standings_number ls X es = standings_refusing (λ n. n ≡ 6 → ⊥) (one_master ls) X es (λ z. omega arith)

pub puts_back_as_paper : PutsBackAsPaper put_back_call
unfolding put_back_call
puts_back_as_paper master program edited out work =
    by_outcome (PutBackAsPaper master program edited) (judged_put_back master program edited) out work
    (λ _. record { done = λ z. absurd (omega arith); stopped = λ z. absurd (omega arith); clashed = λ z. absurd (omega arith); others = omega arith })
    (λ r _ j.
    let s = put_back_refusals master program edited r j in
    let q = put_back_refuses master program edited r j in
    record { done = λ z. absurd (omega arith); stopped = q.0; clashed = q.1; others = s.1 })
    (λ hs _ j.
    let a = put_back_done master program edited hs j in
    record {
      done = λ _. (a.0, a.1, a.2, a.3, put_front out (file_of hs) ∙ ap file_of a.4);
      stopped = λ z. absurd (omega arith);
      clashed = λ z. absurd (omega arith);
      others = omega arith;
    })
