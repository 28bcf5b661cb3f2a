-- The lines handed back can be written again, are as many as the master's, and keep its bounds. So the returned master is sound.
use Rattle.std.specs.Prelude.{◌≡◌, true, false, List, ℕ, ◌≤◌, ◌<◌, length, take, get_or, None}
use Rattle.std.proofs.Common.{sym, subst, ◌∙◌, arith}
use Rattle.lines.specs.Nodes.{Line, nodes, no_line}
use Rattle.lines.specs.Masters.{master_bounds}
use Rattle.lines.specs.Views.{first_difference}
use Rattle.lines.specs.Writing.{file_of}
use Rattle.lines.specs.Theorems.PutAt.{put_front}
use Rattle.lines.proofs.Theorems.RoundTrip.{nodes_written}
use Rattle.lines.proofs.Theorems.Widths.{file_short}
use Rattle.lines.specs.Theorems.MasterRules.{bounds_at}
use Rattle.lines.specs.Theorems.LineRules.{line_rule, Fields, fields_at, all_writable}
use Rattle.lines.specs.Engine.Writes.{AllWritable}
use Rattle.runs.specs.Results.{gives}
use Rattle.runs.specs.Programs.{Transformation}
use Rattle.runs.specs.Showing.{Shown}
use Rattle.runs.specs.Grounds.{numbered_from, lines_in, one_master, showing, view, standing_for, handed_back}
use Rattle.runs.proofs.Theorems.Demand3.{Accepted, formed_after}
use Rattle.runs.specs.Theorems.Inversion.{no_gives}
use Rattle.runs.proofs.Theorems.OneMaster.{one_covered, length_handed_back, one_handed_back, one_bounds}
use Rattle.runs.proofs.Theorems.SameView.{same_formed}
use Rattle.calls.specs.Judging.{master_rule, judged_master, judged_standings, judged_show, judged_put_back}
use Rattle.calls.specs.Outcomes.{outcome, show_call, put_back_call}
use Rattle.calls.specs.Demands.{number_of, written}
use Rattle.calls.proofs.Theorems.Judged.{standings_passed, master_passed, view_passed, put_back_passed, master_passes}
use Rattle.calls.proofs.Theorems.Replies.{Refusing, show_refusing, put_back_refusals, by_outcome, done_lines}
use Rattle.calls.proofs.Theorems.FreshLines.{fields_of}

-- ## On lines

pub record Returned (ls hs : List Line) : Type 0 where
  pub form : AllWritable hs
  pub long : length hs ≡ length ls
  pub bounds : master_bounds hs ≡ None

module _ (ls : List Line) (form : AllWritable ls) (few : length ls ≤ 128) (bounds : master_bounds ls ≡ None)
    (X : Transformation) (o : Shown) (shows : showing (one_master ls) X ≡ gives o)
    (es : List Line) (edited-form : AllWritable es) (same : first_difference es (view (one_master ls) o.value) ≡ None) where
  abbrev handed : List Line
  handed = lines_in (handed_back (standing_for (one_master ls) X es) (numbered_from 0 ls))

  handed_bounds : master_bounds handed ≡ None
  handed_bounds = one_bounds (standing_for (one_master ls) X es) ls ∙ bounds

  handed_fields : Accepted (one_master ls) X es → (n : ℕ) → n < length handed → Fields (get_or handed n no_line)
  unfolding master_bounds
  handed_fields accepted n h =
      let s = standing_for (one_master ls) X es in
      let b = bounds_at 0 0 handed handed_bounds n h in
      let l = length_handed_back s 0 ls in
      let at = one_handed_back s ls n in
      let rule =
      formed_after (one_master ls) X o shows es (one_covered ls) line_rule accepted n (fields_of 0 ls form n).rule
      (same_formed line_rule (one_master ls) o es same (λ i. (fields_at es edited-form i).rule) n) in
      record { depth = omega arith; number = omega arith; rule = rw at rule }

  pub returned_writable : (hs : List Line) → judged_standings (one_master ls) X es ≡ gives hs → Returned ls hs
  returned_writable hs h =
      let p = standings_passed (one_master ls) X es hs h in
      subst (Returned ls) p.1 (record { form = all_writable handed (handed_fields p.0); long = length_handed_back _ 0 ls; bounds = handed_bounds })

-- ## On bytes

pub returned_lines : (master program edited : List ℕ) (hs : List Line) → judged_put_back master program edited ≡ gives hs
    → AllWritable hs × (length hs ≤ 128) × (master_bounds hs ≡ None)
returned_lines master program edited hs h =
    let p = put_back_passed master program edited hs h in
    let m = master_passed true master p.ls p.master_judged in
    let v = view_passed _ edited p.es p.view_judged in
    let handed = returned_writable p.ls m.holds.form m.holds.few m.bounds p.tree p.shown p.shows p.es v.holds.form v.same in
    let r = handed hs p.standings_judged in
    let few = m.holds.few in
    let long = r.long in
    (r.form, omega arith, r.bounds)

-- the returned master passes 4 and 5 when it is shown
pub returned_sound : (master program edited : List ℕ) (hs : List Line) → judged_put_back master program edited ≡ gives hs → judged_master false (file_of hs) ≡ gives hs
unfolding master_rule
returned_sound master program edited hs h =
    let r = returned_lines master program edited hs h in
    master_passes false hs r.0 r.1 r.2

-- as the bytes that putting back writes
pub returned_passes : (master program edited out work : List ℕ) → let r = put_back_call master program edited out work in
    number_of r ≡ 0 → judged_master false (written r) ≡ gives (nodes (written r))
unfolding put_back_call
returned_passes master program edited out work =
    by_outcome (λ z. number_of z ≡ 0 → judged_master false (written z) ≡ gives (nodes (written z))) (judged_put_back master program edited) out work
    (λ _ e. absurd (omega arith))
    (λ r _ j e. let s = put_back_refusals master program edited r j in absurd (omega arith))
    (λ hs _ j _.
    rw (put_front out (file_of hs), nodes_written hs (returned_lines master program edited hs j).0) (returned_sound master program edited hs j))

-- and fits the output buffer
pub put_back_short : (master program edited : List ℕ) (hs : List Line) → judged_put_back master program edited ≡ gives hs → length (file_of hs) ≤ 9856
put_back_short master program edited hs h = let r = returned_lines master program edited hs h in file_short hs r.0 r.1

-- a master that passes 4 and 5 is not refused with them, whatever the program
abbrev Neither : ℕ → Type 0
Neither number = (number ≡ 4 → ⊥) × (number ≡ 5 → ⊥)

neither_judged : (master program : List ℕ) (ls : List Line) → judged_master false master ≡ gives ls → Refusing Neither (judged_show master program)
neither_judged master program ls h =
    show_refusing Neither master program (omega arith) (omega arith) (λ r m. absurd (no_gives r ls (sym m ∙ h))) (omega arith) (omega arith)

neither_called : (master program out work : List ℕ) (ls : List Line) → judged_master false master ≡ gives ls
    → (number place n : ℕ) (out' work' : List ℕ) → show_call master program out work ≡ outcome number place n out' work' → Neither number
unfolding show_call
neither_called master program out work ls h number place n out' work' =
    by_outcome (λ z. z ≡ outcome number place n out' work' → Neither number) (judged_show master program) out work
    (λ _ e. subst Neither (let z : 1 ≡ number = cc in z) (omega arith))
    (λ r _ j e. subst Neither (let z : r.number ≡ number = cc in z) (neither_judged master program ls h r j))
    (λ vs _ _ e. subst Neither (let z : 0 ≡ number = cc in z) (omega arith))

-- showing the returned bytes answers neither 4 nor 5
pub returned_shows : (master program edited out work : List ℕ) (place n : ℕ) (out' work' : List ℕ) → put_back_call master program edited out work ≡ outcome 0 place n out' work'
    → (program₂ out₂ work₂ : List ℕ) (number₂ place₂ n₂ : ℕ) (out₂' work₂' : List ℕ) → show_call (take n out') program₂ out₂ work₂ ≡ outcome number₂ place₂ n₂ out₂' work₂'
    → (number₂ ≡ 4 → ⊥) × (number₂ ≡ 5 → ⊥)
unfolding put_back_call
returned_shows master program edited out work place n out' work' h program₂ out₂ work₂ =
    done_lines 11 (judged_put_back master program edited) (put_back_refusals master program edited) out work place n out' work' h λ hs judged file.
    neither_called (take n out') program₂ out₂ work₂ hs (rw file (returned_sound master program edited hs judged))
