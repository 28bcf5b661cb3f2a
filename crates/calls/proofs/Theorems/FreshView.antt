-- The fresh view put back returns the master's own bytes.
use Rattle.std.specs.Prelude.{◌≡◌, refl, true, false, List, [], ◌∷◌, ℕ, suc, eqb, length, take, None}
use Rattle.std.proofs.Common.{sym, ap, subst, ◌∙◌, arith, eq-eqb}
use Rattle.std.proofs.Math.Bool.{and-false}
use Rattle.lines.specs.Nodes.{Line, untouched_mark, program_number, is_marked, nodes}
use Rattle.lines.specs.Masters.{unmarked}
use Rattle.lines.specs.Verdicts.{first_from, earlier}
use Rattle.lines.specs.Views.{same_head, same_line, difference_from, first_difference, program_marked, program_mark}
use Rattle.lines.specs.Writing.{file_of, put_at}
use Rattle.lines.specs.Theorems.Bools.{or_right}
use Rattle.lines.specs.Theorems.MasterRules.{unmarked_at}
use Rattle.lines.specs.Theorems.SameTexts.{same_text_refl}
use Rattle.values.specs.Values.{Value}
use Rattle.runs.specs.Results.{gives}
use Rattle.runs.specs.Grounds.{numbered_from, shown_line, one_master, view}
use Rattle.runs.proofs.Theorems.FreshView.{Unmarked, fresh_mark, one_unmarked, one_fresh}
use Rattle.runs.specs.Theorems.Inversion.{gives_inj}
use Rattle.calls.specs.Judging.{ran, master_rule, judged_master, judged_show, judged_put_back}
use Rattle.calls.specs.Outcomes.{outcome, enough, cleared, settled, called, show_call, put_back_call}
use Rattle.calls.proofs.Theorems.Judged.{master_passed, master_passes, master_shows, rule_unmarked, view_passes, standings_pass, show_passed}
use Rattle.calls.proofs.Theorems.Replies.{show_refusals, done_lines}
use Rattle.calls.proofs.Theorems.FreshLines.{fresh_writable, fresh_few, length_view}

-- ## A view beside itself

same_line_refl : (l : Line) → same_line l l ≡ true
unfolding same_line same_head
same_line_refl l =
    let text = or_right (eqb l.mark 1) true refl in
    rw (eq-eqb l.depth l.depth refl, eq-eqb l.kind l.kind refl, eq-eqb l.number l.number refl, same_text_refl l.text, text)

no_difference : (k : ℕ) (ls : List Line) → difference_from k ls ls ≡ None
unfolding difference_from
no_difference k [] = refl
no_difference k (l ∷ ls) = rw (same_line_refl l) (no_difference (suc k) ls)

-- ## No marks

untouched_line : (l : Line) → l.mark ≡ untouched_mark → program_marked l ≡ false
unfolding program_marked is_marked
untouched_line l h = rw h (and-false (eqb l.number program_number))

no_program_mark : (ls : List Line) → Unmarked (numbered_from 0 ls) → (k : ℕ) (v : Value) → first_from program_marked k (view (one_master ls) v) ≡ None
unfolding first_from view
no_program_mark ls u k [] = refl
no_program_mark ls u k (x ∷ v) =
    rw (untouched_line (shown_line (numbered_from 0 ls) x.depth x.origin) (fresh_mark (numbered_from 0 ls) u x.depth x.origin)) (no_program_mark ls u (suc k) v)

-- ## The theorem, on the lines judged

pub fresh_returns : (master program : List ℕ) (ls vs : List Line) → judged_master true master ≡ gives ls → judged_show master program ≡ gives vs
    → (judged_put_back master program (file_of vs) ≡ gives ls) × (file_of ls ≡ master)
unfolding judged_put_back ran first_difference program_mark
fresh_returns master program ls vs put shown =
    let s = show_passed master program vs shown in
    let m = master_passed true master ls put in
    let same : s.ls ≡ ls = gives_inj s.ls ls (sym s.master_judged ∙ master_shows master ls put) in
    let shows = rw same at s.shows in
    let u = unmarked_at ls (rule_unmarked ls m.rule) in
    let fresh = view (one_master ls) s.shown.value in
    let is : fresh ≡ vs = (rw same at s.lines) in
    let form = fresh_writable program s.tree s.program_judged ls m.holds.form m.holds.few m.bounds s.shown shows in
    let few = fresh_few ls m.holds.few m.bounds s.tree s.shown shows in
    let judged =
    view_passes fresh fresh form (omega (arith, length_view ls s.shown.value)) (no_difference 0 fresh) (no_program_mark ls (one_unmarked 0 ls u) 0 s.shown.value) in
    let f = one_fresh ls s.tree s.shown shows u in
    (rw (← is, s.program_judged, put, shows, judged) (standings_pass (one_master ls) s.tree fresh f.0 ∙ ap gives f.1), m.holds.file)

-- ## The theorem, on bytes

-- a master that can be shown and carries no mark can be put back to
unmarked_passes : (master : List ℕ) (ls : List Line) → judged_master false master ≡ gives ls → unmarked ls ≡ None → judged_master true master ≡ gives ls
unfolding master_rule earlier
unmarked_passes master ls h u =
    let m = master_passed false master ls h in
    subst (λ (s : List ℕ). judged_master true s ≡ gives ls) m.holds.file (master_passes true ls m.holds.form m.holds.few (rw (m.bounds, u)))

called_done : (ls : List Line) (out work : List ℕ) → enough out work ≡ true
    → called (gives ls) out work ≡ outcome 0 0 (length (file_of ls)) (put_at out 0 (file_of ls)) (cleared work)
unfolding called settled
called_done ls out work room = rw room

-- where a master without marks is shown, what the output begins with is put back to the master's own bytes
pub fresh_view_returns : (master program out work : List ℕ) (place n : ℕ) (out' work' : List ℕ) → unmarked (nodes master) ≡ None
    → show_call master program out work ≡ outcome 0 place n out' work'
    → (out₂ work₂ : List ℕ) → enough out₂ work₂ ≡ true
    → put_back_call master program (take n out') out₂ work₂ ≡ outcome 0 0 (length master) (put_at out₂ 0 master) (cleared work₂)
unfolding show_call put_back_call
fresh_view_returns master program out work place n out' work' none h out₂ work₂ room =
    done_lines 7 (judged_show master program) (show_refusals master program) out work place n out' work' h λ vs judged file.
    let s = show_passed master program vs judged in
    let m = master_passed false master s.ls s.master_judged in
    let put = unmarked_passes master s.ls s.master_judged (rw m.holds.lines at none) in
    let r = fresh_returns master program s.ls vs put judged in
    rw (file, r.0) (called_done s.ls out₂ work₂ room ∙ rw r.1)
