-- Demand 3 and the sweep together: after a put-back that answered 0, the swept master is what the edits say.
use Rattle.std.specs.Prelude.{ℕ, ◌≡◌, List}
use Rattle.std.proofs.Common.{sym, ap, subst, ◌∙◌, inl, inr, arith}
use Rattle.lines.specs.Nodes.{Line, nodes, untouched_mark, deleted_mark}
use Rattle.sweeping.specs.Demands.{MarkedDeleted, SweepsBy}
use Rattle.sweeping.specs.Theorems.Demands.{sweeps_alike}
use Rattle.calls.specs.Outcomes.{put_back_call}
use Rattle.calls.specs.Demands.{written, fresh_lines, HasEdits}
use Rattle.calls.specs.Sweeping.{sweep_call}
use Rattle.calls.specs.SweepDemands.{numbers_given, DeletedInView, SweepsAfter}
use Rattle.calls.proofs.Theorems.Returned.{returned_passes}
use Rattle.calls.specs.Theorems.ClashSearch.{EditedOrNot, edited_or_not}
use Rattle.calls.proofs.Theorems.Demand3.{demand3}
use Rattle.calls.proofs.Theorems.Sweeping.{sweep_demand}

-- a master's lines, the fresh view's, the edited one's, and the returned ones: deleted there is deleted in the view
module _ (ls fs es rs : List Line) (has : HasEdits ls fs es rs) (n : ℕ) where
  deleted_there : MarkedDeleted rs n → DeletedInView fs es n
  deleted_there d = go (edited_or_not fs es n)
    where
      go : EditedOrNot fs es n → DeletedInView fs es n
      go (inl (i, e)) = (i, e, sym (ap (λ (l : Line). l.mark) (has.edits n i e)) ∙ d)
      go (inr none) = absurd (let z : untouched_mark ≡ deleted_mark = sym (has.unedited n none).0 ∙ d in omega arith)

  deleted_here : DeletedInView fs es n → MarkedDeleted rs n
  deleted_here (i, e, d) = ap (λ (l : Line). l.mark) (has.edits n i e) ∙ d

pub sweeps_after : SweepsAfter put_back_call sweep_call
sweeps_after master program edited out work given done out₂ numbers₂ room =
    let returned = written (put_back_call master program edited out work) in
    let fresh = fresh_lines given in
    let has = (demand3 master program edited out work given).returned done in
    let a = sweep_demand.answers returned out₂ numbers₂ room (nodes returned) (returned_passes master program edited out work done) in
    let by-view =
    sweeps_alike (deleted_there given.lines fresh (nodes edited) (nodes returned) has) (deleted_here given.lines fresh (nodes edited) (nodes returned) has) a.sweeps in
    let r = sweep_call returned out₂ numbers₂ in (
      a.writes.done.0,
      (nodes returned, has, subst (λ (n : ℕ). SweepsBy (DeletedInView fresh (nodes edited)) (nodes returned) (nodes (written r)) (numbers_given n r)) has.count by-view),
    )
