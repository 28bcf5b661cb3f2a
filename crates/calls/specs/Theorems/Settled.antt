-- From a judging that settles to a call's outcome.
use Rattle.std.specs.Prelude.{ℕ, ◌≤◌, ◌<◌, ◌≡◌, ◌⊎◌, refl, Bool, true, false, cond, ◌&&◌, List, leb, length, drop, replicate, Err}
use Rattle.std.proofs.Common.{sym, ap, ◌∙◌, inl, inr, subst, arith, le-leb, take_all}
use Rattle.std.proofs.lemmas.List.{length-replicate}
use Rattle.std.proofs.lemmas.Bool.{lt-leb}
use Rattle.lines.specs.Nodes.{Line}
use Rattle.lines.specs.Writing.{put_at}
use Rattle.lines.specs.Theorems.PutAt.{front_same}
use Rattle.std.proofs.lemmas.Slice.{put_mid-paste}
use borrow.Rule.Slice.PartMut.{put_mid}
use Rattle.calls.specs.Judging.{Judged}
use Rattle.calls.specs.Outcomes.{outcome, out_room, work_room, enough, cleared, settled, called}
use Rattle.calls.specs.Engine.Parts.{replied, Settles}
use Rattle.calls.specs.declared.refusal.Refusal.TheVariants.{Room}
use Rattle.calls.specs.declared.reply.Reply.{Reply}

-- ## Reply 1

pub short_out : (j : Judged (List Line)) (out work : List ℕ) (r : Reply) → r ≡ replied (Err Room) → length out < out_room
    → outcome r.number r.place r.length out work ≡ called j out work
unfolding called enough
short_out j out work r e h = rw (e, lt-leb out_room (length out) h) refl

pub short_work : (j : Judged (List Line)) (out work : List ℕ) (r : Reply) → r ≡ replied (Err Room) → length work < work_room
    → outcome r.number r.place r.length out work ≡ called j out work
unfolding called enough
short_work j out work r e h = rw e (go (leb out_room (length out)))
  where
    go : (b : Bool) → outcome 1 0 0 out work ≡ cond (b && leb work_room (length work)) (settled j out (cleared work)) (outcome 1 0 0 out work)
    go true = rw (lt-leb work_room (length work) h) refl
    go false = refl

pub short_either : (j : Judged (List Line)) (out work : List ℕ) (r : Reply) → r ≡ replied (Err Room)
    → (length out < out_room) ⊎ ((out_room ≤ length out) × (length work < work_room)) → outcome r.number r.place r.length out work ≡ called j out work
short_either j out work r e (inl h) = short_out j out work r e h
short_either j out work r e (inr h) = short_work j out work r e h.1

-- ## With room

-- what stands behind the n first places decides
zeros_before : (n : ℕ) (left work : List ℕ) → drop n left ≡ drop n work → put_at left 0 (replicate n 0) ≡ put_at work 0 (replicate n 0)
zeros_before n left work h = front_same left work (replicate n 0) (subst (λ (k : ℕ). drop k left ≡ drop k work) (sym (length-replicate {A = ℕ} n 0)) h)

pub settled_call : (j : Judged (List Line)) (out out' work left : List ℕ) (r : Reply) → out_room ≤ length out → work_room ≤ length work → drop work_room left ≡ drop work_room work
    → Settles j out out' r → outcome r.number r.place r.length out' (put_at left 0 (replicate work_room 0)) ≡ called j out work
unfolding called enough cleared
settled_call j out out' work left r a b e h = rw (le-leb out_room (length out) a, le-leb work_room (length work) b, zeros_before work_room left work e) (h _)

put_over_front : (w : List ℕ) (k : ℕ) (ys new : List ℕ) → ys ≡ new → k ≡ length new → put_mid 0 k w ys ≡ put_at w 0 new
unfolding put_at
put_over_front w k ys new e l = put_mid-paste 0 k w ys new k e refl l ∙ rw (l, take_all (length new) new (omega arith))

-- the work room was lent as a part, which then is filled with zeros
pub settled_clears : (j : Judged (List Line)) (out out' work zeros : List ℕ) (n : ℕ) (r : Reply) → out_room ≤ length out → work_room ≤ length work
    → n ≡ work_room → zeros ≡ replicate n 0 → Settles j out out' r → outcome r.number r.place r.length out' (put_mid 0 work_room work zeros) ≡ called j out work
settled_clears j out out' work zeros n r a b m e h =
    let over = put_over_front work work_room zeros (replicate work_room 0) (rw (e, m) refl) (sym (length-replicate {A = ℕ} work_room 0)) in
    ap (outcome r.number r.place r.length out') over ∙ settled_call j out out' work work r a b refl h
