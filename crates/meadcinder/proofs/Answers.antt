-- From what a call leaves to the answer in one number, packed and read.
use Prim.Native.Nat.{ℕ, ◌+◌, ◌*◌, ◌≤◌, ◌<◌}
use native.Mathlib.Omega.{arith}
use mathlib.Core.Path.{◌≡◌, refl, ap}
use mathlib.Core.List.{List}
use lib.ListN.{length, length-replicate}
use Rattle.lines.specs.Nodes.{Line}
use Rattle.lines.specs.Theorems.PutAt.{put_over}
use Rattle.std.specs.Prelude.{Err}
use Rattle.calls.specs.declared.refusal.Refusal.TheVariants.{Room}
use Rattle.calls.specs.declared.reply.Reply.{Reply}
use Rattle.calls.specs.Judging.{Judged}
use Rattle.calls.specs.Outcomes.{Outcome, outcome, out_room, work_room, cleared, called}
use Rattle.calls.specs.Engine.Parts.{replied, Settles}
use Rattle.calls.specs.Theorems.Settled.{short_out, settled_call}
use Rattle.meadcinder.specs.Forms.{packed, in_one, own_work, number_in, place_in, length_in, as_read, both_as_read}

-- what `in_one` ensures
abbrev InOne : Reply → ℕ → Type 0
InOne r answer =
    (answer ≡ r.number * 0x100000000 + r.place * 0x10000 + r.length) × (number_in answer ≡ r.number) × (place_in answer ≡ r.place) × (length_in answer ≡ r.length)

pub answered : (o : Outcome) (r : Reply) (answer : ℕ) (out second : List ℕ) → InOne r answer → outcome r.number r.place r.length out second ≡ o
    → (packed answer out ≡ in_one o) × (both_as_read answer out second ≡ o)
unfolding in_one both_as_read
answered o r answer out second one h = (rw one.0 (ap in_one h), rw (one.1, one.2, one.3) h)

-- ## Showing and putting back, over a work slice of their own

module _ (judged : Judged (List Line)) (out : List ℕ) (r : Reply) (answer : ℕ) (one : InOne r answer) where
  abbrev AnsweredInC : List ℕ → Type 0
  AnsweredInC out' = (packed answer out' ≡ in_one (called judged out own_work)) × (as_read (packed answer out') ≡ called judged out own_work)

  pub short_in_c : r ≡ replied (Err Room) → length out < out_room → AnsweredInC out
  unfolding as_read both_as_read
  short_in_c e h = answered _ r answer out own_work one (short_out judged out own_work r e h)

  -- the judging settles beside any work slice, so beside one of zeros, which is cleared already
  pub settled_in_c : (out' : List ℕ) → out_room ≤ length out → Settles judged out out' r → AnsweredInC out'
  unfolding as_read both_as_read cleared
  settled_in_c out' room h =
      let long = length-replicate {A = ℕ} work_room 0 in
      answered _ r answer out' own_work one (rw (put_over own_work) at (settled_call judged out out' own_work own_work r room (omega arith) refl h))
