-- A sweep over a sound master: the room that both writers ask for, and what they leave.
use Prim.Native.Nat.{ℕ, ◌≤◌, ◌<◌}
use native.Mathlib.Omega.{arith}
use mathlib.Core.Path.{◌≡◌, refl}
use mathlib.Core.Bool.{false}
use mathlib.Core.Logic.{inl, inr}
use mathlib.Core.List.{List}
use lib.ListN.{length}
use borrow.Author.Tests.{le-leb, lt-leb}
use Rattle.lines.specs.Nodes.{Line}
use Rattle.lines.specs.Writing.{file_of, put_at}
use Rattle.lines.proofs.Theorems.Widths.{file_short}
use Rattle.lines.specs.Engine.Writes.{WroteLines}
use Rattle.sweeping.specs.Sweeping.{swept, new_numbers, number_file}
use Rattle.sweeping.proofs.Theorems.Sound.{swept_few, swept_writable}
use Rattle.sweeping.specs.Engine.Parts.{SweepRoom}
use Rattle.calls.specs.declared.refusal.Refusal.{Refusal}
use Rattle.calls.specs.declared.refusal.Refusal.TheVariants.{Room}
use Rattle.calls.specs.declared.reply.Reply.{Reply}
use Rattle.std.specs.Prelude.{Ok, Err, ◌⊎◌}
use Rattle.calls.specs.Judging.{Judged, judged_master}
use Rattle.calls.specs.Outcomes.{outcome, out_room}
use Rattle.calls.specs.Sweeping.{numbers_room, enough_for_both, swept_into, sweep_call}
use Rattle.calls.specs.Engine.Parts.{replied, Refuses, Sweeps, SweptBy, MasterGoes}

pub refused_sweeps : (judged : Judged (List Line)) (out numbers : List ℕ) (r : Refusal) → Refuses judged r → SweptBy judged out numbers out numbers (Err r)
unfolding swept_into
refused_sweeps judged out numbers r h = (h.1, rw h.0 refl)

module _ {master : List ℕ} {L : List Line} (m : MasterGoes false master L) where
  swept_short : length (file_of (swept L)) ≤ out_room
  swept_short = file_short (swept L) (swept_writable L m.form (m.few)) (omega (arith, swept_few L, m.few))

  pub lines_room : (out : List ℕ) → out_room ≤ length out → SweepRoom L out
  lines_room out h = record { few = m.few; room = omega (arith, swept_short) }

  pub written_sweeps : (out numbers out' numbers' : List ℕ) (end : ℕ) → WroteLines (swept L) out out' end → numbers' ≡ put_at numbers 0 (number_file (new_numbers L))
      → SweptBy (judged_master false master) out numbers out' numbers' (Ok end)
  unfolding swept_into
  written_sweeps out numbers out' numbers' end w g =
      let end = w.behind in
      (omega (arith, swept_short), rw (m.judged, w.lines, w.behind, g) refl)

-- ## Reply 1, and with room

module _ (master out numbers : List ℕ) (r : Reply) where
  pub short_either : r ≡ replied (Err Room) → (length out < out_room) ⊎ ((out_room ≤ length out) × (length numbers < numbers_room))
      → outcome r.number r.place r.length out numbers ≡ sweep_call master out numbers
  unfolding sweep_call enough_for_both
  short_either e (inl h) = rw (e, lt-leb out_room (length out) h) refl
  short_either e (inr h) = rw (e, le-leb out_room (length out) h.0, lt-leb numbers_room (length numbers) h.1) refl

  pub swept_call : {out' numbers' : List ℕ} → out_room ≤ length out → numbers_room ≤ length numbers
      → Sweeps (judged_master false master) out numbers out' numbers' r → outcome r.number r.place r.length out' numbers' ≡ sweep_call master out numbers
  unfolding sweep_call enough_for_both
  swept_call a b h = rw (le-leb out_room (length out) a, le-leb numbers_room (length numbers) b) h
