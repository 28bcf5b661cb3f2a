-- Sweeps that have to be rejected: each is given, and shown not to be what request #103 asks, nor then to meet our contract.
use Rattle.std.specs.Prelude.{ℕ, ◌≤◌, ◌<◌, ◌≡◌, refl, false, cond, List, map, eqb, length}
use Rattle.std.proofs.Common.{ap, subst, inl, inr, arith}
use Rattle.std.proofs.Math.ListN.{take}
use Rattle.lines.specs.Nodes.{Line, nodes, line_at}
use Rattle.lines.specs.Writing.{file_of, put_at}
use Rattle.lines.specs.Theorems.PutAt.{put_front}
use Rattle.sweeping.specs.Sweeping.{is_deleted, kept, numbered_anew, swept, no_number, numbers_from, new_numbers, number_file, numbers_in}
use Rattle.sweeping.specs.Demands.{IsRemoved, Sweeps}
use Rattle.runs.specs.Results.{gives, stops}
use Rattle.calls.specs.Judging.{Judged, judged_master}
use Rattle.calls.specs.Outcomes.{Outcome, outcome}
use Rattle.calls.specs.Demands.{written}
use Rattle.calls.specs.Sweeping.{enough_for_both}
use Rattle.calls.specs.SweepDemands.{SweepLike, numbers_given, SweepDemand}
use Rattle.trials.specs.Theorems.Contracts.{MeetsSweep, fails_sweep_demand}
use Rattle.trials.specs.Theorems.Cases.{answer, roomy_out, roomy_numbers, roomy_both}
use Rattle.trials.specs.Theorems.Bench.{M-both}
use Rattle.trials.specs.Theorems.SweepCases.{sweep_answer}

-- ## A sweep that refuses as ours does, but writes these lines and these numbers

unfoldable pub into : (List Line → List Line) → (List Line → List ℕ) → Judged (List Line) → (out numbers : List ℕ) → Outcome
into lines news (gives ls) out numbers = outcome 0 0 (length (file_of (lines ls))) (put_at out 0 (file_of (lines ls))) (put_at numbers 0 (number_file (news ls)))
into lines news (stops r) out numbers = outcome r.number r.place 0 out numbers

unfoldable pub sweeps_to : (List Line → List Line) → (List Line → List ℕ) → SweepLike
sweeps_to lines news master out numbers = cond (enough_for_both out numbers) (into lines news (judged_master false master) out numbers) (outcome 1 0 0 out numbers)

-- hands the master back unswept
abbrev pub unswept : SweepLike
unswept = sweeps_to (λ ls. ls) new_numbers

-- leaves the contents of a deleted element
abbrev pub leaves_contents : SweepLike
leaves_contents = sweeps_to (λ ls. numbered_anew 0 (kept (map is_deleted ls) ls)) (λ ls. numbers_from 0 (map is_deleted ls))

-- keeps the old numbers in the second output
abbrev pub keeps_old_numbers : SweepLike
keeps_old_numbers = sweeps_to swept (map (λ l. l.number))

-- gives 0 for a removed node
abbrev pub zero_for_removed : SweepLike
zero_for_removed = sweeps_to swept (λ ls. map (λ n. cond (eqb n no_number) 0 n) (new_numbers ls))

-- ## On M-both: node 1 is deleted, and node 2, its text, is changed

abbrev ls : List Line
ls = nodes M-both

-- what such a sweep would then have to be
module _ (lines : List Line → List Line) (news : List Line → List ℕ) (five : length (number_file (news ls)) ≡ 25) where
  written_there : written (sweeps_to lines news M-both roomy_out roomy_numbers) ≡ file_of (lines ls)
  unfolding sweeps_to into answer
  written_there = rw roomy_both (put_front roomy_out (file_of (lines ls)))

  given_there : numbers_given 5 (sweeps_to lines news M-both roomy_out roomy_numbers) ≡ numbers_in (number_file (news ls))
  unfolding sweeps_to into answer
  given_there =
      rw roomy_both
      (ap numbers_in (subst (λ (n : ℕ). take n (put_at roomy_numbers 0 (number_file (news ls))) ≡ number_file (news ls)) five (put_front roomy_numbers (number_file (news ls)))))

  asked : SweepDemand (sweeps_to lines news) → Sweeps ls (nodes (file_of (lines ls))) (numbers_in (number_file (news ls)))
  unfolding answer
  asked d = rw (← written_there, ← given_there) (d.answers M-both roomy_out roomy_numbers roomy_both ls refl).sweeps

-- node 2 lies under node 1, which is deleted
gone_1 : IsRemoved ls 1
unfolding sweep_answer
gone_1 = inl refl

gone_2 : IsRemoved ls 2
unfolding sweep_answer
gone_2 = inr (1, record { earlier = omega arith; deeper = deeper }, refl)
  where
    deeper : (k : ℕ) → 1 < k → k ≤ 2 → (line_at ls 1).depth < (line_at ls k).depth
    deeper k a b = let z : k ≡ 2 = omega arith in rw z (omega arith)

pub unswept_rejected : SweepDemand unswept → ⊥
unfolding sweep_answer numbers_in
unswept_rejected d = let z : ◌≡◌ {A = ℕ} 7 5 = (asked (λ ls. ls) new_numbers refl d).count in omega arith

pub leaves_contents_rejected : SweepDemand leaves_contents → ⊥
unfolding sweep_answer numbers_in
leaves_contents_rejected d =
    let z : ◌≡◌ {A = ℕ} 1 no_number = (asked (λ ls. numbered_anew 0 (kept (map is_deleted ls) ls)) (λ ls. numbers_from 0 (map is_deleted ls)) refl d).gone 2 (omega arith) gone_2 in
    omega arith

pub keeps_old_numbers_rejected : SweepDemand keeps_old_numbers → ⊥
unfolding sweep_answer numbers_in
keeps_old_numbers_rejected d = let z : ◌≡◌ {A = ℕ} 1 no_number = (asked swept (map (λ l. l.number)) refl d).gone 1 (omega arith) gone_1 in omega arith

pub zero_for_removed_rejected : SweepDemand zero_for_removed → ⊥
unfolding sweep_answer numbers_in
zero_for_removed_rejected d =
    let z : ◌≡◌ {A = ℕ} 0 no_number = (asked swept (λ ls. map (λ n. cond (eqb n no_number) 0 n) (new_numbers ls)) refl d).gone 1 (omega arith) gone_1 in
    omega arith

-- ## None of them meets our contract

pub unswept_not_ours : MeetsSweep unswept → ⊥
unswept_not_ours = fails_sweep_demand unswept unswept_rejected

pub leaves_contents_not_ours : MeetsSweep leaves_contents → ⊥
leaves_contents_not_ours = fails_sweep_demand leaves_contents leaves_contents_rejected

pub keeps_old_numbers_not_ours : MeetsSweep keeps_old_numbers → ⊥
keeps_old_numbers_not_ours = fails_sweep_demand keeps_old_numbers keeps_old_numbers_rejected

pub zero_for_removed_not_ours : MeetsSweep zero_for_removed → ⊥
zero_for_removed_not_ours = fails_sweep_demand zero_for_removed zero_for_removed_rejected
