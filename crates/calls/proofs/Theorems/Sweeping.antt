-- The call sweep on bytes: its contract decides its outcome, its refusals, and that it is what request #103 asks.
use Rattle.std.specs.Prelude.{ℕ, ◌*◌, ◌≤◌, ◌<◌, ◌≡◌, Bool, cond, List, ◌⊎◌, length, get_or, take, drop, None}
use Rattle.std.proofs.Math.Path.{refl}
use Rattle.std.proofs.Common.{sym, ap, subst, ◌∙◌, inl, inr, arith}
use Rattle.std.proofs.Math.Bool.{true, false}
use Rattle.lines.specs.Nodes.{Line, nodes}
use Rattle.lines.specs.Verdicts.{Reply, earlier}
use Rattle.lines.specs.Writing.{file_of, put_at}
use Rattle.lines.specs.Theorems.PutAt.{put_front, front_behind}
use Rattle.lines.proofs.Theorems.RoundTrip.{nodes_written}
use Rattle.lines.specs.Engine.Writes.{AllWritable}
use Rattle.sweeping.specs.Sweeping.{swept, new_numbers, number_file, numbers_in}
use Rattle.sweeping.specs.Theorems.Removed.{SameMarksAndDepths, numbers_alone}
use Rattle.sweeping.specs.Theorems.Counting.{numbers_long}
use Rattle.sweeping.specs.Theorems.Numbers.{numbers_small, numbers_read}
use Rattle.sweeping.proofs.Theorems.Twice.{sweep_twice, numbers_again, swept_unmarked, unmarked_same}
use Rattle.sweeping.proofs.Theorems.Sound.{swept_few, swept_bounds, swept_writable}
use Rattle.sweeping.specs.Theorems.Demands.{sweeps}
use Rattle.runs.specs.Results.{gives, stops}
use Rattle.calls.specs.Judging.{Judged, master_rule, judged_master}
use Rattle.calls.specs.Outcomes.{Outcome, outcome}
use Rattle.calls.specs.Demands.{number_of, place_of, length_of, output_of, written}
use Rattle.calls.specs.Sweeping.{enough_for_both, swept_into, sweep_call}
use Rattle.calls.specs.SweepDemands.{second_of, numbers_written, numbers_given, SweepRefuses, SweepAnswers, SweepDemand}
use Rattle.calls.proofs.Theorems.Judged.{MasterPassed, master_passed, master_passes, rule_unmarked}
use Rattle.calls.proofs.Theorems.Replies.{master_refusing}
use Rattle.calls.specs.Theorems.Unique.{Same, same_outcome}
use Rattle.calls.specs.Theorems.ReadingEnough.{master_read}

-- ## The contract decides, and what the program reads is enough

pub sweep_unique : (master out numbers : List ℕ) (number₁ place₁ length₁ : ℕ) (out₁ numbers₁ : List ℕ) (number₂ place₂ length₂ : ℕ) (out₂ numbers₂ : List ℕ)
    → outcome number₁ place₁ length₁ out₁ numbers₁ ≡ sweep_call master out numbers
    → outcome number₂ place₂ length₂ out₂ numbers₂ ≡ sweep_call master out numbers
    → Same number₁ place₁ length₁ out₁ numbers₁ number₂ place₂ length₂ out₂ numbers₂
sweep_unique master out numbers = same_outcome (sweep_call master out numbers)

pub sweep_read : (m : ℕ) → 9856 < m → (master out numbers : List ℕ) → sweep_call (take m master) out numbers ≡ sweep_call master out numbers
unfolding sweep_call
sweep_read m far master out numbers = rw (master_read false master m far)

pub sweep_reads_enough : (master out numbers : List ℕ) → sweep_call (take 9857 master) out numbers ≡ sweep_call master out numbers
sweep_reads_enough = sweep_read 9857 (omega arith)

-- ## Its three ways

module _ (master out numbers : List ℕ) where
  pub sweep_short : enough_for_both out numbers ≡ false → sweep_call master out numbers ≡ outcome 1 0 0 out numbers
  unfolding sweep_call
  sweep_short h = rw h

  pub sweep_stops : enough_for_both out numbers ≡ true → (r : Reply) → judged_master false master ≡ stops r
      → sweep_call master out numbers ≡ outcome r.number r.place 0 out numbers
  unfolding sweep_call swept_into
  sweep_stops h r e = rw (h, e)

  pub sweep_gives : enough_for_both out numbers ≡ true → (ls : List Line) → judged_master false master ≡ gives ls
      → sweep_call master out numbers
      ≡ outcome 0 0 (length (file_of (swept ls))) (put_at out 0 (file_of (swept ls))) (put_at numbers 0 (number_file (new_numbers ls)))
  unfolding sweep_call swept_into
  sweep_gives h ls e = rw (h, e)

  by_sweep : (P : Outcome → Type 0) → P (outcome 1 0 0 out numbers)
      → ((r : Reply) → judged_master false master ≡ stops r → P (outcome r.number r.place 0 out numbers))
      → ((ls : List Line) → P (outcome 0 0 (length (file_of (swept ls))) (put_at out 0 (file_of (swept ls))) (put_at numbers 0 (number_file (new_numbers ls)))))
      → P (sweep_call master out numbers)
  unfolding sweep_call swept_into
  by_sweep P short refused done = go (enough_for_both out numbers) (judged_master false master) refl
    where
      go : (b : Bool) (j : Judged (List Line)) → judged_master false master ≡ j → P (cond b (swept_into j out numbers) (outcome 1 0 0 out numbers))
      go true (gives ls) e = done ls
      go true (stops r) e = refused r e
      go false j e = short

  -- ## Refusals

  -- "1, 4, 5", and 0
  pub sweep_numbers : let n = number_of (sweep_call master out numbers) in (n ≡ 0) ⊎ (n ≡ 1) ⊎ (n ≡ 4) ⊎ (n ≡ 5)
  sweep_numbers =
      by_sweep (λ r. (number_of r ≡ 0) ⊎ (number_of r ≡ 1) ⊎ (number_of r ≡ 4) ⊎ (number_of r ≡ 5)) (inr (inl refl))
      (λ r e. inr (inr (master_refusing (λ n. (n ≡ 4) ⊎ (n ≡ 5)) false master (inl refl) (inr refl) r e))) (λ ls. inl refl)

  sweep_untouched : let r = sweep_call master out numbers in (number_of r ≡ 0 → ⊥) → (length_of r ≡ 0) × (output_of r ≡ out) × (second_of r ≡ numbers)
  sweep_untouched =
      by_sweep (λ r. (number_of r ≡ 0 → ⊥) → (length_of r ≡ 0) × (output_of r ≡ out) × (second_of r ≡ numbers)) (λ _. (refl, refl, refl))
      (λ _ _ _. (refl, refl, refl)) (λ _ some. absurd (some refl))

  sweep_refuses : SweepRefuses master out numbers (sweep_call master out numbers)
  sweep_refuses =
      record {
        short = λ h. rw (sweep_short h) (refl, refl);
        refused = λ h r e. rw (sweep_stops h r e) (refl, refl);
        untouched = sweep_untouched;
      }

-- ## What is written where it answers 0

record Wrote (ls : List Line) (r : Outcome) : Type 0 where
  pub done : number_of r ≡ 0
  pub file : written r ≡ file_of (swept ls)
  pub lines : nodes (written r) ≡ swept ls
  pub number_lines : numbers_written (length ls) r ≡ number_file (new_numbers ls)
  pub numbers : numbers_given (length ls) r ≡ new_numbers ls

-- a sound master's lines, swept
module _ (master : List ℕ) (ls : List Line) (judged : judged_master false master ≡ gives ls) where
  passed : MasterPassed false master ls
  passed = master_passed false master ls judged

  form : AllWritable (swept ls)
  form = swept_writable ls passed.holds.form passed.holds.few

  few : length (swept ls) ≤ 128
  few = omega (arith, swept_few ls, passed.holds.few)

  module _ (out numbers : List ℕ) (room : enough_for_both out numbers ≡ true) where
    sweep_wrote : Wrote ls (sweep_call master out numbers)
    sweep_wrote =
        let file = put_front out (file_of (swept ls)) in
        let lines = number_file (new_numbers ls) in
        let front = subst (λ (n : ℕ). take n (put_at numbers 0 lines) ≡ lines) (numbers_long ls) (put_front numbers lines) in
        rw (sweep_gives master out numbers room ls judged)
        (record {
          done = refl;
          file = file;
          lines = ap nodes file ∙ nodes_written (swept ls) form;
          number_lines = front;
          numbers = ap numbers_in front ∙ numbers_read (new_numbers ls) (numbers_small ls passed.holds.few);
        })

    sweep_behind : let r = sweep_call master out numbers in
        (length_of r ≡ length (file_of (swept ls)))
        × (drop (length_of r) (output_of r) ≡ drop (length_of r) out)
        × (drop (5 * length ls) (second_of r) ≡ drop (5 * length ls) numbers)
    sweep_behind =
        rw (sweep_gives master out numbers room ls judged) (
          refl,
          front_behind out (file_of (swept ls)),
          subst (λ (n : ℕ). drop n (put_at numbers 0 (number_file (new_numbers ls))) ≡ drop n numbers) (numbers_long ls) (front_behind numbers (number_file (new_numbers ls))),
        )

    -- ## What the request asks

    -- the swept master passes 4 and 5 again, as for showing and as for putting back
    swept_passes : (putting : Bool) → judged_master putting (written (sweep_call master out numbers)) ≡ gives (swept ls)
    unfolding master_rule earlier
    swept_passes putting = rw sweep_wrote.file (master_passes putting (swept ls) form few (rule putting))
      where
        rule : (putting : Bool) → master_rule putting (swept ls) ≡ None
        rule true = rw (swept_bounds ls passed.bounds, swept_unmarked ls)
        rule false = swept_bounds ls passed.bounds

    unmarked_returns : judged_master true master ≡ gives ls → written (sweep_call master out numbers) ≡ master
    unmarked_returns h =
        let m = master_passed true master ls h in
        sweep_wrote.file ∙ (ap file_of (unmarked_same ls m.bounds (rule_unmarked ls m.rule)) ∙ m.holds.file)

-- a second time: the same lines, and every number as it was
module _ (master out numbers : List ℕ) (room : enough_for_both out numbers ≡ true) (ls : List Line) (judged : judged_master false master ≡ gives ls) where
  sweep_again : (out₂ numbers₂ : List ℕ) → enough_for_both out₂ numbers₂ ≡ true → let swept-file = written (sweep_call master out numbers) in
      let again = sweep_call swept-file out₂ numbers₂ in
      (number_of again ≡ 0) × (written again ≡ swept-file) × ((i : ℕ) → i < length (nodes swept-file) → get_or (numbers_given (length (nodes swept-file)) again) i 0 ≡ i)
  sweep_again out₂ numbers₂ room₂ =
      let once = sweep_wrote master ls judged out numbers room in
      let file = written (sweep_call master out numbers) in
      let twice = sweep_wrote file (swept ls) (swept_passes master ls judged out numbers room false) out₂ numbers₂ room₂ in (
        twice.done,
        twice.file ∙ (ap file_of (sweep_twice ls) ∙ sym once.file),
        subst (λ (ss : List Line). (i : ℕ) → i < length ss → get_or (numbers_given (length ss) (sweep_call file out₂ numbers₂)) i 0 ≡ i) (sym once.lines)
            (λ i h. rw twice.numbers (numbers_again ls i h)),
      )

  sweep_answers : SweepAnswers sweep_call master out numbers ls (sweep_call master out numbers)
  sweep_answers =
      let w = sweep_wrote master ls judged out numbers room in
      let b = sweep_behind master ls judged out numbers room in
      let old-few = (passed master ls judged).holds.few in
      record {
        writes =
            record {
              done = (w.done, sweep_place);
              counts = b.0 ∙ ap (λ (ss : List Line). length (file_of ss)) (sym w.lines);
              lines = w.file ∙ ap file_of (sym w.lines);
              behind = b.1;
            };
        second = w.number_lines ∙ ap number_file (sym w.numbers);
        behind = b.2;
        sweeps = rw (w.lines, w.numbers) (sweeps ls old-few);
        sound = swept_passes master ls judged out numbers room true ∙ ap gives (sym w.lines);
        unmarked = unmarked_returns master ls judged out numbers room;
        twice = sweep_again;
      }
    where
      sweep_place : place_of (sweep_call master out numbers) ≡ 0
      sweep_place = rw (sweep_gives master out numbers room ls judged)

-- "removed being told from the marks and depths alone": two masters that have the same get the same number lines
pub sweep_alone : (master₁ out₁ numbers₁ master₂ out₂ numbers₂ : List ℕ) → enough_for_both out₁ numbers₁ ≡ true → enough_for_both out₂ numbers₂ ≡ true
    → (ls₁ ls₂ : List Line) → judged_master false master₁ ≡ gives ls₁ → judged_master false master₂ ≡ gives ls₂ → SameMarksAndDepths ls₁ ls₂
    → numbers_written (length ls₁) (sweep_call master₁ out₁ numbers₁) ≡ numbers_written (length ls₂) (sweep_call master₂ out₂ numbers₂)
sweep_alone master₁ out₁ numbers₁ master₂ out₂ numbers₂ room₁ room₂ ls₁ ls₂ judged₁ judged₂ same =
    (sweep_wrote master₁ ls₁ judged₁ out₁ numbers₁ room₁).number_lines
    ∙ (ap number_file (numbers_alone ls₁ ls₂ same) ∙ sym (sweep_wrote master₂ ls₂ judged₂ out₂ numbers₂ room₂).number_lines)

pub sweep_demand : SweepDemand sweep_call
sweep_demand = record { refuses = sweep_refuses; answers = sweep_answers }
