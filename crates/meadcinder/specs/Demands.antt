-- The three demands of what a form for C leaves, as a host reads it. The buffers that suffice are an output and the form's own work slice. Then what is asked of word orders and of a sweep.
use Rattle.std.specs.Prelude.{ℕ, ◌≡◌, true, false, List}
use Rattle.lines.specs.Nodes.{Line, nodes}
use Rattle.runs.specs.Results.{gives}
use Rattle.calls.specs.Judging.{judged_master, judged_show, judged_put_back}
use Rattle.calls.specs.Outcomes.{enough, show_call}
use Rattle.calls.specs.Demands.{number_of, written, RefusesRightly, WritesRightly, Given, fresh_lines, Answers, SameLines, OrdersKept}
use Rattle.calls.specs.Sweeping.{enough_for_both, sweep_call}
use Rattle.calls.specs.SweepDemands.{SweepRefuses, SweepAnswers}
use Rattle.meadcinder.specs.Forms.{PackedOutcome, own_work, as_read, ShowsInC, both_as_read, SweepsInC}

-- demand 1
abbrev pub ShowDemand1 : (master program out : List ℕ) → PackedOutcome → Type 0
ShowDemand1 master program out left = RefusesRightly (judged_show master program) out own_work (as_read left)

abbrev pub PutDemand1 : (master program edited out : List ℕ) → PackedOutcome → Type 0
PutDemand1 master program edited out left = RefusesRightly (judged_put_back master program edited) out own_work (as_read left)

-- demand 2
abbrev pub ShowDemand2 : (master program out : List ℕ) → PackedOutcome → Type 0
ShowDemand2 master program out left = WritesRightly (judged_show master program) out own_work (as_read left)

abbrev pub PutDemand2 : (master program edited out : List ℕ) → PackedOutcome → Type 0
PutDemand2 master program edited out left = WritesRightly (judged_put_back master program edited) out own_work (as_read left)

-- demand 3
pub record Demand3 (master program edited out : List ℕ) (given : Given master program edited out own_work) (left : PackedOutcome) : Type 0 where
  pub answers : Answers show_call master program edited out own_work given (as_read left)
  -- "and showing the returned master succeeds with the same lines in the same order": with the form too
  pub again : number_of (as_read left) ≡ 0 → (out₂ : List ℕ) → enough out₂ own_work ≡ true
      → (shown : PackedOutcome) → ShowsInC (written (as_read left)) program out₂ shown
      → (number_of (as_read shown) ≡ 0)
      × SameLines (fresh_lines given) (nodes (written (as_read left))) (nodes (written (as_read shown)))

-- ## Request #106

abbrev pub KeepsOrders : (master : List ℕ) → PackedOutcome → Type 0
KeepsOrders master left = number_of (as_read left) ≡ 0 → OrdersKept (nodes master) (nodes (written (as_read left)))

-- ## Request #103

pub record SweepDemand (master out numbers : List ℕ) (answer : ℕ) (out' numbers' : List ℕ) : Type 0 where
  pub refuses : SweepRefuses master out numbers (both_as_read answer out' numbers')
  pub answers : enough_for_both out numbers ≡ true → (ls : List Line) → judged_master false master ≡ gives ls
      → SweepAnswers sweep_call master out numbers ls (both_as_read answer out' numbers')
  -- "Sweeping twice equals sweeping once": with the form too
  pub twice : enough_for_both out numbers ≡ true → (ls : List Line) → judged_master false master ≡ gives ls → let swept = written (both_as_read answer out' numbers') in
      (out₂ numbers₂ : List ℕ) → enough_for_both out₂ numbers₂ ≡ true → (again : ℕ) (out₂' numbers₂' : List ℕ) → SweepsInC swept out₂ numbers₂ again out₂' numbers₂'
      → (number_of (both_as_read again out₂' numbers₂') ≡ 0) × (written (both_as_read again out₂' numbers₂') ≡ swept)
