-- What keeps a form's contract meets the three demands and what is asked of word orders, or what is asked of a sweep, as a host reads it.
use Rattle.std.specs.Prelude.{◌≡◌, true, false, List, ℕ}
use Rattle.std.proofs.Common.{sym, subst}
use Rattle.lines.specs.Nodes.{Line, nodes}
use Rattle.runs.specs.Results.{gives}
use Rattle.calls.specs.Judging.{judged_master, judged_show, judged_put_back}
use Rattle.calls.specs.Outcomes.{show_call}
use Rattle.calls.specs.Demands.{number_of, written, RefusesRightly, WritesRightly, Given, fresh_lines, Answers, SameLines, OrdersKept}
use Rattle.calls.proofs.Theorems.Demand12 as calls
use Rattle.calls.proofs.Theorems.Demand3 as carried
use Rattle.calls.proofs.Theorems.OrdersKept as orders
use Rattle.calls.specs.Sweeping.{enough_for_both, sweep_call}
use Rattle.calls.specs.SweepDemands.{SweepRefuses, SweepAnswers}
use Rattle.calls.proofs.Theorems.Sweeping as sweeping
use Rattle.meadcinder.specs.Forms.{PackedOutcome, own_work, as_read, ShowsInC, PutsBackInC, both_as_read, SweepsInC}
use Rattle.meadcinder.specs.Demands.{ShowDemand1, PutDemand1, ShowDemand2, PutDemand2, Demand3, KeepsOrders, SweepDemand}

module _ (master program out : List ℕ) (left : PackedOutcome) (shows : ShowsInC master program out left) where
  pub show_demand1 : ShowDemand1 master program out left
  show_demand1 = subst (RefusesRightly (judged_show master program) out own_work) (sym shows.reads) (calls.show_demand1 master program out own_work)

  pub show_demand2 : ShowDemand2 master program out left
  show_demand2 = subst (WritesRightly (judged_show master program) out own_work) (sym shows.reads) (calls.show_demand2 master program out own_work)

module _ (master program edited out : List ℕ) (left : PackedOutcome) (puts : PutsBackInC master program edited out left) where
  pub put_demand1 : PutDemand1 master program edited out left
  put_demand1 = subst (RefusesRightly (judged_put_back master program edited) out own_work) (sym puts.reads) (calls.put_demand1 master program edited out own_work)

  pub put_demand2 : PutDemand2 master program edited out left
  put_demand2 = subst (WritesRightly (judged_put_back master program edited) out own_work) (sym puts.reads) (calls.put_demand2 master program edited out own_work)

  pub demand3 : (given : Given master program edited out own_work) → Demand3 master program edited out given left
  demand3 given =
      let a : Answers show_call master program edited out own_work given (as_read left) =
      subst (Answers show_call master program edited out own_work given) (sym puts.reads) (carried.demand3 master program edited out own_work given) in
      record {
        answers = a;
        again = λ done out₂ room shown s. (
          subst (λ z. number_of z ≡ 0) (sym s.reads) (a.succeeds done out₂ own_work room),
          subst (λ z. SameLines (fresh_lines given) (nodes (written (as_read left))) (nodes (written z))) (sym s.reads)
              (a.again done out₂ own_work room),
        );
      }

  pub order_kept : KeepsOrders master left
  order_kept = subst (λ z. number_of z ≡ 0 → OrdersKept (nodes master) (nodes (written z))) (sym puts.reads) (orders.order_kept master program edited out own_work)

module _ (master out numbers : List ℕ) (answer : ℕ) (out' numbers' : List ℕ) (swept : SweepsInC master out numbers answer out' numbers') where
  sweep_answers : enough_for_both out numbers ≡ true → (ls : List Line) → judged_master false master ≡ gives ls
      → SweepAnswers sweep_call master out numbers ls (both_as_read answer out' numbers')
  sweep_answers room ls judged =
      subst (SweepAnswers sweep_call master out numbers ls) (sym swept.reads) ((sweeping.sweep_demand).answers master out numbers room ls judged)

  pub sweep_demand : SweepDemand master out numbers answer out' numbers'
  sweep_demand =
      record {
        refuses = subst (SweepRefuses master out numbers) (sym swept.reads) ((sweeping.sweep_demand).refuses master out numbers);
        answers = sweep_answers;
        twice = λ room ls judged out₂ numbers₂ room₂ again out₂' numbers₂' s.
            let t = (sweep_answers room ls judged).twice out₂ numbers₂ room₂ in
            subst (λ z. (number_of z ≡ 0) × (written z ≡ written (both_as_read answer out' numbers'))) (sym s.reads) (t.0, t.1);
      }
