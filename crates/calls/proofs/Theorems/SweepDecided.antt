-- What request #103 asks decides the call: any sweep that meets it leaves, for whatever is lent, what ours leaves.
use Rattle.std.specs.Prelude.{ℕ, ◌*◌, ◌≡◌, refl, Bool, true, false, List, length}
use Rattle.std.proofs.Common.{sym, ap, ◌∙◌, arith}
use Rattle.lines.specs.Nodes.{Line}
use Rattle.lines.specs.Verdicts.{Reply}
use Rattle.lines.specs.Writing.{file_of}
use Rattle.lines.specs.Theorems.PutAt.{front_is}
use Rattle.sweeping.specs.Sweeping.{swept, new_numbers, number_file}
use Rattle.sweeping.specs.Theorems.Counting.{numbers_long}
use Rattle.sweeping.specs.Theorems.Decided.{sweeps_only}
use Rattle.runs.specs.Results.{gives, stops}
use Rattle.calls.specs.Judging.{Judged, judged_master}
use Rattle.calls.specs.Outcomes.{Outcome, outcome}
use Rattle.calls.specs.Demands.{number_of, place_of, length_of, output_of}
use Rattle.calls.specs.Sweeping.{enough_for_both, sweep_call}
use Rattle.calls.specs.SweepDemands.{SweepLike, second_of, SweepDemand}
use Rattle.calls.proofs.Theorems.Judged.{master_passed}
use Rattle.calls.proofs.Theorems.Replies.{master_refusing}
use Rattle.calls.proofs.Theorems.Sweeping.{sweep_short, sweep_stops, sweep_gives}

-- an outcome is its five parts
by_parts : (r : Outcome) {number place n : ℕ} {out numbers : List ℕ} → number_of r ≡ number → place_of r ≡ place → length_of r ≡ n → output_of r ≡ out → second_of r ≡ numbers
    → r ≡ outcome number place n out numbers
by_parts (outcome number place n out numbers) a b c d e = rw (a, b, c, d, e) refl

module _ (sweep : SweepLike) (d : SweepDemand sweep) (master out numbers : List ℕ) where
  abbrev r : Outcome
  r = sweep master out numbers

  -- refused: untouched
  refused_is : (number place : ℕ) → (number ≡ 0 → ⊥) → number_of r ≡ number → place_of r ≡ place → r ≡ outcome number place 0 out numbers
  refused_is number place some a b =
      let u = (d.refuses master out numbers).untouched (λ z. some (sym a ∙ z)) in
      by_parts r a b u.0 u.1 u.2

  module _ (room : enough_for_both out numbers ≡ true) where
    stops_is : (s : Reply) → judged_master false master ≡ stops s → r ≡ sweep_call master out numbers
    stops_is s judged =
        let a = (d.refuses master out numbers).refused room s judged in
        let some = master_refusing (λ n. n ≡ 0 → ⊥) false master (omega arith) (omega arith) s judged in
        refused_is s.number s.place some a.0 a.1 ∙ sym (sweep_stops master out numbers room s judged)

    gives_is : (ls : List Line) → judged_master false master ≡ gives ls → r ≡ sweep_call master out numbers
    gives_is ls judged =
        let a = d.answers master out numbers room ls judged in
        let few = (master_passed false master ls judged).holds.few in
        let only = sweeps_only ls _ _ few a.sweeps in
        let w = a.writes in
        let counts : length_of r ≡ length (file_of (swept ls)) = w.counts ∙ ap (λ (ss : List Line). length (file_of ss)) only.0 in
        let first = front_is out (output_of r) (file_of (swept ls)) (length_of r) (sym counts) (w.lines ∙ ap file_of only.0) w.behind in
        let second = front_is numbers (second_of r) (number_file (new_numbers ls)) (5 * length ls) (numbers_long ls) (a.second ∙ ap number_file only.1) a.behind in
        by_parts r w.done.0 w.done.1 counts first second ∙ sym (sweep_gives master out numbers room ls judged)

pub sweep_decided : (sweep : SweepLike) → SweepDemand sweep → (master out numbers : List ℕ) → sweep master out numbers ≡ sweep_call master out numbers
sweep_decided sweep d master out numbers = go (enough_for_both out numbers) (judged_master false master) refl refl
  where
    go : (b : Bool) (j : Judged (List Line)) → enough_for_both out numbers ≡ b → judged_master false master ≡ j → sweep master out numbers ≡ sweep_call master out numbers
    go true (gives ls) room judged = gives_is sweep d master out numbers room ls judged
    go true (stops s) room judged = stops_is sweep d master out numbers room s judged
    go false j short judged =
        let a = (d.refuses master out numbers).short short in
        refused_is sweep d master out numbers 1 0 (omega arith) a.0 a.1 ∙ sym (sweep_short master out numbers short)
