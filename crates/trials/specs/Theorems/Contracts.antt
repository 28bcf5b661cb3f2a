-- Our contracts, as predicates over any calls; and that calls which meet them meet the demands, so that one which fails a demand has not our contract.
use Rattle.std.specs.Prelude.{ℕ, ◌≡◌, refl, List}
use Rattle.std.proofs.Common.{sym, subst}
use Rattle.calls.specs.Outcomes.{Outcome, show_call, put_back_call}
use Rattle.calls.specs.Demands.{ShowLike, PutLike, written, ShowDemand1, PutDemand1}
use Rattle.calls.specs.Demands.{ShowDemand2, PutDemand2, Given, Answers, Demand3}
use Rattle.calls.specs.Sweeping.{sweep_call}
use Rattle.calls.specs.SweepDemands.{SweepLike, SweepDemand}
use Rattle.calls.proofs.Theorems.Demand12.{show_demand1, put_demand1, show_demand2, put_demand2}
use Rattle.calls.proofs.Theorems.Demand3.{demand3}
use Rattle.calls.proofs.Theorems.Sweeping.{sweep_demand}

-- ## The contracts of `show::show`, `put_back::put_back` and `sweep::sweep`: for whatever is lent, the outcome is the one that Outcomes, or Sweeping, gives

abbrev pub MeetsShow : ShowLike → Type 0
MeetsShow show = (master program out work : List ℕ) → show master program out work ≡ show_call master program out work

abbrev pub MeetsPutBack : PutLike → Type 0
MeetsPutBack put = (master program edited out work : List ℕ) → put master program edited out work ≡ put_back_call master program edited out work

abbrev pub MeetsSweep : SweepLike → Type 0
MeetsSweep sweep = (master out numbers : List ℕ) → sweep master out numbers ≡ sweep_call master out numbers

-- ## What meets our contracts meets the demands: they ask nothing of a call but its outcomes

answers_alike : (show : ShowLike) → MeetsShow show → (master program edited out work : List ℕ) (given : Given master program edited out work) (r : Outcome)
    → Answers show_call master program edited out work given r → Answers show master program edited out work given r
answers_alike show meets master program edited out work given r a =
    record {
      accepted = a.accepted;
      returned = a.returned;
      succeeds = λ h out₂ work₂ room. rw (meets (written r) program out₂ work₂) (a.succeeds h out₂ work₂ room);
      again = λ h out₂ work₂ room. rw (meets (written r) program out₂ work₂) (a.again h out₂ work₂ room);
      refused = a.refused;
    }

pub meets_show_demand1 : (show : ShowLike) → MeetsShow show → ShowDemand1 show
meets_show_demand1 show meets master program out work = rw (meets master program out work) (show_demand1 master program out work)

pub meets_put_demand1 : (put : PutLike) → MeetsPutBack put → PutDemand1 put
meets_put_demand1 put meets master program edited out work = rw (meets master program edited out work) (put_demand1 master program edited out work)

pub meets_show_demand2 : (show : ShowLike) → MeetsShow show → ShowDemand2 show
meets_show_demand2 show meets master program out work = rw (meets master program out work) (show_demand2 master program out work)

pub meets_put_demand2 : (put : PutLike) → MeetsPutBack put → PutDemand2 put
meets_put_demand2 put meets master program edited out work = rw (meets master program edited out work) (put_demand2 master program edited out work)

pub meets_demand3 : (show : ShowLike) (put : PutLike) → MeetsShow show → MeetsPutBack put → Demand3 show put
meets_demand3 show put meets-show meets-put master program edited out work given =
    rw (meets-put master program edited out work)
    (answers_alike show meets-show master program edited out work given (put_back_call master program edited out work) (demand3 master program edited out work given))

pub meets_sweep_demand : (sweep : SweepLike) → MeetsSweep sweep → SweepDemand sweep
meets_sweep_demand sweep meets = subst SweepDemand (λ i master out numbers. sym (meets master out numbers) i) sweep_demand

-- ## What fails a demand does not meet our contract

pub fails_show_demand2 : (show : ShowLike) → (ShowDemand2 show → ⊥) → MeetsShow show → ⊥
fails_show_demand2 show fails meets = fails (meets_show_demand2 show meets)

pub fails_sweep_demand : (sweep : SweepLike) → (SweepDemand sweep → ⊥) → MeetsSweep sweep → ⊥
fails_sweep_demand sweep fails meets = fails (meets_sweep_demand sweep meets)

-- whatever it is shown by
pub fails_demand3 : (put : PutLike) → ((show : ShowLike) → Demand3 show put → ⊥) → MeetsPutBack put → ⊥
fails_demand3 put fails meets = fails show_call (meets_demand3 show_call put (λ _ _ _ _. refl) meets)
