-- Showing and putting back refuse as the judging says and leave the output then (demand 1), and write what the rules say (demand 2).
use Rattle.std.specs.Prelude.{ℕ, ◌≡◌, refl, true, false, List, length}
use Rattle.lines.specs.Nodes.{Line}
use Rattle.lines.specs.Verdicts.{Reply}
use Rattle.lines.specs.Writing.{file_of, put_at}
use Rattle.lines.specs.Theorems.PutAt.{put_front, front_behind}
use Rattle.runs.specs.Results.{gives, stops}
use Rattle.calls.specs.Judging.{Judged, judged_show, judged_put_back}
use Rattle.calls.specs.Outcomes.{Outcome, outcome, enough, cleared, settled, called, show_call, put_back_call}
use Rattle.calls.proofs.Theorems.Replies.{by_outcome}
use Rattle.calls.specs.Demands.{number_of, length_of, output_of, RefusesRightly, ShowDemand1, PutDemand1, WritesRightly, ShowDemand2, PutDemand2}

-- ## A call, by its judging

module _ (judged : Judged (List Line)) (out work : List ℕ) where
  called_short : enough out work ≡ false → called judged out work ≡ outcome 1 0 0 out work
  unfolding called
  called_short h = rw h

  pub called_gives : enough out work ≡ true → (ls : List Line) → judged ≡ gives ls
      → called judged out work ≡ outcome 0 0 (length (file_of ls)) (put_at out 0 (file_of ls)) (cleared work)
  unfolding called settled
  called_gives h ls e = rw (h, e)

  pub called_stops : enough out work ≡ true → (r : Reply) → judged ≡ stops r → called judged out work ≡ outcome r.number r.place 0 out (cleared work)
  unfolding called settled
  called_stops h r e = rw (h, e)

  -- a refusal leaves the output
  abbrev Untouched : Outcome → Type 0
  Untouched z = (number_of z ≡ 0 → ⊥) → (length_of z ≡ 0) × (output_of z ≡ out)

  called_untouched : Untouched (called judged out work)
  called_untouched = by_outcome Untouched judged out work (λ _ _. (refl, refl)) (λ _ _ _ _. (refl, refl)) (λ _ _ _ n. absurd (n refl))

called_refuses : (judged : Judged (List Line)) (out work : List ℕ) → RefusesRightly judged out work (called judged out work)
called_refuses judged out work =
    record {
      short = λ h. rw (called_short judged out work h) (refl, refl);
      refused = λ h r e. rw (called_stops judged out work h r e) (refl, refl);
      untouched = called_untouched judged out work;
    }

called_writes : (judged : Judged (List Line)) (out work : List ℕ) → WritesRightly judged out work (called judged out work)
called_writes judged out work h ls e =
    rw (called_gives judged out work h ls e)
    (record { done = (refl, refl); counts = refl; lines = put_front out (file_of ls); behind = front_behind out (file_of ls) })

-- ## Ours

pub show_demand1 : ShowDemand1 show_call
unfolding show_call
show_demand1 master program = called_refuses (judged_show master program)

pub put_demand1 : PutDemand1 put_back_call
unfolding put_back_call
put_demand1 master program edited = called_refuses (judged_put_back master program edited)

pub show_demand2 : ShowDemand2 show_call
unfolding show_call
show_demand2 master program = called_writes (judged_show master program)

pub put_demand2 : PutDemand2 put_back_call
unfolding put_back_call
put_demand2 master program edited = called_writes (judged_put_back master program edited)
