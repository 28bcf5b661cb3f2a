-- What showing and putting back leave of the two slices lent to them: the output is untouched on every reply but 0, and the work slice is cleared on every reply but 1.
use Rattle.std.proofs.Math.Path.{◌≡◌}
use Rattle.std.specs.Prelude.{refl, List, ◌↔◌, ℕ, ◌≤◌, leb, length, take, drop, replicate}
use Rattle.std.proofs.Common.{sym, subst, leb-true}
use Rattle.std.proofs.Math.Bool.{true, false}
use native.Mathlib.Omega.{arith}
use Rattle.std.proofs.lemmas.List.{length-replicate}
use Rattle.lines.specs.Nodes.{Line}
use Rattle.lines.specs.Writing.{file_of, put_at}
use Rattle.lines.specs.Theorems.Bools.{and_left, and_right}
use Rattle.lines.specs.Theorems.PutAt.{length_put, put_front, front_behind}
use Rattle.runs.specs.Results.{gives}
use Rattle.calls.specs.Judging.{Judged, judged_show, judged_put_back}
use Rattle.calls.specs.Outcomes.{Outcome, outcome, out_room, work_room, enough, cleared, called, show_call, put_back_call}
use Rattle.calls.proofs.Theorems.Replies.{Refusing, Refusal, show_refusals, put_back_refusals, by_outcome}
use Rattle.calls.proofs.Theorems.FreshLines.{show_short}
use Rattle.calls.proofs.Theorems.Returned.{put_back_short}

pub record Left (out work : List ℕ) (number n : ℕ) (out' work' : List ℕ) : Type 0 where
  -- 1: "output buffer or work slice too short", exactly then
  pub room : (number ≡ 1) ↔ (enough out work ≡ false)
  -- "On all others it is untouched"
  pub refused_out : (number ≡ 0 → ⊥) → out' ≡ out
  -- "0 unless the reply is 0"
  pub refused_length : (number ≡ 0 → ⊥) → n ≡ 0
  -- "keeps its bytes behind them"
  pub behind : drop n out' ≡ drop n out
  pub out_long : length out' ≡ length out
  -- "holds zeros in its first 16,384 places afterwards whenever the reply isn't 1"
  pub zeros : (number ≡ 1 → ⊥) → take 16384 work' ≡ replicate 16384 0
  -- "and is untouched beyond"
  pub beyond : drop 16384 work' ≡ drop 16384 work
  pub work_long : length work' ≡ length work
  -- "on 1 it is untouched whole"
  pub short_work : number ≡ 1 → work' ≡ work

-- ## The slices

-- zeros of any number
module _ (k : ℕ) (w : List ℕ) (fits : k ≤ length w) where
  many : length {A = ℕ} (replicate k 0) ≡ k
  many = length-replicate k 0

  zeros_front : take k (put_at w 0 (replicate k 0)) ≡ replicate k 0
  zeros_front = subst (λ (m : ℕ). take m (put_at w 0 (replicate k 0)) ≡ replicate k 0) many (put_front w (replicate k 0))

  zeros_beyond : drop k (put_at w 0 (replicate k 0)) ≡ drop k w
  zeros_beyond =
      subst (λ (m : ℕ). drop m (put_at w 0 (replicate k 0)) ≡ drop m w) many (front_behind w (replicate k 0))

  zeros_long : length (put_at w 0 (replicate k 0)) ≡ length w
  zeros_long = length_put w 0 (replicate k 0) (omega (arith, many))

enough_rooms : (out work : List ℕ) → enough out work ≡ true → (out_room ≤ length out) × (work_room ≤ length work)
unfolding enough
enough_rooms out work h =
    (leb-true out_room (length out) (and_left (leb out_room (length out)) _ h), leb-true work_room (length work) (and_right (leb out_room (length out)) _ h))

-- ## Any judging whose refusals have the numbers from 2 on and whose lines fit

module _ (most : ℕ) (judged : Judged (List Line)) (refusals : Refusing (Refusal most) judged)
    (short : (ls : List Line) → judged ≡ gives ls → length (file_of ls) ≤ out_room) (out work : List ℕ) where
  abbrev Leaves : Outcome → Type 0
  Leaves (outcome number place n out' work') = Left out work number n out' work'

  leaves : Leaves (called judged out work)
  unfolding cleared
  leaves =
      by_outcome Leaves judged out work
      (λ room.
      record {
        room = ((λ _. room), λ _. refl);
        refused_out = λ _. refl;
        refused_length = λ _. refl;
        behind = refl;
        out_long = refl;
        zeros = λ not. absurd (not refl);
        beyond = refl;
        work_long = refl;
        short_work = λ _. refl;
      })
      (λ r room j.
      let s = refusals r j in
      let w = (enough_rooms out work room).1 in
      record {
        room = ((λ one. absurd (omega arith)), λ none. absurd (both room none));
        refused_out = λ _. refl;
        refused_length = λ _. refl;
        behind = refl;
        out_long = refl;
        zeros = λ _. zeros_front work_room work w;
        beyond = zeros_beyond work_room work w;
        work_long = zeros_long work_room work w;
        short_work = λ one. absurd (omega arith);
      })
      (λ ls room j.
      let e = enough_rooms out work room in
      let fits = short ls j in
      record {
        room = ((λ one. absurd (omega arith)), λ none. absurd (both room none));
        refused_out = λ not. absurd (not refl);
        refused_length = λ not. absurd (not refl);
        behind = front_behind out (file_of ls);
        out_long = length_put out 0 (file_of ls) (omega arith);
        zeros = λ _. zeros_front work_room work e.1;
        beyond = zeros_beyond work_room work e.1;
        work_long = zeros_long work_room work e.1;
        short_work = λ one. absurd (omega arith);
      })
    where
      both : enough out work ≡ true → enough out work ≡ false → ⊥
      both t f = let z : ◌≡◌ {A = ℕ} 0 1 = cc in omega arith

  left : (number place n : ℕ) (out' work' : List ℕ) → outcome number place n out' work' ≡ called judged out work → Left out work number n out' work'
  left number place n out' work' h = subst Leaves (sym h) leaves

-- ## Showing and putting back

pub show_leaves : (master program out work : List ℕ) (number place n : ℕ) (out' work' : List ℕ)
    → outcome number place n out' work' ≡ show_call master program out work → Left out work number n out' work'
unfolding show_call
show_leaves master program out work = left 7 (judged_show master program) (show_refusals master program) (show_short master program) out work

pub put_back_leaves : (master program edited out work : List ℕ) (number place n : ℕ) (out' work' : List ℕ)
    → outcome number place n out' work' ≡ put_back_call master program edited out work → Left out work number n out' work'
unfolding put_back_call
put_back_leaves master program edited out work =
    left 11 (judged_put_back master program edited) (put_back_refusals master program edited) (put_back_short master program edited) out work

-- on every reply but 0 the output is untouched
pub show_refused : (master program out work : List ℕ) (number place n : ℕ) (out' work' : List ℕ)
    → outcome number place n out' work' ≡ show_call master program out work → (number ≡ 0 → ⊥) → out' ≡ out
show_refused master program out work number place n out' work' h = (show_leaves master program out work number place n out' work' h).refused_out

pub put_back_refused : (master program edited out work : List ℕ) (number place n : ℕ) (out' work' : List ℕ)
    → outcome number place n out' work' ≡ put_back_call master program edited out work → (number ≡ 0 → ⊥) → out' ≡ out
put_back_refused master program edited out work number place n out' work' h = (put_back_leaves master program edited out work number place n out' work' h).refused_out
