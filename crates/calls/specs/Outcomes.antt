-- What a call leaves: its number, place and length, the output buffer, and the second slice that it was lent: here the work slice, of a sweep its second output.
use Rattle.std.specs.Prelude.{ℕ, Bool, cond, ◌&&◌, List, leb, length, replicate}
use Rattle.lines.specs.Nodes.{Line}
use Rattle.lines.specs.Writing.{file_of, put_at}
use Rattle.runs.specs.Results.{gives, stops}
use Rattle.calls.specs.Judging.{Judged, judged_show, judged_put_back}

pub data Outcome : Type 0 where
  outcome : (number place length : ℕ) (out second : List ℕ) → Outcome

-- "Output buffer at least 9,856 bytes. Work slice at least 16,384 numbers of 32 bits"
abbrev pub out_room : ℕ
out_room = 9856

abbrev pub work_room : ℕ
work_room = 16384

unfoldable pub enough : List ℕ → List ℕ → Bool
enough out work = leb out_room (length out) && leb work_room (length work)

-- "holds zeros in its first 16,384 places afterwards", "and is untouched beyond"
unfoldable pub cleared : List ℕ → List ℕ
cleared work = put_at work 0 (replicate work_room 0)

-- 0: done, at 0. "On 0 the output buffer begins with the lines .. and keeps its bytes behind them. On all others it is untouched"
unfoldable pub settled : Judged (List Line) → List ℕ → List ℕ → Outcome
settled (gives ls) out work = outcome 0 0 (length (file_of ls)) (put_at out 0 (file_of ls)) work
settled (stops r) out work = outcome r.number r.place 0 out work

-- 1: output buffer or work slice too short, at 0; both are untouched
unfoldable pub called : Judged (List Line) → List ℕ → List ℕ → Outcome
called judged out work = cond (enough out work) (settled judged out (cleared work)) (outcome 1 0 0 out work)

unfoldable pub show_call : (master program out work : List ℕ) → Outcome
show_call master program out work = called (judged_show master program) out work

unfoldable pub put_back_call : (master program edited out work : List ℕ) → Outcome
put_back_call master program edited out work = called (judged_put_back master program edited) out work
