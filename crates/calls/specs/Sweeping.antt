-- The call sweep (request #103): reply 1 for two outputs, 4 and 5 as for showing, and what it leaves.
use Rattle.std.specs.Prelude.{ℕ, Bool, false, cond, ◌&&◌, List, leb, length}
use Rattle.lines.specs.Nodes.{Line}
use Rattle.lines.specs.Writing.{file_of, put_at}
use Rattle.sweeping.specs.Sweeping.{swept, new_numbers, number_file}
use Rattle.runs.specs.Results.{gives, stops}
use Rattle.calls.specs.Judging.{Judged, judged_master}
use Rattle.calls.specs.Outcomes.{Outcome, outcome, out_room}

-- "both are judged for room first, the second needing 640 bytes"
abbrev pub numbers_room : ℕ
numbers_room = 640

unfoldable pub enough_for_both : List ℕ → List ℕ → Bool
enough_for_both out numbers = leb out_room (length out) && leb numbers_room (length numbers)

-- 0: done, at 0. "The length returned is the first output's; the second gets five bytes for each old node, and both keep their bytes behind that"; else "both outputs untouched"
unfoldable pub swept_into : Judged (List Line) → List ℕ → List ℕ → Outcome
swept_into (gives ls) out numbers =
    outcome 0 0 (length (file_of (swept ls))) (put_at out 0 (file_of (swept ls))) (put_at numbers 0 (number_file (new_numbers ls)))
swept_into (stops r) out numbers = outcome r.number r.place 0 out numbers

-- 1: an output too short, at 0; 4 and 5 "as for showing": marks are allowed
unfoldable pub sweep_call : (master out numbers : List ℕ) → Outcome
sweep_call master out numbers = cond (enough_for_both out numbers) (swept_into (judged_master false master) out numbers) (outcome 1 0 0 out numbers)
