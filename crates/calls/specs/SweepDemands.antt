-- What request #103 asks of the call sweep, as predicates over any such call: any function from the lent contents to an outcome.
-- Ours meets them (Theorems/Sweeping, Theorems/SweptEdits). What meets `SweepDemand` is ours (Theorems/SweepDecided); the trials do not (crate trials).
use Rattle.std.specs.Prelude.{ℕ, ◌*◌, ◌<◌, ◌≡◌, true, false, List, length, get_or, take, drop}
use Rattle.lines.specs.Nodes.{Line, nodes, deleted_mark, line_at}
use Rattle.lines.specs.Verdicts.{Reply}
use Rattle.sweeping.specs.Sweeping.{number_file, numbers_in}
use Rattle.sweeping.specs.Demands.{SweepsBy, Sweeps}
use Rattle.runs.specs.Results.{gives, stops}
use Rattle.calls.specs.Judging.{judged_master}
use Rattle.calls.specs.Outcomes.{Outcome, outcome}
use Rattle.calls.specs.Sweeping.{enough_for_both}
use Rattle.calls.specs.Demands.{PutLike, number_of, place_of, length_of, output_of, written, Writes, Given, fresh_lines, EditedLine, HasEdits}

abbrev pub SweepLike : Type 0
SweepLike = (master out numbers : List ℕ) → Outcome

-- ## The second output

abbrev pub second_of : Outcome → List ℕ
second_of (outcome number place length out numbers) = numbers

-- its bytes for a master of so many lines: "five bytes for each old node"
abbrev pub numbers_written : ℕ → Outcome → List ℕ
numbers_written count r = take (5 * count) (second_of r)

-- the numbers that they give
abbrev pub numbers_given : ℕ → Outcome → List ℕ
numbers_given count r = numbers_in (numbers_written count r)

-- ## Refusals: "1, 4, 5 as for showing, both outputs untouched; both are judged for room first"

pub record SweepRefuses (master out numbers : List ℕ) (r : Outcome) : Type 0 where
  pub short : enough_for_both out numbers ≡ false → (number_of r ≡ 1) × (place_of r ≡ 0)
  pub refused : enough_for_both out numbers ≡ true → (refusal : Reply) → judged_master false master ≡ stops refusal
      → (number_of r ≡ refusal.number) × (place_of r ≡ refusal.place)
  pub untouched : (number_of r ≡ 0 → ⊥) → (length_of r ≡ 0) × (output_of r ≡ out) × (second_of r ≡ numbers)

-- ## A master that passes 4 and 5, of lines ls

pub record SweepAnswers (sweep : SweepLike) (master out numbers : List ℕ) (ls : List Line) (r : Outcome) : Type 0 where
  -- 0 at 0; "The length returned is the first output's", "and both keep their bytes behind that"
  pub writes : Writes (nodes (written r)) out r
  -- the second output begins with number lines, those of the numbers that they give
  pub second : numbers_written (length ls) r ≡ number_file (numbers_given (length ls) r)
  pub behind : drop (5 * length ls) (second_of r) ≡ drop (5 * length ls) numbers
  -- which nodes go, and what becomes of the rest
  pub sweeps : Sweeps ls (nodes (written r)) (numbers_given (length ls) r)
  -- the swept master passes 4 and 5 as for putting back: it is sound and has no mark
  pub sound : judged_master true (written r) ≡ gives (nodes (written r))
  -- a master with no mark is returned as it is
  pub unmarked : judged_master true master ≡ gives ls → written r ≡ master
  -- "Sweeping twice equals sweeping once", and the second time no number changes
  pub twice : (out₂ numbers₂ : List ℕ) → enough_for_both out₂ numbers₂ ≡ true → let again = sweep (written r) out₂ numbers₂ in
      (number_of again ≡ 0)
      × (written again ≡ written r)
      × ((i : ℕ) → i < length (nodes (written r)) → get_or (numbers_given (length (nodes (written r))) again) i 0 ≡ i)

-- what the request asks
pub record SweepDemand (sweep : SweepLike) : Type 0 where
  pub refuses : (master out numbers : List ℕ) → SweepRefuses master out numbers (sweep master out numbers)
  pub answers : (master out numbers : List ℕ) → enough_for_both out numbers ≡ true → (ls : List Line) → judged_master false master ≡ gives ls
      → SweepAnswers sweep master out numbers ls (sweep master out numbers)

-- ## After a put-back: "demand 3 speaks of the master before the sweep", and this of the one behind it

-- a line of node n is deleted in the view
abbrev pub DeletedInView : List Line → List Line → ℕ → Type 0
DeletedInView fresh edited n = (i : ℕ) × EditedLine fresh edited n i × ((line_at edited i).mark ≡ deleted_mark)

-- the master's lines, the fresh view's, the edited one's, those of the swept master, and the new numbers:
-- of the lines with their edits those stay that are not deleted in the view and not under such a one, each with its new text
abbrev pub SweptEdits : (ls fresh edited ss : List Line) (ns : List ℕ) → Type 0
SweptEdits ls fresh edited ss ns = (with-edits : List Line) × HasEdits ls fresh edited with-edits × SweepsBy (DeletedInView fresh edited) with-edits ss ns

abbrev pub SweepsAfter : PutLike → SweepLike → Type 0
SweepsAfter put sweep =
    (master program edited out work : List ℕ) (given : Given master program edited out work) → number_of (put master program edited out work) ≡ 0
    → (out₂ numbers₂ : List ℕ) → enough_for_both out₂ numbers₂ ≡ true → let r = sweep (written (put master program edited out work)) out₂ numbers₂ in
    (number_of r ≡ 0) × SweptEdits given.lines (fresh_lines given) (nodes edited) (nodes (written r)) (numbers_given (length given.lines) r)
