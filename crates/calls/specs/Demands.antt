-- The three demands, and requests #101 and #106 on bytes, as predicates over any calls: any functions from the lent contents to an outcome.
-- Ours meet them (Theorems/Demand12, Theorems/Demand3, Theorems/SavedLines, Theorems/OrdersKept); the trials do not meet the demands (crate trials).
use Rattle.std.specs.Prelude.{ℕ, ◌<◌, ◌≡◌, true, false, cond, List, ◌↔◌, ◌⊎◌, eqb, length, take, drop, Ok}
use Rattle.lines.specs.declared.scan.File.TheVariants.{View}
use Rattle.lines.specs.Files.{scan}
use Rattle.lines.specs.Nodes.{Line, nodes, untouched_mark, changed_mark, deleted_mark, program_number, hi_lo, lo_hi, line_at}
use Rattle.lines.specs.Verdicts.{Reply}
use Rattle.lines.specs.Views.{counted_lines}
use Rattle.lines.specs.Writing.{file_of}
use Rattle.values.specs.Values.{among}
use Rattle.runs.specs.Results.{gives, stops}
use Rattle.runs.specs.Programs.{Transformation}
use Rattle.runs.specs.Showing.{Shown}
use Rattle.runs.specs.Grounds.{one_master, showing, view}
use Rattle.calls.specs.Judging.{Judged, judged_program, judged_master, judged_view, judged_show, judged_put_back}
use Rattle.calls.specs.Outcomes.{Outcome, outcome, enough}

-- ## Any call, and what its outcome says

abbrev pub ShowLike : Type 0
ShowLike = (master program out work : List ℕ) → Outcome

abbrev pub PutLike : Type 0
PutLike = (master program edited out work : List ℕ) → Outcome

abbrev pub number_of : Outcome → ℕ
number_of (outcome number place length out work) = number

abbrev pub place_of : Outcome → ℕ
place_of (outcome number place length out work) = place

abbrev pub length_of : Outcome → ℕ
length_of (outcome number place length out work) = length

abbrev pub output_of : Outcome → List ℕ
output_of (outcome number place length out work) = out

-- the bytes written: as many of the output's first ones as the length says
abbrev pub written : Outcome → List ℕ
written r = take (length_of r) (output_of r)

-- ## Demand 1: a refusal has the number and the place that the judging gives, and leaves the output untouched

pub record RefusesRightly (judged : Judged (List Line)) (out work : List ℕ) (r : Outcome) : Type 0 where
  pub short : enough out work ≡ false → (number_of r ≡ 1) × (place_of r ≡ 0)
  pub refused : enough out work ≡ true → (refusal : Reply) → judged ≡ stops refusal → (number_of r ≡ refusal.number) × (place_of r ≡ refusal.place)
  pub untouched : (number_of r ≡ 0 → ⊥) → (length_of r ≡ 0) × (output_of r ≡ out)

abbrev pub ShowDemand1 : ShowLike → Type 0
ShowDemand1 show = (master program out work : List ℕ) → RefusesRightly (judged_show master program) out work (show master program out work)

abbrev pub PutDemand1 : PutLike → Type 0
PutDemand1 put =
    (master program edited out work : List ℕ) → RefusesRightly (judged_put_back master program edited) out work (put master program edited out work)

-- ## Demand 2: what is shown, and what is put back, is what the rules say

-- the output begins with the lines ls, the length counts their bytes, and what stood behind them is kept
pub record Writes (ls : List Line) (out : List ℕ) (r : Outcome) : Type 0 where
  pub done : (number_of r ≡ 0) × (place_of r ≡ 0)
  pub counts : length_of r ≡ length (file_of ls)
  pub lines : written r ≡ file_of ls
  pub behind : drop (length_of r) (output_of r) ≡ drop (length_of r) out

abbrev pub WritesRightly : Judged (List Line) → (out work : List ℕ) → Outcome → Type 0
WritesRightly judged out work r = enough out work ≡ true → (ls : List Line) → judged ≡ gives ls → Writes ls out r

abbrev pub ShowDemand2 : ShowLike → Type 0
ShowDemand2 show = (master program out work : List ℕ) → WritesRightly (judged_show master program) out work (show master program out work)

abbrev pub PutDemand2 : PutLike → Type 0
PutDemand2 put =
    (master program edited out work : List ℕ) → WritesRightly (judged_put_back master program edited) out work (put master program edited out work)

-- ## Demand 3, sentence by sentence

-- `line_at ls i` is line i; behind the last one stands one that the program made, unmarked

-- "Number FFFF means the node came from the program"; the others come from the master
abbrev pub FromProgram : Line → Type 0
FromProgram l = l.number ≡ program_number

abbrev pub FromMaster : Line → Type 0
FromMaster l = FromProgram l → ⊥

-- "differs from the fresh one only by marks on lines from the master and by the texts of lines marked changed"
pub record OnlyEdits (edited fresh : List Line) : Type 0 where
  pub count : length edited ≡ length fresh
  pub depth : (i : ℕ) → (line_at edited i).depth ≡ (line_at fresh i).depth
  pub kind : (i : ℕ) → (line_at edited i).kind ≡ (line_at fresh i).kind
  pub number : (i : ℕ) → (line_at edited i).number ≡ (line_at fresh i).number
  pub mark : (i : ℕ) → FromProgram (line_at fresh i) → (line_at edited i).mark ≡ (line_at fresh i).mark
  pub text : (i : ℕ) → ((line_at edited i).mark ≡ changed_mark → ⊥) → (line_at edited i).text ≡ (line_at fresh i).text

pub record Given (master program edited out work : List ℕ) : Type 0 where
  -- "Given buffers that suffice,"
  pub room : enough out work ≡ true
  -- "a sound program," one that passes 2 and 3,
  pub tree : Transformation
  pub sound_program : judged_program program ≡ gives tree
  -- "a sound unmarked master" one that passes 4 and 5, where a mark is a fault
  pub lines : List Line
  pub sound_master : judged_master true master ≡ gives lines
  -- "on which the program doesn't stop,"
  pub shown : Shown
  pub shows : showing (one_master lines) tree ≡ gives shown
  -- "and a well-formed view" one that passes 8
  pub count : ℕ
  pub well_formed : scan View edited ≡ Ok count
  -- "that differs from the fresh one only by marks on lines from the master and by the texts of lines marked changed":
  pub differs : OnlyEdits (nodes edited) (view (one_master lines) shown.value)

-- the fresh view's lines
abbrev pub fresh_lines : {master program edited out work : List ℕ} → Given master program edited out work → List Line
fresh_lines given = view (one_master given.lines) given.shown.value

-- "an edited line is from now on a deleted line or one with a new text" (request #101), beside the fresh line f
abbrev pub IsEdited : Line → Line → Type 0
IsEdited f v = (v.mark ≡ deleted_mark) ⊎ ((v.mark ≡ changed_mark) × (v.text ≡ f.text → ⊥))

-- line i is an edited line of node n
pub record EditedLine (fresh edited : List Line) (n i : ℕ) : Type 0 where
  pub edit : IsEdited (line_at fresh i) (line_at edited i)
  pub number : (line_at edited i).number ≡ n

-- the same edit: deleted, or changed to the same text
pub record SameEdit (v w : Line) : Type 0 where
  pub mark : v.mark ≡ w.mark
  pub text : v.mark ≡ changed_mark → v.text ≡ w.text

-- of node n: "all edited lines of one node carry the same edit and no edited node's text was compared while the view was made"
pub record Acceptable (fresh edited : List Line) (compared : List ℕ) (n : ℕ) : Type 0 where
  pub same : (i j : ℕ) → EditedLine fresh edited n i → EditedLine fresh edited n j → SameEdit (line_at edited i) (line_at edited j)
  pub uncompared : (i : ℕ) → EditedLine fresh edited n i → among n compared ≡ false

-- otherwise: a node whose edited lines differ, or that was compared and edited
pub data Clashes (fresh edited : List Line) (compared : List ℕ) (n : ℕ) : Type 0 where
  differ : (i j : ℕ) → EditedLine fresh edited n i → EditedLine fresh edited n j → (SameEdit (line_at edited i) (line_at edited j) → ⊥) → Clashes fresh edited compared n
  compare : (i : ℕ) → EditedLine fresh edited n i → among n compared ≡ true → Clashes fresh edited compared n

-- the line of a node with the edit of a view line: deleted, or changed to that line's text
abbrev pub with_edit : Line → Line → Line
with_edit l v = record { depth = l.depth; kind = l.kind; mark = v.mark; number = l.number; text = cond (eqb v.mark changed_mark) v.text l.text }

-- a master's lines, the fresh view's, the edited one's, and the returned master's
pub record HasEdits (ls fresh edited returned : List Line) : Type 0 where
  pub count : length returned ≡ length ls
  -- "Then each node has the edit of its lines,"
  pub edits : (n i : ℕ) → EditedLine fresh edited n i → line_at returned n ≡ with_edit (line_at ls n) (line_at edited i)
  -- "every other node is unchanged,"
  pub others : (n : ℕ) → ((i : ℕ) → EditedLine fresh edited n i → ⊥) → line_at returned n ≡ line_at ls n
  -- "and a node none of whose lines is edited is handed back with mark 00, even if a line of it had 01" (request #101), and with its old text
  pub unedited : (n : ℕ) → ((i : ℕ) → EditedLine fresh edited n i → ⊥)
      → ((line_at returned n).mark ≡ untouched_mark) × ((line_at returned n).text ≡ (line_at ls n).text)

-- the fresh view's lines, the returned master's, and those that it shows
pub record SameLines (fresh returned again : List Line) : Type 0 where
  -- "the same lines in the same order,"
  pub count : length again ≡ length fresh
  pub depth : (i : ℕ) → (line_at again i).depth ≡ (line_at fresh i).depth
  pub kind : (i : ℕ) → (line_at again i).kind ≡ (line_at fresh i).kind
  pub number : (i : ℕ) → (line_at again i).number ≡ (line_at fresh i).number
  -- "each with its node's text and mark there,"
  pub text : (i : ℕ) → FromMaster (line_at fresh i) → (line_at again i).text ≡ (line_at returned (line_at fresh i).number).text
  pub mark : (i : ℕ) → FromMaster (line_at fresh i) → (line_at again i).mark ≡ (line_at returned (line_at fresh i).number).mark
  -- "or as before if the program made it."
  pub made : (i : ℕ) → FromProgram (line_at fresh i) → line_at again i ≡ line_at fresh i

-- what demand 3 asks, where this is given, of putting back, whose outcome is r, and of showing
pub record Answers (show : ShowLike) (master program edited out work : List ℕ) (given : Given master program edited out work) (r : Outcome) : Type 0 where
  -- "it is accepted exactly if all edited lines of one node carry the same edit and no edited node's text was compared while the view was made."
  pub accepted : (number_of r ≡ 0) ↔ ((n : ℕ) → Acceptable (fresh_lines given) (nodes edited) given.shown.compared n)
  -- "Then each node has the edit of its lines, every other node is unchanged,"
  pub returned : number_of r ≡ 0 → HasEdits given.lines (fresh_lines given) (nodes edited) (nodes (written r))
  -- "and showing the returned master succeeds"
  pub succeeds : number_of r ≡ 0 → (out work : List ℕ) → enough out work ≡ true → number_of (show (written r) program out work) ≡ 0
  -- "with the same lines in the same order, each with its node's text and mark there, or as before if the program made it."
  pub again : number_of r ≡ 0 → (out work : List ℕ) → enough out work ≡ true
      → SameLines (fresh_lines given) (nodes (written r)) (nodes (written (show (written r) program out work)))
  -- otherwise 11, at the "least node number" of those that clash
  pub refused : (number_of r ≡ 0 → ⊥)
      → (number_of r ≡ 11)
      × Clashes (fresh_lines given) (nodes edited) given.shown.compared (place_of r)
      × ((n : ℕ) → n < place_of r → Clashes (fresh_lines given) (nodes edited) given.shown.compared n → ⊥)

abbrev pub Demand3 : ShowLike → PutLike → Type 0
Demand3 show put =
    (master program edited out work : List ℕ) (given : Given master program edited out work)
    → Answers show master program edited out work given (put master program edited out work)

-- ## Request #101 on bytes: "A line marked 01 whose bytes equal the fresh line's counts as untouched."

-- a view that passes 8 to 10 is put back as the one in which each line has the mark that counts: number, place, length and every byte, equal buffers lent
abbrev pub SavedSame : PutLike → Type 0
SavedSame put =
    (master program edited : List ℕ) (X : Transformation) → judged_program program ≡ gives X → (ls : List Line) → judged_master true master ≡ gives ls
    → (o : Shown) → showing (one_master ls) X ≡ gives o → let fresh = view (one_master ls) o.value in (es : List Line) → judged_view fresh edited ≡ gives es
    → (out work : List ℕ) → put master program edited out work ≡ put master program (file_of (counted_lines fresh es)) out work

-- ## Request #106 on bytes: "exactly `hi-lo` or `lo-hi`", whatever was put back

-- the master's lines, and the returned master's
pub record OrdersKept (ls returned : List Line) : Type 0 where
  pub count : length returned ≡ length ls
  -- every node keeps its kind,
  pub kind : (n : ℕ) → (line_at returned n).kind ≡ (line_at ls n).kind
  -- and one of kind 03 has one of the two words
  pub word : (n : ℕ) → (line_at returned n).kind ≡ 3 → ((line_at returned n).text ≡ hi_lo) ⊎ ((line_at returned n).text ≡ lo_hi)

abbrev pub KeepsOrders : PutLike → Type 0
KeepsOrders put =
    (master program edited out work : List ℕ) → let r = put master program edited out work in number_of r ≡ 0 → OrdersKept (nodes master) (nodes (written r))
