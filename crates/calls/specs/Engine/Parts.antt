-- What the parts of a call ask and promise. A reader of the calls' own contracts needs only Judging and Outcomes.
use Rattle.std.specs.Prelude.{ℕ, suc, ◌+◌, ◌*◌, ◌≤◌, ◌<◌, ◌≡◌, Bool, true, cond, List, [], ◌∷◌, map, leb, eqb, length, take, get_or, None, Result as Answer, Ok, Err}
use Rattle.lines.specs.Texts.{same_text}
use Rattle.lines.specs.Nodes.{Line, nodes, changed_mark, deleted_mark, no_line, line_at}
use Rattle.lines.specs.Entries.{Entry, entries}
use Rattle.lines.specs.Masters.{master_bounds}
use Rattle.lines.specs.Verdicts.{reply}
use Rattle.lines.specs.Views.{counted_lines}
use Rattle.lines.specs.Writing.{file_of}
use Rattle.lines.specs.Engine.Starts.{lines_of, entries_of}
use Rattle.lines.specs.Engine.Sums.{text_sum}
use Rattle.lines.specs.Engine.Writes.{AllWritable}
use Rattle.values.specs.Values.{within_bounds}
use Rattle.values.specs.Standings.{Standing, hands_back, first_of, rest_of}
use Rattle.values.specs.Engine.Words.{part, node_of, value_at, standings_at}
use Rattle.runs.specs.Results.{gives, stops, ◌>>=◌}
use Rattle.runs.specs.Programs.{Transformation}
use Rattle.runs.specs.Reading.{read_program}
use Rattle.runs.specs.Showing.{Shown}
use Rattle.runs.specs.Grounds.{numbered_from, shown_line, one_master, showing, view}
use Rattle.runs.specs.Engine.Runs.{Ended, made_by}
use Rattle.runs.specs.Engine.Trees.{Stands}
use Rattle.calls.specs.declared.reply.Reply.{Reply}
use Rattle.calls.specs.declared.refusal.Refusal.{Refusal}
use Rattle.calls.specs.declared.reach.Reached.{Reached}
use Rattle.calls.specs.Judging.{Judged, master_rule, judged_program, judged_master, judged_view, judged_standings, ran}
use Rattle.calls.specs.Outcomes.{outcome, settled, out_room}
use Rattle.calls.specs.Refusals.{number_of, place_of}
use Rattle.calls.specs.Sweeping.{swept_into}

-- ## Room

-- the words that suffice, by `Space` and `PutSpace`: what lies below the first of twelve levels, then 128 a level showing and 256 putting back
abbrev pub show_room : ℕ
show_room = 128 + 12 * 128

abbrev pub put_back_room : ℕ
put_back_room = 256 + 12 * 256

-- ## Answers

-- of a call that is done, with the length of what it wrote, or refused
abbrev pub replied : Answer ℕ Refusal → Reply
replied (Ok length) = record { number = 0; place = 0; length = length }
replied (Err r) = record { number = number_of r; place = place_of r; length = 0 }

-- a reply's place and length have 16 bits
abbrev pub Fits : Answer ℕ Refusal → Type 0
Fits (Ok length) = length < 0x10000
Fits (Err r) = place_of r < 0x10000

-- the judging's refusal
abbrev pub Refuses : {A : Type 0} → Judged A → Refusal → Type 0
Refuses judged r = (judged ≡ stops (reply (number_of r) (place_of r))) × (place_of r < 0x10000)

-- the reply and the output buffer that a judging asks for, whatever the work slice holds
abbrev pub Settles : Judged (List Line) → List ℕ → List ℕ → Reply → Type 0
Settles judged out out' r = (work : List ℕ) → outcome r.number r.place r.length out' work ≡ settled judged out work

-- the same by the answer that the reply is made of
abbrev pub SettledBy : Judged (List Line) → List ℕ → List ℕ → Answer ℕ Refusal → Type 0
SettledBy judged out out' answer = Fits answer × Settles judged out out' (replied answer)

-- the reply and both outputs that the judging of a sweep asks for
abbrev pub Sweeps : Judged (List Line) → (out numbers out' numbers' : List ℕ) → Reply → Type 0
Sweeps judged out numbers out' numbers' r = outcome r.number r.place r.length out' numbers' ≡ swept_into judged out numbers

abbrev pub SweptBy : Judged (List Line) → (out numbers out' numbers' : List ℕ) → Answer ℕ Refusal → Type 0
SweptBy judged out numbers out' numbers' answer = Fits answer × Sweeps judged out numbers out' numbers' (replied answer)

-- ## Files by the starts of their lines

-- a sound program: its entries
pub record ProgramGoes (program : List ℕ) (E : List Entry) : Type 0 where
  pub few : length E ≤ 96
  pub lines : entries program ≡ E
  pub tree : Transformation
  pub read : read_program E ≡ gives tree
  pub judged : judged_program program ≡ gives tree

-- n entries begin at the first n starts, and the first n ends are those of their subtrees
abbrev pub ProgramJudged : List ℕ → List ℕ → List ℕ → Answer ℕ Refusal → Type 0
ProgramJudged program starts ends (Ok n) =
    let E = entries_of program (take n starts) in (n ≤ 96) × ProgramGoes program E × Ended E (take n ends)
ProgramJudged program starts ends (Err r) = Refuses (judged_program program) r

-- a sound master: its lines
pub record MasterGoes (putting : Bool) (master : List ℕ) (ls : List Line) : Type 0 where
  pub few : length ls ≤ 128
  pub lines : nodes master ≡ ls
  pub rule : master_rule putting ls ≡ None
  pub form : AllWritable ls
  pub judged : judged_master putting master ≡ gives ls

-- n lines begin at the first n starts
abbrev pub MasterJudged : Bool → List ℕ → List ℕ → Answer ℕ Refusal → Type 0
MasterJudged putting master starts (Ok n) = (n ≤ 128) × MasterGoes putting master (lines_of master (take n starts))
MasterJudged putting master starts (Err r) = Refuses (judged_master putting master) r

-- ## The run

-- the whole master as words: a node's depth and number
unfoldable pub source_words : ℕ → List Line → List ℕ
source_words k [] = []
source_words k (l ∷ ls) = (l.depth * 0x10000 + k) ∷ source_words (suc k) ls

pub record Runnable (E : List Entry) (ends : List ℕ) (L : List Line) : Type 0 where
  pub few_entries : length E ≤ 96
  pub few_lines : length L ≤ 128
  pub ended : Ended E ends
  pub tree : Transformation
  pub read : read_program E ≡ gives tree

-- the source at place 0 and what was shown at place 128
pub record RunGoes (E : List Entry) (L : List Line) (w : List ℕ) (len : ℕ) : Type 0 where
  pub few : len ≤ 128
  pub foot : part w 0 (length L) ≡ source_words 0 L
  pub shows : (X : Transformation) (q : ℕ) → Stands E X 0 q
      → (o : Shown) × (showing (one_master L) X ≡ gives o) × (value_at (made_by E) w 128 len ≡ o.value)

abbrev pub RanBy : List Entry → List Line → List ℕ → Answer ℕ Refusal → Type 0
RanBy E L w (Ok len) = RunGoes E L w len
RanBy E L w (Err r) = (X : Transformation) → read_program E ≡ gives X → Refuses (ran (showing (one_master L) X)) r

-- what showing and putting back judge first, and what each does with it
abbrev pub after_run : Bool → List ℕ → List ℕ → (Transformation → List Line → Shown → Judged (List Line)) → Judged (List Line)
after_run putting master program rest =
    judged_program program >>= (λ X. judged_master putting master >>= (λ ls. ran (showing (one_master ls) X) >>= (λ o. rest X ls o)))

pub record RunReached (putting : Bool) (master program starts ends lines w : List ℕ) (r : Reached) : Type 0 where
  pub of_program : ProgramJudged program starts ends (Ok r.entries)
  pub of_master : MasterJudged putting master lines (Ok r.nodes)
  pub of_run : RunGoes (entries_of program (take r.entries starts)) (lines_of master (take r.nodes lines)) w r.shown

abbrev pub ReachedBy : Bool → List ℕ → List ℕ → List ℕ → List ℕ → List ℕ → List ℕ → Answer Reached Refusal → Type 0
ReachedBy putting master program starts ends lines w (Ok r) = RunReached putting master program starts ends lines w r
ReachedBy putting master program starts ends lines w (Err r) =
    (rest : Transformation → List Line → Shown → Judged (List Line)) → Refuses (after_run putting master program rest) r

-- ## Writing

-- the line of a word
abbrev pub word_line : List Entry → List Line → ℕ → Line
word_line E L x = let n = node_of (made_by E) x in shown_line (numbered_from 0 L) n.depth n.origin

-- the lines of the value at place 128
abbrev pub view_lines : List Entry → List Line → List ℕ → ℕ → List Line
view_lines E L w len = view (one_master L) (value_at (made_by E) w 128 len)

-- the words of what was shown, within the slice and the bounds
abbrev pub ShownWords : List Entry → List ℕ → ℕ → Type 0
ShownWords E w len = (128 + len ≤ length w) × (within_bounds (value_at (made_by E) w 128 len) ≡ true)

pub record ViewRoom (E : List Entry) (L : List Line) (w : List ℕ) (len : ℕ) (out : List ℕ) : Type 0 where
  pub words : ShownWords E w len
  pub room : length (file_of (view_lines E L w len)) ≤ length out

-- the mark that the word of a standing leaves
unfoldable pub mark_left : ℕ → ℕ → ℕ
mark_left mark x = cond (leb 4 x) changed_mark (cond (eqb x 2) deleted_mark mark)

-- the master's lines with the standings beside them
unfoldable pub handed_over : List Line → List Standing → List Line
handed_over [] ss = []
handed_over (l ∷ ls) ss = hands_back l (first_of ss) ∷ handed_over ls (rest_of ss)

-- the text that a word of a standing names: that of a view line
abbrev pub texts_of : List Line → ℕ → List ℕ
texts_of es j = (get_or es j no_line).text

-- the standings at place 256, over the lines of the master
abbrev pub handed_lines : List Line → List Line → List ℕ → List Line
handed_lines L es w = handed_over L (standings_at (texts_of es) w 256 (length L))

pub record HandingRoom (L es : List Line) (w out : List ℕ) : Type 0 where
  pub inside : 256 + length L ≤ length w
  pub room : length (file_of (handed_lines L es w)) ≤ length out

-- ## The view

pub record ViewGoes (fresh : List Line) (edited : List ℕ) (es : List Line) : Type 0 where
  pub few : length es ≤ 128
  pub lines : nodes edited ≡ es
  pub form : AllWritable es
  pub judged : judged_view fresh edited ≡ gives es

-- n lines begin at the first n starts
abbrev pub ViewJudged : List Line → List ℕ → List ℕ → Answer ℕ Refusal → Type 0
ViewJudged fresh edited starts (Ok n) = (n ≤ 128) × ViewGoes fresh edited (lines_of edited (take n starts))
ViewJudged fresh edited starts (Err r) = Refuses (judged_view fresh edited) r

-- the sums of the lines' texts, one beside each line
abbrev pub Summed : List Line → List ℕ → Type 0
Summed ls sums = (length ls ≤ length sums) × ((k : ℕ) → k < length ls → get_or sums k 0 ≡ text_sum (line_at ls k).text)

-- the first line with this text, from line k on; where there is none, the place behind the last
unfoldable pub first_with : List ℕ → ℕ → List Line → ℕ
first_with text k [] = k
first_with text k (l ∷ ls) = cond (same_text l.text text) k (first_with text (suc k) ls)

-- the word of what the mark of a line says, among the view's lines
unfoldable pub brought_word : List Line → Line → ℕ
brought_word es l = cond (eqb l.mark changed_mark) (4 + first_with l.text 0 es) (cond (eqb l.mark deleted_mark) 2 0)

-- the words of what the view's lines bring beside the fresh ones
abbrev pub brought_words : List Line → List Line → List ℕ
brought_words fresh es = map (brought_word es) (counted_lines fresh es)

-- ## Putting back, once the program has run

pub record Carriable (E : List Entry) (ends : List ℕ) (L es : List Line) (w out : List ℕ) : Type 0 where
  pub runnable : Runnable E ends L
  pub few : length es ≤ 128
  pub foot : part w 0 (length L) ≡ source_words 0 L
  pub shows : (X : Transformation) (q : ℕ) → Stands E X 0 q
      → (o : Shown) × (showing (one_master L) X ≡ gives o) × (length o.value ≡ length es) × (view_lines E L w (length es) ≡ view (one_master L) o.value)
  pub room : out_room ≤ length out
  pub work_room : put_back_room ≤ length w
  pub short : (ls : List Line) → judged_standings (one_master L) runnable.tree es ≡ gives ls → length (file_of ls) ≤ out_room

abbrev pub CarriedBack : List Entry → List Line → List Line → List ℕ → List ℕ → Answer ℕ Refusal → Type 0
CarriedBack E L es out out' answer = (X : Transformation) → read_program E ≡ gives X → SettledBy (judged_standings (one_master L) X es) out out' answer

pub record Comparable (E : List Entry) (ends : List ℕ) (L : List Line) (len : ℕ) (w out : List ℕ) : Type 0 where
  pub runnable : Runnable E ends L
  pub goes : RunGoes E L w len
  pub shallow : within_bounds (value_at (made_by E) w 128 len) ≡ true
  pub form : AllWritable L
  pub bounds : master_bounds L ≡ None
  pub room : out_room ≤ length out
  pub work_room : put_back_room ≤ length w

abbrev pub ComparedBack : List Entry → List Line → List ℕ → List ℕ → List ℕ → Answer ℕ Refusal → Type 0
ComparedBack E L edited out out' answer =
    (X : Transformation) → read_program E ≡ gives X → (o : Shown) → showing (one_master L) X ≡ gives o
    → SettledBy (judged_view (view (one_master L) o.value) edited >>= (λ es. judged_standings (one_master L) X es)) out out' answer
