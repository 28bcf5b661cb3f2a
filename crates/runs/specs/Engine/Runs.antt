-- What the code of a run stands on, what it asks and what it promises: files read by their lines, values and standings in the work slice.
use Rattle.std.specs.Prelude.{ℕ, zero, suc, ◌+◌, ◌*◌, ◌≤◌, ◌<◌, ◌≡◌, Bool, List, [], ◌∷◌, eqb, length, get_or, take, Result as Answered, Ok, Err}
use Rattle.lines.specs.Entries.{Entry, text_of}
use Rattle.lines.specs.Writing.{put_at}
use Rattle.lines.specs.Nodes.{Line, is_element, no_line}
use Rattle.values.specs.declared.extents.Extent.{Extent}
use Rattle.values.specs.Values.{Value, Lookup}
use Rattle.values.specs.Engine.Words.{part, Made, value_at, standings_at, AllNamed, merged_words}
use Rattle.runs.specs.declared.stop.Stop.{Stop}
use Rattle.runs.specs.declared.slots.SlotWords.{SlotWords}
use Rattle.runs.specs.Results.{Result, gives, stops}
use Rattle.runs.specs.Engine.SlotWords.{slot_at}
use Rattle.runs.specs.Programs.{Transformation, Test}
use Rattle.runs.specs.Reading.{Room, no_entry}
use Rattle.runs.specs.Showing.{Slots, Shown, Answer, show, test}
use Rattle.runs.specs.PuttingBack.{SlotStandings, put_back, put_back_test}
use Rattle.runs.specs.Engine.Trees.{Stands, StandsTest, Placed, PlacedTest}

-- ## The two files, by their lines

-- what entry e makes: 04 an element, 03 and 04 their bytes
unfoldable pub made_by : List Entry → Made
made_by entries = record { element = λ e. eqb (get_or entries e no_entry).operation 0x04; bytes = λ e. text_of (get_or entries e no_entry) }

unfoldable pub lookup_of : List Line → Lookup
lookup_of lines = record { element = λ n. is_element (get_or lines n no_line).kind; bytes = λ n. (get_or lines n no_line).text }

-- `ends` has, for each entry, the place behind its subtree
pub record Ended (entries : List Entry) (ends : List ℕ) : Type 0 where
  pub long : length ends ≡ length entries
  pub tree : (X : Transformation) (p q : ℕ) → Stands entries X p q → get_or ends p 0 ≡ q
  pub test : (P : Test) (p q : ℕ) → StandsTest entries P p q → get_or ends p 0 ≡ q

-- ## The slots, innermost first

-- the first k of them, from the outermost
unfoldable pub slots_to : Made → List ℕ → SlotWords → ℕ → Slots
slots_to made w slots zero = []
slots_to made w slots (suc k) =
    record { byte = (slot_at slots k).byte; value = value_at made w ((slot_at slots k).start) ((slot_at slots k).len) } ∷ slots_to made w slots k

unfoldable pub slots_at : Made → List ℕ → SlotWords → Slots
slots_at made w slots = slots_to made w slots slots.count

unfoldable pub bytes_to : SlotWords → ℕ → List ℕ
bytes_to slots zero = []
bytes_to slots (suc k) = (slot_at slots k).byte ∷ bytes_to slots k

-- each lies below top and is no longer than a value may be
pub record Bound (slots : SlotWords) (top : ℕ) : Type 0 where
  pub four : length slots.bound ≡ 4
  pub few : slots.count ≤ 4
  pub below : (k : ℕ) → suc k ≤ slots.count → (slot_at slots k).start + (slot_at slots k).len ≤ top
  pub short : (k : ℕ) → suc k ≤ slots.count → (slot_at slots k).len ≤ 128

-- a room in which these slots are bound
pub record Inside (slots : SlotWords) (room : Room) : Type 0 where
  pub slots_bound : room.slots ≡ bytes_to slots slots.count
  pub binds_left : slots.count + room.binds ≤ 4

-- ## Showing

-- some transformation stands at the entry, with so many levels left
pub record Ready (entries : List Entry) (ends : List ℕ) (slots : SlotWords) (entry levels : ℕ) : Type 0 where
  pub few : length entries ≤ 96
  pub ended : Ended entries ends
  pub tree : Transformation
  pub behind : ℕ
  pub room : Room
  pub placed : Placed entries tree entry behind levels room
  pub inside : Inside slots room

pub record ReadyTest (entries : List Entry) (ends : List ℕ) (slots : SlotWords) (entry levels : ℕ) : Type 0 where
  pub few : length entries ≤ 96
  pub ended : Ended entries ends
  pub tree : Test
  pub behind : ℕ
  pub room : Room
  pub placed : PlacedTest entries tree entry behind levels room
  pub inside : Inside slots room

-- the source lies below top, so do the slots; each level has its room, and every place fits 16 bits
pub record Space (w : List ℕ) (slots : SlotWords) (start len top levels : ℕ) : Type 0 where
  pub below : start + len ≤ top
  pub short : len ≤ 128
  pub enough : top + 128 * levels ≤ length w
  pub low : top + 128 * levels ≤ 0x10000
  pub bound : Bound slots top

-- what the function of a combinator stands on: its operation, and a level and an entry for what it runs
pub record Entered (entries : List Entry) (ends w : List ℕ) (slots : SlotWords) (entry start len top levels operation : ℕ) : Type 0 where
  pub ready : Ready entries ends slots entry levels
  pub space : Space w slots start len top levels
  pub op : (get_or entries entry no_entry).operation ≡ operation
  pub two : 2 ≤ levels
  pub next : entry + 1 < length ends

-- what the function of 11 stands on
pub record EnteredTest (entries : List Entry) (ends w : List ℕ) (slots : SlotWords) (entry start len top levels : ℕ) : Type 0 where
  pub ready : ReadyTest entries ends slots entry levels
  pub space : Space w slots start len top levels
  pub op : (get_or entries entry no_entry).operation ≡ 0x11
  pub two : 2 ≤ levels
  pub next : entry + 1 < length ends

-- what the code of a run answers, and of a test
abbrev pub Run : Type 0
Run = Answered Extent Stop

abbrev pub Tested : Type 0
Tested = Answered Bool Stop

-- the answer of the code as one of the rules', with the work slice as it is then
abbrev pub result_of : Made → List ℕ → Run → Result Stop Value
result_of made w (Ok x) = gives (value_at made w x.start x.len)
result_of made w (Err s) = stops s

abbrev pub said_of : Tested → Result Stop Bool
said_of (Ok b) = gives b
said_of (Err s) = stops s

-- the rules' answers without the numbers compared, of which this engine keeps none
abbrev pub value_only : Result Stop Shown → Result Stop Value
value_only (gives a) = gives a.value
value_only (stops s) = stops s

abbrev pub yes_only : Result Stop Answer → Result Stop Bool
yes_only (gives p) = gives p.yes
yes_only (stops s) = stops s

-- a value lies at top, within its bound
abbrev pub AtTop : ℕ → Run → Type 0
AtTop top (Ok x) = (x.start ≡ top) × (x.len ≤ 128)
AtTop top (Err s) = Unit {0}

module _ (entries : List Entry) (lines : List Line) where
  -- what the run of an entry leaves: below top all is as it was, and the answer is the rules'
  pub record ShownBy (w : List ℕ) (slots : SlotWords) (entry start len top : ℕ) (w' : List ℕ) (r : Run) : Type 0 where
    pub frame : take top w' ≡ take top w
    pub place : AtTop top r
    pub meets : (X : Transformation) (q : ℕ) → Stands entries X entry q
        → result_of (made_by entries) w' r
        ≡ value_only (show (lookup_of lines) X (slots_at (made_by entries) w slots) (value_at (made_by entries) w start len))

  pub record TestedBy (w : List ℕ) (slots : SlotWords) (entry start len top : ℕ) (w' : List ℕ) (r : Tested) : Type 0 where
    pub frame : take top w' ≡ take top w
    pub meets : (P : Test) (q : ℕ) → StandsTest entries P entry q
        → said_of r ≡ yes_only (test (lookup_of lines) P (slots_at (made_by entries) w slots) (value_at (made_by entries) w start len))

-- ## Putting back

-- the slots' standings, innermost first: 128 words a slot
unfoldable pub marks_to : (ℕ → List ℕ) → List ℕ → SlotWords → ℕ → SlotStandings
marks_to texts marks slots zero = []
marks_to texts marks slots (suc k) = standings_at texts marks (128 * k) ((slot_at slots k).len) ∷ marks_to texts marks slots k

unfoldable pub marks_at : (ℕ → List ℕ) → List ℕ → SlotWords → SlotStandings
marks_at texts marks slots = marks_to texts marks slots slots.count

-- every word of the first k slots names its text
abbrev pub NamedTo : (ℕ → List ℕ) → List ℕ → SlotWords → ℕ → Type 0
NamedTo texts marks slots zero = Unit {0}
NamedTo texts marks slots (suc k) = AllNamed texts (part marks (128 * k) ((slot_at slots k).len)) × NamedTo texts marks slots k

-- the words of a view merged into those of slot k
abbrev pub merged_at : List ℕ → SlotWords → ℕ → List ℕ → ℕ → List ℕ
merged_at marks slots k w view = put_at marks (128 * k) (merged_words (part marks (128 * k) ((slot_at slots k).len)) (part w view ((slot_at slots k).len)))

-- source and view lie below top, so do the slots; each level has its room, and every place fits 16 bits; the slots' standings have theirs
pub record PutSpace (w marks : List ℕ) (slots : SlotWords) (start len view vlen top levels : ℕ) : Type 0 where
  pub below : start + len ≤ top
  pub short : len ≤ 128
  pub view_below : view + vlen ≤ top
  pub enough : top + 256 * levels ≤ length w
  pub low : top + 256 * levels ≤ 0x10000
  pub marks_long : length marks ≡ 512
  pub bound : Bound slots top

module _ (entries : List Entry) (lines : List Line) where
  -- showing the source gives as many nodes as the view has lines
  pub record Seen (w : List ℕ) (slots : SlotWords) (entry start len vlen : ℕ) : Type 0 where
    pub fits : (X : Transformation) (q : ℕ) → Stands entries X entry q
        → (o : Value) × (value_only (show (lookup_of lines) X (slots_at (made_by entries) w slots) (value_at (made_by entries) w start len)) ≡ gives o) × (length o ≡ vlen)

  -- what the function of a combinator stands on: its operation, and a level for what it runs
  pub record Begun (ends w marks : List ℕ) (slots : SlotWords) (entry start len view vlen top levels operation : ℕ) : Type 0 where
    pub ready : Ready entries ends slots entry levels
    pub room : PutSpace w marks slots start len view vlen top levels
    pub seen : Seen w slots entry start len vlen
    pub op : (get_or entries entry no_entry).operation ≡ operation
    pub two : 2 ≤ levels

  -- what putting back an entry leaves, whatever texts the words name: the source's standings at top, and the slots'
  pub record PutBy (w marks : List ℕ) (slots : SlotWords) (entry start len view vlen top : ℕ) (w' marks' : List ℕ) : Type 0 where
    pub frame : take top w' ≡ take top w
    pub meets : (texts : ℕ → List ℕ) → AllNamed texts (part w view vlen) → NamedTo texts marks slots slots.count
        → (X : Transformation) (q : ℕ) → Stands entries X entry q
        → let v = value_at (made_by entries) w start len in
        let b = put_back (lookup_of lines) X (slots_at (made_by entries) w slots) v (standings_at texts w view vlen) (marks_at texts marks slots) in
        (standings_at texts w' top len ≡ b.in_source)
        × (marks_at texts marks' slots ≡ b.in_slots)
        × AllNamed texts (part w' top len)
        × NamedTo texts marks' slots slots.count

  -- the test of the source answers
  pub record Asked (w : List ℕ) (slots : SlotWords) (entry start len : ℕ) : Type 0 where
    pub answers : (P : Test) (q : ℕ) → StandsTest entries P entry q
        → (b : Bool) × (yes_only (test (lookup_of lines) P (slots_at (made_by entries) w slots) (value_at (made_by entries) w start len)) ≡ gives b)

  -- what the function of 11 stands on: its source stands for the view
  pub record BegunTest (ends w marks : List ℕ) (slots : SlotWords) (entry start len top levels : ℕ) : Type 0 where
    pub ready : ReadyTest entries ends slots entry levels
    pub room : PutSpace w marks slots start len start len top levels
    pub asked : Asked w slots entry start len
    pub op : (get_or entries entry no_entry).operation ≡ 0x11
    pub two : 2 ≤ levels

  -- the same of a test, over the standings at top that the branch handed back
  pub record TestPutBy (w marks : List ℕ) (slots : SlotWords) (entry start len top : ℕ) (w' marks' : List ℕ) : Type 0 where
    pub frame : take top w' ≡ take top w
    pub meets : (texts : ℕ → List ℕ) → AllNamed texts (part w top len) → NamedTo texts marks slots slots.count
        → (P : Test) (q : ℕ) → StandsTest entries P entry q
        → let v = value_at (made_by entries) w start len in
        let b = put_back_test (lookup_of lines) P (slots_at (made_by entries) w slots) v (standings_at texts w top len) (marks_at texts marks slots) in
        (standings_at texts w' top len ≡ b.in_source)
        × (marks_at texts marks' slots ≡ b.in_slots)
        × AllNamed texts (part w' top len)
        × NamedTo texts marks' slots slots.count
