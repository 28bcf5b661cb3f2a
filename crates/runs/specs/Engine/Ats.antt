-- Where a run stands: at the root, and one level down; and what the runs ask and leave, said of it.
use Rattle.std.specs.Prelude.{ℕ, ◌+◌, ◌-◌, List, get_or}
use Rattle.lines.specs.Entries.{Entry, text_of}
use Rattle.lines.specs.Nodes.{Line}
use Rattle.values.specs.declared.extents.Extent.{Extent}
use Rattle.runs.specs.declared.at.At.{At}
use Rattle.runs.specs.Engine.SlotWords.{no_slots, one_more}
use Rattle.runs.specs.Reading.{no_entry, most_levels}
use Rattle.runs.specs.Engine.Runs.{Run, Tested, Ready, ReadyTest, Space, Entered, EnteredTest, ShownBy, TestedBy, PutSpace, Seen, Begun, Asked, BegunTest, PutBy, TestPutBy}

-- one level down, at this entry, on this source, with the value at this top
abbrev pub below_on : At → ℕ → Extent → ℕ → At
below_on at entry source top =
    record { source = source; top = top; view = at.view; slots = at.slots; entry = entry; levels = at.levels - 1 }

-- inside a bind: the slot is bound to the source, and the source is nothing
abbrev pub below_bound : At → ℕ → At
below_bound at byte =
    record {
      source = record { start = at.top; len = 0 };
      top = at.top;
      view = at.view;
      slots = one_more at.slots byte at.source.start at.source.len;
      entry = at.entry + 1;
      levels = at.levels - 1;
    }

-- the same with this view
abbrev pub with_view : At → Extent → At
with_view at view =
    record { source = at.source; top = at.top; view = view; slots = at.slots; entry = at.entry; levels = at.levels }

-- a whole program on a source at the foot of the work slice, with no slot
abbrev pub at_root : ℕ → ℕ → Extent → At
at_root len top view =
    record { source = record { start = 0; len = len }; top = top; view = view; slots = no_slots; entry = 0; levels = most_levels }

-- the entry's operation
abbrev pub operation_at : List Entry → At → ℕ
operation_at entries at = (get_or entries at.entry no_entry).operation

-- the tag that it names
abbrev pub tag_at : List Entry → At → List ℕ
tag_at entries at = text_of (get_or entries at.entry no_entry)

-- ## Showing

abbrev pub ReadyAt : List Entry → List ℕ → At → Type 0
ReadyAt entries ends at = Ready entries ends at.slots at.entry at.levels

abbrev pub ReadyTestAt : List Entry → List ℕ → At → Type 0
ReadyTestAt entries ends at = ReadyTest entries ends at.slots at.entry at.levels

abbrev pub SpaceAt : List ℕ → At → Type 0
SpaceAt w at = Space w at.slots at.source.start at.source.len at.top at.levels

abbrev pub EnteredAt : List Entry → List ℕ → List ℕ → At → ℕ → Type 0
EnteredAt entries ends w at operation = Entered entries ends w at.slots at.entry at.source.start at.source.len at.top at.levels operation

abbrev pub EnteredTestAt : List Entry → List ℕ → List ℕ → At → Type 0
EnteredTestAt entries ends w at = EnteredTest entries ends w at.slots at.entry at.source.start at.source.len at.top at.levels

abbrev pub ShownAt : List Entry → List Line → List ℕ → At → List ℕ → Run → Type 0
ShownAt entries lines w at w' r = ShownBy entries lines w at.slots at.entry at.source.start at.source.len at.top w' r

abbrev pub TestedAt : List Entry → List Line → List ℕ → At → List ℕ → Tested → Type 0
TestedAt entries lines w at w' r = TestedBy entries lines w at.slots at.entry at.source.start at.source.len at.top w' r

-- ## Putting back

abbrev pub PutSpaceAt : List ℕ → List ℕ → At → Type 0
PutSpaceAt w marks at = PutSpace w marks at.slots at.source.start at.source.len at.view.start at.view.len at.top at.levels

-- a test has no view of its own: its source stands for it
abbrev pub TestSpaceAt : List ℕ → List ℕ → At → Type 0
TestSpaceAt w marks at = PutSpace w marks at.slots at.source.start at.source.len at.source.start at.source.len at.top at.levels

abbrev pub SeenAt : List Entry → List Line → List ℕ → At → Type 0
SeenAt entries lines w at = Seen entries lines w at.slots at.entry at.source.start at.source.len at.view.len

abbrev pub BegunAt : List Entry → List Line → List ℕ → List ℕ → List ℕ → At → ℕ → Type 0
BegunAt entries lines ends w marks at operation =
    Begun entries lines ends w marks at.slots at.entry at.source.start at.source.len at.view.start at.view.len at.top at.levels operation

abbrev pub AskedAt : List Entry → List Line → List ℕ → At → Type 0
AskedAt entries lines w at = Asked entries lines w at.slots at.entry at.source.start at.source.len

abbrev pub BegunTestAt : List Entry → List Line → List ℕ → List ℕ → List ℕ → At → Type 0
BegunTestAt entries lines ends w marks at =
    BegunTest entries lines ends w marks at.slots at.entry at.source.start at.source.len at.top at.levels

abbrev pub PutAt : List Entry → List Line → List ℕ → List ℕ → At → List ℕ → List ℕ → Type 0
PutAt entries lines w marks at w' marks' =
    PutBy entries lines w marks at.slots at.entry at.source.start at.source.len at.view.start at.view.len at.top w' marks'

abbrev pub TestPutAt : List Entry → List Line → List ℕ → List ℕ → At → List ℕ → List ℕ → Type 0
TestPutAt entries lines w marks at w' marks' =
    TestPutBy entries lines w marks at.slots at.entry at.source.start at.source.len at.top w' marks'
