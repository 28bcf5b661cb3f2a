-- The refusals: the number of each, and the place that it names.
use Rattle.std.specs.Prelude.{ℕ}
use Rattle.runs.specs.declared.stop.Stop.{Stop}
use Rattle.runs.specs.declared.stop.Stop.TheVariants as stop
use Rattle.calls.specs.declared.refusal.Refusal.{Refusal}
use Rattle.calls.specs.declared.refusal.Refusal.TheVariants.{Room, ProgramLine, ProgramTree, MasterLine, MasterRule, Source, Size, ViewLine, ViewDiffers, ProgramMark, Clash}

abbrev pub number_of : Refusal → ℕ
number_of Room = 1  -- output buffer or work slice too short
number_of (ProgramLine line) = 2  -- program line of wrong form, or line 96 present
number_of (ProgramTree entry) = 3  -- program breaks the tree or a bound
number_of (MasterLine line) = 4  -- master line of wrong form, or line 128 present
number_of (MasterRule line) = 5  -- master breaks a bound or number, or (putting back) carries a mark
number_of (Source entry) = 6  -- run stops for its source
number_of (Size entry) = 7  -- run stops for size
number_of (ViewLine line) = 8  -- view line of wrong form, or line 128 present
number_of (ViewDiffers line) = 9  -- view differs from the fresh one in count, depth, kind, number, or in the bytes of a line not marked 01
number_of (ProgramMark line) = 10  -- a line with number FFFF has a mark
number_of (Clash node) = 11  -- a node's standing is clash

-- of 1 the place is 0
abbrev pub place_of : Refusal → ℕ
place_of Room = 0
place_of (ProgramLine line) = line
place_of (ProgramTree entry) = entry
place_of (MasterLine line) = line
place_of (MasterRule line) = line
place_of (Source entry) = entry
place_of (Size entry) = entry
place_of (ViewLine line) = line
place_of (ViewDiffers line) = line
place_of (ProgramMark line) = line
place_of (Clash node) = node

-- a run's stop refuses the call
abbrev pub of_stop : Stop → Refusal
of_stop (stop.Source entry) = Source entry
of_stop (stop.Size entry) = Size entry
