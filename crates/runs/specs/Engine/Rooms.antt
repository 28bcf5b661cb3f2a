-- Rooms as the code has them: the bytes of the slots, from the outermost on, and their number.
use Rattle.std.specs.Prelude.{ℕ, zero, suc, List, [], ◌∷◌, get_or}
use Rattle.runs.specs.declared.room.Room.{Room as RoomLeft}
use Rattle.runs.specs.Reading.{Room}

-- the first k bytes, the last one first: the innermost slot
unfoldable pub slots_of : List ℕ → ℕ → List ℕ
slots_of bytes zero = []
slots_of bytes (suc k) = get_or bytes k 0 ∷ slots_of bytes k

abbrev pub room_of : RoomLeft → Room
room_of room = record { eaches = room.eaches; binds = room.binds; slots = slots_of room.bytes room.count }
