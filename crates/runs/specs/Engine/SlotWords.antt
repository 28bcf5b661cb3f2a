-- The slots as the code has them: none, one more, and the innermost of a byte.
use Rattle.std.specs.Prelude.{ℕ, zero, suc, ◌+◌, cond, eqb, get_or, set, replicate}
use Rattle.runs.specs.declared.slots.Slot.{Slot}
use Rattle.runs.specs.declared.slots.SlotWords.{SlotWords}

abbrev pub no_slot : Slot
no_slot = record { start = 0; byte = 0; len = 0 }

abbrev pub no_slots : SlotWords
no_slots = record { bound = replicate 4 no_slot; count = 0 }

-- the slot at a place, from the outermost on
abbrev pub slot_at : SlotWords → ℕ → Slot
slot_at slots k = get_or slots.bound k no_slot

abbrev pub one_more : SlotWords → ℕ → ℕ → ℕ → SlotWords
one_more slots byte start len =
    record { bound = set slots.bound slots.count (record { start = start; byte = byte; len = len }); count = slots.count + 1 }

-- the place of the innermost of this byte among the first k; the number of all where there is none
unfoldable pub innermost : SlotWords → ℕ → ℕ → ℕ
innermost slots byte zero = slots.count
innermost slots byte (suc k) = cond (eqb byte (slot_at slots k).byte) k (innermost slots byte k)

-- the place of the innermost of all; their number where there is none
abbrev pub bound_to : SlotWords → ℕ → ℕ
bound_to slots byte = innermost slots byte slots.count
