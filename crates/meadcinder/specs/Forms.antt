-- The forms for C: "takes byte slices only, brings its own work slice, and returns number times 2^32 plus place times 2^16 plus length". And what a host reads in that answer.
use Rattle.std.specs.Prelude.{ℕ, ◌+◌, ◌*◌, ◌/◌, ◌%◌, ◌≡◌, List, replicate}
use Rattle.calls.specs.Outcomes.{Outcome, outcome, work_room, show_call, put_back_call}
use Rattle.calls.specs.Sweeping.{sweep_call}

pub data PackedOutcome : Type 0 where
  packed : (answer : ℕ) (out : List ℕ) → PackedOutcome

unfoldable pub in_one : Outcome → PackedOutcome
in_one (outcome number place length out work) = packed (number * 0x100000000 + place * 0x10000 + length) out

-- counts as the form's work slice: what it brings may be shorter, and no host sees it
abbrev pub own_work : List ℕ
own_work = replicate work_room 0

unfoldable pub show_in_c : (master program out : List ℕ) → PackedOutcome
show_in_c master program out = in_one (show_call master program out own_work)

unfoldable pub put_back_in_c : (master program edited out : List ℕ) → PackedOutcome
put_back_in_c master program edited out = in_one (put_back_call master program edited out own_work)

-- ## What a host reads: MEADCINDER_NUMBER, MEADCINDER_PLACE and MEADCINDER_LENGTH of the header

abbrev pub number_in : ℕ → ℕ
number_in answer = answer / 0x100000000

abbrev pub place_in : ℕ → ℕ
place_in answer = answer / 0x10000 % 0x10000

abbrev pub length_in : ℕ → ℕ
length_in answer = answer % 0x10000

-- the outcome that a host has: the three numbers and the output; the form's own work slice, which no host sees, counts as zeros
unfoldable pub as_read : PackedOutcome → Outcome
as_read (packed answer out) = outcome (number_in answer) (place_in answer) (length_in answer) out own_work

-- ## The contracts: the answer is packed as document 01 says, and a host reads the call's outcome in it

pub record ShowsInC (master program out : List ℕ) (left : PackedOutcome) : Type 0 where
  pub packs : left ≡ show_in_c master program out
  pub reads : as_read left ≡ show_call master program out own_work

pub record PutsBackInC (master program edited out : List ℕ) (left : PackedOutcome) : Type 0 where
  pub packs : left ≡ put_back_in_c master program edited out
  pub reads : as_read left ≡ put_back_call master program edited out own_work

-- ## A sweep has two outputs and no work slice

unfoldable pub both_as_read : (answer : ℕ) (out numbers : List ℕ) → Outcome
both_as_read answer out numbers = outcome (number_in answer) (place_in answer) (length_in answer) out numbers

pub record SweepsInC (master out numbers : List ℕ) (answer : ℕ) (out' numbers' : List ℕ) : Type 0 where
  pub packs : packed answer out' ≡ in_one (sweep_call master out numbers)
  pub reads : both_as_read answer out' numbers' ≡ sweep_call master out numbers
