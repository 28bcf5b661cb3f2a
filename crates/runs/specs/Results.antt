-- What a run answers, or a reading: it gives something, or it stops. And document 01's numbers for the two stops.
use Rattle.std.specs.Prelude.{ℕ, Bool, true, false}
use Rattle.runs.specs.declared.stop.Stop.{Stop}
use Rattle.runs.specs.declared.stop.Stop.TheVariants.{Source, Size}

pub data Result (E A : Type 0) : Type 0 where
  gives : A → Result E A
  stops : E → Result E A

-- the first stop ends it
infixl 20 ◌>>=◌ ◌>>◌
abbrev pub ◌>>=◌ : {E A B : Type 0} → Result E A → (A → Result E B) → Result E B
gives a >>= f = f a
stops e >>= f = stops e

abbrev pub ◌>>◌ : {E A : Type 0} → Result E (Unit {0}) → Result E A → Result E A
gives u >> r = r
stops e >> r = stops e

abbrev pub ensure : {E : Type 0} → Bool → E → Result E (Unit {0})
ensure true e = gives tt
ensure false e = stops e

-- 6: "run stops for its source"; 7: "run stops for size"; at the entry
unfoldable pub stop_number : Stop → ℕ
stop_number (Source entry) = 6
stop_number (Size entry) = 7

unfoldable pub stop_entry : Stop → ℕ
stop_entry (Source entry) = entry
stop_entry (Size entry) = entry
