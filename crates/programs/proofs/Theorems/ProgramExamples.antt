-- Document 01's programs as examples: lines and ways, a sound program, and first faults.
use Rattle.std.specs.Prelude.{◌≡◌, refl, ◌⊎◌, Bool, true, ℕ, suc, replicate}
use Rattle.std.proofs.Common.{inl, inr}
use mathlib.Core.List.Memᴰ
use mathlib.Core.List.{List, [], ◌∷◌, ◌++◌, map, flatten}
use Rattle.lines.specs.Entries.{Entry, slot_of, rows, row_of, operand_shape, operand_form, text_of}
use Rattle.values.specs.Values.{among}
use Rattle.runs.specs.Results.{stops}
use Rattle.runs.specs.Programs.{Transformation, source, contents, within, and_then, each}
use Rattle.runs.specs.Reading.{below, operations, makes, transformation_at, read_in, read_program}
use Rattle.programs.specs.SoundPrograms.{◌∈◌, entry, fold, ways, prefix, counted, Formed, FirstFault, SoundProgram}
use Rattle.programs.specs.Theorems.Ways.{All}
use Rattle.programs.proofs.Theorems.Reading.{program_sound}
use Rattle.programs.proofs.Theorems.Faults.{stops_first}

abbrev bare : ℕ → Entry
bare b = entry b []

-- "P is `08`,`06`,`0A`,`06`"
abbrev example_p : Transformation
example_p = and_then 0 (contents 1) (each 2 (contents 3))

p_lines : prefix example_p ≡ counted 0 (map bare (0x08 ∷ 0x06 ∷ 0x0A ∷ 0x06 ∷ []))
unfolding fold flatten counted
p_lines = refl

p_ways : ways example_p ≡ map (map bare) ((0x08 ∷ []) ∷ (0x08 ∷ 0x06 ∷ []) ∷ (0x08 ∷ 0x0A ∷ []) ∷ (0x08 ∷ 0x0A ∷ 0x06 ∷ []) ∷ [])
unfolding fold flatten
p_ways = refl

-- ## Example 11

abbrev form_of : Entry → Bool
form_of e = operand_form (operand_shape e.operation) e.operand

formed_so : (es : List Entry) → map form_of es ≡ map (λ e. true) es → Formed es
formed_so [] h e m = absurd (Memᴰ.not-nil m)
formed_so (x ∷ es) h e m = go (Memᴰ.cases_cons m) (λ n. formed_so es (cc) e n)
  where
    go : (e ≡ x) ⊎ (e ∈ es) → (e ∈ es → form_of e ≡ true) → form_of e ≡ true
    go (inl q) rest = rw q (cc)
    go (inr n) rest = rest n

-- "Eleven `07` then `01` is sound"
abbrev nested : ℕ → Transformation → Transformation
nested p X = within p (within (suc p) X)

abbrev eleven : List Entry
eleven = replicate 11 (bare 0x07) ++ (bare 0x01 ∷ [])

eleven_sound : SoundProgram eleven (nested 0 (nested 2 (nested 4 (nested 6 (nested 8 (within 10 (source 11)))))))
unfolding operand_form row_of rows read_program read_in transformation_at below makes operations
eleven_sound = program_sound eleven _ (formed_so eleven refl) refl

-- the others, each with its place
abbrev unsound : List (List Entry × ℕ)
unsound =
    (replicate 12 (bare 0x07) ++ (bare 0x01 ∷ []), 12) ∷
    (replicate 4 (bare 0x0A) ++ (bare 0x01 ∷ []), 3) ∷
    (bare 0x01 ∷ bare 0x01 ∷ [], 1) ∷
    (bare 0x08 ∷ bare 0x01 ∷ [], 2) ∷
    ([], 0) ∷
    (entry 0x05 (0 ∷ []) ∷ [], 0) ∷
    []

all_first : (cs : List (List Entry × ℕ)) → map (λ c. map form_of c.0) cs ≡ map (λ c. map (λ e. true) c.0) cs
    → map (λ c. read_program c.0) cs ≡ map (λ c. stops c.1) cs → All (λ c. FirstFault c.0 c.1) cs
all_first [] f h = tt
all_first (c ∷ cs) f h = (stops_first c.0 (formed_so c.0 (cc)) c.1 (cc), all_first cs (cc) (cc))

first_faults : All (λ c. FirstFault c.0 c.1) unsound
unfolding operand_form row_of rows read_program read_in transformation_at below makes operations among slot_of text_of
first_faults = all_first unsound refl refl
