-- The clauses of the rules with their sub-runs left open: what the lemmas of a combinator speak of, whatever is shown of it.
use Rattle.std.specs.Prelude.{Bool, true, false, List, [], ◌∷◌, ◌++◌, map, ℕ, length, take, drop}
use Rattle.values.specs.Values.{Value, Lookup, bytes_of, master_number, raised, items}
use Rattle.values.specs.Standings.{Standing, untouched, locked, first_of, rest_of, all_over, merged}
use Rattle.runs.specs.declared.stop.Stop.{Stop}
use Rattle.runs.specs.Results.{Result, ◌>>=◌}
use Rattle.runs.specs.Showing.{Slots, value_in, Shown, Answer, shown, answer, one_element, one_text, bounded, in_turn}
use Rattle.runs.specs.PuttingBack.{SlotStandings, first_slot, rest_slots, merged_into, Back, back, value_of, says_yes, inside, over_items}

abbrev pub Run : Type 0
Run = Slots → Value → Result Stop Shown

abbrev pub Asking : Type 0
Asking = Slots → Value → Result Stop Answer

abbrev pub Putting : Type 0
Putting = Slots → Value → List Standing → SlotStandings → Back

-- ## Showing

-- 01
abbrev pub source_run : Run
source_run slots v = shown v []

-- 02, 03, 04
abbrev pub made_run : Value → Run
made_run w slots v = shown w []

-- 05
abbrev pub slot_run : ℕ → Run
slot_run k slots v = shown (value_in k slots) []

-- 06
abbrev pub contents_run : Lookup → ℕ → Run
contents_run look e slots v = one_element look e v >>= λ x. shown x.inner []

-- 07
abbrev pub within_run : Lookup → ℕ → Run → Run
within_run look e run slots v = one_element look e v >>= λ x. run slots x.inner >>= λ a. bounded e (x.top ∷ raised a.value) a.compared

-- 08
abbrev pub then_run : Run → Run → Run
then_run f g slots v = f slots v >>= λ a. g slots a.value >>= λ b. shown b.value (a.compared ++ b.compared)

-- 09
abbrev pub beside_run : ℕ → Run → Run → Run
beside_run e f g slots v = in_turn e 0 (f slots v ∷ g slots v ∷ [])

-- 0A
abbrev pub each_run : ℕ → Run → Run
each_run e run slots v = in_turn e 0 (map (run slots) (items v))

-- 0B
abbrev pub branch_run : Bool → Run → Run → Run
branch_run t f g slots v = elim t [ true ↦ f slots v | false ↦ g slots v ]

abbrev pub choose_run : Asking → Run → Run → Run
choose_run ask f g slots v = ask slots v >>= λ p. branch_run p.yes f g slots v >>= λ a. shown a.value (p.compared ++ a.compared)

-- 0C
abbrev pub bound : ℕ → Slots → Value → Slots
bound k slots v = record { byte = k; value = v } ∷ slots

abbrev pub bind_run : ℕ → Run → Run
bind_run k run slots v = run (bound k slots v) []

-- 11, by any verdict
abbrev pub compares_ask : Lookup → (List ℕ → List ℕ → Result Stop Bool) → ℕ → Run → Asking
compares_ask look judge e run slots v =
    one_text look e v >>= λ x. run slots [] >>= λ a. one_text look e a.value >>= λ y.
    judge (bytes_of look x.origin) (bytes_of look y.origin) >>= λ b. answer b (a.compared ++ (master_number x.origin ++ master_number y.origin))

-- 12, 13
abbrev pub plain_ask : {A : Type 0} → (Value → Result Stop A) → (A → Bool) → Asking
plain_ask need says slots v = need v >>= λ x. answer (says x) []

-- ## Putting back

-- 01, and tests 12 and 13
abbrev pub source_put : Putting
source_put slots v ss us = back ss us

-- 02, 03, 04
abbrev pub made_put : Putting
made_put slots v ss us = back (all_over untouched v) us

-- 05
abbrev pub slot_put : ℕ → Putting
slot_put k slots v ss us = back (all_over untouched v) (merged_into k slots ss us)

-- 06
abbrev pub contents_put : Putting
contents_put slots v ss us = back (untouched ∷ ss) us

-- 07
abbrev pub within_put : Putting → Putting
within_put put slots v ss us =
    let a = put slots (inside v) (rest_of ss) us in
    back (first_of ss ∷ a.in_source) a.in_slots

-- 08
abbrev pub then_put : Run → Putting → Putting → Putting
then_put f f' g' slots v ss us =
    let b = g' slots (value_of (f slots v)) ss us in
    f' slots v b.in_source b.in_slots

-- 09
abbrev pub beside_put : Run → Run → Putting → Putting → Putting
beside_put f g f' g' slots v ss us =
    let m = length (value_of (f slots v)) in
    let n = length (value_of (g slots v)) in
    let b = g' slots v (take n (drop m ss)) us in
    let a = f' slots v (take m ss) b.in_slots in
    back (merged a.in_source b.in_source) a.in_slots

-- 0A, over these items
abbrev pub items_put : Run → Putting → List Value → Slots → List Standing → SlotStandings → Back
items_put run put is slots ss us = over_items (put slots) (λ i. length (value_of (run slots i))) is ss us

abbrev pub each_put : Run → Putting → Putting
each_put run put slots v ss us = items_put run put (items v) slots ss us

-- 0B
abbrev pub branch_put : Bool → Putting → Putting → Putting
branch_put t f' g' slots v ss us = elim t [ true ↦ f' slots v ss us | false ↦ g' slots v ss us ]

abbrev pub choose_put : Asking → Putting → Putting → Putting → Putting
choose_put ask t' f' g' slots v ss us =
    let b = branch_put (says_yes (ask slots v)) f' g' slots v ss us in
    t' slots v b.in_source b.in_slots

-- 0C
abbrev pub bind_put : ℕ → Putting → Putting
bind_put k put slots v ss us =
    let b = put (bound k slots v) [] ss (all_over untouched v ∷ us) in
    back (first_slot b.in_slots) (rest_slots b.in_slots)

-- 11
abbrev pub compares_put : Putting → Putting
compares_put put slots v rs us =
    let a = put slots [] (locked ∷ []) us in
    back (merged rs (all_over locked v)) a.in_slots
