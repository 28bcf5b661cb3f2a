-- Putting back, rule by rule as document 01 has it. A view comes as its standings, one a node of what was shown.
use Rattle.std.specs.Prelude.{ℕ, Bool, true, false, cond, List, [], ◌∷◌, ◌++◌, map, length, take, drop, eqb}
use Rattle.values.specs.Values.{Value, Lookup, lowered, items}
use Rattle.values.specs.Standings.{Standing, untouched, locked, ◌⋓◌, first_of, rest_of, fitted, all_over, merged, gathered}
use Rattle.runs.specs.declared.stop.Stop.{Stop}
use Rattle.runs.specs.Results.{Result, gives, stops}
use Rattle.runs.specs.Programs.{Transformation, source, nothing, text, tag, slot, contents, within, and_then, beside, each, choose, bind, Test, compares, tagged, is_element}
use Rattle.runs.specs.Showing.{Slots, Shown, Answer, show, test}

-- ## The slots' standings, innermost first

abbrev pub SlotStandings : Type 0
SlotStandings = List (List Standing)

abbrev pub first_slot : SlotStandings → List Standing
first_slot [] = []
first_slot (ss ∷ us) = ss

abbrev pub rest_slots : SlotStandings → SlotStandings
rest_slots [] = []
rest_slots (ss ∷ us) = us

-- the slot takes standings in: the innermost of its byte
unfoldable pub merged_into : ℕ → Slots → List Standing → SlotStandings → SlotStandings
merged_into k [] ss us = us
merged_into k (b ∷ slots) ss us =
    cond (eqb k b.byte) (merged (first_slot us) ss ∷ rest_slots us)
    (first_slot us ∷ merged_into k slots ss (rest_slots us))

-- slots that nothing has been said of
unfoldable pub untouched_slots : Slots → SlotStandings
untouched_slots slots = map (λ b. all_over untouched b.value) slots

-- what is said of the master's node n in the slots
unfoldable pub gathered_slots : ℕ → Slots → SlotStandings → Standing
gathered_slots n [] us = untouched
gathered_slots n (b ∷ slots) us = gathered n b.value (first_slot us) ⋓ gathered_slots n slots (rest_slots us)

-- ## What is handed back: the source's standings and the slots'

pub record Back : Type 0 where
  pub in_source : List Standing
  pub in_slots : SlotStandings

abbrev pub back : List Standing → SlotStandings → Back
back ss us = record { in_source = ss; in_slots = us }

-- what showing gave, where it did not stop
unfoldable pub value_of : Result Stop Shown → Value
value_of (gives a) = a.value
value_of (stops s) = []

unfoldable pub says_yes : Result Stop Answer → Bool
says_yes (gives p) = p.yes
says_yes (stops s) = false

-- the contents of the source element
unfoldable pub inside : Value → Value
inside [] = []
inside (x ∷ v) = lowered v

-- "0A cuts likewise and goes over the items": from the left, each with its part of the view, as long as what it showed
unfoldable pub over_items : (Value → List Standing → SlotStandings → Back) → (Value → ℕ) → List Value → List Standing → SlotStandings → Back
over_items put size [] ss us = back [] us
over_items put size (i ∷ is) ss us =
    let a = put i (take (size i) ss) us in
    let b = over_items put size is (drop (size i) ss) a.in_slots in
    back (fitted i a.in_source ++ b.in_source) b.in_slots

-- ## The rules

module _ (look : Lookup) where
  unfoldable mutual
    pub put_back : Transformation → Slots → Value → List Standing → SlotStandings → Back
    -- "01 hands back the view"
    put_back (source e) slots v ss us = back ss us
    -- "02, 03, 04 hand back the source"
    put_back (nothing e) slots v ss us = back (all_over untouched v) us
    put_back (text e b) slots v ss us = back (all_over untouched v) us
    put_back (tag e b) slots v ss us = back (all_over untouched v) us
    -- "05 merges the view into its slot and hands back the source"
    put_back (slot e k) slots v ss us = back (all_over untouched v) (merged_into k slots ss us)
    -- "06 puts the view in as contents of the source element, itself untouched"
    put_back (contents e) slots v ss us = back (untouched ∷ ss) us
    -- "07 takes the view element's own mark and puts its contents back through X"
    put_back (within e X) slots v ss us =
        let a = put_back X slots (inside v) (rest_of ss) us in
        back (first_of ss ∷ a.in_source) a.in_slots
    -- "08 puts back through X2 over the freshly shown result of X1, then through X1"
    put_back (and_then e X Y) slots v ss us =
        let b = put_back Y slots (value_of (show look X slots v)) ss us in
        put_back X slots v b.in_source b.in_slots
    -- "09 cuts the view by the two shown lengths in top nodes, puts back X2, then X1, and merges the two sources": here by nodes, which is the same cut (Theorems/Cuts)
    put_back (beside e X Y) slots v ss us =
        let m = length (value_of (show look X slots v)) in
        let n = length (value_of (show look Y slots v)) in
        let b = put_back Y slots v (take n (drop m ss)) us in
        let a = put_back X slots v (take m ss) b.in_slots in
        back (merged a.in_source b.in_source) a.in_slots
    -- "0A cuts likewise and goes over the items"
    put_back (each e X) slots v ss us =
        over_items (λ i s u. put_back X slots i s u) (λ i. length (value_of (show look X slots i))) (items v) ss us
    -- "0B puts back the branch that showing took, then P"
    put_back (choose e P X Y) slots v ss us =
        let b : Back = elim (says_yes (test look P slots v)) [ true ↦ put_back X slots v ss us | false ↦ put_back Y slots v ss us ] in
        put_back_test P slots v b.in_source b.in_slots
    -- "0C starts with the slot untouched and hands back the slot's value"
    put_back (bind e k X) slots v ss us =
        let b = put_back X (record { byte = k; value = v } ∷ slots) [] ss (all_over untouched v ∷ us) in
        back (first_slot b.in_slots) (rest_slots b.in_slots)

    -- over the source that the branch handed back, rs
    pub put_back_test : Test → Slots → Value → List Standing → SlotStandings → Back
    -- "P of kind 11 merges locked into the source text that the branch handed back and puts X's result back locked"
    put_back_test (compares e c X) slots v rs us =
        let a = put_back X slots [] (locked ∷ []) us in
        back (merged rs (all_over locked v)) a.in_slots
    -- "12 and 13 do nothing"
    put_back_test (tagged e t) slots v rs us = back rs us
    put_back_test (is_element e) slots v rs us = back rs us
