-- Showing, rule by rule as document 01 has it.
use Rattle.std.specs.Prelude.{ℕ, ◌+◌, Bool, true, false, cond, not, List, [], ◌∷◌, ◌++◌, map, length, leb, eqb}
use Rattle.lines.specs.Texts.{same_text, agree}
use Rattle.values.specs.Values.{Node, Value, Lookup, element_of, bytes_of, master_number, made, no_top, lowered, raised, items, most_nodes, within_bounds}
use Rattle.runs.specs.declared.stop.Stop.{Stop}
use Rattle.runs.specs.declared.stop.Stop.TheVariants.{Source, Size}
use Rattle.runs.specs.Results.{Result, gives, stops, ◌>>=◌, ◌>>◌, ensure}
use Rattle.runs.specs.Programs.{Comparison, equals, Transformation, source, nothing, text, tag, slot, contents}
use Rattle.runs.specs.Programs.{within, and_then, beside, each, choose, bind, Test, compares, tagged, is_element}

-- ## The slots, innermost first

pub record Binding : Type 0 where
  pub byte : ℕ
  pub value : Value

abbrev pub Slots : Type 0
Slots = List Binding

-- "the innermost one counts"
unfoldable pub value_in : ℕ → Slots → Value
value_in k [] = []
value_in k (b ∷ slots) = cond (eqb k b.byte) b.value (value_in k slots)

-- ## What a run gives: the value, or a test's answer; and the numbers of the master's nodes whose texts were compared on the way

pub record Shown : Type 0 where
  pub value : Value
  pub compared : List ℕ

pub record Answer : Type 0 where
  pub yes : Bool
  pub compared : List ℕ

abbrev pub shown : Value → List ℕ → Result Stop Shown
shown v c = gives (record { value = v; compared = c })

abbrev pub answer : Bool → List ℕ → Result Stop Answer
answer b c = gives (record { yes = b; compared = c })

-- ## What an operation needs of its source: "Otherwise the run stops at that entry"

-- one top node, and what stands under it as a value
pub record Single : Type 0 where
  pub top : Node
  pub inner : Value

abbrev pub single : Node → Value → Single
single x v = record { top = x; inner = lowered v }

-- "exactly one top node"
unfoldable pub one_top : ℕ → Value → Result Stop Single
one_top e [] = stops (Source e)
one_top e (x ∷ v) = ensure (no_top v) (Source e) >> gives (single x v)

-- "exactly one top node, an element"
unfoldable pub one_element : Lookup → ℕ → Value → Result Stop Single
unfolding one_top
one_element look e v = do
  x ← one_top e v
  ensure (element_of look x.top.origin) (Source e)
  gives x

-- "exactly one text"
unfoldable pub one_text : Lookup → ℕ → Value → Result Stop Node
one_text look e [] = stops (Source e)
one_text look e (x ∷ []) = ensure (not (element_of look x.origin)) (Source e) >> gives x
one_text look e (x ∷ y ∷ v) = stops (Source e)

-- ## Values made by an entry

-- "A value over a bound stops it at the entry that yields it"
unfoldable pub bounded : ℕ → Value → List ℕ → Result Stop Shown
bounded e v c = ensure (within_bounds v) (Size e) >> shown v c

-- parts from the left, joined: "09 and 0A stop as soon as the parts joined so far hold more than 128 nodes, before later parts run"
unfoldable pub in_turn : ℕ → ℕ → List (Result Stop Shown) → Result Stop Shown
in_turn e sofar [] = shown [] []
in_turn e sofar (part ∷ parts) = do
  a ← part
  ensure (leb (sofar + length a.value) most_nodes) (Size e)
  b ← in_turn e (sofar + length a.value) parts
  shown (a.value ++ b.value) (a.compared ++ b.compared)

-- what a comparison says of the source text and the other text, at entry e
unfoldable pub verdict : Comparison → ℕ → List ℕ → List ℕ → Result Stop Bool
verdict equals e ours theirs = gives (agree ours theirs)

-- ## The rules

module _ (look : Lookup) where
  unfoldable mutual
    pub show : Transformation → Slots → Value → Result Stop Shown
    -- 01 the source itself
    show (source e) slots v = shown v []
    -- 02 nothing, the empty sequence
    show (nothing e) slots v = shown [] []
    -- 03 a text from the program
    show (text e b) slots v = shown (made e false b ∷ []) []
    -- 04 an empty element from the program
    show (tag e b) slots v = shown (made e true b ∷ []) []
    -- 05 the value of the slot
    show (slot e k) slots v = shown (value_in k slots) []
    -- 06 the contents of an element
    show (contents e) slots v = do
      x ← one_element look e v
      shown x.inner []
    -- 07 an element with contents run through X
    show (within e X) slots v = do
      x ← one_element look e v
      a ← show X slots x.inner
      bounded e (x.top ∷ raised a.value) a.compared
    -- 08 X1, then X2 on its result
    show (and_then e X Y) slots v = do
      a ← show X slots v
      b ← show Y slots a.value
      shown b.value (a.compared ++ b.compared)
    -- 09 both on the same source, joined
    show (beside e X Y) slots v = in_turn e 0 (show X slots v ∷ show Y slots v ∷ [])
    -- 0A X on each top node, joined
    show (each e X) slots v = in_turn e 0 (map (λ i. show X slots i) (items v))
    -- 0B if P then X1 else X2
    show (choose e P X Y) slots v = do
      p ← test P slots v
      (a : Shown) ← elim p.yes [ true ↦ show X slots v | false ↦ show Y slots v ]
      shown a.value (p.compared ++ a.compared)
    -- 0C bind the slot to the source, run X on nothing
    show (bind e k X) slots v = show X (record { byte = k; value = v } ∷ slots) []

    pub test : Test → Slots → Value → Result Stop Answer
    -- 11 source text equals X run on nothing: "needs exactly one text as source, checked first, and exactly one text from X, checked after X has run"
    test (compares e c X) slots v = do
      x ← one_text look e v
      a ← show X slots []
      y ← one_text look e a.value
      b ← verdict c e (bytes_of look x.origin) (bytes_of look y.origin)
      answer b (a.compared ++ (master_number x.origin ++ master_number y.origin))
    -- 12 element with this tag: "needs exactly one element"
    test (tagged e t) slots v = do
      x ← one_element look e v
      answer (same_text (bytes_of look x.top.origin) t) []
    -- 13 is an element: "needs exactly one top node"
    test (is_element e) slots v = do
      x ← one_top e v
      answer (element_of look x.top.origin) []
