-- Values and standings in the work slice: one word a node.
use Rattle.std.specs.Prelude.{ℕ, ◌+◌, ◌-◌, ◌/◌, ◌%◌, ◌≤◌, ◌<◌, ◌≡◌, Bool, false, cond, List, [], ◌∷◌, map, length, take, drop, ltb, eqb}
use Rattle.lines.specs.Texts.{same_text}
use Rattle.values.specs.declared.extents.Extent.{Extent}
use Rattle.values.specs.declared.nodes.WordOrigin.{WordOrigin}
use Rattle.values.specs.declared.nodes.WordOrigin.TheVariants.{Master, Program}
use Rattle.values.specs.Values.{Origin, master, program, Node, Value, under}
use Rattle.values.specs.Standings.{Standing, untouched, locked, changed, deleted, clash}

-- an extent: len words from start on
abbrev pub part : List ℕ → ℕ → ℕ → List ℕ
part w start len = take len (drop start w)

abbrev pub LiesIn : Extent → List ℕ → Type 0
LiesIn extent w = extent.start + extent.len ≤ length w

-- ## Nodes

-- what the program's entries make, by their places: whether it is an element, and its bytes
pub record Made : Type 0 where
  pub element : ℕ → Bool
  pub bytes : ℕ → List ℕ

-- the low half of a word: a master's number, or from 8000 on an entry of the program
unfoldable pub origin_of : Made → ℕ → Origin
origin_of made o = cond (ltb o 0x8000) (master o) (program (o - 0x8000) (made.element (o - 0x8000)) (made.bytes (o - 0x8000)))

-- the high half is the depth
unfoldable pub node_of : Made → ℕ → Node
node_of made x = record { depth = x / 0x10000; origin = origin_of made (x % 0x10000) }

-- the origin that the code reads off a word
abbrev pub origin_named : Made → WordOrigin → Origin
origin_named made (Master n) = master n
origin_named made (Program e) = program e (made.element e) (made.bytes e)

-- the nodes that words stand for
abbrev pub value_of : Made → List ℕ → Value
value_of made words = map (node_of made) words

unfoldable pub value_at : Made → List ℕ → ℕ → ℕ → Value
value_at made w start len = value_of made (part w start len)

-- a node one level up, and one level down where there is room
unfoldable pub lowered_word : ℕ → ℕ
lowered_word x = cond (ltb x 0x10000) x (x - 0x10000)

unfoldable pub raised_word : ℕ → ℕ
raised_word x = cond (ltb x 0xFFFF0000) (x + 0x10000) x

-- how many nodes the first item has
pub record FirstItem (words : List ℕ) (r : ℕ) : Type 0 where
  pub long : (made : Made) → r ≡ 1 + length (under (value_of made (drop 1 words)))
  pub within : r ≤ length words

-- ## Standings: 0 untouched, 1 locked, 2 deleted, 3 clash, and from 4 on changed to the text of a view line

unfoldable pub standing_of : (ℕ → List ℕ) → ℕ → Standing
standing_of texts x =
    cond (eqb x 0) untouched
    (cond (eqb x 1) locked
    (cond (eqb x 2) deleted
    (cond (eqb x 3) clash
    (changed (texts (x - 4))))))

unfoldable pub standings_at : (ℕ → List ℕ) → List ℕ → ℕ → ℕ → List Standing
standings_at texts w start len = map (standing_of texts) (part w start len)

-- a text is named by the first line that has it, so that equal standings are equal words
unfoldable pub Named : (ℕ → List ℕ) → ℕ → Type 0
Named texts x = (i : ℕ) → 4 + i < x → same_text (texts i) (texts (x - 4)) ≡ false

abbrev pub AllNamed : (ℕ → List ℕ) → List ℕ → Type 0
AllNamed texts [] = Unit {0}
AllNamed texts (x ∷ l) = Named texts x × AllNamed texts l

unfoldable pub merged_word : ℕ → ℕ → ℕ
merged_word a b = cond (eqb a 0) b (cond (eqb b 0) a (cond (eqb a b) a 3))

unfoldable pub merged_words : List ℕ → List ℕ → List ℕ
merged_words [] l = []
merged_words (a ∷ k) [] = []
merged_words (a ∷ k) (b ∷ l) = merged_word a b ∷ merged_words k l
