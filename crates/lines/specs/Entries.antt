-- Program lines: an operation byte and its operand; and the one table of operations.
use Rattle.std.specs.Prelude.{ℕ, ◌+◌, Bool, false, cond, ◌&&◌, List, [], ◌∷◌, map, length, get_or, drop, leb, eqb, Option, None, Some, option_map, unwrap_or}
use Rattle.lines.specs.declared.table.Class.{Class}
use Rattle.lines.specs.declared.table.Class.TheVariants.{Transformation, Test}
use Rattle.lines.specs.declared.table.Shape.{Shape}
use Rattle.lines.specs.declared.table.Shape.TheVariants.{Nothing, Text, Tag, Slot}
use Rattle.lines.specs.declared.table.Row.{Row}
use Rattle.lines.specs.Hex.{between, decode}
use Rattle.lines.specs.Lines.{cut, is_line}
use Rattle.lines.specs.Nodes.{is_tag}

pub record Entry : Type 0 where
  pub operation : ℕ
  pub operand : List ℕ

-- bytes 01 to 0C are transformations, 11 to 13 tests
unfoldable pub class_of : ℕ → Option Class
class_of b = cond (between 0x01 0x0C b) (Some Transformation) (cond (between 0x11 0x13 b) (Some Test) None)

abbrev pub row : Shape → ℕ → Option Row
row shape subs = Some (record { shape = shape; subs = subs })

-- operand shape and number of sub-entries of each operation, from byte 00 on
unfoldable pub rows : List (Option Row)
rows =
    None ∷  -- 00
    row Nothing 0 ∷  -- 01 the source itself
    row Nothing 0 ∷  -- 02 nothing, the empty sequence
    row Text 0 ∷  -- 03 a text from the program
    row Tag 0 ∷  -- 04 an empty element from the program
    row Slot 0 ∷  -- 05 the value of the slot
    row Nothing 0 ∷  -- 06 the contents of an element
    row Nothing 1 ∷  -- 07 X: an element with contents run through X
    row Nothing 2 ∷  -- 08 X1 X2: X1, then X2 on its result
    row Nothing 2 ∷  -- 09 X1 X2: both on the same source, joined
    row Nothing 1 ∷  -- 0A X: X on each top node, joined
    row Nothing 3 ∷  -- 0B P X1 X2: if P then X1 else X2
    row Slot 1 ∷  -- 0C X: bind the slot to the source, run X on nothing
    None ∷  -- 0D
    None ∷  -- 0E
    None ∷  -- 0F
    None ∷  -- 10
    row Nothing 1 ∷  -- 11 X: test, source text equals X run on nothing
    row Tag 0 ∷  -- 12 test, element with this tag
    row Nothing 0 ∷  -- 13 test, is an element
    []

unfoldable pub row_of : ℕ → Option Row
row_of b = get_or rows b None

abbrev pub operand_shape : ℕ → Option Shape
operand_shape b = option_map (λ r. r.shape) (row_of b)

abbrev pub subs_of : ℕ → ℕ
subs_of b = unwrap_or (option_map (λ r. r.subs) (row_of b)) 0

-- "length, 0 to 32 bytes"
unfoldable pub text_form : List ℕ → Bool
text_form b = leb 1 (length b) && (leb (get_or b 0 0) 32 && eqb (length b) (1 + get_or b 0 0))

-- what each shape asks of the operand's bytes
unfoldable pub operand_form : Option Shape → List ℕ → Bool
operand_form (Some Nothing) b = eqb (length b) 0
operand_form (Some Text) b = text_form b
operand_form (Some Tag) b = text_form b && is_tag (drop 1 b)
operand_form (Some Slot) b = eqb (length b) 1
operand_form None b = false

unfoldable pub entry_form : List ℕ → Bool
entry_form b = operand_form (operand_shape (get_or b 0 0)) (drop 1 b)

unfoldable pub entry_line : List ℕ → Bool
entry_line c = is_line c && entry_form (decode c)

-- the entry whose line has the bytes b
abbrev pub entry_of : List ℕ → Entry
entry_of b = record { operation = get_or b 0 0; operand = drop 1 b }

-- the entries of a file
unfoldable pub entries : List ℕ → List Entry
entries s = map (λ c. entry_of (decode c)) (cut s)

-- what an operand is: a slot byte, or a text or tag behind its length
unfoldable pub slot_of : Entry → ℕ
slot_of e = get_or e.operand 0 0

unfoldable pub text_of : Entry → List ℕ
text_of e = drop 1 e.operand
