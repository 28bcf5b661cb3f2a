-- Node lines (master and view): depth, kind, mark, number high byte, number low byte, length, then that many bytes (0 to 32).
use Rattle.std.specs.Prelude.{ℕ, ◌+◌, ◌*◌, Bool, true, false, cond, ◌&&◌, ◌||◌, not, List, [], ◌∷◌, map, length, get_or, drop, leb, eqb, Option, None, Some}
use Rattle.lines.specs.declared.kind.Kind.{Kind}
use Rattle.lines.specs.declared.kind.Kind.TheVariants.{Text, Element, Order}
use Rattle.lines.specs.declared.kind.Mark.{Mark}
use Rattle.lines.specs.declared.kind.Mark.TheVariants.{Untouched, Changed, Deleted}
use Rattle.lines.specs.Hex.{between, decode}
use Rattle.lines.specs.Lines.{cut, is_line}
use Rattle.lines.specs.Texts.{same_text}

pub record Line : Type 0 where
  pub depth : ℕ
  pub kind : ℕ
  pub mark : ℕ
  pub number : ℕ
  pub text : List ℕ

-- marks: 00 untouched, 01 changed, 02 deleted
abbrev pub untouched_mark : ℕ
untouched_mark = 0

abbrev pub changed_mark : ℕ
changed_mark = 1

abbrev pub deleted_mark : ℕ
deleted_mark = 2

unfoldable pub is_marked : Line → Bool
is_marked n = not (eqb n.mark untouched_mark)

-- what a mark's byte says
unfoldable pub mark_of : ℕ → Option Mark
mark_of b = cond (eqb b untouched_mark) (Some Untouched) (cond (eqb b changed_mark) (Some Changed) (cond (eqb b deleted_mark) (Some Deleted) None))

-- kinds: 01 a text, 02 an element, 03 a word order
unfoldable pub kind_of : ℕ → Option Kind
kind_of b = cond (eqb b 1) (Some Text) (cond (eqb b 2) (Some Element) (cond (eqb b 3) (Some Order) None))

-- "Number FFFF means the node came from the program"
abbrev pub program_number : ℕ
program_number = 0xFFFF

-- kind 02: an element, whose bytes are its tag
unfoldable pub is_element : ℕ → Bool
is_element kind = eqb kind 2

unfoldable pub all_of : (ℕ → Bool) → List ℕ → Bool
all_of f [] = true
all_of f (x ∷ xs) = f x && all_of f xs

-- "A tag has 1 to 32 bytes, each 21 to 7E"; that there are at most 32 is said of every text's length
unfoldable pub is_tag : List ℕ → Bool
is_tag t = leb 1 (length t) && all_of (between 0x21 0x7E) t

-- the two words of kind 03
abbrev pub hi_lo : List ℕ
hi_lo = 0x68 ∷ 0x69 ∷ 0x2D ∷ 0x6C ∷ 0x6F ∷ []

abbrev pub lo_hi : List ℕ
lo_hi = 0x6C ∷ 0x6F ∷ 0x2D ∷ 0x68 ∷ 0x69 ∷ []

-- "exactly `hi-lo` or `lo-hi`"
unfoldable pub is_order : List ℕ → Bool
is_order t = same_text t hi_lo || same_text t lo_hi

-- what a kind asks of the mark, one of the three, and of the bytes. Kind 01, a text: nothing more. Kind 02, an element: "Mark 01 stands only on a text", and a tag. Kind 03, a word order: one of the two words, whatever the mark
unfoldable pub kind_rule : ℕ → ℕ → List ℕ → Bool
kind_rule kind mark text =
    leb mark deleted_mark
    && cond (eqb kind 1) true
    (cond (is_element kind) (not (eqb mark changed_mark) && is_tag text)
    (cond (eqb kind 3) (is_order text)
    false))

-- the bytes of a node's line. Depth and number are free in form
unfoldable pub node_form : List ℕ → Bool
node_form b =
    leb 6 (length b)
    && (eqb (length b) (6 + get_or b 5 0)
    && (leb (get_or b 5 0) 32
    && kind_rule (get_or b 1 0) (get_or b 2 0) (drop 6 b)))

unfoldable pub node_line : List ℕ → Bool
node_line c = is_line c && node_form (decode c)

-- the node whose line has the bytes b: the number's high byte comes first
abbrev pub node_of : List ℕ → Line
node_of b =
    record {
      depth = get_or b 0 0;
      kind = get_or b 1 0;
      mark = get_or b 2 0;
      number = 256 * get_or b 3 0 + get_or b 4 0;
      text = drop 6 b;
    }

-- behind the last line stands one that the program made, unmarked
abbrev pub no_line : Line
no_line = record { depth = 0; kind = 1; mark = untouched_mark; number = program_number; text = [] }

-- line i
abbrev pub line_at : List Line → ℕ → Line
line_at ls i = get_or ls i no_line

-- the nodes of a file
unfoldable pub nodes : List ℕ → List Line
nodes s = map (λ c. node_of (decode c)) (cut s)
