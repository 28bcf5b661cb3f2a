-- Standings: what putting back says of a node. They lie beside a value, one a node; merging joins what several copies say.
use Rattle.std.specs.Prelude.{ℕ, Bool, cond, ◌&&◌, ◌||◌, List, [], ◌∷◌, map, eqb}
use Rattle.lines.specs.Texts.{same_text}
use Rattle.lines.specs.Nodes.{Line, changed_mark, deleted_mark}
use Rattle.lines.specs.Views.{mark_counted}
use Rattle.values.specs.Values.{Value, is_from}

-- "untouched, locked, changed to a text, deleted, or clash"
pub data Standing : Type 0 where
  untouched locked : Standing
  changed : List ℕ → Standing
  deleted clash : Standing

-- which of the five, and the new text
unfoldable pub sort : Standing → ℕ
sort untouched = 0
sort locked = 1
sort deleted = 2
sort clash = 3
sort (changed t) = 4

unfoldable pub new_text : Standing → List ℕ
new_text untouched = []
new_text locked = []
new_text (changed t) = t
new_text deleted = []
new_text clash = []

unfoldable pub is_untouched : Standing → Bool
is_untouched s = eqb (sort s) 0

unfoldable pub is_clash : Standing → Bool
is_clash s = eqb (sort s) 3

unfoldable pub same_standing : Standing → Standing → Bool
same_standing s t = eqb (sort s) (sort t) && same_text (new_text s) (new_text t)

-- Merging: "untouched gives way to the other; two equal standings stay; all other pairs, two different texts included, give clash"
infixl 40 ◌⋓◌
unfoldable pub ◌⋓◌ : Standing → Standing → Standing
s ⋓ t =
    cond (is_untouched s) t
    (cond (is_untouched t) s
    (cond (same_standing s t) s
    clash))

-- ## Beside a value. A list that is too short counts as one filled up with untouched

abbrev pub first_of : List Standing → Standing
first_of [] = untouched
first_of (s ∷ ss) = s

abbrev pub rest_of : List Standing → List Standing
rest_of [] = []
rest_of (s ∷ ss) = ss

-- as many as the value has nodes
unfoldable pub fitted : Value → List Standing → List Standing
fitted [] ss = []
fitted (x ∷ v) ss = first_of ss ∷ fitted v (rest_of ss)

-- the same standing at each node
unfoldable pub all_over : Standing → Value → List Standing
all_over s v = map (λ x. s) v

-- "Merging of two values goes node by node"
unfoldable pub merged : List Standing → List Standing → List Standing
merged [] ts = ts
merged (s ∷ ss) [] = s ∷ ss
merged (s ∷ ss) (t ∷ ts) = (s ⋓ t) ∷ merged ss ts

-- what is said of the master's node n: all that stands at its copies, merged
unfoldable pub gathered : ℕ → Value → List Standing → Standing
gathered n [] ss = untouched
gathered n (x ∷ v) ss = cond (is_from n x.origin) (first_of ss) untouched ⋓ gathered n v (rest_of ss)

-- ## Lines

-- what a mark says of bytes: "untouched (mark 00), changed to its bytes (01) or deleted (02)"
unfoldable pub says : ℕ → List ℕ → Standing
says mark bytes = cond (eqb mark changed_mark) (changed bytes) (cond (eqb mark deleted_mark) deleted untouched)

-- what a view line brings, by the bytes of the fresh line, its own mark and its own bytes: what the mark that counts says
unfoldable pub brings : List ℕ → ℕ → List ℕ → Standing
brings fresh mark bytes = says (mark_counted fresh mark bytes) bytes

-- whether that line is edited, "a deleted line or one with a new text": by the mark that counts alone
unfoldable pub is_edit : List ℕ → ℕ → List ℕ → Bool
is_edit fresh mark bytes = let counts = mark_counted fresh mark bytes in eqb counts changed_mark || eqb counts deleted_mark

-- what a standing leaves of the master's line: "locked is handed back as untouched", "Deleted nodes stay, marked"
unfoldable pub hands_back : Line → Standing → Line
hands_back l untouched = l
hands_back l locked = l
hands_back l (changed t) = record { depth = l.depth; kind = l.kind; mark = changed_mark; number = l.number; text = t }
hands_back l deleted = record { depth = l.depth; kind = l.kind; mark = deleted_mark; number = l.number; text = l.text }
hands_back l clash = l
