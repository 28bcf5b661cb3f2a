-- Values: what a program takes and shows. A value is the flat list of its nodes in document order; depths in it start at 0.
use Rattle.std.specs.Prelude.{ℕ, suc, pred, Bool, true, false, cond, ◌&&◌, ◌||◌, not, List, [], ◌∷◌, ◌++◌, map, length, leb, eqb}

-- where a node came from: the master's node of a number, or an entry of the program (its place, whether it makes an element, its bytes)
pub data Origin : Type 0 where
  master : ℕ → Origin
  program : ℕ → Bool → List ℕ → Origin

pub record Node : Type 0 where
  pub depth : ℕ
  pub origin : Origin

abbrev pub Value : Type 0
Value = List Node

-- what is known of the master's nodes, by their numbers
pub record Lookup : Type 0 where
  pub element : ℕ → Bool
  pub bytes : ℕ → List ℕ

-- whether it is an element
unfoldable pub element_of : Lookup → Origin → Bool
element_of look (master n) = look.element n
element_of look (program entry element bytes) = element

-- its text or tag
unfoldable pub bytes_of : Lookup → Origin → List ℕ
bytes_of look (master n) = look.bytes n
bytes_of look (program entry element bytes) = bytes

-- whether it comes from the master's node n
unfoldable pub is_from : ℕ → Origin → Bool
is_from n (master m) = eqb n m
is_from n (program entry element bytes) = false

-- the master's number, if it has one
unfoldable pub master_number : Origin → List ℕ
master_number (master n) = n ∷ []
master_number (program entry element bytes) = []

-- whether n is one of these numbers
unfoldable pub among : ℕ → List ℕ → Bool
among n [] = false
among n (m ∷ ms) = eqb n m || among n ms

-- a node that the program makes: it stands by itself
abbrev pub made : ℕ → Bool → List ℕ → Node
made entry element bytes = record { depth = 0; origin = program entry element bytes }

-- ## Top nodes

unfoldable pub is_top : Node → Bool
is_top x = eqb x.depth 0

-- whether there is no top node
unfoldable pub no_top : Value → Bool
no_top [] = true
no_top (x ∷ v) = not (is_top x) && no_top v

-- whether it begins with a top node, or there is nothing
unfoldable pub starts_top : Value → Bool
starts_top [] = true
starts_top (x ∷ v) = is_top x

-- the nodes before the first top node
unfoldable pub under : Value → Value
under [] = []
under (x ∷ v) = cond (is_top x) [] (x ∷ under v)

-- from the first top node on
unfoldable pub onward : Value → Value
onward [] = []
onward (x ∷ v) = cond (is_top x) (x ∷ v) (onward v)

-- every depth one less, and 0 stays 0: of the nodes under an element, its contents as a value
unfoldable pub lowered : Value → Value
lowered v = map (λ x. record { depth = pred x.depth; origin = x.origin }) v

-- every depth one more: a value as the contents of an element
unfoldable pub raised : Value → Value
raised v = map (λ x. record { depth = suc x.depth; origin = x.origin }) v

-- ## Items: each top node with its contents

unfoldable pub to_first : Node → List Value → List Value
to_first x [] = (x ∷ []) ∷ []
to_first x (i ∷ is) = (x ∷ i) ∷ is

-- a node is an item's last one where a top node follows, or nothing
unfoldable pub items : Value → List Value
items [] = []
items (x ∷ v) = cond (starts_top v) ((x ∷ []) ∷ items v) (to_first x (items v))

unfoldable pub joined : List Value → Value
joined [] = []
joined (v ∷ vs) = v ++ joined vs

-- ## "A value has at most 128 nodes and depth at most 9"

abbrev pub most_nodes : ℕ
most_nodes = 128

abbrev pub most_depth : ℕ
most_depth = 9

unfoldable pub shallow : Value → Bool
shallow [] = true
shallow (x ∷ v) = leb x.depth most_depth && shallow v

unfoldable pub within_bounds : Value → Bool
within_bounds v = leb (length v) most_nodes && shallow v
