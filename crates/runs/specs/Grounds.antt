-- The ground of a call: the numbered lines that a program runs over. Only `one_master` knows how many masters there are and where their numbers begin.
use Rattle.std.specs.Prelude.{ℕ, suc, cond, List, [], ◌∷◌, map, eqb, Option, None, Some}
use Rattle.lines.specs.Nodes.{Line, is_element, untouched_mark, program_number, no_line}
use Rattle.values.specs.Values.{Origin, master, program, Value, Lookup, bytes_of}
use Rattle.values.specs.Standings.{Standing, ◌⋓◌, is_clash, gathered, brings, hands_back}
use Rattle.runs.specs.declared.stop.Stop.{Stop}
use Rattle.runs.specs.Results.{Result}
use Rattle.runs.specs.Programs.{Transformation}
use Rattle.runs.specs.Showing.{Slots, Shown, show}
use Rattle.runs.specs.PuttingBack.{put_back, untouched_slots, gathered_slots, value_of}

-- ## Numbered lines

pub record Numbered : Type 0 where
  pub number : ℕ
  pub line : Line

-- a file whose first node has number n
unfoldable pub numbered_from : ℕ → List Line → List Numbered
numbered_from n [] = []
numbered_from n (l ∷ ls) = record { number = n; line = l } ∷ numbered_from (suc n) ls

-- the line of number n
unfoldable pub line_of : List Numbered → ℕ → Line
line_of [] n = no_line
line_of (a ∷ ls) n = cond (eqb n a.number) a.line (line_of ls n)

-- the file again
unfoldable pub lines_in : List Numbered → List Line
lines_in ls = map (λ a. a.line) ls

-- what the rules ask of it
abbrev pub lookup_in : List Numbered → Lookup
lookup_in ls = record { element = λ n. is_element (line_of ls n).kind; bytes = λ n. (line_of ls n).text }

-- "the whole master as a sequence of trees"
unfoldable pub whole : List Numbered → Value
whole ls = map (λ a. record { depth = a.line.depth; origin = master a.number }) ls

-- ## The ground

pub record Ground : Type 0 where
  pub lines : List Numbered
  pub given : Value  -- the source
  pub outer : Slots  -- bound outside the program

-- one master: its lines count from 0, and it is the source
abbrev pub one_master : List Line → Ground
one_master ls = record { lines = numbered_from 0 ls; given = whole (numbered_from 0 ls); outer = [] }

-- ## Showing

unfoldable pub showing : Ground → Transformation → Result Stop Shown
showing G X = show (lookup_in G.lines) X G.outer G.given

-- a shown node's line: "Shown nodes keep number, text and mark; nodes of 03 and 04 have mark 00"
unfoldable pub shown_line : List Numbered → ℕ → Origin → Line
shown_line ls d (master n) = record { depth = d; kind = (line_of ls n).kind; mark = (line_of ls n).mark; number = n; text = (line_of ls n).text }
shown_line ls d (program e element bytes) = record { depth = d; kind = cond element 2 1; mark = untouched_mark; number = program_number; text = bytes }

unfoldable pub view : Ground → Value → List Line
view G v = map (λ x. shown_line G.lines x.depth x.origin) v

-- ## Putting back

-- what a view's lines bring, beside the value that was shown
unfoldable pub brought : Lookup → Value → List Line → List Standing
brought look [] ls = []
brought look (x ∷ v) [] = []
brought look (x ∷ v) (l ∷ ls) = brings (bytes_of look x.origin) l.mark l.text ∷ brought look v ls

-- the standing of node n when the view has the standings ss: all that is handed back for it, merged
unfoldable pub standing : Ground → Transformation → List Standing → ℕ → Standing
standing G X ss n =
    let b = put_back (lookup_in G.lines) X G.outer G.given ss (untouched_slots G.outer) in
    gathered n G.given b.in_source ⋓ gathered_slots n G.outer b.in_slots

-- the same when the view has the lines ls
unfoldable pub standing_for : Ground → Transformation → List Line → ℕ → Standing
unfolding standing showing
standing_for G X ls n = standing G X (brought (lookup_in G.lines) (value_of (showing G X)) ls) n

-- reply 11, "a node's standing is clash": the first in the lines' order, which is the least number
unfoldable pub first_clash : (ℕ → Standing) → List Numbered → Option ℕ
first_clash standings [] = None
first_clash standings (a ∷ ls) = cond (is_clash (standings a.number)) (Some a.number) (first_clash standings ls)

-- the lines as they are handed back
unfoldable pub handed_back : (ℕ → Standing) → List Numbered → List Numbered
handed_back standings ls = map (λ a. record { number = a.number; line = hands_back a.line (standings a.number) }) ls

-- the ground with its lines as they are handed back
abbrev pub after : Ground → (ℕ → Standing) → Ground
after G standings = record { lines = handed_back standings G.lines; given = G.given; outer = G.outer }
