-- One master as the ground of a run: its lines by their places, and its words at the foot of the work slice.
use mathlib.Core.Path.{◌≡◌, refl, sym, ap, ap₂, ◌∙◌}
use mathlib.Core.List.{List, [], ◌∷◌, map}
use Prim.Native.Nat.{ℕ, suc, ◌+◌, ◌*◌, ◌/◌, ◌%◌, ◌≤◌, ◌<◌}
use native.Mathlib.Nat.{not-suc-le-zero}
use native.Mathlib.Omega.{arith}
use lib.ListN.{length, get_or}
use borrow.Author.Tests.{lt-ltb}
use Rattle.lines.specs.Nodes.{Line, is_element, no_line}
use Rattle.lines.specs.Entries.{Entry}
use Rattle.values.specs.Values.{master, Node, Value}
use Rattle.values.specs.Engine.Words.{part, Made, origin_of, node_of, value_at}
use Rattle.runs.specs.Grounds.{numbered_from, line_of, lookup_in, whole, one_master, showing}
use Rattle.runs.specs.Programs.{Transformation}
use Rattle.runs.specs.Reading.{whole_room}
use Rattle.runs.specs.Showing.{show}
use Rattle.runs.specs.Engine.SlotWords.{no_slots}
use Rattle.runs.specs.Engine.Runs.{lookup_of, slots_to, slots_at, bytes_to, Bound, Inside, Ready}
use Rattle.runs.specs.Theorems.WholePrograms.{program_placed}
use Rattle.calls.specs.Theorems.ShownNumbers.{line_is}
use Rattle.calls.specs.Engine.Parts.{source_words, Runnable}

-- ## Lookups

pub same_lookup : (ls : List Line) → lookup_of ls ≡ lookup_in (numbered_from 0 ls)
unfolding lookup_of
same_lookup ls =
    let line : (n : ℕ) → get_or ls n no_line ≡ line_of (numbered_from 0 ls) n = λ n. sym (line_is ls n) in
    λ i. record { element = λ n. is_element (line n i).kind; bytes = λ n. (line n i).text }

-- ## The source

source_node : (made : Made) (depth k : ℕ) → k < 0x8000 → node_of made (depth * 0x10000 + k) ≡ record { depth = depth; origin = master k }
unfolding node_of origin_of
source_node made depth k h =
    let d : (depth * 0x10000 + k) / 0x10000 ≡ depth = omega arith in
    let o : (depth * 0x10000 + k) % 0x10000 ≡ k = omega arith in
    rw (d, o, lt-ltb k 0x8000 h)

pub source_nodes : (made : Made) (k : ℕ) (ls : List Line) → k + length ls ≤ 0x8000 → map (node_of made) (source_words k ls) ≡ whole (numbered_from k ls)
unfolding source_words whole numbered_from
source_nodes made k [] h = refl
source_nodes made k (l ∷ ls) h = ap₂ (λ (x : Node) (v : Value). x ∷ v) (source_node made l.depth k (omega arith)) (source_nodes made (suc k) ls (omega arith))

pub source_value : (made : Made) (w : List ℕ) (ls : List Line) → length ls ≤ 128 → part w 0 (length ls) ≡ source_words 0 ls
    → value_at made w 0 (length ls) ≡ whole (numbered_from 0 ls)
unfolding value_at
source_value made w ls h e = ap (map (node_of made)) e ∙ source_nodes made 0 ls (omega arith)

-- ## No slots, and the run

pub no_slots_at : (made : Made) (w : List ℕ) → slots_at made w no_slots ≡ []
unfolding slots_at slots_to
no_slots_at made w = refl

pub no_slots_bound : (top : ℕ) → Bound no_slots top
no_slots_bound top = record { four = refl; few = omega arith; below = λ k h. absurd (not-suc-le-zero h); short = λ k h. absurd (not-suc-le-zero h) }

no_slots_inside : Inside no_slots whole_room
unfolding bytes_to
no_slots_inside = record { slots_bound = refl; binds_left = omega arith }

pub program_ready : {E : List Entry} {ends : List ℕ} {ls : List Line} → Runnable E ends ls → Ready E ends no_slots 0 12
program_ready {E} r =
    record {
      few = r.few_entries;
      ended = r.ended;
      tree = r.tree;
      behind = length E;
      room = whole_room;
      placed = program_placed E r.tree r.read;
      inside = no_slots_inside;
    }

pub same_showing : (made : Made) (w : List ℕ) (ls : List Line) → length ls ≤ 128 → part w 0 (length ls) ≡ source_words 0 ls
    → (X : Transformation) → show (lookup_of ls) X (slots_at made w no_slots) (value_at made w 0 (length ls)) ≡ showing (one_master ls) X
unfolding showing
same_showing made w ls h e X = rw (same_lookup ls, no_slots_at made w, source_value made w ls h e)
