-- The fresh view put back changes nothing: no clash, and every line as it was.
use Rattle.std.specs.Prelude.{◌≡◌, refl, Bool, true, false, cond, List, [], ◌∷◌, ℕ, zero, suc, eqb, get_or, None}
use Rattle.std.proofs.Common.{ap, ◌∙◌, arith}
use Rattle.lines.specs.Nodes.{Line, untouched_mark, line_at, no_line}
use Rattle.lines.specs.Views.{mark_counted}
use Rattle.values.specs.Values.{Origin, master, program, Value, among}
use Rattle.values.specs.Standings.{Standing, locked, sort, is_clash, is_edit}
use Rattle.values.proofs.Theorems.Gathering.{only}
use Rattle.values.proofs.Theorems.Copies.{Silent}
use Rattle.values.proofs.Theorems.Edits.{hands_back_lock}
use Rattle.runs.specs.Results.{gives}
use Rattle.runs.specs.Programs.{Transformation}
use Rattle.runs.specs.Showing.{Shown}
use Rattle.runs.specs.Grounds.{Numbered, numbered_from, line_of, lookup_in, Ground, showing, shown_line}
use Rattle.runs.specs.Grounds.{view, brought, standing_for, first_clash, handed_back, lines_in, one_master}
use Rattle.runs.proofs.Theorems.Conservation.{lock}
use Rattle.runs.proofs.Theorems.Acceptance.{silent_lock}
use Rattle.runs.specs.Theorems.Grounded.{no_clash_fine}
use Rattle.runs.proofs.Theorems.Demand3.{Edited, standing_for_is, brought_from_line, by_edited}

handed_back_same : (s : ℕ → Standing) (b : ℕ → Bool) → ((n : ℕ) → s n ≡ only (b n) locked) → (ls : List Numbered) → handed_back s ls ≡ ls
unfolding handed_back
handed_back_same s b h [] = refl
handed_back_same s b h (a ∷ ls) = rw (h a.number, hands_back_lock a.line (b a.number), handed_back_same s b h ls)

-- a view without an edit changes nothing
pub unedited_same : (G : Ground) (X : Transformation) (o : Shown) → showing G X ≡ gives o → (ls : List Line) → ((n i : ℕ) → Edited G o ls n i → ⊥)
    → (first_clash (standing_for G X ls) G.lines ≡ None) × (handed_back (standing_for G X ls) G.lines ≡ G.lines)
unfolding is_clash sort
unedited_same G X o shows ls none = (
  no_clash_fine (standing_for G X ls) G.lines (λ n. ap is_clash (locks n) ∙ plain (among n o.compared)),
  handed_back_same (standing_for G X ls) (λ n. among n o.compared) locks G.lines,
)
  where
    locks : (n : ℕ) → standing_for G X ls n ≡ lock n o.compared
    locks n =
        let ups = brought (lookup_in G.lines) o.value ls in
        standing_for_is G X o shows ls n
        ∙ silent_lock n o.value ups o.compared (brought_from_line (lookup_in G.lines) o.value ls)
        (by_edited G X o shows ls n (Silent n o.value ups) (λ h. h) (λ i p. absurd (none n i p)))

    plain : (b : Bool) → is_clash (only b locked) ≡ false
    plain true = refl
    plain false = refl

-- ## The fresh view

-- no line of the ground carries a mark
abbrev pub Unmarked : List Numbered → Type 0
Unmarked ls = (n : ℕ) → (line_of ls n).mark ≡ untouched_mark

pub fresh_mark : (ls : List Numbered) → Unmarked ls → (d : ℕ) (x : Origin) → (shown_line ls d x).mark ≡ untouched_mark
unfolding shown_line
fresh_mark ls u d (master n) = u n
fresh_mark ls u d (program e b t) = refl

-- over lines without a mark no line of a view has one
pub view_mark : (G : Ground) → Unmarked G.lines → (v : Value) (i : ℕ) → (line_at (view G v) i).mark ≡ untouched_mark
unfolding view
view_mark G u [] i = refl
view_mark G u (x ∷ v) zero = fresh_mark G.lines u x.depth x.origin
view_mark G u (x ∷ v) (suc i) = view_mark G u v i

unmarked_unedited : (fresh : List ℕ) (mark : ℕ) (bytes : List ℕ) → mark ≡ untouched_mark → is_edit fresh mark bytes ≡ false
unfolding is_edit mark_counted
unmarked_unedited fresh mark bytes h = rw h

pub fresh_same : (G : Ground) (X : Transformation) (o : Shown) → showing G X ≡ gives o → Unmarked G.lines
    → (first_clash (standing_for G X (view G o.value)) G.lines ≡ None) × (handed_back (standing_for G X (view G o.value)) G.lines ≡ G.lines)
fresh_same G X o shows u =
    unedited_same G X o shows (view G o.value) λ n i p.
    let q = unmarked_unedited (line_of G.lines n).text (line_at (view G o.value) i).mark (line_at (view G o.value) i).text (view_mark G u o.value i) in
    let r = p.1 in
    let z : ◌≡◌ {A = ℕ} 0 1 = cc in
    omega arith

-- one master: no line of the file carries a mark
pub one_unmarked : (k : ℕ) (ls : List Line) → ((i : ℕ) → (get_or ls i no_line).mark ≡ untouched_mark) → Unmarked (numbered_from k ls)
unfolding numbered_from line_of
one_unmarked k [] h n = refl
one_unmarked k (l ∷ ls) h n = go (eqb n k) (one_unmarked (suc k) ls (λ i. h (suc i)) n)
  where
    go : (b : Bool) → (line_of (numbered_from (suc k) ls) n).mark ≡ untouched_mark → (cond b l (line_of (numbered_from (suc k) ls) n)).mark ≡ untouched_mark
    go true r = h 0
    go false r = r

same_file : (k : ℕ) (ls : List Line) → lines_in (numbered_from k ls) ≡ ls
unfolding lines_in numbered_from
same_file k [] = refl
same_file k (l ∷ ls) = ap (λ (r : List Line). l ∷ r) (same_file (suc k) ls)

pub one_fresh : (ls : List Line) (X : Transformation) (o : Shown) → showing (one_master ls) X ≡ gives o → ((i : ℕ) → (get_or ls i no_line).mark ≡ untouched_mark)
    → let s = standing_for (one_master ls) X (view (one_master ls) o.value) in
    (first_clash s (numbered_from 0 ls) ≡ None) × (lines_in (handed_back s (numbered_from 0 ls)) ≡ ls)
one_fresh ls X o shows u =
    let f = fresh_same (one_master ls) X o shows (one_unmarked 0 ls u) in
    (f.0, ap lines_in f.1 ∙ same_file 0 ls)
