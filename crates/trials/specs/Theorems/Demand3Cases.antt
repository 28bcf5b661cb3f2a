-- What demand 3 takes as given can be had: four views that are accepted, one of them beside a line that the program made, one with a saved line alone
-- and one with a saved line beside a change; and two that are refused, one for each way to clash.
use Rattle.std.specs.Prelude.{ℕ, zero, suc, ◌+◌, ◌≡◌, refl, true, false, List, [], ◌∷◌, ◌++◌, ◌⊎◌, length, get_or}
use Rattle.std.proofs.Common.{ap, ap₂, inl, inr, arith}
use Rattle.lines.specs.Nodes.{Line, nodes, changed_mark, deleted_mark, line_at}
use Rattle.lines.specs.Views.{counted_lines}
use Rattle.lines.specs.Writing.{file_of}
use Rattle.values.specs.Values.{made}
use Rattle.runs.specs.Results.{gives}
use Rattle.runs.specs.Programs.{Transformation, source, nothing, text, and_then, contents, each, beside, choose, compares, equals}
use Rattle.runs.specs.Showing.{Shown}
use Rattle.runs.specs.Grounds.{one_master, showing, view}
use Rattle.calls.specs.Judging.{judged_program, judged_master, judged_view}
use Rattle.calls.specs.Outcomes.{enough, put_back_call}
use Rattle.calls.specs.Demands.{number_of, place_of, FromProgram, Given, fresh_lines, IsEdited, EditedLine, Clashes, differ, compare}
use Rattle.calls.proofs.Theorems.Demand3.{pass_given}
use Rattle.trials.specs.Theorems.Cases.{line, file, shown_node, puts_back, case, answer, holds}
use Rattle.trials.specs.Theorems.Bench.{M, P, PP, hi, only_hi, P-view-hi, P-view-saved, PP-view-clash, PP-view-saved, PP-view-counted, only_hi_view_lo}

-- ## Views of M

pub M-lines : judged_master true M ≡ gives (nodes M)
unfolding answer
M-lines = refl

-- a view of M that passes 2 to 10, with the program's tree and what it shows
pub record OnM (program edited : List ℕ) (o : Shown) : Type 0 where
  pub read_as : Transformation
  pub reads : judged_program program ≡ gives read_as
  pub shows : showing (one_master (nodes M)) read_as ≡ gives o
  pub passes : judged_view (view (one_master (nodes M)) o.value) edited ≡ gives (nodes edited)

module _ {program edited : List ℕ} {o : Shown} (c : OnM program edited o) (out work : List ℕ) where
  pub given_on_m : enough out work ≡ true → Given M program edited out work
  given_on_m room = pass_given M program edited out work room c.read_as c.reads (nodes M) M-lines o c.shows (nodes edited) c.passes

  -- whatever is given, it is this that is shown
  shown_on_m : (given : Given M program edited out work) → given.shown ≡ o
  shown_on_m given =
      let p = c.reads in
      let s = c.shows in
      let m = M-lines in
      let p' = given.sound_program in
      let m' = given.sound_master in
      let s' = given.shows in
      let X-same : given.tree ≡ c.read_as = cc in
      let ls_same : given.lines ≡ nodes M = cc in
      let s'' : showing (one_master (nodes M)) c.read_as ≡ gives given.shown = rw (ls_same, X-same) at s' in
      let z : given.shown ≡ o = cc in
      z

  -- and these are the fresh lines
  pub fresh_on_m : (given : Given M program edited out work) → fresh_lines given ≡ view (one_master (nodes M)) o.value
  fresh_on_m given =
      let m = M-lines in
      let m' = given.sound_master in
      let ls_same : given.lines ≡ nodes M = cc in
      ap₂ (λ (ls : List Line) (a : Shown). view (one_master ls) a.value) ls_same (shown_on_m given)

-- what is asked of a case, for any buffers that suffice: that all is given, and the reply
abbrev HasGiven : (program edited : List ℕ) → Type 0
HasGiven program edited = (out work : List ℕ) → enough out work ≡ true → Given M program edited out work

abbrev IsAccepted : (program edited : List ℕ) → Type 0
IsAccepted program edited = (out work : List ℕ) → enough out work ≡ true → number_of (put_back_call M program edited out work) ≡ 0

abbrev IsRefused : (program edited : List ℕ) → ℕ → Type 0
IsRefused program edited n =
    (out work : List ℕ) → enough out work ≡ true
    → (number_of (put_back_call M program edited out work) ≡ 11) × (place_of (put_back_call M program edited out work) ≡ n)

-- P as a tree, from entry e on
abbrev tree : ℕ → Transformation
tree e = and_then e (contents (e + 1)) (each (e + 2) (contents (e + 3)))

-- what PP shows
abbrev PP-shown : Shown
PP-shown = record { value = shown_node 0 2 ∷ shown_node 0 4 ∷ shown_node 0 2 ∷ shown_node 0 4 ∷ []; compared = [] }

-- texts that begin with different bytes differ
pub unlike : {s t : List ℕ} → (get_or s 0 0 ≡ get_or t 0 0 → ⊥) → s ≡ t → ⊥
unlike apart same = apart (ap (λ (u : List ℕ). get_or u 0 0) same)

-- the bytes of "hi" and of "xx"
abbrev hi_text : List ℕ
hi_text = 0x68 ∷ 0x69 ∷ []

abbrev xx_text : List ℕ
xx_text = 0x78 ∷ 0x78 ∷ []

-- ## Accepted, example 2: node 4 changed to "hi" in P's view

abbrev P-shown : Shown
P-shown = record { value = shown_node 0 2 ∷ shown_node 0 4 ∷ []; compared = [] }

accepted_view : OnM P P-view-hi P-shown
unfolding answer
accepted_view = record { read_as = tree 0; reads = refl; shows = refl; passes = refl }

pub accepted_given : HasGiven P P-view-hi
accepted_given = given_on_m accepted_view

-- line 1 is an edited one of node 4
pub accepted_line : (out work : List ℕ) (given : Given M P P-view-hi out work) → EditedLine (fresh_lines given) (nodes P-view-hi) 4 1
unfolding answer
accepted_line out work given =
    rw (fresh_on_m accepted_view out work given) (record { edit = inr (refl, unlike (omega arith)); number = refl })

pub accepted_case : IsAccepted P P-view-hi
unfolding answer
accepted_case out work room = ap number_of (holds (case (puts_back M P P-view-hi) 0 0 _ _) refl out work room)

-- ## Accepted, beside a line that the program made: P's view and behind it a text of the program, node 4 changed to "hi"

abbrev pub P-and-hi : List ℕ
P-and-hi = file (line 1 0x09 ∷ []) ++ P ++ hi

abbrev pub P-and-hi-view : List ℕ
P-and-hi-view = P-view-hi ++ file (line 8 0x000100FFFF026869 ∷ [])

abbrev P-and-hi-shown : Shown
P-and-hi-shown = record { value = shown_node 0 2 ∷ shown_node 0 4 ∷ made 5 false hi_text ∷ []; compared = [] }

made_view : OnM P-and-hi P-and-hi-view P-and-hi-shown
unfolding answer
made_view = record { read_as = beside 0 (tree 1) (text 5 hi_text); reads = refl; shows = refl; passes = refl }

-- line 1 of three is an edited one of node 4, line 2 the program's
pub made_lines : (out work : List ℕ) (given : Given M P-and-hi P-and-hi-view out work)
    → (length (nodes P-and-hi-view) ≡ 3) × EditedLine (fresh_lines given) (nodes P-and-hi-view) 4 1 × FromProgram (line_at (nodes P-and-hi-view) 2)
unfolding answer
made_lines out work given =
    rw (fresh_on_m made_view out work given) (refl, record { edit = inr (refl, unlike (omega arith)); number = refl }, refl)

pub made_given : HasGiven P-and-hi P-and-hi-view
made_given = given_on_m made_view

pub made_case : IsAccepted P-and-hi P-and-hi-view
unfolding answer
made_case out work room = ap number_of (holds (case (puts_back M P-and-hi P-and-hi-view) 0 0 _ _) refl out work room)

-- ## Accepted, one line saved with its old text, and nothing else: no line is edited

alone_view : OnM P P-view-saved P-shown
unfolding answer
alone_view = record { read_as = tree 0; reads = refl; shows = refl; passes = refl }

pub alone_given : HasGiven P P-view-saved
alone_given = given_on_m alone_view

pub alone_case : IsAccepted P P-view-saved
unfolding answer
alone_case out work room = ap number_of (holds (case (puts_back M P P-view-saved) 0 0 _ _) refl out work room)

pub alone_unedited : (out work : List ℕ) (given : Given M P P-view-saved out work) (n i : ℕ) → EditedLine (fresh_lines given) (nodes P-view-saved) n i → ⊥
unfolding answer
alone_unedited out work given n i e = go i (rw (fresh_on_m alone_view out work given) at e.edit)
  where
    go : (i : ℕ) → IsEdited (line_at (view (one_master (nodes M)) P-shown.value) i) (line_at (nodes P-view-saved) i) → ⊥
    go zero (inl d) = omega arith
    go zero (inr c) = omega (arith, c.0)
    go (suc zero) (inl d) = omega arith
    go (suc zero) (inr c) = c.1 refl
    go (suc (suc i)) (inl d) = omega arith
    go (suc (suc i)) (inr c) = omega (arith, c.0)

-- ## Accepted, example 6: of node 4's two lines one is saved with its old text, the other changed to "hi"

abbrev PP-tree : Transformation
PP-tree = beside 0 (tree 1) (tree 5)

pub saved_view : OnM PP PP-view-saved PP-shown
unfolding answer
saved_view = record { read_as = PP-tree; reads = refl; shows = refl; passes = refl }

-- line 1 is marked 01 and is no edited line, line 3 is one
pub saved_lines : (out work : List ℕ) (given : Given M PP PP-view-saved out work)
    → ((line_at (nodes PP-view-saved) 1).mark ≡ changed_mark)
    × (EditedLine (fresh_lines given) (nodes PP-view-saved) 4 1 → ⊥)
    × EditedLine (fresh_lines given) (nodes PP-view-saved) 4 3
unfolding answer
saved_lines out work given =
    rw (fresh_on_m saved_view out work given)
    (refl, (λ e. unsaved e.edit), record { edit = inr (refl, unlike (omega arith)); number = refl })
  where
    unsaved : {t : List ℕ} → (changed_mark ≡ deleted_mark) ⊎ ((changed_mark ≡ changed_mark) × (t ≡ t → ⊥)) → ⊥
    unsaved (inl d) = omega arith
    unsaved (inr c) = c.1 refl

pub saved_given : HasGiven PP PP-view-saved
saved_given = given_on_m saved_view

pub saved_case : IsAccepted PP PP-view-saved
unfolding answer
saved_case out work room = ap number_of (holds (case (puts_back M PP PP-view-saved) 0 0 _ _) refl out work room)

-- with the marks that count it is the view in which line 3 alone is marked
pub saved_counted : file_of (counted_lines (view (one_master (nodes M)) PP-shown.value) (nodes PP-view-saved)) ≡ PP-view-counted
unfolding answer counted_lines
saved_counted = refl

-- ## Refused, example 5: node 4 changed to "hi" in one line and to "xx" in another

refused_view : OnM PP PP-view-clash PP-shown
unfolding answer
refused_view = record { read_as = PP-tree; reads = refl; shows = refl; passes = refl }

pub refused_clash : (out work : List ℕ) (given : Given M PP PP-view-clash out work) → Clashes (fresh_lines given) (nodes PP-view-clash) given.shown.compared 4
unfolding answer
refused_clash out work given =
    rw (fresh_on_m refused_view out work given)
    (differ 1 3 (record { edit = inr (refl, unlike (omega arith)); number = refl }) (record { edit = inr (refl, unlike (omega arith)); number = refl })
    (λ same. unlike {s = hi_text} {t = xx_text} (omega arith) (same.text refl)))

pub refused_given : HasGiven PP PP-view-clash
refused_given = given_on_m refused_view

pub refused_case : IsRefused PP PP-view-clash 4
unfolding answer
refused_case out work room = rw (holds (case (puts_back M PP PP-view-clash) 11 4 0 []) refl out work room) (refl, refl)

-- ## Refused, example 7: nodes 2 and 4 are compared with "hi", node 2 is shown and changed

abbrev only_hi_tree : Transformation
only_hi_tree = and_then 0 (tree 1) (each 5 (choose 6 (compares 7 equals (text 8 hi_text)) (source 9) (nothing 10)))

abbrev only_hi_shown : Shown
only_hi_shown = record { value = shown_node 0 2 ∷ []; compared = 2 ∷ 4 ∷ [] }

compared_view : OnM only_hi only_hi_view_lo only_hi_shown
unfolding answer
compared_view = record { read_as = only_hi_tree; reads = refl; shows = refl; passes = refl }

pub compared_clash : (out work : List ℕ) (given : Given M only_hi only_hi_view_lo out work) → Clashes (fresh_lines given) (nodes only_hi_view_lo) given.shown.compared 2
unfolding answer
compared_clash out work given =
    rw (fresh_on_m compared_view out work given, shown_on_m compared_view out work given)
    (compare 0 (record { edit = inr (refl, unlike (omega arith)); number = refl }) refl)

pub compared_given : HasGiven only_hi only_hi_view_lo
compared_given = given_on_m compared_view

pub compared_case : IsRefused only_hi only_hi_view_lo 2
unfolding answer
compared_case out work room = rw (holds (case (puts_back M only_hi only_hi_view_lo) 11 2 0 []) refl out work room) (refl, refl)
