-- Showing and putting back meet demand 3, on bytes.
use Rattle.std.specs.Prelude.{ℕ, ◌≤◌, ◌<◌, ◌≡◌, refl, Bool, true, List, ◌⊎◌, length, Option, None, Some}
use Rattle.std.proofs.Common.{sym, ap, ◌∙◌, inl, inr, arith}
use Rattle.std.proofs.Math.Bool.{false}
use Rattle.lines.specs.declared.scan.File.TheVariants.{View}
use Rattle.lines.specs.Nodes.{Line, untouched_mark, program_number, kind_rule, nodes, line_at}
use Rattle.lines.specs.Files.{scan}
use Rattle.lines.specs.Verdicts.{reply}
use Rattle.lines.specs.Views.{first_difference, program_mark}
use Rattle.lines.specs.Writing.{file_of, put_at}
use Rattle.lines.proofs.Theorems.RoundTrip.{nodes_written}
use Rattle.lines.specs.Theorems.PutAt.{put_front}
use Rattle.lines.specs.Theorems.LineRules.{fields_at, rule_kind}
use Rattle.lines.specs.Theorems.MasterRules.{unmarked_at}
use Rattle.values.specs.Values.{Value}
use Rattle.values.specs.Standings.{Standing, says, brings, is_edit, hands_back}
use Rattle.values.specs.Theorems.Copies.{is_copy}
use Rattle.runs.specs.Results.{gives}
use Rattle.runs.specs.Programs.{Transformation}
use Rattle.runs.specs.Showing.{Shown}
use Rattle.runs.specs.Grounds.{numbered_from, line_of, Ground, one_master, showing, view, standing_for, first_clash, handed_back, lines_in}
use Rattle.runs.proofs.Theorems.FreshView.{view_mark, one_unmarked}
use Rattle.runs.proofs.Theorems.Demand3 as rules
use Rattle.runs.proofs.Theorems.Demand3.{Accepted, edit_at, Edited, Criterion, TextMarks}
use Rattle.runs.proofs.Theorems.OneMaster.{one_after, one_demand3, one_again}
use Rattle.runs.proofs.Theorems.SameView.{same_formed, same_text_marks}
use Rattle.runs.specs.Theorems.ViewLines.{Shows, view_shows, view_made, view_depth}
use Rattle.calls.specs.Judging.{formed, keeps, ran, master_rule, judged_program, judged_master, judged_view, judged_standings, judged_show, judged_put_back}
use Rattle.calls.specs.Outcomes.{Outcome, outcome, enough, cleared, show_call, put_back_call}
use Rattle.calls.proofs.Theorems.Judged.{on_after, formed_lines, keeps_fine, Holds, MasterPassed, master_passed, rule_unmarked, view_holds, master_passes, standings_pass}
use Rattle.calls.proofs.Theorems.FreshLines.{fresh_writable, length_view}
use Rattle.calls.proofs.Theorems.Returned.{Returned, returned_writable}
use Rattle.calls.specs.Demands.{number_of, place_of, written, FromProgram, FromMaster, Given, EditedLine, Acceptable}
use Rattle.calls.specs.Demands.{Clashes, with_edit, HasEdits, SameLines, Answers, Demand3}
use Rattle.calls.proofs.Theorems.Demand12.{called_gives, called_stops}
use Rattle.calls.specs.Theorems.ViewEdits.{edits_pass, pass_edits}
use Rattle.calls.specs.Theorems.ShownNumbers.{line_is, number_copy, copy_or_made, shown_number, handed_kind}
use Rattle.calls.specs.Theorems.EditedLines.{Edits, edits_marked, edited_edit, edit_edited, edit_says, edited_marks, says_same, same_says, edit_leaves}
use Rattle.calls.specs.Theorems.ClashSearch.{unacceptable_clashes, acceptable_no_clash}

-- a line that an unmarked master shows has no mark
fresh_plain : (master : List ℕ) (ls : List Line) → judged_master true master ≡ gives ls → (v : Value) (i : ℕ) → (line_at (view (one_master ls) v) i).mark ≡ untouched_mark
fresh_plain master ls h = view_mark (one_master ls) (one_unmarked 0 ls (unmarked_at ls (rule_unmarked ls (master_passed true master ls h).rule)))

-- what is given is no more than that 1 to 10 are passed
pub pass_given : (master program edited out work : List ℕ) → enough out work ≡ true → (X : Transformation) → judged_program program ≡ gives X
    → (ls : List Line) → judged_master true master ≡ gives ls → (o : Shown) → showing (one_master ls) X ≡ gives o
    → (es : List Line) → judged_view (view (one_master ls) o.value) edited ≡ gives es → Given master program edited out work
unfolding judged_view
pass_given master program edited out work room X p ls m o shows es v =
    on_after (formed 8 (scan View edited)) _ es v λ f v₁.
    on_after (keeps 9 (first_difference (nodes edited) (view (one_master ls) o.value))) _ es v₁ λ d v₂.
    on_after (keeps 10 (program_mark (nodes edited))) _ es v₂ λ k v₃.
    formed_lines 8 (scan View edited) f λ n e.
    record {
      room = room;
      tree = X;
      sound_program = p;
      lines = ls;
      sound_master = m;
      shown = o;
      shows = shows;
      count = n;
      well_formed = e;
      differs =
          pass_edits (nodes edited) (view (one_master ls) o.value) (λ i _. fresh_plain master ls m o.value i)
          (keeps_fine 9 (first_difference (nodes edited) (view (one_master ls) o.value)) d) (keeps_fine 10 (program_mark (nodes edited)) k);
    }

module _ (master program edited out work : List ℕ) (given : Given master program edited out work) where
  -- ## What is given, by name

  abbrev ls : List Line
  ls = given.lines

  abbrev es : List Line
  es = nodes edited

  abbrev G : Ground
  G = one_master given.lines

  abbrev o : Shown
  o = given.shown

  abbrev fresh : List Line
  fresh = view (one_master given.lines) given.shown.value

  abbrev s : ℕ → Standing
  s = standing_for (one_master given.lines) given.tree (nodes edited)

  -- the lines handed back
  abbrev hs : List Line
  hs = lines_in (handed_back (standing_for (one_master given.lines) given.tree (nodes edited)) (numbered_from 0 given.lines))

  master_is : MasterPassed true master given.lines
  master_is = master_passed true master ls given.sound_master

  view_is : Holds edited (nodes edited)
  view_is = view_holds edited given.count given.well_formed

  plain : (i : ℕ) → (line_at fresh i).mark ≡ untouched_mark
  plain = fresh_plain master ls given.sound_master o.value

  passes : (first_difference es fresh ≡ None) × (program_mark es ≡ None)
  passes = edits_pass es fresh (λ i _. plain i) given.differs

  rule_at : (i : ℕ) → kind_rule (line_at es i).kind (line_at es i).mark (line_at es i).text ≡ true
  rule_at i = rule_kind _ _ _ (fields_at es view_is.form i).rule

  text_marks : TextMarks G o es
  text_marks = same_text_marks G o es (same_formed kind_rule G o es passes.0 rule_at)

  -- the judging comes to the standings
  judged_standings_are : judged_put_back master program edited ≡ judged_standings G given.tree es
  unfolding judged_put_back judged_view ran formed keeps
  judged_standings_are = rw (given.sound_program, given.sound_master, given.shows, given.well_formed, passes.0, passes.1)

  -- ## Edited lines: the demand's and the rules'

  -- an edited line has a mark, so it comes from the master
  from_master : (n i : ℕ) → EditedLine fresh es n i → n ≡ program_number → ⊥
  from_master n i e p =
      let q : FromProgram (line_at fresh i) = sym (given.differs.number i) ∙ e.number ∙ p in
      edits_marked (edited_marks (line_at fresh i) (line_at es i) e.edit) (given.differs.mark i q ∙ plain i)

  -- the fresh line of node n has the node's bytes
  fresh_text : (n i : ℕ) → is_copy n o.value i ≡ true → (line_at fresh i).text ≡ (line_of G.lines n).text
  fresh_text n i c = (view_shows G o.value n i c).text

  line_copy : (n i : ℕ) → EditedLine fresh es n i → is_copy n o.value i ≡ true
  line_copy n i e = number_copy G o.value n i (sym (given.differs.number i) ∙ e.number) (from_master n i e)

  line_edited : (n i : ℕ) → EditedLine fresh es n i → Edited G o es n i
  line_edited n i e =
      let c = line_copy n i e in
      (c, ap (λ (t : List ℕ). is_edit t (line_at es i).mark (line_at es i).text) (sym (fresh_text n i c)) ∙ edited_edit (line_at fresh i) (line_at es i) e.edit)

  edited_line : (n i : ℕ) → Edited G o es n i → EditedLine fresh es n i
  edited_line n i e =
      record {
        edit = edit_edited (line_at fresh i) (line_at es i) (ap (λ (t : List ℕ). is_edit t (line_at es i).mark (line_at es i).text) (fresh_text n i e.0) ∙ e.1);
        number = given.differs.number i ∙ (view_shows G o.value n i e.0).number;
      }

  edits_at : (n i : ℕ) → EditedLine fresh es n i → Edits (line_at es i).mark
  edits_at n i e = edited_marks (line_at fresh i) (line_at es i) e.edit

  -- what it brings for its node
  edit_is : (n i : ℕ) → EditedLine fresh es n i → edit_at G es n i ≡ says (line_at es i).mark (line_at es i).text
  edit_is n i e =
      ap (λ (t : List ℕ). brings t (line_at es i).mark (line_at es i).text) (sym (fresh_text n i (line_copy n i e))) ∙ edit_says (line_at fresh i) (line_at es i) e.edit

  acceptable : (n : ℕ) → Criterion G o es n → Acceptable fresh es o.compared n
  acceptable n c =
      record {
        same = λ i j p q.
            says_same (line_at es i) (line_at es j) (edits_at n i p) (edits_at n j q) (sym (edit_is n i p) ∙ c.alike i j (line_edited n i p) (line_edited n j q) ∙ edit_is n j q);
        uncompared = λ i p. c.uncompared i (line_edited n i p);
      }

  criterion : (n : ℕ) → Acceptable fresh es o.compared n → Criterion G o es n
  criterion n a =
      record {
        alike = λ i j p q.
            let v = edited_line n i p in
            let w = edited_line n j q in
            edit_is n i v ∙ same_says (line_at es i) (line_at es j) (a.same i j v w) ∙ sym (edit_is n j w);
        uncompared = λ i p. a.uncompared i (edited_line n i p);
      }

  -- ## The outcome, by the first clash

  abbrev r : Outcome
  r = put_back_call master program edited out work

  law : rules.Demand3 G given.tree o es
  law = one_demand3 ls given.tree o given.shows es

  done : Accepted G given.tree es → r ≡ outcome 0 0 (length (file_of hs)) (put_at out 0 (file_of hs)) (cleared work)
  unfolding put_back_call
  done a = called_gives (judged_put_back master program edited) out work given.room hs (judged_standings_are ∙ standings_pass G given.tree es a)

  clashed : (n : ℕ) → first_clash s G.lines ≡ Some n → r ≡ outcome 11 n 0 out (cleared work)
  unfolding put_back_call judged_standings keeps
  clashed n f = called_stops (judged_put_back master program edited) out work given.room (reply 11 n) (judged_standings_are ∙ rw f)

  by_clash : {C : Type 0} → (Accepted G given.tree es → C) → ((n : ℕ) → first_clash s G.lines ≡ Some n → C) → C
  by_clash {C = C} fine fault = go (first_clash s G.lines) refl
    where
      go : (v : Option ℕ) → first_clash s G.lines ≡ v → C
      go None e = fine e
      go (Some n) e = fault n e

  zero_accepted : number_of r ≡ 0 → Accepted G given.tree es
  zero_accepted h = by_clash (λ a. a) (λ n f. let e = ap number_of (clashed n f) in absurd (omega arith))

  -- ## The returned master

  module _ (accepted : Accepted G given.tree es) where
    back : Returned ls hs
    back =
        returned_writable ls master_is.holds.form master_is.holds.few master_is.bounds given.tree o given.shows es view_is.form passes.0 hs
        (standings_pass G given.tree es accepted)

    bytes_back : written r ≡ file_of hs
    bytes_back = rw (done accepted) (put_front out (file_of hs))

    lines_back : nodes (written r) ≡ hs
    lines_back = ap nodes bytes_back ∙ nodes_written hs back.form

    -- node n's line, as the rules have it
    back_at : (n : ℕ) → line_at hs n ≡ line_of (handed_back s G.lines) n
    back_at n = sym (line_is hs n) ∙ ap (λ (H : Ground). line_of H.lines n) (one_after s ls)

    others_back : (n : ℕ) → ((i : ℕ) → EditedLine fresh es n i → ⊥) → line_at hs n ≡ line_at ls n
    others_back n none = back_at n ∙ law.others accepted n (λ i e. none i (edited_line n i e)) ∙ line_is ls n

    has_edits : HasEdits ls fresh es hs
    has_edits =
        record {
          count = back.long;
          edits = λ n i e.
              back_at n ∙ law.edited accepted n i (line_edited n i e) ∙ ap (hands_back (line_of G.lines n)) (edit_is n i e)
              ∙ edit_leaves (line_of G.lines n) (line_at es i) (edits_at n i e) ∙ ap (λ (l : Line). with_edit l (line_at es i)) (line_is ls n);
          others = others_back;
          unedited = λ n none.
              let same = others_back n none in
              (ap (λ (l : Line). l.mark) same ∙ unmarked_at ls (rule_unmarked ls master_is.rule) n, ap (λ (l : Line). l.text) same);
        }

    -- ## Shown again

    abbrev again : List Line
    again = view (one_master hs) given.shown.value

    shows_again : showing (one_master hs) given.tree ≡ gives o
    shows_again = one_again ls given.tree o given.shows es accepted text_marks

    few_back : length hs ≤ 128
    few_back = let l = back.long in let f = master_is.holds.few in omega arith

    judged_again : judged_show (written r) program ≡ gives again
    unfolding judged_show ran master_rule
    judged_again = rw (bytes_back, given.sound_program, master_passes false hs back.form few_back back.bounds, shows_again)

    shown_outcome : (out₂ work₂ : List ℕ) → enough out₂ work₂ ≡ true
        → show_call (written r) program out₂ work₂ ≡ outcome 0 0 (length (file_of again)) (put_at out₂ 0 (file_of again)) (cleared work₂)
    unfolding show_call
    shown_outcome out₂ work₂ room = called_gives (judged_show (written r) program) out₂ work₂ room again judged_again

    lines_again : (out₂ work₂ : List ℕ) → enough out₂ work₂ ≡ true → nodes (written (show_call (written r) program out₂ work₂)) ≡ again
    lines_again out₂ work₂ room =
        rw (shown_outcome out₂ work₂ room)
        (ap nodes (put_front out₂ (file_of again))
        ∙ nodes_written again (fresh_writable program given.tree given.sound_program hs back.form few_back back.bounds o shows_again))

    -- line i: one of a node, or the program's
    by_line : {C : Type 0} (i : ℕ)
        → ((n : ℕ) → FromMaster (line_at fresh i) → Shows n (line_of G.lines n) (line_at fresh i) → Shows n (line_of (numbered_from 0 hs) n) (line_at again i) → C)
        → ((FromMaster (line_at fresh i) → ⊥) → line_at again i ≡ line_at fresh i → C) → C
    by_line {C = C} i node made = go (copy_or_made o.value i)
      where
        uncopied : {b : Bool} → b ≡ false → b ≡ true → ⊥
        uncopied p q = let z : ◌≡◌ {A = ℕ} 0 1 = cc in omega arith

        go : ((n : ℕ) × (is_copy n o.value i ≡ true)) ⊎ ((n : ℕ) → is_copy n o.value i ≡ false) → C
        go (inl (n, c)) =
            let f = view_shows G o.value n i c in
            node n (λ p. shown_number ls given.tree o given.shows master_is.holds.few n i c (sym f.number ∙ p)) f (view_shows (one_master hs) o.value n i c)
        go (inr none) = made (λ m. uncopied (none _) (number_copy G o.value _ i refl m)) (view_made (one_master hs) G o.value i none)

    kind_kept : (n : ℕ) → (line_of (numbered_from 0 hs) n).kind ≡ (line_of G.lines n).kind
    kind_kept n = ap (λ (l : Line). l.kind) (line_is hs n ∙ back_at n) ∙ handed_kind s G.lines n

    same_lines : SameLines fresh hs again
    same_lines =
        record {
          count = length_view hs o.value ∙ sym (length_view ls o.value);
          depth = λ i. view_depth (one_master hs) G o.value i;
          kind = λ i. by_line i (λ n m f g. g.kind ∙ kind_kept n ∙ sym f.kind) (λ _ e. ap (λ (l : Line). l.kind) e);
          number = λ i. by_line i (λ n m f g. g.number ∙ sym f.number) (λ _ e. ap (λ (l : Line). l.number) e);
          text = λ i m. by_line i (λ n _ f g. g.text ∙ ap (λ (l : Line). l.text) (line_is hs n ∙ ap (line_at hs) (sym f.number))) (λ p _. absurd (p m));
          mark = λ i m. by_line i (λ n _ f g. g.mark ∙ ap (λ (l : Line). l.mark) (line_is hs n ∙ ap (line_at hs) (sym f.number))) (λ p _. absurd (p m));
          made = λ i p. by_line i (λ n m f g. absurd (m p)) (λ _ e. e);
        }

  -- ## Refused

  refused_at : (number_of r ≡ 0 → ⊥)
      → (number_of r ≡ 11) × Clashes fresh es o.compared (place_of r) × ((n : ℕ) → n < place_of r → Clashes fresh es o.compared n → ⊥)
  refused_at h =
      by_clash (λ a. absurd (h (ap number_of (done a)))) λ n f.
      let least = law.refused n f in
      rw (clashed n f)
      (refl, unacceptable_clashes fresh es o.compared n (λ a. least.0 (criterion n a)), λ m l. acceptable_no_clash fresh es o.compared m (acceptable m (least.1 m l)))

  answers : Answers show_call master program edited out work given (put_back_call master program edited out work)
  answers =
      record {
        accepted = ((λ h n. acceptable n (law.accepts.0 (zero_accepted h) n)), λ k. ap number_of (done (law.accepts.1 (λ n. criterion n (k n)))));
        returned = λ h. let a = zero_accepted h in rw (lines_back a) (has_edits a);
        succeeds = λ h out₂ work₂ room. ap number_of (shown_outcome (zero_accepted h) out₂ work₂ room);
        again = λ h out₂ work₂ room. let a = zero_accepted h in rw (lines_again a out₂ work₂ room, lines_back a) (same_lines a);
        refused = refused_at;
      }

pub demand3 : Demand3 show_call put_back_call
demand3 = answers
