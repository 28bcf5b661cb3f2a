-- Putting back and the paper, on lines: alike with any guard that locks or clashes, so with the strict one always.
use Rattle.std.specs.Prelude.{◌≡◌, Bool, ℕ, ◌<◌, length, Option, None, Some}
use Rattle.std.proofs.Math.Path.{refl, sym, ap, subst⁻¹}
use Rattle.std.proofs.Common.{subst, ◌∙◌, arith, zero-add}
use Rattle.std.proofs.Math.Bool.{true, false}
use mathlib.Core.List.{List, [], ◌∷◌, ◌++◌, append-nil}
use Rattle.std.proofs.Math.Dec.{ltb}
use borrow.Author.Tests.{ltb-true, ltb-false}
use Rattle.lines.specs.Entries.{Entry}
use Rattle.lines.specs.Nodes.{Line}
use Rattle.lines.specs.Views.{first_difference, program_mark}
use Rattle.lines.specs.Masters.{master_bounds}
use Rattle.lines.specs.Theorems.MasterRules.{unmarked_at}
use Rattle.values.specs.Values.{Origin, master, program, Value, Lookup}
use Rattle.values.specs.Standings.{Standing, sort, is_clash, ◌⋓◌, first_of, rest_of, gathered}
use Rattle.values.proofs.Theorems.MergeLaws.{unit_right}
use Rattle.values.specs.Theorems.Copies.{standing_at}
use Rattle.runs.specs.Programs.{Transformation}
use Rattle.runs.specs.Reading.{whole_room}
use Rattle.runs.specs.Showing.{Shown, show}
use Rattle.runs.specs.PuttingBack.{value_of, untouched_slots, gathered_slots, put_back}
use Rattle.runs.specs.Grounds.{Numbered, numbered_from, lookup_in, whole, one_master, showing, brought, standing, standing_for}
use Rattle.runs.proofs.Theorems.Conservation.{lock}
use Rattle.runs.proofs.Theorems.Demand3.{standing_for_is}
use Rattle.runs.specs.Theorems.Grounded.{absent_gathered, fine_no_clash, no_clash_fine}
use Rattle.runs.proofs.Theorems.OneMaster.{one_covered, one_line}
use Rattle.runs.proofs.Theorems.FreshView.{one_unmarked}
use Rattle.runs.specs.Theorems.WholePrograms.{program_placed}
use Rattle.paper.specs.Data.{Sequence, none, fail, got}
use Rattle.paper.specs.Operators.{Guard}
use Rattle.paper.specs.Strict.{strict_guard}
use Rattle.paper.specs.Semantics.{forward, backward}
use Rattle.paper.specs.Programs.{in_paper}
use Rattle.paper.specs.Lines.{sequence}
use Rattle.paper.specs.Theorems.Trees.{Trees, flat, paint, Right}
use Rattle.paper.proofs.Theorems.Brushes.{brush, Permit, Fine}
use Rattle.paper.proofs.Theorems.Places.{no_marks}
use Rattle.paper.proofs.Theorems.Ends.{Watched, said, Ends, went, failed, Backs, Guarding}
use Rattle.paper.proofs.Theorems.PuttingBack.{puts_backward}
use Rattle.paper.proofs.Theorems.Guards.{any_standing, every_number, strict_guarding}
use Rattle.paper.proofs.Theorems.Lines.{Beside, unlocked_state, unlocked, InkedAll, sequence_drawn, drawn_brush, marks_in}
use Rattle.paper.proofs.Theorems.Masters.{AllNumbering, right_numbering, Grown, master_grown, paint_unmarked, gathered_whole, gathered_outside}
use Rattle.paper.proofs.Theorems.Views.{FineAlong, along_fine, fine_along, along_no_clash, Permitted, AllPermitted, Read, edited_read, handed_read}
use Rattle.paper.specs.Agreement.{PassedTen, clash_of, handed_back_by, put_back_by, counted_view}

-- both go through, with the same texts and marks (`non` read as untouched); or the paper fails and there is a clash
pub data PutAlike (g : Guard) (X : Transformation) (ls edited : List Line) (o : Shown) : Type 0 where
  both_put : (S : Sequence) → put_back_by g X ls (counted_view ls o edited) ≡ got (S, []) → unlocked S ≡ sequence (handed_back_by X ls edited)
      → clash_of X ls edited ≡ None → PutAlike g X ls edited o
  both_fail : put_back_by g X ls (counted_view ls o edited) ≡ fail → (n : ℕ) → clash_of X ls edited ≡ Some n → PutAlike g X ls edited o

pub any_permitted : (v : Value) (ss : List Standing) → AllPermitted any_standing v ss
any_permitted [] ss = tt
any_permitted (x ∷ v) ss = (one x.origin, any_permitted v (rest_of ss))
  where
    one : (o : Origin) → Permitted any_standing o (first_of ss)
    one (master n) = refl
    one (program e b t) = tt

module _ (entries : List Entry) (X : Transformation) (ls edited : List Line) (o : Shown) (J : PassedTen entries X ls edited o) where
  abbrev all : List Numbered
  all = numbered_from 0 ls

  abbrev look : Lookup
  look = lookup_in (numbered_from 0 ls)

  -- what the view brings, and what is handed back for the source
  abbrev ups : List Standing
  ups = brought (lookup_in (numbered_from 0 ls)) o.value edited

  abbrev handed_for : List Standing → List Standing
  handed_for ss = (put_back (lookup_in (numbered_from 0 ls)) X [] (whole (numbered_from 0 ls)) ss []).in_source

  abbrev rs : List Standing
  rs = handed_for (brought (lookup_in (numbered_from 0 ls)) o.value edited)

  abbrev s : ℕ → Standing
  s = standing_for (one_master ls) X edited

  standing_handed : (ss : List Standing) (n : ℕ) → standing (one_master ls) X ss n ≡ gathered n (whole all) (handed_for ss)
  unfolding standing gathered_slots untouched_slots
  standing_handed ss n = unit_right (gathered n (whole all) (handed_for ss))

  standing_edited : (n : ℕ) → standing_for (one_master ls) X edited n ≡ standing (one_master ls) X ups n
  unfolding standing_for value_of
  standing_edited n = rw J.shows

  standing_gathered : (n : ℕ) → s n ≡ gathered n (whole all) rs
  standing_gathered n = standing_edited n ∙ standing_handed ups n

  standing_is : (n : ℕ) → n < length ls → s n ≡ standing_at rs n
  standing_is n h = standing_gathered n ∙ gathered_whole ls rs n h

  no_clash : (permit : Permit) (ss : List Standing) → FineAlong look permit (whole all) (handed_for ss) → (n : ℕ) → is_clash (standing (one_master ls) X ss n) ≡ false
  unfolding is_clash sort
  no_clash permit ss F n = go (ltb n (length ls)) refl
    where
      go : (b : Bool) → ltb n (length ls) ≡ b → is_clash (standing (one_master ls) X ss n) ≡ false
      go true e =
          let h = ltb-true n (length ls) e in
          ap is_clash (standing_handed ss n ∙ gathered_whole ls (handed_for ss) n h) ∙ along_no_clash look permit 0 ls (handed_for ss) F n h
      go false e = ap is_clash (standing_handed ss n ∙ gathered_outside ls (handed_for ss) n (ltb-false n (length ls) e))

  -- a clash has a place
  clash_place : (n : ℕ) → is_clash (s n) ≡ true → (m : ℕ) × (clash_of X ls edited ≡ Some m)
  clash_place n c = go (clash_of X ls edited) refl
    where
      go : (r : Option ℕ) → clash_of X ls edited ≡ r → (m : ℕ) × (clash_of X ls edited ≡ Some m)
      go None e =
          let q = fine_no_clash s all e n (λ h. standing_gathered n ∙ absent_gathered n (whole all) rs (one_covered ls n h).0) in
          let z : ◌≡◌ {A = ℕ} 0 1 = cc in
          absurd (omega arith)
      go (Some m) e = (m, e)

  -- the master's trees
  pub master_trees : Grown ls
  master_trees = master_grown ls J.few J.bounds

  pub master_paint : sequence ls ≡ paint look no_marks master_trees.trees
  master_paint = master_trees.read ∙ paint_unmarked look (marks_in all) (one_unmarked 0 ls (unmarked_at ls J.plain)) master_trees.trees

  -- any guard that locks or clashes
  module _ (permit : Permit) (watch : ℕ → Bool) (g : Guard) (G : Guarding (lookup_in (numbered_from 0 ls)) permit watch g) (W : Watched watch o.compared) where
    -- the trees that are shown, and how any view of them is put back
    pub backs : Backs look permit [] master_trees.trees o (put_back look X) (forward (in_paper X)) (backward g (in_paper X))
    unfolding showing
    backs =
        puts_backward look permit watch g G X whole_room (program_placed entries X J.program).sound
        [] refl tt master_trees.trees master_trees.right o (ap (show look X []) (sym master_trees.flat_is) ∙ J.shows) W

    pub value_flat : o.value ≡ flat 0 backs.g ++ []
    value_flat = backs.flat_is ∙ sym (append-nil (flat 0 backs.g))

    pub edited_lines : Read (one_master ls) o.value edited
    unfolding first_difference program_mark
    edited_lines =
        let numbers = subst⁻¹ AllNumbering value_flat (right_numbering look 0 backs.g [] backs.right tt) in
        edited_read (one_master ls) 0 0 o.value edited numbers J.same J.free J.formed

    pub edited_brush : sequence (counted_view ls o edited) ≡ brush look backs.g ups
    edited_brush =
        let ws = counted_view ls o edited in
        sequence_drawn look backs.g ws backs.right (subst (λ (v : Value). Beside look v ws) backs.flat_is edited_lines.beside)
        ∙ drawn_brush look (λ u. u) (λ S. S) refl (λ t u o S. refl) (λ t w o K S. refl) 0 backs.g
        [] ws ups backs.right (subst (λ (v : Value). InkedAll look (λ u. u) v ws ups) value_flat edited_lines.inked)

    pub put_ends : (ss : List Standing) → FineAlong look permit o.value ss
        → Ends look permit [] none master_trees.trees (put_back look X [] (whole all) ss [])
        (backward g (in_paper X) [] (paint look no_marks master_trees.trees) (brush look backs.g ss)) (said [] o ss [])
    put_ends ss F =
        subst⁻¹ (λ (v : Value). Ends look permit [] none master_trees.trees (put_back look X [] v ss [])
        (backward g (in_paper X) [] (paint look no_marks master_trees.trees) (brush look backs.g ss)) (said [] o ss []))
        master_trees.flat_is (backs.back ss [] (along_fine look permit 0 backs.g [] ss backs.right (subst (λ (v : Value). FineAlong look permit v ss) value_flat F)) tt)

    went_along : (ss : List Standing) → Fine permit master_trees.trees (handed_for ss) → FineAlong look permit (whole all) (handed_for ss)
    went_along ss K =
        subst⁻¹ (λ (v : Value). FineAlong look permit v (handed_for ss)) (master_trees.flat_is ∙ sym (append-nil (flat 0 master_trees.trees)))
        (fine_along look permit 0 master_trees.trees [] (handed_for ss) master_trees.right K tt)

    pub went_no_clash : (ss : List Standing) → Fine permit master_trees.trees (handed_for ss) → (n : ℕ) → is_clash (standing (one_master ls) X ss n) ≡ false
    went_no_clash ss K = no_clash permit ss (went_along ss K)

    handed : (f : Trees) → Right look f → whole all ≡ flat 0 f → FineAlong look permit (whole all) rs → unlocked (brush look f rs) ≡ sequence (handed_back_by X ls edited)
    unfolding master_bounds
    handed f F e K =
        let numbers = subst⁻¹ AllNumbering (e ∙ sym (append-nil (flat 0 f))) (right_numbering look 0 f [] F tt) in
        let h = handed_read all permit s 0 0 ls rs J.bounds numbers (λ i b. one_line 0 ls i) (unmarked_at ls J.plain) (λ i b. ap s (zero-add i) ∙ standing_is i b) K in
        sym
        (sequence_drawn look f (handed_back_by X ls edited) F (subst (λ (v : Value). Beside look v (handed_back_by X ls edited)) e h.0)
        ∙ drawn_brush look unlocked_state unlocked refl (λ t u o S. refl) (λ t w o K S. refl) 0 f [] (handed_back_by X ls edited) rs F
        (subst (λ (v : Value). InkedAll look unlocked_state v (handed_back_by X ls edited) rs) (e ∙ sym (append-nil (flat 0 f))) h.1))

    ended : Ends look permit [] none master_trees.trees (put_back look X [] (whole all) ups [])
        (backward g (in_paper X) [] (paint look no_marks master_trees.trees) (brush look backs.g ups)) (said [] o ups []) → PutAlike g X ls edited o
    unfolding gathered_slots
    ended (went r K _) =
        both_put (brush look master_trees.trees rs) (rw (master_paint, edited_brush) r) (handed master_trees.trees master_trees.right master_trees.flat_is (went_along ups K))
        (no_clash_fine s all (λ n. ap is_clash (standing_edited n) ∙ went_no_clash ups K n))
    ended (failed r n c) =
        let m = clash_place n (ap is_clash (standing_for_is (one_master ls) X o J.shows edited n
        ∙ ap (λ (z : Standing). z ⋓ lock n o.compared) (sym (unit_right (gathered n o.value ups)))) ∙ c) in
        both_fail (rw (master_paint, edited_brush) r) m.0 m.1

    -- where the view's standings are permitted
    pub guarded_alike : AllPermitted permit o.value ups → PutAlike g X ls edited o
    guarded_alike P = ended (put_ends ups (edited_lines.fine permit P))

module _ (entries : List Entry) (X : Transformation) (ls edited : List Line) (o : Shown) (J : PassedTen entries X ls edited o) where
  -- with the strict guard the paper does what the rules do
  pub strict_alike : PutAlike strict_guard X ls edited o
  strict_alike =
      guarded_alike entries X ls edited o J any_standing every_number strict_guard (strict_guarding (lookup_in (numbered_from 0 ls))) (λ n h. refl)
      (any_permitted o.value (brought (lookup_in (numbered_from 0 ls)) o.value edited))
