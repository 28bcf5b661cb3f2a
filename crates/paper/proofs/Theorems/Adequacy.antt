-- The rules and section 3 of the paper agree, for any program, master and view that reach a run.
use Rattle.std.specs.Prelude.{◌≡◌, ◌⊎◌, ℕ, ◌≤◌, length, None, Some}
use Rattle.std.proofs.Math.Path.{refl, subst⁻¹}
use Rattle.std.proofs.Common.{sym, ap, subst, ◌∙◌, inl, inr, arith}
use mathlib.Core.List.{List, [], append-nil}
use Rattle.lines.specs.Entries.{Entry}
use Rattle.lines.specs.Nodes.{Line, kind_rule}
use Rattle.lines.specs.Masters.{master_bounds}
use Rattle.lines.specs.Views.{first_difference}
use Rattle.values.specs.Values.{Value, most_nodes}
use Rattle.runs.specs.declared.stop.Stop.{Stop}
use Rattle.runs.specs.declared.stop.Stop.TheVariants.{Source, Size}
use Rattle.runs.specs.Results.{Result, gives, stops}
use Rattle.runs.specs.Programs.{Transformation}
use Rattle.runs.specs.Reading.{whole_room, read_program}
use Rattle.runs.specs.Showing.{Shown}
use Rattle.runs.specs.Grounds.{numbered_from, lookup_in, one_master, showing, view, standing_for}
use Rattle.runs.proofs.Theorems.Bounds.{master_shows_good}
use Rattle.runs.proofs.Theorems.Demand3.{formed_after}
use Rattle.runs.specs.Theorems.Grounded.{fault_least}
use Rattle.runs.proofs.Theorems.OneMaster.{one_covered, one_rising, one_handed_back}
use Rattle.runs.proofs.Theorems.SameView.{same_formed}
use Rattle.runs.specs.Theorems.WholePrograms.{program_placed}
use Rattle.calls.specs.Theorems.ShownNumbers.{line_is}
use Rattle.paper.specs.Data.{Sequence, May, fail, got}
use Rattle.paper.specs.Operators.{guard}
use Rattle.paper.specs.Strict.{strict_guard}
use Rattle.paper.specs.Semantics.{forward}
use Rattle.paper.specs.Programs.{in_paper}
use Rattle.paper.specs.Lines.{sequence, paper_lines, kinds_in}
use Rattle.paper.specs.Theorems.Trees.{flat}
use Rattle.paper.proofs.Theorems.Showing.{Agrees, shows_forward}
use Rattle.paper.proofs.Theorems.Guards.{strict_yields}
use Rattle.paper.proofs.Theorems.Lines.{marks_in, sequence_view}
use Rattle.paper.proofs.Theorems.Masters.{AllNumbering, right_numbering, master_grown}
use Rattle.paper.proofs.Theorems.Printing.{InOrder, print_read, print_unlocked}
use Rattle.paper.proofs.Theorems.Orders.{forest_ordered, master_ordered, same_ordered, handed_ordered}
use Rattle.paper.specs.Agreement.{Formed, ShownAlike, PassedTen, clash_of, handed_back_by, put_back_by, counted_view, PuttingBackAgrees}
use Rattle.paper.proofs.Theorems.Alike.{PutAlike, both_put, both_fail, strict_alike}
use Rattle.paper.proofs.Theorems.Suspects.{clash_suspect}

-- ## Showing

module _ (entries : List Entry) (X : Transformation) (read : read_program entries ≡ gives X) (ls : List Line) (few : length ls ≤ most_nodes) (formed : Formed ls)
    (bounds : master_bounds ls ≡ None) where
  abbrev Trees-agree : Result Stop Shown → May Sequence → Type 0
  Trees-agree = Agrees (lookup_in (numbered_from 0 ls)) (marks_in (numbered_from 0 ls))

  trees_agree : Trees-agree (showing (one_master ls) X) (forward (in_paper X) [] (sequence ls))
  unfolding showing
  trees_agree =
      let t = master_grown ls few bounds in
      rw (t.flat_is, t.read)
      (shows_forward (lookup_in (numbered_from 0 ls)) (marks_in (numbered_from 0 ls)) X whole_room (program_placed entries X read).sound [] refl tt t.trees t.right)

  -- the lines shown are in order
  pub fresh_ordered : (o : Shown) → showing (one_master ls) X ≡ gives o → InOrder (kinds_in ls) 0 (view (one_master ls) o.value)
  fresh_ordered o shows = go (subst (λ (r : Result Stop Shown). Trees-agree r (forward (in_paper X) [] (sequence ls))) shows trees_agree)
    where
      go : Trees-agree (gives o) (forward (in_paper X) [] (sequence ls)) → InOrder (kinds_in ls) 0 (view (one_master ls) o.value)
      go (g, G, e, h) =
          forest_ordered ls formed o.value (master_shows_good ls few bounds X o shows).trees
          (subst⁻¹ AllNumbering (e ∙ sym (append-nil (flat 0 g))) (right_numbering (lookup_in (numbered_from 0 ls)) 0 g [] G tt))

  -- the master may carry marks
  pub showing_agrees : ShownAlike ls (showing (one_master ls) X) (forward (in_paper X) [] (sequence ls))
  showing_agrees = go (showing (one_master ls) X) refl trees_agree
    where
      go : (r : Result Stop Shown) → showing (one_master ls) X ≡ r → Trees-agree r (forward (in_paper X) [] (sequence ls))
          → ShownAlike ls r (forward (in_paper X) [] (sequence ls))
      go (gives o) shows (g, G, e, h) = (
        sequence (view (one_master ls) o.value),
        h ∙ ap (λ (S : Sequence). got S) (sym (ap (λ (v : Value). sequence (view (one_master ls) v)) e ∙ sequence_view (one_master ls) g G)),
        sym (print_read (kinds_in ls) (view (one_master ls) o.value) (fresh_ordered o shows)),
      )
      go (stops (Source e)) shows h = h
      go (stops (Size e)) shows h = tt

-- so what the paper yields the rules show, unless they stop for size
pub only_size : (ls : List Line) (r : Result Stop Shown) (T : Sequence) → ShownAlike ls r (got T)
    → ((o : Shown) × (r ≡ gives o) × (view (one_master ls) o.value ≡ paper_lines (kinds_in ls) T)) ⊎ ((e : ℕ) × (r ≡ stops (Size e)))
only_size ls (gives o) T (U, p, q) = inl (o, refl, let e : U ≡ T = cc in q ∙ ap (paper_lines (kinds_in ls)) e)
only_size ls (stops (Source e)) T h = let z : ◌≡◌ {A = ℕ} 0 1 = cc in absurd (omega arith)
only_size ls (stops (Size e)) T h = inr (e, refl)

-- ## What the paper is given: reading loses nothing

pub master_read : (ls : List Line) → length ls ≤ most_nodes → Formed ls → master_bounds ls ≡ None → paper_lines (kinds_in ls) (sequence ls) ≡ ls
master_read ls few formed bounds = print_read (kinds_in ls) ls (master_ordered ls formed few bounds)

pub view_read : (entries : List Entry) (X : Transformation) (ls edited : List Line) (o : Shown) → PassedTen entries X ls edited o
    → paper_lines (kinds_in ls) (sequence edited) ≡ edited
unfolding first_difference
view_read entries X ls edited o J =
    let fresh = fresh_ordered entries X J.program ls J.few J.master_formed J.bounds o J.shows in
    print_read (kinds_in ls) edited (same_ordered (kinds_in ls) 0 0 edited (view (one_master ls) o.value) J.same J.formed fresh)

-- ## Putting back

module _ (entries : List Entry) (X : Transformation) (ls edited : List Line) (o : Shown) (J : PassedTen entries X ls edited o) where
  handed_formed : clash_of X ls edited ≡ None → Formed (handed_back_by X ls edited)
  handed_formed accepted n =
      let s = standing_for (one_master ls) X edited in
      rw (one_handed_back s ls n)
      (formed_after (one_master ls) X o J.shows edited (one_covered ls) kind_rule accepted n (rw (line_is ls n) (J.master_formed n))
      (same_formed kind_rule (one_master ls) o edited J.same J.formed n))

  -- the lines handed back are in order, so what is read of them is printed as they are
  handed_read_back : clash_of X ls edited ≡ None → paper_lines (kinds_in ls) (sequence (handed_back_by X ls edited)) ≡ handed_back_by X ls edited
  handed_read_back accepted =
      print_read (kinds_in ls) (handed_back_by X ls edited)
      (handed_ordered (kinds_in ls) (standing_for (one_master ls) X edited) 0 0 ls (handed_formed accepted) (master_ordered ls J.master_formed J.few J.bounds))

pub putting_back_agrees : (entries : List Entry) (X : Transformation) (ls edited : List Line) (o : Shown) → PassedTen entries X ls edited o → PuttingBackAgrees X ls edited o
putting_back_agrees entries X ls edited o J =
    record {
      accepted = whole (strict_alike entries X ls edited o J);
      refused = torn (strict_alike entries X ls edited o J);
      printed = strict_yields (in_paper X) [] (sequence ls) (sequence (counted_view ls o edited));
      failing = fails (strict_alike entries X ls edited o J);
      apart = λ r p n c. clash_suspect entries X ls edited o J n r p (fault_least (standing_for (one_master ls) X edited) 0 (numbered_from 0 ls) (one_rising 0 ls) n c).0;
    }
  where
    whole : PutAlike strict_guard X ls edited o → clash_of X ls edited ≡ None
        → (S : Sequence) × (put_back_by strict_guard X ls (counted_view ls o edited) ≡ got (S, [])) × (handed_back_by X ls edited ≡ paper_lines (kinds_in ls) S)
    whole (both_put S p q c) h = (S, p, sym (handed_read_back entries X ls edited o J h) ∙ ap (paper_lines (kinds_in ls)) (sym q) ∙ print_unlocked (kinds_in ls) S)
    whole (both_fail p n c) h = let z : ◌≡◌ {A = ℕ} 0 1 = cc in absurd (omega arith)

    torn : PutAlike strict_guard X ls edited o → (n : ℕ) → clash_of X ls edited ≡ Some n → put_back_by strict_guard X ls (counted_view ls o edited) ≡ fail
    torn (both_put S p q c) n h = let z : ◌≡◌ {A = ℕ} 0 1 = cc in absurd (omega arith)
    torn (both_fail p m c) n h = p

    fails : PutAlike strict_guard X ls edited o → put_back_by guard X ls (counted_view ls o edited) ≡ fail → (n : ℕ) × (clash_of X ls edited ≡ Some n)
    fails (both_put S p q c) h =
        let r = strict_yields (in_paper X) [] (sequence ls) (sequence (counted_view ls o edited)) (S, []) p in
        let z : ◌≡◌ {A = ℕ} 0 1 = cc in
        absurd (omega arith)
    fails (both_fail p n c) h = (n, c)
