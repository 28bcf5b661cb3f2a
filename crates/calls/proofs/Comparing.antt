-- The view beside the fresh one: what the parts of that comparison ask, and what it leaves to carry.
use Prim.Native.Nat.{ℕ, suc}
use Rattle.std.specs.Prelude.{None, Some, Result as Answer, Err}
use native.Mathlib.Omega.{arith}
use mathlib.Core.Path.{◌≡◌, refl, sym, ap, subst, ◌∙◌}
use mathlib.Core.Bool.{Bool, true, false, cond}
use mathlib.Core.List.{List, [], ◌∷◌}
use lib.ListN.{length}
use Rattle.lines.specs.Nodes.{Line}
use Rattle.lines.specs.Entries.{Entry}
use Rattle.lines.specs.Views.{same_line, difference_from, first_difference}
use Rattle.lines.proofs.Theorems.Widths.{file_short}
use Rattle.values.specs.Engine.Words.{value_at}
use Rattle.runs.specs.Results.{gives}
use Rattle.runs.specs.Programs.{Transformation}
use Rattle.runs.specs.Reading.{read_program}
use Rattle.runs.specs.Showing.{Shown}
use Rattle.runs.specs.Grounds.{one_master, showing, view}
use Rattle.runs.specs.Engine.Runs.{made_by}
use Rattle.runs.specs.Theorems.Inversion.{gives_inj}
use Rattle.runs.specs.Theorems.WholePrograms.{program_placed}
use Rattle.calls.specs.Judging.{judged_view}
use Rattle.calls.specs.declared.refusal.Refusal.{Refusal}
use Rattle.calls.specs.Engine.Parts.{Refuses, view_lines, ShownWords, ViewGoes, Carriable, CarriedBack, Comparable, ComparedBack}
use Rattle.calls.proofs.Theorems.Judged.{ViewPassed, view_passed}
use Rattle.calls.proofs.Theorems.FreshLines.{length_view}
use Rattle.calls.proofs.Theorems.Returned.{returned_writable}
use Rattle.calls.proofs.WordLines.{view_long}
use Rattle.calls.proofs.Steps.{refused_first, refused_settles, passed_settles}

-- no difference, as many lines
same_count : (k : ℕ) (vs fs : List Line) → difference_from k vs fs ≡ None → length vs ≡ length fs
unfolding difference_from
same_count k [] [] h = refl
same_count k [] (f ∷ fs) h = cc
same_count k (v ∷ vs) [] h = cc
same_count k (v ∷ vs) (f ∷ fs) h = ap suc (same_count (suc k) vs fs (go (same_line v f) h))
  where
    go : (b : Bool) → cond b (difference_from (suc k) vs fs) (Some k) ≡ None → difference_from (suc k) vs fs ≡ None
    go true q = q
    go false q = cc

module _ {E : List Entry} {ends : List ℕ} {L : List Line} {len : ℕ} {w out : List ℕ} (k : Comparable E ends L len w out) where
  abbrev fresh : List Line
  fresh = view_lines E L w len

  pub shown_words : ShownWords E w len
  shown_words = let f = k.goes.few in let r = k.work_room in (omega arith, k.shallow)

  -- what was shown, whatever the tree is called
  fresh_is : (X : Transformation) → read_program E ≡ gives X → (o : Shown) → showing (one_master L) X ≡ gives o → fresh ≡ view (one_master L) o.value
  fresh_is X read o shows =
      let g = k.goes.shows X (length E) (program_placed E X read).stands in
      ap (view (one_master L)) g.2 ∙ ap (λ (a : Shown). view (one_master L) a.value) (gives_inj _ _ (sym g.1 ∙ shows))

  -- ## The view judged beside the fresh one

  module _ (edited : List ℕ) where
    pub view_refuses : (r : Refusal) → Refuses (judged_view fresh edited) r → ComparedBack E L edited out out (Err r)
    view_refuses r refused X read o shows =
        refused_settles _ out r (refused_first _ _ r (subst (λ (ls : List Line). Refuses (judged_view ls edited) r) (fresh_is X read o shows) refused))

    module _ {es : List Line} (goes : ViewGoes fresh edited es) where
      passed : ViewPassed fresh edited es
      passed = view_passed fresh edited es goes.judged

      as_many : length es ≡ length fresh
      unfolding first_difference
      as_many = same_count 0 es fresh passed.same

      -- a word a line
      count : length es ≡ len
      count = as_many ∙ view_long E L w len shown_words.0

      pub carriable : Carriable E ends L es w out
      carriable =
          record {
            runnable = k.runnable;
            few = passed.holds.few;
            foot = k.goes.foot;
            shows = λ X q h.
                let g = k.goes.shows X q h in
                (g.0, g.1, sym (as_many ∙ length_view L (value_at (made_by E) w 128 len) ∙ ap length g.2), ap (view_lines E L w) count ∙ ap (view (one_master L)) g.2);
            room = k.room;
            work_room = k.work_room;
            short = λ ls h.
                let X = k.runnable.tree in
                let o = k.goes.shows X (length E) (program_placed E X k.runnable.read).stands in
                let r = returned_writable L k.form k.runnable.few_lines k.bounds X o.0 o.1 es passed.holds.form
                (subst (λ (fs : List Line). first_difference es fs ≡ None) (fresh_is X k.runnable.read o.0 o.1) passed.same) ls h in
                let l = r.long in
                let f = k.runnable.few_lines in
                file_short ls r.form (omega arith);
          }

      pub carried_compares : (out' : List ℕ) (answer : Answer ℕ Refusal) → CarriedBack E L es out out' answer → ComparedBack E L edited out out' answer
      carried_compares out' answer h X read o shows =
          passed_settles _ _ es
          (subst (λ (ls : List Line). judged_view ls edited ≡ gives es) (fresh_is X read o shows) goes.judged) out out' answer (h X read)
