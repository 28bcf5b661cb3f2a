-- Where the paper with Fig. 7's guard accepts, every clash of the rules has a suspect line of its own node.
use Rattle.std.specs.Prelude.{◌≡◌, Bool, ◌&&◌, ◌||◌, not, ◌⊎◌, ℕ, suc, length, drop}
use Rattle.std.proofs.Math.Path.{refl, subst⁻¹}
use Rattle.std.proofs.Common.{sym, ap, ◌∙◌, inl, inr, arith, eqb-true, eq-eqb}
use Rattle.std.proofs.Math.Bool.{true, false}
use mathlib.Core.List.{List, [], ◌∷◌, ◌++◌, append_assoc}
use Rattle.std.proofs.Math.Dec.{eqb}
use Rattle.std.proofs.lemmas.Bool.{not-false}
use Rattle.lines.specs.Entries.{Entry}
use Rattle.lines.specs.Nodes.{Line, deleted_mark, line_at}
use Rattle.values.specs.Values.{Origin, master, program, Value, Lookup, bytes_of, is_from, among}
use Rattle.values.specs.Standings.{Standing, sort, is_clash, ◌⋓◌, first_of, rest_of, gathered, brings}
use Rattle.lines.specs.Theorems.Bools.{never, and_parts, neither, or_right}
use Rattle.values.proofs.Theorems.Gathering.{only, drop_rest}
use Rattle.values.specs.Theorems.Copies.{is_copy, standing_at}
use Rattle.values.proofs.Theorems.Edits.{by_mark}
use Rattle.runs.specs.Programs.{Transformation}
use Rattle.runs.specs.Showing.{Shown}
use Rattle.runs.specs.PuttingBack.{put_back}
use Rattle.runs.specs.Grounds.{numbered_from, lookup_in, whole, one_master, brought, standing, standing_for}
use Rattle.runs.proofs.Theorems.Conservation.{lock}
use Rattle.runs.proofs.Theorems.Demand3.{standing_is, standing_for_is, brought_at}
use Rattle.paper.specs.Data.{ori, ori_e, src, Sequence, none, got}
use Rattle.paper.specs.Contexts.{PairContext}
use Rattle.paper.specs.Operators.{guard}
use Rattle.paper.specs.Semantics.{backward}
use Rattle.paper.specs.Programs.{in_paper}
use Rattle.paper.specs.Theorems.Trees.{Trees, nil, txt, elm, flat, from_origin, mark_for, paint}
use Rattle.paper.specs.Lines.{updating_of, element_updating_of}
use Rattle.paper.proofs.Theorems.Brushes.{size, length_flat, text_for, state_for, element_for, brush, Permit}
use Rattle.paper.proofs.Theorems.Places.{no_marks}
use Rattle.paper.proofs.Theorems.Ends.{said, Ends, went, failed, Guarding}
use Rattle.paper.proofs.Theorems.Guards.{any_standing, is_kept, kept_where, printed_guarding}
use Rattle.paper.proofs.Theorems.OneNode.{Strings, Tags, edited, still, Copies, alone}
use Rattle.paper.proofs.Theorems.Views.{FineNode, FineAlong, Permitted, AllPermitted}
use Rattle.paper.specs.Agreement.{PassedTen, put_back_by, counted_view, Suspect}
use Rattle.paper.proofs.Theorems.Alike.{any_permitted, master_trees, master_paint, backs, value_flat, edited_lines, edited_brush, put_ends, went_no_clash}

-- ## The edits of node n alone

module _ (n : ℕ) where
  only_of : Value → List Standing → List Standing
  only_of [] ss = []
  only_of (x ∷ v) ss = only (is_from n x.origin) (first_of ss) ∷ only_of v (rest_of ss)

  gathered_only : (v : Value) (ss : List Standing) → gathered n v (only_of v ss) ≡ gathered n v ss
  unfolding gathered only_of
  gathered_only [] ss = refl
  gathered_only (x ∷ v) ss = rw (gathered_only v (rest_of ss), twice (is_from n x.origin) (first_of ss))
    where
      twice : (b : Bool) (s : Standing) → only b (only b s) ≡ only b s
      twice true s = refl
      twice false s = refl

  drop_only : (v u : Value) (ss : List Standing) → drop (length v) (only_of (v ++ u) ss) ≡ only_of u (drop (length v) ss)
  unfolding only_of
  drop_only [] u ss = refl
  drop_only (x ∷ v) u ss = rw (drop_rest (length v) ss) (drop_only v u (rest_of ss))

  -- the view, and the view with these edits alone
  module _ (look : Lookup) where
    text_copies : (o : Origin) (s : Standing)
        → Strings n (from_origin o) (bytes_of look o) (updating_of (mark_for no_marks o))
        (text_for look o s) (state_for o s) (text_for look o (only (is_from n o) s)) (state_for o (only (is_from n o) s))
    unfolding is_from bytes_of
    text_copies (program e b t) s = edited refl refl refl
    text_copies (master m) s = go (eqb n m) refl
      where
        go : (b : Bool) → eqb n m ≡ b
            → Strings n (src m) (look.bytes m) ori (text_for look (master m) s) (state_for (master m) s) (text_for look (master m) (only b s)) (state_for (master m) (only b s))
        go true e = edited (rw e) refl refl
        go false e = still (rw e) refl refl

    tag_copies : (o : Origin) (s : Standing) → Tags n (from_origin o) (element_updating_of (mark_for no_marks o)) (element_for o s) (element_for o (only (is_from n o) s))
    unfolding is_from
    tag_copies (program e b t) s = edited refl refl
    tag_copies (master m) s = go (eqb n m) refl
      where
        go : (b : Bool) → eqb n m ≡ b → Tags n (src m) ori_e (element_for (master m) s) (element_for (master m) (only b s))
        go true e = edited (rw e) refl
        go false e = still (rw e) refl

    brush_copies : (d : ℕ) (f : Trees) (u : Value) (ss : List Standing) → Copies n (paint look no_marks f) (brush look f ss) (brush look f (only_of (flat d f ++ u) ss))
    unfolding only_of
    brush_copies d nil u ss = (refl, refl)
    brush_copies d (txt o r) u ss = (_, _, _, _, _, _, refl, refl, text_copies o (first_of ss), brush_copies d r u (rest_of ss))
    brush_copies d (elm o k r) u ss =
        let all = append_assoc (flat (suc d) k) (flat d r) u in
        let inner : Copies n (paint look no_marks k) (brush look k (rest_of ss)) (brush look k (only_of ((flat (suc d) k ++ flat d r) ++ u) (rest_of ss))) =
        rw all (brush_copies (suc d) k (flat d r ++ u) (rest_of ss)) in
        let behind : Copies n (paint look no_marks r) (brush look r (drop (size k) (rest_of ss)))
        (brush look r (drop (size k) (only_of ((flat (suc d) k ++ flat d r) ++ u) (rest_of ss)))) =
        rw (all, ← (length_flat (suc d) k), drop_only (flat (suc d) k) (flat d r ++ u) (rest_of ss)) (brush_copies d r u (drop (length (flat (suc d) k)) (rest_of ss))) in
        (_, _, _, _, _, _, refl, refl, tag_copies o (first_of ss), inner, behind)

    -- what is permitted where n alone is watched is so with the edits of n alone where more is
    permitted_only : (watch : ℕ → Bool) (v : Value) (ss : List Standing) → AllPermitted (kept_where look (λ m. eqb n m && watch m)) v ss
        → AllPermitted (kept_where look watch) v (only_of v ss)
    unfolding only_of is_from
    permitted_only watch [] ss p = tt
    permitted_only watch (x ∷ v) ss p = (one x.origin p.0, permitted_only watch v (rest_of ss) p.1)
      where
        one : (o : Origin) → Permitted (kept_where look (λ m. eqb n m && watch m)) o (first_of ss) → Permitted (kept_where look watch) o (only (is_from n o) (first_of ss))
        one (program e b t) h = tt
        one (master m) h = go (eqb n m) h
          where
            go : (b : Bool) → (not (b && watch m) || is_kept (look.bytes m) (first_of ss)) ≡ true → (not (watch m) || is_kept (look.bytes m) (only b (first_of ss))) ≡ true
            go true h = h
            go false h = or_right (not (watch m)) true refl

    fine_only : (permit : Permit) (v : Value) (ss : List Standing) → FineAlong look any_standing v ss → AllPermitted permit v (only_of v ss) → FineAlong look permit v (only_of v ss)
    unfolding only_of is_clash sort
    fine_only permit [] ss f p = tt
    fine_only permit (x ∷ v) ss f p = (one x.origin (is_from n x.origin) f.0 p.0, fine_only permit v (rest_of ss) f.1 p.1)
      where
        one : (o : Origin) (b : Bool) → FineNode look any_standing o (first_of ss) → Permitted permit o (only b (first_of ss)) → FineNode look permit o (only b (first_of ss))
        one (program e c t) b f p = (λ _. tt, λ _. tt)
        one (master m) true f p = (λ h. ((f.0 h).0, p), λ h. f.1 h)
        one (master m) false f p = (λ h. (refl, p), λ h. refl)

-- ## Suspect lines

-- all standings are kept, or one of a watched number is not
abbrev Found : Lookup → (ℕ → Bool) → Value → List Standing → Type 0
Found look watch v ss = (n : ℕ) × (i : ℕ) × (is_copy n v i ≡ true) × (watch n ≡ true) × (is_kept (look.bytes n) (standing_at ss i) ≡ false)

kept_or_found : (look : Lookup) (watch : ℕ → Bool) (v : Value) (ss : List Standing) → AllPermitted (kept_where look watch) v ss ⊎ Found look watch v ss
unfolding is_copy standing_at is_from
kept_or_found look watch [] ss = inl tt
kept_or_found look watch (x ∷ v) ss = go (one x.origin) (kept_or_found look watch v (rest_of ss))
  where
    Here : Origin → Type 0
    Here o = (n : ℕ) × (is_from n o ≡ true) × (watch n ≡ true) × (is_kept (look.bytes n) (first_of ss) ≡ false)

    one : (o : Origin) → Permitted (kept_where look watch) o (first_of ss) ⊎ Here o
    one (program e b t) = inl tt
    one (master n) = by (not (watch n) || is_kept (look.bytes n) (first_of ss)) refl
      where
        by : (b : Bool) → (not (watch n) || is_kept (look.bytes n) (first_of ss)) ≡ b → Permitted (kept_where look watch) (master n) (first_of ss) ⊎ Here (master n)
        by true e = inl e
        by false e = let p = neither (not (watch n)) (is_kept (look.bytes n) (first_of ss)) e in inr (n, eq-eqb n n refl, not-false (watch n) p.0, p.1)

    go : Permitted (kept_where look watch) x.origin (first_of ss) ⊎ Here x.origin → AllPermitted (kept_where look watch) v (rest_of ss) ⊎ Found look watch v (rest_of ss)
        → AllPermitted (kept_where look watch) (x ∷ v) ss ⊎ Found look watch (x ∷ v) ss
    go (inl p) (inl q) = inl (p, q)
    go (inr (n, f, w, k)) q = inr (n, 0, f, w, k)
    go (inl p) (inr (n, i, f, w, k)) = inr (n, suc i, f, w, k)

-- of what a line brings only a deletion is not kept: a change that counts is one to a new text
unkept_deleted : (t : List ℕ) (mark : ℕ) (text : List ℕ) → is_kept t (brings t mark text) ≡ false → mark ≡ deleted_mark
unkept_deleted t mark text =
    by_mark (λ _ s. is_kept t s ≡ false → mark ≡ deleted_mark) t mark text (λ _ new h. never (sym h ∙ ap not new)) (λ m _. m) (λ h. never (sym h))

module _ (entries : List Entry) (X : Transformation) (ls edited : List Line) (o : Shown) (J : PassedTen entries X ls edited o) (n : ℕ) where
  abbrev look : Lookup
  look = lookup_in (numbered_from 0 ls)

  abbrev watch : ℕ → Bool
  watch m = among m o.compared

  abbrev permit : Permit
  permit = kept_where (lookup_in (numbered_from 0 ls)) (λ m. among m o.compared)

  -- what the view brings, and of that what it says of n
  abbrev ups : List Standing
  ups = brought (lookup_in (numbered_from 0 ls)) o.value edited

  abbrev own : List Standing
  own = only_of n o.value (brought (lookup_in (numbered_from 0 ls)) o.value edited)

  abbrev guards : Guarding look permit watch guard
  guards = printed_guarding (lookup_in (numbered_from 0 ls)) (λ m. among m o.compared)

  standing_own : standing (one_master ls) X own n ≡ standing_for (one_master ls) X edited n
  standing_own =
      standing_is (one_master ls) X o J.shows own n
      ∙ ap (λ (z : Standing). z ⋓ lock n o.compared) (gathered_only n o.value ups)
      ∙ sym (standing_for_is (one_master ls) X o J.shows edited n)

  abbrev f : Trees
  f = (master_trees entries X ls edited o J).trees

  abbrev shown : Trees
  shown = (backs entries X ls edited o J permit watch guard guards (λ m h. h)).g

  -- what is accepted is so with the edits of n alone
  own_accepted : (r : Sequence × PairContext) → put_back_by guard X ls (counted_view ls o edited) ≡ got r
      → (z : Sequence × PairContext) × (backward guard (in_paper X) [] (paint look no_marks f) (brush look shown own) ≡ got z)
  own_accepted r h =
      let B = backs entries X ls edited o J permit watch guard guards (λ m h. h) in
      let c = subst⁻¹ (λ (v : Value). Copies n (paint look no_marks shown) (brush look shown ups) (brush look shown (only_of n v ups)))
      (value_flat entries X ls edited o J permit watch guard guards (λ m h. h)) (brush_copies n look 0 shown [] ups) in
      let a = alone n (in_paper X) [] [] [] (paint look no_marks f) (paint look no_marks shown) (brush look shown ups) (brush look shown own) (refl, refl) B.forth c r
      (rw (master_paint entries X ls edited o J, edited_brush entries X ls edited o J permit watch guard guards (λ m h. h)) at h) in
      (a.0, a.1)

  -- so without a suspect line of n the rules have no clash there
  kept_no_clash : (r : Sequence × PairContext) → put_back_by guard X ls (counted_view ls o edited) ≡ got r
      → AllPermitted (kept_where look (λ m. eqb n m && watch m)) o.value ups → is_clash (standing_for (one_master ls) X edited n) ≡ false
  kept_no_clash r h p =
      let any = (edited_lines entries X ls edited o J permit watch guard guards (λ m h. h)).fine any_standing (any_permitted o.value ups) in
      let fine = fine_only n look permit o.value ups any (permitted_only n look watch o.value ups p) in
      ap is_clash (sym standing_own) ∙ go (own_accepted r h) (put_ends entries X ls edited o J permit watch guard guards (λ m h. h) own fine)
    where
      go : (z : Sequence × PairContext) × (backward guard (in_paper X) [] (paint look no_marks f) (brush look shown own) ≡ got z)
          → Ends look permit [] none f (put_back look X [] (whole (numbered_from 0 ls)) own [])
          (backward guard (in_paper X) [] (paint look no_marks f) (brush look shown own)) (said [] o own [])
          → is_clash (standing (one_master ls) X own n) ≡ false
      go a (went q K _) = went_no_clash entries X ls edited o J permit watch guard guards (λ m h. h) own K n
      go (z, q) (failed e m c) = let z : ◌≡◌ {A = ℕ} 0 1 = cc in absurd (omega arith)

  pub clash_suspect : (r : Sequence × PairContext) → put_back_by guard X ls (counted_view ls o edited) ≡ got r → is_clash (standing_for (one_master ls) X edited n) ≡ true
      → Suspect edited o n
  clash_suspect r h c = go (kept_or_found look (λ m. eqb n m && watch m) o.value ups)
    where
      go : AllPermitted (kept_where look (λ m. eqb n m && watch m)) o.value ups ⊎ Found look (λ m. eqb n m && watch m) o.value ups → Suspect edited o n
      go (inl p) = let q = kept_no_clash r h p in let z : ◌≡◌ {A = ℕ} 0 1 = cc in absurd (omega arith)
      go (inr (m, i, k, w, u)) =
          let v = and_parts (eqb n m) (watch m) w in
          subst⁻¹ (Suspect edited o) (eqb-true n m v.0)
          (record {
            place = i;
            copy = k;
            compared = v.1;
            edit =
                unkept_deleted (look.bytes m) (line_at edited i).mark (line_at edited i).text
                (ap (is_kept (look.bytes m)) (sym (brought_at look o.value edited m i k)) ∙ u);
          })
