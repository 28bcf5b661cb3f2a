-- A master in which reply 5 finds no fault, as trees: its lines are theirs, and each number stands once.
use Rattle.std.specs.Prelude.{◌≡◌, refl, Bool, true, false, cond, ◌&&◌, List, [], ◌∷◌, ◌++◌, map, ℕ, zero, suc, ◌+◌, ◌-◌, ◌<◌, ◌≤◌, eqb, leb, length, get_or, None, Some}
use Rattle.std.proofs.Common.{sym, ap, ◌∙◌, append-nil, append_assoc, arith, eqb-true, eq-eqb, ne_eqb}
use Rattle.lines.specs.Nodes.{Line, untouched_mark, program_number, no_line}
use Rattle.lines.specs.Masters.{depth_after, placed, bounds_from, master_bounds}
use Rattle.lines.specs.Theorems.Bools.{and_parts}
use Rattle.values.specs.Values.{Origin, master, program, Node, Value, Lookup, element_of, is_from, most_nodes}
use Rattle.values.specs.Standings.{Standing, untouched, first_of, rest_of, gathered}
use Rattle.values.proofs.Theorems.MergeLaws.{unit_left, unit_right}
use Rattle.values.specs.Theorems.Copies.{standing_at}
use Rattle.values.specs.Theorems.Forests.{reach, Walk, Forest}
use Rattle.runs.specs.Grounds.{Numbered, numbered_from, line_of, lookup_in, whole, one_master, shown_line, view}
use Rattle.runs.proofs.Theorems.OneMaster.{one_line}
use Rattle.runs.proofs.Theorems.Bounds.{master_good}
use Rattle.paper.specs.Lines.{sequence}
use Rattle.paper.specs.Theorems.Trees.{Trees, nil, txt, elm, at, flat, Numbering, mark_for, paint, Right}
use Rattle.paper.proofs.Theorems.Places.{no_marks}
use Rattle.paper.proofs.Theorems.Lines.{marks_in, sequence_view}

-- ## A sequence of trees is the flat form of one

abbrev pub AllNumbering : Value → Type 0
AllNumbering [] = Unit {0}
AllNumbering (x ∷ v) = Numbering x.origin × AllNumbering v

-- trees still open, the outermost last, each at the depth of those behind it
abbrev flat_all : List Trees → Value
flat_all [] = []
flat_all (f ∷ st) = flat (length st) f ++ flat_all st

-- empty ones in front
abbrev deeper : ℕ → List Trees → List Trees
deeper zero st = st
deeper (suc j) st = nil ∷ deeper j st

deeper_length : (j : ℕ) (st : List Trees) → length (deeper j st) ≡ j + length st
deeper_length zero st = omega arith
deeper_length (suc j) st = let z = deeper_length j st in omega arith

deeper_flat : (j : ℕ) (st : List Trees) → flat_all (deeper j st) ≡ flat_all st
deeper_flat zero st = refl
deeper_flat (suc j) st = deeper_flat j st

module _ (look : Lookup) where
  abbrev AllRight : List Trees → Type 0
  AllRight [] = Unit {0}
  AllRight (f ∷ st) = Right look f × AllRight st

  deeper_right : (j : ℕ) (st : List Trees) → AllRight st → AllRight (deeper j st)
  deeper_right zero st g = g
  deeper_right (suc j) st g = (tt, deeper_right j st g)

  record Open (d : ℕ) (v : Value) : Type 0 where
    st : List Trees
    tall : length st ≡ d
    flat_i : flat_all st ≡ v
    right_i : AllRight st

  deepened : (d e : ℕ) (v : Value) → d ≤ e → Open d v → Open e v
  deepened d e v h s =
      let z = deeper_length (e - d) s.st in
      let t = s.tall in
      record { st = deeper (e - d) s.st; tall = omega arith; flat_i = deeper_flat (e - d) s.st ∙ s.flat_i; right_i = deeper_right (e - d) s.st s.right_i }

  text_front : (d : ℕ) (o : Origin) (v : Value) → element_of look o ≡ false → Numbering o → Open (suc d) v → Open (suc d) (at d o ∷ v)
  text_front d o v i n s = go s.st s.tall s.flat_i s.right_i
    where
      go : (st : List Trees) → length st ≡ suc d → flat_all st ≡ v → AllRight st → Open (suc d) (at d o ∷ v)
      go [] t e g = absurd (omega arith)
      go (f ∷ st) t e g =
          let l : length st ≡ d = omega arith in
          record {
            st = txt o f ∷ st;
            tall = t;
            flat_i = ap (λ (k : ℕ). at k o ∷ (flat (length st) f ++ flat_all st)) l ∙ ap (λ (w : Value). at d o ∷ w) e;
            right_i = ((i, n, g.0), g.1);
          }

  element_front : (d : ℕ) (o : Origin) (v : Value) → element_of look o ≡ true → Numbering o → Open (suc (suc d)) v → Open (suc d) (at d o ∷ v)
  element_front d o v i n s = go s.st s.tall s.flat_i s.right_i
    where
      go : (st : List Trees) → length st ≡ suc (suc d) → flat_all st ≡ v → AllRight st → Open (suc d) (at d o ∷ v)
      go [] t e g = absurd (omega arith)
      go (k ∷ []) t e g = absurd (omega arith)
      go (k ∷ f ∷ st) t e g =
          let l : length st ≡ d = omega arith in
          record {
            st = elm o k f ∷ st;
            tall = omega arith;
            flat_i = ap (λ (m : ℕ). at m o ∷ ((flat (suc (length st)) k ++ flat (length st) f) ++ flat_all st)) l
                ∙ ap (λ (w : Value). at d o ∷ w) (append_assoc (flat (suc (length st)) k) (flat (length st) f) (flat_all st) ∙ e);
            right_i = ((i, n, g.0, g.1.0), g.1.1);
          }

  front : (d : ℕ) (o : Origin) (m : ℕ) (v : Value) → Numbering o → m ≤ suc (reach look (at d o)) → Open m v → Open (suc d) (at d o ∷ v)
  front d o m v n h s = go (element_of look o) refl h
    where
      go : (b : Bool) → element_of look o ≡ b → m ≤ suc (cond b (suc d) d) → Open (suc d) (at d o ∷ v)
      go true e h = element_front d o v e n (deepened m (suc (suc d)) v h s)
      go false e h = text_front d o v e n (deepened m (suc d) v h s)

  opened : (x : Node) (v : Value) → Walk look x v → Numbering x.origin → AllNumbering v → Open (suc x.depth) (x ∷ v)
  opened x [] h n ns = front x.depth x.origin 0 [] n (omega arith) (record { st = []; tall = refl; flat_i = refl; right_i = tt })
  opened x (y ∷ v) h n ns = let d = h.0 in front x.depth x.origin (suc y.depth) (y ∷ v) n (omega arith) (opened y v h.1 ns.0 ns.1)

  pub grown : (v : Value) → Forest look v → AllNumbering v → (f : Trees) × Right look f × (v ≡ flat 0 f)
  grown [] h n = (nil, tt, refl)
  grown (x ∷ v) h n = go (opened x v h.1 n.0 n.1)
    where
      go : Open (suc x.depth) (x ∷ v) → (f : Trees) × Right look f × (x ∷ v ≡ flat 0 f)
      go s = top s.st s.tall s.flat_i s.right_i
        where
          top : (st : List Trees) → length st ≡ suc x.depth → flat_all st ≡ x ∷ v → AllRight st → (f : Trees) × Right look f × (x ∷ v ≡ flat 0 f)
          top [] t e g = absurd (omega arith)
          top (f ∷ []) t e g = (f, g.0, sym e ∙ append-nil (flat 0 f))
          top (f ∷ k ∷ st) t e g = let z = h.0 in absurd (omega arith)

-- trees have such numbers
pub right_numbering : (look : Lookup) (d : ℕ) (f : Trees) (u : Value) → Right look f → AllNumbering u → AllNumbering (flat d f ++ u)
right_numbering look d nil u F n = n
right_numbering look d (txt o r) u F n = (F.1, right_numbering look d r u F.2 n)
right_numbering look d (elm o k r) u F n =
    (F.1, rw (append_assoc (flat (suc d) k) (flat d r) u) (right_numbering look (suc d) k (flat d r ++ u) F.2 (right_numbering look d r u F.3 n)))

-- ## Its lines

-- the numbers from k on are no program's
pub whole_numbering : (k : ℕ) (ls : List Line) → k + length ls ≤ program_number → AllNumbering (whole (numbered_from k ls))
unfolding whole numbered_from
whole_numbering k [] h = tt
whole_numbering k (l ∷ ls) h = (ne_eqb k program_number (λ e. omega arith), whole_numbering (suc k) ls (omega arith))

-- the lines from number k on, as they are looked up among all
lines_shown : (all : List Numbered) (most k : ℕ) (ls : List Line) → bounds_from most k ls ≡ None → ((i : ℕ) → i < length ls → line_of all (k + i) ≡ get_or ls i no_line)
    → map (λ x. shown_line all x.depth x.origin) (whole (numbered_from k ls)) ≡ ls
unfolding bounds_from placed whole numbered_from shown_line
lines_shown all most k [] h f = refl
lines_shown all most k (l ∷ ls) h f =
    go (placed most k l) refl h
    (λ q. lines_shown all (depth_after l) (suc k) ls q (λ i b. ap (line_of all) (let e : suc k + i ≡ k + suc i = omega arith in e) ∙ f (suc i) (omega arith)))
  where
    own : line_of all k ≡ l
    own = ap (line_of all) (let e : k ≡ k + 0 = omega arith in e) ∙ f 0 (omega arith)

    go : (b : Bool) → placed most k l ≡ b → cond b (bounds_from (depth_after l) (suc k) ls) (Some k) ≡ None
        → (bounds_from (depth_after l) (suc k) ls ≡ None → map (λ x. shown_line all x.depth x.origin) (whole (numbered_from (suc k) ls)) ≡ ls)
        → shown_line all l.depth (master k) ∷ map (λ x. shown_line all x.depth x.origin) (whole (numbered_from (suc k) ls)) ≡ l ∷ ls
    go true e q ih =
        let p = and_parts (leb l.depth most) (leb l.depth 7 && eqb l.number k) e in
        let n : k ≡ l.number = sym (eqb-true l.number k (and_parts (leb l.depth 7) (eqb l.number k) p.1).1) in
        rw (ih q, own) (ap (λ (m : ℕ). record { depth = l.depth; kind = l.kind; mark = l.mark; number = m; text = l.text } ∷ ls) n)
    go false e q ih = let z : ◌≡◌ {A = ℕ} 0 1 = cc in absurd (omega arith)

-- a master is its own view
pub view_whole : (ls : List Line) → master_bounds ls ≡ None → view (one_master ls) (whole (numbered_from 0 ls)) ≡ ls
unfolding master_bounds view
view_whole ls h = lines_shown (numbered_from 0 ls) 0 0 ls h (λ i b. one_line 0 ls i)

-- a master as trees
pub record Grown (ls : List Line) : Type 0 where
  pub trees : Trees
  pub right : Right (lookup_in (numbered_from 0 ls)) trees
  pub flat_is : whole (numbered_from 0 ls) ≡ flat 0 trees
  pub read : sequence ls ≡ paint (lookup_in (numbered_from 0 ls)) (marks_in (numbered_from 0 ls)) trees

pub master_grown : (ls : List Line) → length ls ≤ most_nodes → master_bounds ls ≡ None → Grown ls
master_grown ls few h =
    let t = grown (lookup_in (numbered_from 0 ls)) (whole (numbered_from 0 ls)) (master_good ls few h).trees (whole_numbering 0 ls (omega arith)) in
    record {
      trees = t.0;
      right = t.1;
      flat_is = t.2;
      read = ap sequence (sym (view_whole ls h) ∙ ap (view (one_master ls)) t.2) ∙ sequence_view (one_master ls) t.0 t.1;
    }

-- ## Without marks

mark_unmarked : (marks : ℕ → ℕ) → ((n : ℕ) → marks n ≡ untouched_mark) → (o : Origin) → mark_for marks o ≡ mark_for no_marks o
mark_unmarked marks h (master n) = h n
mark_unmarked marks h (program e b t) = refl

pub paint_unmarked : (look : Lookup) (marks : ℕ → ℕ) → ((n : ℕ) → marks n ≡ untouched_mark) → (f : Trees) → paint look marks f ≡ paint look no_marks f
paint_unmarked look marks h nil = refl
paint_unmarked look marks h (txt o r) = rw (mark_unmarked marks h o, paint_unmarked look marks h r)
paint_unmarked look marks h (elm o k r) = rw (mark_unmarked marks h o, paint_unmarked look marks h k, paint_unmarked look marks h r)

-- ## What is said of a number is what stands at its place

gathered_before : (k m : ℕ) (ls : List Line) (rs : List Standing) → m < k → gathered m (whole (numbered_from k ls)) rs ≡ untouched
unfolding gathered whole numbered_from is_from
gathered_before k m [] rs h = refl
gathered_before k m (l ∷ ls) rs h = rw (ne_eqb m k (λ e. omega arith), gathered_before (suc k) m ls (rest_of rs) (omega arith)) (unit_left untouched)

gathered_from : (k : ℕ) (ls : List Line) (rs : List Standing) (i : ℕ) → i < length ls → gathered (k + i) (whole (numbered_from k ls)) rs ≡ standing_at rs i
unfolding gathered whole numbered_from is_from standing_at
gathered_from k [] rs i h = absurd (omega arith)
gathered_from k (l ∷ ls) rs zero h =
    rw (eq-eqb (k + 0) k (omega arith), gathered_before (suc k) (k + 0) ls (rest_of rs) (omega arith)) (unit_right (first_of rs))
gathered_from k (l ∷ ls) rs (suc i) h =
    rw (ne_eqb (k + suc i) k (λ e. omega arith))
    (unit_left (gathered (k + suc i) (whole (numbered_from (suc k) ls)) (rest_of rs))
    ∙ ap (λ (n : ℕ). gathered n (whole (numbered_from (suc k) ls)) (rest_of rs)) (let e : k + suc i ≡ suc k + i = omega arith in e)
    ∙ gathered_from (suc k) ls (rest_of rs) i (omega arith))

gathered_past : (k m : ℕ) (ls : List Line) (rs : List Standing) → k + length ls ≤ m → gathered m (whole (numbered_from k ls)) rs ≡ untouched
unfolding gathered whole numbered_from is_from
gathered_past k m [] rs h = refl
gathered_past k m (l ∷ ls) rs h = rw (ne_eqb m k (λ e. omega arith), gathered_past (suc k) m ls (rest_of rs) (omega arith)) (unit_left untouched)

pub gathered_whole : (ls : List Line) (rs : List Standing) (n : ℕ) → n < length ls → gathered n (whole (numbered_from 0 ls)) rs ≡ standing_at rs n
gathered_whole ls rs n h = ap (λ (m : ℕ). gathered m (whole (numbered_from 0 ls)) rs) (let e : n ≡ 0 + n = omega arith in e) ∙ gathered_from 0 ls rs n h

pub gathered_outside : (ls : List Line) (rs : List Standing) (n : ℕ) → length ls ≤ n → gathered n (whole (numbered_from 0 ls)) rs ≡ untouched
gathered_outside ls rs n h = gathered_past 0 n ls rs (omega arith)
