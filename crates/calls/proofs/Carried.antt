-- The standings of the view's lines as words, and what the master's standings at the end come to: reply 11, or the lines handed back.
use mathlib.Core.Path.{◌≡◌, refl, sym, ap, ap₂, subst, ◌∙◌}
use Rattle.std.specs.Prelude.{None, Some}
use mathlib.Core.Bool.{Bool, true, false, cond}
use mathlib.Core.List.{List, [], ◌∷◌, map}
use Prim.Native.Nat.{ℕ, zero, suc, ◌+◌, ◌-◌, ◌<◌}
use native.Mathlib.Nat.{not-suc-le-zero, zero-add}
use native.Mathlib.Omega.{arith}
use lib.Dec.{eqb}
use lib.ListN.{length, get_or}
use borrow.Author.Tests.{eq-eqb, ne_eqb}
use Rattle.lines.specs.Texts.{same_text}
use Rattle.lines.specs.Nodes.{Line, changed_mark, deleted_mark, no_line}
use Rattle.lines.specs.Verdicts.{reply, first_from}
use Rattle.lines.specs.Views.{mark_counted, counted_line, counted_lines}
use Rattle.lines.proofs.Theorems.CountedMarks.{counted_length, counted_text}
use Rattle.lines.specs.Theorems.SameTexts.{same_text_sound, same_text_refl}
use Rattle.values.specs.Values.{Value, is_from}
use Rattle.values.specs.Standings.{Standing, untouched, changed, deleted, is_clash, first_of, rest_of, gathered, says, brings, hands_back}
use Rattle.values.specs.Engine.Words.{standing_of, Named, AllNamed}
use Rattle.values.proofs.Theorems.MergeLaws.{unit_left, unit_right}
use Rattle.values.specs.Theorems.Copies.{standing_at}
use Rattle.runs.specs.Results.{gives, stops}
use Rattle.runs.specs.Programs.{Transformation}
use Rattle.runs.specs.Showing.{Shown}
use Rattle.runs.specs.PuttingBack.{Back, put_back, untouched_slots, gathered_slots, value_of}
use Rattle.runs.specs.Grounds.{numbered_from, lines_in, lookup_in, whole, Ground, one_master, showing, shown_line, view, brought, standing, standing_for}
use Rattle.runs.specs.Grounds.{first_clash, handed_back}
use Rattle.runs.specs.Theorems.CountedViews.{shown_text}
use Rattle.calls.specs.Judging.{keeps, judged_standings}
use Rattle.calls.specs.Engine.Parts.{texts_of, handed_over, first_with, brought_word, brought_words}

-- ## The first line with a text

-- a line that has the text, at place m
record Found (text : List ℕ) (k : ℕ) (ls : List Line) : Type 0 where
  place : ℕ
  there : first_with text k ls ≡ k + place
  same : (get_or ls place no_line).text ≡ text

with_found : (text : List ℕ) (k : ℕ) (ls : List Line) (i : ℕ) → i < length ls → (get_or ls i no_line).text ≡ text → Found text k ls
unfolding first_with
with_found text k [] i h e = absurd (not-suc-le-zero h)
with_found text k (l ∷ ls) i h e = go (same_text l.text text) refl i h e (with_found text (suc k) ls)
  where
    found : (b : Bool) → same_text l.text text ≡ b → (place : ℕ) → cond b k (first_with text (suc k) ls) ≡ k + place
        → (get_or (l ∷ ls) place no_line).text ≡ text → Found text k (l ∷ ls)
    found b p place there same = record { place = place; there = rw p there; same = same }

    go : (b : Bool) → same_text l.text text ≡ b → (i : ℕ) → i < suc (length ls) → (get_or (l ∷ ls) i no_line).text ≡ text
        → ((i : ℕ) → i < length ls → (get_or ls i no_line).text ≡ text → Found text (suc k) ls) → Found text k (l ∷ ls)
    go true p i h e ih = found true p 0 (omega arith) (same_text_sound l.text text p)
    go false p zero h e ih =
        let both : true ≡ false = sym (same_text_refl text) ∙ (ap (λ (t : List ℕ). same_text t text) (sym e) ∙ p) in
        absurd (let z : ◌≡◌ {A = ℕ} 0 1 = cc in omega arith)
    go false p (suc i) h e ih = let r = ih i (omega arith) e in found false p (suc r.place) (omega (arith, r.there)) r.same

-- no line before it has the text
with_before : (text : List ℕ) (k : ℕ) (ls : List Line) (m : ℕ) → k + m < first_with text k ls → same_text (get_or ls m no_line).text text ≡ false
unfolding first_with
with_before text k [] m h = absurd (omega arith)
with_before text k (l ∷ ls) m h = go (same_text l.text text) refl m h (with_before text (suc k) ls)
  where
    go : (b : Bool) → same_text l.text text ≡ b → (m : ℕ) → k + m < cond b k (first_with text (suc k) ls)
        → ((m : ℕ) → suc k + m < first_with text (suc k) ls → same_text (get_or ls m no_line).text text ≡ false) → same_text (get_or (l ∷ ls) m no_line).text text ≡ false
    go true p m h ih = absurd (omega arith)
    go false p zero h ih = p
    go false p (suc m) h ih = ih m (omega arith)

-- ## What the view's lines bring

module _ (texts : ℕ → List ℕ) where
  changed_word : (j : ℕ) → standing_of texts (4 + j) ≡ changed (texts j)
  unfolding standing_of
  changed_word j =
      rw (ne_eqb (4 + j) 0 (λ e. omega arith), ne_eqb (4 + j) 1 (λ e. omega arith), ne_eqb (4 + j) 2 (λ e. omega arith), ne_eqb (4 + j) 3 (λ e. omega arith))
      (ap (λ (k : ℕ). changed (texts k)) (let e : 4 + j - 4 ≡ j = omega arith in e))

  deleted_word : standing_of texts 2 ≡ deleted
  unfolding standing_of
  deleted_word = refl

  untouched_word : standing_of texts 0 ≡ untouched
  unfolding standing_of
  untouched_word = refl

module _ (es : List Line) where
  -- the word of the line names its text
  abbrev Names : Line → Type 0
  Names l = texts_of es (first_with l.text 0 es) ≡ l.text

  names_own : (i : ℕ) → i < length es → Names (get_or es i no_line)
  names_own i h = let r = with_found (get_or es i no_line).text 0 es i h refl in ap (texts_of es) (r.there ∙ zero-add r.place) ∙ r.same

  abbrev AllNames : List Line → Type 0
  AllNames ls = (i : ℕ) → i < length ls → Names (get_or ls i no_line)

  rest_names : (l : Line) (ls : List Line) → AllNames (l ∷ ls) → AllNames ls
  rest_names l ls has i h = has (suc i) (omega arith)

  named_word : (l : Line) → Names l → Named (texts_of es) (brought_word es l)
  unfolding Named brought_word
  named_word l has = go (eqb l.mark changed_mark) (eqb l.mark deleted_mark)
    where
      go : (a b : Bool) (i : ℕ) → 4 + i < cond a (4 + first_with l.text 0 es) (cond b 2 0)
          → same_text (texts_of es i) (texts_of es (cond a (4 + first_with l.text 0 es) (cond b 2 0) - 4)) ≡ false
      go true b i h =
          let e : 4 + first_with l.text 0 es - 4 ≡ first_with l.text 0 es = omega arith in
          ap (same_text (texts_of es i)) (ap (texts_of es) e ∙ has) ∙ with_before l.text 0 es i (omega arith)
      go false true i h = absurd (omega arith)
      go false false i h = absurd (omega arith)

  all_named : (ls : List Line) → AllNames ls → AllNamed (texts_of es) (map (brought_word es) ls)
  all_named [] has = tt
  all_named (l ∷ ls) has = (named_word l (has 0 (omega arith)), all_named ls (rest_names l ls has))

  -- with the marks that count the texts are the same
  counted_names : (fs : List Line) → AllNames (counted_lines fs es)
  counted_names fs i h =
      subst (λ (t : List ℕ). texts_of es (first_with t 0 es) ≡ t) (sym (counted_text fs es i)) (names_own i (omega (arith, counted_length fs es)))

  pub brought_named : (fs : List Line) → AllNamed (texts_of es) (brought_words fs es)
  brought_named fs = all_named (counted_lines fs es) (counted_names fs)

  -- the word of a line stands for what its mark says
  standing_word : (l : Line) → Names l → standing_of (texts_of es) (brought_word es l) ≡ says l.mark l.text
  unfolding brought_word says
  standing_word l has = go (eqb l.mark changed_mark) (eqb l.mark deleted_mark)
    where
      go : (a b : Bool) → standing_of (texts_of es) (cond a (4 + first_with l.text 0 es) (cond b 2 0)) ≡ cond a (changed l.text) (cond b deleted untouched)
      go true b = changed_word (texts_of es) (first_with l.text 0 es) ∙ ap changed has
      go false true = deleted_word (texts_of es)
      go false false = untouched_word (texts_of es)

  standings_from : (G : Ground) (v : Value) (ls : List Line) → length v ≡ length ls → AllNames (counted_lines (view G v) ls)
      → map (standing_of (texts_of es)) (map (brought_word es) (counted_lines (view G v) ls)) ≡ brought (lookup_in G.lines) v ls
  unfolding brought brings view counted_lines
  standings_from G [] [] e has = refl
  standings_from G [] (l ∷ ls) e has = absurd (omega arith)
  standings_from G (x ∷ v) [] e has = absurd (omega arith)
  standings_from G (x ∷ v) (l ∷ ls) e has =
      let f = shown_line G.lines x.depth x.origin in
      ap₂ (λ (s : Standing) (ss : List Standing). s ∷ ss)
      (standing_word (counted_line f l) (has 0 (omega arith))
      ∙ ap (λ (t : List ℕ). says (mark_counted t l.mark l.text) l.text) (shown_text G.lines x.depth x.origin))
      (standings_from G v ls (omega arith) (rest_names (counted_line f l) (counted_lines (view G v) ls) has))

  pub brought_standings : (G : Ground) (v : Value) → length v ≡ length es → map (standing_of (texts_of es)) (brought_words (view G v) es) ≡ brought (lookup_in G.lines) v es
  brought_standings G v e = standings_from G v es e (counted_names (view G v))

-- ## Standings beside the master's lines: `s` says of each number what stands at its place

abbrev pub AtPlaces : (ℕ → Standing) → ℕ → List Line → List Standing → Type 0
AtPlaces s n ls ss = (k : ℕ) → k < length ls → s (n + k) ≡ standing_at ss k

module _ (s : ℕ → Standing) where
  first_place : (n : ℕ) (l : Line) (ls : List Line) (ss : List Standing) → AtPlaces s n (l ∷ ls) ss → s n ≡ first_of ss
  unfolding standing_at
  first_place n l ls ss p = ap s (let e : n ≡ n + 0 = omega arith in e) ∙ p 0 (omega arith)

  rest_places : (n : ℕ) (l : Line) (ls : List Line) (ss : List Standing) → AtPlaces s n (l ∷ ls) ss → AtPlaces s (suc n) ls (rest_of ss)
  unfolding standing_at
  rest_places n l ls ss p k h = ap s (let e : suc n + k ≡ n + suc k = omega arith in e) ∙ p (suc k) (omega arith)

  clash_from : (n : ℕ) (ls : List Line) (ss : List Standing) → length ss ≡ length ls → AtPlaces s n ls ss → first_from is_clash n ss ≡ first_clash s (numbered_from n ls)
  unfolding first_from first_clash numbered_from
  clash_from n [] [] e p = refl
  clash_from n [] (x ∷ ss) e p = absurd (omega arith)
  clash_from n (l ∷ ls) [] e p = absurd (omega arith)
  clash_from n (l ∷ ls) (x ∷ ss) e p = rw (first_place n l ls (x ∷ ss) p, clash_from (suc n) ls ss (omega arith) (rest_places n l ls (x ∷ ss) p))

  lines_from : (n : ℕ) (ls : List Line) (ss : List Standing) → AtPlaces s n ls ss → handed_over ls ss ≡ lines_in (handed_back s (numbered_from n ls))
  unfolding handed_over lines_in handed_back numbered_from
  lines_from n [] ss p = refl
  lines_from n (l ∷ ls) ss p =
      ap₂ (λ (a : Line) (r : List Line). a ∷ r) (ap (hands_back l) (sym (first_place n l ls ss p))) (lines_from (suc n) ls (rest_of ss) (rest_places n l ls ss p))

  module _ (L : List Line) (ss : List Standing) (places : (k : ℕ) → k < length L → s k ≡ standing_at ss k) where
    from_zero : AtPlaces s 0 L ss
    from_zero k h = ap s (zero-add k) ∙ places k h

    pub clash_is : length ss ≡ length L → first_from is_clash 0 ss ≡ first_clash s (numbered_from 0 L)
    clash_is e = clash_from 0 L ss e from_zero

    pub lines_are : handed_over L ss ≡ lines_in (handed_back s (numbered_from 0 L))
    lines_are = lines_from 0 L ss from_zero

-- ## What is gathered for a number: it stands once in the whole master, at its place

gathered_below : (n m : ℕ) (ls : List Line) (rs : List Standing) → m < n → gathered m (whole (numbered_from n ls)) rs ≡ untouched
unfolding gathered whole numbered_from is_from
gathered_below n m [] rs h = refl
gathered_below n m (l ∷ ls) rs h = rw (ne_eqb m n (λ e. omega arith), gathered_below (suc n) m ls (rest_of rs) (omega arith)) (unit_left untouched)

gathered_from : (n k : ℕ) (ls : List Line) (rs : List Standing) → k < length ls → gathered (n + k) (whole (numbered_from n ls)) rs ≡ standing_at rs k
unfolding gathered whole numbered_from is_from standing_at
gathered_from n k [] rs h = absurd (not-suc-le-zero h)
gathered_from n zero (l ∷ ls) rs h = rw (eq-eqb (n + 0) n (omega arith), gathered_below (suc n) (n + 0) ls (rest_of rs) (omega arith)) (unit_right (first_of rs))
gathered_from n (suc k) (l ∷ ls) rs h =
    rw (ne_eqb (n + suc k) n (λ e. omega arith))
    (unit_left (gathered (n + suc k) (whole (numbered_from (suc n) ls)) (rest_of rs))
    ∙ (ap (λ (m : ℕ). gathered m (whole (numbered_from (suc n) ls)) (rest_of rs)) (let e : n + suc k ≡ suc n + k = omega arith in e)
    ∙ gathered_from (suc n) k ls (rest_of rs) (omega arith)))

pub node_gathered : (L : List Line) (rs : List Standing) (k : ℕ) → k < length L → gathered k (whole (numbered_from 0 L)) rs ≡ standing_at rs k
node_gathered L rs k h = ap (λ (m : ℕ). gathered m (whole (numbered_from 0 L)) rs) (sym (zero-add k)) ∙ gathered_from 0 k L rs h

module _ (L : List Line) (X : Transformation) where
  -- one master's own put-back: there are no slots outside the program
  abbrev pub put_back_whole : List Standing → Back
  put_back_whole ss = put_back (lookup_in (numbered_from 0 L)) X [] (whole (numbered_from 0 L)) ss []

  pub node_standing : (ss : List Standing) (k : ℕ) → k < length L → standing (one_master L) X ss k ≡ standing_at (put_back_whole ss).in_source k
  unfolding standing untouched_slots gathered_slots
  node_standing ss k h = unit_right (gathered k (whole (numbered_from 0 L)) (put_back_whole ss).in_source) ∙ node_gathered L (put_back_whole ss).in_source k h

  module _ (es : List Line) (o : Shown) (shows : showing (one_master L) X ≡ gives o) where
    -- what the view's lines bring
    abbrev pub brought_in : List Standing
    brought_in = brought (lookup_in (numbered_from 0 L)) o.value es

    pub node_standing_for : (k : ℕ) → k < length L → standing_for (one_master L) X es k ≡ standing_at (put_back_whole brought_in).in_source k
    unfolding standing_for value_of
    node_standing_for k h = rw shows (node_standing brought_in k h)

    -- ## The end: standings at the nodes as putting back hands them back

    module _ (ss : List Standing) (handed : ss ≡ (put_back_whole brought_in).in_source) (long : length ss ≡ length L) where
      places : (k : ℕ) → k < length L → standing_for (one_master L) X es k ≡ standing_at ss k
      places k h = node_standing_for k h ∙ ap (λ (rs : List Standing). standing_at rs k) (sym handed)

      clash_said : first_from is_clash 0 ss ≡ first_clash (standing_for (one_master L) X es) (numbered_from 0 L)
      clash_said = clash_is (standing_for (one_master L) X es) L ss places long

      pub carried_clashes : (k : ℕ) → first_from is_clash 0 ss ≡ Some k → judged_standings (one_master L) X es ≡ stops (reply 11 k)
      unfolding judged_standings keeps
      carried_clashes k e = rw (sym clash_said ∙ e)

      pub carried_goes : first_from is_clash 0 ss ≡ None → judged_standings (one_master L) X es ≡ gives (handed_over L ss)
      unfolding judged_standings keeps
      carried_goes e = rw (sym clash_said ∙ e) (ap gives (sym (lines_are (standing_for (one_master L) X es) L ss places)))
