-- Demand 3 over the rules, for any ground whose numbers are covered and rising.
use Rattle.std.specs.Prelude.{◌≡◌, refl, Bool, true, false, not, List, [], ◌∷◌, ◌↔◌, ◌⊎◌, ℕ, zero, suc, ◌<◌, eqb, None, Some}
use Rattle.std.proofs.Math.Path.{sym, ap}
use Rattle.std.proofs.Common.{◌∙◌, inl, inr, arith, eqb-true}
use Rattle.std.proofs.lemmas.Bool.{not-false}
use Rattle.lines.specs.Nodes.{Line, is_element, changed_mark, line_at}
use Rattle.lines.specs.Views.{mark_counted}
use Rattle.values.specs.Values.{Origin, master, program, Value, Lookup, bytes_of, is_from, among}
use Rattle.values.specs.Standings.{Standing, untouched, is_untouched, is_clash, ◌⋓◌, gathered, says, brings, is_edit, hands_back}
use Rattle.values.proofs.Theorems.MergeLaws.{unit_left, unit_right}
use Rattle.values.specs.Theorems.Copies.{is_copy, standing_at}
use Rattle.values.proofs.Theorems.Copies.{Silent, Speaks, silent_or_speaks}
use Rattle.values.proofs.Theorems.Edits.{edit_speaks, FromLine, brings_from_line, untouched_from_line, is_changed}
use Rattle.values.proofs.Theorems.Edits.{brings_unchanged, hands_back_head, hands_back_text, hands_back_lock, hands_back_formed}
use Rattle.runs.specs.Results.{gives}
use Rattle.runs.specs.Programs.{Transformation}
use Rattle.runs.specs.Showing.{Shown}
use Rattle.runs.specs.PuttingBack.{untouched_slots, value_of}
use Rattle.runs.specs.Grounds.{line_of, lookup_in, Ground, showing, brought, standing, standing_for, first_clash, handed_back, after}
use Rattle.runs.proofs.Theorems.Conservation.{lock, slots_untouched, law}
use Rattle.runs.proofs.Theorems.Stability.{stable}
use Rattle.runs.proofs.Theorems.Acceptance.{Agreed, no_clash_agreed, agreed_edit, silent_lock, agreed_no_clash}
use Rattle.runs.specs.Theorems.Grounded.{has_line, Covered, Rising, absent_gathered, absent_slots, line_of_handed_back, fine_no_clash, no_clash_fine, fault_least}

-- ## What the demand speaks of: a ground, a program, what it shows, and the lines of a view of it

-- what line i brings for node n
abbrev pub edit_at : Ground → List Line → ℕ → ℕ → Standing
edit_at G ls n i = brings (line_of G.lines n).text (line_at ls i).mark (line_at ls i).text

-- line i is one of node n, and edited
abbrev pub Edited : Ground → Shown → List Line → ℕ → ℕ → Type 0
Edited G o ls n i = (is_copy n o.value i ≡ true) × (is_edit (line_of G.lines n).text (line_at ls i).mark (line_at ls i).text ≡ true)

-- all edited lines of node n carry the same edit, and if there is one, its text was not compared
pub record Criterion (G : Ground) (o : Shown) (ls : List Line) (n : ℕ) : Type 0 where
  pub alike : (i j : ℕ) → Edited G o ls n i → Edited G o ls n j → edit_at G ls n i ≡ edit_at G ls n j
  pub uncompared : (i : ℕ) → Edited G o ls n i → among n o.compared ≡ false

-- no node's standing is clash
abbrev pub Accepted : Ground → Transformation → List Line → Type 0
Accepted G X ls = first_clash (standing_for G X ls) G.lines ≡ None

-- "Mark 01 stands only on a text": of the lines of an element
abbrev pub TextMarks : Ground → Shown → List Line → Type 0
TextMarks G o ls = (n i : ℕ) → is_element (line_of G.lines n).kind ≡ true → is_copy n o.value i ≡ true → eqb (line_at ls i).mark changed_mark ≡ false

-- a view's line of a node: formed by a rule, of the node's kind, and with its bytes unless marked 01
pub record FormedLike (rule : ℕ → ℕ → List ℕ → Bool) (w l : Line) : Type 0 where
  pub formed : rule w.kind w.mark w.text ≡ true
  pub kind : w.kind ≡ l.kind
  pub text : eqb w.mark changed_mark ≡ false → w.text ≡ l.text

pub record Demand3 (G : Ground) (X : Transformation) (o : Shown) (ls : List Line) : Type 0 where
  -- accepted exactly if every node meets the criterion
  pub accepts : Accepted G X ls ↔ ((n : ℕ) → Criterion G o ls n)
  -- then each node has the edit of its lines,
  pub edited : Accepted G X ls → (n i : ℕ) → Edited G o ls n i
      → line_of (handed_back (standing_for G X ls) G.lines) n ≡ hands_back (line_of G.lines n) (edit_at G ls n i)
  -- every other node is unchanged,
  pub others : Accepted G X ls → (n : ℕ) → ((i : ℕ) → Edited G o ls n i → ⊥) → line_of (handed_back (standing_for G X ls) G.lines) n ≡ line_of G.lines n
  -- and showing again gives the same value and the same numbers compared
  pub again : Accepted G X ls → TextMarks G o ls → showing (after G (standing_for G X ls)) X ≡ gives o
  -- otherwise the clash stands at the least number that fails
  pub refused : (n : ℕ) → first_clash (standing_for G X ls) G.lines ≡ Some n → (Criterion G o ls n → ⊥) × ((m : ℕ) → m < n → Criterion G o ls m)

-- ## Standings, by the law

-- the standing of any number: what the view's lines say of it, and a lock if it was compared
pub standing_is : (G : Ground) (X : Transformation) (o : Shown) → showing G X ≡ gives o → (ss : List Standing) (n : ℕ)
    → standing G X ss n ≡ gathered n o.value ss ⋓ lock n o.compared
unfolding showing standing
standing_is G X o h ss n =
    law (lookup_in G.lines) n X G.outer G.given o h ss (untouched_slots G.outer)
    ∙ rw (slots_untouched n G.outer, unit_right (gathered n o.value ss))

-- ## What the lines of a view bring

from_bytes : (look : Lookup) (n : ℕ) (o : Origin) → is_from n o ≡ true → bytes_of look o ≡ look.bytes n
unfolding is_from bytes_of
from_bytes look n (master m) h = ap (λ (k : ℕ). look.bytes k) (sym (eqb-true n m h))
from_bytes look n (program e b t) h = cc

nothing_at : (i : ℕ) → standing_at [] i ≡ untouched
unfolding standing_at
nothing_at zero = refl
nothing_at (suc i) = nothing_at i

-- a line of node n is read beside that node's bytes
pub brought_at : (look : Lookup) (v : Value) (ls : List Line) (n i : ℕ) → is_copy n v i ≡ true
    → standing_at (brought look v ls) i ≡ brings (look.bytes n) (line_at ls i).mark (line_at ls i).text
unfolding brought standing_at is_copy brings says mark_counted
brought_at look [] ls n i h = cc
brought_at look (x ∷ v) [] n i h = nothing_at i
brought_at look (x ∷ v) (l ∷ ls) n zero h = ap (λ (f : List ℕ). brings f l.mark l.text) (from_bytes look n x.origin h)
brought_at look (x ∷ v) (l ∷ ls) n (suc i) h = brought_at look v ls n i h

pub brought_from_line : (look : Lookup) (v : Value) (ls : List Line) (i : ℕ) → FromLine (standing_at (brought look v ls) i)
unfolding brought standing_at
brought_from_line look [] ls i = rw (nothing_at i) untouched_from_line
brought_from_line look (x ∷ v) [] i = rw (nothing_at i) untouched_from_line
brought_from_line look (x ∷ v) (l ∷ ls) zero = brings_from_line (bytes_of look x.origin) l.mark l.text
brought_from_line look (x ∷ v) (l ∷ ls) (suc i) = brought_from_line look v ls i

-- ## The demand

module _ (G : Ground) (X : Transformation) (o : Shown) (shows : showing G X ≡ gives o) (ls : List Line) where
  abbrev look : Lookup
  look = lookup_in G.lines

  abbrev ups : List Standing
  ups = brought (lookup_in G.lines) o.value ls

  abbrev s : ℕ → Standing
  s = standing_for G X ls

  pub standing_for_is : (n : ℕ) → standing_for G X ls n ≡ gathered n o.value (brought (lookup_in G.lines) o.value ls) ⋓ lock n o.compared
  unfolding standing_for value_of
  standing_for_is n = rw shows (standing_is G X o shows ups n)

  -- a line speaks exactly if it is edited
  speaks_edited : (n i : ℕ) → Speaks n o.value ups i → Edited G o ls n i
  speaks_edited n i p =
      (p.0, not-false _ (sym (edit_speaks (look.bytes n) (line_at ls i).mark (line_at ls i).text) ∙ ap is_untouched (sym (brought_at look o.value ls n i p.0)) ∙ p.1))

  edited_speaks : (n i : ℕ) → Edited G o ls n i → Speaks n o.value ups i
  edited_speaks n i p =
      (p.0, ap is_untouched (brought_at look o.value ls n i p.0) ∙ edit_speaks (look.bytes n) (line_at ls i).mark (line_at ls i).text ∙ ap not p.1)

  agreed_criterion : (n : ℕ) → Agreed n o.value ups o.compared → Criterion G o ls n
  agreed_criterion n k =
      record {
        alike = λ i j p q. sym (brought_at look o.value ls n i p.0) ∙ k.alike i j (edited_speaks n i p) (edited_speaks n j q) ∙ brought_at look o.value ls n j q.0;
        uncompared = λ i p. k.uncompared i (edited_speaks n i p);
      }

  criterion_agreed : (n : ℕ) → Criterion G o ls n → Agreed n o.value ups o.compared
  criterion_agreed n k =
      record {
        alike = λ i j p q. brought_at look o.value ls n i p.0 ∙ k.alike i j (speaks_edited n i p) (speaks_edited n j q) ∙ sym (brought_at look o.value ls n j q.0);
        uncompared = λ i p. k.uncompared i (speaks_edited n i p);
      }

  -- of one number: no clash exactly if the criterion holds
  no_clash_criterion : (n : ℕ) → is_clash (s n) ≡ false → Criterion G o ls n
  no_clash_criterion n h =
      agreed_criterion n (no_clash_agreed n o.value ups o.compared (brought_from_line look o.value ls) (ap is_clash (sym (standing_for_is n)) ∙ h))

  criterion_no_clash : (n : ℕ) → Criterion G o ls n → is_clash (s n) ≡ false
  criterion_no_clash n k =
      ap is_clash (standing_for_is n) ∙ agreed_no_clash n o.value ups o.compared (brought_from_line look o.value ls) (criterion_agreed n k)

  -- by whether some line of the node is edited
  pub by_edited : (n : ℕ) (C : Type 0) → (Silent n o.value (brought (lookup_in G.lines) o.value ls) → C) → ((i : ℕ) → Edited G o ls n i → C) → C
  by_edited n C quiet loud = go (silent_or_speaks n o.value ups)
    where
      go : Silent n o.value ups ⊎ ((i : ℕ) × Speaks n o.value ups i) → C
      go (inl h) = quiet h
      go (inr (i, p)) = loud i (speaks_edited n i p)

  module _ (covered : Covered G) where
    uncovered : (n : ℕ) → has_line n G.lines ≡ false → s n ≡ untouched
    unfolding standing_for standing
    uncovered n h = let c = covered n h in rw (absent_gathered n G.given _ c.0, absent_slots n G.outer _ c.1) (unit_left untouched)

    accepted_criterion : Accepted G X ls → (n : ℕ) → Criterion G o ls n
    accepted_criterion h n = no_clash_criterion n (fine_no_clash s G.lines h n (uncovered n))

    line_after : (n : ℕ) → line_of (handed_back s G.lines) n ≡ hands_back (line_of G.lines n) (s n)
    line_after n = line_of_handed_back s G.lines n (uncovered n)

    edited_after : Accepted G X ls → (n i : ℕ) → Edited G o ls n i → line_of (handed_back s G.lines) n ≡ hands_back (line_of G.lines n) (edit_at G ls n i)
    edited_after h n i p =
        line_after n
        ∙ ap (hands_back (line_of G.lines n))
        (standing_for_is n ∙ agreed_edit n o.value ups o.compared (brought_from_line look o.value ls) (criterion_agreed n (accepted_criterion h n)) i (edited_speaks n i p)
        ∙ brought_at look o.value ls n i p.0)

    silent_after : (n : ℕ) → Silent n o.value ups → line_of (handed_back s G.lines) n ≡ line_of G.lines n
    silent_after n h =
        line_after n ∙ ap (hands_back (line_of G.lines n)) (standing_for_is n ∙ silent_lock n o.value ups o.compared (brought_from_line look o.value ls) h)
        ∙ hands_back_lock (line_of G.lines n) (among n o.compared)

    abbrev after_look : Lookup
    after_look = lookup_in (handed_back (standing_for G X ls) G.lines)

    -- a text is kept if every edit of it keeps it
    text_kept : Accepted G X ls → (n : ℕ) → ((i : ℕ) → Edited G o ls n i → is_changed (edit_at G ls n i) ≡ false) → look.bytes n ≡ after_look.bytes n
    text_kept h n k =
        by_edited n (look.bytes n ≡ after_look.bytes n) (λ q. ap (λ (l : Line). l.text) (sym (silent_after n q)))
        (λ i p. sym (ap (λ (l : Line). l.text) (edited_after h n i p) ∙ hands_back_text (line_of G.lines n) (edit_at G ls n i) (k i p)))

    shown_again : Accepted G X ls → TextMarks G o ls → showing (after G s) X ≡ gives o
    unfolding showing
    shown_again h texts =
        stable look after_look
        (λ n. ap (λ (k : ℕ). is_element k) (sym (hands_back_head (line_of G.lines n) (s n)).1 ∙ sym (ap (λ (l : Line). l.kind) (line_after n))))
        (λ n e. text_kept h n (λ i p. brings_unchanged (look.bytes n) (line_at ls i).mark (line_at ls i).text (texts n i e p.0)))
        X G.outer G.given o shows
        (λ n c. text_kept h n (λ i p. let u = (accepted_criterion h n).uncompared i p in cc))

    -- lines that keep a rule of their form, master's and view's, come back so
    pub formed_after : (rule : ℕ → ℕ → List ℕ → Bool) → Accepted G X ls → (n : ℕ)
        → rule (line_of G.lines n).kind (line_of G.lines n).mark (line_of G.lines n).text ≡ true
        → ((i : ℕ) → is_copy n o.value i ≡ true → FormedLike rule (line_at ls i) (line_of G.lines n))
        → let r = line_of (handed_back (standing_for G X ls) G.lines) n in rule r.kind r.mark r.text ≡ true
    formed_after rule h n f g =
        by_edited n _ (λ q. rw (silent_after n q) f)
        (λ i p. let w = g i p.0 in rw (edited_after h n i p) (hands_back_formed rule (line_of G.lines n) (line_at ls i) f w.formed w.kind w.text))

    pub demand3 : Rising 0 G.lines → Demand3 G X o ls
    demand3 rising =
        record {
          accepts = (accepted_criterion, λ k. no_clash_fine s G.lines (λ n. criterion_no_clash n (k n)));
          edited = edited_after;
          others = λ h n none. by_edited n _ (silent_after n) (λ i p. absurd (none i p));
          again = shown_again;
          refused = λ n h.
              let least = fault_least s 0 G.lines rising n h in
              ((λ k. let p = criterion_no_clash n k in let q = least.0 in let z : ◌≡◌ {A = ℕ} 0 1 = cc in omega arith), λ m l. no_clash_criterion m (least.1 m l (uncovered m)));
        }
