-- What a combinator leaves, by what the runs below it leave: one law a return.
use mathlib.Core.Path.{◌≡◌, refl, sym, ◌∙◌, ap, ap₂, subst}
use mathlib.Core.Bool.{Bool, true, false, cond}
use mathlib.Core.List.{List, [], ◌∷◌, ◌++◌, append-nil}
use Prim.Native.Nat.{ℕ, ◌+◌, ◌-◌, ◌≤◌, ◌<◌}
use native.Mathlib.Nat.{zero-add}
use native.Mathlib.Omega.{arith}
use lib.ListN.{length, get_or, take}
use lib.Seq.{get_or-take}
use Rattle.std.specs.Prelude.{Result as Answered, Ok, Err, IsErrAnd}
use Rattle.std.proofs.lemmas.Result.{err_from_is_err_and}
use Rattle.lines.specs.Nodes.{Line}
use Rattle.lines.specs.Entries.{Entry, slot_of}
use Rattle.lines.specs.Writing.{put_at}
use Rattle.values.specs.Values.{Value}
use Rattle.values.specs.Engine.Words.{part, value_at}
use Rattle.values.specs.Theorems.Extents.{frame_less}
use Rattle.values.proofs.Theorems.WordLaws.{length_value, value_none, value_join, value_frame}
use Rattle.runs.specs.declared.slots.SlotWords.{SlotWords}
use Rattle.runs.specs.declared.stop.Stop.{Stop}
use Rattle.runs.specs.declared.stop.Stop.TheVariants.{Size}
use Rattle.runs.specs.Results.{Result, gives}
use Rattle.runs.specs.Programs.{Transformation, choose, Test}
use Rattle.runs.specs.Reading.{no_entry}
use Rattle.runs.specs.Showing.{Slots, Shown, in_turn, show, test}
use Rattle.runs.specs.Engine.Trees.{Stands, StandsTest}
use Rattle.runs.specs.Engine.Ends.{branch_at}
use Rattle.runs.specs.Engine.Runs.{Run, made_by, lookup_of, slots_at, Ended, Bound, Ready, Space, Entered, value_only, ShownBy, TestedBy}
use Rattle.runs.specs.Theorems.RunAnswers.{Got, Halted}
use Rattle.runs.specs.Theorems.Combinators.{branch_run}
use Rattle.runs.specs.Theorems.Combinators.{bound as bound-as}
use Rattle.runs.specs.Engine.SlotWords.{one_more}
use Rattle.runs.specs.Engine.Leaves.{Leaves}
use Rattle.runs.proofs.SlotLaws.{slots_frame, bound_higher, more_at}
use Rattle.runs.proofs.Trees.{Here, at_then, at_beside, at_choose, at_bind, branch_stands}
use Rattle.runs.proofs.ShowLeaves.{copied}
use Rattle.runs.proofs.ShowRules.{then_first_stops, then_stops, then_gives, behind}
use Rattle.runs.proofs.ShowRules.{turn_ends, turn_stops, turn_large, turn_goes_on, choose_stops, choose_says}

-- a function without runs below it left what the rules show
pub leaf : {entries : List Entry} {lines : List Line} {w : List ℕ} {slots : SlotWords} {entry start len top : ℕ} {w' : List ℕ} {r : Run} {answer : Result Stop Value}
    → Leaves (made_by entries) w top w' r answer
    → ((X : Transformation) (q : ℕ) → Stands entries X entry q
    → answer ≡ value_only (show (lookup_of lines) X (slots_at (made_by entries) w slots) (value_at (made_by entries) w start len)))
    → ShownBy entries lines w slots entry start len top w' r
leaf l is = record { frame = l.frame; place = l.place; meets = λ X q s. l.meets ∙ is X q s }

-- where a stop is passed on
pub passed : {A : Type 0} {r : Answered A Stop} {s : Stop} → IsErrAnd r (λ e. e ≡ s) → r ≡ Err s
passed {A} {r} i = let p = err_from_is_err_and r i in p.1 ∙ ap Err p.2

-- room for a run one level down
pub space_below : {w w' : List ℕ} {slots : SlotWords} {start len top levels s l t : ℕ} → Space w slots start len top levels → 1 ≤ levels → length w' ≡ length w
    → top ≤ t → t ≤ top + 128 → s + l ≤ t → l ≤ 128 → Space w' slots s l t (levels - 1)
space_below {top = top} {t = t} r some kept up near below short =
    let a = r.enough in
    let b = r.low in
    record { below = below; short = short; enough = omega arith; low = omega arith; bound = bound_higher r.bound t up }

-- what the function of a combinator stands on
pub entered : {entries : List Entry} {ends w : List ℕ} {slots : SlotWords} {entry start len top levels operation : ℕ}
    → Ready entries ends slots entry levels → Space w slots start len top levels → (get_or entries entry no_entry).operation ≡ operation
    → Here entries ends (entry + 1) (levels - 1) → Entered entries ends w slots entry start len top levels operation
entered r s o h = let i = h.inside in let l = h.long in let n = h.some in record { ready = r; space = s; op = o; two = omega arith; next = omega arith }

-- a word below top
pub frame_word : (w w' : List ℕ) (top k : ℕ) → take top w' ≡ take top w → k < top → get_or w' k 0 ≡ get_or w k 0
frame_word w w' top k f h = sym (get_or-take top w' k 0 h) ∙ ap (λ (l : List ℕ). get_or l k 0) f ∙ get_or-take top w k 0 h

-- the second sub-entry stands where the first one's subtree ends
second_stands : (entries : List Entry) {ends : List ℕ} → Ended entries ends → {second : ℕ} (p : ℕ) → second ≡ get_or ends p 0 → (Y Z : Transformation) (m q : ℕ)
    → Stands entries Y p m → Stands entries Z m q → Stands entries Z second q
second_stands entries ended {second} p e Y Z m q s t = subst (λ (k : ℕ). Stands entries Z k q) (sym (e ∙ ended.tree Y p m s)) t

-- while nothing below top has changed, a run on the same source is the same
module _ (entries : List Entry) (lines : List Line) (w w₁ : List ℕ) {slots : SlotWords} {top : ℕ}
    (bound : Bound slots top) (frame : take top w₁ ≡ take top w) (start len : ℕ) (below : start + len ≤ top) where
  pub same_run : (X : Transformation) → show (lookup_of lines) X (slots_at (made_by entries) w slots) (value_at (made_by entries) w start len)
      ≡ show (lookup_of lines) X (slots_at (made_by entries) w₁ slots) (value_at (made_by entries) w₁ start len)
  same_run X = sym (ap₂ (show (lookup_of lines) X) (slots_frame (made_by entries) w w₁ bound frame) (value_frame (made_by entries) w w₁ top start len frame below))

-- ## 08

module _ {entries : List Entry} {lines : List Line} {w : List ℕ} {slots : SlotWords} {start len top : ℕ} (entry : ℕ) (op : (get_or entries entry no_entry).operation ≡ 0x08) where
  pub then_first : {w₁ : List ℕ} {s : Stop} → Halted entries lines w slots (entry + 1) start len top w₁ s → ShownBy entries lines w slots entry start len top w₁ (Err s)
  unfolding show
  then_first {w₁} {s} x =
      record {
        frame = x.frame;
        place = tt;
        meets = λ X q st.
            let f = at_then entries X entry q st op in
            rw f.3 (then_first_stops (show (lookup_of lines) f.0) (show (lookup_of lines) f.1) _ _ s (x.is f.0 f.2 f.4));
      }

  module _ {ends : List ℕ} (ended : Ended entries ends) (bound : Bound slots top) {w₁ : List ℕ} {n : ℕ}
      (x : Got entries lines w slots (entry + 1) start len top w₁ n) {second : ℕ} (e : second ≡ get_or ends (entry + 1) 0) where
    pub then_second : {w₂ : List ℕ} {s : Stop} → Halted entries lines w₁ slots second top n (top + 128) w₂ s → ShownBy entries lines w slots entry start len top w₂ (Err s)
    unfolding show
    then_second {w₂} {s} y =
        record {
          frame = frame_less w₁ w₂ (top + 128) top y.frame (omega arith) ∙ x.frame;
          place = tt;
          meets = λ X q st.
              let f = at_then entries X entry q st op in
              rw f.3 (then_stops (show (lookup_of lines) f.0) (show (lookup_of lines) f.1) _ _ _ (x.is f.0 f.2 f.4) s
              (rw (slots_frame (made_by entries) w w₁ bound x.frame) at (y.is f.1 q (second_stands entries ended (entry + 1) e f.0 f.1 f.2 q f.4 f.5))));
        }

    pub then_done : {w₂ w₃ : List ℕ} {m : ℕ} → Got entries lines w₁ slots second top n (top + 128) w₂ m → w₃ ≡ put_at w₂ top (part w₂ (top + 128) m) → top + 256 ≤ length w₂
        → ShownBy entries lines w slots entry start len top w₃ (Ok (record { start = top; len = m }))
    unfolding show
    then_done {w₂} {w₃} {m} y p room =
        let k = y.small in
        let l = copied (made_by entries) w₂ top (top + 128) m p (omega arith) k (omega arith) in
        record {
          frame = l.frame ∙ frame_less w₁ w₂ (top + 128) top y.frame (omega arith) ∙ x.frame;
          place = (refl, k);
          meets = λ X q st.
              let f = at_then entries X entry q st op in
              l.meets ∙ rw f.3 (then_gives (show (lookup_of lines) f.0) (show (lookup_of lines) f.1) _ _ _ (x.is f.0 f.2 f.4) _
              (rw (slots_frame (made_by entries) w w₁ bound x.frame) at (y.is f.1 q (second_stands entries ended (entry + 1) e f.0 f.1 f.2 q f.4 f.5))));
        }

-- ## 09

-- what stands at top and what was put behind it are one value
pub one_value : (entries : List Entry) (w w' : List ℕ) (top n m : ℕ) → take (top + n) w' ≡ take (top + n) w
    → value_at (made_by entries) w top n ++ value_at (made_by entries) w' (top + n) m ≡ value_at (made_by entries) w' top (n + m)
one_value entries w w' top n m f =
    ap (λ (v : Value). v ++ value_at (made_by entries) w' (top + n) m) (sym (value_frame (made_by entries) w w' (top + n) top n f (omega arith)))
    ∙ sym (value_join (made_by entries) w' top n m)

module _ {entries : List Entry} {lines : List Line} {w : List ℕ} {slots : SlotWords} {start len top : ℕ} (entry : ℕ) (op : (get_or entries entry no_entry).operation ≡ 0x09) where
  pub beside_first : {w₁ : List ℕ} {s : Stop} → Halted entries lines w slots (entry + 1) start len top w₁ s → ShownBy entries lines w slots entry start len top w₁ (Err s)
  unfolding show
  beside_first {w₁} {s} x =
      record {
        frame = x.frame;
        place = tt;
        meets = λ X q st. let f = at_beside entries X entry q st op in rw f.3 (sym (turn_stops entry 0 _ _ s (x.is f.0 f.2 f.4)));
      }

  module _ {ends : List ℕ} (ended : Ended entries ends) (bound : Bound slots top) (below : start + len ≤ top)
      {w₁ : List ℕ} {n : ℕ} (x : Got entries lines w slots (entry + 1) start len top w₁ n)
      (room : top + 128 ≤ length w₁) {second : ℕ} (e : second ≡ get_or ends (entry + 1) 0) where
    abbrev after_first : Transformation → Result Stop Value
    after_first Z =
        behind (value_at (made_by entries) w₁ top n)
        (value_only (in_turn entry n (show (lookup_of lines) Z (slots_at (made_by entries) w₁ slots) (value_at (made_by entries) w₁ start len) ∷ [])))

    -- the first part fits; the second then runs on the same source
    beside_rest : (X : Transformation) (q : ℕ) → Stands entries X entry q
        → (Z : Transformation) × Stands entries Z second q
        × (value_only (show (lookup_of lines) X (slots_at (made_by entries) w slots) (value_at (made_by entries) w start len)) ≡ after_first Z)
    unfolding show
    beside_rest X q st =
        let f = at_beside entries X entry q st op in
        let a = x.is f.0 f.2 f.4 in
        let k = x.small in
        let l = length_value (made_by entries) w₁ top n (omega arith) in (
          f.1,
          second_stands entries ended (entry + 1) e f.0 f.1 f.2 q f.4 f.5,
          ap (λ (A : Transformation). value_only (show (lookup_of lines) A (slots_at (made_by entries) w slots) (value_at (made_by entries) w start len))) f.3
              ∙ (turn_goes_on entry 0 _ _ _ a (omega arith)
              ∙ ap₂ (λ (j : ℕ) (r : Result Stop Shown). behind (value_at (made_by entries) w₁ top n) (value_only (in_turn entry j (r ∷ [])))) (zero-add _ ∙ l)
              (same_run entries lines w w₁ bound x.frame start len below f.1)),
        )

    pub beside_second : {w₂ : List ℕ} {s : Stop} → Halted entries lines w₁ slots second start len (top + n) w₂ s → ShownBy entries lines w slots entry start len top w₂ (Err s)
    beside_second {w₂} {s} y =
        record {
          frame = frame_less w₁ w₂ (top + n) top y.frame (omega arith) ∙ x.frame;
          place = tt;
          meets = λ X q st.
              let r = beside_rest X q st in
              sym (r.2 ∙ ap (behind (value_at (made_by entries) w₁ top n)) (turn_stops entry n _ [] s (y.is r.0 q r.1)));
        }

    module _ {w₂ : List ℕ} {m : ℕ} (y : Got entries lines w₁ slots second start len (top + n) w₂ m) (fits : top + n + m ≤ length w₂) where
      pub beside_large : 128 < n + m → ShownBy entries lines w slots entry start len top w₂ (Err (Size entry))
      beside_large h =
          record {
            frame = frame_less w₁ w₂ (top + n) top y.frame (omega arith) ∙ x.frame;
            place = tt;
            meets = λ X q st.
                let r = beside_rest X q st in
                let l = length_value (made_by entries) w₂ (top + n) m fits in
                sym (r.2 ∙ ap (behind (value_at (made_by entries) w₁ top n)) (turn_large entry n _ [] _ (y.is r.0 q r.1) (omega arith)));
          }

      pub beside_done : n + m ≤ 128 → ShownBy entries lines w slots entry start len top w₂ (Ok (record { start = top; len = n + m }))
      beside_done h =
          record {
            frame = frame_less w₁ w₂ (top + n) top y.frame (omega arith) ∙ x.frame;
            place = (refl, h);
            meets = λ X q st.
                let r = beside_rest X q st in
                let l = length_value (made_by entries) w₂ (top + n) m fits in
                sym (r.2
                ∙ ap (behind (value_at (made_by entries) w₁ top n))
                (turn_goes_on entry n _ [] _ (y.is r.0 q r.1) (omega arith)
                ∙ ap (behind (value_at (made_by entries) w₂ (top + n) m)) (sym (turn_ends entry _)))
                ∙ ap gives (ap (λ (v : Value). value_at (made_by entries) w₁ top n ++ v) (append-nil _) ∙ one_value entries w₁ w₂ top n m y.frame));
          }

-- ## 0B

module _ {entries : List Entry} {lines : List Line} {w : List ℕ} {slots : SlotWords} {start len top : ℕ} (entry : ℕ) (op : (get_or entries entry no_entry).operation ≡ 0x0B) where
  module _ {w₁ : List ℕ} where
    pub choose_stop : {s : Stop} → TestedBy entries lines w slots (entry + 1) start len top w₁ (Err s) → ShownBy entries lines w slots entry start len top w₁ (Err s)
    unfolding show
    choose_stop {s} x =
        record {
          frame = x.frame;
          place = tt;
          meets = λ X q st.
              let f = at_choose entries X entry q st op in
              rw f.5
              (choose_stops (test (lookup_of lines) f.0) (show (lookup_of lines) f.1) (show (lookup_of lines) f.2) _ _ s (x.meets f.0 f.3 f.6));
        }

    module _ {b : Bool} (x : TestedBy entries lines w slots (entry + 1) start len top w₁ (Ok b)) {ends : List ℕ} (ended : Ended entries ends)
        (bound : Bound slots top) (below : start + len ≤ top) where
      -- what the test says decides which run is the entry's
      decided : (X : Transformation) (q : ℕ) (f : (P : Test) × (Y : Transformation) × (Z : Transformation) × (l : ℕ) × (m : ℕ) × (X ≡ choose entry P Y Z)
          × StandsTest entries P (entry + 1) l × Stands entries Y l m × Stands entries Z m q)
          → value_only (branch_run b (show (lookup_of lines) f.1) (show (lookup_of lines) f.2) (slots_at (made_by entries) w slots) (value_at (made_by entries) w start len))
          ≡ value_only (show (lookup_of lines) X (slots_at (made_by entries) w slots) (value_at (made_by entries) w start len))
      unfolding show
      decided X q f =
          rw f.5
          (choose_says (test (lookup_of lines) f.0) (show (lookup_of lines) f.1)
          (show (lookup_of lines) f.2) _ _ b (x.meets f.0 f.3 f.6))

      pub choose_done : {w₂ : List ℕ} {z : Run} → ShownBy entries lines w₁ slots (branch_at ends (entry + 1) b) start len top w₂ z
          → ShownBy entries lines w slots entry start len top w₂ z
      choose_done y =
          record {
            frame = y.frame ∙ x.frame;
            place = y.place;
            meets = λ X q st.
                let f = at_choose entries X entry q st op in
                y.meets (cond b f.1 f.2) (cond b f.4 q) (branch_stands entries ended (entry + 1) f.0 f.1 f.2 f.3 f.4 q f.6 f.7 f.8 b)
                ∙ ap value_only (sym (same_run entries lines w w₁ bound x.frame start len below (cond b f.1 f.2)))
                ∙ (taken f.1 f.2 b ∙ decided X q f);
          }
        where
          taken : (Y Z : Transformation) (b : Bool)
              → value_only (show (lookup_of lines) (cond b Y Z) (slots_at (made_by entries) w slots) (value_at (made_by entries) w start len))
              ≡ value_only (branch_run b (show (lookup_of lines) Y) (show (lookup_of lines) Z) (slots_at (made_by entries) w slots) (value_at (made_by entries) w start len))
          taken Y Z true = refl
          taken Y Z false = refl

-- ## 0C

module _ {entries : List Entry} {lines : List Line} {w : List ℕ} {slots : SlotWords} {start len top : ℕ} (entry : ℕ) (op : (get_or entries entry no_entry).operation ≡ 0x0C) where
  pub bind_done : Bound slots top → slots.count < 4 → {byte : ℕ} → byte ≡ slot_of (get_or entries entry no_entry) → {inner : SlotWords} → inner ≡ one_more slots byte start len
      → {w₁ : List ℕ} {r : Run} → ShownBy entries lines w inner (entry + 1) top 0 top w₁ r → ShownBy entries lines w slots entry start len top w₁ r
  unfolding show
  bind_done bound left {byte} e {inner} i {w₁} {r} x =
      record {
        frame = x.frame;
        place = x.place;
        meets = λ X q st.
            let f = at_bind entries X entry q st op in
            x.meets f.0 q f.2
            ∙ (ap₂ (λ (S : Slots) (v : Value). value_only (show (lookup_of lines) f.0 S v))
            (ap (slots_at (made_by entries) w) i ∙ more_at bound left byte start len (made_by entries) w
            ∙ ap (λ (k : ℕ). bound-as k (slots_at (made_by entries) w slots) (value_at (made_by entries) w start len)) e)
            (value_none (made_by entries) w top)
            ∙ sym (ap (λ (A : Transformation). value_only (show (lookup_of lines) A (slots_at (made_by entries) w slots) (value_at (made_by entries) w start len))) f.1));
      }
