-- 0A: the loop over the items of the source.
use mathlib.Core.Path.{◌≡◌, refl, sym, ◌∙◌, ap, ap₂}
use mathlib.Core.List.{List, ◌∷◌, ◌++◌, map, append-nil}
use Prim.Native.Nat.{ℕ, ◌+◌, ◌-◌, ◌≤◌, ◌<◌}
use native.Mathlib.Omega.{arith}
use lib.ListN.{length, get_or, take, drop}
use lib.Seq.{take_at, drop_at}
use Rattle.std.specs.Prelude.{Ok, Err}
use Rattle.lines.specs.Nodes.{Line}
use Rattle.lines.specs.Entries.{Entry}
use Rattle.values.specs.Values.{Value, under, onward, items}
use Rattle.values.specs.Engine.Words.{part, Made, node_of, value_at, FirstItem}
use Rattle.values.specs.Theorems.Extents.{frame_less, first_item_at}
use Rattle.values.proofs.Theorems.WordLaws.{length_value, value_none, value_join, value_frame}
use Rattle.values.specs.Theorems.Items.{items_cons, under_onward}
use Rattle.runs.specs.declared.slots.SlotWords.{SlotWords}
use Rattle.runs.specs.declared.stop.Stop.{Stop}
use Rattle.runs.specs.declared.stop.Stop.TheVariants.{Size}
use Rattle.runs.specs.Results.{Result, gives}
use Rattle.runs.specs.Programs.{Transformation}
use Rattle.runs.specs.Reading.{no_entry}
use Rattle.runs.specs.Showing.{in_turn, show}
use Rattle.runs.specs.Engine.Trees.{Stands}
use Rattle.runs.specs.Engine.Runs.{made_by, lookup_of, slots_at, Bound, value_only, ShownBy}
use Rattle.runs.proofs.SlotLaws.{slots_frame}
use Rattle.runs.proofs.Trees.{at_each}
use Rattle.runs.proofs.ShowSources.{first_rest}
use Rattle.runs.proofs.ShowRules.{behind, behind_nothing, behind_behind, turn_ends, turn_stops, turn_large, turn_goes_on}
use Rattle.runs.specs.Theorems.RunAnswers.{Got, Halted}
use Rattle.runs.proofs.ShowRuns.{one_value}

-- ## The first item of an extent, and the others

-- the first `k` words of an extent are its first item
pub record ItemAt (w : List ℕ) (s l k : ℕ) : Type 0 where
  pub long : (made : Made) → k ≡ 1 + length (under (value_at made w (s + 1) (l - 1)))
  pub within : k ≤ l

pub item_at : (w : List ℕ) (s l : ℕ) {words : List ℕ} {k : ℕ} → words ≡ part w s l → s + l ≤ length w → FirstItem words k → ItemAt w s l k
item_at w s l {words} {k} e fits f = let p = first_item_at w s l k fits (rw e at f) in record { long = p.0; within = p.1 }

module _ (made : Made) (w : List ℕ) (s l k : ℕ) (some : 0 < l) (fits : s + l ≤ length w) (item : ItemAt w s l k) where
  abbrev rest : Value
  rest = value_at made w (s + 1) (l - 1)

  in_two : under rest ++ onward rest ≡ value_at made w (s + 1) (k - 1) ++ value_at made w (s + k) (l - k)
  in_two =
      let a = item.long made in
      let b = item.within in
      let d : l - 1 ≡ k - 1 + (l - k) = omega arith in
      let f : s + 1 + (k - 1) ≡ s + k = omega arith in
      under_onward rest ∙ ap (value_at made w (s + 1)) d ∙ value_join made w (s + 1) (k - 1) (l - k) ∙ ap (λ (j : ℕ). value_at made w (s + 1) (k - 1) ++ value_at made w j (l - k)) f

  under_long : length (under rest) ≡ k - 1
  under_long = let a = item.long made in omega arith

  first_long : length (value_at made w (s + 1) (k - 1)) ≡ k - 1
  first_long = let a = item.long made in let b = item.within in length_value made w (s + 1) (k - 1) (omega arith)

  pub first_item : items (value_at made w s l) ≡ value_at made w s k ∷ items (value_at made w (s + k) (l - k))
  first_item =
      let a = item.long made in
      let b = item.within in
      ap items (first_rest made w s l fits some)
      ∙ items_cons (node_of made (get_or w s 0)) rest
      ∙ ap₂ (λ (u o : Value). (node_of made (get_or w s 0) ∷ u) ∷ items o)
      (sym (take_at (under rest) (onward rest) (k - 1) under_long) ∙ ap (take (k - 1)) in_two
      ∙ take_at (value_at made w (s + 1) (k - 1)) (value_at made w (s + k) (l - k)) (k - 1) first_long)
      (sym (drop_at (under rest) (onward rest) (k - 1) under_long) ∙ ap (drop (k - 1)) in_two
      ∙ drop_at (value_at made w (s + 1) (k - 1)) (value_at made w (s + k) (l - k)) (k - 1) first_long)
      ∙ ap (λ (v : Value). v ∷ items (value_at made w (s + k) (l - k))) (sym (first_rest made w s k (omega arith) (omega arith)))

-- ## The loop

abbrev turns : List Entry → List Line → List ℕ → SlotWords → ℕ → Transformation → ℕ → List Value → Result Stop Value
turns entries lines w₀ slots entry Y n is = value_only (in_turn entry n (map (show (lookup_of lines) Y (slots_at (made_by entries) w₀ slots)) is))

module _ (entries : List Entry) (lines : List Line) (w₀ : List ℕ) (slots : SlotWords) (entry start len top : ℕ) where
  -- n words stand at top for the nodes before the l at s: behind them comes what those give
  pub record Going (w : List ℕ) (s l n : ℕ) : Type 0 where
    pub starts : start ≤ s
    pub ends : s + l ≡ start + len
    pub small : n ≤ 128
    pub frame : take top w ≡ take top w₀
    pub kept : length w ≡ length w₀
    pub goes : (Y : Transformation) (q : ℕ) → Stands entries Y (entry + 1) q
        → turns entries lines w₀ slots entry Y 0 (items (value_at (made_by entries) w₀ start len))
        ≡ behind (value_at (made_by entries) w top n) (turns entries lines w₀ slots entry Y n (items (value_at (made_by entries) w₀ s l)))

module _ {entries : List Entry} {lines : List Line} {w₀ : List ℕ} {slots : SlotWords} {entry start len top : ℕ} where
  pub each_starts : Going entries lines w₀ slots entry start len top w₀ start len 0
  each_starts =
      record {
        starts = omega arith;
        ends = refl;
        small = omega arith;
        frame = refl;
        kept = refl;
        goes = λ Y q st.
            sym (ap (λ (v : Value). behind v (turns entries lines w₀ slots entry Y 0 (items (value_at (made_by entries) w₀ start len)))) (value_none (made_by entries) w₀ top)
            ∙ behind_nothing _);
      }

  module _ (op : (get_or entries entry no_entry).operation ≡ 0x0A) (bound : Bound slots top)
      (below : start + len ≤ top) (room : top + 256 ≤ length w₀) {w : List ℕ} {s l n : ℕ} (g : Going entries lines w₀ slots entry start len top w s l n) where
    abbrev there : Value
    there = value_at (made_by entries) w top n

    whole : (X : Transformation) (q : ℕ) (st : Stands entries X entry q)
        → value_only (show (lookup_of lines) X (slots_at (made_by entries) w₀ slots) (value_at (made_by entries) w₀ start len))
        ≡ behind there (turns entries lines w₀ slots entry (at_each entries X entry q st op).0 n (items (value_at (made_by entries) w₀ s l)))
    unfolding show
    whole X q st =
        let f = at_each entries X entry q st op in
        ap (λ (A : Transformation). value_only (show (lookup_of lines) A (slots_at (made_by entries) w₀ slots) (value_at (made_by entries) w₀ start len))) f.1
        ∙ g.goes f.0 q f.2

    pub each_done : l ≤ 0 → ShownBy entries lines w₀ slots entry start len top w (Ok (record { start = top; len = n }))
    unfolding items
    each_done h =
        record {
          frame = g.frame;
          place = (refl, g.small);
          meets = λ X q st.
              let z : l ≡ 0 = omega arith in
              sym (whole X q st
              ∙ ap (λ (v : Value). behind there (turns entries lines w₀ slots entry (at_each entries X entry q st op).0 n (items v)))
              (ap (value_at (made_by entries) w₀ s) z ∙ value_none (made_by entries) w₀ s)
              ∙ ap (behind there) (sym (turn_ends entry n))
              ∙ ap gives (append-nil there));
        }

    module _ {k : ℕ} (h : 0 < l) (item : ItemAt w s l k) where
      abbrev later : List Value
      later = items (value_at (made_by entries) w₀ (s + k) (l - k))

      -- the next item is run where the loop stands
      turn : (Y : Transformation) → turns entries lines w₀ slots entry Y n (items (value_at (made_by entries) w₀ s l))
          ≡ value_only (in_turn entry n (show (lookup_of lines) Y (slots_at (made_by entries) w slots) (value_at (made_by entries) w s k)
          ∷ map (show (lookup_of lines) Y (slots_at (made_by entries) w₀ slots)) later))
      turn Y =
          let e = g.ends in
          let c = g.kept in
          let b = item.within in
          ap (turns entries lines w₀ slots entry Y n) (ap items (sym (value_frame (made_by entries) w₀ w top s l g.frame (omega arith)))
          ∙ first_item (made_by entries) w s l k h (omega arith) item
          ∙ ap (λ (v : Value). value_at (made_by entries) w s k ∷ items v)
          (value_frame (made_by entries) w₀ w top (s + k) (l - k) g.frame (omega arith)))
          ∙ ap (λ (S : _). value_only (in_turn entry n (show (lookup_of lines) Y S (value_at (made_by entries) w s k)
          ∷ map (show (lookup_of lines) Y (slots_at (made_by entries) w₀ slots)) later)))
          (sym (slots_frame (made_by entries) w₀ w bound g.frame))

      pub each_stop : {w' : List ℕ} {stop : Stop} → Halted entries lines w slots (entry + 1) s k (top + n) w' stop
          → ShownBy entries lines w₀ slots entry start len top w' (Err stop)
      each_stop {w'} {stop} x =
          record {
            frame = frame_less w w' (top + n) top x.frame (omega arith) ∙ g.frame;
            place = tt;
            meets = λ X q st.
                let f = at_each entries X entry q st op in
                sym (whole X q st ∙ ap (behind there) (turn f.0 ∙ turn_stops entry n _ _ stop (x.is f.0 q f.2)));
          }

      module _ {w' : List ℕ} {m : ℕ} (x : Got entries lines w slots (entry + 1) s k (top + n) w' m) where
        long : length (value_at (made_by entries) w' (top + n) m) ≡ m
        long = let a = g.kept in let b = g.small in let c = x.small in let d = x.kept in length_value (made_by entries) w' (top + n) m (omega arith)

        pub each_large : 128 < n + m → ShownBy entries lines w₀ slots entry start len top w' (Err (Size entry))
        each_large o =
            record {
              frame = frame_less w w' (top + n) top x.frame (omega arith) ∙ g.frame;
              place = tt;
              meets = λ X q st.
                  let f = at_each entries X entry q st op in
                  let t = long in
                  sym (whole X q st ∙ ap (behind there) (turn f.0 ∙ turn_large entry n _ _ _ (x.is f.0 q f.2) (omega arith)));
            }

        pub each_more : n + m ≤ 128 → Going entries lines w₀ slots entry start len top w' (s + k) (l - k) (n + m)
        each_more o =
            let a = g.starts in
            let e = g.ends in
            let b = item.within in
            let t = long in
            record {
              starts = omega arith;
              ends = omega arith;
              small = o;
              frame = frame_less w w' (top + n) top x.frame (omega arith) ∙ g.frame;
              kept = x.kept ∙ g.kept;
              goes = λ Y q st.
                  g.goes Y q st
                  ∙ ap (behind there) (turn Y ∙ turn_goes_on entry n _ _ _ (x.is Y q st) (omega arith))
                  ∙ behind_behind there (value_at (made_by entries) w' (top + n) m) (turns entries lines w₀ slots entry Y (n + length (value_at (made_by entries) w' (top + n) m)) later)
                  ∙ ap₂ (λ (v : Value) (j : ℕ). behind v (turns entries lines w₀ slots entry Y j later)) (one_value entries w w' top n m x.frame) (ap (λ (j : ℕ). n + j) t);
            }
