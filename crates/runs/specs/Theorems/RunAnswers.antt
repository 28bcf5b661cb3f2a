-- What a run leaves where it gave a value, and where it stopped, whatever tree stands at its entry.
use Rattle.std.specs.Prelude.{◌≡◌, refl, List, ℕ, ◌≤◌, length, take, Ok, Err}
use Rattle.std.proofs.Common.{sym, ◌∙◌, ap, arith}
use Rattle.lines.specs.Nodes.{Line}
use Rattle.lines.specs.Entries.{Entry}
use Rattle.values.specs.declared.extents.Extent.{Extent}
use Rattle.values.specs.Values.{Value}
use Rattle.values.specs.Engine.Words.{value_at}
use Rattle.runs.specs.declared.slots.SlotWords.{SlotWords}
use Rattle.runs.specs.declared.stop.Stop.{Stop}
use Rattle.runs.specs.Results.{Result, gives, stops}
use Rattle.runs.specs.Programs.{Transformation}
use Rattle.runs.specs.Showing.{Shown, show}
use Rattle.runs.specs.Engine.Trees.{Stands}
use Rattle.runs.specs.Engine.Runs.{made_by, lookup_of, slots_at, value_only, ShownBy}

-- ## By the rules

pub record Gave (r : Result Stop Shown) (v : Value) : Type 0 where
  pub all : Shown
  pub is : r ≡ gives all
  pub value : all.value ≡ v

pub gave : (r : Result Stop Shown) (v : Value) → gives v ≡ value_only r → Gave r v
gave (gives a) v h = record { all = a; is = refl; value = cc }
gave (stops s) v h = let z : ◌≡◌ {A = ℕ} 0 1 = cc in absurd (omega arith)

pub stopped : (r : Result Stop Shown) (s : Stop) → stops s ≡ value_only r → r ≡ stops s
stopped (gives a) s h = let z : ◌≡◌ {A = ℕ} 0 1 = cc in absurd (omega arith)
stopped (stops t) s h = cc

-- ## By the code's contract

module _ (entries : List Entry) (lines : List Line) where
  pub record Got (w : List ℕ) (slots : SlotWords) (entry start len top : ℕ) (w' : List ℕ) (n : ℕ) : Type 0 where
    pub frame : take top w' ≡ take top w
    pub small : n ≤ 128
    pub kept : length w' ≡ length w
    pub is : (X : Transformation) (q : ℕ) → Stands entries X entry q
        → Gave (show (lookup_of lines) X (slots_at (made_by entries) w slots) (value_at (made_by entries) w start len)) (value_at (made_by entries) w' top n)

  pub record Halted (w : List ℕ) (slots : SlotWords) (entry start len top : ℕ) (w' : List ℕ) (s : Stop) : Type 0 where
    pub frame : take top w' ≡ take top w
    pub is : (X : Transformation) (q : ℕ) → Stands entries X entry q
        → show (lookup_of lines) X (slots_at (made_by entries) w slots) (value_at (made_by entries) w start len) ≡ stops s

module _ {entries : List Entry} {lines : List Line} {w : List ℕ} {slots : SlotWords} {entry start len top : ℕ} {w' : List ℕ} where
  pub got : {v : Extent} → ShownBy entries lines w slots entry start len top w' (Ok v) → length w' ≡ length w → Got entries lines w slots entry start len top w' v.len
  got {v} x k =
      record {
        frame = x.frame;
        small = x.place.1;
        kept = k;
        is = λ X q s. gave _ _ (ap (λ (k : ℕ). gives (value_at (made_by entries) w' k v.len)) (sym x.place.0) ∙ x.meets X q s);
      }

  pub halted : {s : Stop} → ShownBy entries lines w slots entry start len top w' (Err s) → Halted entries lines w slots entry start len top w' s
  halted {s} x = record { frame = x.frame; is = λ X q t. stopped _ s (x.meets X q t) }
