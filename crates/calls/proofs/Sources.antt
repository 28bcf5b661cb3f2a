-- The source's words one by one, and what the run over them leaves.
use mathlib.Core.Path.{◌≡◌, refl, sym, ap, ap₂, ◌∙◌}
use mathlib.Core.List.{List, [], ◌∷◌}
use Prim.Native.Nat.{ℕ, zero, suc, ◌+◌, ◌*◌, ◌≤◌, ◌<◌}
use native.Mathlib.Nat.{zero-add}
use native.Mathlib.Omega.{arith}
use lib.ListN.{length, get_or, set}
use Rattle.lines.specs.Nodes.{Line, no_line, line_at}
use Rattle.lines.specs.Entries.{Entry}
use Rattle.lines.specs.Writing.{put_at}
use Rattle.values.specs.Engine.Words.{part, value_at}
use Rattle.values.specs.Theorems.Extents.{frame_part}
use Rattle.values.specs.declared.extents.Extent.{Extent}
use Rattle.runs.specs.declared.stop.Stop.{Stop}
use Rattle.runs.specs.declared.stop.Stop.TheVariants as stop
use Rattle.runs.specs.Results.{stops, stop_number, stop_entry}
use Rattle.runs.specs.Programs.{Transformation}
use Rattle.runs.specs.Showing.{Shown, show}
use Rattle.runs.specs.Grounds.{one_master, showing}
use Rattle.runs.specs.Engine.SlotWords.{no_slots}
use Rattle.runs.specs.Engine.Runs.{made_by, lookup_of, slots_at, ShownBy}
use Rattle.runs.specs.Theorems.WholePrograms.{program_placed}
use Rattle.lines.specs.Verdicts.{reply}
use Rattle.lines.specs.Theorems.PutAt.{Putting, putting_front, put_part}
use Rattle.runs.specs.Theorems.RunAnswers.{got, halted}
use Rattle.calls.specs.Judging.{ran}
use Rattle.calls.specs.Refusals.{of_stop, place_of}
use Rattle.calls.specs.declared.refusal.Refusal.{Refusal}
use Rattle.calls.specs.Engine.Parts.{source_words, Refuses, Runnable, RunGoes, RanBy}
use Rattle.std.specs.Prelude.{Ok, Err}
use Rattle.calls.proofs.Grounded.{same_showing}

-- ## The words

pub length_source : (k : ℕ) (ls : List Line) → length (source_words k ls) ≡ length ls
unfolding source_words
length_source k [] = refl
length_source k (l ∷ ls) = ap suc (length_source (suc k) ls)

pub source_at : (k : ℕ) (ls : List Line) (j : ℕ) → j < length ls → get_or (source_words k ls) j 0 ≡ (get_or ls j no_line).depth * 0x10000 + (k + j)
unfolding source_words
source_at k [] j h = absurd (omega arith)
source_at k (l ∷ ls) zero h = ap (λ (x : ℕ). l.depth * 0x10000 + x) (let e : k ≡ k + 0 = omega arith in e)
source_at k (l ∷ ls) (suc j) h = source_at (suc k) ls j (omega arith) ∙ ap (λ (x : ℕ). (get_or ls j no_line).depth * 0x10000 + x) (let e : suc k + j ≡ k + suc j = omega arith in e)

module _ (L : List Line) (w₀ : List ℕ) (fits : length L ≤ length w₀) where
  -- the next node's word
  pub loading_goes_on : {w : List ℕ} {i depth : ℕ} → Putting w₀ 0 (source_words 0 L) (length L) w i → i < length L → depth ≡ (line_at L i).depth
      → Putting w₀ 0 (source_words 0 L) (length L) (set w i (depth * 0x10000 + i)) (i + 1)
  loading_goes_on {w} {i} {depth} p h d =
      let word : depth * 0x10000 + i ≡ get_or (source_words 0 L) i 0 =
      ap₂ (λ (x y : ℕ). x * 0x10000 + y) d (sym (zero-add i)) ∙ sym (source_at 0 L i h) in
      putting_front w₀ 0 (source_words 0 L) (length L) (length_source 0 L) (omega arith) refl p h word

-- ## The run

pub loaded_foot : (w : List ℕ) (L : List Line) → length L ≤ length w → {w₁ : List ℕ} → w₁ ≡ put_at w 0 (source_words 0 L) → part w₁ 0 (length L) ≡ source_words 0 L
loaded_foot w L h e =
    let long = length_source 0 L in
    rw e (ap (part (put_at w 0 (source_words 0 L)) 0) (sym long) ∙ put_part w 0 (source_words 0 L) (omega arith))

refuses : (s : Stop) → place_of (of_stop s) < 256 → Refuses {A = Shown} (stops (reply (stop_number s) (stop_entry s))) (of_stop s)
unfolding stop_number stop_entry
refuses (stop.Source entry) low = (refl, omega arith)
refuses (stop.Size entry) low = (refl, omega arith)

-- the source stands at the foot of w₁, with which the run begins
module _ {E : List Entry} {ends : List ℕ} {L : List Line} (able : Runnable E ends L) (w₁ : List ℕ) (foot : part w₁ 0 (length L) ≡ source_words 0 L) where
  showing_here : (X : Transformation) → show (lookup_of L) X (slots_at (made_by E) w₁ no_slots) (value_at (made_by E) w₁ 0 (length L)) ≡ showing (one_master L) X
  showing_here X = same_showing (made_by E) w₁ L able.few_lines foot X

  pub run_stops : {w₂ : List ℕ} {s : Stop} → ShownBy E L w₁ no_slots 0 0 (length L) 128 w₂ (Err s) → (refusal : Refusal) → (refusal ≡ of_stop s) × (place_of refusal < 256)
      → RanBy E L w₂ (Err refusal)
  unfolding ran
  run_stops {w₂} {s} shown refusal made X h =
      let halt : showing (one_master L) X ≡ stops s = sym (showing_here X) ∙ (halted shown).is X (length E) (program_placed E X h).stands in
      let low = made.1 in
      rw (halt, made.0) (refuses s (rw made.0 at low))

  pub run_goes : {w₂ : List ℕ} {v : Extent} → ShownBy E L w₁ no_slots 0 0 (length L) 128 w₂ (Ok v) → length w₂ ≡ length w₁ → RunGoes E L w₂ v.len
  run_goes {w₂} shown kept =
      let g = got shown kept in
      let few = able.few_lines in
      record {
        few = g.small;
        foot = frame_part w₁ w₂ 128 0 (length L) g.frame (omega arith) ∙ foot;
        shows = λ X q h.
            let a = g.is X q h in
            (a.all, sym (showing_here X) ∙ a.is, sym a.value);
      }
