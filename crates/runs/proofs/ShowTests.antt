-- 11: the source text beside the one that X gives on nothing.
use mathlib.Core.Path.{◌≡◌, refl, ◌∙◌, ap}
use mathlib.Core.Bool.{Bool, true, false}
use mathlib.Core.List.{List, []}
use Prim.Native.Nat.{ℕ, ◌+◌, ◌≤◌}
use native.Mathlib.Omega.{arith}
use lib.ListN.{length, get_or}
use Rattle.std.specs.Prelude.{Ok, Err}
use Rattle.lines.specs.Texts.{agree}
use Rattle.lines.specs.Nodes.{Line}
use Rattle.lines.specs.Entries.{Entry}
use Rattle.values.specs.Values.{bytes_of}
use Rattle.values.specs.Engine.Words.{node_of, value_at}
use Rattle.values.proofs.Theorems.WordLaws.{value_none}
use Rattle.runs.specs.declared.slots.SlotWords.{SlotWords}
use Rattle.runs.specs.declared.stop.Stop.{Stop}
use Rattle.runs.specs.declared.stop.Stop.TheVariants.{Source}
use Rattle.runs.specs.Results.{gives}
use Rattle.runs.specs.Programs.{Transformation}
use Rattle.runs.specs.Reading.{no_entry}
use Rattle.runs.specs.Showing.{one_text, show, test}
use Rattle.runs.specs.Engine.Trees.{Stands}
use Rattle.runs.specs.Engine.Runs.{made_by, lookup_of, slots_at, TestedBy}
use Rattle.runs.specs.Engine.Leaves.{is_one_text}
use Rattle.runs.proofs.Trees.{at_equals}
use Rattle.runs.proofs.ShowSources.{no_text_one, text_words, words_text}
use Rattle.runs.proofs.ShowRules.{equals_no_source, equals_stops, equals_no_other, equals_says}
use Rattle.runs.specs.Theorems.RunAnswers.{Got, Halted, Gave}
use Rattle.runs.proofs.ShowRuns.{frame_word}

module _ (entries : List Entry) (lines : List Line) (w : List ℕ) (slots : SlotWords) (entry start len top : ℕ) (op : (get_or entries entry no_entry).operation ≡ 0x11) where
  pub equals_none : is_one_text (lookup_of lines) (value_at (made_by entries) w start len) ≡ false → TestedBy entries lines w slots entry start len top w (Err (Source entry))
  unfolding test
  equals_none h =
      record {
        frame = refl;
        meets = λ P q st.
            let f = at_equals entries P entry q st op in
            rw f.1 (equals_no_source (lookup_of lines) entry (show (lookup_of lines) f.0) _ _ (Source entry)
            (no_text_one (lookup_of lines) entry (value_at (made_by entries) w start len) h));
      }

  module _ (one : is_one_text (lookup_of lines) (value_at (made_by entries) w start len) ≡ true) (below : start + len ≤ top) (room : top + 128 ≤ length w) where
    is_text : one_text (lookup_of lines) entry (value_at (made_by entries) w start len) ≡ gives (node_of (made_by entries) (get_or w start 0))
    is_text = words_text (made_by entries) w start len (omega arith) (lookup_of lines) entry one

    pub equals_stop : {w₁ : List ℕ} {s : Stop} → Halted entries lines w slots (entry + 1) top 0 top w₁ s → TestedBy entries lines w slots entry start len top w₁ (Err s)
    unfolding test
    equals_stop {w₁} {s} x =
        record {
          frame = x.frame;
          meets = λ P q st.
              let f = at_equals entries P entry q st op in
              rw f.1 (equals_stops (lookup_of lines) entry (show (lookup_of lines) f.0) _ _ _ is_text s (rw (value_none (made_by entries) w top) at (x.is f.0 q f.2)));
        }

    module _ {w₁ : List ℕ} {n : ℕ} (x : Got entries lines w slots (entry + 1) top 0 top w₁ n) where
      on_nothing : (Y : Transformation) (q : ℕ) → Stands entries Y (entry + 1) q
          → Gave (show (lookup_of lines) Y (slots_at (made_by entries) w slots) []) (value_at (made_by entries) w₁ top n)
      on_nothing Y q st = rw (value_none (made_by entries) w top) at (x.is Y q st)

      pub equals_other : is_one_text (lookup_of lines) (value_at (made_by entries) w₁ top n) ≡ false → TestedBy entries lines w slots entry start len top w₁ (Err (Source entry))
      unfolding test
      equals_other h =
          record {
            frame = x.frame;
            meets = λ P q st.
                let f = at_equals entries P entry q st op in
                rw f.1 (equals_no_other (lookup_of lines) entry (show (lookup_of lines) f.0) _ _ _ is_text _ (on_nothing f.0 q f.2) (Source entry)
                (no_text_one (lookup_of lines) entry (value_at (made_by entries) w₁ top n) h));
          }

      pub equals_done : is_one_text (lookup_of lines) (value_at (made_by entries) w₁ top n) ≡ true → (b : Bool)
          → b ≡ agree (bytes_of (lookup_of lines) (node_of (made_by entries) (get_or w₁ start 0)).origin) (bytes_of (lookup_of lines) (node_of (made_by entries) (get_or w₁ top 0)).origin)
          → TestedBy entries lines w slots entry start len top w₁ (Ok b)
      unfolding test
      equals_done h b e =
          let k = x.small in
          let kept = x.kept in
          let l = text_words (made_by entries) w start len (omega arith) (lookup_of lines) one in
          record {
            frame = x.frame;
            meets = λ P q st.
                let f = at_equals entries P entry q st op in
                let other = bytes_of (lookup_of lines) (node_of (made_by entries) (get_or w₁ top 0)).origin in
                ap gives (e ∙ ap (λ (i : ℕ). agree (bytes_of (lookup_of lines) (node_of (made_by entries) i).origin) other)
                (frame_word w w₁ top start x.frame (omega arith)))
                ∙ rw f.1 (equals_says (lookup_of lines) entry (show (lookup_of lines) f.0) _ _ _ is_text _ (on_nothing f.0 q f.2) _
                (words_text (made_by entries) w₁ top n (omega arith) (lookup_of lines) entry h));
          }
