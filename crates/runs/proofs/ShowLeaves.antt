-- What the operations with nothing below them leave.
use mathlib.Core.Path.{◌≡◌, refl, sym, ◌∙◌, ap}
use mathlib.Core.Bool.{true, false}
use mathlib.Core.List.{List, [], ◌∷◌, map, append_assoc}
use Prim.Native.Nat.{ℕ, ◌+◌, ◌-◌, ◌≤◌, ◌<◌}
use native.Mathlib.Numerals.{add-one}
use native.Mathlib.Omega.{arith}
use lib.ListN.{length, take, set, length-map}
use lib.Seq.{set_split}
use Rattle.std.specs.Prelude.{Ok, Err}
use Rattle.lines.specs.Writing.{put_at}
use Rattle.lines.specs.Theorems.PutAt.{put_frame, put_part}
use Rattle.values.specs.Values.{Value, Lookup, lowered}
use Rattle.values.specs.Engine.Words.{part, Made, node_of, value_at, lowered_word}
use Rattle.values.specs.Theorems.Extents.{length_part}
use Rattle.values.proofs.Theorems.WordLaws.{lowered_words}
use Rattle.runs.specs.declared.stop.Stop.TheVariants.{Source}
use Rattle.runs.specs.Results.{gives}
use Rattle.runs.specs.Programs.{contents}
use Rattle.runs.specs.Showing.{show}
use Rattle.runs.specs.Engine.Runs.{value_only}
use Rattle.runs.specs.Engine.Leaves.{is_one_element, Leaves}
use Rattle.runs.proofs.ShowSources.{no_element_one, element_words, words_element}

-- words put at top are a value there
module _ (made : Made) (w : List ℕ) (top : ℕ) where
  pub put_value : (new : List ℕ) (n : ℕ) → length new ≡ n → top + n ≤ length w → value_at made (put_at w top new) top n ≡ map (node_of made) new
  unfolding value_at
  put_value new n e fits = ap (map (node_of made)) (ap (part (put_at w top new) top) (sym e) ∙ put_part w top new (omega arith))

  pub leaves : {w' : List ℕ} (new : List ℕ) (n : ℕ) {v : Value} → w' ≡ put_at w top new → length new ≡ n → n ≤ 128 → top + n ≤ length w → map (node_of made) new ≡ v
      → Leaves made w top w' (Ok (record { start = top; len = n })) (gives v)
  leaves {w'} new n {v} p e few fits q =
      record {
        frame = ap (take top) p ∙ put_frame w top new (omega arith);
        place = (refl, few);
        meets = ap gives (ap (λ (l : List ℕ). value_at made l top n) p ∙ (put_value new n e fits ∙ q));
      }

  -- 01, and a slot
  pub copied : {w' : List ℕ} (start len : ℕ) → w' ≡ put_at w top (part w start len) → start + len ≤ length w → len ≤ 128 → top + 128 ≤ length w
      → Leaves made w top w' (Ok (record { start = top; len = len })) (gives (value_at made w start len))
  unfolding value_at
  copied start len p below few fits = leaves (part w start len) len p (length_part w start len (omega arith)) few (omega arith) refl

  -- 03 and 04
  pub one_put : (x : ℕ) → top < length w → Leaves made w top (set w top x) (Ok (record { start = top; len = 1 })) (gives (node_of made x ∷ []))
  unfolding put_at
  one_put x h = leaves (x ∷ []) 1 (set_split w top x h ∙ rw (append_assoc, add-one)) refl (omega arith) (omega arith) refl

  -- the contents of an element
  pub lowered_put : {w' : List ℕ} (start len : ℕ) → w' ≡ put_at w top (map lowered_word (part w start len)) → start + len ≤ length w → len ≤ 128 → top + 128 ≤ length w
      → Leaves made w top w' (Ok (record { start = top; len = len })) (gives (lowered (value_at made w start len)))
  unfolding value_at
  lowered_put start len p fits few room =
      leaves (map lowered_word (part w start len)) len p (length-map (part w start len) lowered_word ∙ length_part w start len fits) few
      (omega arith) (lowered_words made (part w start len))

  -- 06
  module _ (look : Lookup) (start len entry : ℕ) (fits : start + len ≤ length w) where
    pub no_contents : is_one_element look (value_at made w start len) ≡ false
        → Leaves made w top w (Err (Source entry)) (value_only (show look (contents entry) [] (value_at made w start len)))
    unfolding show
    no_contents h = record { frame = refl; place = tt; meets = rw (no_element_one look entry (value_at made w start len) h) }

    pub contents_put : is_one_element look (value_at made w start len) ≡ true → {w' : List ℕ} → w' ≡ put_at w top (map lowered_word (part w (start + 1) (len - 1)))
        → len ≤ 128 → top + 128 ≤ length w
        → Leaves made w top w' (Ok (record { start = top; len = len - 1 })) (value_only (show look (contents entry) [] (value_at made w start len)))
    unfolding show
    contents_put h p few room =
        let s = element_words made w start len fits look h in
        rw (words_element made w start len fits look entry h) (lowered_put (start + 1) (len - 1) p (omega arith) (omega arith) room)
