-- 07: an element around what X shows of its contents.
use mathlib.Core.Path.{◌≡◌, refl, sym, ◌∙◌, ap, ap₂}
use mathlib.Core.Bool.{Bool, true, false, cond, ◌&&◌}
use mathlib.Core.List.{List, [], ◌∷◌, map}
use Prim.Native.Nat.{ℕ, suc, ◌+◌, ◌-◌, ◌/◌, ◌≤◌, ◌<◌}
use native.Mathlib.Omega.{arith}
use lib.Dec.{leb, ltb}
use lib.ListN.{length, get_or, take, drop, set, length-map, length-set}
use lib.Seq.{get_or-set_same, drop-set-lt, take-set-le}
use borrow.Author.Tests.{ltb-false, leb-true, le-leb, lt-leb}
use Rattle.std.specs.Prelude.{Ok, Err}
use Rattle.lines.specs.Theorems.Bools.{and_left, and_right}
use Rattle.lines.specs.Nodes.{Line}
use Rattle.lines.specs.Entries.{Entry}
use Rattle.lines.specs.Writing.{put_at}
use Rattle.lines.specs.Theorems.PutAt.{length_put, put_frame}
use Rattle.values.specs.Values.{Node, Value, lowered, raised, shallow, within_bounds, most_depth}
use Rattle.values.specs.Engine.Words.{part, Made, node_of, value_at, lowered_word, raised_word}
use Rattle.values.specs.Theorems.Extents.{length_part, frame_less}
use Rattle.values.proofs.Theorems.WordLaws.{length_value, value_cons, raised_words}
use Rattle.values.specs.Theorems.Forests.{length_raised}
use Rattle.runs.specs.declared.slots.SlotWords.{SlotWords}
use Rattle.runs.specs.declared.stop.Stop.{Stop}
use Rattle.runs.specs.declared.stop.Stop.TheVariants.{Source, Size}
use Rattle.runs.specs.Results.{gives}
use Rattle.runs.specs.Programs.{Transformation}
use Rattle.runs.specs.Reading.{no_entry}
use Rattle.runs.specs.Showing.{Single, single, one_element, show}
use Rattle.runs.specs.Engine.Trees.{Stands}
use Rattle.runs.specs.Theorems.Inversion.{gives_inj}
use Rattle.runs.specs.Engine.Runs.{made_by, lookup_of, slots_at, Bound, ShownBy}
use Rattle.runs.specs.Engine.Leaves.{is_one_element, Leaves}
use Rattle.runs.proofs.SlotLaws.{slots_frame}
use Rattle.runs.proofs.Trees.{at_within}
use Rattle.runs.proofs.ShowSources.{no_element_one, element_words, words_element}
use Rattle.runs.proofs.ShowLeaves.{put_value, lowered_put}
use Rattle.runs.proofs.ShowRules.{within_stops, within_large, within_gives}
use Rattle.runs.specs.Theorems.RunAnswers.{Got, Halted, Gave}
use Rattle.runs.proofs.ShowRuns.{frame_word}

-- ## Raised words, also where a depth has no room to be raised: it is over the bound then, and so is the word

module _ (made : Made) where
  raised_depth : (x : ℕ) → leb (node_of made (raised_word x)).depth most_depth ≡ leb (suc (node_of made x).depth) most_depth
  unfolding node_of raised_word
  raised_depth x = go (ltb x 0xFFFF0000) refl
    where
      go : (t : Bool) → ltb x 0xFFFF0000 ≡ t → leb (cond t (x + 0x10000) x / 0x10000) 9 ≡ leb (suc (x / 0x10000)) 9
      go true e = ap (λ (d : ℕ). leb d 9) (let d : (x + 0x10000) / 0x10000 ≡ suc (x / 0x10000) = omega arith in d)
      go false e = let h = ltb-false x 0xFFFF0000 e in rw (lt-leb (x / 0x10000) 9 (omega arith), lt-leb (suc (x / 0x10000)) 9 (omega arith))

  raised_shallow : (l : List ℕ) → shallow (map (node_of made) (map raised_word l)) ≡ shallow (raised (map (node_of made) l))
  unfolding shallow raised
  raised_shallow [] = refl
  raised_shallow (x ∷ l) = ap₂ (λ (a b : Bool). a && b) (raised_depth x) (raised_shallow l)

shallow_before : (v : Value) → shallow (raised v) ≡ true → shallow v ≡ true
unfolding shallow raised
shallow_before [] h = refl
shallow_before (x ∷ v) h =
    let d = leb-true (suc x.depth) 9 (and_left (leb (suc x.depth) 9) (shallow (raised v)) h) in
    rw (le-leb x.depth 9 (omega arith)) (shallow_before v (and_right (leb (suc x.depth) 9) (shallow (raised v)) h))

-- ## The returns

module _ (entries : List Entry) (lines : List Line) (w : List ℕ) (slots : SlotWords) (entry start len top : ℕ) (op : (get_or entries entry no_entry).operation ≡ 0x07) where
  pub within_none : is_one_element (lookup_of lines) (value_at (made_by entries) w start len) ≡ false → ShownBy entries lines w slots entry start len top w (Err (Source entry))
  unfolding show
  within_none h =
      record {
        frame = refl;
        place = tt;
        meets = λ X q st. let f = at_within entries X entry q st op in rw (f.1, no_element_one (lookup_of lines) entry (value_at (made_by entries) w start len) h);
      }

  module _ (one : is_one_element (lookup_of lines) (value_at (made_by entries) w start len) ≡ true)
      (bound : Bound slots top) (below : start + len ≤ top) (few : len ≤ 128) (room : top + 256 ≤ length w)
      {w₁ : List ℕ} (p : w₁ ≡ put_at w top (map lowered_word (part w (start + 1) (len - 1)))) where
    some : 0 < len
    some = element_words (made_by entries) w start len (omega arith) (lookup_of lines) one

    abbrev source : Single
    source = single (node_of (made_by entries) (get_or w start 0)) (value_at (made_by entries) w (start + 1) (len - 1))

    is_source : one_element (lookup_of lines) entry (value_at (made_by entries) w start len) ≡ gives source
    is_source = words_element (made_by entries) w start len (omega arith) (lookup_of lines) entry one

    left : Leaves (made_by entries) w top w₁ (Ok (record { start = top; len = len - 1 })) (gives (lowered (value_at (made_by entries) w (start + 1) (len - 1))))
    left = let s = some in lowered_put (made_by entries) w top (start + 1) (len - 1) p (omega arith) (omega arith) (omega arith)

    -- X runs on the contents
    run_inner : (X : Transformation) → show (lookup_of lines) X (slots_at (made_by entries) w₁ slots) (value_at (made_by entries) w₁ top (len - 1))
        ≡ show (lookup_of lines) X (slots_at (made_by entries) w slots) source.inner
    run_inner X = ap₂ (show (lookup_of lines) X) (slots_frame (made_by entries) w w₁ bound left.frame) (gives_inj _ _ left.meets)

    pub within_stop : {w₂ : List ℕ} {s : Stop} → Halted entries lines w₁ slots (entry + 1) top (len - 1) (top + 128) w₂ s
        → ShownBy entries lines w slots entry start len top w₂ (Err s)
    unfolding show
    within_stop {w₂} {s} x =
        record {
          frame = frame_less w₁ w₂ (top + 128) top x.frame (omega arith) ∙ left.frame;
          place = tt;
          meets = λ X q st.
              let f = at_within entries X entry q st op in
              rw f.1 (within_stops (lookup_of lines) entry (show (lookup_of lines) f.0) _ _ source is_source s (sym (run_inner f.0) ∙ x.is f.0 q f.2));
        }

    module _ {w₂ : List ℕ} {n : ℕ} (x : Got entries lines w₁ slots (entry + 1) top (len - 1) (top + 128) w₂ n) where
      kept : length w₂ ≡ length w
      kept =
          let s = some in
          let m = length-map (part w (start + 1) (len - 1)) lowered_word ∙ length_part w (start + 1) (len - 1) (omega arith) in
          x.kept ∙ ap length p ∙ length_put w top (map lowered_word (part w (start + 1) (len - 1))) (omega arith)

      abbrev inside : Value
      inside = value_at (made_by entries) w₂ (top + 128) n

      ran_inner : (X : Transformation) (q : ℕ) → Stands entries X (entry + 1) q → Gave (show (lookup_of lines) X (slots_at (made_by entries) w slots) source.inner) inside
      ran_inner X q st = rw (run_inner X) at (x.is X q st)

      long : length (raised inside) ≡ n
      long = let k = x.small in let l = kept in length_raised inside ∙ length_value (made_by entries) w₂ (top + 128) n (omega arith)

      pub within_over : 128 < n + 1 → ShownBy entries lines w slots entry start len top w₂ (Err (Size entry))
      unfolding show within_bounds
      within_over h =
          record {
            frame = frame_less w₁ w₂ (top + 128) top x.frame (omega arith) ∙ left.frame;
            place = tt;
            meets = λ X q st.
                let f = at_within entries X entry q st op in
                let l = long in
                rw f.1 (within_large (lookup_of lines) entry (show (lookup_of lines) f.0) _ _ source is_source inside (ran_inner f.0 q f.2)
                (rw (lt-leb (suc (length (raised inside))) 128 (omega arith))));
          }

      module _ (h : n + 1 ≤ 128) {w₃ : List ℕ} (set_first : w₃ ≡ set w₂ top (get_or w₂ start 0))
          {w₄ : List ℕ} (put : w₄ ≡ put_at w₃ (top + 1) (map raised_word (part w₃ (top + 128) n))) where
        long₃ : length w₃ ≡ length w
        long₃ = ap length set_first ∙ length-set w₂ top (get_or w₂ start 0) ∙ kept

        new_long : length (map raised_word (part w₃ (top + 128) n)) ≡ n
        new_long = let l = long₃ in length-map (part w₃ (top + 128) n) raised_word ∙ length_part w₃ (top + 128) n (omega arith)

        put_below : take (top + 1) w₄ ≡ take (top + 1) w₃
        put_below = let l = long₃ in let m = new_long in ap (take (top + 1)) put ∙ put_frame w₃ (top + 1) (map raised_word (part w₃ (top + 128) n)) (omega arith)

        frame₂ : take top w₂ ≡ take top w
        frame₂ = frame_less w₁ w₂ (top + 128) top x.frame (omega arith) ∙ left.frame

        pub within_frame : take top w₄ ≡ take top w
        within_frame = frame_less w₃ w₄ (top + 1) top put_below (omega arith) ∙ ap (take top) set_first ∙ take-set-le top w₂ top (get_or w₂ start 0) (omega arith) ∙ frame₂

        -- the element itself, then the words that were raised
        at_top : value_at (made_by entries) w₄ top (n + 1) ≡ node_of (made_by entries) (get_or w start 0) ∷ map (node_of (made_by entries)) (map raised_word (part w₂ (top + 128) n))
        at_top =
            let s = some in
            let l = long₃ in
            let m = new_long in
            let k = kept in
            let b : length w₄ ≡ length w₃ = ap length put ∙ length_put w₃ (top + 1) (map raised_word (part w₃ (top + 128) n)) (omega arith) in
            value_cons (made_by entries) w₄ top n (omega arith)
            ∙ ap₂ (λ (a : Node) (v : Value). a ∷ v)
            (ap (node_of (made_by entries)) (frame_word w₃ w₄ (top + 1) top put_below (omega arith)
            ∙ ap (λ (k : List ℕ). get_or k top 0) set_first
            ∙ get_or-set_same w₂ top (get_or w₂ start 0) 0 (omega arith)
            ∙ frame_word w w₂ top start frame₂ (omega arith)))
            (ap (λ (k : List ℕ). value_at (made_by entries) k (top + 1) n) put
            ∙ put_value (made_by entries) w₃ (top + 1) (map raised_word (part w₃ (top + 128) n)) n new_long (omega arith)
            ∙ ap (λ (k : List ℕ). map (node_of (made_by entries)) (map raised_word (take n k)))
            (ap (drop (top + 128)) set_first ∙ drop-set-lt (top + 128) w₂ top (get_or w₂ start 0) (omega arith)))

        bounds : within_bounds (source.top ∷ raised inside) ≡ shallow (value_at (made_by entries) w₄ top (n + 1))
        unfolding within_bounds shallow value_at
        bounds =
            let l = long in
            rw (le-leb (suc (length (raised inside))) 128 (omega arith))
            (sym (ap shallow at_top ∙ ap (λ (b : Bool). leb source.top.depth 9 && b) (raised_shallow (made_by entries) (part w₂ (top + 128) n))))

        pub within_deep : false ≡ shallow (value_at (made_by entries) w₄ top (n + 1)) → ShownBy entries lines w slots entry start len top w₄ (Err (Size entry))
        unfolding show
        within_deep d =
            record {
              frame = within_frame;
              place = tt;
              meets = λ X q st.
                  let f = at_within entries X entry q st op in
                  rw f.1 (within_large (lookup_of lines) entry (show (lookup_of lines) f.0) _ _ source is_source inside (ran_inner f.0 q f.2) (bounds ∙ sym d));
            }

        pub within_done : true ≡ shallow (value_at (made_by entries) w₄ top (n + 1))
            → ShownBy entries lines w slots entry start len top w₄ (Ok (record { start = top; len = n + 1 }))
        unfolding show value_at shallow
        within_done d =
            let ok = ap shallow (sym at_top) ∙ sym d in
            let low = sym (raised_shallow (made_by entries) (part w₂ (top + 128) n)) ∙ and_right (leb source.top.depth 9) _ ok in
            record {
              frame = within_frame;
              place = (refl, h);
              meets = λ X q st.
                  let f = at_within entries X entry q st op in
                  ap gives (at_top ∙ ap (λ (v : Value). source.top ∷ v) (raised_words (made_by entries) (part w₂ (top + 128) n) (shallow_before inside low)))
                  ∙ rw f.1 (within_gives (lookup_of lines) entry (show (lookup_of lines) f.0) _ _ source is_source inside (ran_inner f.0 q f.2) (bounds ∙ sym d));
            }
