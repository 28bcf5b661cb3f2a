-- 01 to 06 put back: no run below them.
use mathlib.Core.Path.{◌≡◌, refl, sym, ap, subst, ◌∙◌}
use mathlib.Core.Bool.{Bool, true, false}
use mathlib.Core.List.{List, [], ◌∷◌}
use Prim.Native.Nat.{ℕ, suc, ◌+◌, ◌≤◌}
use native.Mathlib.Omega.{arith}
use lib.Dec.{eqb}
use lib.ListN.{length, get_or, take, replicate, length-replicate}
use borrow.Author.Tests.{eqb-true, eqb-false}
use Rattle.lines.specs.Writing.{put_at}
use Rattle.lines.specs.Entries.{Entry, slot_of}
use Rattle.lines.specs.Nodes.{Line}
use Rattle.lines.specs.Theorems.PutAt.{length_put}
use Rattle.values.specs.Values.{Value, made, among}
use Rattle.values.specs.Standings.{Standing, untouched, all_over}
use Rattle.values.specs.Engine.Words.{part, value_at}
use Rattle.values.specs.Theorems.Extents.{length_part, frame_less}
use Rattle.values.specs.Theorems.Forests.{length_lowered}
use Rattle.values.proofs.Theorems.WordLaws.{length_value}
use Rattle.runs.specs.declared.slots.SlotWords.{SlotWords}
use Rattle.runs.specs.Programs.{Transformation, source, slot, contents}
use Rattle.runs.specs.Reading.{no_entry}
use Rattle.runs.specs.Showing.{Slots, Shown, one_element, show}
use Rattle.runs.specs.PuttingBack.{SlotStandings, back, put_back}
use Rattle.runs.specs.Engine.Runs.{made_by, lookup_of, slots_at, bytes_to, merged_at, Ready, PutSpace, Seen, PutBy}
use Rattle.runs.specs.Engine.SlotWords.{slot_at, innermost}
use Rattle.runs.specs.Engine.Trees.{Stands}
use Rattle.runs.specs.Theorems.Inversion.{gives_inj, on_bind, on_element}
use Rattle.runs.proofs.Trees.{at_source, at_nothing, at_text, at_tag, at_slot, at_contents, slot_bound}
use Rattle.runs.proofs.SlotLaws.{found}
use Rattle.runs.proofs.PutWords.{Holds, holds_frame, holds_join, holds_copied, holds_untouched, kept_below}
use Rattle.runs.proofs.PutSlots.{merged_hold}
use Rattle.runs.proofs.PutRuns.{HandsBack, by_put, on_long}

module _ {entries : List Entry} {lines : List Line} {ends w marks : List ℕ} {slots : SlotWords}
    {entry start len view vlen top levels : ℕ} (r : Ready entries ends slots entry levels)
    (room : PutSpace w marks slots start len view vlen top levels) (seen : Seen entries lines w slots entry start len vlen) (some : 1 ≤ levels) where
  abbrev env : Slots
  env = slots_at (made_by entries) w slots

  abbrev src : Value
  src = value_at (made_by entries) w start len

  src_long : length src ≡ len
  src_long = length_value (made_by entries) w start len (let b = room.below in let e = room.enough in omega arith)

  abbrev operation : ℕ
  operation = (get_or entries entry no_entry).operation

  -- ## 01

  pub source_long : operation ≡ 0x01 → vlen ≡ len
  unfolding Stands show
  source_long op =
      on_long (show (lookup_of lines) (source entry) env src) vlen (seen.fits (source entry) (suc entry) ((refl, op), refl)) λ a e l.
      sym l ∙ (ap (λ (x : Shown). length x.value) (sym (gives_inj _ a e)) ∙ src_long)

  pub source_back : {w' : List ℕ} → operation ≡ 0x01 → w' ≡ put_at w top (part w view vlen) → PutBy entries lines w marks slots entry start len view vlen top w' marks
  unfolding put_back
  source_back {w'} op c =
      let n = source_long op in
      let l = length_part w view vlen (omega arith) in
      by_put (kept_below w top (part w view vlen) c (omega arith)) λ texts ss us g u X q st.
      rw (at_source entries X entry q st op)
      (record { source = subst (λ (k : ℕ). Holds texts w' top k ss) n (holds_copied w c (omega arith) (omega arith) g); slots_hold = u })

  -- ## 02, 03, 04

  made_rule : (2 ≤ operation) → (operation ≤ 4) → (X : Transformation) (q : ℕ) → Stands entries X entry q → (ss : List Standing) (us : SlotStandings)
      → back (all_over untouched src) us ≡ put_back (lookup_of lines) X env src ss us
  unfolding put_back
  made_rule low high X q st ss us = go (eqb operation 2) (eqb operation 3) refl refl
    where
      go : (a b : Bool) → eqb operation 2 ≡ a → eqb operation 3 ≡ b → back (all_over untouched src) us ≡ put_back (lookup_of lines) X env src ss us
      go true b e f = rw (at_nothing entries X entry q st (eqb-true operation 2 e))
      go false true e f = rw (at_text entries X entry q st (eqb-true operation 3 f))
      go false false e f =
          let g = eqb-false operation 2 e in
          let h = eqb-false operation 3 f in
          rw (at_tag entries X entry q st (omega arith))

  filled_frame : {w' : List ℕ} → w' ≡ put_at w top (replicate len 0) → take top w' ≡ take top w
  filled_frame c =
      let l : length (replicate {A = ℕ} len 0) ≡ len = length-replicate len 0 in
      kept_below w top (replicate len 0) c (omega arith)

  source_untouched : {texts : ℕ → List ℕ} {w' : List ℕ} → w' ≡ put_at w top (replicate len 0) → Holds texts w' top len (all_over untouched src)
  source_untouched c =
      holds_untouched src w c src_long (omega arith)

  pub made_back : {w' : List ℕ} → 2 ≤ operation → operation ≤ 4 → w' ≡ put_at w top (replicate len 0) → PutBy entries lines w marks slots entry start len view vlen top w' marks
  made_back {w'} low high c =
      by_put (filled_frame c) λ texts ss us g u X q st.
      subst (HandsBack texts w' marks slots top len) (made_rule low high X q st ss us) (record { source = source_untouched c; slots_hold = u })

  -- ## 05

  module _ (op : operation ≡ 0x05) {byte : ℕ} (is : byte ≡ slot_of (get_or entries entry no_entry)) where
    pub slot_found : among byte (bytes_to slots slots.count) ≡ true
    slot_found = rw is (slot_bound r op)

    pub slot_long : vlen ≡ (slot_at slots (innermost slots byte slots.count)).len
    unfolding Stands show
    slot_long =
        let f = found byte {k = innermost slots byte slots.count} room.bound slot_found (rw slot_found) in
        on_long (show (lookup_of lines) (slot entry byte) env src) vlen (seen.fits (slot entry byte) (suc entry) ((refl, op), is, refl)) λ a p l.
        sym l ∙ (ap (λ (x : Shown). length x.value) (sym (gives_inj _ a p)) ∙ (ap length (f.value (made_by entries) w) ∙ length_value (made_by entries) w _ _ (omega arith)))

    pub slot_back : {w' marks' : List ℕ} → w' ≡ put_at w top (replicate len 0) → marks' ≡ merged_at marks slots (innermost slots byte slots.count) w view
        → PutBy entries lines w marks slots entry start len view vlen top w' marks'
    unfolding put_back
    slot_back {w'} {marks'} c d =
        by_put (filled_frame c) λ texts ss us g u X q st.
        let n = slot_long in
        let m = merged_hold texts (made_by entries) w room.bound byte marks w view ss
        room.marks_long slot_found (omega arith) (subst (λ (k : ℕ). Holds texts w view k ss) n g) u in
        rw (at_slot entries X entry q st op, ← is, d) (record { source = source_untouched c; slots_hold = m })

  -- ## 06

  pub contents_long : operation ≡ 0x06 → len ≡ 1 + vlen
  unfolding Stands show
  contents_long op =
      on_long (show (lookup_of lines) (contents entry) env src) vlen (seen.fits (contents entry) (suc entry) ((refl, op), refl)) λ a e l.
      on_bind (one_element (lookup_of lines) entry src) _ a e λ x p e₁.
      sym src_long ∙ (on_element (lookup_of lines) (λ v z. length v ≡ 1 + length z.inner) (λ y v _ _. let k = length_lowered v in omega arith) entry src x p
      ∙ ap (λ (n : ℕ). 1 + n) (ap (λ (x : Shown). length x.value) (gives_inj _ a e₁) ∙ l))

  pub contents_back : {w' : List ℕ} → operation ≡ 0x06 → w' ≡ put_at (put_at w top (0 ∷ [])) (top + 1) (part w view vlen)
      → PutBy entries lines w marks slots entry start len view vlen top w' marks
  unfolding put_back all_over
  contents_back {w'} op c =
      let n = contents_long op in
      let w₁ = put_at w top (0 ∷ []) in
      let l₁ = length_put w top (0 ∷ []) (omega arith) in
      let l = length_part w view vlen (omega arith) in
      let f = kept_below w₁ (top + 1) (part w view vlen) c (omega arith) in
      by_put (frame_less w₁ w' (top + 1) top f (omega arith) ∙ kept_below w top (0 ∷ []) refl (omega arith)) λ texts ss us g u X q st.
      let own = holds_frame (top + 1) f (omega arith) (holds_untouched {texts = texts} (made 0 false [] ∷ []) w {w' = w₁} {to = top} refl refl (omega arith)) in
      rw (at_contents entries X entry q st op)
      (record { source = holds_join (omega arith) own (holds_copied w₁ c (omega arith) (omega arith) g); slots_hold = u })
