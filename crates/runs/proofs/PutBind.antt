-- 0C put back: X over nothing with one slot more, untouched at first; what the slot holds then is handed back.
use mathlib.Core.Path.{◌≡◌, refl, sym, ap, subst, ◌∙◌}
use mathlib.Core.List.{List, [], ◌∷◌}
use Prim.Native.Nat.{ℕ, ◌+◌, ◌-◌, ◌*◌, ◌≤◌}
use native.Mathlib.Numerals.{add-one}
use native.Mathlib.Omega.{arith}
use lib.ListN.{length, get_or, replicate, length-replicate}
use Rattle.lines.specs.Writing.{put_at}
use Rattle.lines.specs.Entries.{Entry, slot_of}
use Rattle.lines.specs.Nodes.{Line}
use Rattle.lines.specs.Theorems.PutAt.{length_put}
use Rattle.values.specs.Values.{Value, Lookup}
use Rattle.values.specs.Standings.{Standing, untouched, all_over}
use Rattle.values.specs.Engine.Words.{part, value_at}
use Rattle.values.specs.Theorems.Extents.{length_part}
use Rattle.values.proofs.Theorems.WordLaws.{length_value, value_none}
use Rattle.runs.specs.declared.slots.SlotWords.{SlotWords}
use Rattle.runs.specs.Programs.{Transformation, bind}
use Rattle.runs.specs.Reading.{no_entry}
use Rattle.runs.specs.Showing.{Slots, show}
use Rattle.runs.specs.PuttingBack.{SlotStandings, first_slot, rest_slots, back, put_back}
use Rattle.runs.specs.Engine.Runs.{Begun, made_by, lookup_of, slots_at, PutSpace, Seen, PutBy}
use Rattle.runs.specs.Engine.SlotWords.{one_more}
use Rattle.runs.specs.Theorems.Combinators.{bound}
use Rattle.runs.specs.Engine.Trees.{Stands}
use Rattle.runs.proofs.Trees.{at_bind, slots_left}
use Rattle.runs.proofs.SlotLaws.{more_at, more_bound}
use Rattle.runs.proofs.PutWords.{holds_copied, kept_below}
use Rattle.runs.proofs.PutSlots.{SlotsHold, more_hold, less_hold}
use Rattle.runs.proofs.PutRuns.{HandsBack, put_by, by_put, GivesLong}

-- the rule, of the words' values
bind_rule : (look : Lookup) (e k : ℕ) (Y : Transformation) (s s₁ : Slots) (v u : Value) (ss : List Standing) (us : SlotStandings) → s₁ ≡ bound k s v → u ≡ []
    → (let b = put_back look Y s₁ u ss (all_over untouched v ∷ us) in back (first_slot b.in_slots) (rest_slots b.in_slots)) ≡ put_back look (bind e k Y) s v ss us
unfolding put_back
bind_rule look e k Y s s₁ v u ss us a b = rw (a, b)

module _ {entries : List Entry} {lines : List Line} {ends w marks : List ℕ} {slots : SlotWords} {entry start len view vlen top levels : ℕ}
    (begun : Begun entries lines ends w marks slots entry start len view vlen top levels 0x0C)
    {byte : ℕ} (slot : byte ≡ slot_of (get_or entries entry no_entry)) where
  abbrev env : Slots
  env = slots_at (made_by entries) w slots

  abbrev src : Value
  src = value_at (made_by entries) w start len

  abbrev inner : SlotWords
  inner = one_more slots byte start len

  env_inner : slots_at (made_by entries) w inner ≡ bound (slot_of (get_or entries entry no_entry)) env src
  env_inner = more_at begun.room.bound (slots_left begun.ready begun.op) byte start len (made_by entries) w ∙ ap (λ (k : ℕ). bound k env src) slot

  module _ {marks₁ : List ℕ} (c₁ : marks₁ ≡ put_at marks (128 * slots.count) (replicate len 0)) where
    pub bind_asks : 1 ≤ levels → PutSpace w marks₁ inner top 0 view vlen top (levels - 1) × Seen entries lines w inner (entry + 1) top 0 vlen
    unfolding show Stands
    bind_asks some =
        let k = begun.room.marks_long in
        let h = begun.room.short in
        let left = slots_left begun.ready begun.op in
        let l : length (replicate {A = ℕ} len 0) ≡ len = length-replicate len 0 in
        let m = length_put marks (128 * slots.count) (replicate len 0) (omega arith) in (
          record {
            below = omega arith;
            short = omega arith;
            view_below = begun.room.view_below;
            enough = omega arith;
            low = omega arith;
            marks_long = ap length c₁ ∙ (m ∙ k);
            bound = more_bound begun.room.bound left byte start len begun.room.below h;
          },
          record {
            fits = λ Y q y. subst (λ (v : Value). GivesLong (show (lookup_of lines) Y (slots_at (made_by entries) w inner) v) vlen) (sym (value_none (made_by entries) w top))
                (subst (λ (s : Slots). GivesLong (show (lookup_of lines) Y s []) vlen) (sym env_inner)
                (begun.seen.fits (bind entry (slot_of (get_or entries entry no_entry)) Y) q ((refl, begun.op), refl, subst (λ (j : ℕ). Stands entries Y j q) (add-one entry) y)));
          },
        )

    pub bind_back : {w₂ w₃ marks₂ : List ℕ} → 1 ≤ levels → length w₂ ≡ length w → length marks₂ ≡ 512
        → PutBy entries lines w marks₁ inner (entry + 1) top 0 view vlen top w₂ marks₂
        → w₃ ≡ put_at w₂ top (part marks₂ (128 * slots.count) len)
        → PutBy entries lines w marks slots entry start len view vlen top w₃ marks₂
    bind_back {w₂} {w₃} {marks₂} some long₂ long y c =
        let h = begun.room.short in
        let left = slots_left begun.ready begun.op in
        let l = length_part marks₂ (128 * slots.count) len (omega arith) in
        by_put (kept_below w₂ top (part marks₂ (128 * slots.count) len) c (omega arith) ∙ y.frame) λ texts ss us g u X q st.
        let t = at_bind entries X entry q st begun.op in
        let v = length_value (made_by entries) w start len (omega arith) in
        let fresh = subst (λ (m : List ℕ). SlotsHold texts m inner (all_over untouched src ∷ us)) (sym c₁)
        (more_hold texts begun.room.bound left byte start len src v h begun.room.marks_long u) in
        let i = put_by y g fresh t.0 q t.2 in
        let j = less_hold texts begun.room.bound left byte start len i.slots_hold in
        rw t.1 (subst (HandsBack texts w₃ marks₂ slots top len)
        (bind_rule (lookup_of lines) entry (slot_of (get_or entries entry no_entry)) t.0 env _ src _ ss us env_inner (value_none (made_by entries) w top))
        (record { source = holds_copied w₂ c (omega arith) (omega arith) j.0; slots_hold = j.1 }))
