-- The slots' standings: kept where their words are kept; one more slot, untouched at first; a view merged into the innermost of a byte.
use mathlib.Core.Path.{◌≡◌, refl, sym, ap, ap₂, subst, ◌∙◌}
use mathlib.Core.Bool.{Bool, true, false, cond, ◌||◌}
use mathlib.Core.List.{List, ◌∷◌}
use mathlib.Core.Logic.{◌⊎◌, inl, inr}
use Prim.Native.Nat.{ℕ, zero, suc, ◌+◌, ◌*◌, ◌≤◌, ◌<◌}
use native.Mathlib.Numerals.{add-one}
use native.Mathlib.Omega.{arith}
use lib.Dec.{eqb}
use lib.ListN.{length, replicate, length-replicate}
use Rattle.lines.specs.Writing.{put_at}
use Rattle.values.specs.Values.{Value, among}
use Rattle.values.specs.Standings.{Standing, untouched, all_over, merged}
use Rattle.values.specs.Engine.Words.{Made, part, standings_at, AllNamed, merged_words}
use Rattle.values.specs.Theorems.Extents.{length_part, put_other}
use Rattle.values.proofs.Theorems.WordLaws.{merged_length}
use Rattle.runs.specs.declared.slots.SlotWords.{SlotWords}
use Rattle.runs.specs.PuttingBack.{SlotStandings, first_slot, rest_slots, merged_into}
use Rattle.runs.specs.Engine.Runs.{slots_to, slots_at, bytes_to, Bound, marks_to, marks_at, NamedTo, merged_at}
use Rattle.runs.specs.Engine.SlotWords.{slot_at, one_more, innermost}
use Rattle.runs.proofs.SlotLaws.{kept, last}
use Rattle.runs.proofs.PutWords.{Holds, holds_same, holds_untouched, holds_merged}

pub record SlotsHold (texts : ℕ → List ℕ) (marks : List ℕ) (slots : SlotWords) (us : SlotStandings) : Type 0 where
  pub says : marks_at texts marks slots ≡ us
  pub named : NamedTo texts marks slots slots.count

-- the same standings in the first k slots
abbrev SameTo : (ℕ → List ℕ) → List ℕ → SlotWords → List ℕ → SlotWords → ℕ → Type 0
SameTo texts marks slots marks' slots' k = (marks_to texts marks' slots' k ≡ marks_to texts marks slots k) × (NamedTo texts marks slots k → NamedTo texts marks' slots' k)

-- where each has the same words and the same length
same_to : (texts : ℕ → List ℕ) (marks marks' : List ℕ) (slots slots' : SlotWords) (k : ℕ)
    → ((i : ℕ) → i < k → ((slot_at slots' i).len ≡ (slot_at slots i).len) × (part marks' (128 * i) ((slot_at slots i).len) ≡ part marks (128 * i) ((slot_at slots i).len)))
    → SameTo texts marks slots marks' slots' k
unfolding marks_to standings_at
same_to texts marks marks' slots slots' zero e = (refl, λ n. tt)
same_to texts marks marks' slots slots' (suc k) e =
    let h = e k (omega arith) in
    let r = same_to texts marks marks' slots slots' k (λ i l. e i (omega arith)) in
    (rw (h.0, h.1, r.0), λ n. (rw (h.0, h.1) n.0, r.1 n.1))

-- ## One more

module _ (texts : ℕ → List ℕ) {slots : SlotWords} {top : ℕ} (b : Bound slots top) (left : slots.count < 4) (byte start len : ℕ) where
  inner_length : (i : ℕ) → i < slots.count → (slot_at (one_more slots byte start len) i).len ≡ (slot_at slots i).len
  inner_length i h = rw (kept b left byte start len i h)

  new_length : (slot_at (one_more slots byte start len) slots.count).len ≡ len
  new_length = rw (last b left byte start len)

  -- it starts untouched
  pub more_hold : (v : Value) {marks : List ℕ} {us : SlotStandings} → length v ≡ len → len ≤ 128 → length marks ≡ 512 → SlotsHold texts marks slots us
      → SlotsHold texts (put_at marks (128 * slots.count) (replicate len 0)) (one_more slots byte start len) (all_over untouched v ∷ us)
  unfolding marks_at marks_to
  more_hold v {marks} {us} l short long h =
      let k = slots.count in
      let new = holds_untouched {texts = texts} v marks {to = 128 * k} refl l (omega arith) in
      let kept = same_to texts marks (put_at marks (128 * k) (replicate len 0)) slots (one_more slots byte start len) k (λ i m.
      let s = b.short i m in
      let r : length (replicate {A = ℕ} len 0) ≡ len = length-replicate len 0 in
      (inner_length i m, put_other marks (128 * k) (replicate len 0) (omega arith) (128 * i) ((slot_at slots i).len) (inl (omega arith)))) in
      record {
        says =
            ap (marks_to texts _ (one_more slots byte start len)) (add-one k)
            ∙ rw new_length (ap₂ (λ (ss : List Standing) (r : SlotStandings). ss ∷ r) new.says (kept.0 ∙ h.says));
        named = subst (NamedTo texts _ (one_more slots byte start len)) (sym (add-one k)) (rw new_length (new.named, kept.1 h.named));
      }

  -- and is handed back
  pub less_hold : {marks : List ℕ} {us : SlotStandings} → SlotsHold texts marks (one_more slots byte start len) us
      → Holds texts marks (128 * slots.count) len (first_slot us) × SlotsHold texts marks slots (rest_slots us)
  unfolding marks_at marks_to
  less_hold {marks} {us} h =
      let k = slots.count in
      let inner = one_more slots byte start len in
      let s : standings_at texts marks (128 * k) len ∷ marks_to texts marks inner k ≡ us = rw new_length at (sym (ap (marks_to texts marks inner) (add-one k)) ∙ h.says) in
      let n : AllNamed texts (part marks (128 * k) len) × NamedTo texts marks inner k = rw new_length at (subst (NamedTo texts marks inner) (add-one k) h.named) in
      let kept = same_to texts marks marks (one_more slots byte start len) slots k (λ i m. (sym (inner_length i m), refl)) in (
        record { says = ap first_slot s; named = n.0 },
        record { says = kept.0 ∙ ap rest_slots s; named = kept.1 n.1 },
      )

-- ## A view merged into the innermost of a byte

module _ (texts : ℕ → List ℕ) (made : Made) (w₀ : List ℕ) {slots : SlotWords} {top : ℕ} (b : Bound slots top)
    (byte : ℕ) (marks w : List ℕ) (view : ℕ) (ss : List Standing) (long : length marks ≡ 512) where
  -- into slot j
  module _ (j : ℕ) (few : j < slots.count) (fits : view + (slot_at slots j).len ≤ length w) where
    new_fits : 128 * j + length (merged_words (part marks (128 * j) ((slot_at slots j).len)) (part w view ((slot_at slots j).len))) ≤ 128 * j + 128
    new_fits =
        let s = b.short j few in
        let f = b.few in
        let p = length_part marks (128 * j) ((slot_at slots j).len) (omega arith) in
        let q = length_part w view ((slot_at slots j).len) fits in
        let m = merged_length (part marks (128 * j) ((slot_at slots j).len)) (part w view ((slot_at slots j).len)) (p ∙ sym q) in
        omega arith

    -- the others keep their words
    merged_other : (i : ℕ) → i < slots.count → (i < j) ⊎ (j < i)
        → part (merged_at marks slots j w view) (128 * i) ((slot_at slots i).len) ≡ part marks (128 * i) ((slot_at slots i).len)
    merged_other i h (inl l) =
        let s = b.short i h in
        let f = b.few in
        let n = new_fits in
        put_other marks (128 * j) _ (omega arith) (128 * i) ((slot_at slots i).len) (inl (omega arith))
    merged_other i h (inr l) =
        let s = b.short i h in
        let f = b.few in
        let n = new_fits in
        put_other marks (128 * j) _ (omega arith) (128 * i) ((slot_at slots i).len) (inr (omega arith))

    merged_here : Holds texts w view ((slot_at slots j).len) ss → AllNamed texts (part marks (128 * j) ((slot_at slots j).len))
        → Holds texts (merged_at marks slots j w view) (128 * j) ((slot_at slots j).len) (merged (standings_at texts marks (128 * j) ((slot_at slots j).len)) ss)
    merged_here h n =
        let s = b.short j few in
        let f = b.few in
        holds_merged marks refl (omega arith) fits (omega arith) (record { says = refl; named = n }) h

  -- what is said of the first k slots with slot j merged
  abbrev MergedTo : ℕ → ℕ → Type 0
  MergedTo j k =
      (marks_to texts (merged_at marks slots j w view) slots k ≡ merged_into byte (slots_to made w₀ slots k) ss (marks_to texts marks slots k))
      × NamedTo texts (merged_at marks slots j w view) slots k

  merged_to : (k : ℕ) → k ≤ slots.count → among byte (bytes_to slots k) ≡ true
      → let j = innermost slots byte k in
      view + (slot_at slots j).len ≤ length w → Holds texts w view ((slot_at slots j).len) ss → NamedTo texts marks slots k
      → (j < k) × MergedTo j k
  unfolding among bytes_to innermost slots_to marks_to merged_into
  merged_to zero few found fits h n = let z : ◌≡◌ {A = ℕ} 0 1 = cc in absurd (omega arith)
  merged_to (suc k) few found fits h n = go (eqb byte ((slot_at slots k).byte)) found fits h (λ f l g. merged_to k (omega arith) f l g n.1)
    where
      go : (t : Bool) → (t || among byte (bytes_to slots k)) ≡ true
          → let j = innermost slots byte k in
          view + (slot_at slots (cond t k j)).len ≤ length w → Holds texts w view ((slot_at slots (cond t k j)).len) ss
          → (among byte (bytes_to slots k) ≡ true → view + (slot_at slots j).len ≤ length w → Holds texts w view ((slot_at slots j).len) ss → (j < k) × MergedTo j k)
          → (cond t k j < suc k)
          × ((marks_to texts (merged_at marks slots (cond t k j) w view) slots (suc k)
          ≡ cond t (merged (standings_at texts marks (128 * k) ((slot_at slots k).len)) ss ∷ marks_to texts marks slots k)
          (standings_at texts marks (128 * k) ((slot_at slots k).len) ∷ merged_into byte (slots_to made w₀ slots k) ss (marks_to texts marks slots k)))
          × NamedTo texts (merged_at marks slots (cond t k j) w view) slots (suc k))
      go true found fits h ih =
          let new = merged_here k few fits h n.0 in
          let kept = same_to texts marks (merged_at marks slots k w view) slots slots k (λ i l. (refl, merged_other k few fits i (omega arith) (inl l))) in
          (omega arith, (ap₂ (λ (x : List Standing) (r : SlotStandings). x ∷ r) new.says kept.0, (new.named, kept.1 n.1)))
      go false found fits h ih =
          let r = ih found fits h in
          let l = r.0 in
          let j = innermost slots byte k in
          let first : part (merged_at marks slots j w view) (128 * k) ((slot_at slots k).len) ≡ part marks (128 * k) ((slot_at slots k).len)
          = merged_other j (omega arith) fits k few (inr l) in (
            omega arith,
            (
              ap₂ (λ (x : List Standing) (r : SlotStandings). x ∷ r) (holds_same {w = marks} first (record { says = refl; named = n.0 })).says r.1.0,
              (subst (AllNamed texts) (sym first) n.0, r.1.1),
            ),
          )

  pub merged_hold : {us : SlotStandings} → among byte (bytes_to slots slots.count) ≡ true
      → let j = innermost slots byte slots.count in
      view + (slot_at slots j).len ≤ length w → Holds texts w view ((slot_at slots j).len) ss → SlotsHold texts marks slots us
      → SlotsHold texts (merged_at marks slots j w view) slots (merged_into byte (slots_at made w₀ slots) ss us)
  unfolding slots_at marks_at
  merged_hold {us} found fits h u =
      let r = (merged_to slots.count (omega arith) found fits h u.named).1 in
      record { says = r.0 ∙ ap (merged_into byte (slots_to made w₀ slots slots.count) ss) u.says; named = r.1 }
