-- 08 put back: what was shown, what is asked of the two runs below, and what they make.
use mathlib.Core.Path.{◌≡◌, refl, sym, ap, subst, ◌∙◌}
use mathlib.Core.List.{List}
use Prim.Native.Nat.{ℕ, ◌+◌, ◌-◌}
use native.Mathlib.Numerals.{add-one}
use native.Mathlib.Omega.{arith}
use lib.ListN.{length, get_or, take}
use Rattle.lines.specs.Writing.{put_at}
use Rattle.lines.specs.Entries.{Entry}
use Rattle.lines.specs.Nodes.{Line}
use Rattle.values.specs.Values.{Value, Lookup}
use Rattle.values.specs.Standings.{Standing}
use Rattle.values.specs.Engine.Words.{part, value_at}
use Rattle.values.specs.Theorems.Extents.{length_part, frame_less}
use Rattle.values.proofs.Theorems.WordLaws.{value_frame}
use Rattle.runs.specs.declared.stop.Stop.{Stop}
use Rattle.runs.specs.declared.slots.SlotWords.{SlotWords}
use Rattle.runs.specs.Results.{gives}
use Rattle.runs.specs.Programs.{Transformation, and_then}
use Rattle.runs.specs.Showing.{Slots, Shown, show}
use Rattle.runs.specs.PuttingBack.{SlotStandings, value_of, put_back}
use Rattle.runs.specs.Engine.Runs.{Begun, made_by, lookup_of, slots_at, PutSpace, Seen, PutBy}
use Rattle.runs.specs.Engine.Trees.{Stands}
use Rattle.runs.specs.Theorems.Inversion.{gives_inj, on_bind}
use Rattle.runs.proofs.Trees.{at_then}
use Rattle.runs.proofs.SlotLaws.{slots_frame}
use Rattle.runs.proofs.PutWords.{holds_frame, holds_copied, kept_below}
use Rattle.runs.specs.Theorems.RunAnswers.{Got, Halted}
use Rattle.runs.proofs.PutRuns.{HandsBack, put_by, by_put, GivesLong, on_long, gives_long, got_value, not_stopped, got_seen, put_space}

-- the rule, of the words' values
then_rule : (look : Lookup) (e : ℕ) (Y Z : Transformation) (s s₁ s₂ : Slots) (v v₂ u : Value) (ss : List Standing) (us : SlotStandings)
    → s₁ ≡ s → s₂ ≡ s → v₂ ≡ v → u ≡ value_of (show look Y s v)
    → (let b = put_back look Z s₁ u ss us in put_back look Y s₂ v₂ b.in_source b.in_slots) ≡ put_back look (and_then e Y Z) s v ss us
unfolding put_back
then_rule look e Y Z s s₁ s₂ v v₂ u ss us a b c d = rw (a, b, c, d)

module _ {entries : List Entry} {lines : List Line} {ends w marks : List ℕ} {slots : SlotWords} {entry start len view vlen top levels : ℕ}
    (begun : Begun entries lines ends w marks slots entry start len view vlen top levels 0x08) where
  abbrev env : Slots
  env = slots_at (made_by entries) w slots

  abbrev src : Value
  src = value_at (made_by entries) w start len

  then_shown : (Y Z : Transformation) (m q : ℕ) → Stands entries Y (entry + 1) m → Stands entries Z m q
      → (a : Shown) × (show (lookup_of lines) Y env src ≡ gives a) × GivesLong (show (lookup_of lines) Z env a.value) vlen
  unfolding Stands show
  then_shown Y Z m q y z =
      on_long (show (lookup_of lines) (and_then entry Y Z) env src) vlen
      (begun.seen.fits (and_then entry Y Z) q ((refl, begun.op), (m, subst (λ (j : ℕ). Stands entries Y j m) (add-one entry) y, z))) λ o e l.
      on_bind (show (lookup_of lines) Y env src) _ o e λ a p e₁.
      on_bind (show (lookup_of lines) Z env a.value) _ o e₁ λ b s e₂.
      (a, p, gives_long (show (lookup_of lines) Z env a.value) b vlen s (ap (λ (x : Shown). length x.value) (gives_inj _ o e₂) ∙ l))

  pub then_goes : {w₁ : List ℕ} {s : Stop} → Halted entries lines w slots (entry + 1) start len top w₁ s → ⊥
  then_goes x =
      let f = at_then entries begun.ready.tree entry begun.ready.behind begun.ready.placed.stands begun.op in
      let a = then_shown f.0 f.1 f.2 begun.ready.behind f.4 f.5 in
      not_stopped x f.0 f.2 f.4 (gives_long _ a.0 _ a.1 refl)

  module _ {w₁ : List ℕ} {n : ℕ} (x : Got entries lines w slots (entry + 1) start len top w₁ n) where
    pub then_asks_second : {marks' : List ℕ} → length marks' ≡ length marks
        → PutSpace w₁ marks' slots top n view vlen (top + 128) (levels - 1) × Seen entries lines w₁ slots (get_or ends (entry + 1) 0) top n vlen
    unfolding value_of
    then_asks_second k =
        let two = begun.two in
        let s = x.small in (
          put_space begun.room x.kept k (omega arith) s (omega arith) (omega arith) (omega arith),
          record {
            fits = λ Z q z.
                let f = at_then entries begun.ready.tree entry begun.ready.behind begun.ready.placed.stands begun.op in
                let a = then_shown f.0 Z f.2 q f.4 (subst (λ (j : ℕ). Stands entries Z j q) (begun.ready.ended.tree f.0 (entry + 1) f.2 f.4) z) in
                rw (slots_frame (made_by entries) w w₁ begun.room.bound x.frame, got_value x f.0 f.2 f.4, a.1) a.2;
          },
        )

    pub then_asks_first : {w₂ marks' : List ℕ} → take (top + 128) w₂ ≡ take (top + 128) w₁ → length w₂ ≡ length w₁ → length marks' ≡ length marks
        → PutSpace w₂ marks' slots start len (top + 128) n (top + 256) (levels - 1) × Seen entries lines w₂ slots (entry + 1) start len n
    then_asks_first {w₂} f l k =
        let two = begun.two in
        let b = begun.room.below in
        let h = begun.room.short in (
          put_space begun.room (l ∙ x.kept) k (omega arith) h (omega arith) (omega arith) (omega arith),
          got_seen x (omega arith) (frame_less w₁ w₂ (top + 128) top f (omega arith) ∙ x.frame) b begun.room.bound,
        )

    pub then_back : {w₂ w₃ w₄ marks₂ marks₃ : List ℕ} → length w₃ ≡ length w
        → PutBy entries lines w₁ marks slots (get_or ends (entry + 1) 0) top n view vlen (top + 128) w₂ marks₂
        → PutBy entries lines w₂ marks₂ slots (entry + 1) start len (top + 128) n (top + 256) w₃ marks₃
        → w₄ ≡ put_at w₃ top (part w₃ (top + 256) len)
        → PutBy entries lines w marks slots entry start len view vlen top w₄ marks₃
    then_back {w₂} {w₃} {w₄} {marks₂} {marks₃} long₃ y z c =
        let two = begun.two in
        let b = begun.room.below in
        let v = begun.room.view_below in
        let f₂ : take top w₂ ≡ take top w = frame_less w₁ w₂ (top + 128) top y.frame (omega arith) ∙ x.frame in
        let f₃ : take top w₃ ≡ take top w = frame_less w₂ w₃ (top + 256) top z.frame (omega arith) ∙ f₂ in
        let l = length_part w₃ (top + 256) len (omega arith) in
        by_put (kept_below w₃ top (part w₃ (top + 256) len) c (omega arith) ∙ f₃) λ texts ss us g u X q st.
        let t = at_then entries X entry q st begun.op in
        let i = put_by y (holds_frame top x.frame v g) u t.1 q
        (subst (λ (j : ℕ). Stands entries t.1 j q) (sym (begun.ready.ended.tree t.0 (entry + 1) t.2 t.4)) t.5) in
        let j = put_by z i.source i.slots_hold t.0 t.2 t.4 in
        let k = subst (HandsBack texts w₃ marks₃ slots (top + 256) len) (then_rule (lookup_of lines) entry t.0 t.1 env _ _ src _ _ ss us
        (slots_frame (made_by entries) w w₁ begun.room.bound x.frame)
        (slots_frame (made_by entries) w w₂ begun.room.bound f₂) (value_frame (made_by entries) w w₂ top start len f₂ b)
        (got_value x t.0 t.2 t.4)) j in
        rw t.3 (record { source = holds_copied w₃ c (omega arith) (omega arith) k.source; slots_hold = k.slots_hold })
