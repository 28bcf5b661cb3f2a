-- 07 put back: the source is an element, its contents are lowered to top, and X is put back over them.
use mathlib.Core.Path.{◌≡◌, refl, sym, ap, subst, ◌∙◌}
use mathlib.Core.List.{List, [], ◌∷◌, ◌++◌, map}
use mathlib.Core.Logic.{inr}
use Prim.Native.Nat.{ℕ, suc, ◌+◌, ◌-◌, ◌≤◌}
use native.Mathlib.Numerals.{add-one}
use native.Mathlib.Omega.{arith}
use lib.ListN.{length, take, drop, length-map}
use Rattle.lines.specs.Writing.{put_at}
use Rattle.lines.specs.Entries.{Entry}
use Rattle.lines.specs.Nodes.{Line}
use Rattle.lines.specs.Theorems.PutAt.{length_put, put_part}
use Rattle.values.specs.Values.{Value, Lookup, raised, lowered}
use Rattle.values.specs.Standings.{Standing}
use Rattle.values.specs.Engine.Words.{part, node_of, value_at, lowered_word}
use Rattle.values.specs.Theorems.Extents.{length_part, frame_less}
use Rattle.values.specs.Theorems.Forests.{length_raised}
use Rattle.values.proofs.Theorems.WordLaws.{length_value, value_cons, lowered_words}
use Rattle.runs.specs.declared.slots.SlotWords.{SlotWords}
use Rattle.runs.specs.Results.{gives}
use Rattle.runs.specs.Programs.{Transformation, within}
use Rattle.runs.specs.Showing.{Slots, one_element, show}
use Rattle.runs.specs.PuttingBack.{SlotStandings, back, inside, put_back}
use Rattle.runs.specs.Engine.Runs.{Begun, made_by, lookup_of, slots_at, PutSpace, Seen, PutBy}
use Rattle.runs.specs.Engine.Trees.{Stands}
use Rattle.runs.specs.Theorems.Inversion.{on_bind, on_element, on_bounded}
use Rattle.runs.proofs.Trees.{at_within}
use Rattle.runs.proofs.SlotLaws.{slots_frame}
use Rattle.runs.proofs.PutWords.{kept_below, holds_length, holds_frame, holds_cut, holds_join, holds_copied, holds_other}
use Rattle.runs.proofs.PutRuns.{HandsBack, put_by, by_put, GivesLong, on_long, gives_long, put_space}

-- the rule, of the words' values
within_rule : (look : Lookup) (e : ℕ) (Y : Transformation) (s s₁ : Slots) (v u : Value) (ss : List Standing) (us : SlotStandings) → s₁ ≡ s → u ≡ inside v → 1 ≤ length ss
    → (let a = put_back look Y s₁ u (drop 1 ss) us in back (take 1 ss ++ a.in_source) a.in_slots) ≡ put_back look (within e Y) s v ss us
unfolding put_back
within_rule look e Y s s₁ v u [] us a b h = absurd (omega arith)
within_rule look e Y s s₁ v u (x ∷ ss) us a b h = rw (a, b)

module _ {entries : List Entry} {lines : List Line} {ends w marks : List ℕ} {slots : SlotWords} {entry start len view vlen top levels : ℕ}
    (begun : Begun entries lines ends w marks slots entry start len view vlen top levels 0x07) where
  abbrev env : Slots
  env = slots_at (made_by entries) w slots

  abbrev src : Value
  src = value_at (made_by entries) w start len

  within_shown : (Y : Transformation) (q : ℕ) → Stands entries Y (entry + 1) q → (1 ≤ len) × (1 ≤ vlen) × GivesLong (show (lookup_of lines) Y env (inside src)) (vlen - 1)
  unfolding Stands show inside
  within_shown Y q y =
      let fits = length_value (made_by entries) w start len (let b = begun.room.below in let e = begun.room.enough in omega arith) in
      on_long (show (lookup_of lines) (within entry Y) env src) vlen
      (begun.seen.fits (within entry Y) q ((refl, begun.op), subst (λ (j : ℕ). Stands entries Y j q) (add-one entry) y)) λ o e l.
      on_bind (one_element (lookup_of lines) entry src) _ o e λ x p e₁.
      on_bind (show (lookup_of lines) Y env x.inner) _ o e₁ λ a s e₂.
      let k : (1 ≤ length src) × GivesLong (show (lookup_of lines) Y env (inside src)) (length a.value) =
      on_element (lookup_of lines)
      (λ v z. show (lookup_of lines) Y env z.inner ≡ gives a → (1 ≤ length v) × GivesLong (show (lookup_of lines) Y env (inside v)) (length a.value))
      (λ y v _ _ t. (omega arith, gives_long (show (lookup_of lines) Y env (lowered v)) a (length a.value) t refl)) entry src x p s in
      let n : suc (length a.value) ≡ vlen =
      on_bounded (λ z. length z.value ≡ vlen → suc (length a.value) ≡ vlen) entry
      (x.top ∷ raised a.value) a.compared o e₂ (λ _ m. ap suc (sym (length_raised a.value)) ∙ m) l in
      let d : length a.value ≡ vlen - 1 = omega arith in
      (let f = k.0 in omega arith, omega arith, subst (GivesLong (show (lookup_of lines) Y env (inside src))) d k.1)

  below_shown : let f = at_within entries begun.ready.tree entry begun.ready.behind begun.ready.placed.stands begun.op in
      (1 ≤ len) × (1 ≤ vlen) × GivesLong (show (lookup_of lines) f.0 env (inside src)) (vlen - 1)
  below_shown =
      let f = at_within entries begun.ready.tree entry begun.ready.behind begun.ready.placed.stands begun.op in
      within_shown f.0 begun.ready.behind f.2

  pub within_some : (1 ≤ len) × (1 ≤ vlen)
  within_some = (below_shown.0, below_shown.1)

  -- the contents as a value, in words
  abbrev inner : List ℕ
  inner = map lowered_word (part w (start + 1) (len - 1))

  -- at top
  module _ {w₁ : List ℕ} (c₁ : w₁ ≡ put_at w top inner) where
    contents_long : length inner ≡ len - 1
    contents_long = let s = within_some in let b = begun.room.below in let e = begun.room.enough in
        length-map (part w (start + 1) (len - 1)) lowered_word ∙ length_part w (start + 1) (len - 1) (omega arith)

    fits₁ : top + length inner ≤ length w
    fits₁ = let l = contents_long in let s = begun.two in let b = begun.room.short in let e = begun.room.enough in omega arith

    frame₁ : take top w₁ ≡ take top w
    frame₁ = kept_below w top inner c₁ fits₁

    long₁ : length w₁ ≡ length w
    long₁ = ap length c₁ ∙ length_put w top inner fits₁

    contents_at : value_at (made_by entries) w₁ top (len - 1) ≡ inside src
    unfolding value_at inside
    contents_at =
        let s = within_some in
        let two = begun.two in
        let more : len ≡ (len - 1) + 1 = omega arith in
        let put = put_part w top inner (omega (arith, fits₁)) in
        ap (map (node_of (made_by entries))) (ap (λ (l : List ℕ). part l top (len - 1)) c₁ ∙ (ap (part (put_at w top inner) top) (sym contents_long) ∙ put))
        ∙ (lowered_words (made_by entries) (part w (start + 1) (len - 1))
        ∙ sym (ap (λ (n : ℕ). inside (value_at (made_by entries) w start n)) more ∙ ap inside (value_cons (made_by entries) w start (len - 1) (omega arith))))

    pub within_asks : PutSpace w₁ marks slots top (len - 1) (view + 1) (vlen - 1) (top + 128) (levels - 1) × Seen entries lines w₁ slots (entry + 1) top (len - 1) (vlen - 1)
    within_asks =
        let s = within_some in
        let two = begun.two in (
          put_space begun.room long₁ refl (omega arith) (omega arith) (omega arith) (omega arith) (omega arith),
          record { fits = λ Y q y. rw (slots_frame (made_by entries) w w₁ begun.room.bound frame₁, contents_at) (within_shown Y q y).2 },
        )

    pub within_back : {w₂ w₃ w₄ marks₂ : List ℕ} → length w₂ ≡ length w₁ → length w₃ ≡ length w
        → PutBy entries lines w₁ marks slots (entry + 1) top (len - 1) (view + 1) (vlen - 1) (top + 128) w₂ marks₂
        → w₃ ≡ put_at w₂ top (part w₂ view 1) → w₄ ≡ put_at w₃ (top + 1) (part w₃ (top + 128) (len - 1))
        → PutBy entries lines w marks slots entry start len view vlen top w₄ marks₂
    within_back {w₂} {w₃} {w₄} {marks₂} l₂ long₃ y c₃ c₄ =
        let s = within_some in
        let two = begun.two in
        let long₂ = l₂ ∙ long₁ in
        let f₂ : take top w₂ ≡ take top w = frame_less w₁ w₂ (top + 128) top y.frame (omega arith) ∙ frame₁ in
        let n₃ = length_part w₂ view 1 (omega arith) in
        let n₄ = length_part w₃ (top + 128) (len - 1) (omega arith) in
        let g₃ = kept_below w₂ top (part w₂ view 1) c₃ (omega arith) in
        let g₄ = kept_below w₃ (top + 1) (part w₃ (top + 128) (len - 1)) c₄ (omega arith) in
        by_put (frame_less w₃ w₄ (top + 1) top g₄ (omega arith) ∙ (g₃ ∙ f₂)) λ texts ss us g u X q st.
        let t = at_within entries X entry q st begun.op in
        let cut = holds_cut {a = 1} {b = vlen - 1} (omega arith) (omega arith) g in
        let i = put_by y (holds_frame top frame₁ (omega arith) cut.1) u t.0 q t.2 in
        let own = holds_frame (top + 1) g₄ (omega arith) (holds_copied w₂ c₃ (omega arith) (omega arith) (holds_frame top f₂ (omega arith) cut.0)) in
        let rest = holds_copied w₃ c₄ (omega arith) (omega arith) (holds_other (part w₂ view 1) c₃ (omega arith) (inr (omega arith)) i.source) in
        rw t.1 (subst (HandsBack texts w₄ marks₂ slots top len)
        (within_rule (lookup_of lines) entry t.0 env _ src _ ss us
        (slots_frame (made_by entries) w w₁ begun.room.bound frame₁) contents_at (omega (arith, holds_length g (omega arith))))
        (record { source = holds_join (omega arith) own rest; slots_hold = i.slots_hold }))
