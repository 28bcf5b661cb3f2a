-- 09 put back: the view is cut by what the two parts showed, and the two sources are merged.
use mathlib.Core.Path.{◌≡◌, refl, sym, ap, subst, ◌∙◌}
use mathlib.Core.List.{List}
use Prim.Native.Nat.{ℕ, ◌+◌, ◌-◌, ◌≤◌}
use native.Mathlib.Numerals.{add-one}
use native.Mathlib.Omega.{arith}
use lib.ListN.{length, get_or, take, drop, length-append, length-drop}
use lib.Seq.{take_all}
use Rattle.lines.specs.Writing.{put_at}
use Rattle.lines.specs.Entries.{Entry}
use Rattle.lines.specs.Nodes.{Line}
use Rattle.values.specs.Values.{Value, Lookup}
use Rattle.values.specs.Standings.{Standing, merged}
use Rattle.values.specs.Engine.Words.{part, value_at, merged_words}
use Rattle.values.specs.Theorems.Extents.{length_part, frame_less}
use Rattle.values.proofs.Theorems.WordLaws.{value_frame, merged_length}
use Rattle.runs.specs.declared.stop.Stop.{Stop}
use Rattle.runs.specs.declared.slots.SlotWords.{SlotWords}
use Rattle.runs.specs.Results.{Result, gives}
use Rattle.runs.specs.Programs.{Transformation, beside}
use Rattle.runs.specs.Showing.{Slots, Shown, show}
use Rattle.runs.specs.PuttingBack.{SlotStandings, back, value_of, put_back}
use Rattle.runs.specs.Engine.Runs.{Begun, made_by, lookup_of, slots_at, PutSpace, Seen, PutBy}
use Rattle.runs.specs.Engine.Trees.{Stands}
use Rattle.runs.specs.Theorems.Inversion.{on_pair}
use Rattle.runs.proofs.Trees.{at_beside}
use Rattle.runs.proofs.SlotLaws.{slots_frame}
use Rattle.runs.proofs.PutWords.{merged_comm, holds_length, holds_frame, holds_cut, holds_merged, kept_below}
use Rattle.runs.specs.Theorems.RunAnswers.{Got, Halted}
use Rattle.runs.proofs.PutRuns.{HandsBack, put_by, by_put, on_long, gives_long, got_size, not_stopped, got_seen, put_space}

-- the rule, of the words' values and of a view as long as the two parts
beside_rule : (look : Lookup) (e : ℕ) (Y Z : Transformation) (s s₁ s₂ : Slots) (v v₁ v₂ : Value) (m n : ℕ) (ss : List Standing) (us : SlotStandings)
    → s₁ ≡ s → s₂ ≡ s → v₁ ≡ v → v₂ ≡ v → m ≡ length (value_of (show look Y s v)) → n ≡ length (value_of (show look Z s v)) → length ss ≡ m + n
    → (let b = put_back look Z s₁ v₁ (drop m ss) us in let a = put_back look Y s₂ v₂ (take m ss) b.in_slots in back (merged b.in_source a.in_source) a.in_slots)
    ≡ put_back look (beside e Y Z) s v ss us
unfolding put_back
beside_rule look e Y Z s s₁ s₂ v v₁ v₂ m n ss us a b c d f g l =
    let t : drop m ss ≡ take n (drop m ss) = sym (take_all n (drop m ss) (omega (arith, length-drop m ss))) in
    rw (a, b, c, d)
    (ap (λ (x : List Standing).
    let b = put_back look Z s v x us in
    let a = put_back look Y s v (take m ss) b.in_slots in
    back (merged b.in_source a.in_source) a.in_slots) t
    ∙ rw (f, g, merged_comm (put_back look Z s v (take (length (value_of (show look Z s v))) (drop (length (value_of (show look Y s v))) ss)) us).in_source _))

module _ {entries : List Entry} {lines : List Line} {ends w marks : List ℕ} {slots : SlotWords} {entry start len view vlen top levels : ℕ}
    (begun : Begun entries lines ends w marks slots entry start len view vlen top levels 0x09) where
  abbrev env : Slots
  env = slots_at (made_by entries) w slots

  abbrev src : Value
  src = value_at (made_by entries) w start len

  beside_shown : (Y Z : Transformation) (m q : ℕ) → Stands entries Y (entry + 1) m → Stands entries Z m q
      → (a : Shown) × (b : Shown) × (show (lookup_of lines) Y env src ≡ gives a) × (show (lookup_of lines) Z env src ≡ gives b) × (length a.value + length b.value ≡ vlen)
  unfolding Stands show
  beside_shown Y Z m q y z =
      on_long (show (lookup_of lines) (beside entry Y Z) env src) vlen
      (begun.seen.fits (beside entry Y Z) q ((refl, begun.op), (m, subst (λ (j : ℕ). Stands entries Y j m) (add-one entry) y, z))) λ o e l.
      on_pair (λ x. length x.value ≡ vlen
      → (a : Shown) × (b : Shown) × (show (lookup_of lines) Y env src ≡ gives a) × (show (lookup_of lines) Z env src ≡ gives b)
      × (length a.value + length b.value ≡ vlen))
      entry (show (lookup_of lines) Y env src) (show (lookup_of lines) Z env src) o e (λ a b p s _ k. (a, b, p, s, sym (length-append a.value b.value) ∙ k)) l

  -- the tree that stands here
  abbrev parts : (Y : Transformation) × (Z : Transformation) × (m : ℕ) × (begun.ready.tree ≡ beside entry Y Z)
      × Stands entries Y (entry + 1) m × Stands entries Z m begun.ready.behind
  parts = at_beside entries begun.ready.tree entry begun.ready.behind begun.ready.placed.stands begun.op

  -- where its second part is
  second : (Z : Transformation) (m q : ℕ) (Y : Transformation) → Stands entries Y (entry + 1) m → Stands entries Z m q → Stands entries Z (get_or ends (entry + 1) 0) q
  second Z m q Y y z = subst (λ (j : ℕ). Stands entries Z j q) (sym (begun.ready.ended.tree Y (entry + 1) m y)) z

  pub first_goes : {w₁ : List ℕ} {s : Stop} → Halted entries lines w slots (entry + 1) start len top w₁ s → ⊥
  first_goes x =
      let a = beside_shown parts.0 parts.1 parts.2 begun.ready.behind parts.4 parts.5 in
      not_stopped x parts.0 parts.2 parts.4 (gives_long _ a.0 _ a.2 refl)

  pub second_goes : {w₁ : List ℕ} {s : Stop} → Halted entries lines w slots (get_or ends (entry + 1) 0) start len top w₁ s → ⊥
  second_goes x =
      let a = beside_shown parts.0 parts.1 parts.2 begun.ready.behind parts.4 parts.5 in
      not_stopped x parts.1 begun.ready.behind (second parts.1 parts.2 begun.ready.behind parts.0 parts.4 parts.5) (gives_long _ a.1 _ a.3 refl)

  module _ {w₁ w₂ : List ℕ} {m n : ℕ} (x : Got entries lines w slots (entry + 1) start len top w₁ m)
      (y : Got entries lines w slots (get_or ends (entry + 1) 0) start len top w₂ n) where
    fits₁ : top + m ≤ length w₁
    fits₁ = let e = begun.room.enough in let two = begun.two in let s = x.small in omega arith

    fits₂ : top + n ≤ length w₂
    fits₂ = let e = begun.room.enough in let two = begun.two in let s = y.small in omega arith

    pub view_cuts : m + n ≡ vlen
    unfolding value_of
    view_cuts =
        let z = second parts.1 parts.2 begun.ready.behind parts.0 parts.4 parts.5 in
        let a = beside_shown parts.0 parts.1 parts.2 begun.ready.behind parts.4 parts.5 in
        let k = got_size x fits₁ parts.0 parts.2 parts.4 ∙ ap (λ (o : Result Stop Shown). length (value_of o)) a.2 in
        let l = got_size y fits₂ parts.1 begun.ready.behind z ∙ ap (λ (o : Result Stop Shown). length (value_of o)) a.3 in
        let s = a.4 in
        omega arith

    pub beside_asks_second : {marks' : List ℕ} → length marks' ≡ length marks
        → PutSpace w₂ marks' slots start len (view + m) n top (levels - 1) × Seen entries lines w₂ slots (get_or ends (entry + 1) 0) start len n
    beside_asks_second k =
        let two = begun.two in
        let c = view_cuts in (
          put_space begun.room y.kept k begun.room.below begun.room.short (omega arith) (omega arith) (omega arith),
          got_seen y fits₂ y.frame begun.room.below begun.room.bound,
        )

    pub beside_asks_first : {w₃ marks' : List ℕ} → take top w₃ ≡ take top w₂ → length w₃ ≡ length w₂ → length marks' ≡ length marks
        → PutSpace w₃ marks' slots start len view m (top + 128) (levels - 1) × Seen entries lines w₃ slots (entry + 1) start len m
    beside_asks_first f l k =
        let two = begun.two in
        let c = view_cuts in
        let b = begun.room.below in (
          put_space begun.room (l ∙ y.kept) k (omega arith) begun.room.short (omega arith) (omega arith) (omega arith),
          got_seen x fits₁ (f ∙ y.frame) b begun.room.bound,
        )

    pub beside_back : {w₃ w₄ w₅ marks₃ marks₄ : List ℕ} → length w₄ ≡ length w
        → PutBy entries lines w₂ marks slots (get_or ends (entry + 1) 0) start len (view + m) n top w₃ marks₃
        → PutBy entries lines w₃ marks₃ slots (entry + 1) start len view m (top + 128) w₄ marks₄
        → w₅ ≡ put_at w₄ top (merged_words (part w₄ top len) (part w₄ (top + 128) len))
        → PutBy entries lines w marks slots entry start len view vlen top w₅ marks₄
    beside_back {w₃} {w₄} {w₅} {marks₃} {marks₄} long₄ p o c =
        let two = begun.two in
        let b = begun.room.below in
        let k = view_cuts in
        let l₁ = length_part w₄ top len (omega arith) in
        let l₂ = length_part w₄ (top + 128) len (omega arith) in
        let l = merged_length (part w₄ top len) (part w₄ (top + 128) len) (l₁ ∙ sym l₂) in
        let f₃ : take top w₃ ≡ take top w = p.frame ∙ y.frame in
        let f₄ : take top w₄ ≡ take top w = frame_less w₃ w₄ (top + 128) top o.frame (omega arith) ∙ f₃ in
        by_put (kept_below w₄ top (merged_words (part w₄ top len) (part w₄ (top + 128) len)) c (omega arith) ∙ f₄) λ texts ss us g u X q st.
        let t = at_beside entries X entry q st begun.op in
        let z = second t.1 t.2 q t.0 t.4 t.5 in
        let view-cut = holds_cut {a = m} {b = n} (omega arith) (omega arith) g in
        let i = put_by p (holds_frame top y.frame (omega arith) view-cut.1) u t.1 q z in
        let j = put_by o (holds_frame top f₃ (omega arith) view-cut.0) i.slots_hold t.0 t.2 t.4 in
        rw t.3 (subst (HandsBack texts w₅ marks₄ slots top len)
        (beside_rule (lookup_of lines) entry t.0 t.1 env _ _ src _ _ m n ss us
        (slots_frame (made_by entries) w w₂ begun.room.bound y.frame) (slots_frame (made_by entries) w w₃ begun.room.bound f₃)
        (value_frame (made_by entries) w w₂ top start len y.frame b) (value_frame (made_by entries) w w₃ top start len f₃ b)
        (got_size x fits₁ t.0 t.2 t.4) (got_size y fits₂ t.1 q z) (omega (arith, holds_length g (omega arith))))
        (record {
          source = holds_merged w₄ c (omega arith) (omega arith) (omega arith) (holds_frame (top + 128) o.frame (omega arith) i.source) j.source;
          slots_hold = j.slots_hold;
        }))
