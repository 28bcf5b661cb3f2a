-- A test put back: 11 locks the source text that the branch handed back and what X showed; 12 and 13 do nothing.
use mathlib.Core.Path.{◌≡◌, refl, sym, ap, subst, ◌∙◌}
use mathlib.Core.Bool.{Bool}
use mathlib.Core.List.{List, [], ◌∷◌}
use mathlib.Core.Logic.{inr}
use Prim.Native.Nat.{ℕ, ◌+◌, ◌-◌, ◌≤◌}
use native.Mathlib.Numerals.{add-one}
use native.Mathlib.Omega.{arith}
use lib.ListN.{length, get_or, take, replicate, length-replicate}
use Rattle.lines.specs.Writing.{put_at}
use Rattle.lines.specs.Entries.{Entry}
use Rattle.lines.specs.Nodes.{Line}
use Rattle.lines.specs.Theorems.PutAt.{length_put}
use Rattle.values.specs.Values.{Value, Lookup}
use Rattle.values.specs.Standings.{Standing, locked, all_over, merged}
use Rattle.values.specs.Engine.Words.{part, value_at, merged_words}
use Rattle.values.specs.Theorems.Extents.{length_part, frame_less}
use Rattle.values.proofs.Theorems.WordLaws.{length_value, value_none, merged_length}
use Rattle.runs.specs.declared.stop.Stop.{Stop}
use Rattle.runs.specs.declared.slots.SlotWords.{SlotWords}
use Rattle.runs.specs.Results.{Result, gives, stops}
use Rattle.runs.specs.Programs.{equals, Transformation, Test, compares, tagged, is_element}
use Rattle.runs.specs.Reading.{no_entry}
use Rattle.runs.specs.Showing.{Slots, Answer, one_text, show, test}
use Rattle.runs.specs.PuttingBack.{SlotStandings, back, put_back, put_back_test}
use Rattle.runs.specs.Engine.Runs.{BegunTest, made_by, lookup_of, slots_at, yes_only, PutSpace, Seen, PutBy, TestPutBy}
use Rattle.runs.specs.Engine.Trees.{Stands, StandsTest}
use Rattle.runs.specs.Theorems.Inversion.{no_gives, on_bind, on_text}
use Rattle.runs.proofs.Trees.{at_equals}
use Rattle.runs.proofs.SlotLaws.{slots_frame}
use Rattle.runs.proofs.PutWords.{Holds, holds_frame, holds_other, holds_locked, holds_merged, kept_below}
use Rattle.runs.proofs.PutRuns.{HandsBack, put_by, by_test, GivesLong, gives_long, put_space}

pub on_answer : {C : Type 0} (r : Result Stop Answer) (b : Bool) → yes_only r ≡ gives b → ((p : Answer) → r ≡ gives p → C) → C
on_answer (gives p) b h k = k p refl
on_answer (stops s) b h k = absurd (no_gives s b h)

-- ## 12 and 13

plain_rule : (entries : List Entry) (look : Lookup) (P : Test) (p q : ℕ) → StandsTest entries P p q → ((get_or entries p no_entry).operation ≡ 0x11 → ⊥)
    → (slots : Slots) (v : Value) (rs : List Standing) (us : SlotStandings) → back rs us ≡ put_back_test look P slots v rs us
unfolding StandsTest put_back_test
plain_rule entries look (compares e equals X) p q st h slots v rs us = absurd (h st.0.1)
plain_rule entries look (tagged e t) p q st h slots v rs us = refl
plain_rule entries look (is_element e) p q st h slots v rs us = refl

pub plain_back : {entries : List Entry} {lines : List Line} {w marks : List ℕ} {slots : SlotWords} {entry start len top : ℕ} → ((get_or entries entry no_entry).operation ≡ 0x11 → ⊥)
    → TestPutBy entries lines w marks slots entry start len top w marks
plain_back {entries} {lines} {w} {marks} {slots} {entry} {start} {len} {top} h =
    by_test refl λ texts ss us g u P q st.
    subst (HandsBack texts w marks slots top len)
    (plain_rule entries (lookup_of lines) P entry q st h (slots_at (made_by entries) w slots) (value_at (made_by entries) w start len) ss us)
    (record { source = g; slots_hold = u })

-- ## 11

-- the rule, of the words' values
equals_rule : (look : Lookup) (e : ℕ) (Y : Transformation) (s s₁ : Slots) (v u : Value) (ls rs : List Standing) (us : SlotStandings) → s₁ ≡ s → u ≡ [] → ls ≡ locked ∷ []
    → back (merged rs (all_over locked v)) (put_back look Y s₁ u ls us).in_slots ≡ put_back_test look (compares e equals Y) s v rs us
unfolding put_back_test
equals_rule look e Y s s₁ v u ls rs us a b c = rw (a, b, c)

module _ {entries : List Entry} {lines : List Line} {ends w marks : List ℕ} {slots : SlotWords} {entry start len top levels : ℕ}
    (begun : BegunTest entries lines ends w marks slots entry start len top levels) where
  abbrev env : Slots
  env = slots_at (made_by entries) w slots

  abbrev src : Value
  src = value_at (made_by entries) w start len

  src_long : length src ≡ len
  src_long = length_value (made_by entries) w start len (let b = begun.room.below in let e = begun.room.enough in omega arith)

  equals_shown : (Y : Transformation) (q : ℕ) → Stands entries Y (entry + 1) q → (length src ≡ 1) × GivesLong (show (lookup_of lines) Y env []) 1
  unfolding StandsTest test
  equals_shown Y q y =
      let a = begun.asked.answers (compares entry equals Y) q ((refl, begun.op), subst (λ (j : ℕ). Stands entries Y j q) (add-one entry) y) in
      on_answer (test (lookup_of lines) (compares entry equals Y) env src) a.0 a.1 λ p h.
      on_bind (one_text (lookup_of lines) entry src) _ p h λ x i h₁.
      on_bind (show (lookup_of lines) Y env []) _ p h₁ λ o s h₂.
      on_bind (one_text (lookup_of lines) entry o.value) _ p h₂ λ z j h₃. (
        on_text (lookup_of lines) (λ v _. length v ≡ 1) (λ _ _. refl) entry src x i,
        gives_long (show (lookup_of lines) Y env []) o 1 s (on_text (lookup_of lines) (λ v _. length v ≡ 1) (λ _ _. refl) entry o.value z j),
      )

  one : len ≡ 1
  one =
      let f = at_equals entries begun.ready.tree entry begun.ready.behind begun.ready.placed.stands begun.op in
      sym src_long ∙ (equals_shown f.0 begun.ready.behind f.2).0

  module _ {w₁ w₂ : List ℕ} (c₁ : w₁ ≡ put_at w (top + 128) (replicate len 1)) (c₂ : w₂ ≡ put_at w₁ top (merged_words (part w₁ top len) (part w₁ (top + 128) len))) where
    -- the words at top and the locked ones, merged
    abbrev both : List ℕ
    both = merged_words (part w₁ top len) (part w₁ (top + 128) len)

    fits₁ : top + 128 + length (replicate {A = ℕ} len 1) ≤ length w
    fits₁ =
        let two = begun.two in
        let n = one in
        let l : length (replicate {A = ℕ} len 1) ≡ len = length-replicate len 1 in
        omega arith

    long₁ : length w₁ ≡ length w
    long₁ = ap length c₁ ∙ length_put w (top + 128) (replicate len 1) fits₁

    frame₁ : take (top + 128) w₁ ≡ take (top + 128) w
    frame₁ = kept_below w (top + 128) (replicate len 1) c₁ fits₁

    both_long : length both ≡ len
    both_long =
        let two = begun.two in
        let n = one in
        let k = long₁ in
        let a = length_part w₁ top len (omega arith) in
        let b = length_part w₁ (top + 128) len (omega arith) in
        merged_length (part w₁ top len) (part w₁ (top + 128) len) (a ∙ sym b) ∙ a

    -- they end before the locked ones
    fits₂ : (top + length both ≤ length w₁) × (top + length both ≤ top + 128)
    fits₂ =
        let two = begun.two in
        let n = one in
        let k = long₁ in
        let m = both_long in
        (omega arith, omega arith)

    long₂ : length w₂ ≡ length w
    long₂ = ap length c₂ ∙ (length_put w₁ top both fits₂.0 ∙ long₁)

    frame₂ : take top w₂ ≡ take top w
    frame₂ = kept_below w₁ top both c₂ fits₂.0 ∙ frame_less w w₁ (top + 128) top frame₁ (omega arith)

    pub equals_asks : PutSpace w₂ marks slots start 0 (top + 128) len (top + 256) (levels - 1) × Seen entries lines w₂ slots (entry + 1) start 0 len
    equals_asks =
        let n = one in
        let two = begun.two in (
          put_space begun.room long₂ refl (omega arith) (omega arith) (omega arith) (omega arith) (omega arith),
          record { fits = λ Y q y. rw (slots_frame (made_by entries) w w₂ begun.room.bound frame₂, value_none (made_by entries) w₂ start, n) (equals_shown Y q y).1 },
        )

    pub equals_back : {w₃ marks₃ : List ℕ} → PutBy entries lines w₂ marks slots (entry + 1) start 0 (top + 128) len (top + 256) w₃ marks₃
        → TestPutBy entries lines w marks slots entry start len top w₃ marks₃
    unfolding all_over
    equals_back {w₃} {marks₃} y =
        let n = one in
        let two = begun.two in
        let k = long₁ in
        by_test (frame_less w₂ w₃ (top + 256) top y.frame (omega arith) ∙ frame₂) λ texts rs us g u P q st.
        let t = at_equals entries P entry q st begun.op in
        let lock : Holds texts w₁ (top + 128) len (all_over locked src) = holds_locked src w c₁ src_long (omega arith) in
        let here : Holds texts w₂ top len (merged rs (all_over locked src)) =
        holds_merged w₁ c₂ (omega arith) (omega arith) (omega arith) (holds_frame (top + 128) frame₁ (omega arith) g) lock in
        let view = holds_other both c₂ fits₂.0 (inr fits₂.1) lock in
        let i = put_by y view u t.0 q t.2 in
        rw t.1 (subst (HandsBack texts w₃ marks₃ slots top len)
        (equals_rule (lookup_of lines) entry t.0 env _ src _ _ rs us (slots_frame (made_by entries) w w₂ begun.room.bound frame₂)
        (value_none (made_by entries) w₂ start) (single src (src_long ∙ n)))
        (record { source = holds_frame (top + 256) y.frame (omega arith) here; slots_hold = i.slots_hold }))
      where
        single : (v : Value) → length v ≡ 1 → all_over locked v ≡ locked ∷ []
        single [] h = absurd (omega arith)
        single (x ∷ []) h = refl
        single (x ∷ y ∷ v) h = absurd (omega arith)
