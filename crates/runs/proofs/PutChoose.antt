-- 0B put back: the branch that the test leads to, then the test.
use mathlib.Core.Path.{◌≡◌, refl, sym, ap, subst, ◌∙◌}
use mathlib.Core.Bool.{Bool, true, false, cond}
use mathlib.Core.List.{List}
use Prim.Native.Nat.{ℕ, ◌+◌, ◌-◌, ◌≤◌}
use native.Mathlib.Numerals.{add-one}
use native.Mathlib.Omega.{arith}
use lib.ListN.{length, get_or, take}
use Rattle.std.specs.Prelude.{Ok, Err}
use Rattle.lines.specs.Entries.{Entry}
use Rattle.lines.specs.Nodes.{Line}
use Rattle.values.specs.Values.{Value, Lookup}
use Rattle.values.specs.Standings.{Standing}
use Rattle.values.specs.Engine.Words.{value_at}
use Rattle.values.proofs.Theorems.WordLaws.{value_frame}
use Rattle.runs.specs.declared.stop.Stop.{Stop}
use Rattle.runs.specs.declared.slots.SlotWords.{SlotWords}
use Rattle.runs.specs.Results.{gives}
use Rattle.runs.specs.Programs.{Transformation, choose, Test}
use Rattle.runs.specs.Showing.{Slots, Shown, Answer, show, test}
use Rattle.runs.specs.PuttingBack.{SlotStandings, Back, says_yes, put_back, put_back_test}
use Rattle.runs.specs.Engine.Ends.{branch_at}
use Rattle.runs.specs.Engine.Runs.{Begun, made_by, lookup_of, slots_at, yes_only, TestedBy, PutSpace, Seen, Asked, PutBy, TestPutBy}
use Rattle.runs.specs.Theorems.Combinators.{branch_run}
use Rattle.runs.specs.Engine.Trees.{Stands, StandsTest}
use Rattle.runs.specs.Theorems.Inversion.{no_gives, gives_inj, on_bind}
use Rattle.runs.proofs.Trees.{at_choose, branch_stands}
use Rattle.runs.proofs.SlotLaws.{slots_frame}
use Rattle.runs.proofs.PutWords.{holds_frame}
use Rattle.runs.proofs.PutRuns.{HandsBack, put_by, by_put, test_by, GivesLong, on_long, gives_long, answer_is, put_space}

-- the rule for either answer
abbrev over : Lookup → Test → Transformation → Transformation → Slots → Value → List Standing → SlotStandings → Bool → Back
over look P Y Z s v ss us t =
    let a : Back = elim t [ true ↦ put_back look Y s v ss us | false ↦ put_back look Z s v ss us ] in
    put_back_test look P s v a.in_source a.in_slots

-- and of the words' values and of what the test says
choose_rule : (look : Lookup) (e : ℕ) (P : Test) (Y Z : Transformation) (s s₁ s₂ : Slots) (v v₁ v₂ : Value) (ss : List Standing) (us : SlotStandings) (b : Bool)
    → s₁ ≡ s → s₂ ≡ s → v₁ ≡ v → v₂ ≡ v → b ≡ says_yes (test look P s v)
    → (let a = put_back look (cond b Y Z) s₁ v₁ ss us in put_back_test look P s₂ v₂ a.in_source a.in_slots) ≡ put_back look (choose e P Y Z) s v ss us
unfolding put_back
choose_rule look e P Y Z s s₁ s₂ v v₁ v₂ ss us b p q r t f = rw (p, q, r, t) (go b f)
  where
    go : (b : Bool) → b ≡ says_yes (test look P s v)
        → (let a = put_back look (cond b Y Z) s v ss us in put_back_test look P s v a.in_source a.in_slots) ≡ over look P Y Z s v ss us (says_yes (test look P s v))
    go true f = ap (over look P Y Z s v ss us) f
    go false f = ap (over look P Y Z s v ss us) f

module _ {entries : List Entry} {lines : List Line} {ends w marks : List ℕ} {slots : SlotWords} {entry start len view vlen top levels : ℕ}
    (begun : Begun entries lines ends w marks slots entry start len view vlen top levels 0x0B) where
  abbrev env : Slots
  env = slots_at (made_by entries) w slots

  abbrev src : Value
  src = value_at (made_by entries) w start len

  choose_shown : (P : Test) (Y Z : Transformation) (l m q : ℕ) → StandsTest entries P (entry + 1) l → Stands entries Y l m → Stands entries Z m q
      → (p : Answer) × (test (lookup_of lines) P env src ≡ gives p) × GivesLong (branch_run p.yes (show (lookup_of lines) Y) (show (lookup_of lines) Z) env src) vlen
  unfolding Stands show
  choose_shown P Y Z l m q t y z =
      on_long (show (lookup_of lines) (choose entry P Y Z) env src) vlen
      (begun.seen.fits (choose entry P Y Z) q ((refl, begun.op), (l, m, subst (λ (j : ℕ). StandsTest entries P j l) (add-one entry) t, y, z))) λ o e k.
      on_bind (test (lookup_of lines) P env src) _ o e λ p s e₁.
      on_bind (branch_run p.yes (show (lookup_of lines) Y) (show (lookup_of lines) Z) env src) _ o e₁ λ a i e₂.
      (p, s, gives_long (branch_run p.yes (show (lookup_of lines) Y) (show (lookup_of lines) Z) env src) a vlen i (ap (λ (x : Shown). length x.value) (gives_inj _ o e₂) ∙ k))

  -- the tree that stands here
  abbrev parts : (P : Test) × (Y : Transformation) × (Z : Transformation) × (l : ℕ) × (m : ℕ) × (begun.ready.tree ≡ choose entry P Y Z)
      × StandsTest entries P (entry + 1) l × Stands entries Y l m × Stands entries Z m begun.ready.behind
  parts = at_choose entries begun.ready.tree entry begun.ready.behind begun.ready.placed.stands begun.op

  pub choose_goes : {w₁ : List ℕ} {s : Stop} → TestedBy entries lines w slots (entry + 1) start len top w₁ (Err s) → ⊥
  choose_goes {w₁} {s} x =
      let a = choose_shown parts.0 parts.1 parts.2 parts.3 parts.4 begun.ready.behind parts.6 parts.7 parts.8 in
      no_gives s a.0.yes (x.meets parts.0 parts.3 parts.6 ∙ ap yes_only a.1)

  module _ {w₁ : List ℕ} {b : Bool} (x : TestedBy entries lines w slots (entry + 1) start len top w₁ (Ok b)) where
    says : (P : Test) (l : ℕ) → StandsTest entries P (entry + 1) l → b ≡ says_yes (test (lookup_of lines) P env src)
    says P l t = sym (answer_is (test (lookup_of lines) P env src) b (sym (x.meets P l t)))

    branch_shown : (X : Transformation) (q : ℕ) → Stands entries X (branch_at ends (entry + 1) b) q → GivesLong (show (lookup_of lines) X env src) vlen
    unfolding says_yes
    branch_shown X q st = go b (says parts.0 parts.3 parts.6) st
      where
        ends_test : get_or ends (entry + 1) 0 ≡ parts.3
        ends_test = begun.ready.ended.test parts.0 (entry + 1) parts.3 parts.6

        ends_yes : get_or ends parts.3 0 ≡ parts.4
        ends_yes = begun.ready.ended.tree parts.1 parts.3 parts.4 parts.7

        go : (b : Bool) → b ≡ says_yes (test (lookup_of lines) parts.0 env src)
            → Stands entries X (branch_at ends (entry + 1) b) q → GivesLong (show (lookup_of lines) X env src) vlen
        go true e s =
            let y : Stands entries X parts.3 q = subst (λ (j : ℕ). Stands entries X j q) ends_test s in
            let m : parts.4 ≡ q = sym ends_yes ∙ begun.ready.ended.tree X parts.3 q y in
            let a = choose_shown parts.0 X parts.2 parts.3 q begun.ready.behind parts.6 y
            (subst (λ (j : ℕ). Stands entries parts.2 j begun.ready.behind) m parts.8) in
            subst (λ (t : Bool). GivesLong (branch_run t (show (lookup_of lines) X) (show (lookup_of lines) parts.2) env src) vlen) (sym (e ∙ ap says_yes a.1)) a.2
        go false e s =
            let z : Stands entries X parts.4 q = subst (λ (j : ℕ). Stands entries X j q) (ap (λ (i : ℕ). get_or ends i 0) ends_test ∙ ends_yes) s in
            let a = choose_shown parts.0 parts.1 X parts.3 parts.4 q parts.6 parts.7 z in
            subst (λ (t : Bool). GivesLong (branch_run t (show (lookup_of lines) parts.1) (show (lookup_of lines) X) env src) vlen) (sym (e ∙ ap says_yes a.1)) a.2

    pub branch_asks : length w₁ ≡ length w → 1 ≤ levels → {marks' : List ℕ} → length marks' ≡ length marks
        → PutSpace w₁ marks' slots start len view vlen top (levels - 1) × Seen entries lines w₁ slots (branch_at ends (entry + 1) b) start len vlen
    branch_asks l some k = (
      put_space begun.room l k begun.room.below begun.room.short begun.room.view_below (omega arith) (omega arith),
      record {
        fits = λ X q st.
            rw (slots_frame (made_by entries) w w₁ begun.room.bound x.frame, value_frame (made_by entries) w w₁ top start len x.frame begun.room.below)
            (branch_shown X q st);
      },
    )

    pub test_asks : {w₂ : List ℕ} → take top w₂ ≡ take top w₁ → length w₂ ≡ length w → 1 ≤ levels → {marks' : List ℕ} → length marks' ≡ length marks
        → PutSpace w₂ marks' slots start len start len top (levels - 1) × Asked entries lines w₂ slots (entry + 1) start len
    test_asks {w₂} f l some k =
        let g : take top w₂ ≡ take top w = f ∙ x.frame in (
          put_space begun.room l k begun.room.below begun.room.short begun.room.below (omega arith) (omega arith),
          record {
            answers = λ P q t. (
              b,
              rw (slots_frame (made_by entries) w w₂ begun.room.bound g, value_frame (made_by entries) w w₂ top start len g begun.room.below)
                  (sym (x.meets P q t)),
            );
          },
        )

    pub choose_back : {w₂ w₃ marks₂ marks₃ : List ℕ}
        → PutBy entries lines w₁ marks slots (branch_at ends (entry + 1) b) start len view vlen top w₂ marks₂
        → TestPutBy entries lines w₂ marks₂ slots (entry + 1) start len top w₃ marks₃
        → PutBy entries lines w marks slots entry start len view vlen top w₃ marks₃
    choose_back {w₂} {w₃} {marks₂} {marks₃} y z =
        let f₂ : take top w₂ ≡ take top w = y.frame ∙ x.frame in
        by_put (z.frame ∙ f₂) λ texts ss us g u X q st.
        let t = at_choose entries X entry q st begun.op in
        let i = put_by y (holds_frame top x.frame begun.room.view_below g) u (cond b t.1 t.2)
        (cond b t.4 q) (branch_stands entries begun.ready.ended (entry + 1) t.0 t.1 t.2 t.3 t.4 q t.6 t.7 t.8 b) in
        let j = test_by z i.source i.slots_hold t.0 t.3 t.6 in
        rw t.5 (subst (HandsBack texts w₃ marks₃ slots top len)
        (choose_rule (lookup_of lines) entry t.0 t.1 t.2 env _ _ src _ _ ss us b
        (slots_frame (made_by entries) w w₁ begun.room.bound x.frame) (slots_frame (made_by entries) w w₂ begun.room.bound f₂)
        (value_frame (made_by entries) w w₁ top start len x.frame begun.room.below)
        (value_frame (made_by entries) w w₂ top start len f₂ begun.room.below) (says t.0 t.3 t.6)) j)
