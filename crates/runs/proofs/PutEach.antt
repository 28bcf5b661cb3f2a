-- 0A put back: where the loop over the items stands, and how it goes on.
use mathlib.Core.Path.{◌≡◌, refl, sym, ap, ap₂, subst, ◌∙◌}
use mathlib.Core.List.{List, [], ◌∷◌, ◌++◌, map, append_assoc, append-nil}
use Prim.Native.Nat.{ℕ, ◌+◌, ◌-◌, ◌≤◌, ◌<◌}
use native.Mathlib.Numerals.{add-one}
use native.Mathlib.Omega.{arith}
use lib.ListN.{length, take, drop, length-append}
use lib.Seq.{drop-drop}
use Rattle.lines.specs.Entries.{Entry}
use Rattle.lines.specs.Nodes.{Line}
use Rattle.values.specs.Values.{Value, Lookup, items}
use Rattle.values.specs.Standings.{Standing}
use Rattle.values.specs.Engine.Words.{value_at, standings_at}
use Rattle.values.specs.Theorems.Extents.{frame_less}
use Rattle.values.proofs.Theorems.WordLaws.{length_value, value_none, value_frame}
use Rattle.runs.specs.declared.stop.Stop.{Stop}
use Rattle.runs.specs.declared.slots.SlotWords.{SlotWords}
use Rattle.runs.specs.Results.{Result, gives}
use Rattle.runs.specs.Programs.{Transformation, each}
use Rattle.runs.specs.Showing.{Slots, Shown, in_turn, show}
use Rattle.runs.specs.PuttingBack.{SlotStandings, Back, back, value_of, over_items, put_back}
use Rattle.runs.specs.Engine.Runs.{Begun, made_by, lookup_of, slots_at, PutSpace, Seen, PutBy}
use Rattle.runs.specs.Engine.Trees.{Stands}
use Rattle.runs.specs.Theorems.Inversion.{on_turn}
use Rattle.runs.specs.Theorems.Lengths.{fitted_same}
use Rattle.runs.proofs.Trees.{at_each}
use Rattle.runs.proofs.SlotLaws.{bound_higher, slots_frame}
use Rattle.runs.proofs.PutWords.{Holds, holds_length, holds_frame, holds_join, holds_cut}
use Rattle.runs.proofs.PutSlots.{SlotsHold}
use Rattle.runs.specs.Theorems.RunAnswers.{Got, Halted}
use Rattle.runs.proofs.ShowEach.{ItemAt, first_item}
use Rattle.runs.proofs.PutRuns.{HandsBack, put_by, by_put, on_long, gives_long, got_size, got_seen, not_stopped, put_space}

-- ## The rule, item by item

-- behind standings that are handed back already
abbrev pub behind : List Standing → Back → Back
behind rs b = back (rs ++ b.in_source) b.in_slots

abbrev pub over : Lookup → Transformation → Slots → List Value → List Standing → SlotStandings → Back
over look X s is ss us = over_items (λ i ts vs. put_back look X s i ts vs) (λ i. length (value_of (show look X s i))) is ss us

next_rule : (look : Lookup) (X : Transformation) (s s₁ : Slots) (i i₁ : Value) (is : List Value) (m : ℕ) (rs ss : List Standing) (us : SlotStandings)
    → s₁ ≡ s → i₁ ≡ i → m ≡ length (value_of (show look X s i)) → length (put_back look X s₁ i₁ (take m ss) us).in_source ≡ length i
    → behind rs (over look X s (i ∷ is) ss us) ≡ (let a = put_back look X s₁ i₁ (take m ss) us in behind (rs ++ a.in_source) (over look X s is (drop m ss) a.in_slots))
unfolding over_items
next_rule look X s s₁ i i₁ is m rs ss us p q n l =
    let l' : length (put_back look X s i (take (length (value_of (show look X s i))) ss) us).in_source ≡ length i = rw (p, q, n) at l in
    rw (p, q, n, fitted_same i (put_back look X s i (take (length (value_of (show look X s i))) ss) us).in_source l', append_assoc)

-- ## Where the loop stands

module _ (entries : List Entry) (lines : List Line) (w₀ marks₀ : List ℕ) (slots : SlotWords) (entry start len view vlen top : ℕ) where
  abbrev env : Slots
  env = slots_at (made_by entries) w₀ slots

  -- the items from node `at` on
  abbrev left : ℕ → List Value
  left at = items (value_at (made_by entries) w₀ (start + at) (len - at))

  -- `at` nodes of the source are handed back, for `done` nodes of the view
  pub record Going (w marks : List ℕ) (at done : ℕ) : Type 0 where
    pub most : at ≤ len
    pub few : done ≤ vlen
    pub frame : take top w ≡ take top w₀
    pub long : length w ≡ length w₀
    pub marks_long : length marks ≡ length marks₀
    pub shown : (X : Transformation) (q : ℕ) → Stands entries X (entry + 1) q
        → (m : ℕ) × (o : Shown) × (in_turn entry m (map (λ i. show (lookup_of lines) X env i) (left at)) ≡ gives o) × (length o.value ≡ vlen - done)
    pub goes : (texts : ℕ → List ℕ) (ss : List Standing) (us : SlotStandings) → Holds texts w₀ view vlen ss → SlotsHold texts marks₀ slots us
        → (X : Transformation) (q : ℕ) → Stands entries X (entry + 1) q
        → (rs : List Standing) × (vs : SlotStandings) × Holds texts w top at rs × SlotsHold texts marks slots vs
        × (over (lookup_of lines) X env (items (value_at (made_by entries) w₀ start len)) ss us ≡ behind rs (over (lookup_of lines) X env (left at) (drop done ss) vs))

module _ {entries : List Entry} {lines : List Line} {ends w₀ marks₀ : List ℕ} {slots : SlotWords} {entry start len view vlen top levels : ℕ}
    (begun : Begun entries lines ends w₀ marks₀ slots entry start len view vlen top levels 0x0A) where
  abbrev At : List ℕ → List ℕ → ℕ → ℕ → Type 0
  At = Going entries lines w₀ marks₀ slots entry start len view vlen top

  abbrev run : Transformation → Value → Result Stop Shown
  run X i = show (lookup_of lines) X (slots_at (made_by entries) w₀ slots) i

  abbrev rest : ℕ → List Value
  rest at = left entries lines w₀ marks₀ slots entry start len view vlen top at

  pub items_start : At w₀ marks₀ 0 0
  unfolding Stands show standings_at
  items_start =
      let whole : items (value_at (made_by entries) w₀ start len) ≡ rest 0
      = ap₂ (λ (i n : ℕ). items (value_at (made_by entries) w₀ i n)) (let e : start ≡ start + 0 = omega arith in e) (let e : len ≡ len - 0 = omega arith in e) in
      record {
        most = omega arith;
        few = omega arith;
        frame = refl;
        long = refl;
        marks_long = refl;
        shown = λ X q st.
            on_long (show (lookup_of lines) (each entry X) (slots_at (made_by entries) w₀ slots) (value_at (made_by entries) w₀ start len)) vlen
            (begun.seen.fits (each entry X) q ((refl, begun.op), subst (λ (j : ℕ). Stands entries X j q) (add-one entry) st)) λ o e l.
            (0, o, sym (ap (λ (is : List Value). in_turn entry 0 (map (run X) is)) whole) ∙ e, (let d : length o.value ≡ vlen - 0 = omega arith in d));
        goes = λ texts ss us g u X q st.
            ([], us, record { says = refl; named = tt }, u, ap (λ (is : List Value). over (lookup_of lines) X (slots_at (made_by entries) w₀ slots) is ss us) whole);
      }

  pub items_end : {w marks : List ℕ} {at done : ℕ} → At w marks at done → len ≤ at → PutBy entries lines w₀ marks₀ slots entry start len view vlen top w marks
  unfolding put_back over_items items
  items_end {w} {marks} {at} {done} g h =
      by_put g.frame λ texts ss us v u X q st.
      let t = at_each entries X entry q st begun.op in
      let s = g.goes texts ss us v u t.0 q t.2 in
      let none : rest at ≡ [] = ap items (ap (value_at (made_by entries) w₀ (start + at)) (let e : len - at ≡ 0 = omega arith in e) ∙ value_none (made_by entries) w₀ (start + at)) in
      let all : at ≡ len = omega arith in
      rw t.1 (subst (HandsBack texts w marks slots top len)
      (sym (s.4
      ∙ (ap (λ (is : List Value). behind s.0 (over (lookup_of lines) t.0 (slots_at (made_by entries) w₀ slots) is (drop done ss) s.1)) none
      ∙ ap (λ (rs : List Standing). back rs s.1) (append-nil s.0))))
      (record { source = subst (λ (n : ℕ). Holds texts w top n s.0) all s.2; slots_hold = s.3 }))

  module _ {w marks : List ℕ} {at done : ℕ} (g : At w marks at done) (more : at < len) {k : ℕ} (f : ItemAt w (start + at) (len - at) k) where
    abbrev item : Value
    item = value_at (made_by entries) w₀ (start + at) k

    cut_items : rest at ≡ item ∷ rest (at + k)
    cut_items =
        let now = value_frame (made_by entries) w₀ w top (start + at) (len - at) g.frame (omega arith) in
        ap items (sym now)
        ∙ (first_item (made_by entries) w (start + at) (len - at) k (omega arith) (omega arith) f
        ∙ ap₂ (λ (i v : Value). i ∷ items v) (value_frame (made_by entries) w₀ w top (start + at) k g.frame (omega arith))
        (value_frame (made_by entries) w₀ w top (start + at + k) (len - at - k) g.frame (omega arith)
        ∙ ap₂ (value_at (made_by entries) w₀) (let d : start + at + k ≡ start + (at + k) = omega arith in d) (let d : len - at - k ≡ len - (at + k) = omega arith in d)))

    item_shown : (X : Transformation) (q : ℕ) → Stands entries X (entry + 1) q
        → (a : Shown) × (b : Shown) × (m : ℕ) × (run X item ≡ gives a)
        × (in_turn entry m (map (run X) (rest (at + k))) ≡ gives b) × (length a.value + length b.value ≡ vlen - done)
    item_shown X q st =
        let s = g.shown X q st in
        on_turn (λ o. length o.value ≡ vlen - done → (a : Shown) × (b : Shown) × (m : ℕ) × (run X item ≡ gives a)
        × (in_turn entry m (map (run X) (rest (at + k))) ≡ gives b) × (length a.value + length b.value ≡ vlen - done))
        entry s.0 (run X item) (map (run X) (rest (at + k))) s.1 (sym (ap (λ (is : List Value). in_turn entry s.0 (map (run X) is)) cut_items) ∙ s.2)
        (λ a b p _ q l. (a, b, s.0 + length a.value, p, q, sym (length-append a.value b.value) ∙ l)) s.3

    -- the item in the slice as it is now
    item_now : (value_at (made_by entries) w (start + at) k ≡ item) × (slots_at (made_by entries) w slots ≡ slots_at (made_by entries) w₀ slots)
    item_now =
        (value_frame (made_by entries) w₀ w top (start + at) k g.frame (omega arith), slots_frame (made_by entries) w₀ w begun.room.bound g.frame)

    pub item_goes : {w₁ : List ℕ} {s : Stop} → Halted entries lines w slots (entry + 1) (start + at) k (top + 128) w₁ s → ⊥
    item_goes x =
        let t = at_each entries begun.ready.tree entry begun.ready.behind begun.ready.placed.stands begun.op in
        let a = item_shown t.0 begun.ready.behind t.2 in
        not_stopped x t.0 begun.ready.behind t.2
        (gives_long (show (lookup_of lines) t.0 (slots_at (made_by entries) w slots) (value_at (made_by entries) w (start + at) k))
        a.0 (length a.0.value) (rw (item_now.0, item_now.1) a.3) refl)

    module _ {w₁ : List ℕ} {m : ℕ} (x : Got entries lines w slots (entry + 1) (start + at) k (top + 128) w₁ m) where
      item_size : (X : Transformation) (q : ℕ) → Stands entries X (entry + 1) q → m ≡ length (value_of (run X item))
      item_size X q st =
          let s = x.small in
          let two = begun.two in
          got_size x (omega arith) X q st ∙ ap₂ (λ (v : Value) (s : Slots). length (value_of (show (lookup_of lines) X s v))) item_now.0 item_now.1

      sizes : (X : Transformation) (q : ℕ) (st : Stands entries X (entry + 1) q) → let a = item_shown X q st in (length a.0.value ≡ m) × (done + m ≤ vlen)
      unfolding value_of
      sizes X q st =
          let a = item_shown X q st in
          let l : m ≡ length a.0.value = item_size X q st ∙ ap (λ (o : Result Stop Shown). length (value_of o)) a.3 in
          let s = a.5 in
          (sym l, omega arith)

      pub item_fits : done + m ≤ vlen
      item_fits =
          let t = at_each entries begun.ready.tree entry begun.ready.behind begun.ready.placed.stands begun.op in
          (sizes t.0 begun.ready.behind t.2).1

      pub item_asks : PutSpace w₁ marks slots (start + at) k (view + done) m (top + at) (levels - 1) × Seen entries lines w₁ slots (entry + 1) (start + at) k m
      item_asks =
          let c = item_fits in
          let two = begun.two in (
            put_space begun.room (x.kept ∙ g.long) g.marks_long (omega arith) (omega arith) (omega arith) (omega arith) (omega arith),
            got_seen x (omega arith) x.frame (omega arith) (bound_higher begun.room.bound (top + 128) (omega arith)),
          )

      pub item_next : {w₂ marks₂ : List ℕ} → length w₂ ≡ length w₁ → length marks₂ ≡ length marks
          → PutBy entries lines w₁ marks slots (entry + 1) (start + at) k (view + done) m (top + at) w₂ marks₂ → At w₂ marks₂ (at + k) (done + m)
      item_next {w₂} {marks₂} long₂ longer y =
          let b = begun.room.below in
          let c = item_fits in
          let two = begun.two in
          let f₁ : take top w₁ ≡ take top w₀ = frame_less w w₁ (top + 128) top x.frame (omega arith) ∙ g.frame in
          record {
            most = omega arith;
            few = c;
            frame = frame_less w₁ w₂ (top + at) top y.frame (omega arith) ∙ f₁;
            long = long₂ ∙ (x.kept ∙ g.long);
            marks_long = longer ∙ g.marks_long;
            shown = λ X q st.
                let a = item_shown X q st in
                let z = (sizes X q st).0 in
                let s = a.5 in
                (a.2, a.1, a.4, (let d : length a.1.value ≡ vlen - (done + m) = omega arith in d));
            goes = λ texts ss us i u X q st.
                let s = g.goes texts ss us i u X q st in
                let view-left = (holds_cut {a = done} {b = vlen - done} (omega arith) (omega arith) i).1 in
                let view-here = (holds_cut {a = m} {b = vlen - done - m} (omega arith) (omega arith) view-left).0 in
                let j = put_by y (holds_frame top f₁ (omega arith) view-here) s.3 X q st in
                let ended = holds_length j.source (omega arith) in (
                  s.0 ++ _,
                  _,
                  holds_join refl (holds_frame (top + at) y.frame (omega arith) (holds_frame (top + 128) x.frame (omega arith) s.2)) j.source,
                  j.slots_hold,
                  s.4 ∙ (ap (λ (is : List Value). behind s.0 (over (lookup_of lines) X (slots_at (made_by entries) w₀ slots) is (drop done ss) s.1)) cut_items
                      ∙ (next_rule (lookup_of lines) X (slots_at (made_by entries) w₀ slots) _ item _ (rest (at + k)) m
                      s.0 (drop done ss) s.1 (slots_frame (made_by entries) w₀ w₁ begun.room.bound f₁)
                      (value_frame (made_by entries) w₀ w₁ top (start + at) k f₁ (omega arith)) (item_size X q st)
                      (ended ∙ sym (length_value (made_by entries) w₀ (start + at) k (omega arith)))
                      ∙ rw (drop-drop m done ss))),
                );
          }
