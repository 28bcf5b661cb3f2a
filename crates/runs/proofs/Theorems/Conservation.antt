-- The conservation law. For every entry, slots and source on which showing succeeds, and every master number n: what is handed back for n,
-- in the source and in the slots, is what the view says of n, what the slots had, and locked if n was compared, all merged.
use Rattle.std.specs.Prelude.{◌≡◌, Bool, cond, ◌||◌, ℕ, ◌+◌, eqb, drop}
use Rattle.std.proofs.Math.Path.{refl, sym, ap}
use Rattle.std.proofs.Common.{subst, ◌∙◌}
use Rattle.std.proofs.Math.Bool.{true, false}
use mathlib.Core.List.{List, [], ◌∷◌, ◌++◌, map}
use Rattle.std.proofs.Math.ListN.{length, take}
use Rattle.lines.specs.Texts.{same_text}
use Rattle.lines.specs.Theorems.Bools.{or_unit, or_assoc}
use Rattle.values.specs.Values.{Origin, master, program, Node, Value, Lookup, element_of, bytes_of, is_from, master_number, among, made, lowered, raised, items, joined}
use Rattle.values.specs.Standings.{Standing, untouched, locked, ◌⋓◌, first_of, rest_of, all_over, merged, gathered}
use Rattle.values.proofs.Theorems.MergeLaws.{unit_left, unit_right, merge_idem, merge_comm, merge_assoc, merge_left_comm}
use Rattle.values.proofs.Theorems.Gathering.{only, only_untouched, gathered_untouched, gathered_merged, gathered_cut}
use Rattle.values.proofs.Theorems.Gathering.{gathered_take, gathered_fitted, gathered_lowered, gathered_raised}
use Rattle.values.specs.Theorems.Items.{joined_items}
use Rattle.runs.specs.declared.stop.Stop.{Stop}
use Rattle.runs.specs.Results.{Result, gives}
use Rattle.runs.specs.Programs.{Transformation, source, nothing, text, tag, slot, contents, within, and_then, beside, each, choose, bind, Test, compares, tagged, is_element}
use Rattle.runs.specs.Showing.{Slots, value_in, Shown, Answer, one_top, one_element, one_text, in_turn, verdict, show, test}
use Rattle.runs.specs.PuttingBack.{SlotStandings, first_slot, rest_slots, merged_into, untouched_slots, gathered_slots}
use Rattle.runs.specs.PuttingBack.{Back, back, value_of, says_yes, inside, over_items, put_back, put_back_test}
use Rattle.runs.specs.Theorems.Combinators.{Run, Asking, Putting, source_run, made_run, slot_run, contents_run, within_run, then_run}
use Rattle.runs.specs.Theorems.Combinators.{beside_run, each_run, branch_run, choose_run, bound, bind_run, compares_ask, plain_ask}
use Rattle.runs.specs.Theorems.Combinators.{source_put, made_put, slot_put, contents_put, within_put, then_put, beside_put}
use Rattle.runs.specs.Theorems.Combinators.{items_put, each_put, branch_put, choose_put, bind_put, compares_put}
use Rattle.runs.specs.Theorems.Inversion.{on_gives, on_bind, on_element, on_text, on_bounded, on_turn, on_pair}

-- ## Locks

-- locked, if n was compared
abbrev pub lock : ℕ → List ℕ → Standing
lock n c = only (among n c) locked

pub among_append : (n : ℕ) (c d : List ℕ) → among n (c ++ d) ≡ (among n c || among n d)
unfolding among
among_append n [] d = refl
among_append n (m ∷ c) d = rw (among_append n c d) (or_assoc (eqb n m) (among n c) (among n d))

pub lock_append : (n : ℕ) (c d : List ℕ) → lock n (c ++ d) ≡ lock n c ⋓ lock n d
lock_append n c d = rw (among_append n c d) (either (among n c) (among n d))
  where
    either : (a b : Bool) → only (a || b) locked ≡ only a locked ⋓ only b locked
    either true true = sym (merge_idem locked)
    either true false = sym (unit_right locked)
    either false b = sym (unit_left (only b locked))

pub lock_number : (n : ℕ) (o : Origin) → lock n (master_number o) ≡ only (is_from n o) locked
unfolding among master_number is_from
lock_number n (master m) = ap (λ (b : Bool). only b locked) (or_unit (eqb n m))
lock_number n (program e b t) = refl

-- ## The slots

module _ (n : ℕ) where
  pub slots_untouched : (slots : Slots) → gathered_slots n slots (untouched_slots slots) ≡ untouched
  unfolding gathered_slots untouched_slots
  slots_untouched [] = refl
  slots_untouched (b ∷ slots) = rw (gathered_untouched n b.value b.value, slots_untouched slots) (unit_left untouched)

  -- a slot takes in what is merged into it
  slot_takes : (k : ℕ) (slots : Slots) (ss : List Standing) (us : SlotStandings)
      → gathered_slots n slots (merged_into k slots ss us) ≡ gathered n (value_in k slots) ss ⋓ gathered_slots n slots us
  unfolding gathered_slots merged_into value_in gathered
  slot_takes k [] ss us = sym (unit_left untouched)
  slot_takes k (b ∷ slots) ss us = go (eqb k b.byte) (slot_takes k slots ss (rest_slots us))
    where
      go : (t : Bool) → gathered_slots n slots (merged_into k slots ss (rest_slots us)) ≡ gathered n (value_in k slots) ss ⋓ gathered_slots n slots (rest_slots us)
          → gathered_slots n (b ∷ slots) (cond t (merged (first_slot us) ss ∷ rest_slots us) (first_slot us ∷ merged_into k slots ss (rest_slots us)))
          ≡ gathered n (cond t b.value (value_in k slots)) ss ⋓ gathered_slots n (b ∷ slots) us
      go true h =
          rw (gathered_merged n b.value (first_slot us) ss)
          (merge_assoc (gathered n b.value (first_slot us)) (gathered n b.value ss) (gathered_slots n slots (rest_slots us))
          ∙ merge_left_comm (gathered n b.value (first_slot us)) (gathered n b.value ss) (gathered_slots n slots (rest_slots us)))
      go false h = rw h (merge_left_comm (gathered n b.value (first_slot us)) (gathered n (value_in k slots) ss) (gathered_slots n slots (rest_slots us)))

-- ## The law

-- of one call: b was handed back over v, o had been shown, the view had ss and the slots us
abbrev pub Kept : ℕ → Slots → Value → Back → Shown → List Standing → SlotStandings → Type 0
Kept n slots v b o ss us =
    gathered n v b.in_source ⋓ gathered_slots n slots b.in_slots ≡ gathered n o.value ss ⋓ gathered_slots n slots us ⋓ lock n o.compared

abbrev pub Law : ℕ → Run → Putting → Type 0
Law n run put = (slots : Slots) (v : Value) (o : Shown) → run slots v ≡ gives o → (ss : List Standing) (us : SlotStandings) → Kept n slots v (put slots v ss us) o ss us

-- a test shows its source as it is
abbrev pub TestLaw : ℕ → Asking → Putting → Type 0
TestLaw n ask put =
    (slots : Slots) (v : Value) (p : Answer) → ask slots v ≡ gives p → (ss : List Standing) (us : SlotStandings)
    → Kept n slots v (put slots v ss us) (record { value = v; compared = p.compared }) ss us

-- ## Calls put together

-- one after the other: the second over what the first showed
kept_then : (n : ℕ) (slots : Slots) (v : Value) (A B : Back) (a c : Shown) (ss : List Standing) (us : SlotStandings)
    → Kept n slots v A a B.in_source B.in_slots → Kept n slots a.value B c ss us
    → Kept n slots v A (record { value = c.value; compared = a.compared ++ c.compared }) ss us
kept_then n slots v A B a c ss us p q =
    rw (p, q, lock_append n a.compared c.compared) (turn (gathered n c.value ss ⋓ gathered_slots n slots us) (lock n c.compared) (lock n a.compared))
  where
    turn : (s t u : Standing) → s ⋓ t ⋓ u ≡ s ⋓ (u ⋓ t)
    turn s t u = merge_assoc s t u ∙ ap (λ (z : Standing). s ⋓ z) (merge_comm t u)

-- two parts of a view, the second put back into the slots that the first left: e what the slots had, e₁ and e₂ after each
two_parts : (s₁ s₂ v₁ v₂ e e₁ e₂ l₁ l₂ : Standing) → s₁ ⋓ e₁ ≡ v₁ ⋓ e ⋓ l₁ → s₂ ⋓ e₂ ≡ v₂ ⋓ e₁ ⋓ l₂ → (s₁ ⋓ s₂) ⋓ e₂ ≡ (v₁ ⋓ v₂) ⋓ e ⋓ (l₁ ⋓ l₂)
two_parts s₁ s₂ v₁ v₂ e e₁ e₂ l₁ l₂ p q =
    merge_assoc s₁ s₂ e₂ ∙ ap (λ (z : Standing). s₁ ⋓ z) q ∙ regroup s₁ v₂ e₁ l₂
    ∙ ap (λ (z : Standing). z ⋓ (v₂ ⋓ l₂)) p ∙ settle v₁ e l₁ v₂ l₂
  where
    regroup : (s v e l : Standing) → s ⋓ (v ⋓ e ⋓ l) ≡ (s ⋓ e) ⋓ (v ⋓ l)
    regroup s v e l = simp (merge_assoc, merge_left_comm)

    settle : (v e l w k : Standing) → v ⋓ e ⋓ l ⋓ (w ⋓ k) ≡ (v ⋓ w) ⋓ e ⋓ (l ⋓ k)
    settle v e l w k = simp (merge_assoc, merge_left_comm)

-- ## One lemma a combinator, over any runs that keep the law

module _ (n : ℕ) where
  source_keeps : Law n source_run source_put
  unfolding among
  source_keeps slots v o h ss us =
      on_gives (λ z. Kept n slots v (back ss us) z ss us) (record { value = v; compared = [] }) o h (sym (unit_right (gathered n v ss ⋓ gathered_slots n slots us)))

  -- nothing of the master is shown
  made_keeps : (w : Value) → ((ss : List Standing) → gathered n w ss ≡ untouched) → Law n (made_run w) made_put
  unfolding among
  made_keeps w none slots v o h ss us =
      on_gives (λ z. Kept n slots v (made_put slots v ss us) z ss us) (record { value = w; compared = [] }) o h
      (rw (none ss, gathered_untouched n v v) (sym (unit_right (untouched ⋓ gathered_slots n slots us))))

  slot_keeps : (k : ℕ) → Law n (slot_run k) (slot_put k)
  unfolding among
  slot_keeps k slots v o h ss us =
      let all = gathered n (value_in k slots) ss ⋓ gathered_slots n slots us in
      on_gives (λ z. Kept n slots v (slot_put k slots v ss us) z ss us) (record { value = value_in k slots; compared = [] }) o h
      (rw (gathered_untouched n v v, slot_takes n k slots ss us) (unit_left all ∙ sym (unit_right all)))

  contents_keeps : (look : Lookup) (e : ℕ) → Law n (contents_run look e) contents_put
  unfolding among gathered
  contents_keeps look e slots v o h ss us =
      on_bind (one_element look e v) _ o h λ x q h₁.
      on_gives (λ z. Kept n slots v (contents_put slots v ss us) z ss us) (record { value = x.inner; compared = [] }) o h₁
      (on_element look (λ w z. Kept n slots w (contents_put slots w ss us) (record { value = z.inner; compared = [] }) ss us)
      (λ y w _ _.
      rw (only_untouched (is_from n y.origin), gathered_lowered n w ss, unit_left (gathered n w ss)) (sym (unit_right (gathered n w ss ⋓ gathered_slots n slots us))))
      e v x q)

  within_keeps : (look : Lookup) (e : ℕ) (run : Run) (put : Putting) → Law n run put → Law n (within_run look e run) (within_put put)
  unfolding gathered inside
  within_keeps look e run put keeps slots v o h ss us =
      on_bind (one_element look e v) _ o h λ x q h₁.
      on_bind (run slots x.inner) _ o h₁ λ a r h₂.
      on_bounded (λ z. Kept n slots v (within_put put slots v ss us) z ss us) e (x.top ∷ raised a.value) a.compared o h₂ λ _.
      on_element look
      (λ w z. run slots z.inner ≡ gives a
      → Kept n slots w (within_put put slots w ss us) (record { value = z.top ∷ raised a.value; compared = a.compared }) ss us)
      (λ y w _ _ r.
      let A = put slots (lowered w) (rest_of ss) us in
      let own = only (is_from n y.origin) (first_of ss) in
      rw (gathered_raised n a.value (rest_of ss), ← (gathered_lowered n w A.in_source))
      (merge_assoc own (gathered n (lowered w) A.in_source) (gathered_slots n slots A.in_slots)
      ∙ ap (λ (z : Standing). own ⋓ z) (keeps slots (lowered w) a r (rest_of ss) us)
      ∙ inward own (gathered n a.value (rest_of ss)) (gathered_slots n slots us) (lock n a.compared)))
      e v x q r
    where
      inward : (p s t u : Standing) → p ⋓ (s ⋓ t ⋓ u) ≡ p ⋓ s ⋓ t ⋓ u
      inward p s t u = simp merge_assoc

  then_keeps : (f g : Run) (f' g' : Putting) → Law n f f' → Law n g g' → Law n (then_run f g) (then_put f f' g')
  unfolding value_of
  then_keeps f g f' g' F G slots v o h ss us =
      on_bind (f slots v) _ o h λ a p h₁.
      on_bind (g slots a.value) _ o h₁ λ c q h₂.
      let B = g' slots a.value ss us in
      on_gives (λ z. Kept n slots v (then_put f f' g' slots v ss us) z ss us) (record { value = c.value; compared = a.compared ++ c.compared }) o h₂
      (rw (p, then_put) (kept_then n slots v (f' slots v B.in_source B.in_slots) B a c ss us (F slots v a p B.in_source B.in_slots) (G slots a.value c q ss us)))

  -- X2 is put back first, and X1 into the slots that it leaves
  beside_keeps : (e : ℕ) (f g : Run) (f' g' : Putting) → Law n f f' → Law n g g' → Law n (beside_run e f g) (beside_put f g f' g')
  unfolding value_of
  beside_keeps e f g f' g' F G slots v o h ss us =
      on_pair (λ z. Kept n slots v (beside_put f g f' g' slots v ss us) z ss us) e (f slots v) (g slots v) o h λ a c p q _.
      let j = length a.value in
      let cut = take (length c.value) (drop j ss) in
      let B = g' slots v cut us in
      let A = f' slots v (take j ss) B.in_slots in
      let sA = gathered n v A.in_source in
      let sB = gathered n v B.in_source in
      let vA = gathered n a.value (take j ss) in
      let vB = gathered n c.value cut in
      rw (
        p,
        q,
        gathered_merged n v A.in_source B.in_source,
        gathered_cut n a.value c.value ss,
        ← (gathered_take n c.value (drop j ss)),
        lock_append n a.compared c.compared,
        merge_comm sA sB,
        merge_comm vA vB,
        merge_comm (lock n a.compared) (lock n c.compared),
      )
      (two_parts sB sA vB vA (gathered_slots n slots us) (gathered_slots n slots B.in_slots) (gathered_slots n slots A.in_slots) (lock n c.compared) (lock n a.compared)
      (G slots v c q cut us) (F slots v a p (take j ss) B.in_slots))

  items_keep : (e : ℕ) (run : Run) (put : Putting) → Law n run put → (slots : Slots) (is : List Value) (m : ℕ) (o : Shown)
      → in_turn e m (map (run slots) is) ≡ gives o → (ss : List Standing) (us : SlotStandings) → Kept n slots (joined is) (items_put run put is slots ss us) o ss us
  unfolding joined over_items value_of in_turn gathered among
  items_keep e run put keeps slots [] m o h ss us =
      on_gives (λ z. Kept n slots [] (back [] us) z ss us) (record { value = []; compared = [] }) o h (sym (unit_right (untouched ⋓ gathered_slots n slots us)))
  items_keep e run put keeps slots (i ∷ is) m o h ss us =
      on_turn (λ z. Kept n slots (i ++ joined is) (items_put run put (i ∷ is) slots ss us) z ss us) e m (run slots i) (map (run slots) is) o h λ a c p _ q.
      let j = length a.value in
      let A = put slots i (take j ss) us in
      let B = items_put run put is slots (drop j ss) A.in_slots in
      rw (p, gathered_fitted n i (joined is) A.in_source B.in_source, gathered_cut n a.value c.value ss, lock_append n a.compared c.compared)
      (two_parts (gathered n i A.in_source) (gathered n (joined is) B.in_source) (gathered n a.value (take j ss)) (gathered n c.value (drop j ss))
      (gathered_slots n slots us) (gathered_slots n slots A.in_slots) (gathered_slots n slots B.in_slots) (lock n a.compared) (lock n c.compared)
      (keeps slots i a p (take j ss) us) (items_keep e run put keeps slots is (m + j) c q (drop j ss) A.in_slots))

  each_keeps : (e : ℕ) (run : Run) (put : Putting) → Law n run put → Law n (each_run e run) (each_put run put)
  each_keeps e run put keeps slots v o h ss us =
      subst (λ (w : Value). Kept n slots w (each_put run put slots v ss us) o ss us) (joined_items v) (items_keep e run put keeps slots (items v) 0 o h ss us)

  bind_keeps : (k : ℕ) (run : Run) (put : Putting) → Law n run put → Law n (bind_run k run) (bind_put k put)
  unfolding gathered gathered_slots
  bind_keeps k run put keeps slots v o h ss us =
      let b = put (bound k slots v) [] ss (all_over untouched v ∷ us) in
      sym (unit_left (gathered_slots n (bound k slots v) b.in_slots)) ∙ keeps (bound k slots v) [] o h ss (all_over untouched v ∷ us)
      ∙ rw (gathered_untouched n v v, unit_left (gathered_slots n slots us))

  branch_keeps : (t : Bool) (f g : Run) (f' g' : Putting) → Law n f f' → Law n g g' → Law n (branch_run t f g) (branch_put t f' g')
  branch_keeps true f g f' g' F G = F
  branch_keeps false f g f' g' F G = G

  choose_keeps : (ask : Asking) (t' : Putting) (f g : Run) (f' g' : Putting) → TestLaw n ask t' → Law n f f' → Law n g g'
      → Law n (choose_run ask f g) (choose_put ask t' f' g')
  unfolding says_yes
  choose_keeps ask t' f g f' g' T F G slots v o h ss us =
      on_bind (ask slots v) _ o h λ p q h₁.
      on_bind (branch_run p.yes f g slots v) _ o h₁ λ a r h₂.
      let B = branch_put p.yes f' g' slots v ss us in
      on_gives (λ z. Kept n slots v (choose_put ask t' f' g' slots v ss us) z ss us) (record { value = a.value; compared = p.compared ++ a.compared }) o h₂
      (rw (q, choose_put) (kept_then n slots v (t' slots v B.in_source B.in_slots) B (record { value = v; compared = p.compared }) a ss us
      (T slots v p q B.in_source B.in_slots) (branch_keeps p.yes f g f' g' F G slots v a r ss us)))

  -- ## Tests

  -- locking a text locks its number
  text_locked : (look : Lookup) (e : ℕ) (v : Value) (x : Node) → one_text look e v ≡ gives x
      → (gathered n v (all_over locked v) ≡ lock n (master_number x.origin)) × (gathered n v (locked ∷ []) ≡ lock n (master_number x.origin))
  unfolding gathered all_over
  text_locked look e v x h =
      on_text look (λ w y. (gathered n w (all_over locked w) ≡ lock n (master_number y.origin)) × (gathered n w (locked ∷ []) ≡ lock n (master_number y.origin)))
      (λ y _. let l = unit_right (only (is_from n y.origin) locked) ∙ sym (lock_number n y.origin) in (l, l)) e v x h

  compares_keeps : (look : Lookup) (judge : List ℕ → List ℕ → Result Stop Bool) (e : ℕ) (run : Run) (put : Putting) → Law n run put
      → TestLaw n (compares_ask look judge e run) (compares_put put)
  unfolding gathered
  compares_keeps look judge e run put keeps slots v o h rs us =
      on_bind (one_text look e v) _ o h λ x p h₁.
      on_bind (run slots []) _ o h₁ λ a q h₂.
      on_bind (one_text look e a.value) _ o h₂ λ y r h₃.
      on_bind (judge (bytes_of look x.origin) (bytes_of look y.origin)) _ o h₃ λ b _ h₄.
      let A = put slots [] (locked ∷ []) us in
      let ours = master_number x.origin in
      let theirs = master_number y.origin in
      on_gives (λ z. Kept n slots v (compares_put put slots v rs us) (record { value = v; compared = z.compared }) rs us)
      (record { yes = b; compared = a.compared ++ (ours ++ theirs) }) o h₄
      (rw (gathered_merged n v rs (all_over locked v), (text_locked look e v x p).0, lock_append n a.compared (ours ++ theirs), lock_append n ours theirs)
      (ap (λ (z : Standing). gathered n v rs ⋓ lock n ours ⋓ z)
      (sym (unit_left (gathered_slots n slots A.in_slots)) ∙ keeps slots [] a q (locked ∷ []) us ∙ rw (text_locked look e a.value y r).1)
      ∙ settle (gathered n v rs) (lock n ours) (lock n theirs) (gathered_slots n slots us) (lock n a.compared)))
    where
      settle : (s x y e l : Standing) → s ⋓ x ⋓ (y ⋓ e ⋓ l) ≡ s ⋓ e ⋓ (l ⋓ (x ⋓ y))
      settle s x y e l = simp (merge_assoc, merge_comm, merge_left_comm)

  -- 12 and 13 compare nothing
  plain_keeps : {A : Type 0} (need : Value → Result Stop A) (says : A → Bool) → TestLaw n (plain_ask need says) source_put
  unfolding among
  plain_keeps need says slots v o h rs us =
      on_bind (need v) _ o h λ x _ h₁.
      on_gives (λ z. Kept n slots v (back rs us) (record { value = v; compared = z.compared }) rs us) (record { yes = says x; compared = [] }) o h₁
      (sym (unit_right (gathered n v rs ⋓ gathered_slots n slots us)))

-- ## The law

module _ (look : Lookup) (n : ℕ) where
  -- nothing that the program makes comes from the master
  made_none : (e : ℕ) (b : Bool) (t : List ℕ) (ss : List Standing) → gathered n (made e b t ∷ []) ss ≡ untouched
  unfolding gathered is_from
  made_none e b t ss = unit_left untouched

  nothing_none : (ss : List Standing) → gathered n [] ss ≡ untouched
  unfolding gathered
  nothing_none ss = refl

  mutual
    unfolding show put_back

    pub law : (X : Transformation) → Law n (show look X) (put_back look X)
    law (source e) = source_keeps n
    law (nothing e) = made_keeps n [] nothing_none
    law (text e b) = made_keeps n (made e false b ∷ []) (made_none e false b)
    law (tag e b) = made_keeps n (made e true b ∷ []) (made_none e true b)
    law (slot e k) = slot_keeps n k
    law (contents e) = contents_keeps n look e
    law (within e X) = within_keeps n look e (show look X) (put_back look X) (law X)
    law (and_then e X Y) = then_keeps n (show look X) (show look Y) (put_back look X) (put_back look Y) (law X) (law Y)
    law (beside e X Y) = beside_keeps n e (show look X) (show look Y) (put_back look X) (put_back look Y) (law X) (law Y)
    law (each e X) = each_keeps n e (show look X) (put_back look X) (law X)
    law (choose e P X Y) =
        choose_keeps n (test look P) (put_back_test look P) (show look X) (show look Y) (put_back look X) (put_back look Y) (test_law P) (law X) (law Y)
    law (bind e k X) = bind_keeps n k (show look X) (put_back look X) (law X)

    pub test_law : (P : Test) → TestLaw n (test look P) (put_back_test look P)
    test_law (compares e c X) = compares_keeps n look (verdict c e) e (show look X) (put_back look X) (law X)
    test_law (tagged e t) = plain_keeps n (one_element look e) (λ x. same_text (bytes_of look x.top.origin) t)
    test_law (is_element e) = plain_keeps n (one_top e) (λ x. element_of look x.top.origin)
